use mathlib.Core.Path.{◌≡◌, sym, ◌∙◌, ap, subst}
use mathlib.Core.Bool.{false}
use Prim.Native.Nat.{ℕ, ◌+◌, max}
use native.Mathlib.Omega.{arith}
use borrow.Author.Tests.{eqb-true}
use Rattle.weights.specs.Figures.{is_struck_mark}
use Rattle.weights.specs.Labels.{label}
use Rattle.weights.specs.Measures.{algebra}
use Rattle.columns.specs.Columns.{cell}
use Rattle.offers.specs.Passing.{Carried}
use Rattle.offers.proofs.Laws.{rest_whole, struck_nothing}
use Rattle.offers.proofs.Passing.{alone, carried_none, carried_more, carried_stop, carried_end}
use Rattle.offers.proofs.candidate.Goals as goal
use Rattle.std.specs.Prelude.{Some}

pub returns-then-is_struck : goal.returns-then-is_struck
returns-then-is_struck c =
    let mark : ℕ = c.args.mark.0 in
    struck_nothing _ _ _ mark _ _ _ (sym c.is_struck.ensures ∙ c.if-is_struck.true)

-- with an empty tail nothing is left to be passed
pub returns-then-is_empty : goal.returns-then-is_empty
returns-then-is_empty c =
    let mark : ℕ = c.args.mark.0 in
    let standing : is_struck_mark mark ≡ false = sym c.is_struck.ensures ∙ c.if-is_struck.false in
    let a = c.args in
    let A = algebra a.measure in
    let none = carried_none A (cell a.weights.now) (cell a.depths.now) a.tail.now in
    ap (λ (z : ℕ). Some (label z 1 a.e.0)) (sym (alone a.measure a.own.0 c.requires.1))
    ∙ carried_end none a.e.0 a.own.0 (omega (arith, eqb-true _ _ (sym c.is_empty.ensures ∙ c.if-is_empty.true)))
    ∙ rest_whole _ _ _ mark _ _ _ standing

pub returns-then-depth-eq0 : goal.returns-then-depth-eq0
returns-then-depth-eq0 c =
    let mark : ℕ = c.args.mark.0 in
    let standing : is_struck_mark mark ≡ false = sym c.is_struck.ensures ∙ c.if-is_struck.false in
    carried_stop c.loop-part.invariant _ _ c.loop-part-test.true c.if-depth-eq0.true ∙ rest_whole _ _ _ mark _ _ _ standing

pub loop-part-preserved : goal.loop-part-preserved
loop-part-preserved c =
    let l = c.loop-part in
    let A = algebra c.args.measure in
    let w = cell c.args.weights.now in
    let d = cell c.args.depths.now in
    let tail = c.args.tail.now in
    let v = cell tail l.part-index in
    subst (λ (g : ℕ). Carried A w d tail (l.part-index + 1) c.joining-joined.result g) (sym c.deeper-deepest.ensures)
    (subst (λ (x : ℕ). Carried A w d tail (l.part-index + 1) x (max l.deepest (d v))) (sym c.joining-joined.ensures)
    (carried_more c.args.measure w d tail l.part-index l.joined l.deepest l.invariant c.loop-part-test.true
    c.if-depth-eq0.false (c.requires.0.legible.shallow v) (c.requires.0.light v)))

pub returns : goal.returns
returns c =
    let mark : ℕ = c.args.mark.0 in
    let standing : is_struck_mark mark ≡ false = sym c.is_struck.ensures ∙ c.if-is_struck.false in
    rw c.finishing-weight.ensures (carried_end c.loop-part.invariant _ _ c.loop-part-test.false ∙ rest_whole _ _ _ mark _ _ _ standing)
