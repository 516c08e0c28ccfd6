-- `topological::key_in_order` meets its contract: the tail is read as the span says. Assumes nothing.
use mathlib.Core.Path.{sym, ◌∙◌, ap, subst}
use mathlib.Core.Bool.{true}
use mathlib.Core.List.{List}
use Prim.Native.Nat.{ℕ, ◌*◌}
use native.Mathlib.Omega.{arith}
use borrow.Author.Rules.{rules}
use Rattle.weights.specs.Measures.{algebra}
use Rattle.provenance.specs.Labelling.{offer_of}
use Rattle.columns.specs.Columns.{cell}
use Rattle.queue.specs.Keys.{key_of}
use Rattle.offers.specs.Passing.{Passable}
use Rattle.topological.proofs.Passing.{bought_fits, bought}
use Rattle.topological.proofs.key_in_order.Goals as goal

pub offset_bounds-own-i : goal.offset_bounds-own-i
offset_bounds-own-i c = search (rules, c.requires.own)

pub bounds-own-i : goal.bounds-own-i
bounds-own-i c = c.requires.own

pub overflow_mul-size : goal.overflow_mul-size
overflow_mul-size c = omega (arith, c.requires.numbered)

pub overflow_add-size : goal.overflow_add-size
overflow_add-size c = omega (arith, c.requires.numbered)

pub offset_bounds-spans-i : goal.offset_bounds-spans-i
offset_bounds-spans-i c = omega (arith, c.requires.numbered)

pub bounds-spans-i : goal.bounds-spans-i
bounds-spans-i c = c.requires.placed.span

pub pack-requires : goal.pack-requires
pack-requires c = bought_fits c.requires.figure c.requires.numbered

pub returns-then-size-eq0 : goal.returns-then-size-eq0
returns-then-size-eq0 c =
    let a = c.args in
    let offset = cell a.spans.now (2 * a.e.0) in
    c.pack.ensures
    ∙ ap (key_of a.measure) (bought a.measure (cell a.weights.now) (cell a.depths.now) offset a.tails.now c.requires.figure c.if-size-eq0.true)

pub tail_of-tail-requires : goal.tail_of-tail-requires
tail_of-tail-requires c = c.requires.placed

pub candidate-requires : goal.candidate-requires
candidate-requires c =
    (subst (λ (t : List ℕ). Passable t c.args.weights.now c.args.depths.now) (sym c.tail_of-tail.ensures) c.requires.tail, c.requires.numbered)

pub returns : goal.returns
returns c =
    let a = c.args in
    let own = cell a.own.now a.e.0 in
    let w = cell a.weights.now in
    let d = cell a.depths.now in
    c.candidate.ensures ∙ ap (λ (x : List ℕ). key_of a.measure (offer_of (algebra a.measure) true own x w d a.e.0)) c.tail_of-tail.ensures
