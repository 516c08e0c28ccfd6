use mathlib.Core.Path.{sym, ◌∙◌, ap, subst}
use Prim.Native.Nat.{ℕ, ◌+◌, max}
use native.Mathlib.Omega.{arith}
use Rattle.weights.specs.Measures.{algebra}
use Rattle.columns.specs.Columns.{cell}
use Rattle.queue.specs.Keys.{key_of}
use Rattle.offers.specs.Passing.{Carried}
use Rattle.offers.proofs.Passing.{unit_light, carried_none, carried_more}
use Rattle.waiting.proofs.Steps.{found_fits}
use Rattle.topological.proofs.Passing.{offer_fits, stops, ended}
use Rattle.topological.proofs.candidate.Goals as goal

pub loop-listed-init : goal.loop-listed-init
loop-listed-init c =
    let a = c.args in
    let A = algebra a.measure in
    let w = cell a.weights.now in
    let d = cell a.depths.now in
    subst (λ (j : ℕ). Carried A w d a.tail.now 0 j 0) (sym c.unit-unit.ensures) (carried_none A w d a.tail.now)

pub offset_bounds-depths-v : goal.offset_bounds-depths-v
offset_bounds-depths-v c = omega (arith, c.requires.0.legible.inside c.loop-listed.listed-index c.loop-listed-test.true)

pub bounds-depths-v : goal.bounds-depths-v
bounds-depths-v c = c.requires.0.legible.inside c.loop-listed.listed-index c.loop-listed-test.true

pub returns-then-depth-eq0 : goal.returns-then-depth-eq0
returns-then-depth-eq0 c = ap (key_of c.args.measure) (stops _ _ _ _ _ _ c.loop-listed.invariant c.loop-listed-test.true c.if-depth-eq0.true)

pub offset_bounds-weights-v : goal.offset_bounds-weights-v
offset_bounds-weights-v c = omega (arith, c.requires.0.legible.inside c.loop-listed.listed-index c.loop-listed-test.true, c.requires.0.legible.level)

pub bounds-weights-v : goal.bounds-weights-v
bounds-weights-v c = omega (arith, c.requires.0.legible.inside c.loop-listed.listed-index c.loop-listed-test.true, c.requires.0.legible.level)

pub joining-joined-requires : goal.joining-joined-requires
joining-joined-requires c =
    let l = c.loop-listed in
    omega (arith, l.invariant.light, unit_light c.args.measure, c.requires.0.light (cell c.args.tail.now l.listed-index), c.requires.0.short, c.loop-listed-test.true)

pub loop-listed-preserved : goal.loop-listed-preserved
loop-listed-preserved c =
    let l = c.loop-listed in
    let A = algebra c.args.measure in
    let w = cell c.args.weights.now in
    let d = cell c.args.depths.now in
    let tail = c.args.tail.now in
    let v = cell tail l.listed-index in
    subst (λ (g : ℕ). Carried A w d tail (l.listed-index + 1) c.joining-joined.result g) (sym c.deeper-deepest.ensures)
    (subst (λ (x : ℕ). Carried A w d tail (l.listed-index + 1) x (max l.deepest (d v))) (sym c.joining-joined.ensures)
    (carried_more c.args.measure w d tail l.listed-index l.joined l.deepest l.invariant c.loop-listed-test.true
    c.if-depth-eq0.false (c.requires.0.legible.shallow v) (c.requires.0.light v)))

pub overflow_add-depth : goal.overflow_add-depth
overflow_add-depth c = omega (arith, c.loop-listed.invariant.shallow)

pub pack-requires : goal.pack-requires
pack-requires c =
    found_fits (offer_fits c.args.measure _ _ _ _ _ _ c.requires.0.legible.shallow c.requires.1) (ended _ _ _ _ _ _ c.loop-listed.invariant c.finish-weight.ensures c.loop-listed-test.false)

pub returns : goal.returns
returns c = c.pack.ensures ∙ ap (key_of c.args.measure) (ended _ _ _ _ _ _ c.loop-listed.invariant c.finish-weight.ensures c.loop-listed-test.false)
