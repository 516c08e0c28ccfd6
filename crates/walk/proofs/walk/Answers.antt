use mathlib.Core.Path.{◌≡◌, refl, sym, ◌∙◌, ap}
use mathlib.Core.List.{List}
use Prim.Native.Nat.{ℕ, ◌+◌}
use native.Mathlib.Omega.{arith}
use Rattle.columns.specs.Acceptance.{longest_tail}
use Rattle.text.specs.Machine.{Parse, Whole, Wrong, parse}
use Rattle.reading.specs.Lines.{scan}
use Rattle.reading.proofs.Scanned.{scan_is_parse}
use Rattle.reading.proofs.Scanning.{scan_unopened, scan-begun, scan_full, scan_end}
use Rattle.reading.proofs.Laws.{opened, unopened, line_refused, line-next}
use Rattle.walk.specs.Walked.{walked_of}
use Rattle.walk.proofs.walk.Goals as goal

-- what the lines give is where the walk ends
told : (s : List ℕ) (P : Parse) → scan s ≡ P → walked_of P ≡ walked_of (parse s)
told s P e = ap walked_of (sym e ∙ scan_is_parse s)

pub returns-in_default : goal.returns-in_default
returns-in_default g c = told _ (Wrong 1) (scan_unopened _ _ (unopened _ _ (sym c.in_default.is ∙ c.first_line.ensures)).1)

pub loop-at-init : goal.loop-at-init
loop-at-init g c = (_, scan-begun _ _ _ _ (opened _ _ (sym c.in-Ok.is ∙ c.first_line.ensures)))

pub overflow_add-here : goal.overflow_add-here
overflow_add-here g c = let f = c.loop-at.invariant.1.few in omega arith

pub returns-then-full : goal.returns-then-full
returns-then-full g c =
    told _ (Wrong (c.loop-at.edges + 2)) (scan_full _ _ _ _ _ _ c.loop-at.invariant.1 c.loop-at-test.true c.if-full.true)

pub overflow_sub-listed : goal.overflow_sub-listed
overflow_sub-listed g c = c.loop-at.invariant.1.few_listed

pub returns-in_default-line_from : goal.returns-in_default-line_from
returns-in_default-line_from g c =
    let r = line_refused _ _ _ _ _ _ c.loop-at.invariant.1 c.loop-at-test.true c.if-full.false longest_tail refl _ _ c.line_from.ensures _ c.in_default-line_from.is in
    ap walked_of (sym r.2.wrong)

pub overflow_add-edges : goal.overflow_add-edges
overflow_add-edges g c =
    let more = line-next _ _ _ _ _ _ c.loop-at.invariant.1 c.loop-at-test.true c.if-full.false longest_tail refl _ _ c.line_from.ensures _ c.in-Ok-line_from.is in
    let f = more.2.few in omega arith

pub overflow_add-listed : goal.overflow_add-listed
overflow_add-listed g c =
    let more = line-next _ _ _ _ _ _ c.loop-at.invariant.1 c.loop-at-test.true c.if-full.false longest_tail refl _ _ c.line_from.ensures _ c.in-Ok-line_from.is in
    let f = more.2.few_listed in omega arith

pub loop-at-smaller : goal.loop-at-smaller
loop-at-smaller g c =
    let more = line-next _ _ _ _ _ _ c.loop-at.invariant.1 c.loop-at-test.true c.if-full.false longest_tail refl _ _ c.line_from.ensures _ c.in-Ok-line_from.is in
    let n = more in let h = n.0 in let w = n.2.within in omega arith

pub loop-at-preserved : goal.loop-at-preserved
loop-at-preserved g c =
    let more = line-next _ _ _ _ _ _ c.loop-at.invariant.1 c.loop-at-test.true c.if-full.false longest_tail refl _ _ c.line_from.ensures _ c.in-Ok-line_from.is in
    (_, more.2)

pub returns : goal.returns
returns g c = let i = c.loop-at.invariant.1 in told _ (Whole i.so_far) (scan_end _ _ _ _ _ _ i c.loop-at-test.false)
