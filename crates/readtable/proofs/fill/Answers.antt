use mathlib.Core.Path.{sym, ◌∙◌}
use native.Mathlib.Omega.{arith}
use Rattle.text.proofs.Sound.{never}
use Rattle.reading.proofs.Scanned.{scan_is_parse}
use Rattle.reading.proofs.Scanning.{scan_unopened, scan-begun, scan_begun_edges}
use Rattle.reading.proofs.Laws.{opened, unopened}
use Rattle.readtable.proofs.Laws.{filling_none, rooms, never_refused, filling_next, filling_end}
use Rattle.readtable.proofs.fill.Goals as goal

-- the first line is right
pub returns-in_default : goal.returns-in_default
returns-in_default c =
    let f = unopened _ _ (sym c.in_default.is ∙ c.first_line.ensures) in
    absurd (never (sym (scan_unopened c.args.text.now _ f.1) ∙ scan_is_parse c.args.text.now ∙ c.requires.whole))

pub loop-at-init : goal.loop-at-init
loop-at-init c =
    let e = opened _ _ (sym c.in-Ok.is ∙ c.first_line.ensures) in
    let f = filling_none _ _ _ _ (scan-begun _ _ _ _ e) c.args.heads.now c.args.own.now c.args.strikes.now c.args.spans.now c.args.tails.now (scan_begun_edges _ _ _ _ e) in
    record { filling = f; rooms = rooms f c.requires }

-- no line is refused
pub shape_of-tails-in_default-line_at : goal.shape_of-tails-in_default-line_at
shape_of-tails-in_default-line_at c =
    absurd (never_refused _ _ _ _ _ _ _ _ _ _ _ _ _ _ _ c.loop-at.invariant.filling c.requires c.loop-at-test.true _ _ _ c.line_at.ensures _ c.in_default-line_at.is)

pub returns-in_default-line_at : goal.returns-in_default-line_at
returns-in_default-line_at c =
    absurd (never_refused _ _ _ _ _ _ _ _ _ _ _ _ _ _ _ c.loop-at.invariant.filling c.requires c.loop-at-test.true _ _ _ c.line_at.ensures _ c.in_default-line_at.is)

pub overflow_add-k : goal.overflow_add-k
overflow_add-k c = let f = (filling_next _ _ _ _ _ _ _ _ _ _ _ _ _ _ _ c.loop-at.invariant.filling c.requires c.loop-at-test.true _ _ _ c.line_at.ensures _ c.in-Ok-line_at.is).1.scanning.few_listed in omega arith

pub loop-at-smaller : goal.loop-at-smaller
loop-at-smaller c = let b = filling_next _ _ _ _ _ _ _ _ _ _ _ _ _ _ _ c.loop-at.invariant.filling c.requires c.loop-at-test.true _ _ _ c.line_at.ensures _ c.in-Ok-line_at.is in let h = b.0 in let w = b.1.scanning.within in omega arith

-- the line is in the columns
pub loop-at-preserved : goal.loop-at-preserved
loop-at-preserved c = let f = (filling_next _ _ _ _ _ _ _ _ _ _ _ _ _ _ _ c.loop-at.invariant.filling c.requires c.loop-at-test.true _ _ _ c.line_at.ensures _ c.in-Ok-line_at.is).1 in record { filling = f; rooms = rooms f c.requires }

pub returns : goal.returns
returns c = filling_end _ _ _ _ _ _ _ _ _ _ _ _ _ _ _ c.loop-at.invariant.filling c.loop-at-test.false
