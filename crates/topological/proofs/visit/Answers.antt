use mathlib.Core.Path.{sym, ◌∙◌, ap, subst}
use Prim.Native.Nat.{min}
use native.Mathlib.Omega.{arith}
use Rattle.columns.specs.Columns.{cell}
use Rattle.queue.proofs.Laws.{told_nothing, told_found}
use Rattle.topological.proofs.Linking.{Along, along_first, along_next}
use Rattle.topological.proofs.Visiting.{low, fits, fitting, told, numbered, narrow, further, weighable}
use Rattle.topological.proofs.visit.Goals as goal
use Rattle.std.specs.Prelude.{Some}

pub offset_bounds-first-v : goal.offset_bounds-first-v
offset_bounds-first-v c = omega (arith, low c.requires)

pub bounds-first-v : goal.bounds-first-v
bounds-first-v c = omega (arith, low c.requires, c.requires.linked.wide)

pub loop-l-init : goal.loop-l-init
loop-l-init c = along_first c.args.measure _ _ _ _ c.requires.linked (low c.requires)

pub overflow_cast-number : goal.overflow_cast-number
overflow_cast-number c = omega (arith, narrow c.requires c.loop-l.invariant c.loop-l-test.true)

pub overflow_cast-later : goal.overflow_cast-later
overflow_cast-later c = omega (arith, narrow c.requires c.loop-l.invariant c.loop-l-test.true)

pub offset_bounds-next-l : goal.offset_bounds-next-l
offset_bounds-next-l c = omega (arith, narrow c.requires c.loop-l.invariant c.loop-l-test.true)

pub bounds-next-l : goal.bounds-next-l
bounds-next-l c = omega (arith, numbered c.requires c.loop-l.invariant c.loop-l-test.true, c.requires.linked.long)

pub key_in_order-key-requires : goal.key_in_order-key-requires
key_in_order-key-requires c = weighable c.requires c.loop-l.invariant c.loop-l-test.true

pub loop-l-smaller : goal.loop-l-smaller
loop-l-smaller c = omega (arith, narrow c.requires c.loop-l.invariant c.loop-l-test.true, further c.requires c.loop-l.invariant c.loop-l-test.true)

pub loop-l-preserved : goal.loop-l-preserved
loop-l-preserved c =
    subst (Along c.args.measure _ _ _ c.args.v.0 (cell c.args.next.now c.loop-l.l))
    (sym (c.min-best.ensures ∙ ap (min c.loop-l.best) c.key_in_order-key.ensures))
    (along_next c.args.measure _ _ _ _ c.loop-l.invariant c.requires.linked c.loop-l-test.true (fits c.requires c.args.measure))

pub returns-then-best : goal.returns-then-best
returns-then-best c =
    told_nothing c.args.measure c.loop-l.best (fitting c.requires c.args.measure) (told c.requires c.loop-l.invariant c.loop-l-test.false) c.if-best.true

pub returns : goal.returns
returns c =
    ap Some c.unpack-x.ensures
    ∙ told_found c.args.measure c.loop-l.best (fitting c.requires c.args.measure) (told c.requires c.loop-l.invariant c.loop-l-test.false) c.if-best.false
