use mathlib.Core.Path.{refl, sym, ◌∙◌}
use native.Mathlib.Omega.{arith}
use lib.ListN.{length-set}
use Rattle.topological.proofs.Linking.{linked_none, linked_after, linked-struck, linked_more}
use Rattle.topological.proofs.link.Goals as goal

pub loop-e-init : goal.loop-e-init
loop-e-init c = (refl, linked_none c.requires)

pub loop-e-preserved-then-not-struck : goal.loop-e-preserved-then-not-struck
loop-e-preserved-then-not-struck c =
    let l = c.loop-e in
    let stands = sym c.is_struck-struck.ensures ∙ c.if-not-struck.true in (
      length-set l.next _ _ ∙ l.invariant.0,
      linked_more _ (linked_after l.invariant.1 (omega arith)) (omega arith) (c.requires.inside _ (omega arith)) stands,
    )

pub loop-e-preserved : goal.loop-e-preserved
loop-e-preserved c =
    let l = c.loop-e in (
      l.invariant.0,
      linked-struck _ (linked_after l.invariant.1 (omega arith)) (omega arith) (sym c.is_struck-struck.ensures ∙ c.if-not-struck.false),
    )
