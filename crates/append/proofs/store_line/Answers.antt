-- `append::store_line` meets its contract: each store is in its place. Assumes nothing.
use mathlib.Core.Path.{refl, ◌∙◌, ap}
use mathlib.Core.List.{List}
use Prim.Native.Nat.{ℕ, ◌+◌}
use native.Mathlib.Omega.{arith}
use lib.ListN.{length-set, get_or, set}
use Rattle.append.proofs.Storing.{none_put, one_put, all_put}
use Rattle.append.proofs.store_line.Goals as goal

pub bounds-spans-i-2 : goal.bounds-spans-i-2
bounds-spans-i-2 c = simp length-set (omega arith)

pub loop-k-init : goal.loop-k-init
loop-k-init c = none_put _ _ _ c.requires.tails

pub loop-k-preserved : goal.loop-k-preserved
loop-k-preserved c =
    let a = c.args in
    let k = c.loop-k.k in
    ap (λ (t : List ℕ). set t (a.end + k) (get_or a.line.now.tail.now k 0)) c.loop-k.invariant ∙ one_put _ _ _ c.requires.tails k c.loop-k-test.true

pub returns : goal.returns
returns c =
    (refl, (refl, (refl, (refl, c.loop-k.invariant ∙ all_put _ _ _ c.requires.tails c.loop-k.k c.loop-k-test.false))))
