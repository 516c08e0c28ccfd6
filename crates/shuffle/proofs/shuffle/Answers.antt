use mathlib.Core.Path.{sym, ◌∙◌, ap, subst}
use mathlib.Core.List.{List}
use Prim.Native.Nat.{ℕ, ◌+◌}
use native.Mathlib.Omega.{arith}
use Rattle.shuffle.specs.Shuffled.{outcome}
use Rattle.shuffle.proofs.Filling.{Laid, laid_none, laid_next, laid_all}
use Rattle.shuffle.proofs.Inverse.{shuffle_accepted, shuffle_refused}
use Rattle.shuffle.proofs.shuffle.Goals as goal
use Rattle.std.specs.Prelude.{Ok}

pub returns-then-room-k : goal.returns-then-room-k
returns-then-room-k c = sym (shuffle_refused _ _ c.if-room-k.true)

pub loop-i-init : goal.loop-i-init
loop-i-init c = laid_none _ _ c.if-room-k.false

pub put_bytes_of-requires : goal.put_bytes_of-requires
put_bytes_of-requires c = record { within = c.loop-i-test.true; places = c.loop-i.invariant.size }

pub loop-i-preserved : goal.loop-i-preserved
loop-i-preserved c =
    let own = c.args.own.now in
    let next = laid_next own c.loop-i.room c.loop-i.i (omega arith) c.loop-i.invariant in
    subst (λ (z : List ℕ). Laid own z (c.loop-i.i + 1)) (sym c.put_bytes_of.ensures) next

pub shape_of-room : goal.shape_of-room
shape_of-room c = c.loop-i.invariant.size ∙ sym c.if-room-k.false

pub returns : goal.returns
returns c =
    ap (outcome (Ok tt)) (laid_all _ _ _ c.loop-i-test.false c.loop-i.invariant) ∙ sym (shuffle_accepted _ _ c.if-room-k.false)
