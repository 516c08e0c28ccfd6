use mathlib.Core.Path.{refl, sym, ◌∙◌, ap, subst}
use Prim.Native.Nat.{ℕ, ◌+◌}
use native.Mathlib.Omega.{arith}
use lib.ListN.{length, set}
use Rattle.shuffle.specs.Shuffled.{outcome}
use Rattle.shuffle.proofs.Filling.{LaidBack, back_none, back_next, back_all}
use Rattle.shuffle.proofs.Inverse.{unshuffle_accepted, unshuffle_refused}
use Rattle.shuffle.proofs.unshuffle.Goals as goal
use Rattle.std.specs.Prelude.{Ok}

pub returns-then-bytes-k : goal.returns-then-bytes-k
returns-then-bytes-k c = sym (unshuffle_refused _ _ c.if-bytes-k.true)

pub loop-i-init : goal.loop-i-init
loop-i-init c = back_none _ _ _ refl

pub figure_at-requires : goal.figure_at-requires
figure_at-requires c = record { within = c.loop-i-test.true; places = c.if-bytes-k.false }

pub bounds-own-i : goal.bounds-own-i
bounds-own-i c = omega (arith, c.loop-i.invariant.size)

pub loop-i-preserved : goal.loop-i-preserved
loop-i-preserved c =
    let a = c.args in
    let k = length a.own.now in
    let next = back_next k a.bytes.now c.loop-i.own c.loop-i.i (omega arith) c.loop-i.invariant in
    subst (λ (x : ℕ). LaidBack k a.bytes.now (set c.loop-i.own c.loop-i.i x) (c.loop-i.i + 1)) (sym c.figure_at.ensures) next

pub shape_of-own : goal.shape_of-own
shape_of-own c = c.loop-i.invariant.size

pub returns : goal.returns
returns c =
    ap (outcome (Ok tt)) (back_all _ _ _ _ c.loop-i-test.false c.loop-i.invariant) ∙ sym (unshuffle_accepted _ _ c.if-bytes-k.false)
