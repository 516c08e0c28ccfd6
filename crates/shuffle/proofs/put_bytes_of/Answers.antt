use mathlib.Core.Path.{refl, sym, ◌∙◌, ap}
use mathlib.Core.List.{List}
use Prim.Native.Nat.{ℕ, ◌+◌, ◌*◌}
use native.Mathlib.Numerals.{add-one}
use native.Mathlib.Omega.{arith}
use lib.ListN.{length, get_or, set, take}
use lib.Seq.{take_all}
use Rattle.shuffle.specs.Places.{spread}
use Rattle.shuffle.proofs.Bytes.{eight_bytes}
use Rattle.shuffle.proofs.Places.{spread_more}
use Rattle.shuffle.proofs.put_bytes_of.Goals as goal

pub loop-p-init : goal.loop-p-init
unfolding spread
loop-p-init c = refl

pub loop-p-preserved : goal.loop-p-preserved
loop-p-preserved c =
    let a = c.args in
    let p = c.loop-p.p in
    let bs = c.to_le_bytes-bytes.result in
    ap (λ (z : List ℕ). set z (p * a.k + a.i) (get_or bs p 0)) c.loop-p.invariant
    ∙ spread_more a.k a.i bs a.room.now p (omega (arith, ap length c.to_le_bytes-bytes.ensures))
    ∙ ap (λ (z : ℕ). spread a.k a.i (take z bs) a.room.now) (sym (add-one p))

pub returns : goal.returns
returns c =
    let a = c.args in
    c.loop-p.invariant
    ∙ ap (λ (z : List ℕ). spread a.k a.i z a.room.now)
    (take_all c.loop-p.p c.to_le_bytes-bytes.result (omega (arith, ap length c.to_le_bytes-bytes.ensures)) ∙ c.to_le_bytes-bytes.ensures ∙ sym (eight_bytes a.figure))
