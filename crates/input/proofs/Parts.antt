-- A buffer that is written from a place on keeps its length. Assumes nothing.
use mathlib.Core.Path.{◌≡◌, ◌∙◌, ap}
use mathlib.Core.List.{List, ◌++◌}
use Prim.Native.Nat.{ℕ, ◌-◌, ◌≤◌}
use native.Mathlib.Omega.{arith}
use lib.ListN.{length, take, drop, length-append, length-drop}
use lib.Seq.{length-take-le}
use Rattle.columns.proofs.Filled.{part_whole, part_back}

pub part_long : (xs ys : List ℕ) (n : ℕ) → n ≤ length xs → length ys ≡ length (take (length xs - n) (drop n xs)) → length (take n xs ++ (ys ++ drop (length xs - n) (drop n xs))) ≡ length xs
part_long xs ys n h e =
    let a = ap length (part_whole xs n) in
    let b = length-drop n xs in
    let d = length-take-le n xs h in
    ap length (part_back xs ys n) ∙ length-append (take n xs) ys ∙ omega arith
