-- A lent column that is filled from its start. The paper's "writes that many places of each column; the rest keep theirs", and "Writing fills the text room
-- from its start …; the room behind it keeps its bytes". Assumes nothing.
use Prim.Native.Nat.{ℕ, suc, ◌+◌, ◌-◌, ◌≤◌, ◌<◌}
use mathlib.Core.Path.{◌≡◌, refl, sym, ◌∙◌, ap, ap₂}
use mathlib.Core.List.{List, [], ◌∷◌, ◌++◌, append_assoc, append-nil}
use native.Mathlib.Numerals.{add-one}
use native.Mathlib.Omega.{arith}
use lib.ListN.{length, get_or, take, drop, set, length-append, length-drop, drop_of_length-le}
use lib.Seq.{take_all, take_at, drop_at, drop-drop, drop-cons, set_at, append_snoc}
use Rattle.columns.specs.Filled.{filled}

pub filled_none : (old : List ℕ) → old ≡ filled [] old
unfolding filled
filled_none old = refl

pub length-filled : (new old : List ℕ) → length new ≤ length old → length (filled new old) ≡ length old
unfolding filled
length-filled new old h = let l = length-append new (drop (length new) old) in let m = length-drop (length new) old in omega arith

-- what was filled, and what was not
pub take-filled : (new old : List ℕ) (n : ℕ) → length new ≡ n → take n (filled new old) ≡ new
unfolding filled
take-filled new old n e = take_at new (drop (length new) old) n e

drop-filled : (new old : List ℕ) (n : ℕ) → length new ≡ n → drop n (filled new old) ≡ drop n old
unfolding filled
drop-filled new old n e = drop_at new (drop (length new) old) n e ∙ ap (λ (z : ℕ). drop z old) e

-- one place more
pub filled-set : (new old : List ℕ) (n v : ℕ) → length new ≡ n → n < length old → set (filled new old) n v ≡ filled (new ++ v ∷ []) old
unfolding filled
filled-set new old n v e h =
    let h' : length new < length old = omega arith in
    let q : length (new ++ v ∷ []) ≡ suc (length new) = length-append new (v ∷ []) ∙ add-one (length new) in
    ap (λ (z : List ℕ). set (new ++ z) n v) (drop-cons old (length new) 0 h')
    ∙ set_at new (get_or old (length new) 0) (drop (suc (length new)) old) v n e
    ∙ sym (append_snoc new v (drop (suc (length new)) old))
    ∙ ap (λ (z : ℕ). (new ++ v ∷ []) ++ drop z old) (sym q)

-- the part behind what was filled, lent on and filled
pub filled_part : (new more old : List ℕ) (n : ℕ) → length new ≡ n → take n (filled new old) ++ filled more (drop n (filled new old)) ≡ filled (new ++ more) old
unfolding filled
filled_part new more old n e =
    let q : n + length more ≡ length (new ++ more) = sym (length-append new more ∙ ap (λ (z : ℕ). z + length more) e) in
    ap₂ (λ (a b : List ℕ). a ++ (more ++ drop (length more) b)) (take-filled new old n e) (drop-filled new old n e)
    ∙ ap (λ (z : List ℕ). new ++ (more ++ z)) (drop-drop (length more) n old ∙ ap (λ (z : ℕ). drop z old) q)
    ∙ sym (append_assoc new more (drop (length (new ++ more)) old))

-- the part from n on, as it is lent and as it comes back
pub part_whole : (xs : List ℕ) (n : ℕ) → take (length xs - n) (drop n xs) ≡ drop n xs
part_whole xs n = take_all (length xs - n) (drop n xs) (let l = length-drop n xs in omega arith)

pub part_back : (xs ys : List ℕ) (n : ℕ) → take n xs ++ (ys ++ drop (length xs - n) (drop n xs)) ≡ take n xs ++ ys
part_back xs ys n =
    let l : length (drop n xs) ≤ length xs - n = let m = length-drop n xs in omega arith in
    ap (λ (z : List ℕ). take n xs ++ (ys ++ z)) (drop_of_length-le (drop n xs) l) ∙ ap (λ (z : List ℕ). take n xs ++ z) (append-nil ys)
