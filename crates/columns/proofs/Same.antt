-- The laws of the test whether columns are the same, place for place. Assumes nothing.
use mathlib.Core.Path.{◌≡◌, refl}
use mathlib.Core.Bool.{Bool, true, false, ◌&&◌}
use mathlib.Core.List.{List, [], ◌∷◌}
use Prim.Native.Nat.{ℕ}
use lib.Dec.{eqb}
use lib.Pointwise.{pointwise}
use borrow.Author.Tests.{eqb-true, eq-eqb}
use Rattle.weights.specs.Choice.{pick}
use Rattle.weights.proofs.Choice.{apart, both_true}
use Rattle.columns.specs.Columns.{Answers, Entries}
use Rattle.columns.specs.Same.{equal, same_answers, same_entries}

pub equal_refl : (xs : List ℕ) → equal xs xs ≡ true
unfolding equal
equal_refl [] = refl
equal_refl (x ∷ xs) = rw (eq-eqb x x refl, equal_refl xs)

pub equal-true : (xs ys : List ℕ) → equal xs ys ≡ true → xs ≡ ys
unfolding equal
equal-true [] [] e = refl
equal-true [] (y ∷ ys) e = apart e
equal-true (x ∷ xs) [] e = apart e
equal-true (x ∷ xs) (y ∷ ys) e =
    let t = both_true {a = eqb x y} {b = equal xs ys} e in
    let p = eqb-true x y t.0 in
    let q = equal-true xs ys t.1 in
    λ i. p i ∷ q i

-- so `==` of two slices says
and_pick : (a b : Bool) → (a && b) ≡ pick a b false
and_pick true b = refl
and_pick false b = refl

pub equal_pointwise : (xs ys : List ℕ) → pointwise eqb xs ys ≡ equal xs ys
unfolding equal
equal_pointwise [] [] = refl
equal_pointwise [] (y ∷ ys) = refl
equal_pointwise (x ∷ xs) [] = refl
equal_pointwise (x ∷ xs) (y ∷ ys) = rw (equal_pointwise xs ys, and_pick)

pub same_refl : (a : Answers) → same_answers a a ≡ true
unfolding same_answers
same_refl a = rw (equal_refl a.weights, equal_refl a.depths, equal_refl a.edges)

pub same_true : (a b : Answers) → same_answers a b ≡ true → a ≡ b
unfolding same_answers
same_true a b e =
    let t = both_true {a = equal a.weights b.weights} e in
    let u = both_true {a = equal a.depths b.depths} {b = equal a.edges b.edges} t.1 in
    let p = equal-true a.weights b.weights t.0 in
    let q = equal-true a.depths b.depths u.0 in
    let r = equal-true a.edges b.edges u.1 in
    λ i. record { weights = p i; depths = q i; edges = r i }

pub same_not : (a b : Answers) → ¬ (a ≡ b) → same_answers a b ≡ false
same_not a b n = go (same_answers a b) refl
  where
    go : (x : Bool) → same_answers a b ≡ x → x ≡ false
    go true e = absurd (n (same_true a b e))
    go false e = refl

-- of four columns
pub entries_refl : (a : Entries) → same_entries a a ≡ true
unfolding same_entries
entries_refl a = rw (same_refl a.labels, equal_refl a.pieces)

pub entries_true : (a b : Entries) → same_entries a b ≡ true → a ≡ b
unfolding same_entries
entries_true a b e =
    let t = both_true {a = same_answers a.labels b.labels} {b = equal a.pieces b.pieces} e in
    let p = same_true a.labels b.labels t.0 in
    let q = equal-true a.pieces b.pieces t.1 in
    λ i. record { labels = p i; pieces = q i }

pub entries_not : (a b : Entries) → ¬ (a ≡ b) → same_entries a b ≡ false
entries_not a b n = go (same_entries a b) refl
  where
    go : (x : Bool) → same_entries a b ≡ x → x ≡ false
    go true e = absurd (n (entries_true a b e))
    go false e = refl
