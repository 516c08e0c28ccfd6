-- The sum over a tail, one vertex after the other. Assumes nothing.
use mathlib.Core.Path.{◌≡◌, refl, sym, ◌∙◌, ap}
use mathlib.Core.List.{List, [], ◌∷◌}
use mathlib.Core.Bool.{Bool, true, false}
use Prim.Native.Nat.{ℕ, zero, suc, ◌+◌, ◌*◌, ◌≤◌, ◌<◌, min}
use native.Mathlib.Numerals.{add-one}
use native.Mathlib.Omega.{arith}
use native.Mathlib.Decide.{dec_le}
use lib.ListN.{length, get_or, take, get_or-eq_default}
use lib.Seq.{take-suc, take_all}
use lib.Dec.{leb}
use borrow.Author.Tests.{leb-true, le-leb}
use Rattle.std.specs.Bool.{MatchBool}
use Rattle.std.specs.List.{AllWithin, HoldsAt}
use Rattle.columns.specs.Columns.{cell}
use Rattle.weights.proofs.Choice.{both_true}
use Rattle.provenance.specs.Counting.{total}
use Rattle.provenance.proofs.Counting.{total_append}
use Rattle.provenance.specs.Pieces.{most_pieces, piece_count}
use Rattle.pieces.specs.Counting.{Low, low}

-- the sum of the first i
unfoldable pub sum_to : (p : ℕ → ℕ) → (tail : List ℕ) → ℕ → ℕ
sum_to p tail i = total p (take i tail)

module _ (p : ℕ → ℕ) (tail : List ℕ) where
  pub sum_none : 0 ≡ sum_to p tail 0
  unfolding sum_to total
  sum_none = refl

  pub sum_more : (i : ℕ) → i < length tail → sum_to p tail i + p (get_or tail i 0) ≡ sum_to p tail (i + 1)
  unfolding sum_to total
  sum_more i h =
      let t : total p (take (i + 1) tail) ≡ total p (take i tail) + (p (get_or tail i 0) + 0) =
      ap (λ (k : ℕ). total p (take k tail)) (add-one i) ∙ ap (total p) (take-suc tail i 0 h) ∙ total_append p (take i tail) (get_or tail i 0 ∷ []) in
      omega arith

  pub sum_most : ((v : ℕ) → p v ≤ most_pieces) → (i : ℕ) → i ≤ length tail → sum_to p tail i ≤ i * most_pieces
  sum_most f zero h = omega (arith, sum_none)
  sum_most f (suc i) h = omega (arith, sum_most f i (omega arith), f (get_or tail i 0), sum_more i h, ap (sum_to p tail) (add-one i))

  pub sum-all : (i : ℕ) → ¬ (length tail ≡ 0) → length tail ≤ i → min (sum_to p tail i) most_pieces ≡ piece_count p tail
  unfolding sum_to piece_count
  sum-all i n h = ap (λ (vs : List ℕ). min (total p vs) most_pieces) (take_all i tail h) ∙ go tail n
    where
      go : (vs : List ℕ) → ¬ (length vs ≡ 0) → min (total p vs) most_pieces ≡ piece_count p vs
      go [] n = absurd (n refl)
      go (v ∷ vs) n = refl

  pub count_none : length tail ≡ 0 → 1 ≡ piece_count p tail
  unfolding piece_count
  count_none e = go tail e
    where
      go : (vs : List ℕ) → length vs ≡ 0 → 1 ≡ piece_count p vs
      go [] e = refl
      go (v ∷ vs) e = absurd (omega arith)

-- Whether the counts of a column are low -----------------------------------------------------------------------------------------------------------

pub low_is : (pieces : List ℕ) → low pieces ≡ true → Low pieces
unfolding low
low_is [] e v = omega arith
low_is (p ∷ ps) e zero = leb-true _ _ (both_true {a = leb p most_pieces} {b = low ps} e).0
low_is (p ∷ ps) e (suc v) = low_is ps (both_true {a = leb p most_pieces} {b = low ps} e).1 v

-- a low column passes
pub is_low : (pieces : List ℕ) → Low pieces → low pieces ≡ true
unfolding low
is_low [] f = refl
is_low (p ∷ ps) f = rw (le-leb _ _ (f 0)) (is_low ps (λ v. f (suc v)))

-- all are, or one is not
pub low_cases : (r : Bool) (pieces : List ℕ) → MatchBool r (AllWithin (λ p. p ≤ most_pieces) pieces 0 (length pieces)) ((k : ℕ) × (k < length pieces) × HoldsAt (λ p. most_pieces < p) pieces k)
    → r ≡ low pieces
low_cases true pieces f = sym (is_low pieces (λ v. go v (dec_le (length pieces) v)))
  where
    go : (v : ℕ) → Dec (length pieces ≤ v) → cell pieces v ≤ most_pieces
    go v (yes h) = omega (arith, get_or-eq_default pieces 0 {n = v} h)
    go v (no n) = f v 0 (omega arith) (omega arith)
low_cases false pieces (k, h, f) = go (low pieces) refl
  where
    go : (b : Bool) → low pieces ≡ b → false ≡ b
    go false e = refl
    go true e = absurd (omega (arith, low_is pieces e k, f 0))
