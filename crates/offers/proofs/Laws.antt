-- The laws of the definitions by which the loops of a turn go. Assumes nothing.
use mathlib.Core.Path.{◌≡◌}
use mathlib.Core.List.{List}
use mathlib.Core.Bool.{true, false, not}
use Prim.Native.Nat.{ℕ, ◌+◌, ◌≤◌, ◌<◌, max}
use native.Mathlib.Numerals.{add-one}
use native.Mathlib.Omega.{arith}
use lib.ListN.{length, get_or, drop, drop_of_length-le}
use lib.Seq.{drop-cons}
use borrow.Author.Tests.{eq-eqb, ne_eqb}
use Rattle.weights.specs.Figures.{is_struck_mark}
use Rattle.weights.specs.Measures.{Algebra, fold, weigh}
use Rattle.weights.specs.Labels.{label}
use Rattle.provenance.specs.Labelling.{each, greatest_depth, none_zero, offer_of}
use Rattle.offers.specs.Passing.{rest}
use Rattle.std.specs.Prelude.{Some, None}

max_assoc : (a b c : ℕ) → max a (max b c) ≡ max (max a b) c
max_assoc a b c = omega arith

zero-max : (a : ℕ) → max 0 a ≡ a
zero-max a = omega arith

max-zero : (a : ℕ) → max a 0 ≡ a
max-zero a = omega arith

module _ (A : Algebra) (e own : ℕ) (w t : ℕ → ℕ) (j d : ℕ) (tail : List ℕ) (i : ℕ) where
  pub rest_more : i < length tail → ¬ (t (get_or tail i 0) ≡ 0) → rest A e own w t (A.join j (w (get_or tail i 0))) (max d (t (get_or tail i 0))) (drop (i + 1) tail) ≡ rest A e own w t j d (drop i tail)
  unfolding rest none_zero each greatest_depth fold
  rest_more h n = rw (add-one, drop-cons tail i 0 h, ne_eqb _ _ n, max_assoc)

  pub rest_stop : i < length tail → t (get_or tail i 0) ≡ 0 → None ≡ rest A e own w t j d (drop i tail)
  unfolding rest none_zero
  rest_stop h n = rw (drop-cons tail i 0 h, eq-eqb _ _ n)

  pub rest_end : length tail ≤ i → Some (label (A.finish own j) (d + 1) e) ≡ rest A e own w t j d (drop i tail)
  unfolding rest none_zero each greatest_depth fold
  rest_end h = rw (drop_of_length-le tail h, max-zero)

module _ (A : Algebra) (e own mark : ℕ) (w t : ℕ → ℕ) (tail : List ℕ) where
  pub rest_whole : is_struck_mark mark ≡ false → rest A e own w t A.unit 0 tail ≡ offer_of A (not (is_struck_mark mark)) own tail w t e
  unfolding rest offer_of weigh
  rest_whole p = rw (p, zero-max)

  pub struck_nothing : is_struck_mark mark ≡ true → None ≡ offer_of A (not (is_struck_mark mark)) own tail w t e
  unfolding offer_of
  struck_nothing p = rw p
