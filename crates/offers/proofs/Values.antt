-- The columns of the lines' values and heights: how they are filled, line by line, and what they hold then. Assumes nothing.
use mathlib.Core.Path.{◌≡◌, refl, sym, ◌∙◌, ap, ap₂}
use mathlib.Core.Bool.{Bool, true, false}
use mathlib.Core.List.{List, [], ◌∷◌, ◌++◌}
use Prim.Native.Nat.{ℕ, zero, suc, ◌+◌, ◌≤◌, ◌<◌}
use native.Mathlib.Numerals.{add-one}
use native.Mathlib.Omega.{arith}
use native.Mathlib.Decide.{ℕ_discrete}
use lib.ListN.{length, get_or, set, drop, length-append, get_or-append}
use Rattle.weights.specs.declared.Measure.{Measure}
use Rattle.weights.specs.Figures.{none}
use Rattle.weights.specs.Measures.{Algebra, weigh}
use Rattle.weights.specs.Choice.{pick}
use Rattle.weights.specs.Labels.{label}
use Rattle.provenance.specs.Labelling.{each, greatest_depth, none_zero, offer_of, value_of, height_of}
use Rattle.columns.specs.Columns.{cell}
use Rattle.columns.specs.Filled.{filled}
use Rattle.columns.proofs.Filled.{filled-set}
use Rattle.offers.specs.Values.{below, value_in, height_in, value_at, height_at, values_of, heights_of, Valued}
use Rattle.std.specs.Prelude.{Some, None}

-- what a hyperedge's offer comes to is its value and its height
module _ (A : Algebra) (live : Bool) (own : ℕ) (tail : List ℕ) (w d : ℕ → ℕ) (e : ℕ) where
  abbrev x : ℕ
  x = weigh A own (each w tail)

  abbrev g : ℕ
  g = greatest_depth d tail + 1

  pub value_in_lem : value_in (offer_of A live own tail w d e) ≡ value_of A live own tail w d
  unfolding offer_of value_of
  value_in_lem = go live (none_zero d tail)
    where
      go : (p q : Bool) → value_in (pick p (pick q (Some (label x g e)) None) None) ≡ pick p (pick q x none) none
      go true true = refl
      go true false = refl
      go false q = refl

  pub height_in_lem : height_in (offer_of A live own tail w d e) ≡ height_of live tail d
  unfolding offer_of height_of
  height_in_lem = go live (none_zero d tail)
    where
      go : (p q : Bool) → height_in (pick p (pick q (Some (label x g e)) None) None) ≡ pick p (pick q g 0) 0
      go true true = refl
      go true false = refl
      go false q = refl

-- a height is at most 1 more than the greatest depth
module _ (d : ℕ → ℕ) (n : ℕ) (h : (v : ℕ) → d v ≤ n) where
  deepest_within : (vs : List ℕ) → greatest_depth d vs ≤ n
  unfolding greatest_depth
  deepest_within [] = omega arith
  deepest_within (v ∷ vs) = omega (arith, h v, deepest_within vs)

  pub height_within : (live : Bool) (tail : List ℕ) → height_of live tail d ≤ n + 1
  unfolding height_of
  height_within live tail = go live (none_zero d tail)
    where
      go : (p q : Bool) → pick p (pick q (greatest_depth d tail + 1) 0) 0 ≤ n + 1
      go true true = omega (arith, deepest_within tail)
      go true false = omega arith
      go false q = omega arith

-- the numbers of a column below k
module _ (f : ℕ → ℕ) where
  pub length-below : (k : ℕ) → length (below f k) ≡ k
  unfolding below
  length-below zero = refl
  length-below (suc k) = length-append (below f k) (f k ∷ []) ∙ add-one (length (below f k)) ∙ ap suc (length-below k)

  last_at : (xs : List ℕ) (x : ℕ) → get_or (xs ++ x ∷ []) (length xs) 0 ≡ x
  last_at [] x = refl
  last_at (y ∷ ys) x = last_at ys x

  pub below_at : (k i : ℕ) → i < k → get_or (below f k) i 0 ≡ f i
  unfolding below
  below_at zero i h = absurd (omega arith)
  below_at (suc k) i h = go (ℕ_discrete i k) (below_at k i)
    where
      go : Dec (i ≡ k) → (i < k → get_or (below f k) i 0 ≡ f i) → get_or (below f k ++ f k ∷ []) i 0 ≡ f i
      go (yes e) r = ap (λ (j : ℕ). get_or (below f k ++ f k ∷ []) j 0) (e ∙ sym (length-below k)) ∙ last_at (below f k) (f k) ∙ ap f (sym e)
      go (no n) r = get_or-append (below f k) (f k ∷ []) 0 i (omega (arith, length-below k)) ∙ r (omega arith)

  -- one place more
  pub fill_more : (old col : List ℕ) (i x : ℕ) → i < length old → col ≡ filled (below f i) old → x ≡ f i → set col i x ≡ filled (below f (i + 1)) old
  unfolding below
  fill_more old col i x h p q =
      ap₂ (λ (t : List ℕ) (y : ℕ). set t i y) p q
      ∙ filled-set (below f i) old i (f i) (length-below i) h
      ∙ ap (λ (k : ℕ). filled (below f k) old) (sym (add-one i))

  -- what stands in a filled column
  pub filled_at : (old : List ℕ) (k i : ℕ) → i < k → cell (filled (below f k) old) i ≡ f i
  unfolding filled
  filled_at old k i h = get_or-append (below f k) (drop (length (below f k)) old) 0 i (omega (arith, length-below k)) ∙ below_at k i h

-- columns that are filled so are the values and the heights
pub valued : (m : Measure) (os ms ss ts ws ds : List ℕ) (vs₀ hs₀ : List ℕ) {vs hs : List ℕ}
    → vs ≡ filled (values_of m os ms ss ts ws ds (length os)) vs₀ → hs ≡ filled (heights_of m os ms ss ts ws ds (length os)) hs₀ → Valued m os ms ss ts ws ds vs hs
valued m os ms ss ts ws ds vs₀ hs₀ p q = record {
  value = λ e h. ap (λ (z : List ℕ). cell z e) p ∙ filled_at (value_at m os ms ss ts ws ds) vs₀ (length os) e h;
  height = λ e h. ap (λ (z : List ℕ). cell z e) q ∙ filled_at (height_at m os ms ss ts ws ds) hs₀ (length os) e h;
}
