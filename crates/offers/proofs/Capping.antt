-- A weight above the mark over gives what the mark gives: a line's value from lent weights is its value from these weights capped, which are light. Assumes nothing.
use mathlib.Core.Path.{◌≡◌, refl, sym, ◌∙◌, ap, ap₂}
use mathlib.Core.Bool.{not}
use mathlib.Core.List.{List, [], ◌∷◌, ◌++◌}
use Prim.Native.Nat.{ℕ, zero, suc, ◌-◌, ◌≤◌, ◌<◌}
use native.Mathlib.Omega.{arith}
use native.Mathlib.Decide.{dec_le}
use lib.ListN.{length, take, get_or-eq_default}
use Rattle.weights.specs.declared.Measure.{Measure}
use Rattle.weights.specs.declared.Measure.TheVariants.{Cost, Days, Grade}
use Rattle.weights.specs.Figures.{greatest, none, capped, is_struck_mark}
use Rattle.weights.specs.Measures.{algebra, fold, weigh}
use Rattle.weights.specs.Choice.{pick}
use Rattle.provenance.specs.Labelling.{each, none_zero, value_of}
use Rattle.columns.specs.Columns.{cell, tail_of}
use Rattle.columns.specs.Filled.{filled}
use Rattle.columns.proofs.Filled.{length-filled, take-filled}
use Rattle.offers.specs.Passing.{Light}
use Rattle.offers.specs.Values.{below, value_at, height_at, values_of, heights_of, capped_column, Valuable}
use Rattle.offers.proofs.Values.{length-below, below_at}

-- capping goes through joining, and finishing does not see it
join_capped : (m : Measure) (a x : ℕ) → (algebra m).join (capped a) (capped x) ≡ capped ((algebra m).join a x)
join_capped Cost a x = omega arith
join_capped Days a x = omega arith
join_capped Grade a x = omega arith

unit_capped : (m : Measure) → capped (algebra m).unit ≡ (algebra m).unit
unit_capped Cost = omega arith
unit_capped Days = omega arith
unit_capped Grade = omega arith

finish-capped : (m : Measure) (own a : ℕ) → own ≤ greatest → (algebra m).finish own (capped a) ≡ (algebra m).finish own a
finish-capped Cost own a h = omega arith
finish-capped Days own a h = omega arith
finish-capped Grade own a h = omega arith

module _ (m : Measure) (w w' : ℕ → ℕ) (same : (v : ℕ) → w' v ≡ capped (w v)) where
  fold-capped : (a : ℕ) (vs : List ℕ) → fold (algebra m).join (capped a) (each w' vs) ≡ capped (fold (algebra m).join a (each w vs))
  unfolding fold each
  fold-capped a [] = refl
  fold-capped a (v ∷ vs) =
      let step = ap ((algebra m).join (capped a)) (same v) ∙ join_capped m a (w v) in
      ap (λ (z : ℕ). fold (algebra m).join z (each w' vs)) step ∙ fold-capped ((algebra m).join a (w v)) vs

  -- what a hyperedge weighs
  pub weigh-capped : (own : ℕ) (vs : List ℕ) → own ≤ greatest → weigh (algebra m) own (each w' vs) ≡ weigh (algebra m) own (each w vs)
  unfolding weigh
  weigh-capped own vs h =
      let A = algebra m in
      let u = ap (λ (z : ℕ). fold A.join z (each w' vs)) (sym (unit_capped m)) ∙ fold-capped A.unit vs in
      ap (A.finish own) u ∙ finish-capped m own (fold A.join A.unit (each w vs)) h

-- a capped column holds every weight capped, and behind its end nothing, as the column itself
pub capped_at : (ws : List ℕ) (v : ℕ) → cell (capped_column ws) v ≡ capped (cell ws v)
capped_at ws v = go (dec_le (length ws) v)
  where
    f : ℕ → ℕ
    f u = capped (cell ws u)

    go : Dec (length ws ≤ v) → cell (capped_column ws) v ≡ capped (cell ws v)
    go (yes h) =
        get_or-eq_default (capped_column ws) 0 {n = v} (omega (arith, length-below f (length ws)))
        ∙ sym (ap capped (get_or-eq_default ws 0 {n = v} h))
    go (no n) = below_at f (length ws) v (omega arith)

pub capped_light : (ws : List ℕ) → Light (capped_column ws)
capped_light ws v = omega (arith, capped_at ws v)

-- a room that is filled with it begins with it
capped-length : (ws : List ℕ) → length (capped_column ws) ≡ length ws
capped-length ws = length-below (λ v. capped (cell ws v)) (length ws)

pub capped_part : (ws old : List ℕ) {column : List ℕ} → column ≡ filled (capped_column ws) old → take (length ws - 0) column ≡ capped_column ws
capped_part ws old p = ap (take (length ws - 0)) p ∙ take-filled (capped_column ws) old (length ws - 0) (omega (arith, capped-length ws))

pub capped_room : (ws old : List ℕ) {column : List ℕ} → length ws ≤ length old → column ≡ filled (capped_column ws) old → length ws ≤ length column
capped_room ws old h p =
    let n = capped-length ws in
    omega (arith, ap length p, length-filled (capped_column ws) old (omega arith))

-- filling asks no more of it than of the weights
pub valuable_capped : {os ms ss ts ws ds vs hs : List ℕ} → Valuable os ms ss ts ws ds vs hs → Valuable os ms ss ts (capped_column ws) ds vs hs
valuable_capped {ws = ws} p =
    let n = capped-length ws in
    record {
      each = λ e h.
          let g = p.each e h in
          let l = g.legible in
          record { own = g.own; mark = g.mark; placed = g.placed; legible = record { level = n ∙ l.level; inside = l.inside; shallow = l.shallow } };
      figures = p.figures;
      few = omega (arith, n, p.few);
      values = p.values;
      heights = p.heights;
    }

-- columns of the same numbers are the same
below_same : (f g : ℕ → ℕ) (k : ℕ) → ((i : ℕ) → i < k → f i ≡ g i) → below f k ≡ below g k
unfolding below
below_same f g zero h = refl
below_same f g (suc k) h = ap₂ (λ (xs : List ℕ) (x : ℕ). xs ++ x ∷ []) (below_same f g k (λ i l. h i (omega arith))) (h k (omega arith))

module _ (m : Measure) (os ms ss ts ws ds : List ℕ) (figures : (e : ℕ) → e < length os → cell os e ≤ greatest) where
  value_capped : (e : ℕ) → e < length os → value_at m os ms ss ts (capped_column ws) ds e ≡ value_at m os ms ss ts ws ds e
  unfolding value_at value_of
  value_capped e h =
      let tail = tail_of ss ts e in
      ap (λ (x : ℕ). pick (not (is_struck_mark (cell ms e))) (pick (none_zero (cell ds) tail) x none) none)
      (weigh-capped m (cell ws) (cell (capped_column ws)) (capped_at ws) (cell os e) tail (figures e h))

  -- the columns of values and of heights
  pub values_capped : values_of m os ms ss ts (capped_column ws) ds (length os) ≡ values_of m os ms ss ts ws ds (length os)
  values_capped = below_same (value_at m os ms ss ts (capped_column ws) ds) (value_at m os ms ss ts ws ds) (length os) value_capped

  pub heights_capped : heights_of m os ms ss ts (capped_column ws) ds (length os) ≡ heights_of m os ms ss ts ws ds (length os)
  unfolding height_at
  heights_capped = refl
