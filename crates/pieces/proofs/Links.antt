-- The links between the vertices of one depth. Assumes nothing.
use mathlib.Core.Path.{◌≡◌, refl, sym, ◌∙◌, ap}
use mathlib.Core.Bool.{Bool, true, false}
use mathlib.Core.List.{List}
use Prim.Native.Nat.{ℕ, zero, suc, ◌+◌, ◌≤◌, ◌<◌, max}
use native.Mathlib.Numerals.{add-one}
use native.Mathlib.Omega.{arith}
use native.Mathlib.Decide.{ℕ_discrete}
use lib.ListN.{length, set, replicate, length-set, length-replicate, get_or-replicate}
use lib.Seq.{get_or-set_same, get_or-set_other}
use lib.Dec.{eqb}
use borrow.Author.Tests.{eqb-true, eqb-false, eq-eqb, ne_eqb}
use Rattle.weights.specs.Choice.{pick}
use Rattle.columns.specs.Columns.{cell}
use Rattle.pieces.specs.Counting.{Countable, last_of, Linkable, Linked, Deepest}

module _ (depth : ℕ → ℕ) (d : ℕ) where
  pub last-le : (k : ℕ) → last_of depth d k ≤ k
  unfolding last_of
  last-le zero = omega arith
  last-le (suc k) = go (eqb (depth k) d) (last-le k)
    where
      go : (b : Bool) → last_of depth d k ≤ k → pick b (k + 1) (last_of depth d k) ≤ suc k
      go true h = omega arith
      go false h = omega arith

  -- none of its depth comes after the last
  pub last_above : (k u : ℕ) → u < k → depth u ≡ d → u < last_of depth d k
  unfolding last_of
  last_above zero u h e = absurd (omega arith)
  last_above (suc k) u h e = go (eqb (depth k) d) refl (last_above k u)
    where
      go : (b : Bool) → eqb (depth k) d ≡ b → (u < k → depth u ≡ d → u < last_of depth d k) → u < pick b (k + 1) (last_of depth d k)
      go true q rest = omega arith
      go false q rest = rest (apart_from (ℕ_discrete u k)) e
        where
          apart_from : Dec (u ≡ k) → u < k
          apart_from (yes z) = absurd (eqb-false _ _ q (ap depth (sym z) ∙ e))
          apart_from (no n) = omega arith

  -- the last is of its depth
  pub last_is : (k v : ℕ) → last_of depth d k ≡ suc v → depth v ≡ d
  unfolding last_of
  last_is zero v e = absurd (omega arith)
  last_is (suc k) v e = go (eqb (depth k) d) refl (last_is k v) e
    where
      go : (b : Bool) → eqb (depth k) d ≡ b → (last_of depth d k ≡ suc v → depth v ≡ d) → pick b (k + 1) (last_of depth d k) ≡ suc v → depth v ≡ d
      go true q rest z = let y : v ≡ k = omega arith in ap depth y ∙ eqb-true _ _ q
      go false q rest z = rest z

  last_more : (v : ℕ) → depth v ≡ d → v + 1 ≡ last_of depth d (v + 1)
  unfolding last_of
  last_more v e = rw (add-one v, eq-eqb _ _ e) (sym (add-one v))

  last_other : (v : ℕ) → ¬ (depth v ≡ d) → last_of depth d v ≡ last_of depth d (v + 1)
  unfolding last_of
  last_other v n = rw (add-one v, ne_eqb _ _ n)

pub linked_none : {depths last pieces : List ℕ} → Linkable depths last pieces → Linked depths (length last) 0 last pieces
unfolding last_of
linked_none l = record { last_level = refl; pieces_level = l.level; ends = l.cleared; links = λ u h. absurd (omega arith) }

-- one vertex more
pub linked_more : {depths : List ℕ} {layers v : ℕ} {last pieces : List ℕ} → Linked depths layers v last pieces → v < length depths → cell depths v < layers
    → Linked depths layers (v + 1) (set last (cell depths v) (v + 1)) (set pieces v (cell last (cell depths v)))
linked_more {depths} {layers} {v} {last} {pieces} l h s = record {
  last_level = length-set last (cell depths v) (v + 1) ∙ l.last_level;
  pieces_level = length-set pieces v (cell last (cell depths v)) ∙ l.pieces_level;
  ends = λ d b. end d b (ℕ_discrete d (cell depths v));
  links = λ u b. link u b (ℕ_discrete u v);
}
  where
    end : (d : ℕ) → d < layers → Dec (d ≡ cell depths v) → cell (set last (cell depths v) (v + 1)) d ≡ last_of (cell depths) d (v + 1)
    end d b (yes e) = rw e (get_or-set_same last (cell depths v) (v + 1) 0 (let k = l.last_level in omega arith) ∙ last_more (cell depths) (cell depths v) v refl)
    end d b (no n) = get_or-set_other last (cell depths v) d (v + 1) 0 n ∙ l.ends d b ∙ last_other (cell depths) d v (λ e. n (sym e))

    link : (u : ℕ) → u < v + 1 → Dec (u ≡ v) → cell (set pieces v (cell last (cell depths v))) u ≡ last_of (cell depths) (cell depths u) u
    link u b (yes e) = rw e (get_or-set_same pieces v (cell last (cell depths v)) 0 (let k = l.pieces_level in omega arith) ∙ l.ends (cell depths v) s)
    link u b (no n) = get_or-set_other pieces v u (cell last (cell depths v)) 0 n ∙ l.links u (omega arith)

-- the greatest depth, of no vertex and of one vertex more
pub deepest_none : {depths : List ℕ} {layers : ℕ} → 0 < layers → Deepest depths layers 0 0
deepest_none h = record { layer = h; most = λ u k. absurd (omega arith) }

pub deepest_more : {depths : List ℕ} {layers v g g' : ℕ} → Deepest depths layers v g → cell depths v < layers → g' ≡ max g (cell depths v) → Deepest depths layers (v + 1) g'
deepest_more {depths} {layers} {v} {g} {g'} d h e = record { layer = omega (arith, d.layer); most = λ u k. go u (ℕ_discrete u v) k }
  where
    go : (u : ℕ) → Dec (u ≡ v) → u < v + 1 → cell depths u ≤ g'
    go u (yes p) k = omega (arith, ap (cell depths) p)
    go u (no n) k = omega (arith, d.most u (omega arith))

-- a new array is cleared
pub linkable_new : {spans tails depths edges pieces : List ℕ} → Countable spans tails depths edges pieces → (r : ℕ) → length depths < r → Linkable depths (replicate r 0) pieces
linkable_new c r k = record {
  level = c.pieces_level;
  some = omega (arith, length-replicate {A = ℕ} r 0);
  shallow = λ v h. omega (arith, c.shallow v, length-replicate {A = ℕ} r 0);
  cleared = λ d h. get_or-replicate r d 0 0 (omega (arith, length-replicate {A = ℕ} r 0));
}
