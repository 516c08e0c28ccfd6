-- What a tail gives whose weights were joined as they are and capped at the end: what it gives where every sum is capped. And the column in which no weight is too
-- heavy for that. Assumes nothing.
use mathlib.Core.Path.{◌≡◌, refl, sym, ◌∙◌, ap}
use mathlib.Core.Logic.{◌≢◌}
use mathlib.Core.Bool.{true}
use mathlib.Core.List.{List, [], ◌∷◌}
use Prim.Native.Nat.{ℕ, ◌+◌, ◌*◌, ◌/◌, ◌≤◌, ◌<◌, min, max}
use native.Mathlib.Omega.{arith}
use native.Mathlib.Decide.{dec_le}
use lib.ListN.{length, drop, get_or-eq_default}
use borrow.Author.Tests.{ne_eqb}
use Rattle.weights.specs.declared.Measure.{Measure}
use Rattle.weights.specs.declared.Measure.TheVariants.{Cost, Days, Grade}
use Rattle.weights.specs.Choice.{pick}
use Rattle.weights.specs.Figures.{over, greatest}
use Rattle.weights.specs.Labels.{label}
use Rattle.weights.specs.Measures.{Algebra, algebra, fold}
use Rattle.provenance.specs.Labelling.{each, greatest_depth, none_zero}
use Rattle.columns.specs.Acceptance.{all_below}
use Rattle.columns.specs.Columns.{cell, tail_of}
use Rattle.columns.specs.Lent.{EdgeIn}
use Rattle.columns.proofs.Accepted.{part_length, below_at}
use Rattle.columns.proofs.Laws.{below_from, below_more, below_stop}
use Rattle.queue.specs.Keys.{heavy}
use Rattle.offers.specs.Passing.{rest, Extends, plain, Light, Passable, Carried}
use Rattle.offers.proofs.Laws.{rest_more, rest_stop, rest_end}
use Rattle.std.specs.Prelude.{Some, None}

-- labels extend themselves
pub extends_refl : (w d : ℕ → ℕ) → Extends w d w d
extends_refl w d = record { weight = λ u n. refl; depth = λ u n. refl }

-- the tail of a line that can be read, of light weights, can be passed
pub passable : {e : ℕ} {os ms ss ts ws ds : List ℕ} → EdgeIn e os ms ss ts ws ds → Light ws → Passable (tail_of ss ts e) ws ds
passable {e} {ss = ss} {ts = ts} g l =
    let p = g.placed in
    let k = part_length (cell ss (2 * e)) (cell ss (2 * e + 1)) ts p.within in
    record { legible = g.legible; light = l; short = omega (arith, k, p.short) }

-- nothing is passed at first
pub carried_none : (A : Algebra) (w d : ℕ → ℕ) (tail : List ℕ) → Carried A w d tail 0 A.unit 0
carried_none A w d tail = record { inside = omega arith; shallow = omega arith; light = omega arith; carried = λ e own w' d' y. refl }

-- where a sum is capped does not matter, as the whole is
plain-fold : (m : Measure) (own a x : ℕ) (ws : List ℕ) → (algebra m).finish own (fold (algebra m).join (plain m a x) ws) ≡ (algebra m).finish own (fold (algebra m).join ((algebra m).join a x) ws)
unfolding fold
plain-fold Cost own a x [] = omega arith
plain-fold Cost own a x (y ∷ ws) = let e : min (a + x + y) over ≡ min (min (a + x) over + y) over = omega arith in ap (λ (z : ℕ). min (own + fold (algebra Cost).join z ws) over) e
plain-fold Days own a x ws = refl
plain-fold Grade own a x ws = refl

plain-rest : (m : Measure) (e own : ℕ) (w d : ℕ → ℕ) (a x g : ℕ) (vs : List ℕ) → rest (algebra m) e own w d (plain m a x) g vs ≡ rest (algebra m) e own w d ((algebra m).join a x) g vs
unfolding rest
plain-rest m e own w d a x g vs = ap (λ (z : ℕ). pick (none_zero d vs) (Some (label z (max g (greatest_depth d vs) + 1) e)) None) (plain-fold m own a x (each w vs))

plain_bound : (m : Measure) (a x b : ℕ) → a ≤ b → x < heavy → plain m a x ≤ b + heavy
plain_bound Cost a x b h k = omega arith
plain_bound Days a x b h k = omega arith
plain_bound Grade a x b h k = omega arith

-- in every measure a hyperedge with an empty tail gives its own weight
pub alone : (m : Measure) (own : ℕ) → own ≤ greatest → (algebra m).finish own (algebra m).unit ≡ own
alone Cost own h = omega arith
alone Days own h = omega arith
alone Grade own h = omega arith

-- joining starts at a figure
pub unit_light : (m : Measure) → (algebra m).unit < heavy
unit_light Cost = omega arith
unit_light Days = omega arith
unit_light Grade = omega arith

-- a vertex that is made is passed
pub carried_more : (m : Measure) (w d : ℕ → ℕ) (tail : List ℕ) (i j g : ℕ) → Carried (algebra m) w d tail i j g → i < length tail
    → d (cell tail i) ≢ 0 → d (cell tail i) ≤ 1024 → w (cell tail i) < heavy
    → Carried (algebra m) w d tail (i + 1) (plain m j (w (cell tail i))) (max g (d (cell tail i)))
carried_more m w d tail i j g k h n b l = record {
  inside = omega arith;
  shallow = omega (arith, k.shallow);
  light = omega (arith, plain_bound m j (w (cell tail i)) ((algebra m).unit + i * heavy) k.light l);
  carried = λ e own w' d' y.
      let A = algebra m in
      let u = cell tail i in
      plain-rest m e own w' d' j (w u) (max g (d u)) (drop (i + 1) tail)
      ∙ ap (λ (z : ℕ). rest A e own w' d' (A.join j z) (max g (d u)) (drop (i + 1) tail)) (sym (y.weight u n))
      ∙ ap (λ (z : ℕ). rest A e own w' d' (A.join j (w' u)) (max g z) (drop (i + 1) tail)) (sym (y.depth u n))
      ∙ rest_more A e own w' d' j g tail i h (λ z. n (sym (y.depth u n) ∙ z))
      ∙ k.carried e own w' d' y;
}

module _ {A : Algebra} {w d : ℕ → ℕ} {tail : List ℕ} {i j g : ℕ} (p : Carried A w d tail i j g) (e own : ℕ) where
  -- a vertex that is unmade is reached
  pub carried_stop : i < length tail → d (cell tail i) ≡ 0 → None ≡ rest A e own w d A.unit 0 tail
  carried_stop h z = rest_stop A e own w d j g tail i h z ∙ p.carried e own w d (extends_refl w d)

  -- the end is reached
  pub carried_end : length tail ≤ i → Some (label (A.finish own j) (g + 1) e) ≡ rest A e own w d A.unit 0 tail
  carried_end h = rest_end A e own w d j g tail i h ∙ p.carried e own w d (extends_refl w d)

-- a column in which every weight is light; beyond it there is none
pub light_all : (ws : List ℕ) → all_below heavy ws ≡ true → Light ws
light_all ws p v = go (dec_le (length ws) v)
  where
    go : Dec (length ws ≤ v) → cell ws v < heavy
    go (yes h) = omega (arith, get_or-eq_default ws 0 {n = v} h)
    go (no n) = below_at heavy ws p v (omega arith)

-- one weight more of a column whose shares are added
pub share_more : (xs : List ℕ) (shares i : ℕ) → i < length xs → below_from heavy xs (shares + cell xs i / heavy) (i + 1) ≡ below_from heavy xs shares i
unfolding below_from
share_more xs shares i h = go (dec_le heavy (cell xs i))
  where
    go : Dec (heavy ≤ cell xs i) → below_from heavy xs (shares + cell xs i / heavy) (i + 1) ≡ below_from heavy xs shares i
    go (yes l) = rw (ne_eqb (shares + cell xs i / heavy) 0 (λ z. omega arith)) (below_stop heavy xs shares i h l)
    go (no n) =
        let z : shares + cell xs i / heavy ≡ shares = omega arith in
        ap (λ (s : ℕ). below_from heavy xs s (i + 1)) z ∙ below_more heavy xs shares i h (omega arith)
