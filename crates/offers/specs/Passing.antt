-- A tail passed place by place: weights are joined as they are and capped once, at the end, and what was passed is carried along. Assumes nothing: these are
-- definitions.
use Rattle.std.specs.Prelude.{ℕ, ◌+◌, ◌*◌, ◌≤◌, ◌<◌, min, max, ◌≡◌, ◌≢◌, List, length, drop, Some, None}
use Rattle.weights.specs.declared.Measure.{Measure}
use Rattle.weights.specs.declared.Measure.TheVariants.{Cost, Days, Grade}
use Rattle.weights.specs.Choice.{pick}
use Rattle.weights.specs.Labels.{label}
use Rattle.weights.specs.Measures.{Algebra, fold}
use Rattle.provenance.specs.Labelling.{each, greatest_depth, none_zero}
use Rattle.columns.specs.Acceptance.{most_vertices, longest_tail}
use Rattle.columns.specs.Columns.{cell}
use Rattle.columns.specs.Lent.{Legible}
use Rattle.queue.specs.Keys.{heavy}
use Rattle.weights.specs.Offers.{Offer}

-- what is left of a tail gives, where what went before joins to j and is d deep
unfoldable pub rest : Algebra → (e own : ℕ) → (weight depth : ℕ → ℕ) → (j d : ℕ) → List ℕ → Offer
rest A e own w t j d vs = pick (none_zero t vs) (Some (label (A.finish own (fold A.join j (each w vs))) (max d (greatest_depth t vs) + 1) e)) None

-- later labels: what is made stays as it is
pub record Extends (w d w' d' : ℕ → ℕ) : Type 0 where
  pub weight : (u : ℕ) → d u ≢ 0 → w' u ≡ w u
  pub depth : (u : ℕ) → d u ≢ 0 → d' u ≡ d u

-- two weights of a tail joined, and not capped
abbrev pub plain : Measure → ℕ → ℕ → ℕ
plain Cost a b = a + b
plain Days a b = max a b
plain Grade a b = min a b

-- every weight of a column is light
abbrev pub Light : List ℕ → Type 0
Light ws = (v : ℕ) → cell ws v < heavy

-- a tail can be passed: it can be read, and its weights can be summed
pub record Passable (tail ws ds : List ℕ) : Type 0 where
  pub legible : Legible tail ws ds
  pub light : Light ws
  pub short : length tail ≤ longest_tail

-- i places of a tail are passed: they join to j and are g deep, whatever is made besides, so what is left has the answer of the whole
pub record Carried (A : Algebra) (w d : ℕ → ℕ) (tail : List ℕ) (i j g : ℕ) : Type 0 where
  pub inside : i ≤ length tail
  pub shallow : g ≤ most_vertices
  pub light : j ≤ A.unit + i * heavy
  pub carried : (e own : ℕ) (w' d' : ℕ → ℕ) → Extends w d w' d' → rest A e own w' d' j g (drop i tail) ≡ rest A e own w' d' A.unit 0 tail
