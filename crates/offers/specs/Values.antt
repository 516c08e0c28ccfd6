-- The columns of the lines' values and of their heights (document 02, 2026-04): what they hold, and what filling them asks of its caller. Assumes nothing: these are
-- definitions.
use Rattle.std.specs.Prelude.{◌≡◌, not, List, [], ◌∷◌, ◌++◌, ℕ, zero, suc, ◌≤◌, ◌<◌, length, Some, None}
use Rattle.weights.specs.declared.Measure.{Measure}
use Rattle.weights.specs.Figures.{greatest, none, is_struck_mark, capped}
use Rattle.weights.specs.Measures.{algebra}
use Rattle.provenance.specs.Labelling.{value_of, height_of}
use Rattle.columns.specs.Acceptance.{most_vertices}
use Rattle.columns.specs.Columns.{cell, tail_of}
use Rattle.columns.specs.Lent.{EdgeIn}
use Rattle.weights.specs.Offers.{Offer}

-- the numbers that f gives below k, in order
unfoldable pub below : (ℕ → ℕ) → ℕ → List ℕ
below f zero = []
below f (suc k) = below f k ++ f k ∷ []

-- the value of an offer, and its height
abbrev pub value_in : Offer → ℕ
value_in None = none
value_in (Some x) = x.weight.0

abbrev pub height_in : Offer → ℕ
height_in None = 0
height_in (Some x) = x.depth

-- the figures and depths that are lent beside a table's own figures, strike marks, spans and tails
module _ (m : Measure) (os ms ss ts ws ds : List ℕ) where
  -- the value of line e, and its height
  unfoldable pub value_at : ℕ → ℕ
  value_at e = value_of (algebra m) (not (is_struck_mark (cell ms e))) (cell os e) (tail_of ss ts e) (cell ws) (cell ds)

  unfoldable pub height_at : ℕ → ℕ
  height_at e = height_of (not (is_struck_mark (cell ms e))) (tail_of ss ts e) (cell ds)

  -- those of the lines below k
  abbrev pub values_of : ℕ → List ℕ
  values_of k = below value_at k

  abbrev pub heights_of : ℕ → List ℕ
  heights_of k = below height_at k

  -- two columns that begin with those of all lines
  pub record Valued (vs hs : List ℕ) : Type 0 where
    pub value : (e : ℕ) → e < length os → cell vs e ≡ value_at e
    pub height : (e : ℕ) → e < length os → cell hs e ≡ height_at e

-- every number of a column, capped
abbrev pub capped_column : List ℕ → List ℕ
capped_column ws = below (λ v. capped (cell ws v)) (length ws)

-- place i can take what an offer comes to
pub record Notable (i : ℕ) (o : Offer) (vs hs : List ℕ) : Type 0 where
  pub value : i < length vs
  pub height : i < length hs
  pub small : height_in o < 65536

-- every line of an accepted table, of few vertices, can be read, and has its place in both columns
pub record Valuable (os ms ss ts ws ds vs hs : List ℕ) : Type 0 where
  pub each : (e : ℕ) → e < length os → EdgeIn e os ms ss ts ws ds
  pub figures : (e : ℕ) → e < length os → cell os e ≤ greatest
  pub few : length ws ≤ most_vertices
  pub values : length os ≤ length vs
  pub heights : length os ≤ length hs
