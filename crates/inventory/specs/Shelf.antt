-- The limits of a shelf and of a record, and what the functions below the call ask of the lent columns. Document 02, 2026-12. Assumes nothing: these are definitions.
use Rattle.std.specs.Prelude.{◌≡◌, List, [], ℕ, ◌≤◌, ◌<◌, length, eqb}
use Rattle.weights.specs.Choice.{pick}
use Rattle.columns.specs.Columns.{cell, tail_of}
use Rattle.columns.specs.Lent.{Placed}

-- "a shelf count above 1,000,000" is turned away; "up to 4,096 events"
abbrev pub most_stock : ℕ
most_stock = 1_000_000

abbrev pub most_events : ℕ
most_events = 4096

-- the parts that the chosen line of v lists. An unmade part, of depth 0, has no chosen line, though its column of lines says 0
unfoldable pub chosen_tail : (spans tails depths edges : List ℕ) → (v : ℕ) → List ℕ
chosen_tail spans tails depths edges v = pick (eqb (cell depths v) 0) [] (tail_of spans tails (cell edges v))

-- no count is above the limit
abbrev pub Low : List ℕ → Type 0
Low stock = (v : ℕ) → cell stock v ≤ most_stock

-- every part of a tail has its place on the shelf
abbrev pub Inside : (tail stock : List ℕ) → Type 0
Inside tail stock = (k : ℕ) → k < length tail → cell tail k < length stock

-- the chosen lines of n parts can be read, and list parts among them
pub record Buildable (ss ts ds es : List ℕ) (n : ℕ) : Type 0 where
  pub depths : length ds ≡ n
  pub edges : length es ≡ n
  pub placed : (v : ℕ) → v < n → ¬ (cell ds v ≡ 0) → Placed ss ts (cell es v)
  pub inside : (v : ℕ) → v < n → (k : ℕ) → k < length (chosen_tail ss ts ds es v) → cell (chosen_tail ss ts ds es v) k < n

-- so a record can be run over the shelf
pub record Replayable (ss ts ds es vs ks stock os : List ℕ) : Type 0 where
  pub buildable : Buildable ss ts ds es (length stock)
  pub low : Low stock
  pub received : length ks ≡ length vs
  pub outcomes : length os ≡ length vs

-- room for copies of the counts and the outcomes
pub record Copied (stock os cs ns : List ℕ) : Type 0 where
  pub counts : length cs ≡ length stock
  pub numbers : length ns ≡ length os
