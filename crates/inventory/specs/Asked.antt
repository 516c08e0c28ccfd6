-- When a record is replayed, and by what the call is refused. Document 02, 2026-12: "opening counts go first, then events in order, 25 before 26 in each, after 8".
-- Assumes nothing: these are definitions.
use Rattle.std.specs.Prelude.{◌≡◌, List, ℕ, ◌≤◌, ◌<◌, length, Ok, Err}
use Rattle.weights.specs.declared.Measure.{Measure}
use Rattle.refusal.specs.declared.Refusal.{Refusal}
use Rattle.refusal.specs.declared.Refusal.TheVariants.{TooManyVertices, Lengths, AnswerLength, WrongAnswers, OpeningCount}
use Rattle.columns.specs.Columns.{Entries, Columns, cell}
use Rattle.columns.specs.Owed.{Owed}
use Rattle.columns.specs.Right.{Few, RightLent, WrongLent}
use Rattle.settle.specs.Defined.{AllMean}
use Rattle.inventory.specs.Shelf.{most_stock, most_events, Low}
use Rattle.inventory.specs.Replaying.{ReplayOutcome}
use Rattle.inventory.specs.Record.{Replays, Stops}

-- "The record is two lent columns of up to 4,096 events", with as many places for outcomes
pub record LevelRecord (vs ks os : List ℕ) : Type 0 where
  pub received : length ks ≡ length vs
  pub outcomes : length os ≡ length vs
  pub events : length vs ≤ most_events

-- v is the first part whose opening count is above the limit
pub record FirstHigh (stock : List ℕ) (v : ℕ) : Type 0 where
  pub within : v < length stock
  pub high : most_stock < cell stock v
  pub first : (u : ℕ) → u < v → cell stock u ≤ most_stock

module _ (m : Measure) (c : Columns) (a : Entries) (vs ks stock os : List ℕ) where
  -- the columns are right, the answers are the table's, and no opening count is above the limit
  pub record RightShelf : Type 0 where
    pub level : LevelRecord vs ks os
    pub lent : RightLent c a
    pub counts : length stock ≡ c.vertices
    pub answers : AllMean m c a
    pub low : Low stock

  -- and every event passes, from the opening counts to the final ones
  pub record RightReplay : Type 0 where
    pub shelf : RightShelf
    pub final : List ℕ
    pub outcomes : List ℕ
    pub replays : Replays c a.labels vs ks stock outcomes final

  pub data WrongReplay : Refusal → Type 0 where
    many : ¬ Few c → WrongReplay TooManyVertices
    unlevel : Few c → ¬ LevelRecord vs ks os → WrongReplay Lengths
    lent : {r : Refusal} → LevelRecord vs ks os → WrongLent c a r → WrongReplay r
    shelf : LevelRecord vs ks os → RightLent c a → ¬ (length stock ≡ c.vertices) → WrongReplay AnswerLength
    answers : LevelRecord vs ks os → RightLent c a → length stock ≡ c.vertices → ¬ AllMean m c a → WrongReplay WrongAnswers
    opening : LevelRecord vs ks os → RightLent c a → length stock ≡ c.vertices → AllMean m c a → (v : ℕ) → FirstHigh stock v → WrongReplay (OpeningCount (record { 0 = v }))
    event : {r : Refusal} → RightShelf → Stops c a.labels 0 vs ks stock r → WrongReplay r

  -- demand 1 of a replay that had this outcome: the final counts and the outcomes, or both columns as they came
  abbrev pub ReplayOwes : ReplayOutcome → Type 0
  ReplayOwes o =
      Owed {L = List ℕ × List ℕ} Err (stock, os) RightReplay (λ _. (Ok tt)) (λ p. (p.final, p.outcomes)) WrongReplay o.result (o.stock, o.outcomes)
