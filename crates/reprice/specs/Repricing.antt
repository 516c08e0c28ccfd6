-- Repricing, striking and restoring a line: their refusals, and what they leave. The paper's "The calls" and "What is turned away"; document 02, 2026-02. Assumes
-- nothing: these are definitions.
use Rattle.std.specs.Prelude.{ℕ, ◌≤◌, ◌<◌, ◌≡◌, Bool, true, false, not, List, length, set, ltb, leb, Ok, Err}
use Rattle.weights.specs.declared.Measure.{Measure}
use Rattle.weights.specs.Choice.{pick}
use Rattle.weights.specs.Figures.{greatest, standing, struck_mark, is_struck_mark}
use Rattle.refusal.specs.declared.Refusal.TheVariants.{NoSuchEdge, NewWeight, NotStruck}
use Rattle.columns.specs.Columns.{Entries, Columns, strike_at, with_own, with_strike}
use Rattle.columns.specs.Acceptance.{test, and_then, lent_acceptance}
use Rattle.columns.specs.Lent.{Turning}
use Rattle.columns.proofs.Accepted.{AcceptedColumns}
use Rattle.settle.specs.Settling.{entries_of}
use Rattle.settle.specs.Checking.{answers_acceptance}
use Rattle.settle.specs.Resting.{rests}
use Rattle.refusal.specs.Answers.{Acceptance}

-- line e exists and is not struck
abbrev pub stands : Columns → ℕ → Bool
stands c e = pick (ltb e (length c.heads)) (not (is_struck_mark (strike_at c e))) false

-- 1 to 6 and 21, 7, then 9
unfoldable pub line_acceptance : Columns → Entries → ℕ → Acceptance
line_acceptance c a e = and_then (lent_acceptance c a) (test (stands c e) NoSuchEdge (Ok tt))

-- repricing line e to w: 1 to 6 and 21, 7, 9, 10, 8
unfoldable pub reprice_acceptance : Measure → Columns → Entries → (e w : ℕ) → Acceptance
reprice_acceptance m c a e w = and_then (line_acceptance c a e) (test (leb w greatest) NewWeight (answers_acceptance m c a))

-- striking line e: the same without 10
unfoldable pub strike_acceptance : Measure → Columns → Entries → ℕ → Acceptance
strike_acceptance m c a e = and_then (line_acceptance c a e) (answers_acceptance m c a)

-- 1 to 6 and 21, 7, then 9 only where the line does not exist
unfoldable pub numbered_acceptance : Columns → Entries → ℕ → Acceptance
numbered_acceptance c a e = and_then (lent_acceptance c a) (test (ltb e (length c.heads)) NoSuchEdge (Ok tt))

-- "20 for restoring a line that isn't struck, tried directly after 9 (for this call 9 means only that the line does not exist)"
unfoldable pub struck_acceptance : Columns → Entries → ℕ → Acceptance
struck_acceptance c a e = and_then (numbered_acceptance c a e) (test (is_struck_mark (strike_at c e)) NotStruck (Ok tt))

-- restoring line e: 1 to 6 and 21, 7, 9, 20, 8
unfoldable pub restore_acceptance : Measure → Columns → Entries → ℕ → Acceptance
restore_acceptance m c a e = and_then (struck_acceptance c a e) (answers_acceptance m c a)

-- what a change returns, and the own figures and answers as it leaves them; all other columns are lent to be read alone
pub record ChangeOutcome (R : Type 0) : Type 0 where
  pub result : R
  pub own : List ℕ
  pub left : Entries

-- on acceptance the own figure of line e is w, and the answers are those of the table as it then is; on a refusal nothing has changed
abbrev pub changed : Measure → Columns → Entries → (e w : ℕ) → Acceptance → ChangeOutcome Acceptance
changed m c a e w (Ok _) = record { result = Ok tt; own = set c.own e w; left = entries_of m (with_own c e w) }
changed m c a e w (Err r) = record { result = Err r; own = c.own; left = a }

-- the same of a change of the strike mark: the own figures too are lent to be read alone
pub record MarkOutcome (R : Type 0) : Type 0 where
  pub result : R
  pub strikes : List ℕ
  pub left : Entries

-- on acceptance the strike mark of line e is s, and the answers are those of the table as it then is; on a refusal nothing has changed
abbrev pub marked : Measure → Columns → Entries → (e s : ℕ) → Acceptance → MarkOutcome Acceptance
marked m c a e s (Ok _) = record { result = Ok tt; strikes = set c.strikes e s; left = entries_of m (with_strike c e s) }
marked m c a e s (Err r) = record { result = Err r; strikes = c.strikes; left = a }

-- what a change asks: table and answer columns that were accepted, a line that has its own figure, and a figure that is allowed
pub record Changeable (c : Columns) (a : Entries) (e w : ℕ) : Type 0 where
  pub accepted : AcceptedColumns c a
  pub placed : e < length c.own
  pub allowed : w ≤ greatest

-- the same of a line's strike mark
pub record Markable (c : Columns) (a : Entries) (e s : ℕ) : Type 0 where
  pub accepted : AcceptedColumns c a
  pub placed : e < length c.strikes
  pub allowed : s ≤ struck_mark

-- what renewing answers asks after a change of line e: the table as it now is, accepted; answer columns that can be looked at; and where the line rests,
-- that they are right as they are
pub record Renewable (m : Measure) (c : Columns) (a : Entries) (e : ℕ) : Type 0 where
  pub accepted : AcceptedColumns c a
  pub turning : Turning c a.labels
  pub numbered : e < length c.heads
  pub stays : rests m c a.labels e ≡ true → a ≡ entries_of m c

unfoldable pub repriced : Measure → Columns → Entries → (e w : ℕ) → ChangeOutcome Acceptance
repriced m c a e w = changed m c a e w (reprice_acceptance m c a e w)

unfoldable pub stricken : Measure → Columns → Entries → ℕ → MarkOutcome Acceptance
stricken m c a e = marked m c a e struck_mark (strike_acceptance m c a e)

unfoldable pub restored : Measure → Columns → Entries → ℕ → MarkOutcome Acceptance
restored m c a e = marked m c a e standing (restore_acceptance m c a e)
