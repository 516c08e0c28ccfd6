-- Striking and restoring a line. Document 02, 2026-02: "Restoring a line directly after striking it gives back the table and answers of before; after other changes it
-- gives the answers of the table as it then is, with the kept figure." Assumes nothing: these are definitions.
use Rattle.std.specs.Prelude.{◌≡◌, List, ℕ, set, Ok}
use Rattle.weights.specs.declared.Measure.{Measure}
use Rattle.weights.specs.Figures.{standing}
use Rattle.columns.specs.Columns.{Entries, Columns, columns, own_at, strike_at, with_strike}
use Rattle.settle.specs.Settling.{entries_of}
use Rattle.reprice.specs.Repricing.{stricken, restored}
use Rattle.reprice.specs.Changes.{Named, Leaves}

-- the same columns with other strike marks
abbrev pub with_strikes : Columns → List ℕ → Columns
with_strikes c strikes = columns c.vertices c.heads c.own strikes c.spans c.tails

-- line e is struck, and restored on the table with the marks and answers that striking left: the strike marks and the answers are those of before. All other columns are
-- lent to be read alone by both calls
pub record StrikeRestore (m : Measure) (c : Columns) (a : Entries) (e : ℕ) : Type 0 where
  pub first : (stricken m c a e).result ≡ Ok tt
  pub then : restored m (with_strikes c (stricken m c a e).strikes) (stricken m c a e).left e ≡ record { result = Ok tt; strikes = c.strikes; left = a }

-- the other way round
pub record RestoreStrike (m : Measure) (c : Columns) (a : Entries) (e : ℕ) : Type 0 where
  pub first : (restored m c a e).result ≡ Ok tt
  pub then : stricken m (with_strikes c (restored m c a e).strikes) (restored m c a e).left e ≡ record { result = Ok tt; strikes = c.strikes; left = a }

-- line e is restored, whatever was done since it was struck: it stands at its own figure, which is the one that it had, every other line is as it was, and the answers are
-- those of the table as it then is
pub record RestoredThen (m : Measure) (c : Columns) (a : Entries) (e : ℕ) : Type 0 where
  pub result : (restored m c a e).result ≡ Ok tt
  pub stands : Named (with_strike c e standing) e
  pub own : (x : ℕ) → own_at (with_strike c e standing) x ≡ own_at c x
  pub elsewhere : (x : ℕ) → ¬ (x ≡ e) → strike_at (with_strike c e standing) x ≡ strike_at c x
  pub left : (restored m c a e).left ≡ entries_of m (with_strike c e standing)
  pub leaves : Leaves m (with_strike c e standing) (set c.strikes e standing) (restored m c a e).strikes (restored m c a e).left
