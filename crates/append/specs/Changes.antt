-- What a table goes through with its answers: lines are repriced, struck, restored and appended. Document 02, 2026-02: a struck line keeps its figure, and restoring it
-- "after other changes … gives the answers of the table as it then is, with the kept figure". Assumes nothing: these are definitions.
use Rattle.std.specs.Prelude.{◌≡◌, List, ℕ, ◌<◌, length, Ok, Err}
use Rattle.weights.specs.declared.Measure.{Measure}
use Rattle.refusal.specs.declared.Refusal.TheVariants.{NoSuchEdge}
use Rattle.refusal.specs.declared.Counts.{Counts}
use Rattle.columns.specs.Columns.{Entries, Columns, columns, own_at, strike_at}
use Rattle.columns.specs.Longer.{NewLine, in_use_of}
use Rattle.settle.specs.Defined.{Defined}
use Rattle.reprice.specs.Repricing.{ChangeOutcome, MarkOutcome, repriced, stricken, restored}
use Rattle.reprice.specs.Restoring.{with_strikes, RestoredThen}
use Rattle.append.specs.Appending.{Grown, appended}
use Rattle.refusal.specs.Answers.{Acceptance}

-- a table, as long as its lines, and answer columns
pub record Priced : Type 0 where
  pub table : Columns
  pub answers : Entries

abbrev pub priced : Columns → Entries → Priced
priced c a = record { table = c; answers = a }

-- the same columns with other own figures
abbrev pub with_figures : Columns → List ℕ → Columns
with_figures c own = columns c.vertices c.heads own c.strikes c.spans c.tails

-- what the calls leave of them: repricing writes the own figures, striking and restoring the strike marks; of what appending leaves the counts that it returned are in
-- use
abbrev pub after_figure : Columns → ChangeOutcome Acceptance → Priced
after_figure c o = priced (with_figures c o.own) o.left

abbrev pub after_mark : Columns → MarkOutcome Acceptance → Priced
after_mark c o = priced (with_strikes c o.strikes) o.left

abbrev pub after_line : Counts → Grown → Priced
after_line k o = priced (in_use_of o.table k) o.answers

-- one accepted call that does not name line e, and what it leaves. Appending names no line: its line is a new one. It is lent columns of which the table is in use
pub data Change (m : Measure) (e : ℕ) (s : Priced) : Priced → Type 0 where
  reprice : (x w : ℕ) → ¬ (e ≡ x) → (repriced m s.table s.answers x w).result ≡ Ok tt → Change m e s (after_figure s.table (repriced m s.table s.answers x w))
  strike : (x : ℕ) → ¬ (e ≡ x) → (stricken m s.table s.answers x).result ≡ Ok tt → Change m e s (after_mark s.table (stricken m s.table s.answers x))
  restore : (x : ℕ) → ¬ (e ≡ x) → (restored m s.table s.answers x).result ≡ Ok tt → Change m e s (after_mark s.table (restored m s.table s.answers x))
  append : (c : Columns) (k : Counts) (index list : List ℕ) (l : NewLine) (k' : Counts) → in_use_of c k ≡ s.table
      → (appended m c k s.answers index list l).result ≡ Ok k' → Change m e s (after_line k' (appended m c k s.answers index list l))

-- any finite number of them, one after the other
pub data Changes (m : Measure) (e : ℕ) (s : Priced) : Priced → Type 0 where
  none : Changes m e s s
  further : {t u : Priced} → Changes m e s t → Change m e t u → Changes m e s u

-- the table is accepted and has the answers that the paper defines, and line e is one of its lines
pub record Holds (m : Measure) (e : ℕ) (s : Priced) : Type 0 where
  pub answers : Defined m s.table s.answers
  pub numbered : e < length s.table.heads

-- so it is afterwards, and the line has the own figure and the strike mark that it had
pub record Kept (m : Measure) (e : ℕ) (s s' : Priced) : Type 0 where
  pub holds : Holds m e s'
  pub own : own_at s'.table e ≡ own_at s.table e
  pub mark : strike_at s'.table e ≡ strike_at s.table e

-- of a struck line: repricing it is then refused by 9, and restoring it gives the answers of the table as it then is, in which the line stands with the figure kept
pub record KeptStruck (m : Measure) (e : ℕ) (s s' : Priced) : Type 0 where
  pub kept : Kept m e s s'
  pub unpriced : (w : ℕ) → (repriced m s'.table s'.answers e w).result ≡ Err NoSuchEdge
  pub restores : RestoredThen m s'.table s'.answers e
