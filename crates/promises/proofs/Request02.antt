-- Document 02, change request 2026-02. Assumes nothing.
use mathlib.Core.Path.{◌≡◌, ap, refl}
use mathlib.Core.List.{List, [], ◌∷◌}
use Prim.Native.Nat.{ℕ}
use lib.ListN.{set}
use Rattle.weights.specs.declared.Measure.{Measure}
use Rattle.weights.specs.declared.Measure.TheVariants.{Cost}
use Rattle.weights.specs.Figures.{standing, struck_mark, is_struck_mark}
use Rattle.columns.specs.Columns.{Entries, Columns, strike_at, with_own, with_strike}
use Rattle.columns.specs.Gaps.{Gapped, with_tails}
use Rattle.columns.specs.Owed.{Owed}
use Rattle.columns.specs.Worked.{worked}
use Rattle.indextable.specs.Index.{index_of}
use Rattle.indextable.proofs.Told.{index_kept_marked}
use Rattle.settle.specs.Settling.{entries_of}
use Rattle.settle.specs.Defined.{Defined}
use Rattle.settle.proofs.Idle.{struck_idle_entries}
use Rattle.reprice.specs.Repricing.{restore_acceptance, restored}
use Rattle.reprice.specs.Changes.{Named, Struck, RightRestore, WrongRestore, Leaves}
use Rattle.reprice.specs.Restoring.{StrikeRestore, RestoreStrike, RestoredThen}
use Rattle.reprice.proofs.Changes.{restore_exactly, restore_refused_exactly, restore_owes, restore_leaves}
use Rattle.reprice.proofs.Restoring.{strike_restore, restore_strike, restored_then}
use Rattle.append.specs.Changes.{Priced, Changes, Holds, Kept, KeptStruck}
use Rattle.append.proofs.Changes.{kept_figure, kept-struck}
use Rattle.text.specs.Tables.{edges_from, table_of, listed_in_all}
use Rattle.text.specs.Render.{digits_on, digits, word, first_word, measure_text, header, mark_text, own_text, tail_text, edge_text, edges_text, table_text, render}
use Rattle.text.specs.Machine.{limit, line_at, digit_of, grown, instead, after, spell, named, ended, step, run, Whole, finish, parse}
use Rattle.promises.specs.Fixed.{Fixed}
use Rattle.promises.proofs.Fixed.{fixed}
use Rattle.promises.proofs.Gaps.{restore_gaps}
use Rattle.std.specs.Prelude.{Ok, Err}

-- 2026-02: bring a struck line back ----------------------------------------------------------------------------------------------------------------------------------

-- "Turned away: 20 for restoring a line that isn't struck, tried directly after 9 (for this call 9 means only that the line does not exist)": 1 to 7 with 21, 9, 20, 8.
-- On acceptance the strike mark is taken away and the answers are those of the table as it then is; every own figure keeps its bytes, since it is lent to be read alone
module _ (m : Measure) (c : Columns) (a : Entries) (e : ℕ) where
  pub restore : Owed {L = List ℕ × Entries} Err (c.strikes, a) (RightRestore m c a e) (λ _. Ok tt)
      (λ _. (set c.strikes e standing, entries_of m (with_strike c e standing))) (WrongRestore m c a e) (restored m c a e).result
      ((restored m c a e).strikes, (restored m c a e).left)
  restore = restore_owes m c a e

  pub restore_fixed : Fixed (RightRestore m c a e) (WrongRestore m c a e)
  restore_fixed = fixed (restore_acceptance m c a e) (restore_exactly m c a e) (restore_refused_exactly m c a e)

  -- what is left has demand 2's answers, so the next call's check says yes
  pub restore_answers : (restored m c a e).result ≡ Ok tt
      → Leaves m (with_strike c e standing) (set c.strikes e standing) (restored m c a e).strikes (restored m c a e).left
  restore_answers = restore_leaves m c a e

  -- it does not look at what gaps hold
  pub restore_over_gaps : (tails : List ℕ) → Gapped c tails → restored m c a e ≡ restored m (with_tails c tails) a e
  restore_over_gaps tails g = restore_gaps c tails g m a e

-- "The text shows `-` and the kept figure, as `-500`": the worked text with line 2 struck, written and read
abbrev struck_text : List ℕ
struck_text =
    112 ∷ 97 ∷ 114 ∷ 116 ∷ 115 ∷ 32 ∷ 53 ∷ 32 ∷ 99 ∷ 111 ∷ 115 ∷ 116 ∷ 10
    ∷ 48 ∷ 32 ∷ 49 ∷ 50 ∷ 48 ∷ 48 ∷ 10
    ∷ 49 ∷ 32 ∷ 51 ∷ 48 ∷ 48 ∷ 10
    ∷ 50 ∷ 32 ∷ 45 ∷ 53 ∷ 48 ∷ 48 ∷ 32 ∷ 48 ∷ 32 ∷ 49 ∷ 10
    ∷ 50 ∷ 32 ∷ 50 ∷ 49 ∷ 48 ∷ 48 ∷ 10
    ∷ 51 ∷ 32 ∷ 48 ∷ 32 ∷ 50 ∷ 32 ∷ 49 ∷ 32 ∷ 49 ∷ 10
    ∷ 52 ∷ 32 ∷ 49 ∷ 48 ∷ 32 ∷ 52 ∷ 10 ∷ []

pub struck_written : render Cost (with_strike worked 2 struck_mark) ≡ struck_text
unfolding edges_from digits_on digits word first_word measure_text header mark_text own_text tail_text edge_text edges_text table_text
struck_written = refl

pub struck_read : parse struck_text ≡ Whole (table_of Cost (with_strike worked 2 struck_mark))
unfolding edges_from first_word listed_in_all limit line_at digit_of grown instead after spell named ended step run finish parse
struck_read = refl

-- "Restoring a line directly after striking it gives back the table and answers of before", and the other way round
module _ (m : Measure) (c : Columns) (a : Entries) (e : ℕ) (d : Defined m c a) where
  pub restored_after_striking : Named c e → StrikeRestore m c a e
  restored_after_striking = strike_restore m c a e d

  pub struck_after_restoring : Struck c e → RestoreStrike m c a e
  struck_after_restoring = restore_strike m c a e d

  -- "after other changes it gives the answers of the table as it then is, with the kept figure": whatever the table is by then
  pub restored_as_it_is : Struck c e → RestoredThen m c a e
  restored_as_it_is = restored_then m c a e d

-- and the figure is kept: through any finite number of accepted reprices, strikes, restores and appends of which none names the line, which can't be repriced meanwhile
module _ (m : Measure) (e : ℕ) (s s' : Priced) (h : Holds m e s) (x : Changes m e s s') where
  pub figure_kept : Kept m e s s'
  figure_kept = kept_figure m e s h x

  pub struck_figure_kept : strike_at s.table e ≡ struck_mark → KeptStruck m e s s'
  struck_figure_kept q = kept-struck m e s h q x

-- a struck line's figure has no part in any answer
pub struck_figure_idle : (m : Measure) (c : Columns) (e : ℕ) → strike_at c e ≡ struck_mark → (w : ℕ) → entries_of m (with_own c e w) ≡ entries_of m c
struck_figure_idle m c e q = struck_idle_entries m c e (ap (λ (x : ℕ). is_struck_mark x) q)

-- the index of 2026-01 stays true when a line is struck or restored
pub index_stays_marked : (c : Columns) (e s : ℕ) → index_of (with_strike c e s) ≡ index_of c
index_stays_marked = index_kept_marked
