-- The archive for C, `libtozbierdu.a`: what a program in C can tell from the number that each call gives it. Of settle, reprice and bill Demand1 says it. Assumes nothing.
use mathlib.Core.List.{List, [], ◌∷◌}
use Prim.Native.Nat.{ℕ, ◌<◌}
use lib.ListN.{length}
use borrow.Author.Tests.{eq-eqb, ne_eqb}
use Rattle.weights.proofs.States.{unmade_state, over_state, made_state}
use Rattle.refusal.specs.declared.Counts.{Counts}
use Rattle.refusal.specs.Refusals.{acceptance_result, measure_of}
use Rattle.columns.specs.Columns.{Entries, Columns, cell}
use Rattle.columns.specs.Acceptance.{acceptance}
use Rattle.columns.specs.Longer.{NewLine}
use Rattle.indextable.specs.Index.{table_indexed}
use Rattle.settle.specs.Settling.{entry_at}
use Rattle.settle.specs.Checking.{checked}
use Rattle.topological.specs.Ordering.{ordered_acceptance, settled_in_order}
use Rattle.reprice.specs.Repricing.{stricken, restored}
use Rattle.append.specs.Appending.{appended}
use Rattle.inventory.specs.Replaying.{replayed}
use Rattle.text.specs.Render.{Permitted}
use Rattle.text.specs.Machine.{Parse, parse}
use Rattle.text.specs.Bytes.{column_of, FirstByte}
use Rattle.text.proofs.Permitted.{permitted_read}
use Rattle.text.proofs.Bytes.{first_byte}
use Rattle.reading.specs.Lines.{reading_of}
use Rattle.readtable.specs.Read.{read_table}
use Rattle.writetable.specs.Write.{write_table}
use Rattle.statistics.specs.Summaries.{summary_of}
use Rattle.shuffle.specs.Shuffled.{shuffle_outcome, unshuffle_outcome}
use Rattle.counter.specs.Decoded.{Decoded, extent_of, measured}
use Rattle.tozbierdu.specs.Results.{
  checked_result,
  stricken_result,
  restored_result,
  read_result,
  written_result,
  indexed_result,
  appended_result,
  summary_left,
  ordered_result,
  replayed_result,
  laid_result,
  state_number,
  entry_written,
  text_column,
}
use Rattle.tozbierdu.specs.Decoded.{verdict_extent, reading_extent, appending_extent, summary_extent}
use Rattle.tozbierdu.proofs.Decoded.{
  check_table_decoded,
  check_order_decoded,
  index_table_decoded,
  check_answers_decoded,
  settle_ordered_decoded,
  strike_decoded,
  restore_decoded,
  append_decoded,
  replay_decoded,
  read_table_decoded,
  write_table_decoded,
  summarize_decoded,
  shuffle_decoded,
  unshuffle_decoded,
}
use mathlib.Core.Path.{◌≡◌, ap}

-- below 4,294,967,296 the number is an acceptance: 0, 1 for yes, or a length; else quotient and remainder are the refusal's number and its place
module _ (c : Columns) where
  pub c_check_table_tells : Decoded (extent_of (acceptance c)) (acceptance_result (acceptance c))
  c_check_table_tells = check_table_decoded c

  pub c_check_order_tells : Decoded (extent_of (ordered_acceptance c)) (acceptance_result (ordered_acceptance c))
  c_check_order_tells = check_order_decoded c

  -- the list's length
  pub c_index_table_tells : (index list : List ℕ) → let x = table_indexed c index list in Decoded x.result (indexed_result x).result
  c_index_table_tells = index_table_decoded c

-- a measure's number is tested before everything
module _ (k : ℕ) (c : Columns) where
  module _ (a : Entries) where
    -- 1 for yes, 0 for no
    pub c_check_answers_tells : Decoded (measured (measure_of k) (λ m. verdict_extent (checked m c a))) (checked_result (measure_of k) c a)
    c_check_answers_tells = check_answers_decoded k c a

    pub c_settle_ordered_tells : Decoded (measured (measure_of k) (λ m. extent_of (settled_in_order m c a).result)) (ordered_result (measure_of k) c a).result
    c_settle_ordered_tells = settle_ordered_decoded k c a

    pub c_strike_tells : (e : ℕ) → Decoded (measured (measure_of k) (λ m. extent_of (stricken m c a e).result)) (stricken_result (measure_of k) c a e).result
    c_strike_tells = strike_decoded k c a

    pub c_restore_tells : (e : ℕ) → Decoded (measured (measure_of k) (λ m. extent_of (restored m c a e).result)) (restored_result (measure_of k) c a e).result
    c_restore_tells = restore_decoded k c a

    pub c_append_tells : (u : Counts) (index list : List ℕ) (l : NewLine) (room : List ℕ)
        → Decoded (measured (measure_of k) (λ m. appending_extent (appended m c u a index list l).result)) (appended_result (measure_of k) c u a index list l room).result
    c_append_tells = append_decoded k c a

    pub c_replay_tells : (parts received stock outcomes : List ℕ) → Decoded (measured (measure_of k) (λ m. extent_of (replayed m c a parts received stock outcomes).result))
        (replayed_result (measure_of k) c a parts received stock outcomes).result
    c_replay_tells = replay_decoded k c a

  -- the text's length
  pub c_write_table_tells : (room : List ℕ) → Decoded (measured (measure_of k) (λ m. (write_table m c room).answer)) (written_result (measure_of k) c room).result
  c_write_table_tells = write_table_decoded k c

-- the text's line is the place of 14, however long the text is
pub c_read_table_tells : (text h o s p t header : List ℕ) → let x = read_table text h o s p t in Decoded (reading_extent x.answer) (read_result x header).result
c_read_table_tells = read_table_decoded

pub c_summarize_tells : (xs room : List ℕ) → Decoded (summary_extent (summary_of xs)) (summary_left (summary_of xs) room).result
c_summarize_tells = summarize_decoded

pub c_shuffle_tells : (own room : List ℕ) → let x = shuffle_outcome own room in Decoded (extent_of x.answer) (laid_result x).result
c_shuffle_tells = shuffle_decoded

pub c_unshuffle_tells : (bytes own : List ℕ) → let x = unshuffle_outcome bytes own in Decoded (extent_of x.answer) (laid_result x).result
c_unshuffle_tells = unshuffle_decoded

-- two that refuse nothing. The column of a text that is not permitted is that of its first byte that can't stand there (2026-06), and of a permitted one 0
module _ (text : List ℕ) where
  pub c_text_column : ¬ Permitted text → (line column : ℕ) × FirstByte text line column × (text_column (reading_of text (parse text)) ≡ column)
  c_text_column n = let u = first_byte text n in (u.0, column_of text, u.3, ap (λ (x : Parse). text_column (reading_of text x)) u.1)

  pub c_text_permitted : Permitted text → text_column (reading_of text (parse text)) ≡ 0
  c_text_permitted p = ap (λ (x : Parse). text_column (reading_of text x)) (permitted_read text p)

-- the entry of part v: 2 for unmade, 1 for over, 0 for made; and where four places are lent, figure, depth, line and piece count
module _ (a : Entries) (v : ℕ) where
  pub c_entry_state : let w = cell a.labels.weights v in let d = cell a.labels.depths v in
      (d ≡ 0 → state_number (entry_at a v).state ≡ 2)
      × ((0 < d) × (w ≡ 1_000_000_000_001) → state_number (entry_at a v).state ≡ 1)
      × ((0 < d) × ¬ (w ≡ 1_000_000_000_001) → state_number (entry_at a v).state ≡ 0)
  c_entry_state =
      let w = cell a.labels.weights v in
      let d = cell a.labels.depths v in
      (λ h. ap state_number ((unmade_state w d).1 h), λ h. ap state_number ((over_state w d).1 h), λ h. ap state_number ((made_state w d).1 h))

  pub c_entry_written : (room : List ℕ) → length room ≡ 4
      → entry_written (entry_at a v) room ≡ cell a.labels.weights v ∷ cell a.labels.depths v ∷ cell a.labels.edges v ∷ cell a.pieces v ∷ []
  c_entry_written room h = rw (eq-eqb (length room) 4 h)

  pub c_entry_kept : (room : List ℕ) → ¬ (length room ≡ 4) → entry_written (entry_at a v) room ≡ room
  c_entry_kept room n = rw (ne_eqb (length room) 4 n)
