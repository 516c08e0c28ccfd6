-- What a program in C can tell from the one number that a call of the archive gives it: one law of an answer's number, and each call by it. Those of settle, reprice and bill
-- are counter's. Assumes nothing.
use mathlib.Core.Path.{◌≡◌, refl, sym, subst}
use mathlib.Core.List.{List}
use Prim.Native.Nat.{ℕ, ◌≤◌}
use Rattle.weights.specs.declared.Measure.{Measure}
use Rattle.refusal.specs.declared.Refusal.{Refusal}
use Rattle.refusal.specs.declared.Counts.{Counts}
use Rattle.refusal.specs.Refusals.{code_of, last_place, result_of, acceptance_result, verdict_result, extent_result, reading_result, measure_of}
use Rattle.columns.specs.Columns.{Entries, Columns}
use Rattle.columns.specs.Acceptance.{acceptance}
use Rattle.columns.specs.Longer.{NewLine}
use Rattle.indextable.specs.Index.{table_indexed}
use Rattle.settle.specs.Checking.{checked}
use Rattle.topological.specs.Ordering.{ordered_acceptance, settled_in_order}
use Rattle.reprice.specs.Repricing.{stricken, restored}
use Rattle.append.specs.Appending.{appended}
use Rattle.inventory.specs.Replaying.{replayed}
use Rattle.readtable.specs.Read.{read_table}
use Rattle.writetable.specs.Write.{write_table}
use Rattle.statistics.specs.Summaries.{summary_number, summary_of}
use Rattle.shuffle.specs.Shuffled.{shuffle_outcome, unshuffle_outcome}
use Rattle.counter.specs.Decoded.{Decoded, extent_of, measured}
use Rattle.counter.proofs.Decoded.{reach, decoded}
use Rattle.counter.proofs.Places.{measure_place}
use Rattle.tozbierdu.specs.Results.{
  checked_result,
  stricken_result,
  restored_result,
  read_result,
  written_result,
  indexed_result,
  appending_result,
  appended_result,
  summary_left,
  ordered_result,
  replayed_result,
  laid_result,
}
use Rattle.tozbierdu.specs.Decoded.{verdict_extent, reading_extent, appending_extent, summary_extent}
use Rattle.tozbierdu.proofs.Places.{
  accepted_reach,
  table_places,
  order_places,
  ordered_places,
  checked_reach,
  stricken_places,
  restored_places,
  index_reach,
  append_reach,
  replayed_places,
  read_reach,
  write_reach,
  summary_reach,
  shuffle_reach,
  unshuffle_reach,
}
use Rattle.refusal.specs.Answers.{Acceptance, Verdict, Extent, Reading, Appending, MeasureChoice}
use Rattle.statistics.specs.Samples.{Summary}
use Rattle.std.specs.Prelude.{Ok, Err, true, false}

-- The law --------------------------------------------------------------------------------------------------------------------------------------------

-- the number of an answer tells it, where its length or its place fits
told : {x : Extent} {n : ℕ} → n ≡ extent_result x → reach x ≤ last_place → Decoded x n
told {x} e h = subst (Decoded x) (sym e) (decoded x h)

-- behind a measure's number
measured_told : (k : ℕ) (f : Measure → Extent) (g : MeasureChoice → ℕ) → ((r : Refusal) → g (Err r) ≡ result_of (code_of r))
    → ((m : Measure) → g (Ok m) ≡ extent_result (f m)) → ((m : Measure) → reach (f m) ≤ last_place) → Decoded (measured (measure_of k) f) (g (measure_of k))
measured_told k f g p q h = go (measure_of k) refl
  where
    go : (o : MeasureChoice) → measure_of k ≡ o → Decoded (measured o f) (g o)
    go (Err r) e = told (p r) (measure_place k e)
    go (Ok m) e = told (q m) (h m)

-- every answer's number is that of a length or a refusal
acceptance_number : (x : Acceptance) → acceptance_result x ≡ extent_result (extent_of x)
acceptance_number (Ok _) = refl
acceptance_number (Err r) = refl

verdict_number : (x : Verdict) → verdict_result x ≡ extent_result (verdict_extent x)
verdict_number (Ok true) = refl
verdict_number (Ok false) = refl
verdict_number (Err r) = refl

reading_number : (x : Reading) → reading_result x ≡ extent_result (reading_extent x)
reading_number (Ok h) = refl
reading_number (Err r) = refl

appending_number : (x : Appending) → appending_result x ≡ extent_result (appending_extent x)
appending_number (Ok k) = refl
appending_number (Err r) = refl

summary_number_lem : (x : Summary) → summary_number x ≡ extent_result (summary_extent x)
summary_number_lem (Ok m) = refl
summary_number_lem (Err r) = refl

-- The calls ------------------------------------------------------------------------------------------------------------------------------------------

module _ (c : Columns) where
  pub check_table_decoded : Decoded (extent_of (acceptance c)) (acceptance_result (acceptance c))
  check_table_decoded = told (acceptance_number (acceptance c)) (accepted_reach _ (table_places c))

  pub check_order_decoded : Decoded (extent_of (ordered_acceptance c)) (acceptance_result (ordered_acceptance c))
  check_order_decoded = told (acceptance_number (ordered_acceptance c)) (accepted_reach _ (order_places c))

  pub index_table_decoded : (index list : List ℕ) → let x = table_indexed c index list in Decoded x.result (indexed_result x).result
  index_table_decoded index list = told refl (index_reach c index list)

module _ (k : ℕ) (c : Columns) (a : Entries) where
  pub check_answers_decoded : Decoded (measured (measure_of k) (λ m. verdict_extent (checked m c a))) (checked_result (measure_of k) c a)
  check_answers_decoded = measured_told k _ (λ o. checked_result o c a) (λ r. refl) (λ m. verdict_number (checked m c a)) (λ m. checked_reach m c a)

  pub settle_ordered_decoded : Decoded (measured (measure_of k) (λ m. extent_of (settled_in_order m c a).result)) (ordered_result (measure_of k) c a).result
  settle_ordered_decoded =
      measured_told k _ (λ o. (ordered_result o c a).result) (λ r. refl) (λ m. acceptance_number (settled_in_order m c a).result) (λ m. accepted_reach _ (ordered_places m c a))

  pub strike_decoded : (e : ℕ) → Decoded (measured (measure_of k) (λ m. extent_of (stricken m c a e).result)) (stricken_result (measure_of k) c a e).result
  strike_decoded e =
      measured_told k _ (λ o. (stricken_result o c a e).result) (λ r. refl) (λ m. acceptance_number (stricken m c a e).result) (λ m. accepted_reach _ (stricken_places m c a e))

  pub restore_decoded : (e : ℕ) → Decoded (measured (measure_of k) (λ m. extent_of (restored m c a e).result)) (restored_result (measure_of k) c a e).result
  restore_decoded e =
      measured_told k _ (λ o. (restored_result o c a e).result) (λ r. refl) (λ m. acceptance_number (restored m c a e).result) (λ m. accepted_reach _ (restored_places m c a e))

  pub append_decoded : (u : Counts) (index list : List ℕ) (l : NewLine) (room : List ℕ)
      → Decoded (measured (measure_of k) (λ m. appending_extent (appended m c u a index list l).result)) (appended_result (measure_of k) c u a index list l room).result
  append_decoded u index list l room =
      measured_told k _ (λ o. (appended_result o c u a index list l room).result) (λ r. refl) (λ m. appending_number (appended m c u a index list l).result)
      (λ m. append_reach m c u a index list l)

  pub replay_decoded : (parts received stock outcomes : List ℕ)
      → Decoded (measured (measure_of k) (λ m. extent_of (replayed m c a parts received stock outcomes).result)) (replayed_result (measure_of k) c a parts received stock outcomes).result
  replay_decoded parts received stock outcomes =
      measured_told k _ (λ o. (replayed_result o c a parts received stock outcomes).result) (λ r. refl)
      (λ m. acceptance_number (replayed m c a parts received stock outcomes).result) (λ m. accepted_reach _ (replayed_places m c a parts received stock outcomes))

pub read_table_decoded : (text h o s p t header : List ℕ) → let x = read_table text h o s p t in Decoded (reading_extent x.answer) (read_result x header).result
read_table_decoded text h o s p t header = told (reading_number (read_table text h o s p t).answer) (read_reach text h o s p t)

pub write_table_decoded : (k : ℕ) (c : Columns) (room : List ℕ) → Decoded (measured (measure_of k) (λ m. (write_table m c room).answer)) (written_result (measure_of k) c room).result
write_table_decoded k c room = measured_told k _ (λ o. (written_result o c room).result) (λ r. refl) (λ m. refl) (λ m. write_reach m c room)

pub summarize_decoded : (xs room : List ℕ) → Decoded (summary_extent (summary_of xs)) (summary_left (summary_of xs) room).result
summarize_decoded xs room = told (summary_number_lem (summary_of xs)) (summary_reach xs)

pub shuffle_decoded : (own room : List ℕ) → let x = shuffle_outcome own room in Decoded (extent_of x.answer) (laid_result x).result
shuffle_decoded own room = told (acceptance_number (shuffle_outcome own room).answer) (shuffle_reach own room)

pub unshuffle_decoded : (bytes own : List ℕ) → let x = unshuffle_outcome bytes own in Decoded (extent_of x.answer) (laid_result x).result
unshuffle_decoded bytes own = told (acceptance_number (unshuffle_outcome bytes own).answer) (unshuffle_reach bytes own)
