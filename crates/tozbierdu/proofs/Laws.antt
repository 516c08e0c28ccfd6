-- The laws by which the exports go: by the measure's number, and of a room of two or four places. Assumes nothing.
use mathlib.Core.Path.{◌≡◌, refl, sym, ◌∙◌, ap}
use mathlib.Core.List.{List, [], ◌∷◌}
use Prim.Native.Nat.{ℕ}
use native.Mathlib.Omega.{arith}
use lib.ListN.{length, set}
use borrow.Author.Tests.{eq-eqb, ne_eqb}
use Rattle.weights.specs.declared.Measure.{Measure}
use Rattle.weights.specs.declared.Entry.{Entry}
use Rattle.refusal.specs.declared.Refusal.{Refusal}
use Rattle.refusal.specs.declared.Counts.{Counts}
use Rattle.refusal.specs.declared.Header.{Header}
use Rattle.refusal.specs.Refusals.{code_of, column_of, result_of, acceptance_result, verdict_result, extent_result}
use Rattle.statistics.specs.declared.Moments.{Moments}
use Rattle.columns.specs.Columns.{Entries, Columns}
use Rattle.settle.specs.Checking.{checked}
use Rattle.reprice.specs.Repricing.{stricken, restored}
use Rattle.columns.specs.Longer.{NewLine}
use Rattle.shuffle.specs.Shuffled.{Outcome, outcome}
use Rattle.indextable.specs.Index.{IndexOutcome}
use Rattle.append.specs.Appending.{leaves, appended}
use Rattle.inventory.specs.Replaying.{replayed}
use Rattle.readtable.specs.Read.{ReadOutcome, read_outcome}
use Rattle.writetable.specs.Write.{write_table}
use Rattle.counter.specs.Results.{outcome_result}
use Rattle.topological.specs.Ordering.{settled_in_order}
use Rattle.tozbierdu.specs.Results.{
  text_column,
  checked_result,
  mark_result,
  stricken_result,
  restored_result,
  entry_written,
  measure_number,
  header_written,
  read_left,
  read_result,
  write_result,
  written_result,
  indexed_result,
  counts_written,
  left_grown,
  appended_result,
  moments_written,
  summary_left,
  ordered_result,
  replay_result,
  replayed_result,
  laid_result,
}
use Rattle.refusal.specs.Answers.{Appending, Reading, Acceptance, Verdict, Extent, MeasureChoice}
use Rattle.statistics.specs.Samples.{Summary}
use Rattle.std.specs.Prelude.{Ok, Err}

module _ {o : MeasureChoice} (c : Columns) (a : Entries) {n : ℕ} where
  pub checked_refused : {r : Refusal} → o ≡ Err r → n ≡ result_of (code_of r) → n ≡ checked_result o c a
  checked_refused p q = rw (p, q)

  pub checked_measure : {m : Measure} {v : Verdict} → o ≡ Ok m → n ≡ verdict_result v → v ≡ checked m c a → n ≡ checked_result o c a
  checked_measure p q e = rw (p, q) (ap verdict_result e)

  -- the same of a change of line e
  module _ (e : ℕ) where
    pub stricken_refused : {r : Refusal} → o ≡ Err r → n ≡ result_of (code_of r) → record { result = n; strikes = c.strikes; left = a } ≡ stricken_result o c a e
    stricken_refused p q = rw (p, q)

    pub stricken_measure : {m : Measure} {x : Acceptance} {ks : List ℕ} {b : Entries} → o ≡ Ok m → n ≡ acceptance_result x
        → record { result = x; strikes = ks; left = b } ≡ stricken m c a e → record { result = n; strikes = ks; left = b } ≡ stricken_result o c a e
    stricken_measure p q k = rw (p, q) (ap mark_result k)

    pub restored_refused : {r : Refusal} → o ≡ Err r → n ≡ result_of (code_of r) → record { result = n; strikes = c.strikes; left = a } ≡ restored_result o c a e
    restored_refused p q = rw (p, q)

    pub restored_measure : {m : Measure} {x : Acceptance} {ks : List ℕ} {b : Entries} → o ≡ Ok m → n ≡ acceptance_result x
        → record { result = x; strikes = ks; left = b } ≡ restored m c a e → record { result = n; strikes = ks; left = b } ≡ restored_result o c a e
    restored_measure p q k = rw (p, q) (ap mark_result k)

four : (xs : List ℕ) (n m e l : ℕ) → length xs ≡ 4 → set (set (set (set xs 0 n) 1 m) 2 e) 3 l ≡ n ∷ m ∷ e ∷ l ∷ []
four [] n m e l h = absurd (omega arith)
four (x ∷ []) n m e l h = absurd (omega arith)
four (x ∷ (y ∷ [])) n m e l h = absurd (omega arith)
four (x ∷ (y ∷ (z ∷ []))) n m e l h = absurd (omega arith)
four (x ∷ (y ∷ (z ∷ (t ∷ [])))) n m e l h = refl
four (x ∷ (y ∷ (z ∷ (t ∷ (u ∷ us))))) n m e l h = absurd (omega arith)

module _ (e : Entry) (room : List ℕ) where
  pub written : length room ≡ 4 → set (set (set (set room 0 e.weight.0) 1 e.depth) 2 e.edge.0) 3 e.pieces ≡ entry_written e room
  written h = rw (eq-eqb (length room) 4 h) (four room e.weight.0 e.depth e.edge.0 e.pieces h)

  pub unwritten : ¬ (length room ≡ 4) → room ≡ entry_written e room
  unwritten n = rw (ne_eqb (length room) 4 n)

module _ (h : Header) (room : List ℕ) where
  pub header_written_lem : {m : ℕ} → m ≡ measure_number h.measure → length room ≡ 4 → set (set (set (set room 0 h.vertices) 1 m) 2 h.edges) 3 h.listed ≡ header_written h room
  header_written_lem {m} p k = rw (eq-eqb (length room) 4 k) (four room h.vertices m h.edges h.listed k ∙ ap (λ (x : ℕ). h.vertices ∷ x ∷ h.edges ∷ h.listed ∷ []) p)

  pub header_unwritten : ¬ (length room ≡ 4) → room ≡ header_written h room
  header_unwritten n = rw (ne_eqb (length room) 4 n)

-- reading, by its answer
module _ {x : ReadOutcome} (room : List ℕ) {h o m s t : List ℕ} {a : Reading} (e : read_outcome a h o m s t ≡ x) where
  pub read_refused : {r : Refusal} {n : ℕ} → a ≡ Err r → n ≡ result_of (code_of r) → read_left n h o m s t room ≡ read_result x room
  read_refused p q = rw (← e, p, q)

  pub read_table : {u : Header} {room' : List ℕ} → a ≡ Ok u → room' ≡ header_written u room → read_left 0 h o m s t room' ≡ read_result x room
  read_table p q = rw (← e, p, q)

-- the column of a text, by what checking it answers
module _ {a b : Reading} (e : a ≡ b) where
  pub text_refused : {r : Refusal} {n : ℕ} → a ≡ Err r → n ≡ column_of r → n ≡ text_column b
  text_refused p q = q ∙ ap text_column (sym p ∙ e)

  pub text_table : {h : Header} → a ≡ Ok h → 0 ≡ text_column b
  text_table p = ap text_column (sym p ∙ e)

module _ {o : MeasureChoice} (c : Columns) (room : List ℕ) {n : ℕ} where
  pub write_refused : {r : Refusal} → o ≡ Err r → n ≡ result_of (code_of r) → record { result = n; left = room } ≡ written_result o c room
  write_refused p q = rw (p, q)

  pub write_measure : {m : Measure} {x : Extent} {room' : List ℕ} → o ≡ Ok m → n ≡ extent_result x → record { answer = x; room = room' } ≡ write_table m c room
      → record { result = n; left = room' } ≡ written_result o c room
  write_measure p q e = rw (p, q) (ap write_result e)

-- indexing
pub indexed_number : {x : IndexOutcome} {e : Extent} {i l : List ℕ} {n : ℕ} → record { result = e; index = i; list = l } ≡ x → n ≡ extent_result e
    → record { result = n; index = i; list = l } ≡ indexed_result x
indexed_number p q = rw q (ap indexed_result p)

-- the new counts
two : (xs : List ℕ) (e l : ℕ) → length xs ≡ 2 → set (set xs 0 e) 1 l ≡ e ∷ l ∷ []
two [] e l h = absurd (omega arith)
two (x ∷ []) e l h = absurd (omega arith)
two (x ∷ (y ∷ [])) e l h = refl
two (x ∷ (y ∷ (z ∷ zs))) e l h = absurd (omega arith)

module _ (k : Counts) (room : List ℕ) where
  pub counts_written_lem : length room ≡ 2 → set (set room 0 k.edges) 1 k.listed ≡ counts_written k room
  counts_written_lem h = rw (eq-eqb (length room) 2 h) (two room k.edges k.listed h)

  pub counts_unwritten : ¬ (length room ≡ 2) → room ≡ counts_written k room
  counts_unwritten n = rw (ne_eqb (length room) 2 n)

-- appending, by the measure's number and then by its answer
module _ {o : MeasureChoice} (c : Columns) (k : Counts) (a : Entries) (index list : List ℕ) (l : NewLine) (room : List ℕ) where
  pub append_measure : {r : Refusal} {n : ℕ} → o ≡ Err r → n ≡ result_of (code_of r) → left_grown n c a index list room ≡ appended_result o c k a index list l room
  append_measure p q = rw (p, q)

  module _ {m : Measure} (p : o ≡ Ok m) {x : Appending} {c' : Columns} {a' : Entries} {i' l' : List ℕ} (e : leaves x c' a' i' l' ≡ appended m c k a index list l) where
    pub append_refused : {r : Refusal} {n : ℕ} → x ≡ Err r → n ≡ result_of (code_of r) → left_grown n c' a' i' l' room ≡ appended_result o c k a index list l room
    append_refused q s = rw (p, ← e, q, s)

    pub append_counts : {k' : Counts} {room' : List ℕ} → x ≡ Ok k' → room' ≡ counts_written k' room → left_grown 0 c' a' i' l' room' ≡ appended_result o c k a index list l room
    append_counts q s = rw (p, ← e, q, s)

-- the mean and the variance
module _ (m : Moments) (room : List ℕ) where
  pub moments_written_lem : length room ≡ 4
      → set (set (set (set room 0 m.mean.numerator) 1 m.mean.denominator) 2 m.variance.numerator) 3 m.variance.denominator ≡ moments_written m room
  moments_written_lem h = rw (eq-eqb (length room) 4 h) (four room _ _ _ _ h)

  pub moments_unwritten : ¬ (length room ≡ 4) → room ≡ moments_written m room
  moments_unwritten n = rw (ne_eqb (length room) 4 n)

-- summarizing, by its answer
module _ {x s : Summary} (room : List ℕ) (e : s ≡ x) where
  pub summary_refused : {r : Refusal} {n : ℕ} → s ≡ Err r → n ≡ result_of (code_of r) → record { result = n; left = room } ≡ summary_left x room
  summary_refused p q = rw (← e, p, q)

  pub summary_moments : {m : Moments} {room' : List ℕ} → s ≡ Ok m → room' ≡ moments_written m room → record { result = 0; left = room' } ≡ summary_left x room
  summary_moments p q = rw (← e, p, q)

module _ {o : MeasureChoice} (c : Columns) (a : Entries) {n : ℕ} where
  pub ordered_refused : {r : Refusal} → o ≡ Err r → n ≡ result_of (code_of r) → record { result = n; left = a } ≡ ordered_result o c a
  ordered_refused p q = rw (p, q)

  pub ordered_measure : {m : Measure} {x : Acceptance} {b : Entries} → o ≡ Ok m → n ≡ acceptance_result x → record { result = x; left = b } ≡ settled_in_order m c a
      → record { result = n; left = b } ≡ ordered_result o c a
  ordered_measure {m} {x} {b} p q e = rw (p, q) (ap outcome_result e)

-- replaying, by the measure's number
module _ {o : MeasureChoice} (c : Columns) (a : Entries) (parts received stock outcomes : List ℕ) {n : ℕ} where
  pub replay_refused : {r : Refusal} → o ≡ Err r → n ≡ result_of (code_of r)
      → record { result = n; stock = stock; outcomes = outcomes } ≡ replayed_result o c a parts received stock outcomes
  replay_refused p q = rw (p, q)

  pub replay_measure : {m : Measure} {x : Acceptance} {s os : List ℕ} → o ≡ Ok m → n ≡ acceptance_result x
      → record { result = x; stock = s; outcomes = os } ≡ replayed m c a parts received stock outcomes
      → record { result = n; stock = s; outcomes = os } ≡ replayed_result o c a parts received stock outcomes
  replay_measure p q k = rw (p, q) (ap replay_result k)

-- shuffling and unshuffling
pub laid_number : {x : Outcome} {a : Acceptance} {xs : List ℕ} {n : ℕ} → outcome a xs ≡ x → n ≡ acceptance_result a → record { result = n; left = xs } ≡ laid_result x
laid_number p q = rw q (ap laid_result p)
