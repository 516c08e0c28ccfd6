-- What is said of two tables, by what settling and reading the second returned. Assumes nothing.
use mathlib.Core.Path.{◌≡◌, refl, sym, ◌∙◌, ap, subst}
use mathlib.Core.List.{List}
use Prim.Native.Nat.{ℕ, max, ◌≤◌, ◌<◌}
use lib.ListN.{length, take, replicate}
use borrow.Author.Tests.{lt-ltb, le-ltb}
use Rattle.weights.specs.declared.Measure.{Measure}
use Rattle.refusal.specs.declared.Refusal.{Refusal}
use Rattle.refusal.specs.declared.Refusal.TheVariants.{InputLength}
use Rattle.refusal.specs.declared.Header.{Header}
use Rattle.columns.specs.Columns.{Entries, Columns, entries}
use Rattle.columns.specs.Acceptance.{most_vertices}
use Rattle.settle.specs.Settling.{settled}
use Rattle.readtable.specs.Read.{ReadOutcome, read_outcome}
use Rattle.writing.specs.Written.{Written}
use Rattle.writing.proofs.Written.{written_as}
use Rattle.report.specs.Report.{most_input, blank_entries, read_input}
use Rattle.report.specs.Pieces.{lent_columns}
use Rattle.report.proofs.Laws.{take_zeros}
use Rattle.reply.specs.declared.Status.TheVariants.{Answered}
use Rattle.reply.specs.declared.Reply.{Reply}
use Rattle.reply.specs.Reply.{Said, answered, second_refused, on_second, Replied}
use Rattle.compare.specs.Compare.{differences, compared_as, compared_with, compared_said}
use Rattle.refusal.specs.Answers.{Acceptance, Reading}
use Rattle.std.specs.Prelude.{Ok, Err}

-- a reply that says what is to be said
pub replied_as : {s t : Said} (old : List ℕ) (r : Reply) (room : List ℕ) → s ≡ t → Replied s old r room → Replied t old r room
replied_as old r room e h = subst (λ (z : Said). Replied z old r room) e h

-- Settling ---------------------------------------------------------------------------------------------------------------------------------------

module _ (n k : ℕ) (a : Entries) (m : Measure) (c : Columns) (b₀ : Entries) (x : Acceptance) (b : Entries) (q : record { result = x; left = b } ≡ settled m c b₀) where
  told : on_second x (answered (differences a b (max n k))) ≡ compared_as n k a (settled m c b₀)
  told = ap (compared_as n k a) q

  pub settled_refused : (r : Refusal) → x ≡ Err r → second_refused r ≡ compared_as n k a (settled m c b₀)
  unfolding on_second
  settled_refused r e = ap (λ (z : Acceptance). on_second z (answered (differences a b (max n k)))) (sym e) ∙ told

  pub settled_accepted : x ≡ Ok tt → answered (differences a b (max n k)) ≡ compared_as n k a (settled m c b₀)
  unfolding on_second
  settled_accepted e = ap (λ (z : Acceptance). on_second z (answered (differences a b (max n k)))) (sym e) ∙ told

  -- the rows of as many parts are written
  pub reply_rows : x ≡ Ok tt → (parts : ℕ) → parts ≡ max n k → (old : List ℕ) (w : ℕ) (room : List ℕ) → Written (differences a b parts) old w room
      → Replied (compared_as n k a (settled m c b₀)) old (record { width = w; status = Answered }) room
  reply_rows e parts p old w room h =
      replied_as old (record { width = w; status = Answered }) room (settled_accepted e)
      (record { status = refl; written = written_as old w room (ap (differences a b) p) h })

-- answer columns of k zeros, taken from larger ones
pub blank_said : (n k : ℕ) (a : Entries) (m : Measure) (c : Columns) → k ≤ most_vertices
    → compared_as n k a (settled m c (entries (take k (replicate most_vertices 0)) (take k (replicate most_vertices 0)) (take k (replicate most_vertices 0)) (take k (replicate most_vertices 0))))
    ≡ compared_as n k a (settled m c (blank_entries k))
blank_said n k a m c h = ap (λ (z : List ℕ). compared_as n k a (settled m c (entries z z z z))) (take_zeros k most_vertices h)

-- The second text --------------------------------------------------------------------------------------------------------------------------------

module _ (n : ℕ) (a : Entries) (second : List ℕ) where
  pub long_said : most_input < length second → second_refused InputLength ≡ compared_said n a second
  unfolding compared_said
  long_said h = rw (lt-ltb most_input (length second) h)

  pub short_said : length second ≤ most_input → compared_said n a second ≡ compared_with n a (read_input second).answer (read_input second)
  unfolding compared_said
  short_said h = rw (le-ltb most_input (length second) h)

  module _ (short : length second ≤ most_input) (x : Reading) (h o ms s t : List ℕ) (q : read_outcome x h o ms s t ≡ read_input second) where
    by_reading : compared_with n a x (read_outcome x h o ms s t) ≡ compared_said n a second
    by_reading = ap (λ (z : ReadOutcome). compared_with n a z.answer z) q ∙ sym (short_said short)

    pub unread_said : (r : Refusal) → x ≡ Err r → second_refused r ≡ compared_said n a second
    unread_said r e = ap (λ (z : Reading). compared_with n a z (read_outcome x h o ms s t)) (sym e) ∙ by_reading

    pub table_said_lem : (g : Header) → x ≡ Ok g
        → compared_as n g.vertices a (settled g.measure (lent_columns g h o ms s t) (blank_entries g.vertices)) ≡ compared_said n a second
    table_said_lem g e = ap (λ (z : Reading). compared_with n a z (read_outcome z h o ms s t)) (sym e) ∙ by_reading
