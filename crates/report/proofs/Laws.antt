-- The laws by which rows are written one after the other, and by which the answers of the calls tell what is to be written. Assumes nothing.
use mathlib.Core.Path.{◌≡◌, refl, sym, ◌∙◌, ap, subst}
use mathlib.Core.List.{List, ◌∷◌, ◌++◌}
use Prim.Native.Nat.{ℕ, zero, suc, ◌+◌, ◌-◌, ◌≤◌, ◌<◌}
use native.Mathlib.Numerals.{add-one}
use native.Mathlib.Omega.{arith}
use lib.ListN.{length, take, drop, replicate, length-append, length-replicate}
use Rattle.weights.specs.declared.Measure.{Measure}
use Rattle.weights.specs.declared.Entry.{Entry}
use Rattle.refusal.specs.declared.Refusal.{Refusal}
use Rattle.refusal.specs.declared.Header.{Header}
use Rattle.columns.specs.Columns.{Entries, Columns, entries}
use Rattle.columns.specs.Acceptance.{most_vertices, lent_acceptance}
use Rattle.columns.proofs.Accepted.{columns_accepted}
use Rattle.columns.specs.Owed.{Outcome}
use Rattle.settle.specs.Settling.{entry_at, settled}
use Rattle.settle.proofs.Demands.{entries_sized, settled_result_lem, settled_left}
use Rattle.columns.specs.Filled.{filled}
use Rattle.readtable.specs.Read.{ReadOutcome, read_outcome}
use Rattle.writing.specs.Written.{Written}
use Rattle.writing.proofs.Written.{lent, lent-room, within, written_part, written_as}
use Rattle.report.specs.Report.{most_input, most_output, row, rows, list, refused_line, priced_as, priced, blank_entries, listed_as, listed, read_input, report}
use Rattle.report.specs.Pieces.{Lent, lent_columns}
use Rattle.report.proofs.Reports.{report-short, report_fits, input_lent}
use Rattle.refusal.specs.Answers.{Acceptance, Reading}
use Rattle.std.specs.Prelude.{Ok, Err}

rows_next : (a : Entries) (i : ℕ) → rows a (i + 1) ≡ rows a i ++ row i (entry_at a i)
unfolding rows
rows_next a i = ap (rows a) (add-one i)

grows : (a : Entries) (i d : ℕ) → length (rows a i) ≤ length (rows a (i + d))
unfolding rows
grows a i zero = let q : i + 0 ≡ i = omega arith in let e = ap (λ (k : ℕ). length (rows a k)) q in omega arith
grows a i (suc d) =
    let q : i + suc d ≡ suc (i + d) = omega arith in
    let e = ap (λ (k : ℕ). length (rows a k)) q in
    let r = grows a i d in
    let l = length-append (rows a (i + d)) (row (i + d) (entry_at a (i + d))) in
    omega arith

-- the rows so far are no longer than all
pub rows_within : (a : Entries) (i n : ℕ) → i ≤ n → length (rows a i) ≤ length (rows a n)
rows_within a i n h = let q : i + (n - i) ≡ n = omega arith in let g = grows a i (n - i) in let e = ap (λ (k : ℕ). length (rows a k)) q in omega arith

module _ (a : Entries) (old room : List ℕ) (i n at : ℕ) (h : i < n) (w : Written (rows a i) old at room) (l : length (rows a n) ≤ length old) (x : Entry) (q : x ≡ entry_at a i) where
  one_more : rows a (i + 1) ≡ rows a i ++ row i x
  one_more = rows_next a i ∙ ap (λ (z : Entry). rows a i ++ row i z) (sym q)

  fits : length (rows a i ++ row i x) ≤ length old
  fits = let b = rows_within a (i + 1) n (omega arith) in let e = ap length one_more in omega arith

  -- there is room for the next row, and with it one more is written
  pub row_starts : at ≤ length room
  row_starts = within (rows a i) old at room w (row i x) fits

  pub row_room : length (row i x) ≤ length (lent (rows a i) old at room w)
  row_room = lent-room (rows a i) old at room w (row i x) fits

  pub row_next : (r : ℕ) (new : List ℕ) → Written (row i x) (lent (rows a i) old at room w) r new
      → Written (rows a (i + 1)) old (at + r) (take at room ++ (new ++ drop (length room - at) (drop at room)))
  row_next r new m = written_as old (at + r) (take at room ++ (new ++ drop (length room - at) (drop at room))) (sym one_more) (written_part (rows a i) old at room w (row i x) r new fits m)

pub rows_all : (a : Entries) (old room : List ℕ) (i n at : ℕ) → i ≤ n → n ≤ i → Written (rows a i) old at room → Written (rows a n) old at room
rows_all a old room i n at h g w = let q : i ≡ n = omega arith in written_as old at room (ap (rows a) q) w

-- Settling -------------------------------------------------------------------------------------------------------------------------------------

-- n places of zeros
pub take_zeros : (n k : ℕ) → n ≤ k → take n (replicate {A = ℕ} k 0) ≡ replicate n 0
take_zeros zero k h = refl
take_zeros (suc n) zero h = absurd (omega arith)
take_zeros (suc n) (suc k) h = ap (λ (z : List ℕ). 0 ∷ z) (take_zeros n k (omega arith))

pub zeros_long : (n : ℕ) → n ≤ most_vertices → n ≡ length (take n (replicate {A = ℕ} most_vertices 0))
zeros_long n h = sym (ap length (take_zeros n most_vertices h) ∙ length-replicate n 0)

-- answer columns of n zeros, taken from larger ones
pub priced_blank : (m : Measure) (c : Columns) (n : ℕ) → n ≤ most_vertices
    → priced n (settled m c (entries (take n (replicate most_vertices 0)) (take n (replicate most_vertices 0)) (take n (replicate most_vertices 0)) (take n (replicate most_vertices 0))))
    ≡ priced n (settled m c (blank_entries n))
priced_blank m c n h = ap (λ (z : List ℕ). priced n (settled m c (entries z z z z))) (take_zeros n most_vertices h)

module _ (m : Measure) (c : Columns) (a : Entries) (x : Acceptance) (b : Entries) (q : record { result = x; left = b } ≡ settled m c a) where
  pub priced_refused : (r : Refusal) → x ≡ Err r → priced c.vertices (settled m c a) ≡ refused_line r
  priced_refused r e = ap (priced c.vertices) (sym q) ∙ ap (λ (z : Acceptance). priced_as c.vertices z b) e

  -- the columns left are as long as there are vertices
  left_sized : x ≡ Ok tt → length b.labels.depths ≡ c.vertices
  left_sized e =
      let p : lent_acceptance c a ≡ (Ok tt) = sym (settled_result_lem m c a) ∙ sym (ap (λ (o : Outcome Acceptance Entries). o.result) q) ∙ e in
      ap (λ (o : Outcome Acceptance Entries). length o.left.labels.depths) q
      ∙ ap (λ (z : Entries). length z.labels.depths) (settled_left m c a p) ∙ (entries_sized m c (columns_accepted c a p).table).labels.depths

  pub priced_accepted : x ≡ Ok tt → priced c.vertices (settled m c a) ≡ list b (length b.labels.depths)
  priced_accepted e = ap (priced c.vertices) (sym q) ∙ ap (λ (z : Acceptance). priced_as c.vertices z b) e ∙ ap (list b) (sym (left_sized e))

-- The whole ------------------------------------------------------------------------------------------------------------------------------------

-- bytes that are the report's, and are written
pub reported : (input bytes old : List ℕ) (r : ℕ) (room : List ℕ) → report input ≡ bytes → Written bytes old r room → (r ≡ length (report input)) × (room ≡ filled (report input) old)
reported input bytes old r room e w = (w.count ∙ ap length (sym e), w.room_is ∙ ap (λ (z : List ℕ). filled z old) (sym e))

module _ (input : List ℕ) (short : length input ≤ most_input) (a : Reading) (h o ms s t : List ℕ) (q : read_outcome a h o ms s t ≡ read_input input) where
  pub report_refused : (r : Refusal) → a ≡ Err r → report input ≡ refused_line r
  unfolding listed_as
  report_refused r e = report-short input short ∙ ap listed (sym q) ∙ ap (λ (z : Reading). listed_as z (read_outcome a h o ms s t)) e

  pub report-table : (g : Header) → a ≡ Ok g → report input ≡ priced g.vertices (settled g.measure (lent_columns g h o ms s t) (blank_entries g.vertices))
  unfolding listed_as
  report-table g e = report-short input short ∙ ap listed (sym q) ∙ ap (λ (z : Reading). listed_as z (read_outcome a h o ms s t)) e

  pub table-lent : (g : Header) (room : ℕ) → room ≡ most_output → a ≡ Ok g → Lent g h o ms s t room
  table-lent g room l e =
      subst (λ (x : ReadOutcome). Lent g x.heads x.own x.strikes x.spans x.tails room) (sym q) (input_lent input g room short l (sym (ap (λ (x : ReadOutcome). x.answer) q) ∙ e))

-- what the report needs of room
pub report_within : (input bytes : List ℕ) (room : ℕ) → room ≡ most_output → report input ≡ bytes → length bytes ≤ room
report_within input bytes room l e = let f = report_fits input in let q = ap length e in omega arith
