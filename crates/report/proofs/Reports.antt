-- What an output is: it fits its room; a table that was read is settled, so the one refusal of a text is its own; and the text of an accepted table gives the
-- list of its answers. The paper's "A table priced whole". Assumes nothing.
use Prim.Native.Nat.{ℕ, ◌+◌, ◌*◌, ◌≤◌, ◌<◌}
use mathlib.Core.Path.{◌≡◌, refl, sym, ◌∙◌, ap, subst}
use mathlib.Core.List.{List}
use native.Mathlib.Omega.{arith}
use lib.ListN.{length, replicate, length-replicate}
use lib.Dec.{ltb}
use borrow.Author.Tests.{lt-ltb, le-ltb, ltb-false}
use Rattle.weights.specs.declared.Measure.{Measure}
use Rattle.refusal.specs.declared.Refusal.TheVariants.{Text, InputLength}
use Rattle.refusal.specs.declared.Header.{Header}
use Rattle.refusal.specs.Refusals.{place_of, column_of}
use Rattle.columns.specs.Columns.{Entries, Columns}
use Rattle.columns.specs.Acceptance.{most_edges, most_listed, acceptance, lent_acceptance}
use Rattle.columns.proofs.Accepted.{table_accepted, columns_accept}
use Rattle.settle.specs.Settling.{entries_of, settled}
use Rattle.settle.proofs.Demands.{settled_result_lem}
use Rattle.text.specs.Tables.{heads_of, owns_of, marks_of, spans_from, tails_of, closed}
use Rattle.text.specs.Render.{render, Permitted}
use Rattle.text.specs.Machine.{Parse, Whole, Wrong, parse}
use Rattle.text.proofs.Digits.{pick_by}
use Rattle.text.proofs.Rows.{closed_accepted, length_heads, length_owns, length_marks, length_spans, length_tails}
use Rattle.text.proofs.Sound.{sound}
use Rattle.text.specs.Permitted.{FirstWrong}
use Rattle.text.specs.Bytes.{FirstByte}
use Rattle.columns.proofs.Filled.{length-filled}
use Rattle.reading.specs.Lines.{header_of}
use Rattle.reading.proofs.Low.{wrong_low}
use Rattle.readtable.specs.Read.{ReadOutcome, columns_read, room_for, read_into}
use Rattle.roundtrip.specs.RoundTrip.{Room, header_for, filled_with}
use Rattle.roundtrip.proofs.RoundTrip.{held, read_accepted, read_rendered}
use Rattle.roundtrip.proofs.Refused.{unpermitted_is_refused}
use Rattle.report.specs.Report.{most_input, most_output, list, refused_line, priced, blank_entries, listed_as, listed, read_input, report}
use Rattle.report.specs.Pieces.{Lent}
use Rattle.report.proofs.Closed.{entries_closed, filled_back}
use Rattle.report.proofs.Bounds.{answers_ranged, list_most, refused_most, column_most}
use Rattle.refusal.specs.Answers.{Reading}
use Rattle.std.specs.Prelude.{Ok, Err}

-- A table that was read ------------------------------------------------------------------------------------------------------------------------

module _ (input : List ℕ) (g : Header) (e : (read_input input).answer ≡ Ok g) where
  abbrev table : Columns
  table = columns_read g (read_input input)

  pub input_accepted : acceptance table ≡ Ok tt
  unfolding read_input
  input_accepted = read_accepted input _ _ _ _ _ g e

  lent : lent_acceptance table (blank_entries g.vertices) ≡ Ok tt
  lent =
      columns_accept table (blank_entries g.vertices) input_accepted
      (record {
        labels = record { weights = length-replicate g.vertices 0; depths = length-replicate g.vertices 0; edges = length-replicate g.vertices 0 };
        pieces = length-replicate g.vertices 0;
      })

  -- settling it is never refused
  pub read_settles : (settled g.measure table (blank_entries g.vertices)).result ≡ Ok tt
  read_settles = settled_result_lem g.measure table (blank_entries g.vertices) ∙ lent

  -- so its list is printed
  pub read_listed : listed (read_input input) ≡ list (entries_of g.measure table) g.vertices
  unfolding listed_as settled
  read_listed = rw (e, lent)

-- By the length of an input ---------------------------------------------------------------------------------------------------------------------

-- 17 comes first
pub report_long : (input : List ℕ) → most_input < length input → report input ≡ refused_line InputLength
unfolding report
report_long input h = rw (lt-ltb most_input (length input) h)

pub report-short : (input : List ℕ) → length input ≤ most_input → report input ≡ listed (read_input input)
unfolding report
report-short input h = rw (le-ltb most_input (length input) h)

-- Every output fits the room --------------------------------------------------------------------------------------------------------------------

-- the place that a reading tells, line and column
abbrev Low : Reading → Type 0
Low (Ok g) = Unit {0}
Low (Err r) = (place_of r < 10_000) × (column_of r < 100_000)

place_low : (text h o ms s t : List ℕ) (P : Parse) → length text ≤ most_input → ((l : ℕ) → P ≡ Wrong l → l ≤ most_edges + 2) → Low (read_into text P h o ms s t).answer
unfolding read_into
place_low text h o ms s t (Wrong l) short k = let m = k l refl in let c = column_most text in (omega arith, omega arith)
place_low text h o ms s t (Whole u) short k =
    pick_by (λ (x : ReadOutcome). Low x.answer) (room_for (header_of u) (length h) (length o) (length ms) (length s) (length t)) (λ _. tt) (λ _. (omega arith, omega arith))

read_low : (input : List ℕ) → length input ≤ most_input → Low (read_input input).answer
unfolding read_input
read_low input short = place_low input _ _ _ _ _ (parse input) short (λ l e. wrong_low input l e)

listed_fits : (input : List ℕ) → length input ≤ most_input → length (listed (read_input input)) ≤ most_output
listed_fits input short = go (read_input input).answer refl
  where
    go : (a : Reading) → (read_input input).answer ≡ a → length (listed (read_input input)) ≤ most_output
    go (Err r) e =
        let q : listed (read_input input) ≡ refused_line r = unfold listed_as in ap (λ (a : Reading). listed_as a (read_input input)) e in
        let p = subst Low e (read_low input short) in
        subst (λ (z : List ℕ). length z ≤ most_output) (sym q) (refused_most r p.0 p.1)
    go (Ok g) e =
        let a = input_accepted input g e in
        let m =
        list_most (entries_of g.measure (columns_read g (read_input input))) (answers_ranged g.measure (columns_read g (read_input input)) a)
        g.vertices (table_accepted (columns_read g (read_input input)) a).few in
        subst (λ (z : List ℕ). length z ≤ most_output) (sym (read_listed input g e)) m

pub report_fits : (input : List ℕ) → length (report input) ≤ most_output
unfolding report
report_fits input = pick_by (λ (z : List ℕ). length z ≤ most_output) (ltb most_input (length input)) (λ _. refused_most InputLength (omega arith) (omega arith))
    (λ e. listed_fits input (ltb-false most_input (length input) e))

-- The output of a text -------------------------------------------------------------------------------------------------------------------------

module _ (m : Measure) (c : Columns) (a : acceptance c ≡ Ok tt) where
  abbrev zeros : ℕ → List ℕ
  zeros n = replicate n 0

  roomy : Room (closed c) (zeros most_edges) (zeros most_edges) (zeros most_edges) (zeros (2 * most_edges)) (zeros most_listed)
  roomy =
      let t = table_accepted (closed c) (closed_accepted m c a) in
      let e = t.edges in
      let o = t.own in
      let k = t.strikes in
      let s = t.spans in
      let l = t.tails in
      let p = length-replicate {A = ℕ} most_edges 0 in
      let q = length-replicate {A = ℕ} (2 * most_edges) 0 in
      let r = length-replicate {A = ℕ} most_listed 0 in
      record { heads = omega arith; own = omega arith; strikes = omega arith; spans = omega arith; tails = omega arith }

  -- its text is read: the answer, and the table with its gaps closed
  pub rendered : read_input (render m c) ≡ filled_with (closed c) m (zeros most_edges) (zeros most_edges) (zeros most_edges) (zeros (2 * most_edges)) (zeros most_listed)
  unfolding read_input
  rendered = read_rendered m c (zeros most_edges) (zeros most_edges) (zeros most_edges) (zeros (2 * most_edges)) (zeros most_listed) a roomy

  pub columns_back : columns_read (header_for m (closed c)) (read_input (render m c)) ≡ closed c
  columns_back = ap (columns_read (header_for m (closed c))) rendered ∙ filled_back m c a (zeros most_edges) (zeros most_edges) (zeros most_edges) (zeros (2 * most_edges)) (zeros most_listed)

  -- of an accepted table whose text is short enough: the list of its best-first answers
  pub report_rendered : length (render m c) ≤ most_input → report (render m c) ≡ list (entries_of m c) c.vertices
  report_rendered h =
      report-short (render m c) h
      ∙ read_listed (render m c) (header_for m (closed c)) (ap (λ (x : ReadOutcome). x.answer) rendered)
      ∙ ap (λ (z : Columns). list (entries_of m z) c.vertices) columns_back
      ∙ ap (λ (z : Entries). list z c.vertices) (entries_closed m c a)

-- of a text that is not permitted: 14, at the first line that breaks a rule, and at the first byte that can't stand where it stands
pub report_unpermitted : (input : List ℕ) → length input ≤ most_input → (Permitted input → ⊥)
    → (k c : ℕ) × (report input ≡ refused_line (Text (record { 0 = k }) (record { 0 = c }))) × FirstWrong input k × FirstByte input k c
unfolding listed_as read_input
report_unpermitted input h n =
    let u = unpermitted_is_refused input _ _ _ _ _ n in
    (u.0, u.1, report-short input h ∙ ap listed u.2, u.3, u.4)

-- What the code asks ---------------------------------------------------------------------------------------------------------------------------

-- the table that was read stands at the start of the columns, and its output fits the room
pub input_lent : (input : List ℕ) (g : Header) (room : ℕ) → length input ≤ most_input → room ≡ most_output → (read_input input).answer ≡ Ok g
    → Lent g (read_input input).heads (read_input input).own (read_input input).strikes (read_input input).spans (read_input input).tails room
unfolding read_input
input_lent input g room short large e =
    let k = held input _ _ _ _ _ g e in
    let es = k.table.edges in
    let f = (sound input k.table k.whole).0 in
    let fe = f.edges in
    let fl = f.listed in
    let fv = f.vertices in
    let v = ap (λ (x : Header). x.vertices) k.header_same in
    let n = ap (λ (x : Header). x.edges) k.header_same in
    let l = ap (λ (x : Header). x.listed) k.header_same in
    let p = length-replicate {A = ℕ} most_edges 0 in
    let q = length-replicate {A = ℕ} (2 * most_edges) 0 in
    let r = length-replicate {A = ℕ} most_listed 0 in
    let a = length_heads es in
    let b = length_owns es in
    let i = length_marks es in
    let c = length_spans 0 es in
    let d = length_tails es in
    let hs = ap (λ (x : ReadOutcome). length x.heads) k.outcome ∙ length-filled (heads_of es) (replicate most_edges 0) (omega arith) in
    let os = ap (λ (x : ReadOutcome). length x.own) k.outcome ∙ length-filled (owns_of es) (replicate most_edges 0) (omega arith) in
    let ms = ap (λ (x : ReadOutcome). length x.strikes) k.outcome ∙ length-filled (marks_of es) (replicate most_edges 0) (omega arith) in
    let ss = ap (λ (x : ReadOutcome). length x.spans) k.outcome ∙ length-filled (spans_from 0 es) (replicate (2 * most_edges) 0) (omega arith) in
    let ts = ap (λ (x : ReadOutcome). length x.tails) k.outcome ∙ length-filled (tails_of es) (replicate most_listed 0) (omega arith) in
    let y : listed (read_input input) ≡ priced g.vertices (settled g.measure (columns_read g (read_input input)) (blank_entries g.vertices)) = unfold listed_as in
    ap (λ (z : Reading). listed_as z (read_input input)) e in
    let z = ap length (report-short input short ∙ y) in
    let w = report_fits input in
    record { few = omega arith; heads = omega arith; own = omega arith; strikes = omega arith; spans = omega arith; tails = omega arith; large = omega arith; fits = omega arith }
