-- "Read after write gives the table with its gaps closed; write after read gives the text back": the paper's "The text", of what the contracts of
-- `read_table` and `write_table` say. Assumes nothing.
use Prim.Native.Nat.{ℕ, ◌*◌, ◌≤◌}
use mathlib.Core.Path.{◌≡◌, refl, sym, ◌∙◌, ap, ap₂}
use mathlib.Core.List.{List}
use mathlib.Core.Bool.{Bool, true, false}
use native.Mathlib.Omega.{arith}
use lib.ListN.{length, take}
use lib.Dec.{leb}
use borrow.Author.Tests.{le-leb}
use Rattle.weights.specs.declared.Measure.{Measure}
use Rattle.weights.specs.Choice.{pick}
use Rattle.refusal.specs.declared.Refusal.{Refusal}
use Rattle.refusal.specs.declared.Refusal.TheVariants.{TextRoom}
use Rattle.refusal.specs.declared.Header.{Header}
use Rattle.columns.specs.Columns.{Columns}
use Rattle.columns.specs.Acceptance.{acceptance}
use Rattle.text.specs.Tables.{Edge, Table, table_of, listed_in_all, heads_of, owns_of, marks_of, spans_from, tails_of, columns_of, closed}
use Rattle.text.specs.Render.{text_of, render}
use Rattle.text.specs.Machine.{Parse, Whole, Wrong, parse}
use Rattle.text.proofs.Rows.{edges_of-columns, accepted_fits, fits_accepted, length_heads, length_owns, length_marks, length_spans, length_tails}
use Rattle.text.proofs.Sound.{sound}
use Rattle.text.proofs.Complete.{complete}
use Rattle.columns.specs.Filled.{filled}
use Rattle.columns.proofs.Filled.{take-filled}
use Rattle.reading.specs.Lines.{header_of}
use Rattle.readtable.specs.Read.{read_outcome, columns_read, room_for, read_into, read_table}
use Rattle.writetable.specs.Write.{write_outcome, write_text, write_as, write_table}
use Rattle.roundtrip.specs.RoundTrip.{Room, header_for, filled_with}
use Rattle.refusal.specs.Answers.{Acceptance}
use Rattle.std.specs.Prelude.{Ok, Err}
use Rattle.refusal.specs.Answers.{Extent}
use Rattle.refusal.specs.Answers.{Reading}

-- The text of an accepted table is read as the table with its gaps closed --------------------------------------------------------------------

header_is : (m : Measure) (n : ℕ) (es : List Edge) → header_of (record { vertices = n; measure = m; edges = es }) ≡ header_for m (columns_of n es)
header_is m n es = ap₂ (λ (a b : ℕ). record { vertices = n; measure = m; edges = a; listed = b }) (sym (length_heads es)) (sym (length_tails es))

pub roomy : (u : Table) (h o ms s t : List ℕ) → Room (columns_of u.vertices u.edges) h o ms s t → room_for (header_of u) (length h) (length o) (length ms) (length s) (length t) ≡ true
unfolding room_for
roomy u h o ms s t r =
    let a = length_heads u.edges in
    let b = length_owns u.edges in
    let i = length_marks u.edges in
    let c = length_spans 0 u.edges in
    let d = length_tails u.edges in
    let p = r.heads in
    let q = r.own in
    let k = r.strikes in
    let v = r.spans in
    let w = r.tails in
    rw (
      le-leb (length u.edges) (length h) (omega arith),
      le-leb (length u.edges) (length o) (omega arith),
      le-leb (length u.edges) (length ms) (omega arith),
      le-leb (2 * length u.edges) (length s) (omega arith),
    )
    (le-leb (listed_in_all u.edges) (length t) (omega arith))

-- a text that holds a table is read into columns that have room for it
pub read_table_lem : (text : List ℕ) (u : Table) (h o ms s t : List ℕ) → parse text ≡ Whole u → Room (columns_of u.vertices u.edges) h o ms s t
    → read_table text h o ms s t ≡ filled_with (columns_of u.vertices u.edges) u.measure h o ms s t
unfolding read_into
read_table_lem text u h o ms s t e r =
    rw (e, roomy u h o ms s t r)
    (ap
    (λ (z : Header). read_outcome (Ok z) (filled (heads_of u.edges) h) (filled (owns_of u.edges) o) (filled (marks_of u.edges) ms)
    (filled (spans_from 0 u.edges) s) (filled (tails_of u.edges) t))
    (header_is u.measure u.vertices u.edges))

pub read_rendered : (m : Measure) (c : Columns) (h o ms s t : List ℕ) → acceptance c ≡ Ok tt → Room (closed c) h o ms s t → read_table (render m c) h o ms s t ≡ filled_with (closed c) m h o ms s t
read_rendered m c h o ms s t a r = read_table_lem (render m c) (table_of m c) h o ms s t (complete (table_of m c) (accepted_fits m c a)) r

-- Read after write ----------------------------------------------------------------------------------------------------------------------------

no_length : {x : Refusal} {k : ℕ} → ◌≡◌ {A = Extent} (Err x) (Ok k) → ⊥
no_length {x} {k} e = let z : ◌≡◌ {A = ℕ} 0 1 = cc in omega arith

no_table : {x : Refusal} {g : Header} → ◌≡◌ {A = Reading} (Err x) (Ok g) → ⊥
no_table {x} {g} e = let z : ◌≡◌ {A = ℕ} 0 1 = cc in omega arith

-- a text that was written stands at the room's start
text_there : (text room : List ℕ) (k : ℕ) → (write_text text room).answer ≡ Ok k → take k (write_text text room).room ≡ text
unfolding write_text
text_there text room k e = go (leb (length text) (length room)) e
  where
    go : (b : Bool) → (pick b (write_outcome (Ok (length text)) (filled text room)) (write_outcome (Err TextRoom) room)).answer ≡ Ok k
        → take k (pick b (write_outcome (Ok (length text)) (filled text room)) (write_outcome (Err TextRoom) room)).room ≡ text
    go true q = let z : length text ≡ k = cc in take-filled text room k z
    go false q = absurd (no_length q)

-- a table that was written was accepted, and its text stands at the room's start
pub written : (m : Measure) (c : Columns) (room : List ℕ) (k : ℕ) → (write_table m c room).answer ≡ Ok k → (acceptance c ≡ Ok tt) × (take k (write_table m c room).room ≡ render m c)
written m c room k e = go (acceptance c) refl e
  where
    go : (a : Acceptance) → acceptance c ≡ a → (write_as a (render m c) room).answer ≡ Ok k → (acceptance c ≡ Ok tt) × (take k (write_as a (render m c) room).room ≡ render m c)
    go (Ok _) p q = (p, text_there (render m c) room k q)
    go (Err r) p q = absurd (no_length q)

-- what was written, read into columns with room for it, is the table with its gaps closed
pub read_after_write : (m : Measure) (c : Columns) (room : List ℕ) (k : ℕ) (h o ms s t : List ℕ) → (write_table m c room).answer ≡ Ok k → Room (closed c) h o ms s t
    → read_table (take k (write_table m c room).room) h o ms s t ≡ filled_with (closed c) m h o ms s t
read_after_write m c room k h o ms s t e r =
    let w = written m c room k e in
    ap (λ (z : List ℕ). read_table z h o ms s t) w.1 ∙ read_rendered m c h o ms s t w.0 r

-- Write after read ----------------------------------------------------------------------------------------------------------------------------

-- a text that was read holds a table, and those are its columns
pub record Held (text h o ms s t : List ℕ) (g : Header) : Type 0 where
  pub table : Table
  pub whole : parse text ≡ Whole table
  pub header_same : g ≡ header_of table
  pub outcome : read_table text h o ms s t ≡ read_outcome (Ok (header_of table)) (filled (heads_of table.edges) h)
      (filled (owns_of table.edges) o) (filled (marks_of table.edges) ms) (filled (spans_from 0 table.edges) s) (filled (tails_of table.edges) t)

pub held : (text h o ms s t : List ℕ) (g : Header) → (read_table text h o ms s t).answer ≡ Ok g → Held text h o ms s t g
unfolding read_into
held text h o ms s t g e = go (parse text) refl e
  where
    whole : (u : Table) → parse text ≡ Whole u → (b : Bool) → room_for (header_of u) (length h) (length o) (length ms) (length s) (length t) ≡ b
        → (pick b
        (read_outcome (Ok (header_of u)) (filled (heads_of u.edges) h) (filled (owns_of u.edges) o) (filled (marks_of u.edges) ms)
        (filled (spans_from 0 u.edges) s) (filled (tails_of u.edges) t))
        (read_outcome (Err TextRoom) h o ms s t)).answer ≡ Ok g
        → Held text h o ms s t g
    whole u p true b q = record { table = u; whole = p; header_same = let z : header_of u ≡ g = cc in sym z; outcome = unfold read_into in rw (p, b) }
    whole u p false b q = absurd (no_table q)

    go : (P : Parse) → parse text ≡ P → (read_into text P h o ms s t).answer ≡ Ok g → Held text h o ms s t g
    go (Whole u) p q = whole u p (room_for (header_of u) (length h) (length o) (length ms) (length s) (length t)) refl (unfold read_into in q)
    go (Wrong l) p q = absurd (no_table (unfold read_into in q))

module _ (text h o ms s t : List ℕ) (g : Header) (k : Held text h o ms s t g) where
  abbrev es : List Edge
  es = k.table.edges

  pub columns_are : columns_read g (read_table text h o ms s t) ≡ columns_of k.table.vertices es
  columns_are =
      let heads = take-filled (heads_of es) h (length es) (length_heads es) in
      let own = take-filled (owns_of es) o (length es) (length_owns es) in
      let strikes = take-filled (marks_of es) ms (length es) (length_marks es) in
      let spans = take-filled (spans_from 0 es) s (2 * length es) (length_spans 0 es) in
      let tails = take-filled (tails_of es) t (listed_in_all es) (length_tails es) in
      ap₂ columns_read k.header_same k.outcome ∙ rw (heads, own, strikes, spans, tails)

  accepted_again : acceptance (columns_read g (read_table text h o ms s t)) ≡ Ok tt
  accepted_again = ap acceptance columns_are ∙ fits_accepted k.table (sound text k.table k.whole).0

  text_again : render g.measure (columns_read g (read_table text h o ms s t)) ≡ text
  text_again =
      ap₂ render (ap (λ (z : Header). z.measure) k.header_same) columns_are
      ∙ ap (λ (z : List Edge). text_of (record { vertices = k.table.vertices; measure = k.table.measure; edges = z })) (edges_of-columns k.table.vertices es)
      ∙ sym (sound text k.table k.whole).1

-- what was read, written into room that holds the text, is the text again, byte for byte; and the room behind it is as it was
pub write_after_read : (text h o ms s t room : List ℕ) (g : Header) → (read_table text h o ms s t).answer ≡ Ok g → length text ≤ length room
    → write_table g.measure (columns_read g (read_table text h o ms s t)) room ≡ write_outcome (Ok (length text)) (filled text room)
unfolding write_text
write_after_read text h o ms s t room g e l =
    let k = held text h o ms s t g e in
    ap (λ (a : Acceptance). write_as a (render g.measure (columns_read g (read_table text h o ms s t))) room) (accepted_again text h o ms s t g k)
    ∙ ap (λ (z : List ℕ). write_text z room) (text_again text h o ms s t g k)
    ∙ rw (le-leb (length text) (length room) l)

-- what was read is accepted
pub read_accepted : (text h o ms s t : List ℕ) (g : Header) → (read_table text h o ms s t).answer ≡ Ok g → acceptance (columns_read g (read_table text h o ms s t)) ≡ Ok tt
read_accepted text h o ms s t g e = accepted_again text h o ms s t g (held text h o ms s t g e)
