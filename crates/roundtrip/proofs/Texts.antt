-- What reading gives, for every text and every five columns: exactly one of three. A permitted text with room for its table is read; a permitted one without is
-- refused by 15; what is not permitted is refused by 14 at the first byte that can't stand there; and a refusal leaves every column as it was. Assumes nothing.
use mathlib.Core.Path.{◌≡◌, refl, sym, ◌∙◌, ap, ap₂, subst}
use mathlib.Core.Bool.{Bool, true, false}
use mathlib.Core.List.{List}
use Prim.Native.Nat.{ℕ, ◌*◌}
use native.Mathlib.Omega.{arith}
use lib.ListN.{length}
use lib.Dec.{leb}
use borrow.Author.Tests.{leb-true}
use Rattle.weights.proofs.Choice.{apart, both_true}
use Rattle.refusal.specs.declared.Refusal.{Refusal}
use Rattle.refusal.specs.declared.Refusal.TheVariants.{Text, TextRoom}
use Rattle.columns.specs.Columns.{Columns}
use Rattle.columns.specs.Owed.{Owed}
use Rattle.text.specs.Tables.{Table, listed_in_all, table_of, columns_of, closed}
use Rattle.text.specs.Render.{Permitted}
use Rattle.text.specs.Machine.{Parse, Whole, Wrong, parse}
use Rattle.text.proofs.Rows.{length_heads, length_owns, length_marks, length_spans, length_tails}
use Rattle.text.proofs.Permitted.{permitted_read, read_permitted, wrong_unpermitted, wrong_place}
use Rattle.text.specs.Bytes.{column_of}
use Rattle.text.proofs.Bytes.{wrong_byte, first_byte_unique}
use Rattle.reading.specs.Lines.{header_of}
use Rattle.readtable.specs.Read.{read_outcome, room_for, read_into, read_table}
use Rattle.roundtrip.specs.RoundTrip.{Room}
use Rattle.roundtrip.proofs.RoundTrip.{roomy}
use Rattle.roundtrip.proofs.Refused.{permitted_is_read}
use Rattle.roundtrip.specs.Refused.{refused_at}
use Rattle.roundtrip.specs.Reads.{RightRead, WrongRead, ReadOwes}
use Rattle.std.specs.Prelude.{Err}

roomed : (u : Table) (h o ms s t : List ℕ) → room_for (header_of u) (length h) (length o) (length ms) (length s) (length t) ≡ true → Room (columns_of u.vertices u.edges) h o ms s t
unfolding room_for
roomed u h o ms s t e =
    let a = both_true {a = leb (length u.edges) (length h)} e in
    let b = both_true {a = leb (length u.edges) (length o)} a.1 in
    let d = both_true {a = leb (length u.edges) (length ms)} b.1 in
    let c = both_true {a = leb (2 * length u.edges) (length s)} {b = leb (listed_in_all u.edges) (length t)} d.1 in
    let p = leb-true (length u.edges) (length h) a.0 in
    let q = leb-true (length u.edges) (length o) b.0 in
    let x = leb-true (length u.edges) (length ms) d.0 in
    let v = leb-true (2 * length u.edges) (length s) c.0 in
    let w = leb-true (listed_in_all u.edges) (length t) c.1 in
    let i = length_heads u.edges in
    let j = length_owns u.edges in
    let y = length_marks u.edges in
    let k = length_spans 0 u.edges in
    let l = length_tails u.edges in
    record { heads = omega arith; own = omega arith; strikes = omega arith; spans = omega arith; tails = omega arith }

module _ (text h o ms s t : List ℕ) where
  -- a permitted text, by the test of its table's room
  of_table : (p : Permitted text) (b : Bool) → room_for (header_of (table_of p.measure p.table)) (length h) (length o) (length ms) (length s) (length t) ≡ b
      → ReadOwes text h o ms s t (read_table text h o ms s t)
  of_table p true e =
      let r = roomed (table_of p.measure p.table) h o ms s t e in
      subst (ReadOwes text h o ms s t) (sym (permitted_is_read text h o ms s t p r)) (Owed.accepted (record { permitted = p; room = r }))
  of_table p false e =
      let n : ¬ Room (closed p.table) h o ms s t = λ r. apart (sym e ∙ roomy (table_of p.measure p.table) h o ms s t r) in
      let q : read_table text h o ms s t ≡ read_outcome (Err TextRoom) h o ms s t = unfold read_into in rw (permitted_read text p, e) in
      subst (ReadOwes text h o ms s t) (sym q) (Owed.refused (WrongRead.room p n))

  pub reads : ReadOwes text h o ms s t (read_table text h o ms s t)
  reads = go (parse text) refl
    where
      go : (P : Parse) → parse text ≡ P → ReadOwes text h o ms s t (read_table text h o ms s t)
      go (Whole u) e =
          let p = read_permitted text u e in
          of_table p (room_for (header_of (table_of p.measure p.table)) (length h) (length o) (length ms) (length s) (length t)) refl
      go (Wrong k) e =
          let q : read_table text h o ms s t ≡ refused_at k (column_of text) h o ms s t = unfold read_into in rw e in
          let w = WrongRead.form k (column_of text) (wrong_unpermitted text k e) (wrong_place text k e) (wrong_byte text k e) in
          subst (ReadOwes text h o ms s t) (sym q) (Owed.refused w)

-- No two of the three --------------------------------------------------------------------------------------------------------------------------

same_table : {t u : Table} → Whole t ≡ Whole u → t ≡ u
same_table e = cc

-- a text has one table
pub permitted_same : (text : List ℕ) (p q : Permitted text) → closed p.table ≡ closed q.table
permitted_same text p q = ap (λ (u : Table). columns_of u.vertices u.edges) (same_table (sym (permitted_read text p) ∙ permitted_read text q))

module _ (text h o ms s t : List ℕ) where
  pub read_or_refused : {r : Refusal} → RightRead text h o ms s t → ¬ WrongRead text h o ms s t r
  read_or_refused g (WrongRead.form k c n f b) = n g.permitted
  read_or_refused g (WrongRead.room p n) = n (subst (λ (c : Columns). Room c h o ms s t) (permitted_same text g.permitted p) g.room)

  pub refused_once : {r q : Refusal} → WrongRead text h o ms s t r → WrongRead text h o ms s t q → r ≡ q
  refused_once (WrongRead.form j c n f a) (WrongRead.form k d m g b) =
      let u = first_byte_unique text a b in ap₂ (λ (x y : ℕ). Text (record { 0 = x }) (record { 0 = y })) u.0 u.1
  refused_once (WrongRead.form j c n f a) (WrongRead.room p m) = absurd (n p)
  refused_once (WrongRead.room p n) (WrongRead.form k d m g b) = absurd (m p)
  refused_once (WrongRead.room p n) (WrongRead.room q m) = refl
