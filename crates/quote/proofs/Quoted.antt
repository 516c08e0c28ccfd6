-- What is said of a bill, in the paper's terms: its own lines, or the line of its refusal; and how long that can be. Assumes nothing.
use mathlib.Core.Path.{◌≡◌, refl, sym, ◌∙◌, ap, subst}
use mathlib.Core.List.{List, [], ◌∷◌, ◌++◌, append_assoc}
use Prim.Native.Nat.{ℕ, zero, suc, ◌*◌, ◌^◌, ◌≤◌, ◌<◌}
use native.Mathlib.Omega.{arith}
use native.Mathlib.Decide.{dec_le}
use lib.ListN.{length, get_or, drop, replicate, length-append, length-replicate, get_or-eq_default}
use lib.Seq.{take-append_seam}
use Rattle.weights.specs.declared.Measure.{Measure}
use Rattle.weights.specs.declared.Label.{Label}
use Rattle.refusal.specs.declared.Refusal.{Refusal}
use Rattle.refusal.specs.Refusals.{place_of, column_of}
use Rattle.columns.specs.Columns.{Entries, Columns, head_at, own_at}
use Rattle.columns.specs.Right.{RightTable, WrongEdge, WrongTable, WrongLent}
use Rattle.columns.proofs.Exactly.{lent_exactly}
use Rattle.columns.proofs.Accepted.{columns_accepted}
use Rattle.columns.proofs.Same.{entries_true}
use Rattle.provenance.specs.Hypergraph.{Hypergraph}
use Rattle.provenance.specs.BestFirst.{labels}
use Rattle.provenance.specs.Support.{bills, bill}
use Rattle.tables.specs.Table.{hypergraph}
use Rattle.settle.specs.Settling.{entries_of, entry_at}
use Rattle.settle.proofs.Exactly.{same_exactly}
use Rattle.bill.specs.Billing.{bill_of, bill_acceptance, outcome, billed}
use Rattle.bill.specs.Asked.{RightBill, WrongBill}
use Rattle.bill.proofs.Asked.{bill_exactly, bill_refused_exactly}
use Rattle.report.proofs.Bounds.{RangedEntry, answers_ranged, refused_most}
use Rattle.reply.specs.Reply.{most_reply, Said, answered, refused_by, on_extent}
use Rattle.quote.specs.Quote.{most_lines, most_row, row, rows, last, sheet, said_of, bill_said}
use Rattle.quote.specs.Quoted.{Quoted}
use Rattle.quote.proofs.Rows.{row_split, row_most, last_split, last_most}
use Rattle.refusal.specs.Answers.{Acceptance}
use Rattle.std.specs.Prelude.{Ok, Err}

-- How long rows are ------------------------------------------------------------------------------------------------------------------------------

rows_append : (c : Columns) (xs ys : List ℕ) → rows c (xs ++ ys) ≡ rows c xs ++ rows c ys
unfolding rows
rows_append c [] ys = refl
rows_append c (x ∷ xs) ys = ap (λ (z : List ℕ). row c x ++ z) (rows_append c xs ys) ∙ sym (append_assoc (row c x) (rows c xs) (rows c ys))

-- a column below a bound reads below it everywhere
reads_below : (xs : List ℕ) (k e : ℕ) → 0 < k → (e < length xs → get_or xs e 0 < k) → get_or xs e 0 < k
reads_below xs k e p f = go (dec_le (suc e) (length xs))
  where
    go : Dec (suc e ≤ length xs) → get_or xs e 0 < k
    go (yes h) = f h
    go (no n) = let z : get_or xs e 0 ≡ 0 = get_or-eq_default xs 0 (omega (arith, n)) in omega arith

module _ (c : Columns) (t : RightTable c) where
  row_short : (e : ℕ) → e < 2 ^ 64 → length (row c e) ≤ most_row
  row_short e h =
      let a = reads_below c.heads (2 ^ 64) e (omega arith) (λ l. let x = (t.each e l).head in let y = t.few in omega arith) in
      let b = reads_below c.own (2 ^ 64) e (omega arith) (λ l. let n = t.level.own in let x = (t.each e (omega arith)).own in omega arith) in
      subst (λ (z : List ℕ). length z ≤ most_row) (sym (row_split c e (head_at c e) (own_at c e) refl refl)) (row_most e (head_at c e) (own_at c e) h a b)

  bills_short : (f : ℕ → List ℕ) → ((v : ℕ) → length (rows c (f v)) ≤ most_row * length (f v)) → (vs : List ℕ) → length (rows c (bills f vs)) ≤ most_row * length (bills f vs)
  unfolding bills rows
  bills_short f g [] = omega arith
  bills_short f g (v ∷ vs) =
      let x = g v in
      let y = bills_short f g vs in
      let e = ap length (rows_append c (f v) (bills f vs)) in
      let p = length-append (rows c (f v)) (rows c (bills f vs)) in
      let q = length-append (f v) (bills f vs) in
      omega arith

  bill_short : (H : Hypergraph) (ls : ℕ → Label) → ((v : ℕ) → (ls v).edge.0 < 2 ^ 64) → (fuel v : ℕ) → length (rows c (bill H ls fuel v)) ≤ most_row * length (bill H ls fuel v)
  unfolding bill rows
  bill_short H ls g zero v = omega arith
  bill_short H ls g (suc fuel) v =
      let e = (ls v).edge.0 in
      let es = bills (bill H ls fuel) (H.tail e) in
      let x = row_short e (g v) in
      let y = bills_short (bill H ls fuel) (bill_short H ls g fuel) (H.tail e) in
      let p = length-append (row c e) (rows c es) in
      omega arith

-- The line of a refusal --------------------------------------------------------------------------------------------------------------------------

abbrev Low : Refusal → Type 0
Low r = (place_of r < 10_000) × (column_of r < 100_000)

edge_low : {c : Columns} {e : ℕ} {r : Refusal} → e < 10_000 → WrongEdge c e r → Low r
edge_low h (WrongEdge.head x) = (h, omega arith)
edge_low h (WrongEdge.own x y) = (h, omega arith)
edge_low h (WrongEdge.mark x y z) = (h, omega arith)
edge_low h (WrongEdge.span x y z w) = (h, omega arith)
edge_low h (WrongEdge.tail x y z w u) = (h, omega arith)

table_low : {c : Columns} {r : Refusal} → WrongTable c r → Low r
table_low (WrongTable.many x) = (omega arith, omega arith)
table_low (WrongTable.unlevel x y) = (omega arith, omega arith)
table_low (WrongTable.edge x y e f) = edge_low (let n = f.numbered in let l = y.edges in omega arith) f.wrong

lent_low : {c : Columns} {a : Entries} {r : Refusal} → WrongLent c a r → Low r
lent_low (WrongLent.table w) = table_low w
lent_low (WrongLent.answers x y) = (omega arith, omega arith)

bill_low : {m : Measure} {c : Columns} {a : Entries} {v places : ℕ} {r : Refusal} → WrongBill m c a v places r → Low r
bill_low (WrongBill.lent w) = lent_low w
bill_low (WrongBill.part x y) = (omega arith, omega arith)
bill_low (WrongBill.answers x y z) = (omega arith, omega arith)
bill_low (WrongBill.unmade x y z w) = (omega arith, omega arith)
bill_low (WrongBill.room x y z w u) = (omega arith, omega arith)

-- The whole --------------------------------------------------------------------------------------------------------------------------------------

module _ (m : Measure) (c : Columns) (a : Entries) (v : ℕ) where
  abbrev es : List ℕ
  es = bill_of c a.labels v

  abbrev room : List ℕ
  room = replicate most_lines 0

  room_long : length room ≡ most_lines
  room_long = length-replicate {A = ℕ} most_lines 0

  bill_printed : RightBill m c a v most_lines → bill_said m c a v ≡ answered (sheet c a v es)
  unfolding bill_said billed on_extent
  bill_printed g =
      let p = (bill_exactly m c a v (length room)).1 (subst (RightBill m c a v) (sym room_long) g) in
      ap (λ (x : Acceptance). said_of c a v (outcome x es room)) p ∙ ap (λ (z : List ℕ). answered (sheet c a v z)) (take-append_seam es (drop (length es) room))

  bill_refused : (r : Refusal) → WrongBill m c a v most_lines r → bill_said m c a v ≡ refused_by r
  unfolding bill_said billed on_extent
  bill_refused r g =
      let p = (bill_refused_exactly m c a v (length room) r).1 (subst (λ (k : ℕ). WrongBill m c a v k r) (sym room_long) g) in
      ap (λ (x : Acceptance). said_of c a v (outcome x es room)) p

  sheet_short : RightBill m c a v most_lines → length (sheet c a v es) ≤ most_reply
  unfolding sheet bill_of
  sheet_short g =
      let l = (lent_exactly c a).1 g.lent in
      let same = entries_true a (entries_of m c) ((same_exactly m c a l).1 g.answers) in
      let ranged : (u : ℕ) → RangedEntry a u = λ u. subst (λ (b : Entries). RangedEntry b u) (sym same) (answers_ranged m c (columns_accepted c a l).table u) in
      let b : length (rows c es) ≤ most_row * length es =
      bill_short c g.lent.table (hypergraph c) (labels a.labels) (λ u. let k = (ranged u).label.edge in omega arith) (labels a.labels v).depth v in
      let x = entry_at a v in
      let w = last_most v x.state x.weight.0 (let h = g.part in let f = g.lent.table.few in omega arith) (let k = (ranged v).label.weight in omega arith) in
      let s = ap length (last_split v x.state x.weight.0) in
      let q = length-append (rows c es) (last v x) in
      let k = g.room in
      omega arith

  fits : length (bill_said m c a v).bytes ≤ most_reply
  fits = go (bill_acceptance m c a v most_lines) refl
    where
      go : (x : Acceptance) → bill_acceptance m c a v most_lines ≡ x → length (bill_said m c a v).bytes ≤ most_reply
      go (Ok _) p =
          let g = (bill_exactly m c a v most_lines).0 p in
          subst (λ (s : Said). length s.bytes ≤ most_reply) (sym (bill_printed g)) (sheet_short g)
      go (Err r) p =
          let g = (bill_refused_exactly m c a v most_lines r).0 p in
          let l = bill_low g in
          let w = refused_most r l.0 l.1 in
          subst (λ (s : Said). length s.bytes ≤ most_reply) (sym (bill_refused r g)) (omega arith)

  pub quoted : Quoted m c a v
  quoted = record { printed = bill_printed; refused = bill_refused; fits = fits }
