-- Demand 1. "For every input, refused ones too, a call's promise fixes its result and the content of each lent column", and a refusal "returns its number and a place
-- … and alters no lent byte".
--
-- Each promise has the shape `Owed refuse entry Right done new Wrong result left`: where `Right` holds the call returns `done` and leaves `new`; where `Wrong r` holds it
-- returns `refuse r` and leaves `entry`, all that was lent to be written, as it came. `result` and `left` are of the function that the call's contract equates its outcome
-- with, for every input. `Fixed` says that no input is both right and wrong, or wrong in two ways. What is lent to be read can't be written; `tt` stands where nothing else
-- is lent. Assumes nothing.
use mathlib.Core.Path.{◌≡◌, refl}
use mathlib.Core.Logic.{◌⊎◌, inl, inr, ◌↔◌}
use mathlib.Core.List.{List, [], ◌∷◌, ◌++◌, Memᴰ}
use Prim.Native.Nat.{ℕ, ◌/◌, ◌≤◌, ◌<◌}
use native.Mathlib.Omega.{arith}
use lib.ListN.{length, get_or, set, take, drop}
use borrow.Author.Tests.{ne_eqb}
use Rattle.weights.specs.declared.Measure.{Measure}
use Rattle.weights.specs.declared.Measure.TheVariants.{Cost, Days, Grade}
use Rattle.weights.specs.Figures.{struck_mark}
use Rattle.weights.specs.Labels.{unmade, entry_of}
use Rattle.refusal.specs.declared.Refusal.{Refusal}
use Rattle.refusal.specs.declared.Refusal.TheVariants.{MeasureNumber}
use Rattle.refusal.specs.Refusals.{code_of, number_of, result_of, acceptance_result, extent_result, measure_of}
use Rattle.refusal.proofs.Codes.{codes_differ}
use Rattle.columns.specs.Columns.{Entries, SizedEntries, Columns, with_own, with_strike}
use Rattle.columns.specs.Acceptance.{acceptance, lent_acceptance}
use Rattle.columns.specs.Filled.{filled}
use Rattle.columns.specs.Owed.{Owed}
use Rattle.columns.specs.Right.{RightTable, WrongTable, RightLent, WrongLent}
use Rattle.columns.proofs.Exactly.{accepted_exactly, refused_exactly, lent_exactly, lent_refused_exactly}
use Rattle.columns.proofs.Owed.{check_table_owes, check_lent_owes}
use Rattle.provenance.specs.Hypergraph.{Derivation, listing}
use Rattle.provenance.specs.Means.{Follows}
use Rattle.provenance.specs.BestFirst.{labels}
use Rattle.tables.specs.Table.{hypergraph}
use Rattle.settle.specs.Settling.{entries_of, entry_at, settled}
use Rattle.settle.specs.Checking.{checked}
use Rattle.settle.specs.Defined.{AllMean}
use Rattle.settle.proofs.Owed.{settle_owes, check_answers_owes, entry_owes, entry_beyond}
use Rattle.reprice.specs.Repricing.{reprice_acceptance, strike_acceptance, repriced, stricken}
use Rattle.reprice.specs.Changes.{RightReprice, WrongReprice, RightStrike, WrongStrike}
use Rattle.reprice.proofs.Changes.{reprice_exactly, reprice_refused_exactly, reprice_owes, strike_exactly, strike_refused_exactly, strike_owes}
use Rattle.bill.specs.Billing.{bill_of, bill_acceptance, billed}
use Rattle.bill.specs.Asked.{RightBill, WrongBill}
use Rattle.bill.proofs.Asked.{bill_exactly, bill_refused_exactly, bill_owes}
use Rattle.text.specs.Tables.{closed}
use Rattle.text.specs.Render.{render}
use Rattle.readtable.specs.Read.{read_table}
use Rattle.roundtrip.specs.RoundTrip.{header_for}
use Rattle.roundtrip.specs.Reads.{RightRead, WrongRead}
use Rattle.roundtrip.proofs.Texts.{reads, read_or_refused, refused_once}
use Rattle.writetable.specs.Write.{write_table}
use Rattle.writetable.specs.Asked.{RightWrite, WrongWrite}
use Rattle.writetable.proofs.Asked.{write_owes}
use Rattle.counter.specs.Results.{settled_result, repriced_result, billed_result}
use Rattle.counter.specs.Decoded.{Decoded, extent_of, measured}
use Rattle.counter.proofs.Decoded.{settled_decoded, repriced_decoded, billed_decoded}
use Rattle.counter.proofs.Numbers.{settle_numbers, reprice_numbers, bill_numbers}
use Rattle.promises.specs.Fixed.{Fixed}
use Rattle.promises.proofs.Fixed.{fixed}
use Rattle.promises.proofs.Bills.{derived, right_bill}
use Rattle.std.specs.Prelude.{Ok, Err, true, false}

-- "Check a table." Refusals 1 to 6 -----------------------------------------------------------------------------------------------------------------------------
module _ (c : Columns) where
  pub check_table : Owed Err (tt {0}) (RightTable c) (λ _. Ok tt) (λ _. tt {0}) (WrongTable c) (acceptance c) (tt {0})
  check_table = check_table_owes c

  pub check_table_fixed : Fixed (RightTable c) (WrongTable c)
  check_table_fixed = fixed (acceptance c) (accepted_exactly c) (refused_exactly c)

module _ (c : Columns) (a : Entries) where
  -- the same with the answer columns: 1 to 7
  pub check_lent : Owed Err (tt {0}) (RightLent c a) (λ _. Ok tt) (λ _. tt {0}) (WrongLent c a) (lent_acceptance c a) (tt {0})
  check_lent = check_lent_owes c a

  pub check_lent_fixed : Fixed (RightLent c a) (WrongLent c a)
  check_lent_fixed = fixed (lent_acceptance c a) (lent_exactly c a) (lent_refused_exactly c a)

  -- "Settle a table into the answer columns." 1 to 7. What `entries_of` is, demand 2 says
  pub settle : (m : Measure) → Owed Err a (RightLent c a) (λ _. Ok tt) (λ _. entries_of m c) (WrongLent c a) (settled m c a).result (settled m c a).left
  settle m = settle_owes m c a

  -- "Check answers: yes exactly if they are the ones defined above, whoever wrote them." 1 to 7; "no, and not 8, for wrong ones"
  pub check_answers : (m : Measure) → Owed Err (tt {0}) ((RightLent c a × AllMean m c a) ⊎ (RightLent c a × ¬ AllMean m c a)) (elim [ inl _ ↦ Ok true | inr _ ↦ Ok false ]) (λ _. tt {0})
      (WrongLent c a) (checked m c a) (tt {0})
  check_answers m = check_answers_owes m c a

-- an entry is what the columns hold, and refused for no columns and no part; beyond the columns it is that of an unmade part
module _ (a : Entries) (v : ℕ) where
  pub entry : Owed (λ _. entry_of unmade 0) (tt {0}) (Unit {0}) (λ _. entry_of (labels a.labels v) (get_or a.pieces v 0)) (λ _. tt {0}) (λ _. ⊥) (entry_at a v) (tt {0})
  entry = entry_owes a v

  pub entry_behind : (n : ℕ) → SizedEntries n a → n ≤ v → entry_at a v ≡ entry_of unmade 0
  entry_behind n = entry_beyond a n v

-- "Reprice an unstruck line to 0 to 1,000,000,000." 1 to 7, 9, 10, 8. That the table as it then is has these answers, `reprice_checks` of Paper says
module _ (m : Measure) (c : Columns) (a : Entries) (e w : ℕ) where
  pub reprice : Owed {L = List ℕ × Entries} Err (c.own, a) (RightReprice m c a e w) (λ _. Ok tt) (λ _. (set c.own e w, entries_of m (with_own c e w)))
      (WrongReprice m c a e w) (repriced m c a e w).result ((repriced m c a e w).own, (repriced m c a e w).left)
  reprice = reprice_owes m c a e w

  pub reprice_fixed : Fixed (RightReprice m c a e w) (WrongReprice m c a e w)
  reprice_fixed = fixed (reprice_acceptance m c a e w) (reprice_exactly m c a e w) (reprice_refused_exactly m c a e w)

-- "and strike an unstruck line." 1 to 7, 9, 8. By document 02, 2026-02, in "a column of its own": the own figures are lent to be read alone
module _ (m : Measure) (c : Columns) (a : Entries) (e : ℕ) where
  pub strike : Owed {L = List ℕ × Entries} Err (c.strikes, a) (RightStrike m c a e) (λ _. Ok tt)
      (λ _. (set c.strikes e struck_mark, entries_of m (with_strike c e struck_mark))) (WrongStrike m c a e) (stricken m c a e).result
      ((stricken m c a e).strikes, (stricken m c a e).left)
  strike = strike_owes m c a e

  pub strike_fixed : Fixed (RightStrike m c a e) (WrongStrike m c a e)
  strike_fixed = fixed (strike_acceptance m c a e) (strike_exactly m c a e) (strike_refused_exactly m c a e)

-- "Print a bill." 1 to 7, 11, 8, 12, 13. "A bill returns its length; the room behind it keeps its bytes"
module _ (m : Measure) (c : Columns) (a : Entries) (v : ℕ) (room : List ℕ) where
  pub bill : Owed Err room (RightBill m c a v (length room)) (λ _. Ok (length (bill_of c a.labels v)))
      (λ _. bill_of c a.labels v ++ drop (length (bill_of c a.labels v)) room)
      (WrongBill m c a v (length room)) (billed m c a v room).result (billed m c a v room).left
  bill = bill_owes m c a v room

  pub bill_fixed : Fixed (RightBill m c a v (length room)) (WrongBill m c a v (length room))
  bill_fixed = fixed (bill_acceptance m c a v (length room)) (bill_exactly m c a v (length room)) (bill_refused_exactly m c a v (length room))

-- "the line numbers of the chosen make-up, root first, then the bill of each listed part, in the order listed"
pub bill-lists : (m : Measure) (c : Columns) (a : Entries) (v : ℕ) → RightLent c a → AllMean m c a → (t : Derivation (hypergraph c) v) → Follows (labels a.labels) t
    → bill_of c a.labels v ≡ listing t
bill-lists m c a v l all t f = (right_bill m c a v l (derived l t) all t).lists t f

-- "Reading text: 14 at the first text line that breaks a rule …, then 15." "Reading returns n, the measure and the counts, and writes that many places of each column; the
-- rest keep theirs. Spans are written from offset 0 without gaps"
module _ (text h o ms s t : List ℕ) where
  pub read_table_lem : Owed {L = List ℕ × List ℕ × List ℕ × List ℕ × List ℕ} Err (h, o, ms, s, t) (RightRead text h o ms s t)
      (λ p. Ok (header_for p.permitted.measure (closed p.permitted.table)))
      (λ p. let c = closed p.permitted.table in (filled c.heads h, filled c.own o, filled c.strikes ms, filled c.spans s, filled c.tails t))
      (WrongRead text h o ms s t) (read_table text h o ms s t).answer
      (let x = read_table text h o ms s t in (x.heads, x.own, x.strikes, x.spans, x.tails))
  read_table_lem = reads text h o ms s t

  pub read_table_fixed : Fixed (RightRead text h o ms s t) (WrongRead text h o ms s t)
  read_table_fixed = record { never = read_or_refused text h o ms s t; once = refused_once text h o ms s t }

-- "Writing: 1 to 6, then 15." "Writing fills the text room from its start and returns the text's length; the room behind it keeps its bytes"
module _ (m : Measure) (c : Columns) (room : List ℕ) where
  pub write_table_lem : Owed Err room (RightWrite m c (length room)) (λ _. Ok (length (render m c))) (λ _. filled (render m c) room) (WrongWrite m c (length room))
      (write_table m c room).answer (write_table m c room).room
  write_table_lem = write_owes m c room

  pub write_table_fixed : Fixed (RightWrite m c (length room)) (WrongWrite m c (length room))
  write_table_fixed = record { never = never; once = once }
    where
      never : {r : Refusal} → RightWrite m c (length room) → ¬ WrongWrite m c (length room) r
      never p (WrongWrite.table q) = (check_table_fixed c).never p.table q
      never p (WrongWrite.room q h) = h p.room

      once : {r s : Refusal} → WrongWrite m c (length room) r → WrongWrite m c (length room) s → r ≡ s
      once (WrongWrite.table p) (WrongWrite.table q) = (check_table_fixed c).once p q
      once (WrongWrite.table p) (WrongWrite.room q h) = absurd ((check_table_fixed c).never q p)
      once (WrongWrite.room p h) (WrongWrite.table q) = absurd ((check_table_fixed c).never p q)
      once (WrongWrite.room p h) (WrongWrite.room q k) = refl

-- "A refusal returns its number and a place", and by document 02, 2026-06, the column of a text: from these the refusal can be told, but for 26, whose place is a part
-- or an event (2026-12)
pub codes : (r s : Refusal) → ¬ (number_of r ≡ 26) → code_of r ≡ code_of s → r ≡ s
codes = codes_differ

-- The counter programs in C: settle, reprice and bill ---------------------------------------------------------------------------------------------------------------

-- "16: measure number from C not 0 (cost) or 1 (days)", or by document 02, 2026-10, 2 (grade), tried before all others
pub measure_numbers : (measure_of 0 ≡ Ok Cost) × (measure_of 1 ≡ Ok Days) × (measure_of 2 ≡ Ok Grade)
    × ((k : ℕ) → 2 < k → measure_of k ≡ Err MeasureNumber)
measure_numbers = (refl, refl, refl, λ k h. rw (ne_eqb k 0 (λ q. absurd (omega arith)), ne_eqb k 1 (λ q. absurd (omega arith)), ne_eqb k 2 (λ q. absurd (omega arith))) refl)

-- "It gets one unsigned 64-bit number: on acceptance 0, for a bill its length; on a refusal the refusal's number times 4,294,967,296, plus the place"
module _ (c : Columns) (a : Entries) where
  pub c_settle : (m : Measure) → settled_result (Ok m) c a ≡ record { result = acceptance_result (settled m c a).result; left = (settled m c a).left }
  c_settle m = refl

  pub c_reprice : (m : Measure) (e w : ℕ) → let x = repriced m c a e w in repriced_result (Ok m) c a e w ≡ record { result = acceptance_result x.result; own = x.own; left = x.left }
  c_reprice m e w = refl

  -- "A bill asked for from C counts room beyond 4,294,967,295 places as absent"
  pub c_bill : (m : Measure) (v : ℕ) (room : List ℕ) → let x = billed m c a v (take 4_294_967_295 room) in
      billed_result (Ok m) c a v room ≡ record { result = extent_result x.result; left = x.left ++ drop 4_294_967_295 room }
  c_bill m v room = refl

  -- a measure that is refused leaves everything as lent
  pub c_settle_refused : (r : Refusal) → settled_result (Err r) c a ≡ record { result = result_of (code_of r); left = a }
  c_settle_refused r = refl

  pub c_reprice_refused : (r : Refusal) (e w : ℕ) → repriced_result (Err r) c a e w ≡ record { result = result_of (code_of r); own = c.own; left = a }
  c_reprice_refused r e w = refl

  pub c_bill_refused : (r : Refusal) (v : ℕ) (room : List ℕ) → billed_result (Err r) c a v room ≡ record { result = result_of (code_of r); left = room }
  c_bill_refused r v room = refl

  -- the number tells the answer: below 4,294,967,296 it is an acceptance and the bill's length, else quotient and remainder are the refusal's number and its place
  pub c_settle_tells : (k : ℕ) → Decoded (measured (measure_of k) (λ m. extent_of (settled m c a).result)) (settled_result (measure_of k) c a).result
  c_settle_tells k = settled_decoded k c a

  pub c_reprice_tells : (k e w : ℕ) → Decoded (measured (measure_of k) (λ m. extent_of (repriced m c a e w).result)) (repriced_result (measure_of k) c a e w).result
  c_reprice_tells k = repriced_decoded k c a

  pub c_bill_tells : (k v : ℕ) (room : List ℕ)
      → Decoded (measured (measure_of k) (λ m. (billed m c a v (take 4_294_967_295 room)).result)) (billed_result (measure_of k) c a v room).result
  c_bill_tells k = billed_decoded k c a

-- the quotients by 4,294,967,296 of the numbers that each call can return, and no others (`List.Memᴰ`: n stands in the list): 0, an acceptance, and the header's list
pub c_settle_numbers : (n : ℕ) → ((k : ℕ) × (c : Columns) × (a : Entries) × ((settled_result (measure_of k) c a).result / 4_294_967_296 ≡ n))
    ↔ Memᴰ n (0 ∷ 16 ∷ 1 ∷ 2 ∷ 3 ∷ 4 ∷ 21 ∷ 5 ∷ 6 ∷ 7 ∷ [])
c_settle_numbers = settle_numbers

pub c_reprice_numbers : (n : ℕ) → ((k : ℕ) × (c : Columns) × (a : Entries) × (e : ℕ) × (w : ℕ) × ((repriced_result (measure_of k) c a e w).result / 4_294_967_296 ≡ n))
    ↔ Memᴰ n (0 ∷ 16 ∷ 1 ∷ 2 ∷ 3 ∷ 4 ∷ 21 ∷ 5 ∷ 6 ∷ 7 ∷ 9 ∷ 10 ∷ 8 ∷ [])
c_reprice_numbers = reprice_numbers

pub c_bill_numbers : (n : ℕ) → ((k : ℕ) × (c : Columns) × (a : Entries) × (v : ℕ) × (room : List ℕ) × ((billed_result (measure_of k) c a v room).result / 4_294_967_296 ≡ n))
    ↔ Memᴰ n (0 ∷ 16 ∷ 1 ∷ 2 ∷ 3 ∷ 4 ∷ 21 ∷ 5 ∷ 6 ∷ 7 ∷ 11 ∷ 8 ∷ 12 ∷ 13 ∷ [])
c_bill_numbers = bill_numbers
