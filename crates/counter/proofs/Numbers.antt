-- The quotients by 4,294,967,296 of the numbers that each call returns are those of the header's list: no input gives another, and each of them some input gives. Assumes nothing.
use mathlib.Core.Path.{◌≡◌, refl, sym, ◌∙◌, ap, subst}
use mathlib.Core.Bool.{Bool, true, false}
use mathlib.Core.Logic.{◌↔◌}
use mathlib.Core.List.Memᴰ
use mathlib.Core.List.{List, [], ◌∷◌, ◌++◌, Memᴰ}
use Prim.Native.Nat.{ℕ, ◌/◌}
use native.Mathlib.Omega.{arith}
use lib.ListN.{length, take}
use lib.Dec.{eqb}
use borrow.Author.Tests.{eqb-true}
use Rattle.weights.specs.declared.Measure.{Measure}
use Rattle.weights.specs.declared.Measure.TheVariants.{Cost, Days, Grade}
use Rattle.weights.specs.Choice.{pick}
use Rattle.weights.proofs.Choice.{apart}
use Rattle.weights.specs.Labels.{ahead_of}
use Rattle.weights.specs.Measures.{fold, weigh}
use Rattle.refusal.specs.declared.Refusal.{Refusal}
use Rattle.refusal.specs.declared.Refusal.TheVariants.{MeasureNumber}
use Rattle.refusal.specs.Refusals.{number_of, measure_of}
use Rattle.columns.specs.Columns.{Entries, Columns, columns, entries}
use Rattle.provenance.specs.BestFirst.{opening, next, turn, turns, best_first}
use Rattle.provenance.specs.Labelling.{each, greatest_depth as deepest, none_zero, offer_of}
use Rattle.provenance.specs.Support.{bill, bills}
use Rattle.columns.specs.Acceptance.{all_below, edge_acceptance, edges_acceptance, acceptance, lent_acceptance}
use Rattle.columns.specs.Right.{WrongEdge, WrongTable, WrongLent}
use Rattle.columns.specs.Same.{equal, same_answers, same_entries}
use Rattle.columns.proofs.Exactly.{lent_refused_exactly}
use Rattle.provenance.specs.Counting.{total}
use Rattle.provenance.specs.Pieces.{piece, pieces_at, below}
use Rattle.settle.specs.Settling.{answers_of, entries_of, settled}
use Rattle.settle.proofs.Demands.{settled_result_lem}
use Rattle.reprice.specs.Repricing.{line_acceptance, reprice_acceptance, repriced}
use Rattle.reprice.specs.Changes.{WrongChange, WrongReprice}
use Rattle.reprice.proofs.Changes.{reprice_refused_exactly, repriced_result_lem}
use Rattle.bill.specs.Billing.{bill_of, part_acceptance, bill_acceptance, billed}
use Rattle.bill.specs.Asked.{WrongBill}
use Rattle.bill.proofs.Asked.{bill_refused_exactly, bill_refused}
use Rattle.counter.specs.Results.{settled_result, repriced_result, most_room, billed_result}
use Rattle.counter.specs.Decoded.{Decoded, extent_of, measured}
use Rattle.counter.specs.Numbers.{settle_list, reprice_list, bill_list}
use Rattle.counter.proofs.Decoded.{settled_decoded, repriced_decoded, billed_decoded}
use Rattle.refusal.specs.Answers.{Acceptance, Extent, MeasureChoice}
use Rattle.std.specs.Prelude.{Ok, Err}

-- No other number ------------------------------------------------------------------------------------------------------------------------------

-- what holds of 1 to 7 and 21 holds of the number of each refusal of lent columns
module _ (P : ℕ → Type 0) (p1 : P 1) (p2 : P 2) (p3 : P 3) (p4 : P 4) (p21 : P 21) (p5 : P 5) (p6 : P 6) (p7 : P 7) where
  edge_number : {c : Columns} {e : ℕ} {r : Refusal} → WrongEdge c e r → P (number_of r)
  edge_number (WrongEdge.head n) = p3
  edge_number (WrongEdge.own h n) = p4
  edge_number (WrongEdge.mark h o n) = p21
  edge_number (WrongEdge.span h o m n) = p5
  edge_number (WrongEdge.tail h o m s n) = p6

  lent_number : {c : Columns} {a : Entries} {r : Refusal} → WrongLent c a r → P (number_of r)
  lent_number (WrongLent.table (WrongTable.many n)) = p1
  lent_number (WrongLent.table (WrongTable.unlevel f n)) = p2
  lent_number (WrongLent.table (WrongTable.edge f l e w)) = edge_number w.wrong
  lent_number (WrongLent.answers t n) = p7

-- a test of standing in a list
among : ℕ → List ℕ → Bool
among n [] = false
among n (k ∷ ns) = pick (eqb k n) true (among n ns)

listed : (n : ℕ) (ns : List ℕ) → among n ns ≡ true → Memᴰ n ns
unfolding among
listed n [] e = apart e
listed n (k ∷ ns) e = go (eqb k n) refl e (listed n ns)
  where
    go : (b : Bool) → eqb k n ≡ b → pick b true (among n ns) ≡ true → (among n ns ≡ true → Memᴰ n ns) → Memᴰ n (k ∷ ns)
    go true p q rest = Memᴰ.head (sym (eqb-true k n p))
    go false p q rest = Memᴰ.tail (rest q)

answered : (x : Acceptance) {r : Refusal} → extent_of x ≡ Err r → x ≡ Err r
answered (Ok _) e = let z : ◌≡◌ {A = ℕ} 0 1 = cc in absurd (omega arith)
answered (Err s) {r} e = let q : s ≡ r = cc in ap Err q

-- a measure's number is refused by 16
measure_number : (k : ℕ) {s : Refusal} → measure_of k ≡ Err s → number_of s ≡ 16
measure_number k = go (eqb k 0) (eqb k 1) (eqb k 2)
  where
    go : (a b d : Bool) {s : Refusal}
        → pick a (Ok Cost) (pick b (Ok Days) (pick d (Ok Grade) (Err MeasureNumber))) ≡ Err s → number_of s ≡ 16
    go true b d e = let z : ◌≡◌ {A = ℕ} 0 1 = cc in absurd (omega arith)
    go false true d e = let z : ◌≡◌ {A = ℕ} 0 1 = cc in absurd (omega arith)
    go false false true e = let z : ◌≡◌ {A = ℕ} 0 1 = cc in absurd (omega arith)
    go false false false {s} e = let q : MeasureNumber ≡ s = cc in ap number_of (sym q)

-- so a call whose other refusals are in the list, with 0 and 16, gives none but those
only : (ns : List ℕ) (f : Measure → Extent) (k : ℕ) {n : ℕ} → Decoded (measured (measure_of k) f) n → among 0 ns ≡ true → among 16 ns ≡ true
    → ((m : Measure) (r : Refusal) → f m ≡ Err r → Memᴰ (number_of r) ns) → Memᴰ (n / 4_294_967_296) ns
only ns f k {n} d z h rest = go (measured (measure_of k) f) refl
  where
    refused : (o : MeasureChoice) (r : Refusal) → measure_of k ≡ o → measured o f ≡ Err r → Memᴰ (number_of r) ns
    refused (Ok m) r p q = rest m r q
    refused (Err s) r p q = let j : s ≡ r = cc in Memᴰ.cast (ap number_of (sym j) ∙ measure_number k p) (listed 16 ns h)

    go : (x : Extent) → measured (measure_of k) f ≡ x → Memᴰ (n / 4_294_967_296) ns
    go (Ok size) p = let l = (d.accepted size p).1 in let q : n / 4_294_967_296 ≡ 0 = omega arith in Memᴰ.cast q (listed 0 ns z)
    go (Err r) p = Memᴰ.cast (d.refused r p).number (refused (measure_of k) r refl p)

settle_among : (c : Columns) (a : Entries) (m : Measure) (r : Refusal) → extent_of (settled m c a).result ≡ Err r → Memᴰ (number_of r) settle_list
unfolding among
settle_among c a m r e =
    let L = settle_list in
    let l : (n : ℕ) → among n L ≡ true → Memᴰ n L = λ n. listed n L in
    lent_number (λ n. Memᴰ n L) (l 1 refl) (l 2 refl) (l 3 refl) (l 4 refl) (l 21 refl) (l 5 refl) (l 6 refl) (l 7 refl)
    ((lent_refused_exactly c a r).0 (sym (settled_result_lem m c a) ∙ answered (settled m c a).result e))

reprice_among : (c : Columns) (a : Entries) (e w : ℕ) (m : Measure) (r : Refusal) → extent_of (repriced m c a e w).result ≡ Err r → Memᴰ (number_of r) reprice_list
unfolding among
reprice_among c a e w m r q = go ((reprice_refused_exactly m c a e w r).0 (sym (repriced_result_lem m c a e w) ∙ answered (repriced m c a e w).result q))
  where
    l : (n : ℕ) → among n reprice_list ≡ true → Memᴰ n reprice_list
    l n = listed n reprice_list

    go : {r : Refusal} → WrongReprice m c a e w r → Memᴰ (number_of r) reprice_list
    go (WrongChange.lent x) = lent_number (λ n. Memᴰ n reprice_list) (l 1 refl) (l 2 refl) (l 3 refl) (l 4 refl) (l 21 refl) (l 5 refl) (l 6 refl) (l 7 refl) x
    go (WrongChange.line x n) = l 9 refl
    go (WrongChange.further x n h) = l 10 refl
    go (WrongChange.answers x n h f) = l 8 refl

bill_among : (c : Columns) (a : Entries) (v : ℕ) (room : List ℕ) (m : Measure) (r : Refusal) → (billed m c a v room).result ≡ Err r → Memᴰ (number_of r) bill_list
unfolding among
bill_among c a v room m r q = go ((bill_refused_exactly m c a v (length room) r).0 ((bill_refused m c a v room r).0 q))
  where
    l : (n : ℕ) → among n bill_list ≡ true → Memᴰ n bill_list
    l n = listed n bill_list

    go : {r : Refusal} → WrongBill m c a v (length room) r → Memᴰ (number_of r) bill_list
    go (WrongBill.lent x) = lent_number (λ n. Memᴰ n bill_list) (l 1 refl) (l 2 refl) (l 3 refl) (l 4 refl) (l 21 refl) (l 5 refl) (l 6 refl) (l 7 refl) x
    go (WrongBill.part x n) = l 11 refl
    go (WrongBill.answers x h n) = l 8 refl
    go (WrongBill.unmade x h f n) = l 12 refl
    go (WrongBill.room x h f d n) = l 13 refl

-- Each number ----------------------------------------------------------------------------------------------------------------------------------

-- P holds of each number of a list
data All (P : ℕ → Type 0) : List ℕ → Type 0 where
  none : All P []
  more : {n : ℕ} {ns : List ℕ} → P n → All P ns → All P (n ∷ ns)

each_of : {P : ℕ → Type 0} {n : ℕ} {ns : List ℕ} → All P ns → Memᴰ n ns → P n
each_of {P} (All.more p ps) (Memᴰ.head e) = subst P (sym e) p
each_of (All.more p ps) (Memᴰ.tail i) = each_of ps i
each_of All.none i = elim i [ ]

-- lent columns that are refused by number n: the paper's small examples
record Shown (n : ℕ) : Type 0 where
  columns : Columns
  answers : Entries
  refusal : Refusal
  refused : lent_acceptance columns answers ≡ Err refusal
  number : number_of refusal ≡ n

abbrev nothing : Entries
nothing = entries [] [] [] []

shown : All Shown (1 ∷ 2 ∷ 3 ∷ 4 ∷ 21 ∷ 5 ∷ 6 ∷ 7 ∷ [])
unfolding lent_acceptance acceptance edges_acceptance edge_acceptance all_below
shown =
    All.more (record { columns = columns 1025 [] [] [] [] []; answers = nothing; refusal = _; refused = refl; number = refl })
    (All.more (record { columns = columns 5 (0 ∷ 0 ∷ []) (0 ∷ []) (0 ∷ 0 ∷ []) [] []; answers = nothing; refusal = _; refused = refl; number = refl })
    (All.more (record { columns = columns 5 (5 ∷ []) (0 ∷ []) (0 ∷ []) (0 ∷ 0 ∷ []) []; answers = nothing; refusal = _; refused = refl; number = refl })
    (All.more (record { columns = columns 5 (0 ∷ []) (1_000_000_001 ∷ []) (0 ∷ []) (0 ∷ 0 ∷ []) []; answers = nothing; refusal = _; refused = refl; number = refl })
    (All.more (record { columns = columns 5 (0 ∷ []) (0 ∷ []) (2 ∷ []) (0 ∷ 0 ∷ []) []; answers = nothing; refusal = _; refused = refl; number = refl })
    (All.more (record { columns = columns 5 (0 ∷ 0 ∷ []) (0 ∷ 0 ∷ []) (0 ∷ 0 ∷ []) (0 ∷ 2 ∷ 1 ∷ 1 ∷ []) (0 ∷ 0 ∷ []); answers = nothing; refusal = _; refused = refl; number = refl })
    (All.more (record { columns = columns 5 (0 ∷ []) (0 ∷ []) (0 ∷ []) (0 ∷ 1 ∷ []) (9 ∷ []); answers = nothing; refusal = _; refused = refl; number = refl })
    (All.more (record { columns = columns 5 [] [] [] [] []; answers = nothing; refusal = _; refused = refl; number = refl })
    All.none)))))))

all_map : {P Q : ℕ → Type 0} → ((n : ℕ) → P n → Q n) → {ns : List ℕ} → All P ns → All Q ns
all_map f All.none = All.none
all_map f (All.more p ps) = All.more (f _ p) (all_map f ps)

all_append : {P : ℕ → Type 0} {ms ns : List ℕ} → All P ms → All P ns → All P (ms ++ ns)
all_append All.none qs = qs
all_append (All.more p ps) qs = All.more p (all_append ps qs)

-- one line, `0 5`, and one part
abbrev single : Columns
single = columns 1 (0 ∷ []) (5 ∷ []) (0 ∷ []) (0 ∷ 0 ∷ []) []

-- one part, and no line
abbrev lineless : Columns
lineless = columns 1 [] [] [] [] []

abbrev unmade : Entries
unmade = entries (0 ∷ []) (0 ∷ []) (0 ∷ []) (0 ∷ [])

abbrev answer_of : ℕ → Entries
answer_of w = entries (w ∷ []) (1 ∷ []) (0 ∷ []) (1 ∷ [])

-- settle -----------------------------------------------------------------------------------------------------------------------------------------

-- some input gives a number with quotient n
abbrev pub SettleGives : ℕ → Type 0
SettleGives n = (k : ℕ) × (c : Columns) × (a : Entries) × ((settled_result (measure_of k) c a).result / 4_294_967_296 ≡ n)

settle_shown : (n : ℕ) → Shown n → SettleGives n
settle_shown n s =
    let c = s.columns in
    let a = s.answers in
    (0, c, a, ((settled_decoded 0 c a).refused s.refusal (ap extent_of (settled_result_lem Cost c a ∙ s.refused))).number ∙ s.number)

-- an accepted table, and a measure's number that is none
settle_given : All SettleGives (0 ∷ 16 ∷ [])
unfolding settled lent_acceptance acceptance edges_acceptance edge_acceptance all_below
settle_given = All.more (0, single, unmade, refl) (All.more (3, single, nothing, refl) All.none)

settle_all : All SettleGives settle_list
settle_all = all_append settle_given (all_map settle_shown shown)

-- "Refusals: 16, 1 to 7 and 21"
pub settle_numbers : (n : ℕ) → SettleGives n ↔ Memᴰ n settle_list
unfolding among
settle_numbers n = (
  λ (k, c, a, e). Memᴰ.cast (sym e) (only settle_list (λ m. extent_of (settled m c a).result) k (settled_decoded k c a) refl refl (settle_among c a)),
  each_of settle_all,
)

-- reprice ----------------------------------------------------------------------------------------------------------------------------------------

abbrev pub RepriceGives : ℕ → Type 0
RepriceGives n = (k : ℕ) × (c : Columns) × (a : Entries) × (e : ℕ) × (w : ℕ) × ((repriced_result (measure_of k) c a e w).result / 4_294_967_296 ≡ n)

reprice_shown : (n : ℕ) → Shown n → RepriceGives n
reprice_shown n s =
    let c = s.columns in
    let a = s.answers in
    let w = (lent_refused_exactly c a s.refusal).0 s.refused in
    let q = repriced_result_lem Cost c a 0 0 ∙ (reprice_refused_exactly Cost c a 0 0 s.refusal).1 (WrongChange.lent w) in
    (0, c, a, 0, 0, ((repriced_decoded 0 c a 0 0).refused s.refusal (ap extent_of q)).number ∙ s.number)

-- the line's own figure again, and a measure's number that is none; a line that is not there, a figure above the greatest, a figure off by 1
reprice_given : All RepriceGives (0 ∷ 16 ∷ []) × All RepriceGives (9 ∷ 10 ∷ 8 ∷ [])
unfolding repriced reprice_acceptance line_acceptance lent_acceptance acceptance edges_acceptance edge_acceptance all_below same_answers same_entries equal answers_of entries_of below pieces_at piece total best_first turns turn next opening offer_of none_zero ahead_of weigh fold each deepest bill bills
reprice_given = (
  All.more (0, single, answer_of 5, 0, 5, refl) (All.more (3, single, nothing, 0, 0, refl) All.none),
  All.more (0, single, answer_of 5, 1, 0, refl) (All.more (0, single, answer_of 5, 0, 1_000_000_001, refl) (All.more (0, single, answer_of 6, 0, 5, refl) All.none)),
)

reprice-all : All RepriceGives reprice_list
reprice-all = all_append reprice_given.0 (all_append (all_map reprice_shown shown) reprice_given.1)

-- "Refusals: 16, 1 to 7 and 21, 9, 10, 8"
pub reprice_numbers : (n : ℕ) → RepriceGives n ↔ Memᴰ n reprice_list
unfolding among
reprice_numbers n = (
  λ (k, c, a, e, w, q).
      Memᴰ.cast (sym q) (only reprice_list (λ m. extent_of (repriced m c a e w).result) k (repriced_decoded k c a e w) refl refl (reprice_among c a e w)),
  each_of reprice-all,
)

-- bill -------------------------------------------------------------------------------------------------------------------------------------------

abbrev pub BillGives : ℕ → Type 0
BillGives n = (k : ℕ) × (c : Columns) × (a : Entries) × (v : ℕ) × (room : List ℕ) × ((billed_result (measure_of k) c a v room).result / 4_294_967_296 ≡ n)

bill_shown : (n : ℕ) → Shown n → BillGives n
bill_shown n s =
    let c = s.columns in
    let a = s.answers in
    let w = (lent_refused_exactly c a s.refusal).0 s.refused in
    let q = (bill_refused Cost c a 0 (take most_room []) s.refusal).1 ((bill_refused_exactly Cost c a 0 _ s.refusal).1 (WrongBill.lent w)) in
    (0, c, a, 0, [], ((billed_decoded 0 c a 0 []).refused s.refusal q).number ∙ s.number)

-- a bill of one line, and a measure's number that is none; a part that is not there, a figure off by 1, a part that no line yields, no room
bill_given : All BillGives (0 ∷ 16 ∷ []) × All BillGives (11 ∷ 8 ∷ 12 ∷ 13 ∷ [])
unfolding billed bill_acceptance part_acceptance bill_of bill bills lent_acceptance acceptance edges_acceptance edge_acceptance all_below same_answers same_entries equal answers_of entries_of below pieces_at piece total best_first turns turn next opening offer_of none_zero ahead_of weigh fold each deepest
bill_given = (
  All.more (0, single, answer_of 5, 0, 0 ∷ [], refl) (All.more (3, single, nothing, 0, [], refl) All.none),
  All.more (0, single, answer_of 5, 1, [], refl)
      (All.more (0, single, answer_of 6, 0, [], refl) (All.more (0, lineless, unmade, 0, [], refl) (All.more (0, single, answer_of 5, 0, [], refl) All.none))),
)

bill-all : All BillGives bill_list
bill-all = all_append bill_given.0 (all_append (all_map bill_shown shown) bill_given.1)

-- "Refusals: 16, 1 to 7 and 21, 11, 8, 12, 13"
pub bill_numbers : (n : ℕ) → BillGives n ↔ Memᴰ n bill_list
unfolding among
bill_numbers n = (
  λ (k, c, a, v, room, e).
      Memᴰ.cast (sym e) (only bill_list (λ m. (billed m c a v (take most_room room)).result) k (billed_decoded k c a v room) refl refl (bill_among c a v (take most_room room))),
  each_of bill-all,
)
