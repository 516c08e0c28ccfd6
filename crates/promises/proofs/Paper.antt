-- The rest of document 01, in its order. What it says of the calls' results stands in Demand1, of entries in Demand2. Assumes nothing.
use mathlib.Core.Path.{◌≡◌, refl, sym, ◌∙◌}
use mathlib.Core.Logic.{◌⊎◌, ◌↔◌}
use mathlib.Core.List.{List, [], ◌∷◌, ◌++◌}
use Prim.Native.Nat.{ℕ, ◌+◌, ◌≤◌, ◌<◌}
use native.Mathlib.Omega.{arith}
use borrow.Author.Tests.{eqb-false, not-true}
use lib.ListN.{length, set, take, get_or, drop}
use lib.IntN.{ℤ, pos}
use Rattle.weights.specs.declared.Measure.{Measure}
use Rattle.weights.specs.declared.State.TheVariants.{Made, Over, Unmade}
use Rattle.weights.specs.Figures.{struck_mark, ceiling, over, capped, greatest}
use Rattle.weights.specs.Measures.{cost, algebra}
use Rattle.weights.specs.Labels.{state_of, label_state}
use Rattle.weights.specs.Laws.{Lawful}
use Rattle.weights.proofs.Laws.{lawful}
use Rattle.weights.proofs.States.{unmade_state, over_state, made_state}
use Rattle.refusal.specs.declared.Refusal.{Refusal}
use Rattle.refusal.specs.declared.Refusal.TheVariants.{Text, InputLength}
use Rattle.refusal.specs.declared.Header.{Header}
use Rattle.columns.specs.Columns.{Entries, Columns, strike_at, with_own, with_strike}
use Rattle.columns.specs.Acceptance.{acceptance, most_vertices}
use Rattle.columns.specs.Filled.{filled}
use Rattle.columns.specs.Gaps.{Gapped, with_tails}
use Rattle.columns.specs.Right.{RightTable, WrongTable, RightLent}
use Rattle.columns.specs.Worked.{worked}
use Rattle.columns.proofs.Exactly.{accepted_exactly, refused_exactly}
use Rattle.columns.proofs.Gaps.{gaps_accepted}
use Rattle.semiring.specs.Semiring.{Operations, Semiring, tropical}
use Rattle.semiring.specs.Chain.{bottleneck, grades}
use Rattle.semiring.specs.Datalog.{Program, Provenance, BestWeight, representation}
use Rattle.semiring.proofs.Semiring.{tropical_semiring}
use Rattle.semiring.proofs.Chain.{bottleneck_semiring, grades_semiring}
use Rattle.semiring.proofs.Datalog.{theorem_13}
use Rattle.provenance.specs.Hypergraph.{Hypergraph, Stands, Derivation, Derivations, node, none, more, weight, depth, deepest, root, listing}
use Rattle.provenance.specs.Counting.{total}
use Rattle.provenance.specs.BestFirst.{labels}
use Rattle.provenance.proofs.Sensitivity.{cost-total}
use Rattle.tables.specs.Table.{hypergraph}
use Rattle.settle.specs.Settling.{entries_of}
use Rattle.settle.specs.Checking.{checked}
use Rattle.settle.specs.Demands.{Demand2}
use Rattle.settle.specs.Defined.{AllMean}
use Rattle.settle.specs.States.{StateMeans}
use Rattle.settle.proofs.States.{means_state}
use Rattle.reprice.specs.Demand3.{Pair}
use Rattle.reprice.specs.Repricing.{repriced, stricken}
use Rattle.reprice.proofs.Changes.{reprice_leaves, strike_leaves}
use Rattle.bill.specs.Billing.{bill_of, billed}
use Rattle.bill.specs.Bills.{IsBill, Printed}
use Rattle.bill.proofs.Bills.{bill_printed}
use Rattle.text.specs.Tables.{Table, closed, Edge, table_of}
use Rattle.text.specs.Render.{Permitted, digits, own_text, header, text_of}
use Rattle.text.specs.Permitted.{FirstWrong}
use Rattle.text.specs.Machine.{Whole, Wrong, parse}
use Rattle.text.specs.Bytes.{FirstByte}
use Rattle.text.specs.Worked.{cost_text, days_text}
use Rattle.text.proofs.Permitted.{permitted_read, unpermitted_wrong}
use Rattle.readtable.specs.Read.{columns_read, read_table}
use Rattle.roundtrip.specs.RoundTrip.{Room, filled_with}
use Rattle.roundtrip.proofs.RoundTrip.{read_after_write, write_after_read, read_accepted}
use Rattle.roundtrip.proofs.Texts.{permitted_same}
use Rattle.writetable.specs.Write.{write_outcome, write_table}
use Rattle.cursor.specs.declared.Separator.TheVariants.{Space, LineEnd}
use Rattle.cursor.specs.Cursor.{token, number_at, weight_token, weight_at, separator_at}
use Rattle.reading.specs.Lines.{Opens, Unopened, first_line, Holds, row_at}
use Rattle.reader.specs.Walk.{Walks, Counted, Line, Formed}
use Rattle.reader.proofs.Walking.{walk_permitted, permitted_walk, walk_text, text_walk}
use Rattle.report.specs.Report.{refused_line, report}
use Rattle.report.specs.Prints.{Prints, ReadsBack}
use Rattle.report.specs.Examples.{cost_list, days_list}
use Rattle.report.proofs.Closed.{entries_closed}
use Rattle.report.proofs.Prints.{prints, reads_back}
use Rattle.report.proofs.Examples.{worked_cost, worked_days}
use Rattle.input.specs.Input.{Ended}
use Rattle.input.specs.Printed.{printed}
use Rattle.input.proofs.Whole.{whole_reported}
use Rattle.examples.specs.Case.{AllHold}
use Rattle.examples.specs.Paper.{cases}
use Rattle.examples.proofs.Paper.{every_case_holds, worked_pair}
use Rattle.promises.specs.Reads.{Reads}
use Rattle.promises.proofs.Bills.{right_bill}
use Rattle.promises.proofs.Gaps.{reprice_gaps, strike_gaps, bill_gaps, write_gaps}
use Rattle.promises.proofs.Tokens.{number_exactly, weight_exactly, space_exactly, end_exactly, line_exactly, first_exactly, first_refused_exactly}
use Rattle.std.specs.Prelude.{Ok, Err, Some, true}

-- The source ---------------------------------------------------------------------------------------------------------------------------------------------------------

-- "Source document 000 gives the meaning (Definitions 5, 7 and 8 …)": by its Theorem 13 the provenance of a program (Definition 5) is the best weight (Definition 10) in the
-- weighted hypergraph (Definition 7) that represents it (Definition 8). Demand2 has the program that a table is, and its provenance
pub best_weight : {S : Operations} → Semiring S → (q : Program S) (t : q.Atom) (x : S.Carrier) → Provenance q t x ↔ BestWeight (representation q) t x
best_weight = theorem_13

-- and what cost, days and grade compute in are such semirings (Definition 1; "source document 003 gives the min-max measure (its Semiring 5)")
pub semirings : Semiring tropical × Semiring bottleneck × Semiring grades
semirings = (tropical_semiring, bottleneck_semiring, grades_semiring)

-- The table ----------------------------------------------------------------------------------------------------------------------------------------------------------

module _ (c : Columns) where
  -- "There are n parts, … n from 0 to 1,024. There are 0 to 4,096 lines" and so on: "A table is accepted if none of the refusals about its own columns (here 1 to 6) applies"
  pub table_accepted : (acceptance c ≡ Ok tt) ↔ RightTable c
  table_accepted = accepted_exactly c

  pub table_refused : (r : Refusal) → (acceptance c ≡ Err r) ↔ WrongTable c r
  table_refused = refused_exactly c

  -- "struck: that line then yields nothing"; by document 02, 2026-02, the strike stands "in a column of its own, 0 or 1"
  pub struck_yields_nothing : (v : ℕ) (d : Derivation (hypergraph c) v) → ¬ (strike_at c (root d) ≡ 1)
  unfolding root
  struck_yields_nothing v (node e s h ds) = eqb-false (strike_at c e) struck_mark (not-true _ s.unstruck)

  -- "Gaps may stand between spans and their contents are never looked at"
  pub gaps_unseen : (tails : List ℕ) → Gapped c tails → acceptance c ≡ acceptance (with_tails c tails)
  gaps_unseen = gaps_accepted c

  -- nor do the calls: with other contents in the gaps each returns and leaves the same, accepted or refused (settling and the answer check: Demand2)
  module _ (m : Measure) (tails : List ℕ) (g : Gapped c tails) where
    pub reprice_over_gaps : (a : Entries) (e w : ℕ) → repriced m c a e w ≡ repriced m (with_tails c tails) a e w
    reprice_over_gaps = reprice_gaps c tails g m

    pub strike_over_gaps : (a : Entries) (e : ℕ) → stricken m c a e ≡ stricken m (with_tails c tails) a e
    strike_over_gaps = strike_gaps c tails g m

    pub bill_over_gaps : (a : Entries) (v : ℕ) (room : List ℕ) → billed m c a v room ≡ billed m (with_tails c tails) a v room
    bill_over_gaps = bill_gaps c tails g m

    pub write_over_gaps : (room : List ℕ) → write_table m c room ≡ write_table m (with_tails c tails) room
    write_over_gaps = write_gaps c tails g m

  -- nor does closing them change an answer
  pub gaps_closed : (m : Measure) → acceptance c ≡ Ok tt → entries_of m (closed c) ≡ entries_of m c
  gaps_closed m = entries_closed m c

-- Make-ups, figures, depth -------------------------------------------------------------------------------------------------------------------------------------------

-- "A sum above the ceiling, 1,000,000,000,000, becomes 1,000,000,000,001"
pub sum-capped : (x : ℕ) → (x ≤ ceiling → capped x ≡ x) × (ceiling < x → capped x ≡ over)
sum-capped x = (λ h. omega arith, λ h. omega arith)

module _ {H : Hypergraph} (own : ℕ → ℕ) {v : ℕ} (d : Derivation H v) where
  -- "Cost: the line's own figure plus the figures of its parts' make-ups, each occurrence counted": the plain sum along the make-up's lines, capped once
  pub cost_is : weight cost own d ≡ capped (total own (listing d))
  cost_is = cost-total own d

-- "A line with no parts has depth 1, any other 1 more than its deepest part"
module _ {H : Hypergraph} {v : ℕ} (e : ℕ) (s : Stands H e) (h : H.head e ≡ v) (ds : Derivations H (H.tail e)) where
  pub depth_is : depth (node {v = v} e s h ds) ≡ deepest ds + 1
  unfolding depth
  depth_is = refl

  pub depth_alone : H.tail e ≡ [] → depth (node {v = v} e s h ds) ≡ 1
  unfolding depth deepest
  depth_alone p = alone (H.tail e) ds p
    where
      alone : (vs : List ℕ) (ds : Derivations H vs) → vs ≡ [] → deepest ds + 1 ≡ 1
      alone [] none q = refl
      alone (w ∷ vs) (more d ds) q = let z : ◌≡◌ {A = ℕ} 1 0 = cc in absurd (omega arith)

-- "the state follows from them: unmade at depth 0, else over at figure 1,000,000,000,001, else made"
module _ (w d : ℕ) where
  pub state_unmade : (state_of w d ≡ Unmade) ↔ (d ≡ 0)
  state_unmade = unmade_state w d

  pub state_over : (state_of w d ≡ Over) ↔ ((0 < d) × (w ≡ 1_000_000_000_001))
  state_over = over_state w d

  pub state_made : (state_of w d ≡ Made) ↔ ((0 < d) × ¬ (w ≡ 1_000_000_000_001))
  state_made = made_state w d

-- "Laws of cost and days that agree are established a single time, over a measure": everything about make-ups is proved of any algebra that has these laws
pub laws : (m : Measure) → Lawful (algebra m)
laws = lawful

-- The calls ------------------------------------------------------------------------------------------------------------------------------------------------------------

-- "both … leave in the answer columns the answers of the table as it then is": those of demand 2, so the next call's check says yes. Repricing changes the own figure, and
-- striking, by document 02, 2026-02, the strike mark alone
module _ (m : Measure) (c : Columns) (a : Entries) (e w : ℕ) (h : (repriced m c a e w).result ≡ Ok tt) where
  pub reprice_stores : (repriced m c a e w).own ≡ set c.own e w
  reprice_stores = (reprice_leaves m c a e w h).stored

  pub reprice_means : (v : ℕ) → Demand2 m (with_own c e w) (repriced m c a e w).left v
  reprice_means = (reprice_leaves m c a e w h).means

  pub reprice-states : (v : ℕ) → StateMeans m (with_own c e w) (labels (repriced m c a e w).left.labels v) v
  reprice-states = (reprice_leaves m c a e w h).states

  pub reprice_checks : checked m (with_own c e w) (repriced m c a e w).left ≡ Ok true
  reprice_checks = (reprice_leaves m c a e w h).checks

module _ (m : Measure) (c : Columns) (a : Entries) (e : ℕ) (h : (stricken m c a e).result ≡ Ok tt) where
  pub strike_stores : (stricken m c a e).strikes ≡ set c.strikes e struck_mark
  strike_stores = (strike_leaves m c a e h).stored

  pub strike_means : (v : ℕ) → Demand2 m (with_strike c e struck_mark) (stricken m c a e).left v
  strike_means = (strike_leaves m c a e h).means

  pub strike_states : (v : ℕ) → StateMeans m (with_strike c e struck_mark) (labels (stricken m c a e).left.labels v) v
  strike_states = (strike_leaves m c a e h).states

  pub strike_checks : checked m (with_strike c e struck_mark) (stricken m c a e).left ≡ Ok true
  strike_checks = (strike_leaves m c a e h).checks

module _ (m : Measure) (c : Columns) (a : Entries) (v : ℕ) where
  -- "Print a bill: the line numbers of the chosen make-up, root first, then the bill of each listed part, in the order listed", of every part that has a make-up
  pub bill_is : RightLent c a → v < c.vertices → AllMean m c a → Derivation (hypergraph c) v → IsBill m c (labels a.labels) v (bill_of c a.labels v)
  bill_is = right_bill m c a v

  -- "A bill returns its length; the room behind it keeps its bytes"
  pub bill_returns : (room : List ℕ) (size : ℕ) → (billed m c a v room).result ≡ Ok size → Printed m c a v room size (billed m c a v room).left
  bill_returns = bill_printed m c a v

-- "Parts that are over have a bill too"
pub over_has_a_bill : (m : Measure) (c : Columns) (a : Entries) (v : ℕ) → RightLent c a → v < c.vertices → AllMean m c a → label_state (labels a.labels v) ≡ Over
    → IsBill m c (labels a.labels) v (bill_of c a.labels v)
over_has_a_bill m c a v l h all s = bill_is m c a v l h all ((means_state m c (labels a.labels v) v (all v h).means).over.0 s).shown

-- The text -------------------------------------------------------------------------------------------------------------------------------------------------------------

-- a text has one table, gaps aside
pub one_table : (text : List ℕ) (p q : Permitted text) → closed p.table ≡ closed q.table
one_table = permitted_same

-- and one measure
pub one_measure : (text : List ℕ) (p q : Permitted text) → p.measure ≡ q.measure
one_measure text p q = same (sym (permitted_read text p) ∙ permitted_read text q)
  where
    same : {t u : Table} → Whole t ≡ Whole u → t.measure ≡ u.measure
    same e = cc

-- what a text holds: the table that it is of, or else the first line that breaks a rule
pub text_parsed : (text : List ℕ) (p : Permitted text) → parse text ≡ Whole (table_of p.measure p.table)
text_parsed = permitted_read

pub text_unparsed : (text : List ℕ) → ¬ Permitted text → (k : ℕ) × (parse text ≡ Wrong k) × FirstWrong text k
text_unparsed = unpermitted_wrong

-- "Other programs walk the text with a reader that holds the lent text and its place": a walk reaches the end, its counts kept, exactly if the text is permitted
pub walked_is_permitted : (s : List ℕ) (t : Table) → Walks s t → Counted t → Permitted s
walked_is_permitted = walk_permitted

pub permitted_is_walked : (s : List ℕ) → Permitted s → (t : Table) × Walks s t × Counted t
permitted_is_walked = permitted_walk

-- and it passes the table whose text this is, whatever its counts
pub walked_is_its_text : (s : List ℕ) (t : Table) → Walks s t → Formed t × (s ≡ text_of t)
walked_is_its_text = walk_text

pub text_is_walked : (t : Table) → Formed t → Walks (text_of t) t
text_is_walked = text_walk

-- what each function of the reader finds is what stands there: "Numbers are decimal without leading zeros", and "anything but digits ends the reading with a refusal"
module _ (s : List ℕ) (at next : ℕ) where
  pub number_found : (limit v : ℕ) → (number_at s at limit ≡ token at next (Some v)) ↔ ((v < limit) × Reads s at next (digits v))
  number_found = number_exactly s at next

  -- an own figure, with the `-` of a struck line before it
  pub figure_found : (o k : ℕ) → (weight_at s at ≡ weight_token at next (Some ((record { 0 = o }), (record { 0 = k })))) ↔ ((o ≤ greatest) × (k ≤ struck_mark) × Reads s at next (own_text o k))
  figure_found = weight_exactly s at next

  -- a space, or an LF
  pub space_found : (separator_at s at ≡ Space next) ↔ ((next ≡ at + 1) × (get_or s at 0 ≡ 32))
  space_found = space_exactly s at next

  pub end_found : (separator_at s at ≡ LineEnd next) ↔ ((next ≡ at + 1) × (get_or s at 0 ≡ 10))
  end_found = end_exactly s at next

  -- a whole table line of at most `most` listed parts, as a walk passes it field by field
  pub line_found : (n most : ℕ) (e : Edge) → (row_at s n most at ≡ Holds e next) ↔ (Line s n at e next × (length e.tail ≤ most))
  line_found n most e = line_exactly s n most at e next

pub first_line_found : (s : List ℕ) (n start : ℕ) (m : Measure)
    → (first_line s ≡ Opens n m start) ↔ ((n ≤ most_vertices) × (start ≡ length (header n m)) × (s ≡ header n m ++ drop start s))
first_line_found = first_exactly

-- a first line is refused at the text's first byte that can't stand there
pub first_line_refused : (s : List ℕ) (place : ℕ) → first_line s ≡ Unopened place → FirstByte s 1 (place + 1)
first_line_refused = first_refused_exactly

-- "Read after write gives the table with its gaps closed", and so the same answers
module _ (m : Measure) (c : Columns) (room : List ℕ) (k : ℕ) (h o ms s t : List ℕ) (p : (write_table m c room).answer ≡ Ok k) (q : Room (closed c) h o ms s t) where
  pub read_after_writing : read_table (take k (write_table m c room).room) h o ms s t ≡ filled_with (closed c) m h o ms s t
  read_after_writing = read_after_write m c room k h o ms s t p q

  pub reads_the_same : ReadsBack m c (read_table (take k (write_table m c room).room) h o ms s t)
  reads_the_same = reads_back m c room k h o ms s t p q

-- "write after read gives the text back"
module _ (text h o ms s t : List ℕ) (g : Header) (p : (read_table text h o ms s t).answer ≡ Ok g) where
  pub write_after_reading : (room : List ℕ) → length text ≤ length room
      → write_table g.measure (columns_read g (read_table text h o ms s t)) room ≡ write_outcome (Ok (length text)) (filled text room)
  write_after_reading room = write_after_read text h o ms s t room g p

  pub read_is_accepted : acceptance (columns_read g (read_table text h o ms s t)) ≡ Ok tt
  read_is_accepted = read_accepted text h o ms s t g p

-- A table priced whole ---------------------------------------------------------------------------------------------------------------------------------------------

-- what the listing program prints of an input: 17 if it is too long, the list if it is permitted, 14 at the first line that breaks a rule, with its column
pub program_prints : (input : List ℕ) → Prints input (report input)
program_prints = prints

-- and a list is printed only of an input that was read to its end
pub program_reads_all : (input : List ℕ) (last : ℤ) → Ended (length input) last
    → (printed input last ≡ refused_line (Text (record { 0 = 1 }) (record { 0 = 1 }))) ⊎ ((printed input last ≡ refused_line InputLength) ⊎ ((last ≡ pos 0) × (printed input last ≡ report input)))
program_reads_all = whole_reported

-- the worked text and its list, byte for byte, in cost and in days
pub worked_list : report cost_text ≡ cost_list
worked_list = worked_cost

pub worked_list_in_days : report days_text ≡ days_list
worked_list_in_days = worked_days

-- the worked table and that of P3 are a pair as demand 3 has it
pub worked_tables : Pair worked (with_own worked 1 500) 1 200
worked_tables = worked_pair

-- "Proved examples, gathered into one list that a single theorem about the definitions covers": P1 to P10
pub examples : AllHold cases
examples = every_case_holds
