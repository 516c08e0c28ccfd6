-- Document 02, change request 2026-09. Assumes nothing.
use mathlib.Core.Path.{◌≡◌, refl, sym, ◌∙◌, ap, fun_ext}
use mathlib.Core.List.{List, [], ◌∷◌, ◌++◌}
use Prim.Native.Nat.{ℕ, ◌≤◌, ◌<◌, min}
use native.Mathlib.Omega.{arith}
use lib.ListN.{length}
use borrow.Author.Tests.{ne_eqb}
use Rattle.weights.specs.declared.Measure.{Measure}
use Rattle.weights.specs.declared.Measure.TheVariants.{Cost}
use Rattle.weights.specs.Figures.{greatest, standing, struck_mark}
use Rattle.weights.specs.Measures.{fold, weigh}
use Rattle.weights.specs.Labels.{ahead_of}
use Rattle.weights.proofs.Laws.{lawful}
use Rattle.refusal.specs.declared.Counts.{Counts}
use Rattle.refusal.specs.declared.Refusal.TheVariants.{AnswerLength, WrongAnswers}
use Rattle.columns.specs.Columns.{Entries, Columns, cell, tail_at, with_own, with_strike}
use Rattle.columns.specs.Acceptance.{acceptance, lent_acceptance}
use Rattle.columns.specs.Longer.{NewLine, in_use_of, longer}
use Rattle.columns.specs.Right.{RightTable, RightLent, WrongLent}
use Rattle.columns.specs.Worked.{worked}
use Rattle.columns.proofs.Exactly.{accepted_exactly, lent_exactly, lent_refused_exactly}
use Rattle.provenance.specs.Hypergraph.{Derivation, listing}
use Rattle.provenance.specs.Labelling.{Made, each, greatest_depth, none_zero, offer_of}
use Rattle.provenance.specs.BestFirst.{labels, opening, next, turn, turns, best_first}
use Rattle.provenance.specs.Support.{bills, bill}
use Rattle.provenance.specs.Counting.{total}
use Rattle.provenance.specs.Pieces.{most_pieces, piece, bought, leaves, pieces_at, HasPieces, below, piece_count, piece_local}
use Rattle.provenance.proofs.Pieces.{founded, pieces_local, pieces_most, pieces_only, pieces_positive, listing-leaves}
use Rattle.tables.specs.Table.{hypergraph}
use Rattle.pieces.specs.Counting.{counted}
use Rattle.pieces.proofs.Accepted.{counted_is}
use Rattle.settle.specs.Settling.{answers_of, entries_of, settled, entry_at}
use Rattle.settle.specs.Checking.{checked}
use Rattle.settle.specs.Defined.{AllMean}
use Rattle.settle.proofs.Demands.{answers_fixpoint, entries_at, demand_2, yes_only, answers_sized}
use Rattle.settle.proofs.Exactly.{yes_exactly, no_exactly}
use Rattle.reprice.specs.Changes.{Named, WrongChange}
use Rattle.reprice.specs.Repricing.{repriced, stricken, restored}
use Rattle.reprice.proofs.Changes.{repriced_result_lem, reprice_refused_exactly, reprice_leaves, strike_leaves, restore_leaves}
use Rattle.append.specs.Appending.{appended}
use Rattle.append.proofs.Appended.{appended-longer}
use Rattle.bill.specs.Billing.{bill_of}
use Rattle.text.specs.Render.{digits}
use Rattle.report.specs.Report.{names, state_word, row}
use Rattle.topological.specs.Ordering.{settled_in_order}
use Rattle.topological.proofs.Settled.{ordered_demand_2}
use Rattle.std.specs.Prelude.{Ok, Err, false}

-- 2026-09: keep the piece count in the entry --------------------------------------------------------------------------------------------------------------------------

-- the piece count of v in lent columns
abbrev pub pieces_in : Entries → ℕ → ℕ
pieces_in a v = cell a.pieces v

-- "the number of lines without parts in the chosen make-up, counted as often as they stand there, capped at 1,000,000,000; 0 if unmade" (`HasPieces`): of what settling leaves
pub settle_counts : (m : Measure) (c : Columns) (a : Entries) → (settled m c a).result ≡ Ok tt
    → (v : ℕ) → HasPieces (hypergraph c) (labels (settled m c a).left.labels) v (pieces_in (settled m c a).left v)
settle_counts m c a h v = (demand_2 m c a h v).pieces

module _ (m : Measure) (c : Columns) (t : RightTable c) (v : ℕ) where
  accepted : acceptance c ≡ Ok tt
  accepted = (accepted_exactly c).1 t

  -- this fixes it
  pub count_fixed : (p : ℕ) → HasPieces (hypergraph c) (labels (answers_of m c)) v p → p ≡ pieces_in (entries_of m c) v
  count_fixed p h = pieces_only (answers_fixpoint m c accepted) (lawful m) v p h ∙ sym (entries_at m c accepted v)

  -- it can be read off the bill, so "the bill is walked each time" no longer
  pub count_billed : pieces_in (entries_of m c) v ≡ min (bought (tail_at c) (bill_of c (answers_of m c) v)) most_pieces
  unfolding bill_of pieces_at
  count_billed = entries_at m c accepted v

  -- a made part has at least one piece, and no part more than the cap
  pub count_positive : Made (labels (answers_of m c) v) → 0 < pieces_in (entries_of m c) v
  count_positive k = omega (arith, entries_at m c accepted v, pieces_positive (hypergraph c) (labels (answers_of m c)) (founded (answers_fixpoint m c accepted)) v k)

  pub count_capped : pieces_in (entries_of m c) v ≤ most_pieces
  count_capped = omega (arith, entries_at m c accepted v, pieces_most (hypergraph c) (labels (answers_of m c)) v)

  -- of a line without parts 1, of any other the capped sum of its parts' counts, each occurrence counted
  pub count_by_parts : Made (labels (answers_of m c) v) → pieces_in (entries_of m c) v ≡ piece_count (pieces_in (entries_of m c)) (tail_at c (labels (answers_of m c) v).edge.0)
  unfolding piece_local
  count_by_parts k =
      let ls = labels (answers_of m c) in
      let fix = answers_fixpoint m c accepted in
      let counts = fun_ext (entries_at m c accepted) in
      let made = ne_eqb (ls v).depth 0 (λ z. omega (arith, k.deep)) in
      entries_at m c accepted v ∙ pieces_local (hypergraph c) ls (founded fix) v ∙ rw made (ap (λ (p : ℕ → ℕ). piece_count p (tail_at c (ls v).edge.0)) (sym counts))

-- the column that `pieces::count_pieces` leaves, by its contract, and with which `pieces_right` compares a lent one, holds these counts
pub column_counted : (m : Measure) (c : Columns) → RightTable c → counted c.spans c.tails (answers_of m c).depths (answers_of m c).edges ≡ (entries_of m c).pieces
unfolding entries_of
column_counted m c t = let p = (accepted_exactly c).1 t in counted_is c (answers_of m c) p (answers_sized m c p)

-- a piece is a line without parts: those of a make-up are as many as in its bill
pub pieces_listed : (c : Columns) {v : ℕ} (t : Derivation (hypergraph c) v) → leaves t ≡ bought (tail_at c) (listing t)
pieces_listed c t = listing-leaves t

-- "In the worked table part 3 holds 4"
pub worked_pieces : (entries_of Cost worked).pieces ≡ 1 ∷ 1 ∷ 2 ∷ 4 ∷ 0 ∷ []
unfolding answers_of entries_of below pieces_at piece total bill bills best_first turns turn next opening offer_of none_zero ahead_of weigh fold each greatest_depth
worked_pieces = refl

-- "The listing prints it as a last field headed `pieces`": the line of names, `part state figure depth line pieces`, and the row of part v
pub pieces_headed : names ≡ 112 ∷ 97 ∷ 114 ∷ 116 ∷ 32 ∷ 115 ∷ 116 ∷ 97 ∷ 116 ∷ 101 ∷ 32 ∷ 102 ∷ 105 ∷ 103 ∷ 117 ∷ 114 ∷ 101 ∷ 32 ∷ 100 ∷ 101 ∷ 112 ∷ 116 ∷ 104 ∷ 32 ∷ 108 ∷ 105
    ∷ 110 ∷ 101 ∷ 32 ∷ 112 ∷ 105 ∷ 101 ∷ 99 ∷ 101 ∷ 115 ∷ 10 ∷ []
unfolding names
pieces_headed = refl

pub pieces_printed : (a : Entries) (v : ℕ) → let e = entry_at a v in
    row v e ≡ digits v ++ (32 ∷ state_word e.state) ++ (32 ∷ digits e.weight.0) ++ (32 ∷ digits e.depth) ++ (32 ∷ digits e.edge.0) ++ (32 ∷ digits (pieces_in a v)) ++ 10 ∷ []
unfolding row
pieces_printed a v = refl

-- "Settling, repricing, striking, restoring, appending and the dealers' settling all keep it true": it is that of the table as it then is
pub ordered_counts : (m : Measure) (c : Columns) (a : Entries) → (settled_in_order m c a).result ≡ Ok tt
    → (v : ℕ) → HasPieces (hypergraph c) (labels (settled_in_order m c a).left.labels) v (pieces_in (settled_in_order m c a).left v)
ordered_counts m c a h v = (ordered_demand_2 m c a h v).pieces

module _ (m : Measure) (c : Columns) (a : Entries) (e : ℕ) where
  pub reprice-counts : (w : ℕ) → (repriced m c a e w).result ≡ Ok tt
      → (v : ℕ) → HasPieces (hypergraph (with_own c e w)) (labels (repriced m c a e w).left.labels) v (pieces_in (repriced m c a e w).left v)
  reprice-counts w h v = ((reprice_leaves m c a e w h).means v).pieces

  pub strike_counts : (stricken m c a e).result ≡ Ok tt
      → (v : ℕ) → HasPieces (hypergraph (with_strike c e struck_mark)) (labels (stricken m c a e).left.labels) v (pieces_in (stricken m c a e).left v)
  strike_counts h v = ((strike_leaves m c a e h).means v).pieces

  pub restore_counts : (restored m c a e).result ≡ Ok tt
      → (v : ℕ) → HasPieces (hypergraph (with_strike c e standing)) (labels (restored m c a e).left.labels) v (pieces_in (restored m c a e).left v)
  restore_counts h v = ((restore_leaves m c a e h).means v).pieces

pub append_counts : (m : Measure) (c : Columns) (k : Counts) (a : Entries) (index list : List ℕ) (l : NewLine) (k' : Counts)
    → (appended m c k a index list l).result ≡ Ok k'
    → let o = (appended m c k a index list l).answers in (v : ℕ) → HasPieces (hypergraph (longer (in_use_of c k) l)) (labels o.labels) v (pieces_in o v)
append_counts m c k a index list l k' h v = ((appended-longer m c k a index list l k' h).means v).pieces

-- "and the answer check compares it": a wrong count alone makes it say no, and repricing refuse by 8
module _ (m : Measure) (c : Columns) (a : Entries) (l : RightLent c a) (wrong : ¬ (a.pieces ≡ (entries_of m c).pieces)) where
  not_meant : ¬ AllMean m c a
  not_meant all = wrong (ap (λ (b : Entries). b.pieces) (yes_only m c a ((yes_exactly m c a).1 (record { accepted = (lent_exactly c a).1 l; means = all }))))

  pub wrong_count_no : checked m c a ≡ Ok false
  wrong_count_no = (no_exactly m c a).1 ((lent_exactly c a).1 l, not_meant)

  pub wrong_count_8 : (e w : ℕ) → Named c e → w ≤ greatest → (repriced m c a e w).result ≡ Err WrongAnswers
  wrong_count_8 e w n h = repriced_result_lem m c a e w ∙ (reprice_refused_exactly m c a e w WrongAnswers).1 (WrongChange.answers l n h not_meant)

-- "Turned away: 7 and 8 cover the new column": 7, where it is not n long, behind the table's own refusals
pub short_count_7 : (c : Columns) (a : Entries) → RightTable c → ¬ (length a.pieces ≡ c.vertices) → lent_acceptance c a ≡ Err AnswerLength
short_count_7 c a t n = (lent_refused_exactly c a AnswerLength).1 (WrongLent.answers t (λ s. n s.pieces))
