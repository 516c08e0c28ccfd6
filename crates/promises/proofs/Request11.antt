-- Document 02, change request 2026-11. `c` is the old table and `c'` the new one. Assumes nothing.
use mathlib.Core.Path.{◌≡◌, subst}
use mathlib.Core.Logic.{◌↔◌}
use Prim.Native.Nat.{ℕ, ◌*◌, ◌+◌, ◌≤◌}
use lib.IntN.{pos, sub_ℕ, ℤ}
use lib.ListN.{length}
use lib.Signed.{◌≤ℤ◌}
use Rattle.weights.specs.declared.Measure.TheVariants.{Cost}
use Rattle.weights.specs.declared.State.TheVariants.{Made, Unmade}
use Rattle.provenance.specs.Hypergraph.{Derivation, listing}
use Rattle.provenance.specs.Counting.{count, bill_change}
use Rattle.provenance.proofs.Integers.{above_number, below_number}
use Rattle.columns.specs.Columns.{Columns, own_at}
use Rattle.tables.specs.Table.{hypergraph}
use Rattle.settle.specs.Settling.{answers_of}
use Rattle.reprice.specs.Demand3.{labels_of, state_in, Pair}
use Rattle.reprice.specs.Revision.{Revised, Revision}
use Rattle.reprice.proofs.Revision.{cost_revision, pair_revised, one_line}
use Rattle.bill.specs.Billing.{bill_of}
use Rattle.bill.specs.Rises.{RevisionBilled, count_in}
use Rattle.bill.proofs.Rises.{cost_revision_billed}
use Rattle.examples.specs.Case.{AllHold}
use Rattle.examples.specs.Letter.{letter_cases}
use Rattle.examples.proofs.Letter.{letter_holds}
use Rattle.promises.specs.Figures.{figure_in}
use Rattle.promises.proofs.Bills.{raised_bills}

-- 2026-11: a price letter that changes everything ---------------------------------------------------------------------------------------------------------------------

-- whole, with the counts taken in chosen make-ups, and in bills as they are printed
pub letter_of_make_ups : (c c' : Columns) → Revised c c' → Revision c c'
letter_of_make_ups = cost_revision

pub letter_of_bills : (c c' : Columns) → Revised c c' → RevisionBilled c c'
letter_of_bills = cost_revision_billed

-- "between two cost tables that differ only in the own figures of lines unstruck in both, the change in a part made and within the ceiling in both (new less old, it may be
-- negative) is at least the sum, over all lines, of the line's change times its count in the new bill, and at most the same sum with the old bill"
module _ (c c' : Columns) (r : Revised c c') (v : ℕ) (s : state_in Cost c v ≡ Made) (s' : state_in Cost c' v ≡ Made) where
  pub letter_least :
      let bill = bill_of c' (answers_of Cost c') v in
      bill_change (own_at c) (own_at c') (length c.heads) bill ≤ℤ sub_ℕ (labels_of Cost c' v).weight.0 (labels_of Cost c v).weight.0
  letter_least = ((cost_revision_billed c c' r).changes v s s').least

  pub letter_most :
      let bill = bill_of c (answers_of Cost c) v in
      sub_ℕ (labels_of Cost c' v).weight.0 (labels_of Cost c v).weight.0 ≤ℤ bill_change (own_at c) (own_at c') (length c.heads) bill
  letter_most = ((cost_revision_billed c c' r).changes v s s').most

-- and the same parts are unmade
pub letter_unmade : (c c' : Columns) → Revised c c' → (v : ℕ) → (state_in Cost c v ≡ Unmade) ↔ (state_in Cost c' v ≡ Unmade)
letter_unmade c c' r = (cost_revision c c' r).unmade

-- "The raised-line rule must come out as the case of one line": a pair of demand 3 is a letter, and both its sums are d times the line's count
pub pair_is_a_letter : (c c' : Columns) (e d : ℕ) → Pair c c' e d → Revised c c'
pair_is_a_letter = pair_revised

pub pair_sums : (c c' : Columns) (e d : ℕ) → Pair c c' e d → (v : ℕ) (t : Derivation (hypergraph c) v) (t' : Derivation (hypergraph c') v) →
    let n = length c.heads in
    (bill_change (own_at c) (own_at c') n (listing t) ≡ pos (d * count e (listing t))) × (bill_change (own_at c) (own_at c') n (listing t') ≡ pos (d * count e (listing t')))
pair_sums = one_line

-- in bills as they are printed, where a line's count is Demand3's; and from `letter_least` and `letter_most` alone come the bounds of `cost_rises`
module _ (c c' : Columns) (e d : ℕ) (p : Pair c c' e d) (v : ℕ) (s : state_in Cost c v ≡ Made) (s' : state_in Cost c' v ≡ Made) where
  pub one_line_sums : (bill_change (own_at c) (own_at c') (length c.heads) (bill_of c (answers_of Cost c) v) ≡ pos (d * count_in Cost c e v))
      × (bill_change (own_at c) (own_at c') (length c.heads) (bill_of c' (answers_of Cost c') v) ≡ pos (d * count_in Cost c' e v))
  one_line_sums = raised_bills c c' e d p v s s'

  pub one_line_rises : (figure_in Cost c v + d * count_in Cost c' e v ≤ figure_in Cost c' v) × (figure_in Cost c' v ≤ figure_in Cost c v + d * count_in Cost c e v)
  one_line_rises =
      let w = figure_in Cost c v in
      let w' = figure_in Cost c' v in
      let r = pair_revised c c' e d p in (
        (above_number (d * count_in Cost c' e v) w' w).0 (subst (λ (z : ℤ). z ≤ℤ sub_ℕ w' w) one_line_sums.1 (letter_least c c' r v s s')),
        (below_number w' w (d * count_in Cost c e v)).0 (subst (λ (z : ℤ). sub_ℕ w' w ≤ℤ z) one_line_sums.0 (letter_most c c' r v s s')),
      )

-- a letter that raises one line of the worked table and cuts another: one part falls, one rises
pub letter_worked : AllHold letter_cases
letter_worked = letter_holds
