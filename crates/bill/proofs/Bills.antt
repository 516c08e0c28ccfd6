-- What a bill is: theorems beside the contract. Where a part is accepted, its bill lists its chosen make-up: it is as long as that has nodes, each line stands in it
-- as often as in the make-up, and its own figures come to the part's figure. The paper's "The calls": a bill's length is a count of the chosen make-up, and a line's
-- count is what demand 3 counts. Assumes nothing.
use mathlib.Core.Path.{◌≡◌, refl, sym, ◌∙◌, ap, subst}
use mathlib.Core.List.{List, ◌++◌}
use Prim.Native.Nat.{ℕ, ◌<◌}
use native.Mathlib.Omega.{arith}
use lib.ListN.{length, drop}
use borrow.Author.Tests.{ltb-true}
use Rattle.weights.specs.declared.Measure.{Measure}
use Rattle.weights.specs.declared.Measure.TheVariants.{Cost, Days, Grade}
use Rattle.weights.specs.declared.Label.{Label}
use Rattle.weights.specs.Measures.{algebra}
use Rattle.weights.proofs.Laws.{lawful}
use Rattle.refusal.specs.declared.Refusal.{Refusal}
use Rattle.provenance.specs.Hypergraph.{Derivation, listing}
use Rattle.provenance.specs.Labelling.{Made, Fixpoint}
use Rattle.provenance.specs.Means.{Follows}
use Rattle.columns.specs.Columns.{Entries, Columns, own_at}
use Rattle.provenance.specs.BestFirst.{labels}
use Rattle.provenance.specs.Support.{ChosenDerivation}
use Rattle.provenance.proofs.Support.{follows_bill, chosen, supports}
use Rattle.provenance.specs.Paths.{Greatest}
use Rattle.provenance.proofs.Sensitivity.{cost-total, days_along}
use Rattle.provenance.specs.Counting.{count}
use Rattle.tables.specs.Table.{hypergraph}
use Rattle.columns.proofs.Accepted.{AcceptedColumns, columns_accepted, both_accepted, test_passed}
use Rattle.columns.proofs.Same.{entries_true}
use Rattle.settle.specs.Settling.{entries_of}
use Rattle.settle.proofs.Demands.{answers_fixpoint}
use Rattle.bill.specs.Billing.{bill_of, part_acceptance, bill_acceptance, outcome, billed}
use Rattle.bill.specs.Listing.{amount, least_own}
use Rattle.bill.proofs.Listing.{listing-nodes, listing-uses, listing_least}
use Rattle.bill.specs.Bills.{BillWorth, IsBill, Printed}
use Rattle.refusal.specs.Answers.{Acceptance}
use Rattle.std.specs.Prelude.{Ok, Err}

-- a part whose bill can be asked for
pub record AcceptedPart (m : Measure) (c : Columns) (a : Entries) (v : ℕ) : Type 0 where
  pub columns : AcceptedColumns c a
  pub vertex : v < c.vertices
  pub fixed : Fixpoint (algebra m) (hypergraph c) (own_at c) (labels a.labels)
  pub made : Made (labels a.labels v)

pub part_accepted : (m : Measure) (c : Columns) (a : Entries) (v : ℕ) → part_acceptance m c a v ≡ Ok tt → AcceptedPart m c a v
unfolding part_acceptance entries_of
part_accepted m c a v p =
    let t = both_accepted _ _ p in
    let l = columns_accepted c a t.0 in
    let t1 = test_passed _ _ _ t.1 in
    let t2 = test_passed _ _ _ t1.1 in
    let t3 = test_passed _ _ _ t2.1 in
    let right = entries_true a (entries_of m c) t2.0 in
    record {
      columns = l;
      vertex = ltb-true _ _ t1.0;
      fixed = subst (λ (b : Entries). Fixpoint (algebra m) (hypergraph c) (own_at c) (labels b.labels)) (sym right) (answers_fixpoint m c l.table);
      made = record { deep = ltb-true _ _ t3.0 };
    }

-- a list that the chosen make-up has comes to the figure that its label has
bill_worth : (m : Measure) (c : Columns) {ls : ℕ → Label} {v : ℕ} {es : List ℕ} → Fixpoint (algebra m) (hypergraph c) (own_at c) ls
    → ((t : Derivation (hypergraph c) v) → Follows ls t → es ≡ listing t) → ChosenDerivation (hypergraph c) ls v → BillWorth m c ls v es
bill_worth Cost c fix lists t =
    ap (amount (own_at c)) (lists t.tree t.follows) ∙ sym (cost-total (own_at c) t.tree) ∙ (supports (lawful Cost) fix t.tree t.follows).weighs
bill_worth Days c fix lists t = λ u f. subst (Greatest (amount (own_at c)) u) (supports (lawful Days) fix u f).weighs (days_along (own_at c) u)
bill_worth Grade c fix lists t =
    ap (least_own (own_at c)) (lists t.tree t.follows) ∙ sym (listing_least (own_at c) t.tree) ∙ (supports (lawful Grade) fix t.tree t.follows).weighs

module _ {m : Measure} {c : Columns} {a : Entries} {v : ℕ} (p : AcceptedPart m c a v) where
  bill-lists : (t : Derivation (hypergraph c) v) → Follows (labels a.labels) t → bill_of c a.labels v ≡ listing t
  unfolding bill_of
  bill-lists t f = sym (follows_bill (labels a.labels) t f (labels a.labels v).depth (omega (arith, (supports (lawful m) p.fixed t f).deep)))

  pub is_bill : IsBill m c (labels a.labels) v (bill_of c a.labels v)
  is_bill =
      let t = chosen (lawful m) p.fixed v p.made in
      record {
        chosen = t;
        lists = bill-lists;
        long = λ u f. ap length (bill-lists u f) ∙ listing-nodes u;
        counts = λ u f e. ap (count e) (bill-lists u f) ∙ listing-uses e u;
        worth = bill_worth m c p.fixed bill-lists t;
      }

module _ (m : Measure) (c : Columns) (a : Entries) (v : ℕ) (room : List ℕ) where
  pub bill_printed : (size : ℕ) → (billed m c a v room).result ≡ Ok size → Printed m c a v room size (billed m c a v room).left
  unfolding billed bill_acceptance
  bill_printed size e = go (bill_acceptance m c a v (length room)) refl e
    where
      go : (x : Acceptance) → bill_acceptance m c a v (length room) ≡ x → (outcome x (bill_of c a.labels v) room).result ≡ Ok size
          → Printed m c a v room size (outcome x (bill_of c a.labels v) room).left
      go (Err r) p q = let z : ◌≡◌ {A = ℕ} 0 1 = cc in absurd (omega arith)
      go (Ok _) p q =
          let h : size ≡ length (bill_of c a.labels v) = cc in
          record { bill = is_bill (part_accepted m c a v (both_accepted _ _ p).0); counted = h; holds = ap (λ (k : ℕ). bill_of c a.labels v ++ drop k room) (sym h) }

  -- a refusal leaves the room
  pub bill_keeps : (r : Refusal) → (billed m c a v room).result ≡ Err r → (billed m c a v room).left ≡ room
  unfolding billed
  bill_keeps r e = go (bill_acceptance m c a v (length room)) e
    where
      go : (x : Acceptance) → (outcome x (bill_of c a.labels v) room).result ≡ Err r → (outcome x (bill_of c a.labels v) room).left ≡ room
      go (Err s) q = refl
      go (Ok _) q = let z : ◌≡◌ {A = ℕ} 0 1 = cc in absurd (omega arith)
