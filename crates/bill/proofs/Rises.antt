-- Demand 3 and the bound of a price letter with the counts taken in printed bills: the listing of a chosen make-up is the bill. Assumes nothing.
use mathlib.Core.Path.{◌≡◌, ap, subst}
use mathlib.Core.List.{List}
use Prim.Native.Nat.{ℕ}
use lib.ListN.{length}
use native.Mathlib.Omega.{arith}
use Rattle.weights.specs.declared.Measure.{Measure}
use Rattle.weights.specs.declared.Measure.TheVariants.{Cost}
use Rattle.weights.specs.declared.State.TheVariants as state
use Rattle.weights.specs.declared.Label.{Label}
use Rattle.weights.specs.Labels.{label_state}
use Rattle.weights.proofs.States.{made_state}
use Rattle.provenance.specs.Hypergraph.{listing}
use Rattle.provenance.specs.Labelling.{Made}
use Rattle.provenance.proofs.Support.{follows_bill}
use Rattle.provenance.specs.Counting.{count}
use Rattle.provenance.specs.Sensitivity.{CostChange}
use Rattle.columns.specs.Columns.{Columns, own_at}
use Rattle.settle.specs.Settling.{answers_of, entries_of}
use Rattle.settle.specs.Demands.{Demand2}
use Rattle.settle.proofs.Demands.{entries_mean}
use Rattle.reprice.specs.Demand3.{labels_of, state_in, Pair, Rise}
use Rattle.provenance.specs.BestFirst.{labels}
use Rattle.reprice.specs.Revision.{Revised}
use Rattle.reprice.proofs.Demand3.{demand_3}
use Rattle.reprice.proofs.Revision.{cost_revision}
use Rattle.bill.specs.Billing.{bill_of}
use Rattle.bill.specs.Rises.{count_in, Demand3Billed, RevisionBilled}

made_of : (l : Label) → label_state l ≡ state.Made → Made l
made_of l p = record { deep = ((made_state l.weight.0 l.depth).0 p).0 }

-- the chosen make-up that demand 2 gives is listed by the bill
module _ (m : Measure) (c : Columns) (v : ℕ) (g : Demand2 m c (entries_of m c) v) (k : Made (labels (entries_of m c).labels v)) where
  billed : listing (g.chosen k).tree ≡ bill_of c (answers_of m c) v
  unfolding bill_of entries_of
  billed =
      let t = g.chosen k in
      follows_bill (labels_of m c) t.tree t.follows (labels_of m c v).depth (omega (arith, (g.supports k).deep))

pub demand_3_billed : (m : Measure) (c c' : Columns) (e d : ℕ) → Pair c c' e d → Demand3Billed m c c' e d
unfolding entries_of
demand_3_billed m c c' e d p = record { carries = (demand_3 m c c' e d p).carries; rises = rise }
  where
    rise : (v : ℕ) → state_in m c v ≡ state.Made → state_in m c' v ≡ state.Made → Rise m d (labels_of m c v).weight.0 (labels_of m c' v).weight.0 (count_in m c e v) (count_in m c' e v)
    rise v s s' =
        let D = demand_3 m c c' e d p in
        let k = made_of (labels_of m c v) s in
        let k' = made_of (labels_of m c' v) s' in
        let t = (D.means v).chosen k in
        let t' = (D.means' v).chosen k' in
        let w = (labels_of m c v).weight.0 in
        let w' = (labels_of m c' v).weight.0 in
        subst (λ (x : ℕ). Rise m d w w' x (count_in m c' e v)) (ap (count e) (billed m c v (D.means v) k))
        (subst (λ (x : ℕ). Rise m d w w' (count e (listing t.tree)) x) (ap (count e) (billed m c' v (D.means' v) k'))
        (D.rises v s s' t.tree t.follows t'.tree t'.follows))

pub cost_revision_billed : (c c' : Columns) → Revised c c' → RevisionBilled c c'
unfolding entries_of
cost_revision_billed c c' r = record { changes = change }
  where
    change : (v : ℕ) → state_in Cost c v ≡ state.Made → state_in Cost c' v ≡ state.Made →
        let bill = bill_of c (answers_of Cost c) v in
        let bill' = bill_of c' (answers_of Cost c') v in
        CostChange (own_at c) (own_at c') (length c.heads) (labels_of Cost c v).weight.0 (labels_of Cost c' v).weight.0 bill bill'
    change v s s' =
        let g = entries_mean Cost c r.accepted v in
        let g' = entries_mean Cost c' r.accepted' v in
        let k = made_of (labels_of Cost c v) s in
        let k' = made_of (labels_of Cost c' v) s' in
        let t = g.chosen k in
        let t' = g'.chosen k' in
        let n = length c.heads in
        let w = (labels_of Cost c v).weight.0 in
        let w' = (labels_of Cost c' v).weight.0 in
        subst (λ (x : List ℕ). CostChange (own_at c) (own_at c') n w w' x (bill_of c' (answers_of Cost c') v)) (billed Cost c v g k)
        (subst (λ (x : List ℕ). CostChange (own_at c) (own_at c') n w w' (listing t.tree) x) (billed Cost c' v g' k')
        ((cost_revision c c' r).changes v s s' t.tree t.follows t'.tree t'.follows))
