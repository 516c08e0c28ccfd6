-- The bill of a part that has a make-up, asked for with the answers of a right table; and what one line raised by d changes in it. Assumes nothing.
use mathlib.Core.Path.{subst, ◌≡◌}
use mathlib.Core.List.{List}
use Prim.Native.Nat.{ℕ, ◌<◌, ◌*◌}
use native.Mathlib.Omega.{arith}
use lib.IntN.{pos}
use lib.ListN.{length}
use Rattle.weights.specs.declared.Measure.{Measure}
use Rattle.weights.specs.declared.Measure.TheVariants.{Cost}
use Rattle.weights.specs.declared.State.TheVariants as state
use Rattle.weights.proofs.Laws.{lawful}
use Rattle.weights.proofs.States.{made_state}
use Rattle.columns.specs.Columns.{Entries, Columns, own_at}
use Rattle.columns.specs.Acceptance.{acceptance}
use Rattle.columns.specs.Right.{RightLent}
use Rattle.columns.proofs.Accepted.{both_accepted}
use Rattle.provenance.specs.Hypergraph.{Derivation, node, listing}
use Rattle.provenance.specs.Labelling.{Made}
use Rattle.provenance.specs.Counting.{count, bill_change}
use Rattle.provenance.proofs.Support.{follows_bill, chosen, supports}
use Rattle.provenance.specs.BestFirst.{labels}
use Rattle.tables.specs.Table.{hypergraph}
use Rattle.settle.specs.Settling.{answers_of}
use Rattle.settle.specs.Defined.{AllMean}
use Rattle.settle.proofs.Demands.{answers_fixpoint}
use Rattle.reprice.specs.Demand3.{labels_of, state_in, Pair}
use Rattle.reprice.proofs.Revision.{one_line}
use Rattle.bill.specs.Billing.{bill_of, part_acceptance, bill_acceptance}
use Rattle.bill.specs.Bills.{IsBill}
use Rattle.bill.specs.Rises.{count_in}
use Rattle.bill.proofs.Asked.{bill_exactly}
use Rattle.bill.proofs.Bills.{part_accepted, is_bill}
use Rattle.std.specs.Prelude.{Ok}

-- what has a make-up is a part
pub derived : {c : Columns} {a : Entries} → RightLent c a → {v : ℕ} → Derivation (hypergraph c) v → v < c.vertices
derived {c} l (node e s h ds) = subst (λ (x : ℕ). x < c.vertices) h (l.table.each e s.numbered).head

pub right_bill : (m : Measure) (c : Columns) (a : Entries) (v : ℕ) → RightLent c a → v < c.vertices → AllMean m c a → Derivation (hypergraph c) v
    → IsBill m c (labels a.labels) v (bill_of c a.labels v)
unfolding bill_acceptance
right_bill m c a v l h all d =
    let n = length (bill_of c a.labels v) in
    let p = (bill_exactly m c a v n).1 (record { lent = l; part = h; answers = all; made = d; room = omega arith }) in
    is_bill (part_accepted m c a v (both_accepted (part_acceptance m c a v) _ p).0)

-- a make-up that the bill lists
billed_tree : (c : Columns) → acceptance c ≡ Ok tt → (v : ℕ) → state_in Cost c v ≡ state.Made → (t : Derivation (hypergraph c) v) × (listing t ≡ bill_of c (answers_of Cost c) v)
unfolding bill_of
billed_tree c p v s =
    let fix = answers_fixpoint Cost c p in
    let k : Made (labels_of Cost c v) = record { deep = ((made_state (labels_of Cost c v).weight.0 (labels_of Cost c v).depth).0 s).0 } in
    let t = chosen (lawful Cost) fix v k in
    (t.tree, follows_bill (labels_of Cost c) t.tree t.follows (labels_of Cost c v).depth (omega (arith, (supports (lawful Cost) fix t.tree t.follows).deep)))

-- the changes of a pair's bills are d for each time that they have the line
pub raised_bills : (c c' : Columns) (e d : ℕ) → Pair c c' e d → (v : ℕ) → state_in Cost c v ≡ state.Made → state_in Cost c' v ≡ state.Made
    → (bill_change (own_at c) (own_at c') (length c.heads) (bill_of c (answers_of Cost c) v) ≡ pos (d * count_in Cost c e v))
    × (bill_change (own_at c) (own_at c') (length c.heads) (bill_of c' (answers_of Cost c') v) ≡ pos (d * count_in Cost c' e v))
raised_bills c c' e d p v s s' =
    let t = billed_tree c p.accepted v s in
    let t' = billed_tree c' p.accepted' v s' in
    let o = one_line c c' e d p v t.0 t'.0 in (
      subst (λ (es : List ℕ). bill_change (own_at c) (own_at c') (length c.heads) es ≡ pos (d * count e es)) t.1 o.0,
      subst (λ (es : List ℕ). bill_change (own_at c) (own_at c') (length c.heads) es ≡ pos (d * count e es)) t'.1 o.1,
    )
