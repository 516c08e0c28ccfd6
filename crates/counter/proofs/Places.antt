-- The place of each refusal that the calls return fits the result in C: it is the number of a line, and a table has at most 4,096 lines, or 0. The paper's "What is turned
-- away". Assumes nothing.
use mathlib.Core.Path.{◌≡◌, subst}
use mathlib.Core.Bool.{Bool, true, false}
use Prim.Native.Nat.{ℕ, ◌≤◌}
use native.Mathlib.Omega.{arith}
use lib.Dec.{eqb}
use Rattle.weights.specs.declared.Measure.{Measure}
use Rattle.weights.specs.declared.Measure.TheVariants.{Cost, Days, Grade}
use Rattle.weights.specs.Choice.{pick}
use Rattle.refusal.specs.declared.Refusal.{Refusal}
use Rattle.refusal.specs.declared.Refusal.TheVariants.{MeasureNumber}
use Rattle.refusal.specs.Refusals.{place_of, last_place, measure_of}
use Rattle.columns.specs.Columns.{Entries, Columns}
use Rattle.columns.specs.Acceptance.{most_edges, lent_acceptance}
use Rattle.columns.specs.Right.{WrongEdge, WrongTable, WrongLent}
use Rattle.columns.proofs.Exactly.{lent_refused_exactly}
use Rattle.reprice.specs.Repricing.{reprice_acceptance}
use Rattle.reprice.specs.Changes.{WrongChange}
use Rattle.reprice.proofs.Changes.{reprice_refused_exactly}
use Rattle.bill.specs.Billing.{bill_acceptance}
use Rattle.bill.specs.Asked.{WrongBill}
use Rattle.bill.proofs.Asked.{bill_refused_exactly}
use Rattle.std.specs.Prelude.{Ok, Err}

-- a line is the place of its refusals
pub edge_place : {c : Columns} {e : ℕ} {r : Refusal} → WrongEdge c e r → e ≤ most_edges → place_of r ≤ last_place
edge_place (WrongEdge.head n) h = omega arith
edge_place (WrongEdge.own x n) h = omega arith
edge_place (WrongEdge.mark x y n) h = omega arith
edge_place (WrongEdge.span x y m n) h = omega arith
edge_place (WrongEdge.tail x y m z n) h = omega arith

pub table_place : {c : Columns} {r : Refusal} → WrongTable c r → place_of r ≤ last_place
table_place (WrongTable.many n) = omega arith
table_place (WrongTable.unlevel f n) = omega arith
table_place (WrongTable.edge f l e w) = edge_place w.wrong (omega (arith, w.numbered, l.edges))

pub wrong_place : {c : Columns} {a : Entries} {r : Refusal} → WrongLent c a r → place_of r ≤ last_place
wrong_place (WrongLent.table w) = table_place w
wrong_place (WrongLent.answers t n) = omega arith

pub lent_place : (c : Columns) (a : Entries) {s : Refusal} → lent_acceptance c a ≡ Err s → place_of s ≤ last_place
lent_place c a {s} p = wrong_place ((lent_refused_exactly c a s).0 p)

-- of a change, whose own refusal has a place that fits
pub change_place : {m : Measure} {c : Columns} {a : Entries} {Line Further : Type 0} {own r : Refusal} → place_of own ≤ last_place → WrongChange m c a Line Further own r → place_of r ≤ last_place
change_place h (WrongChange.lent x) = wrong_place x
change_place h (WrongChange.line l n) = omega arith
change_place h (WrongChange.further l n f) = h
change_place h (WrongChange.answers l n f w) = omega arith

pub reprice_place : (m : Measure) (c : Columns) (a : Entries) (e w : ℕ) {s : Refusal} → reprice_acceptance m c a e w ≡ Err s → place_of s ≤ last_place
reprice_place m c a e w {s} p = change_place (omega arith) ((reprice_refused_exactly m c a e w s).0 p)

pub bill_place : (m : Measure) (c : Columns) (a : Entries) (v places : ℕ) {s : Refusal} → bill_acceptance m c a v places ≡ Err s → place_of s ≤ last_place
bill_place m c a v places {s} p = go ((bill_refused_exactly m c a v places s).0 p)
  where
    go : {r : Refusal} → WrongBill m c a v places r → place_of r ≤ last_place
    go (WrongBill.lent x) = wrong_place x
    go (WrongBill.part l n) = omega arith
    go (WrongBill.answers l h n) = omega arith
    go (WrongBill.unmade l h f n) = omega arith
    go (WrongBill.room l h f d n) = omega arith

pub measure_place : (k : ℕ) {s : Refusal} → measure_of k ≡ Err s → place_of s ≤ last_place
measure_place k = go (eqb k 0) (eqb k 1) (eqb k 2)
  where
    go : (a b d : Bool) {s : Refusal}
        → pick a (Ok Cost) (pick b (Ok Days) (pick d (Ok Grade) (Err MeasureNumber))) ≡ Err s → place_of s ≤ last_place
    go true b d e = let z : ◌≡◌ {A = ℕ} 0 1 = cc in absurd (omega arith)
    go false true d e = let z : ◌≡◌ {A = ℕ} 0 1 = cc in absurd (omega arith)
    go false false true e = let z : ◌≡◌ {A = ℕ} 0 1 = cc in absurd (omega arith)
    go false false false {s} e = let q : MeasureNumber ≡ s = cc in subst (λ (u : Refusal). place_of u ≤ last_place) q (omega arith)
