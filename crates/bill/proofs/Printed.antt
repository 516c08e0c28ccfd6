-- The laws by which `bill` goes: a part that is accepted has a grounded bill, which the walks read from three columns; and what the call leaves. Assumes nothing.
use Rattle.std.specs.Prelude.{Some, None, Ok, Err}
use mathlib.Core.Path.{◌≡◌, refl, ap, fun_ext}
use mathlib.Core.Bool.{true}
use mathlib.Core.List.{List, ◌∷◌}
use Prim.Native.Nat.{ℕ, zero, suc, ◌+◌, ◌≤◌, ◌<◌}
use native.Mathlib.Omega.{arith}
use lib.ListN.{length, get_or}
use borrow.Author.Tests.{ltb-true, le-leb, lt-leb}
use Rattle.weights.specs.declared.Measure.{Measure}
use Rattle.weights.specs.declared.Label.{Label}
use Rattle.weights.proofs.Choice.{both_true}
use Rattle.weights.specs.Measures.{algebra}
use Rattle.refusal.specs.declared.Refusal.{Refusal}
use Rattle.refusal.specs.declared.Refusal.TheVariants.{BillRoom}
use Rattle.provenance.specs.Labelling.{Made, AllMade, greatest_depth, deepest_in, Fixpoint}
use Rattle.columns.specs.Filled.{filled}
use Rattle.columns.specs.Columns.{Entries, Columns, own_at, tail_at}
use Rattle.provenance.specs.BestFirst.{labels}
use Rattle.provenance.specs.Support.{bills, bill}
use Rattle.tables.specs.Table.{hypergraph}
use Rattle.columns.specs.Acceptance.{most_vertices, all_below}
use Rattle.columns.proofs.Accepted.{AcceptedColumns, table_accepted}
use Rattle.bill.specs.Walk.{vertex_bill, Each, Grounded, VertexFits, WrittenFrom, spend}
use Rattle.bill.specs.Billing.{bill_of, part_acceptance, bill_acceptance, printed, billed}
use Rattle.bill.proofs.Bills.{AcceptedPart, part_accepted}
use Rattle.bill.proofs.Walks.{is_spent, is_left}

module _ (c : Columns) (a : Entries) where
  -- the walks read the bill from the lists and the chosen lines alone
  read_bill : (depth v : ℕ) → bill (hypergraph c) (labels a.labels) depth v ≡ vertex_bill c.spans c.tails a.labels.edges depth v
  unfolding bill
  read_bill zero v = refl
  read_bill (suc depth) v = ap (λ (f : ℕ → List ℕ). get_or a.labels.edges v 0 ∷ bills f (tail_at c (get_or a.labels.edges v 0))) (fun_ext (read_bill depth))

  lines_are : (v : ℕ) → bill_of c a.labels v ≡ vertex_bill c.spans c.tails a.labels.edges (labels a.labels v).depth v
  unfolding bill_of
  lines_are v = read_bill (labels a.labels v).depth v

-- at a fixpoint of an accepted table every made part is grounded
module _ (m : Measure) (c : Columns) (a : Entries) (l : AcceptedColumns c a) (fix : Fixpoint (algebra m) (hypergraph c) (own_at c) (labels a.labels)) where
  all_grounded : {k : ℕ} → ((v : ℕ) → v < c.vertices → Made (labels a.labels v) → (labels a.labels v).depth ≤ k → Grounded c.spans c.tails a.labels.edges k v) → {vs : List ℕ}
      → AllMade (labels a.labels) vs → all_below c.vertices vs ≡ true → deepest_in (labels a.labels) vs ≤ k → Each (Grounded c.spans c.tails a.labels.edges k) vs
  unfolding Each all_below greatest_depth
  all_grounded f AllMade.none b h = tt
  all_grounded f (AllMade.more {v = v} {vs = vs} x xs) b h =
      let t = both_true b in
      (f v (ltb-true _ _ t.0) x (omega arith), all_grounded f xs t.1 (omega arith))

  grounded_within : (k v : ℕ) → v < c.vertices → Made (labels a.labels v) → (labels a.labels v).depth ≤ k → Grounded c.spans c.tails a.labels.edges k v
  unfolding Grounded
  grounded_within zero v b x h = absurd (omega (arith, x.deep))
  grounded_within (suc k) v b x h =
      let g = fix.chosen v x in
      let t = table_accepted c l.table in
      let e = (t.each (get_or a.labels.edges v 0) g.ready.stands.numbered).1 in
      let d : (labels a.labels v).depth ≡ deepest_in (labels a.labels) (tail_at c (get_or a.labels.edges v 0)) + 1 = ap (λ (x : Label). x.depth) g.given in (
        omega (arith, l.sized.labels.edges),
        record { span = omega (arith, t.spans, g.ready.stands.numbered); short = e.short; within = e.within },
        all_grounded (grounded_within k) g.ready.tails e.listed (omega arith),
      )

-- printing what the walks read
module _ (spans tails edges : List ℕ) (depth v : ℕ) (room : List ℕ) where
  abbrev lines : List ℕ
  lines = vertex_bill spans tails edges depth v

  -- the budget was spent: nothing is written
  pub print_short : spend (length room) (length lines) ≡ None → record { result = Err BillRoom; left = room } ≡ printed lines room
  print_short q = rw (lt-leb (length lines) (length room) (is_spent (length room) (length lines) q))

  module _ {rest : ℕ} (q : spend (length room) (length lines) ≡ Some rest) where
    pub print_fits : Grounded spans tails edges depth v → VertexFits spans tails edges depth v room
    print_fits g = record { grounded = g; fits = (is_left (length room) (length lines) q).0 }

    pub print_written : {to : ℕ} {left : List ℕ} → WrittenFrom 0 lines room to left → record { result = Ok to; left = left } ≡ printed lines room
    unfolding filled
    print_written {to} {left} w =
        let e : to ≡ length lines = omega (arith, w.reaches) in
        rw (le-leb (length lines) (length room) (is_left (length room) (length lines) q).0, e, w.content)

module _ (m : Measure) (c : Columns) (a : Entries) (v : ℕ) where
  pub bill_refused : (room : List ℕ) {r : Refusal} → part_acceptance m c a v ≡ Err r → record { result = Err r; left = room } ≡ billed m c a v room
  unfolding billed bill_acceptance
  bill_refused room p = rw p

  module _ (p : part_acceptance m c a v ≡ Ok tt) where
    accepted : AcceptedPart m c a v
    accepted = part_accepted m c a v p

    pub bill_placed : v < length a.labels.depths
    bill_placed = omega (arith, accepted.vertex, accepted.columns.sized.labels.depths)

    pub bill_grounded : Grounded c.spans c.tails a.labels.edges (labels a.labels v).depth v
    bill_grounded = grounded_within m c a accepted.columns accepted.fixed (labels a.labels v).depth v accepted.vertex accepted.made (omega arith)

    pub bill_few : length a.labels.edges ≤ most_vertices
    bill_few = omega (arith, accepted.columns.sized.labels.edges, (table_accepted c accepted.columns.table).few)

    pub vertex-printed : (room : List ℕ) → printed (vertex_bill c.spans c.tails a.labels.edges (labels a.labels v).depth v) room ≡ billed m c a v room
    unfolding billed bill_acceptance
    vertex-printed room = rw (p, lines_are c a v)
