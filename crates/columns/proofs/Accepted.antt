-- What holds of an accepted table: its lengths and limits, of each line its head, own figure, span and listed parts. Assumes nothing.
use mathlib.Core.Path.{◌≡◌, refl, sym, ◌∙◌, subst}
use mathlib.Core.List.{List, [], ◌∷◌}
use mathlib.Core.Bool.{Bool, true, false}
use mathlib.Core.Logic.{⊎_elim}
use Prim.Native.Nat.{ℕ, zero, suc, ◌+◌, ◌*◌, ◌≤◌, ◌<◌}
use native.Mathlib.Nat.{eq-or-lt_of_le}
use native.Mathlib.Omega.{arith}
use lib.ListN.{length, get_or, drop, length-take, length-drop}
use lib.Seq.{get_or-take, get_or-drop}
use lib.Dec.{ltb}
use borrow.Author.Tests.{ltb-true, leb-true, eqb-true, lt-ltb, le-leb, eq-eqb}
use Rattle.weights.specs.declared.Hyperedge.{Hyperedge}
use Rattle.weights.specs.Figures.{greatest, struck_mark}
use Rattle.weights.proofs.Choice.{both_true}
use Rattle.refusal.specs.declared.Refusal.{Refusal}
use Rattle.columns.specs.Columns.{Answers, Sized, Entries, SizedEntries, Columns, head_at, own_at, strike_at, offset_at, length_at, part}
use Rattle.columns.specs.Acceptance.{most_vertices, most_edges, most_listed, longest_tail, test, and_then, all_below, edge_acceptance, edge_at, edges_acceptance, acceptance, lent_acceptance}
use Rattle.refusal.specs.Answers.{Acceptance}
use Rattle.std.specs.Prelude.{Ok, Err}

pub refused : {r : Refusal} → ◌≡◌ {A = Acceptance} (Err r) (Ok tt) → ⊥
refused e = let z : ◌≡◌ {A = ℕ} 0 1 = cc in omega arith

pub test_passed : (b : Bool) (r : Refusal) (a : Acceptance) → test b r a ≡ Ok tt → (b ≡ true) × (a ≡ Ok tt)
test_passed true r a e = (refl, e)
test_passed false r a e = absurd (refused e)

pub both_accepted : (a b : Acceptance) → and_then a b ≡ Ok tt → (a ≡ Ok tt) × (b ≡ Ok tt)
both_accepted (Ok _) b e = (refl, e)
both_accepted (Err r) b e = absurd (refused e)

pub below_at : (n : ℕ) (vs : List ℕ) → all_below n vs ≡ true → (k : ℕ) → k < length vs → get_or vs k 0 < n
unfolding all_below
below_at n [] e k h = absurd (omega arith)
below_at n (v ∷ vs) e zero h = ltb-true _ _ (both_true {a = ltb v n} {b = all_below n vs} e).0
below_at n (v ∷ vs) e (suc k) h = below_at n vs (both_true {a = ltb v n} {b = all_below n vs} e).1 k (omega arith)

pub below_all : (n : ℕ) (vs : List ℕ) → ((k : ℕ) → k < length vs → get_or vs k 0 < n) → all_below n vs ≡ true
unfolding all_below
below_all n [] f = refl
below_all n (v ∷ vs) f = rw (lt-ltb _ _ (f 0 (omega arith)), below_all n vs (λ k h. f (suc k) (omega arith)))

-- place k of a part of a column, and the part's length
pub part_at : (offset size : ℕ) (xs : List ℕ) (k : ℕ) → k < size → get_or (part offset size xs) k 0 ≡ get_or xs (offset + k) 0
part_at offset size xs k h = get_or-take size (drop offset xs) k 0 h ∙ get_or-drop offset xs k 0

pub part_length : (offset size : ℕ) (xs : List ℕ) → offset + size ≤ length xs → length (part offset size xs) ≡ size
part_length offset size xs h = omega (arith, length-take size (drop offset xs), length-drop offset xs)

-- what is below n throughout is so in a part
pub part_below : (n offset size : ℕ) (xs : List ℕ) → offset + size ≤ length xs → all_below n xs ≡ true → all_below n (part offset size xs) ≡ true
part_below n offset size xs h p =
    below_all n (part offset size xs) (λ k i.
    let l : k < size = omega (arith, part_length offset size xs h) in
    subst (λ (x : ℕ). x < n) (sym (part_at offset size xs k l)) (below_at n xs p (offset + k) (omega arith)))

-- a line that is accepted
pub record AcceptedEdge (n h o m offset size end : ℕ) (tails : List ℕ) : Type 0 where
  pub head : h < n
  pub own : o ≤ greatest
  pub mark : m ≤ struck_mark
  pub from : end ≤ offset
  pub short : size ≤ longest_tail
  pub within : offset + size ≤ length tails
  pub listed : all_below n (part offset size tails) ≡ true

pub edge_accepted : (n : ℕ) (e : Hyperedge) (h o m offset size end : ℕ) (tails : List ℕ) → edge_acceptance n e h o m offset size end tails ≡ Ok tt
    → AcceptedEdge n h o m offset size end tails
unfolding edge_acceptance
edge_accepted n e h o m offset size end tails p =
    let t1 = test_passed _ _ _ p in
    let t2 = test_passed _ _ _ t1.1 in
    let t3 = test_passed _ _ _ t2.1 in
    let t4 = test_passed _ _ _ t3.1 in
    let t5 = test_passed _ _ _ t4.1 in
    let t6 = test_passed _ _ _ t5.1 in
    let t7 = test_passed _ _ _ t6.1 in
    record {
      head = ltb-true _ _ t1.0;
      own = leb-true _ _ t2.0;
      mark = leb-true _ _ t3.0;
      from = leb-true _ _ t4.0;
      short = leb-true _ _ t5.0;
      within = leb-true _ _ t6.0;
      listed = t7.0;
    }

pub edge_accepts : {n h o m offset size end : ℕ} {tails : List ℕ} (e : Hyperedge) → AcceptedEdge n h o m offset size end tails
    → edge_acceptance n e h o m offset size end tails ≡ Ok tt
unfolding edge_acceptance
edge_accepts e g =
    rw (lt-ltb _ _ g.head, le-leb _ _ g.own, le-leb _ _ g.mark, le-leb _ _ g.from, le-leb _ _ g.short, le-leb _ _ g.within, g.listed)

-- line e of the columns is accepted, where the span before it ends somewhere
abbrev pub AcceptedAt : Columns → ℕ → Type 0
AcceptedAt c e = (end : ℕ) × AcceptedEdge c.vertices (head_at c e) (own_at c e) (strike_at c e) (offset_at c e) (length_at c e) end c.tails

edges_accepted : (c : Columns) (left e end : ℕ) → edges_acceptance c left e end ≡ Ok tt → (x : ℕ) → e ≤ x → x < e + left → AcceptedAt c x
unfolding edges_acceptance
edges_accepted c zero e end p x h l = absurd (omega arith)
edges_accepted c (suc left) e end p x h l =
    let t = both_accepted (edge_at c e end) (edges_acceptance c left (e + 1) (offset_at c e + length_at c e)) p in
    ⊎_elim
    (λ q. subst (AcceptedAt c) q (end, edge_accepted _ _ _ _ _ _ _ _ _ t.0))
    (λ q. edges_accepted c left (e + 1) (offset_at c e + length_at c e) t.1 x (omega arith) (omega arith))
    (eq-or-lt_of_le h)

-- an accepted table
pub record AcceptedTable (c : Columns) : Type 0 where
  pub few : c.vertices ≤ most_vertices
  pub own : length c.own ≡ length c.heads
  pub strikes : length c.strikes ≡ length c.heads
  pub edges : length c.heads ≤ most_edges
  pub spans : length c.spans ≡ 2 * length c.heads
  pub tails : length c.tails ≤ most_listed
  pub rest : edges_acceptance c (length c.heads) 0 0 ≡ Ok tt
  pub each : (e : ℕ) → e < length c.heads → AcceptedAt c e

pub table_accepted : (c : Columns) → acceptance c ≡ Ok tt → AcceptedTable c
unfolding acceptance
table_accepted c p =
    let t1 = test_passed _ _ _ p in
    let t2 = test_passed _ _ _ t1.1 in
    let t3 = test_passed _ _ _ t2.1 in
    let t4 = test_passed _ _ _ t3.1 in
    let t5 = test_passed _ _ _ t4.1 in
    let t6 = test_passed _ _ _ t5.1 in
    record {
      few = leb-true _ _ t1.0;
      own = eqb-true _ _ t2.0;
      strikes = eqb-true _ _ t3.0;
      edges = leb-true _ _ t4.0;
      spans = eqb-true _ _ t5.0;
      tails = leb-true _ _ t6.0;
      rest = t6.1;
      each = λ e h. edges_accepted c (length c.heads) 0 0 t6.1 e (omega arith) (omega arith);
    }

-- an accepted table with three columns of its length, and with all four answer columns
pub record AcceptedLabels (c : Columns) (a : Answers) : Type 0 where
  pub table : acceptance c ≡ Ok tt
  pub sized : Sized c.vertices a

pub record AcceptedColumns (c : Columns) (a : Entries) : Type 0 where
  pub table : acceptance c ≡ Ok tt
  pub sized : SizedEntries c.vertices a

pub labels_accepted : {c : Columns} {a : Entries} → AcceptedColumns c a → AcceptedLabels c a.labels
labels_accepted h = record { table = h.table; sized = h.sized.labels }

pub columns_accepted : (c : Columns) (a : Entries) → lent_acceptance c a ≡ Ok tt → AcceptedColumns c a
unfolding lent_acceptance
columns_accepted c a p =
    let t = both_accepted (acceptance c) _ p in
    let t1 = test_passed _ _ _ t.1 in
    let t2 = test_passed _ _ _ t1.1 in
    let t3 = test_passed _ _ _ t2.1 in
    let t4 = test_passed _ _ _ t3.1 in
    let labels : Sized c.vertices a.labels = record { weights = eqb-true _ _ t1.0; depths = eqb-true _ _ t2.0; edges = eqb-true _ _ t3.0 } in
    record { table = t.0; sized = record { labels = labels; pieces = eqb-true _ _ t4.0 } }

pub columns_accept : (c : Columns) (a : Entries) → acceptance c ≡ Ok tt → SizedEntries c.vertices a → lent_acceptance c a ≡ Ok tt
unfolding lent_acceptance
columns_accept c a p s = rw (p, eq-eqb _ _ s.labels.weights, eq-eqb _ _ s.labels.depths, eq-eqb _ _ s.labels.edges, eq-eqb _ _ s.pieces)
