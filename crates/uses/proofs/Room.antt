-- An accepted table can be indexed, and has no more uses than listed vertices: spans do not overlap. A hyperedge more adds as many uses as it lists vertices. Assumes nothing.
use mathlib.Core.Path.{◌≡◌, refl, ◌∙◌, ap, subst₂}
use mathlib.Core.Bool.{true}
use mathlib.Core.List.{List, [], ◌∷◌}
use mathlib.Core.Logic.{⊎_elim}
use Prim.Native.Nat.{ℕ, zero, suc, ◌+◌, ◌*◌, ◌-◌, ◌≤◌, min}
use native.Mathlib.Numerals.{add-one}
use native.Mathlib.Omega.{arith}
use lib.ListN.{length, drop, length-take}
use borrow.Author.Tests.{eq-eqb, ne_eqb}
use Rattle.weights.specs.Lists.{member}
use Rattle.weights.proofs.Lists.{true-or-false}
use Rattle.weights.specs.Choice.{pick}
use Rattle.columns.specs.Columns.{Columns, offset_at, length_at, tail_at}
use Rattle.columns.specs.Acceptance.{all_below, edge_at, edges_acceptance, acceptance}
use Rattle.columns.proofs.Accepted.{below_at, below_all, both_accepted, edge_accepted, table_accepted}
use Rattle.uses.specs.Uses.{uses_below, use_list, pairs_in}
use Rattle.uses.proofs.Laws.{Indexed}
use Rattle.uses.specs.Indexable.{Readable, Measurable, Indexable}
use Rattle.uses.proofs.Pairs.{same_or_not}
use Rattle.uses.proofs.Lists.{uses_same, more_length, offset_next}
use Rattle.std.specs.Prelude.{Ok}

-- how many of the vertices below n are in a list
unfoldable pub hits : ℕ → List ℕ → ℕ
hits zero vs = 0
hits (suc n) vs = hits n vs + pick (member n vs) 1 0

pub hits_none : (n : ℕ) → hits n [] ≡ 0
unfolding hits member
hits_none zero = refl
hits_none (suc n) = let h = hits_none n in omega arith

-- one more listed vertex is one more at most
hits_more : (n w : ℕ) (vs : List ℕ) → hits n (w ∷ vs) ≤ min 1 (n - w) + hits n vs
unfolding hits member
hits_more zero w vs = omega arith
hits_more (suc n) w vs =
    let h = hits_more n w vs in
    ⊎_elim
    (λ e. rw (eq-eqb n w e) (omega arith))
    (λ d. rw (ne_eqb n w d) (omega arith))
    (same_or_not n w)

hits_few : (n : ℕ) (vs : List ℕ) → hits n vs ≤ length vs
hits_few n [] = omega (arith, hits_none n)
hits_few n (w ∷ vs) = omega (arith, hits_few n vs, hits_more n w vs)

-- one hyperedge more adds what it hits
count_more : (tail : ℕ → List ℕ) (v k : ℕ) → length (uses_below tail v (suc k)) ≡ length (uses_below tail v k) + pick (member v (tail k)) 1 0
count_more tail v k = ⊎_elim (λ p. rw p (more_length tail v k p)) (λ p. rw p (ap length (uses_same tail v k p) ∙ omega arith)) (true-or-false (member v (tail k)))

pub list_more : (tail : ℕ → List ℕ) (m n : ℕ) → length (use_list tail (suc m) n) ≡ length (use_list tail m n) + hits n (tail m)
unfolding use_list hits
list_more tail m zero = refl
list_more tail m (suc n) = omega (arith, offset_next tail m n, offset_next tail (suc m) n, list_more tail m n, count_more tail n m)

list_none : (tail : ℕ → List ℕ) (n : ℕ) → length (use_list tail 0 n) ≡ 0
unfolding use_list uses_below
list_none tail zero = refl
list_none tail (suc n) = offset_next tail 0 n ∙ (let h = list_none tail n in omega arith)

-- the uses of the hyperedges so far are no more than the places up to the end of the last span
list_spans : (c : Columns) (n left e end : ℕ) → edges_acceptance c left e end ≡ Ok tt → length (use_list (tail_at c) e n) ≤ end
    → end ≤ length c.tails → length (use_list (tail_at c) (e + left) n) ≤ length c.tails
unfolding edges_acceptance
list_spans c n zero e end p h l = let q : e + 0 ≡ e = omega arith in rw q (omega arith)
list_spans c n (suc left) e end p h l =
    let t = both_accepted (edge_at c e end) (edges_acceptance c left (e + 1) (offset_at c e + length_at c e)) p in
    let g = edge_accepted _ _ _ _ _ _ _ _ _ t.0 in
    let s = length-take (length_at c e) (drop (offset_at c e) c.tails) in
    let z : length (use_list (tail_at c) (e + 1) n) ≡ length (use_list (tail_at c) e n) + hits n (tail_at c e) = ap (λ (k : ℕ). length (use_list (tail_at c) k n)) (add-one e) ∙ list_more (tail_at c) e n in
    let q : e + suc left ≡ (e + 1) + left = omega arith in
    rw q (list_spans c n left (e + 1) (offset_at c e + length_at c e) t.1 (omega (arith, hits_few n (tail_at c e), g.from)) g.within)

pub list_fits : (c : Columns) (n : ℕ) → acceptance c ≡ Ok tt → length (use_list (tail_at c) (length c.heads) n) ≤ length c.tails
list_fits c n p =
    let q : 0 + length c.heads ≡ length c.heads = omega arith in
    rw q at
    (list_spans c n (length c.heads) 0 0 (table_accepted c p).rest (omega (arith, list_none (tail_at c) n)) (omega arith))

-- a column of two places for each of n
pub pairs_in_lem : (xs : List ℕ) (n : ℕ) → length xs ≡ 2 * n → pairs_in xs ≡ n
pairs_in_lem xs n e = omega arith

-- the index may have pairs for more vertices than the table has
module _ (c : Columns) (p : acceptance c ≡ Ok tt) (index : List ℕ) (n : ℕ) (two : length index ≡ 2 * n) (enough : c.vertices ≤ n) where
  spans_in : pairs_in c.spans ≡ length c.heads
  spans_in = pairs_in_lem c.spans (length c.heads) (table_accepted c p).spans

  wider : (vs : List ℕ) → all_below c.vertices vs ≡ true → all_below n vs ≡ true
  wider vs b = below_all n vs (λ k h. omega (arith, below_at c.vertices vs b k h))

  table_readable : Readable (pairs_in index) c.spans c.tails
  table_readable =
      let z = table_accepted c p in
      let s = spans_in in
      let v = pairs_in_lem index n two in
      record {
        even = omega (arith, z.spans);
        each = λ e h. let g = (z.each e (omega arith)).1 in record { within = g.within; listed = rw v (wider (tail_at c e) g.listed) };
      }

  -- what measuring and indexing ask, of an accepted table
  pub table_measurable : Measurable c.spans c.tails index
  table_measurable =
      let s = spans_in in
      let v = pairs_in_lem index n two in
      let t = (table_accepted c p).tails in
      record { readable = table_readable; even = omega arith; fits = rw (s, v) (omega (arith, list_fits c n p)) }

  pub table_indexable : (list : List ℕ) → length (use_list (tail_at c) (length c.heads) n) ≤ length list → Indexable c.spans c.tails index list
  table_indexable list room =
      let s = spans_in in
      let v = pairs_in_lem index n two in
      record { readable = table_readable; even = omega arith; room = rw (s, v) room }

  -- and what it leaves, in the table's own numbers
  pub table_indexed : {total : ℕ} {ix list old : List ℕ} → Indexed (tail_at c) (pairs_in c.spans) (pairs_in index) old total ix list → Indexed (tail_at c) (length c.heads) n old total ix list
  table_indexed {total} {ix} {list} {old} x = subst₂ (λ (m n : ℕ). Indexed (tail_at c) m n old total ix list) spans_in (pairs_in_lem index n two) x
