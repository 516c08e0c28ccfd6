-- Refusals 1 and 2 come before those of the lines, and of a line 3, 4, 21 and 5 before 6; and what holds where they do not apply. Assumes nothing.
use mathlib.Core.Path.{◌≡◌, refl, sym, ◌∙◌, ap}
use mathlib.Core.Bool.{Bool, true, false}
use mathlib.Core.List.{List}
use Prim.Native.Nat.{ℕ, ◌+◌, ◌*◌, ◌≤◌, ◌<◌}
use lib.ListN.{length}
use lib.Dec.{ltb, leb, eqb}
use borrow.Author.Tests.{ltb-true, leb-true, eqb-true}
use Rattle.weights.specs.declared.Hyperedge.{Hyperedge}
use Rattle.weights.specs.Figures.{greatest, struck_mark}
use Rattle.refusal.specs.declared.Refusal.{Refusal}
use Rattle.refusal.specs.declared.Refusal.TheVariants.{Tail}
use Rattle.columns.specs.Columns.{Columns, part}
use Rattle.columns.specs.Acceptance.{most_vertices, most_edges, most_listed, longest_tail, test, and_then, all_below}
use Rattle.columns.specs.Acceptance.{fields_acceptance, edge_acceptance, edges_acceptance, sizes_acceptance, acceptance}
use Rattle.columns.specs.Right.{Few, Level}
use Rattle.columns.proofs.Accepted.{test_passed}
use Rattle.refusal.specs.Answers.{Acceptance}
use Rattle.std.specs.Prelude.{Ok, Err}

test_then : (b : Bool) (r : Refusal) (a y x : Acceptance) → y ≡ and_then a x → test b r y ≡ and_then (test b r a) x
test_then true r a y x p = p
test_then false r a y x p = refl

module _ (c : Columns) where
  pub sizes_first : acceptance c ≡ and_then (sizes_acceptance c) (edges_acceptance c (length c.heads) 0 0)
  unfolding acceptance sizes_acceptance
  sizes_first =
      test_then (leb c.vertices most_vertices) _ _ _ _
      (test_then (eqb (length c.own) (length c.heads)) _ _ _ _
      (test_then (eqb (length c.strikes) (length c.heads)) _ _ _ _
      (test_then (leb (length c.heads) most_edges) _ _ _ _
      (test_then (eqb (length c.spans) (2 * length c.heads)) _ _ _ _
      (test_then (leb (length c.tails) most_listed) _ _ _ _ refl)))))

  pub sizes_refused : (r : Refusal) → sizes_acceptance c ≡ Err r → Err r ≡ acceptance c
  sizes_refused r p = sym (sizes_first ∙ ap (λ (a : Acceptance). and_then a (edges_acceptance c (length c.heads) 0 0)) p)

  pub sizes_passed : sizes_acceptance c ≡ Ok tt → edges_acceptance c (length c.heads) 0 0 ≡ acceptance c
  sizes_passed p = sym (sizes_first ∙ ap (λ (a : Acceptance). and_then a (edges_acceptance c (length c.heads) 0 0)) p)

  pub sizes_level : sizes_acceptance c ≡ Ok tt → Few c × Level c
  unfolding sizes_acceptance
  sizes_level p =
      let t1 = test_passed _ _ _ p in
      let t2 = test_passed _ _ _ t1.1 in
      let t3 = test_passed _ _ _ t2.1 in
      let t4 = test_passed _ _ _ t3.1 in
      let t5 = test_passed _ _ _ t4.1 in
      let t6 = test_passed _ _ _ t5.1 in
      (leb-true _ _ t1.0, record { own = eqb-true _ _ t2.0; strikes = eqb-true _ _ t3.0; edges = leb-true _ _ t4.0; spans = eqb-true _ _ t5.0; tails = leb-true _ _ t6.0 })

-- refusals 3, 4, 21 and 5 of a line come before 6
module _ (n : ℕ) (e : Hyperedge) (head own mark offset size end : ℕ) (tails : List ℕ) where
  abbrev fields : Acceptance
  fields = fields_acceptance n e head own mark offset size end (length tails)

  abbrev tail : Acceptance
  tail = test (all_below n (part offset size tails)) (Tail e) (Ok tt)

  pub fields_first : edge_acceptance n e head own mark offset size end tails ≡ and_then fields tail
  unfolding edge_acceptance fields_acceptance
  fields_first =
      test_then (ltb head n) _ _ _ _
      (test_then (leb own greatest) _ _ _ _
      (test_then (leb mark struck_mark) _ _ _ _
      (test_then (leb end offset) _ _ _ _
      (test_then (leb size longest_tail) _ _ _ _
      (test_then (leb (offset + size) (length tails)) _ _ _ _ refl)))))

  pub fields_refused : (r : Refusal) → fields ≡ Err r → Err r ≡ edge_acceptance n e head own mark offset size end tails
  fields_refused r p = sym (fields_first ∙ ap (λ (a : Acceptance). and_then a tail) p)

  pub fields_passed : fields ≡ Ok tt → tail ≡ edge_acceptance n e head own mark offset size end tails
  fields_passed p = sym (fields_first ∙ ap (λ (a : Acceptance). and_then a tail) p)

  pub fields_head : fields_acceptance n e head own mark offset size end (length tails) ≡ Ok tt → head < n
  unfolding fields_acceptance
  fields_head p = ltb-true _ _ (test_passed _ _ _ p).0

  pub fields_within : fields_acceptance n e head own mark offset size end (length tails) ≡ Ok tt → offset + size ≤ length tails
  unfolding fields_acceptance
  fields_within p =
      let t1 = test_passed (ltb head n) _ _ p in
      let t2 = test_passed (leb own greatest) _ _ t1.1 in
      let t3 = test_passed (leb mark struck_mark) _ _ t2.1 in
      let t4 = test_passed (leb end offset) _ _ t3.1 in
      let t5 = test_passed (leb size longest_tail) _ _ t4.1 in
      let t6 = test_passed (leb (offset + size) (length tails)) _ _ t5.1 in
      leb-true _ _ t6.0
