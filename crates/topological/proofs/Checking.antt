-- The laws by which the check of a table in order goes: of one line, of the lines, and of the whole. Assumes nothing.
use mathlib.Core.Path.{◌≡◌, sym, ◌∙◌, ap}
use mathlib.Core.Bool.{Bool, true, false}
use mathlib.Core.List.{List}
use Prim.Native.Nat.{ℕ, suc, ◌+◌, ◌-◌, ◌≤◌, ◌<◌}
use native.Mathlib.Nat.{sub-eq-zero_of_le}
use native.Mathlib.Omega.{arith}
use lib.ListN.{length}
use Rattle.weights.specs.declared.Hyperedge.{Hyperedge}
use Rattle.refusal.specs.declared.Refusal.{Refusal}
use Rattle.refusal.specs.declared.Refusal.TheVariants.{Tail, Order}
use Rattle.columns.specs.Columns.{Columns, offset_at, length_at, part}
use Rattle.columns.specs.Acceptance.{test, and_then, all_below, fields_acceptance, edge_acceptance, sizes_acceptance}
use Rattle.columns.proofs.Accepted.{test_passed, both_accepted, below_at, below_all}
use Rattle.columns.proofs.Sizes.{fields_refused, fields_passed, fields_head}
use Rattle.topological.specs.Ordering.{ordered_edge, ordered_edge_at, ordered_edges_acceptance, ordered_acceptance}
use Rattle.refusal.specs.Answers.{Acceptance}
use Rattle.std.specs.Prelude.{Ok, Err}

-- what is below a is below b, if a is at most b
pub below_more : (a b : ℕ) (vs : List ℕ) → a ≤ b → all_below a vs ≡ true → all_below b vs ≡ true
below_more a b vs h p = below_all b vs (λ k i. omega (arith, below_at a vs p k i))

-- the part that is lent is the hyperedge's tail, so what is told of it is told of the tail
pub tail_told : (n offset size : ℕ) (tails : List ℕ) {r b : Bool} → r ≡ all_below n (part offset (offset + size - offset) tails) → r ≡ b
    → all_below n (part offset size tails) ≡ b
tail_told n offset size tails p q =
    let e : size ≡ offset + size - offset = omega arith in
    ap (λ (k : ℕ). all_below n (part offset k tails)) e ∙ sym p ∙ q

module _ (n : ℕ) (e : Hyperedge) (head own mark offset size end : ℕ) (tails : List ℕ) where
  abbrev rule : Acceptance
  rule = test (all_below head (part offset size tails)) (Order e) (Ok tt)

  abbrev whole : Acceptance
  whole = ordered_edge n e head own mark offset size end tails

  pub line_refused : (r : Refusal) → fields_acceptance n e head own mark offset size end (length tails) ≡ Err r → Err r ≡ whole
  unfolding ordered_edge
  line_refused r p = ap (λ (a : Acceptance). and_then a rule) (fields_refused n e head own mark offset size end tails r p)

  module _ (p : fields_acceptance n e head own mark offset size end (length tails) ≡ Ok tt) where
    edge_is : (b : Bool) → all_below n (part offset size tails) ≡ b → edge_acceptance n e head own mark offset size end tails ≡ test b (Tail e) (Ok tt)
    edge_is b q = sym (fields_passed n e head own mark offset size end tails p) ∙ ap (λ (x : Bool). test x (Tail e) (Ok tt)) q

    whole_is : (b d : Bool) → all_below n (part offset size tails) ≡ b → all_below head (part offset size tails) ≡ d
        → and_then (test b (Tail e) (Ok tt)) (test d (Order e) (Ok tt)) ≡ whole
    unfolding ordered_edge
    whole_is b d q r = rw (edge_is b q, r)

    pub line_accepted : all_below head (part offset size tails) ≡ true → (Ok tt) ≡ whole
    line_accepted q =
        let h = fields_head n e head own mark offset size end tails p in
        whole_is true true (below_more head n (part offset size tails) (omega (arith, h)) q) q

    pub line_unordered : all_below head (part offset size tails) ≡ false → all_below n (part offset size tails) ≡ true → Err (Order e) ≡ whole
    line_unordered q r = whole_is true false r q

    pub line_tail : all_below head (part offset size tails) ≡ false → all_below n (part offset size tails) ≡ false → Err (Tail e) ≡ whole
    line_tail q r = whole_is false false r q

  -- an accepted line passes 3 to 6, and the rule
  pub line_passed : whole ≡ Ok tt → (edge_acceptance n e head own mark offset size end tails ≡ Ok tt) × (all_below head (part offset size tails) ≡ true)
  unfolding ordered_edge
  line_passed q =
      let t = both_accepted (edge_acceptance n e head own mark offset size end tails) rule q in
      (t.0, (test_passed (all_below head (part offset size tails)) _ _ t.1).0)

-- of the m lines from e on: one is passed, one is refused, and none is left
module _ (c : Columns) (m e end : ℕ) where
  one_more : e < m → m - e ≡ suc (m - (e + 1))
  one_more h = omega arith

  pub lines_step : e < m → ordered_edge_at c e end ≡ Ok tt
      → ordered_edges_acceptance c (m - (e + 1)) (e + 1) (offset_at c e + length_at c e) ≡ ordered_edges_acceptance c (m - e) e end
  unfolding ordered_edges_acceptance
  lines_step h p = rw (one_more h, p)

  pub lines_stop : (r : Refusal) → e < m → ordered_edge_at c e end ≡ Err r → Err r ≡ ordered_edges_acceptance c (m - e) e end
  unfolding ordered_edges_acceptance
  lines_stop r h p = rw (one_more h, p)

  pub lines_end : m ≤ e → (Ok tt) ≡ ordered_edges_acceptance c (m - e) e end
  unfolding ordered_edges_acceptance
  lines_end h = rw (sub-eq-zero_of_le h)

module _ (c : Columns) where
  pub order_refused : (r : Refusal) → sizes_acceptance c ≡ Err r → Err r ≡ ordered_acceptance c
  unfolding ordered_acceptance
  order_refused r p = rw p

  pub order_passed : sizes_acceptance c ≡ Ok tt → ordered_edges_acceptance c (length c.heads) 0 0 ≡ ordered_acceptance c
  unfolding ordered_acceptance
  order_passed p = rw p
