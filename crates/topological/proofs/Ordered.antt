-- What the check of a table in order tells: a table is accepted exactly if it is accepted without the rule and keeps it, and what 24 and every other refusal mean.
-- Assumes nothing.
use mathlib.Core.Path.{◌≡◌, refl, sym, ◌∙◌, ap, subst}
use mathlib.Core.Logic.{◌↔◌, ◌⊎◌, inl, inr, ⊎_elim}
use mathlib.Core.Bool.{Bool, true, false}
use mathlib.Core.List.Memᴰ
use mathlib.Core.List.{List, [], ◌∷◌, Memᴰ}
use Prim.Native.Nat.{ℕ, zero, suc, ◌+◌, ◌≤◌, ◌<◌}
use native.Mathlib.Nat.{eq-or-lt_of_le}
use native.Mathlib.Numerals.{add-one}
use native.Mathlib.Omega.{arith}
use lib.ListN.{length}
use lib.Dec.{ltb}
use borrow.Author.Tests.{ltb-true, ltb-false}
use Rattle.weights.specs.Choice.{pick}
use Rattle.weights.proofs.Choice.{both_true}
use Rattle.refusal.specs.declared.Refusal.{Refusal}
use Rattle.refusal.specs.declared.Refusal.TheVariants.{Order}
use Rattle.refusal.specs.Refusals.{number_of}
use Rattle.columns.specs.Columns.{Columns, head_at, offset_at, length_at, tail_at, cell}
use Rattle.columns.specs.Acceptance.{test, and_then, all_below, edge_at, edges_acceptance, sizes_acceptance, acceptance}
use Rattle.columns.specs.Right.{end_before, WrongEdge, WrongTable}
use Rattle.columns.proofs.Accepted.{refused, both_accepted, below_at, below_all, part_at, part_length, table_accepted, edge_accepted}
use Rattle.columns.proofs.Exactly.{refused_exactly}
use Rattle.columns.proofs.Refuses.{same_refusal}
use Rattle.columns.proofs.Sizes.{sizes_first}
use Rattle.provenance.specs.InOrder.{InOrder}
use Rattle.tables.specs.Table.{hypergraph}
use Rattle.topological.specs.Ordering.{ordered_edge, ordered_edge_at, ordered_edges_acceptance, ordered_acceptance}
use Rattle.topological.specs.Right.{RightOrder}
use Rattle.topological.proofs.Checking.{line_passed}
use Rattle.refusal.specs.Answers.{Acceptance}
use Rattle.std.specs.Prelude.{Ok, Err}

-- line e passes 3 to 6, and the rule
pub record Keeps (c : Columns) (e : ℕ) : Type 0 where
  pub passes : edge_at c e (end_before c e) ≡ Ok tt
  pub order : RightOrder c e

-- line e is the first that fails, and it fails the rule alone: place k of its span holds its head or a higher part
pub record FirstUnordered (c : Columns) (e : ℕ) : Type 0 where
  pub numbered : e < length c.heads
  pub before : (x : ℕ) → x < e → Keeps c x
  pub passes : edge_at c e (end_before c e) ≡ Ok tt
  pub listed : (k : ℕ) × ((k < length_at c e) × (head_at c e ≤ cell c.tails (offset_at c e + k)))

pub lt-or-le : (x e : ℕ) → (x < e) ⊎ (e ≤ x)
lt-or-le x e = go (ltb x e) refl
  where
    go : (b : Bool) → ltb x e ≡ b → (x < e) ⊎ (e ≤ x)
    go true p = inl (ltb-true x e p)
    go false p = inr (ltb-false x e p)

-- of a list with a number that is not below n, such a number
not-below : (n : ℕ) (vs : List ℕ) → all_below n vs ≡ false → (k : ℕ) × ((k < length vs) × (n ≤ cell vs k))
unfolding all_below
not-below n [] p = absurd (let z : ◌≡◌ {A = ℕ} 0 1 = cc in omega arith)
not-below n (v ∷ vs) p = go (ltb v n) refl (not-below n vs) p
  where
    go : (b : Bool) → ltb v n ≡ b → (all_below n vs ≡ false → (k : ℕ) × ((k < length vs) × (n ≤ cell vs k))) → pick b (all_below n vs) false ≡ false
        → (k : ℕ) × ((k < length (v ∷ vs)) × (n ≤ cell (v ∷ vs) k))
    go true q f r = let t = f r in (suc t.0, (omega (arith, t.1.0), t.1.1))
    go false q f r = (0, (omega arith, ltb-false v n q))

-- what is in a list of numbers below n is below n
member : (n : ℕ) (vs : List ℕ) → all_below n vs ≡ true → (u : ℕ) → Memᴰ u vs → u < n
unfolding all_below
member n [] p u i = absurd (Memᴰ.not-nil i)
member n (v ∷ vs) p u i =
    let t = both_true {a = ltb v n} {b = all_below n vs} p in
    go (member n vs t.1 u) (Memᴰ.cases_cons i) (ltb-true v n t.0)
  where
    go : (Memᴰ u vs → u < n) → (u ≡ v) ⊎ Memᴰ u vs → v < n → u < n
    go f (inl e) h = omega arith
    go f (inr j) h = f j

module _ (c : Columns) (e : ℕ) where
  -- where the line's span is within the column
  module _ (w : offset_at c e + length_at c e ≤ length c.tails) where
    long : length (tail_at c e) ≡ length_at c e
    long = part_length (offset_at c e) (length_at c e) c.tails w

    -- a bound of the listed parts by the places of the column
    pub below_places : (n : ℕ) → all_below n (tail_at c e) ≡ true → (k : ℕ) → k < length_at c e → cell c.tails (offset_at c e + k) < n
    below_places n p k h = subst (λ (x : ℕ). x < n) (part_at (offset_at c e) (length_at c e) c.tails k h) (below_at n (tail_at c e) p k (omega (arith, long)))

    pub places_below : (n : ℕ) → ((k : ℕ) → k < length_at c e → cell c.tails (offset_at c e + k) < n) → all_below n (tail_at c e) ≡ true
    places_below n f =
        below_all n (tail_at c e) (λ k h.
        let i : k < length_at c e = omega (arith, long) in
        subst (λ (x : ℕ). x < n) (sym (part_at (offset_at c e) (length_at c e) c.tails k i)) (f k i))

    rule_broken : all_below (head_at c e) (tail_at c e) ≡ false → (k : ℕ) × ((k < length_at c e) × (head_at c e ≤ cell c.tails (offset_at c e + k)))
    rule_broken p =
        let t = not-below (head_at c e) (tail_at c e) p in
        let i : t.0 < length_at c e = omega (arith, long, t.1.0) in
        (t.0, (i, subst (λ (x : ℕ). head_at c e ≤ x) (part_at (offset_at c e) (length_at c e) c.tails t.0 i) t.1.1))

module _ (c : Columns) where
  -- the span of an accepted line is within the column
  within : (e end : ℕ) → edge_at c e end ≡ Ok tt → offset_at c e + length_at c e ≤ length c.tails
  within e end p = (edge_accepted _ _ _ _ _ _ _ _ _ p).within

  abbrev Rule : ℕ → Type 0
  Rule e = all_below (head_at c e) (tail_at c e) ≡ true

  passed : (e end : ℕ) → ordered_edge_at c e end ≡ Ok tt → (edge_at c e end ≡ Ok tt) × Rule e
  passed e end p = line_passed _ _ _ _ _ _ _ _ _ p

  passes : (e end : ℕ) → edge_at c e end ≡ Ok tt → Rule e → ordered_edge_at c e end ≡ Ok tt
  unfolding ordered_edge
  passes e end p q = rw (p, q)

  ordered_both : (left e end : ℕ) → ordered_edges_acceptance c left e end ≡ Ok tt
      → (edges_acceptance c left e end ≡ Ok tt) × ((x : ℕ) → e ≤ x → x < e + left → Rule x)
  unfolding ordered_edges_acceptance edges_acceptance
  ordered_both zero e end p = (refl, λ x h l. absurd (omega arith))
  ordered_both (suc left) e end p =
      let t = both_accepted (ordered_edge_at c e end) (ordered_edges_acceptance c left (e + 1) (offset_at c e + length_at c e)) p in
      let s = passed e end t.0 in
      let r = ordered_both left (e + 1) (offset_at c e + length_at c e) t.1 in (
        rw (s.0, r.0),
        λ x h l. ⊎_elim (λ q. subst Rule q s.1) (λ q. r.1 x (omega arith) (omega arith)) (eq-or-lt_of_le h),
      )

  both_ordered : (left e end : ℕ) → edges_acceptance c left e end ≡ Ok tt → ((x : ℕ) → e ≤ x → x < e + left → Rule x)
      → ordered_edges_acceptance c left e end ≡ Ok tt
  unfolding ordered_edges_acceptance edges_acceptance
  both_ordered zero e end p f = refl
  both_ordered (suc left) e end p f =
      let t = both_accepted (edge_at c e end) (edges_acceptance c left (e + 1) (offset_at c e + length_at c e)) p in
      let s = passes e end t.0 (f e (omega arith) (omega arith)) in
      let r = both_ordered left (e + 1) (offset_at c e + length_at c e) t.1 (λ x h l. f x (omega arith) (omega arith)) in
      rw (s, r)

  abbrev edges : Acceptance
  edges = edges_acceptance c (length c.heads) 0 0

  split : acceptance c ≡ Ok tt → (sizes_acceptance c ≡ Ok tt) × (edges ≡ Ok tt)
  split p = both_accepted (sizes_acceptance c) edges (sym (sizes_first c) ∙ p)

  joined : sizes_acceptance c ≡ Ok tt → edges ≡ Ok tt → acceptance c ≡ Ok tt
  joined p q = sizes_first c ∙ rw (p, q)

  ordered_split : ordered_acceptance c ≡ Ok tt → (acceptance c ≡ Ok tt) × ((x : ℕ) → x < length c.heads → Rule x)
  unfolding ordered_acceptance
  ordered_split p =
      let t = both_accepted (sizes_acceptance c) (ordered_edges_acceptance c (length c.heads) 0 0) p in
      let r = ordered_both (length c.heads) 0 0 t.1 in
      (joined t.0 r.0, λ x h. r.1 x (omega arith) (omega arith))

  ordered_joined : acceptance c ≡ Ok tt → ((x : ℕ) → x < length c.heads → Rule x) → ordered_acceptance c ≡ Ok tt
  unfolding ordered_acceptance
  ordered_joined p f =
      let t = split p in
      let r = both_ordered (length c.heads) 0 0 t.1 (λ x h l. f x (omega arith)) in
      rw (t.0, r)

  -- "a check for the rule": a table is accepted exactly if it is without the rule, and every line, struck or not, lists only parts below its head
  pub ordered_accepted : (ordered_acceptance c ≡ Ok tt) ↔ ((acceptance c ≡ Ok tt) × ((e : ℕ) → e < length c.heads → RightOrder c e))
  ordered_accepted = (
    λ p. let t = ordered_split p in (t.0, λ e h. below_places c e ((table_accepted c t.0).each e h).1.within (head_at c e) (t.1 e h)),
    λ t. ordered_joined t.0 (λ e h. places_below c e ((table_accepted c t.0).each e h).1.within (head_at c e) (t.1 e h)),
  )

  -- the hypergraph of such a table is in order
  pub table_in_order : ordered_acceptance c ≡ Ok tt → InOrder (hypergraph c)
  table_in_order p = record { below = λ e h u i. member (head_at c e) (tail_at c e) ((ordered_split p).1 e h) u i }

  next_end : (e : ℕ) → offset_at c e + length_at c e ≡ end_before c (e + 1)
  next_end e = ap (end_before c) (sym (add-one e))

  -- the lines that pass 3 to 6, up to the first that does not, keep the rule
  abbrev pub Ordered : Type 0
  Ordered = (x : ℕ) → ((y : ℕ) → y ≤ x → edge_at c y (end_before c y) ≡ Ok tt) → RightOrder c x

  -- what is wrong with lines of which those before e keep the rule
  abbrev pub Wrong : (left e end : ℕ) → Refusal → Type 0
  Wrong left e end r = ((x : ℕ) × ((r ≡ Order (record { 0 = x })) × FirstUnordered c x)) ⊎ ((edges_acceptance c left e end ≡ Err r) × Ordered)

  pub edges_wrong : (left e : ℕ) (r : Refusal) → e + left ≡ length c.heads → ((x : ℕ) → x < e → Keeps c x)
      → ordered_edges_acceptance c left e (end_before c e) ≡ Err r → Wrong left e (end_before c e) r
  unfolding ordered_edges_acceptance ordered_edge edges_acceptance
  edges_wrong zero e r n f p = absurd (refused (sym p))
  edges_wrong (suc left) e r n f p = go (edge_at c e (end_before c e)) (all_below (head_at c e) (tail_at c e)) refl refl
      (λ k z. edges_wrong left (e + 1) r (omega arith) k z) p
    where
      rest : Acceptance
      rest = ordered_edges_acceptance c left (e + 1) (offset_at c e + length_at c e)

      keeps : edge_at c e (end_before c e) ≡ Ok tt → Rule e → (x : ℕ) → x < e + 1 → Keeps c x
      keeps q u x h =
          ⊎_elim
          (λ i. subst (Keeps c) (sym i) (record { passes = q; order = below_places c e (within e (end_before c e) q) (head_at c e) u }))
          (λ i. f x i)
          (eq-or-lt_of_le (omega arith))

      behind : edge_at c e (end_before c e) ≡ Ok tt → Wrong left (e + 1) (end_before c (e + 1)) r → Wrong (suc left) e (end_before c e) r
      behind q (inl x) = inl x
      behind q (inr (z, o)) = let y = subst (λ (k : ℕ). edges_acceptance c left (e + 1) k ≡ Err r) (sym (next_end e)) z in inr (rw q y, o)

      -- what passes stands before a line that does not
      earlier : {s : Refusal} → edge_at c e (end_before c e) ≡ Err s → Ordered
      earlier q x h = at (lt-or-le x e)
        where
          at : (x < e) ⊎ (e ≤ x) → RightOrder c x
          at (inl i) = (f x i).order
          at (inr i) = absurd (refused (sym q ∙ h e i))

      go : (a : Acceptance) (b : Bool) → edge_at c e (end_before c e) ≡ a → all_below (head_at c e) (tail_at c e) ≡ b
          → (((x : ℕ) → x < e + 1 → Keeps c x) → ordered_edges_acceptance c left (e + 1) (end_before c (e + 1)) ≡ Err r → Wrong left (e + 1) (end_before c (e + 1)) r)
          → and_then (and_then a (test b (Order (record { 0 = e })) (Ok tt))) rest ≡ Err r → Wrong (suc left) e (end_before c e) r
      go (Err s) b q u g p = inr (rw q p, earlier q)
      go (Ok _) false q u g p =
          inl (e, (sym (same_refusal p), record { numbered = omega arith; before = f; passes = q; listed = rule_broken c e (within e (end_before c e) q) u }))
      go (Ok _) true q u g p =
          behind q (g (keeps q u) (subst (λ (k : ℕ). ordered_edges_acceptance c left (e + 1) k ≡ Err r) (next_end e) p))

  edge_number : {e : ℕ} {r : Refusal} → WrongEdge c e r → number_of r < 24
  edge_number (WrongEdge.head n) = omega arith
  edge_number (WrongEdge.own h n) = omega arith
  edge_number (WrongEdge.mark h o n) = omega arith
  edge_number (WrongEdge.span h o m n) = omega arith
  edge_number (WrongEdge.tail h o m s n) = omega arith

  table_number : {r : Refusal} → WrongTable c r → number_of r < 24
  table_number (WrongTable.many n) = omega arith
  table_number (WrongTable.unlevel f n) = omega arith
  table_number (WrongTable.edge f l e w) = edge_number w.wrong

  -- "in these two calls only": the check without the rule never returns 24
  pub never_order : (r : Refusal) → acceptance c ≡ Err r → number_of r < 24
  never_order r p = table_number ((refused_exactly c r).0 p)
