-- A table in order is accepted exactly if it is right and keeps the rule, and refused by r exactly if r is the first refusal that applies, 24 with the others; and demand 1 of
-- the two calls. Assumes nothing.
use mathlib.Core.Path.{◌≡◌, refl, sym, ◌∙◌, ap, subst}
use mathlib.Core.Logic.{◌↔◌, inl, inr, ⊎_elim}
use Prim.Native.Nat.{ℕ, ◌≤◌, ◌<◌}
use native.Mathlib.Omega.{arith}
use native.Mathlib.Nat.{eq-or-lt_of_le}
use lib.ListN.{length}
use borrow.Author.Tests.{le-leb, eq-eqb}
use Rattle.weights.specs.declared.Measure.{Measure}
use Rattle.refusal.specs.declared.Refusal.{Refusal}
use Rattle.refusal.specs.declared.Refusal.TheVariants.{Order}
use Rattle.columns.specs.Columns.{Entries, Columns}
use Rattle.columns.specs.Acceptance.{edge_at, sizes_acceptance}
use Rattle.columns.specs.Right.{Few, Level, end_before, RightEdge, WrongEdge, WrongTable, WrongLent}
use Rattle.columns.specs.Owed.{Owed}
use Rattle.columns.proofs.Accepted.{refused, edge_accepted, edge_accepts}
use Rattle.columns.proofs.Exactly.{accepted_exactly, refused_exactly, lent_exactly, lent_refused_exactly}
use Rattle.columns.proofs.Refuses.{Refuses, then_refuses, same_refusal}
use Rattle.columns.proofs.Sizes.{sizes_refused, sizes_passed, sizes_level}
use Rattle.settle.specs.Settling.{entries_of, outcome}
use Rattle.topological.specs.Ordering.{ordered_edges_acceptance, ordered_acceptance, ordered_lent_acceptance, walked_entries, settled_in_order}
use Rattle.topological.specs.Right.{RightOrder, RightOrdered, WrongOrdered, RightOrderedLent, WrongOrderedLent}
use Rattle.topological.proofs.Ordered.{lt-or-le, below_places, places_below, ordered_accepted, Wrong, edges_wrong}
use Rattle.topological.proofs.Settled.{lent_same, lent_accepted, same_entries}
use Rattle.refusal.specs.Answers.{Acceptance}
use Rattle.std.specs.Prelude.{Ok, Err}

module _ (c : Columns) where
  -- a line that passes 3 to 6 is right, and the other way round
  edge_right : (e : ℕ) → edge_at c e (end_before c e) ≡ Ok tt → RightEdge c e
  edge_right e p =
      let g = edge_accepted _ _ _ _ _ _ _ _ _ p in
      record {
        head = g.head;
        own = g.own;
        mark = g.mark;
        span = record { from = g.from; short = g.short; within = g.within };
        tail = below_places c e g.within c.vertices g.listed;
      }

  right_edge : (e : ℕ) → RightEdge c e → edge_at c e (end_before c e) ≡ Ok tt
  right_edge e g =
      let s = g.span in
      edge_accepts _ (record {
        head = g.head;
        own = g.own;
        mark = g.mark;
        from = s.from;
        short = s.short;
        within = s.within;
        listed = places_below c e s.within c.vertices g.tail;
      })

  not-wrong : {e : ℕ} {r : Refusal} → RightEdge c e → WrongEdge c e r → ⊥
  not-wrong g (WrongEdge.head n) = n g.head
  not-wrong g (WrongEdge.own h n) = n g.own
  not-wrong g (WrongEdge.mark h o n) = n g.mark
  not-wrong g (WrongEdge.span h o m n) = n g.span
  not-wrong g (WrongEdge.tail h o m s n) = n g.tail

  sizes_right : Few c → Level c → sizes_acceptance c ≡ Ok tt
  unfolding sizes_acceptance
  sizes_right f l = rw (le-leb _ _ f, eq-eqb _ _ l.own, eq-eqb _ _ l.strikes, le-leb _ _ l.edges, eq-eqb _ _ l.spans, le-leb _ _ l.tails)

  pub ordered_exactly : (ordered_acceptance c ≡ Ok tt) ↔ RightOrdered c
  ordered_exactly = (
    λ p. let t = (ordered_accepted c).0 p in record { table = (accepted_exactly c).0 t.0; order = t.1 },
    λ g. (ordered_accepted c).1 ((accepted_exactly c).1 g.table, g.order),
  )

  -- 1 or 2
  sizes_wrong : Refuses (WrongOrdered c) (sizes_acceptance c)
  sizes_wrong = record { holds = λ {s} q. go q ((refused_exactly c s).0 (sym (sizes_refused c s q))) }
    where
      go : {r : Refusal} → sizes_acceptance c ≡ Err r → WrongTable c r → WrongOrdered c r
      go q (WrongTable.many n) = WrongOrdered.many n
      go q (WrongTable.unlevel f n) = WrongOrdered.unlevel f n
      go q (WrongTable.edge f l e w) = absurd (refused (sym q ∙ sizes_right f l))

  -- 24, or the first of a line
  lines_wrong : sizes_acceptance c ≡ Ok tt → Refuses (WrongOrdered c) (ordered_edges_acceptance c (length c.heads) 0 0)
  lines_wrong p = record { holds = λ {s} q. go (edges_wrong c (length c.heads) 0 s (omega arith) (λ x h. absurd (omega arith)) q) }
    where
      level : Few c × Level c
      level = sizes_level c p

      from : {r : Refusal} → ((x : ℕ) → ((y : ℕ) → y ≤ x → edge_at c y (end_before c y) ≡ Ok tt) → RightOrder c x) → WrongTable c r → WrongOrdered c r
      from o (WrongTable.many n) = absurd (n level.0)
      from o (WrongTable.unlevel f n) = absurd (n level.1)
      from o (WrongTable.edge f l e w) = WrongOrdered.edge f l e w (λ x h. o x (λ y i. right_edge y (w.before y (omega arith))))

      go : {r : Refusal} → Wrong c (length c.heads) 0 0 r → WrongOrdered c r
      go {r} (inl (e, (z, w))) =
          let right : (x : ℕ) → x ≤ e → RightEdge c x = λ x h.
          ⊎_elim (λ i. subst (RightEdge c) (sym i) (edge_right e w.passes)) (λ i. edge_right x (w.before x i).passes) (eq-or-lt_of_le h) in
          let k = w.listed in
          subst (WrongOrdered c) (sym z) (WrongOrdered.order level.0 level.1 e w.numbered right (λ x h. (w.before x h).order) (λ o. omega (arith, o k.0 k.1.0, k.1.1)))
      go {r} (inr (z, o)) = from o ((refused_exactly c r).0 (sym (sizes_passed c p) ∙ z))

  refused_ordered : Refuses (WrongOrdered c) (ordered_acceptance c)
  unfolding ordered_acceptance
  refused_ordered = then_refuses (sizes_acceptance c) _ sizes_wrong lines_wrong

  -- no table is right and wrong, or wrong in two ways
  never : {r : Refusal} → RightOrdered c → WrongOrdered c r → ⊥
  never g (WrongOrdered.many n) = n g.table.few
  never g (WrongOrdered.unlevel f n) = n g.table.level
  never g (WrongOrdered.edge f l e w o) = not-wrong (g.table.each e w.numbered) w.wrong
  never g (WrongOrdered.order f l e h b o n) = n (g.order e h)

  both : {r s : Refusal} (e k : ℕ) → WrongEdge c e r → ((x : ℕ) → x < e → RightOrder c x) → ((x : ℕ) → x ≤ k → RightEdge c x) → ¬ RightOrder c k → r ≡ s
  both e k w o b n = absurd (⊎_elim (λ i. n (o k i)) (λ i. not-wrong (b e i) w) (lt-or-le k e))

  once : {r s : Refusal} → WrongOrdered c r → WrongOrdered c s → r ≡ s
  once (WrongOrdered.many n) (WrongOrdered.many m) = refl
  once (WrongOrdered.many n) (WrongOrdered.unlevel f m) = absurd (n f)
  once (WrongOrdered.many n) (WrongOrdered.edge f l e w o) = absurd (n f)
  once (WrongOrdered.many n) (WrongOrdered.order f l e h b o m) = absurd (n f)
  once (WrongOrdered.unlevel f n) (WrongOrdered.many m) = absurd (m f)
  once (WrongOrdered.unlevel f n) (WrongOrdered.unlevel g m) = refl
  once (WrongOrdered.unlevel f n) (WrongOrdered.edge g l e w o) = absurd (n l)
  once (WrongOrdered.unlevel f n) (WrongOrdered.order g l e h b o m) = absurd (n l)
  once (WrongOrdered.edge f l e w o) (WrongOrdered.many n) = absurd (n f)
  once (WrongOrdered.edge f l e w o) (WrongOrdered.unlevel g n) = absurd (n l)
  once (WrongOrdered.edge f l e w o) (WrongOrdered.edge g k x v u) =
      same_refusal (sym ((refused_exactly c _).1 (WrongTable.edge f l e w)) ∙ (refused_exactly c _).1 (WrongTable.edge g k x v))
  once (WrongOrdered.edge f l e w o) (WrongOrdered.order g k x h b u n) = both e x w.wrong o b n
  once (WrongOrdered.order f l e h b o n) (WrongOrdered.many m) = absurd (m f)
  once (WrongOrdered.order f l e h b o n) (WrongOrdered.unlevel g m) = absurd (m l)
  once (WrongOrdered.order f l e h b o n) (WrongOrdered.edge g k x w u) = sym (both x e w.wrong u b n)
  once (WrongOrdered.order f l e h b o n) (WrongOrdered.order g k x i a u m) =
      ap (λ (y : ℕ). Order (record { 0 = y }))
      (⊎_elim (λ z. absurd (n (u e z))) (λ z. ⊎_elim (λ y. sym y) (λ y. absurd (m (o x y))) (eq-or-lt_of_le z)) (lt-or-le e x))

  pub ordered_refused_exactly : (r : Refusal) → (ordered_acceptance c ≡ Err r) ↔ WrongOrdered c r
  ordered_refused_exactly r = (refused_ordered.holds, λ w. go w (ordered_acceptance c) refl)
    where
      go : WrongOrdered c r → (x : Acceptance) → ordered_acceptance c ≡ x → x ≡ Err r
      go w (Ok _) p = absurd (never (ordered_exactly.0 p) w)
      go w (Err s) p = ap Err (once (refused_ordered.holds p) w)

  -- check the order
  pub check_order_owes : Owed Err (tt {0}) (RightOrdered c) (λ _. (Ok tt)) (λ _. tt {0}) (WrongOrdered c) (ordered_acceptance c) (tt {0})
  check_order_owes = go (ordered_acceptance c) refl
    where
      go : (x : Acceptance) → ordered_acceptance c ≡ x → Owed Err (tt {0}) (RightOrdered c) (λ _. (Ok tt)) (λ _. tt {0}) (WrongOrdered c) x (tt {0})
      go (Ok _) p = Owed.accepted (ordered_exactly.0 p)
      go (Err r) p = Owed.refused ((ordered_refused_exactly r).0 p)

module _ (c : Columns) (a : Entries) where
  pub ordered_lent_exactly : (ordered_lent_acceptance c a ≡ Ok tt) ↔ RightOrderedLent c a
  ordered_lent_exactly = (
    λ p. let t = lent_accepted c a p in record { table = (ordered_exactly c).0 t.0; sized = t.1.sized },
    λ g. lent_same c a ((ordered_exactly c).1 g.table) ∙ (lent_exactly c a).1 (record { table = g.table.table; sized = g.sized }),
  )

  -- where the table is right, 7
  answers : {r : Refusal} → ordered_acceptance c ≡ Ok tt → WrongLent c a r → WrongOrderedLent c a r
  answers p (WrongLent.table w) = absurd (refused (sym ((refused_exactly c _).1 w) ∙ (accepted_exactly c).1 ((ordered_exactly c).0 p).table))
  answers p (WrongLent.answers t n) = WrongOrderedLent.answers ((ordered_exactly c).0 p) n

  refused_lent : {r : Refusal} (x : Acceptance) → ordered_acceptance c ≡ x → ordered_lent_acceptance c a ≡ Err r → WrongOrderedLent c a r
  unfolding ordered_lent_acceptance
  refused_lent (Ok _) p q = answers p ((lent_refused_exactly c a _).0 (sym (lent_same c a p) ∙ q))
  refused_lent (Err s) p q = WrongOrderedLent.table ((ordered_refused_exactly c _).0 (p ∙ rw p at q))

  lent_refused : {r : Refusal} → WrongOrderedLent c a r → ordered_lent_acceptance c a ≡ Err r
  unfolding ordered_lent_acceptance
  lent_refused (WrongOrderedLent.table w) = let q = (ordered_refused_exactly c _).1 w in rw q
  lent_refused (WrongOrderedLent.answers t n) = lent_same c a ((ordered_exactly c).1 t) ∙ (lent_refused_exactly c a _).1 (WrongLent.answers t.table n)

  pub ordered_lent_refused_exactly : (r : Refusal) → (ordered_lent_acceptance c a ≡ Err r) ↔ WrongOrderedLent c a r
  ordered_lent_refused_exactly r = (refused_lent (ordered_acceptance c) refl, lent_refused)

  -- settle in order: "both ways of settling leave the same columns"
  pub settle_ordered_owes : (m : Measure)
      → Owed Err a (RightOrderedLent c a) (λ _. (Ok tt)) (λ _. entries_of m c) (WrongOrderedLent c a) (settled_in_order m c a).result (settled_in_order m c a).left
  unfolding settled_in_order
  settle_ordered_owes m = go (ordered_lent_acceptance c a) refl
    where
      Promise : Acceptance → Entries → Type 0
      Promise x b = Owed Err a (RightOrderedLent c a) (λ _. (Ok tt)) (λ _. entries_of m c) (WrongOrderedLent c a) x b

      go : (x : Acceptance) → ordered_lent_acceptance c a ≡ x → Promise (outcome x (walked_entries m c) a).result (outcome x (walked_entries m c) a).left
      go (Ok _) p = subst (Promise (Ok tt)) (sym (same_entries m c (lent_accepted c a p).0)) (Owed.accepted (ordered_lent_exactly.0 p))
      go (Err r) p = Owed.refused ((ordered_lent_refused_exactly r).0 p)
