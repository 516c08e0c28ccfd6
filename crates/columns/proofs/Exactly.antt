-- A table is accepted exactly if it is right, and refused by r exactly if r is the first refusal that applies: of "What is turned away", 1 to 6 and 21. Assumes nothing.
use mathlib.Core.Path.{◌≡◌, refl, sym, ◌∙◌, ap, subst}
use mathlib.Core.Bool.{Bool, true, false}
use mathlib.Core.Logic.{◌↔◌, ⊎_elim}
use Prim.Native.Nat.{ℕ, zero, suc, ◌+◌, ◌*◌, ◌≤◌, ◌<◌}
use native.Mathlib.Nat.{eq-or-lt_of_le}
use native.Mathlib.Numerals.{add-one}
use native.Mathlib.Omega.{arith}
use lib.ListN.{length}
use lib.Dec.{ltb, leb, eqb}
use borrow.Author.Tests.{ltb-true, ltb-false, leb-true, leb-false, eqb-true, eqb-false, lt-ltb, le-ltb, le-leb, lt-leb, eq-eqb}
use Rattle.weights.specs.Figures.{greatest, struck_mark}
use Rattle.refusal.specs.declared.Refusal.{Refusal}
use Rattle.columns.specs.Columns.{Entries, Columns, head_at, own_at, strike_at, offset_at, length_at, tail_at}
use Rattle.columns.specs.Acceptance.{most_vertices, most_edges, most_listed, longest_tail, test, all_below, edge_acceptance, edge_at, edges_acceptance, acceptance, lent_acceptance}
use Rattle.columns.proofs.Accepted.{both_accepted, below_at, below_all, part_at, part_length, edge_accepted, edge_accepts, table_accepted, columns_accepted, columns_accept}
use Rattle.columns.specs.Right.{Few, Level, end_before, RightHead, RightOwn, RightMark, RightSpan, RightTail, RightEdge, RightTable, WrongEdge, FirstWrong, WrongTable, RightLent, WrongLent}
use Rattle.columns.proofs.Refuses.{Refuses, none_refuses, test_refuses, then_refuses}
use Rattle.refusal.specs.Answers.{Acceptance}
use Rattle.std.specs.Prelude.{Ok, Err}

-- of tests that refuse alike one fails
one_fails : (b : Bool) (r : Refusal) (a : Acceptance) → (b ≡ true → a ≡ Err r) → test b r a ≡ Err r
one_fails true r a f = f refl
one_fails false r a f = refl

module _ (c : Columns) (e : ℕ) where
  -- the listed parts by their places in the column
  listed_right : RightSpan c e → all_below c.vertices (tail_at c e) ≡ true → RightTail c e
  listed_right s p k h =
      let l = part_length (offset_at c e) (length_at c e) c.tails s.within in
      subst (λ (x : ℕ). x < c.vertices) (part_at (offset_at c e) (length_at c e) c.tails k h) (below_at c.vertices (tail_at c e) p k (omega arith))

  right_listed : RightSpan c e → RightTail c e → all_below c.vertices (tail_at c e) ≡ true
  right_listed s f =
      below_all c.vertices (tail_at c e) (λ k h.
      let l = part_length (offset_at c e) (length_at c e) c.tails s.within in
      let i : k < length_at c e = omega arith in
      subst (λ (x : ℕ). x < c.vertices) (sym (part_at (offset_at c e) (length_at c e) c.tails k i)) (f k i))

  edge_right : edge_at c e (end_before c e) ≡ Ok tt → RightEdge c e
  edge_right p =
      let g = edge_accepted _ _ _ _ _ _ _ _ _ p in
      let s : RightSpan c e = record { from = g.from; short = g.short; within = g.within } in
      record { head = g.head; own = g.own; mark = g.mark; span = s; tail = listed_right s g.listed }

  right_edge : RightEdge c e → edge_at c e (end_before c e) ≡ Ok tt
  right_edge g =
      let s = g.span in
      edge_accepts _ (record {
        head = g.head;
        own = g.own;
        mark = g.mark;
        from = s.from;
        short = s.short;
        within = s.within;
        listed = right_listed s g.tail;
      })

  not_both : {A : Type 0} → true ≡ false → A
  not_both q = let z : ◌≡◌ {A = ℕ} 0 1 = cc in absurd (omega arith)

  -- the tests of a line, one after the other
  edge-wrong : Refuses (WrongEdge c e) (edge_at c e (end_before c e))
  unfolding edge_acceptance
  edge-wrong =
      let n = c.vertices in
      let off = offset_at c e in
      let len = length_at c e in
      let all = length c.tails in
      test_refuses (ltb (head_at c e) n) _ _ (λ b. WrongEdge.head (λ h. omega (arith, ltb-false (head_at c e) n b, h))) (λ b.
      let h : RightHead c e = ltb-true (head_at c e) n b in
      test_refuses (leb (own_at c e) greatest) _ _ (λ b. WrongEdge.own h (λ o. omega (arith, leb-false (own_at c e) greatest b, o))) (λ b.
      let o : RightOwn c e = leb-true (own_at c e) greatest b in
      test_refuses (leb (strike_at c e) struck_mark) _ _ (λ b. WrongEdge.mark h o (λ m. omega (arith, leb-false (strike_at c e) struck_mark b, m))) (λ b.
      let m : RightMark c e = leb-true (strike_at c e) struck_mark b in
      test_refuses (leb (end_before c e) off) _ _ (λ b. WrongEdge.span h o m (λ s. omega (arith, leb-false (end_before c e) off b, s.from))) (λ f.
      test_refuses (leb len longest_tail) _ _ (λ b. WrongEdge.span h o m (λ s. omega (arith, leb-false len longest_tail b, s.short))) (λ l.
      test_refuses (leb (off + len) all) _ _ (λ b. WrongEdge.span h o m (λ s. omega (arith, leb-false (off + len) all b, s.within))) (λ w.
      let s : RightSpan c e = record { from = leb-true (end_before c e) off f; short = leb-true len longest_tail l; within = leb-true (off + len) all w } in
      test_refuses (all_below n (tail_at c e)) _ _ (λ b. WrongEdge.tail h o m s (λ t. not_both (sym (right_listed s t) ∙ b))) (λ _. none_refuses)))))))

  wrong-edge : {r : Refusal} → WrongEdge c e r → edge_at c e (end_before c e) ≡ Err r
  unfolding edge_acceptance
  wrong-edge (WrongEdge.head n) = rw (le-ltb (head_at c e) c.vertices (omega (arith, n)))
  wrong-edge (WrongEdge.own h n) = rw (lt-ltb (head_at c e) c.vertices h, lt-leb (own_at c e) greatest (omega (arith, n)))
  wrong-edge (WrongEdge.mark h o n) =
      rw (lt-ltb (head_at c e) c.vertices h, le-leb (own_at c e) greatest o, lt-leb (strike_at c e) struck_mark (omega (arith, n)))
  wrong-edge (WrongEdge.span h o m n) =
      rw (lt-ltb (head_at c e) c.vertices h, le-leb (own_at c e) greatest o, le-leb (strike_at c e) struck_mark m)
      (one_fails (leb (end_before c e) (offset_at c e)) _ _ (λ f.
      one_fails (leb (length_at c e) longest_tail) _ _ (λ l.
      one_fails (leb (offset_at c e + length_at c e) (length c.tails)) _ _ (λ w.
      absurd (n (record { from = leb-true _ _ f; short = leb-true _ _ l; within = leb-true _ _ w }))))))
  wrong-edge (WrongEdge.tail h o m s n) =
      let q : all_below c.vertices (tail_at c e) ≡ false = below_false (all_below c.vertices (tail_at c e)) refl in
      let u = le-leb (own_at c e) greatest o in
      let v = le-leb (strike_at c e) struck_mark m in
      rw (lt-ltb (head_at c e) c.vertices h, u, v, le-leb _ _ s.from, le-leb _ _ s.short, le-leb _ _ s.within, q)
    where
      below_false : (b : Bool) → all_below c.vertices (tail_at c e) ≡ b → b ≡ false
      below_false true p = absurd (n (listed_right s p))
      below_false false p = refl

module _ (c : Columns) where
  next_end : (e : ℕ) → offset_at c e + length_at c e ≡ end_before c (e + 1)
  next_end e = ap (end_before c) (sym (add-one e))

  -- what holds of the answer of the lines behind e, taken on
  onward : (P : Acceptance → Type 0) (left e : ℕ) → P (edges_acceptance c left (e + 1) (end_before c (e + 1))) → P (edges_acceptance c left (e + 1) (offset_at c e + length_at c e))
  onward P left e p = subst (λ (k : ℕ). P (edges_acceptance c left (e + 1) k)) (sym (next_end e)) p

  edges_right : (left e : ℕ) → edges_acceptance c left e (end_before c e) ≡ Ok tt → (x : ℕ) → e ≤ x → x < e + left → RightEdge c x
  unfolding edges_acceptance
  edges_right zero e p x h l = absurd (omega arith)
  edges_right (suc left) e p x h l =
      let t = both_accepted (edge_at c e (end_before c e)) (edges_acceptance c left (e + 1) (offset_at c e + length_at c e)) p in
      let q = subst (λ (k : ℕ). edges_acceptance c left (e + 1) k ≡ Ok tt) (next_end e) t.1 in
      ⊎_elim (λ i. subst (RightEdge c) i (edge_right c e t.0)) (λ i. edges_right left (e + 1) q x (omega arith) (omega arith)) (eq-or-lt_of_le h)

  right_edges : (left e : ℕ) → ((x : ℕ) → e ≤ x → x < e + left → RightEdge c x) → edges_acceptance c left e (end_before c e) ≡ Ok tt
  unfolding edges_acceptance
  right_edges zero e f = refl
  right_edges (suc left) e f =
      let r = onward (λ (a : Acceptance). a ≡ Ok tt) left e (right_edges left (e + 1) (λ x h l. f x (omega arith) (omega arith))) in
      rw (right_edge c e (f e (omega arith) (omega arith)), r)

  -- up to line e all lines are right
  edges_wrong : (left e : ℕ) → e + left ≡ length c.heads → ((x : ℕ) → x < e → RightEdge c x) → Refuses (λ r. (x : ℕ) × FirstWrong c x r) (edges_acceptance c left e (end_before c e))
  unfolding edges_acceptance
  edges_wrong zero e n f = none_refuses
  edges_wrong (suc left) e n f =
      let w = edge-wrong c e in
      then_refuses (edge_at c e (end_before c e)) _ (record { holds = λ q. (e, record { numbered = omega arith; before = f; wrong = w.holds q }) }) (λ q.
      onward (Refuses (λ r. (x : ℕ) × FirstWrong c x r)) left e (edges_wrong left (e + 1) (omega arith) (λ x h.
      ⊎_elim (λ i. subst (RightEdge c) (sym i) (edge_right c e q)) (λ i. f x i) (eq-or-lt_of_le (omega arith)))))

  wrong_edges : (left e x : ℕ) {r : Refusal} → e ≤ x → x < e + left → FirstWrong c x r → edges_acceptance c left e (end_before c e) ≡ Err r
  unfolding edges_acceptance
  wrong_edges zero e x h l w = absurd (omega arith)
  wrong_edges (suc left) e x {r} h l w =
      ⊎_elim
      (λ i. let q = wrong-edge c e (subst (λ (y : ℕ). WrongEdge c y r) (sym i) w.wrong) in rw q)
      (λ i.
      let q = onward (λ (a : Acceptance). a ≡ Err r) left e (wrong_edges left (e + 1) x (omega arith) (omega arith) w) in
      rw (right_edge c e (w.before e i), q))
      (eq-or-lt_of_le h)

  accepted_right : acceptance c ≡ Ok tt → RightTable c
  accepted_right p =
      let t = table_accepted c p in
      record {
        few = t.few;
        level = record { own = t.own; strikes = t.strikes; edges = t.edges; spans = t.spans; tails = t.tails };
        each = λ e h. edges_right (length c.heads) 0 t.rest e (omega arith) (omega arith);
      }

  right_accepted : RightTable c → acceptance c ≡ Ok tt
  unfolding acceptance
  right_accepted t =
      let l = t.level in
      rw (le-leb _ _ t.few, eq-eqb _ _ l.own, eq-eqb _ _ l.strikes, le-leb _ _ l.edges, eq-eqb _ _ l.spans, le-leb _ _ l.tails)
      (right_edges (length c.heads) 0 (λ x h l. t.each x (omega arith)))

  refused_wrong : Refuses (WrongTable c) (acceptance c)
  unfolding acceptance
  refused_wrong =
      let n = c.vertices in
      let own = length c.own in
      let strikes = length c.strikes in
      let m = length c.heads in
      let spans = length c.spans in
      let tails = length c.tails in
      test_refuses (leb n most_vertices) _ _ (λ b. WrongTable.many (λ f. omega (arith, leb-false n most_vertices b, f))) (λ b.
      let f : Few c = leb-true n most_vertices b in
      test_refuses (eqb own m) _ _ (λ b. WrongTable.unlevel f (λ l. eqb-false own m b l.own)) (λ o.
      test_refuses (eqb strikes m) _ _ (λ b. WrongTable.unlevel f (λ l. eqb-false strikes m b l.strikes)) (λ k.
      test_refuses (leb m most_edges) _ _ (λ b. WrongTable.unlevel f (λ l. omega (arith, leb-false m most_edges b, l.edges))) (λ e.
      test_refuses (eqb spans (2 * m)) _ _ (λ b. WrongTable.unlevel f (λ l. eqb-false spans (2 * m) b l.spans)) (λ s.
      test_refuses (leb tails most_listed) _ _ (λ b. WrongTable.unlevel f (λ l. omega (arith, leb-false tails most_listed b, l.tails))) (λ t.
      let l : Level c = record {
        own = eqb-true own m o;
        strikes = eqb-true strikes m k;
        edges = leb-true m most_edges e;
        spans = eqb-true spans (2 * m) s;
        tails = leb-true tails most_listed t;
      } in
      let w = edges_wrong m 0 (omega arith) (λ x h. absurd (omega arith)) in
      record { holds = λ q. let x = w.holds q in WrongTable.edge f l x.0 x.1 }))))))

  wrong_refused : {r : Refusal} → WrongTable c r → acceptance c ≡ Err r
  unfolding acceptance
  wrong_refused (WrongTable.many n) = rw (lt-leb c.vertices most_vertices (omega (arith, n)))
  wrong_refused (WrongTable.unlevel f n) =
      let m = length c.heads in
      rw (le-leb c.vertices most_vertices f)
      (one_fails (eqb (length c.own) m) _ _ (λ o.
      one_fails (eqb (length c.strikes) m) _ _ (λ k.
      one_fails (leb m most_edges) _ _ (λ e.
      one_fails (eqb (length c.spans) (2 * m)) _ _ (λ s.
      one_fails (leb (length c.tails) most_listed) _ _ (λ t.
      let l : Level c = record {
        own = eqb-true _ _ o;
        strikes = eqb-true _ _ k;
        edges = leb-true _ _ e;
        spans = eqb-true _ _ s;
        tails = leb-true _ _ t;
      } in
      absurd (n l)))))))
  wrong_refused (WrongTable.edge f l e w) =
      let few = le-leb c.vertices most_vertices f in
      rw (few, eq-eqb _ _ l.own, eq-eqb _ _ l.strikes, le-leb _ _ l.edges, eq-eqb _ _ l.spans, le-leb _ _ l.tails)
      (wrong_edges (length c.heads) 0 e (omega arith) (omega (arith, w.numbered)) w)

  -- "A table is accepted if none of the refusals about its own columns (here 1 to 6) applies", and not 21
  pub accepted_exactly : (acceptance c ≡ Ok tt) ↔ RightTable c
  accepted_exactly = (accepted_right, right_accepted)

  -- the first refusal that applies, and its line
  pub refused_exactly : (r : Refusal) → (acceptance c ≡ Err r) ↔ WrongTable c r
  refused_exactly r = (refused_wrong.holds, wrong_refused)

module _ (c : Columns) (a : Entries) where
  refused_lent : Refuses (WrongLent c a) (lent_acceptance c a)
  unfolding lent_acceptance
  refused_lent =
      let n = c.vertices in
      let w = length a.labels.weights in
      let d = length a.labels.depths in
      let e = length a.labels.edges in
      let s = length a.pieces in
      then_refuses (acceptance c) _ (record { holds = λ q. WrongLent.table ((refused_exactly c _).0 q) }) (λ p.
      let t = (accepted_exactly c).0 p in
      test_refuses (eqb w n) _ _ (λ b. WrongLent.answers t (λ g. eqb-false w n b g.labels.weights)) (λ _.
      test_refuses (eqb d n) _ _ (λ b. WrongLent.answers t (λ g. eqb-false d n b g.labels.depths)) (λ _.
      test_refuses (eqb e n) _ _ (λ b. WrongLent.answers t (λ g. eqb-false e n b g.labels.edges)) (λ _.
      test_refuses (eqb s n) _ _ (λ b. WrongLent.answers t (λ g. eqb-false s n b g.pieces)) (λ _. none_refuses)))))

  lent_refused : {r : Refusal} → WrongLent c a r → lent_acceptance c a ≡ Err r
  unfolding lent_acceptance
  lent_refused (WrongLent.table w) = let q = (refused_exactly c _).1 w in rw q
  lent_refused (WrongLent.answers t n) =
      rw ((accepted_exactly c).1 t)
      (one_fails (eqb (length a.labels.weights) c.vertices) _ _ (λ w.
      one_fails (eqb (length a.labels.depths) c.vertices) _ _ (λ d.
      one_fails (eqb (length a.labels.edges) c.vertices) _ _ (λ e.
      one_fails (eqb (length a.pieces) c.vertices) _ _ (λ s.
      absurd (n (record { labels = record { weights = eqb-true _ _ w; depths = eqb-true _ _ d; edges = eqb-true _ _ e }; pieces = eqb-true _ _ s })))))))

  -- the same with the answer columns
  pub lent_exactly : (lent_acceptance c a ≡ Ok tt) ↔ RightLent c a
  lent_exactly = (
    λ p. let g = columns_accepted c a p in record { table = (accepted_exactly c).0 g.table; sized = g.sized },
    λ g. columns_accept c a ((accepted_exactly c).1 g.table) g.sized,
  )

  pub lent_refused_exactly : (r : Refusal) → (lent_acceptance c a ≡ Err r) ↔ WrongLent c a r
  lent_refused_exactly r = (refused_lent.holds, lent_refused)
