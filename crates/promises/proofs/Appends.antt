-- A line is appended, and refused, exactly where request 2026-01 says. Assumes nothing.
use mathlib.Core.Path.{◌≡◌, refl, sym, ◌∙◌, ap, ap₂, subst}
use mathlib.Core.Bool.{Bool, true, false}
use mathlib.Core.List.{List}
use mathlib.Core.Logic.{◌↔◌}
use Prim.Native.Nat.{ℕ, zero, suc, ◌+◌, ◌*◌, ◌≤◌, ◌<◌}
use native.Mathlib.Omega.{arith}
use lib.ListN.{length, get_or, take}
use lib.Seq.{get_or-take, length-take-le}
use lib.Dec.{ltb, leb, eqb}
use borrow.Author.Tests.{ltb-true, ltb-false, leb-true, leb-false, eqb-true, lt-ltb, le-ltb, le-leb, lt-leb, eq-eqb}
use Rattle.weights.specs.declared.Measure.{Measure}
use Rattle.weights.specs.Figures.{greatest, struck_mark}
use Rattle.weights.proofs.Choice.{apart}
use Rattle.refusal.specs.declared.Refusal.{Refusal}
use Rattle.refusal.specs.declared.Refusal.TheVariants.{TooManyVertices, Lengths, AnswerLength, ColumnRoom}
use Rattle.refusal.specs.declared.Counts.{Counts}
use Rattle.columns.specs.Columns.{Entries, SizedEntries, Columns}
use Rattle.columns.specs.Acceptance.{most_vertices, most_edges, most_listed, longest_tail, test, and_then, all_below, acceptance, lent_acceptance}
use Rattle.columns.specs.Filled.{filled}
use Rattle.columns.specs.Longer.{NewLine, end_in, in_use_of, longer, RightLine}
use Rattle.columns.specs.Owed.{Owed}
use Rattle.columns.specs.Right.{Few, RightTable}
use Rattle.columns.specs.Same.{same_entries}
use Rattle.columns.proofs.Accepted.{refused, test_passed, both_accepted, below_at, below_all, columns_accept}
use Rattle.columns.proofs.Exactly.{accepted_exactly, refused_exactly}
use Rattle.columns.proofs.Refuses.{same_refusal, Refuses, none_refuses, test_refuses, then_refuses}
use Rattle.columns.proofs.Longer.{longer_accepted}
use Rattle.settle.specs.Settling.{entries_of}
use Rattle.settle.proofs.Exactly.{same_exactly, same_fails}
use Rattle.indextable.specs.Index.{index_of, is_index}
use Rattle.indextable.specs.Asked.{IsIndex, IndexFits}
use Rattle.indextable.proofs.Told.{index_exactly}
use Rattle.append.specs.Appending.{new_end, counts_acceptance, new_line_acceptance, sized_acceptance, room_acceptance, append_acceptance, new_counts, over, grown, appended}
use Rattle.append.specs.Asked.{RightCounts, WrongLine, RightRoom, RightAppend, WrongAppend}
use Rattle.promises.proofs.Indexing.{failed, room, room_alone, room_exactly}
use Rattle.refusal.specs.Answers.{Acceptance}
use Rattle.std.specs.Prelude.{Ok, Err}

-- an answer that is accepted exactly if P holds, and refuses by r alone
record Decides (x : Acceptance) (P : Type 0) (r : Refusal) : Type 0 where
  passes : (x ≡ Ok tt) ↔ P
  alone : Refuses (λ s. s ≡ r) x

module _ {x : Acceptance} {P : Type 0} {r : Refusal} (d : Decides x P r) where
  fails : ¬ P → x ≡ Err r
  fails n = failed x r d.alone (λ p. n (d.passes.0 p))

  -- what holds of r where P does not
  short : {W : Refusal → Type 0} → (¬ P → W r) → Refuses W x
  short {W} f = record { holds = λ {s} q. subst W (sym (d.alone.holds q)) (f (λ p. refused (sym q ∙ d.passes.1 p))) }

  recast : {Q : Type 0} → (P → Q) → (Q → P) → Decides x Q r
  recast f g = record { passes = (λ p. f (d.passes.0 p), λ q. d.passes.1 (g q)); alone = d.alone }

end : {r : Refusal} → Decides (Ok tt) (Unit {0}) r
end = record { passes = (λ _. tt, λ _. refl); alone = none_refuses }

-- a test before others that refuse as it does
next : (b : Bool) {a : Acceptance} {P Q : Type 0} {r : Refusal} → (b ≡ true) ↔ P → Decides a Q r → Decides (test b r a) (P × Q) r
next true e d = record { passes = (λ p. (e.0 refl, d.passes.0 p), λ (p, q). d.passes.1 q); alone = d.alone }
next false e d = record { passes = (λ p. absurd (refused p), λ (p, q). apart (e.1 p)); alone = record { holds = λ q. sym (same_refusal q) } }

le : (a b : ℕ) → (leb a b ≡ true) ↔ (a ≤ b)
le a b = (leb-true a b, le-leb a b)

lt : (a b : ℕ) → (ltb a b ≡ true) ↔ (a < b)
lt a b = (ltb-true a b, lt-ltb a b)

eq : (a b : ℕ) → (eqb a b ≡ true) ↔ (a ≡ b)
eq a b = (eqb-true a b, eq-eqb a b)

untrue : (b : Bool) {P : Type 0} → (b ≡ true) ↔ P → ¬ P → b ≡ false
untrue true e n = absurd (n (e.0 refl))
untrue false e n = refl

-- of two answers that refuse alike one does
first : (x y z : Acceptance) {r : Refusal} → Refuses (λ s. s ≡ r) x → Refuses (λ s. s ≡ r) y → (x ≡ Ok tt → ¬ (y ≡ Ok tt)) → and_then x (and_then y z) ≡ Err r
first (Ok _) (Ok _) z u v n = absurd (n refl refl)
first (Ok _) (Err s) z u v n = ap Err (v.holds refl)
first (Err s) y z u v n = ap Err (u.holds refl)

module _ (c : Columns) (k : Counts) (size : ℕ) where
  -- 2
  lengths : Decides
      (test (leb k.edges (length c.heads)) Lengths
      (test (leb k.edges (length c.own)) Lengths
      (test (leb k.edges (length c.strikes)) Lengths
      (test (ltb k.edges most_edges) Lengths
      (test (leb (2 * k.edges) (length c.spans)) Lengths
      (test (leb k.listed (length c.tails)) Lengths
      (test (leb k.listed most_listed) Lengths
      (test (leb (new_end c k + size) most_listed) Lengths
      (Ok tt)))))))))
      (RightCounts c k size) Lengths
  lengths =
      recast
      (next _ (le k.edges (length c.heads))
      (next _ (le k.edges (length c.own))
      (next _ (le k.edges (length c.strikes))
      (next _ (lt k.edges most_edges)
      (next _ (le (2 * k.edges) (length c.spans))
      (next _ (le k.listed (length c.tails))
      (next _ (le k.listed most_listed)
      (next _ (le (new_end c k + size) most_listed)
      end))))))))
      (λ (h, (o, (s, (e, (p, (t, (u, (z, _)))))))). record { heads = h; own = o; strikes = s; spans = p; tails = t; in_use = u; edges = omega arith; listed = z })
      (λ g. (g.heads, (g.own, (g.strikes, (omega (arith, g.edges), (g.spans, (g.tails, (g.in_use, (g.listed, tt)))))))))

  pub counts_right : counts_acceptance c k size ≡ Ok tt → Few c × RightCounts c k size
  unfolding counts_acceptance
  counts_right p = let t = test_passed (leb c.vertices most_vertices) _ _ p in (leb-true _ _ t.0, lengths.passes.0 t.1)

  counts_accepts : Few c → RightCounts c k size → counts_acceptance c k size ≡ Ok tt
  unfolding counts_acceptance
  counts_accepts f g = rw (le-leb c.vertices most_vertices f) (lengths.passes.1 g)

  counts_refuse : {W : Refusal → Type 0} → (¬ Few c → W TooManyVertices) → (Few c → ¬ RightCounts c k size → W Lengths) → Refuses W (counts_acceptance c k size)
  unfolding counts_acceptance
  counts_refuse f g =
      test_refuses (leb c.vertices most_vertices) _ _ (λ b. f (λ h. omega (arith, leb-false c.vertices most_vertices b, h))) (λ b. short lengths (g (leb-true _ _ b)))

  counts-many : ¬ Few c → counts_acceptance c k size ≡ Err TooManyVertices
  unfolding counts_acceptance
  counts-many n = rw (lt-leb c.vertices most_vertices (omega (arith, n)))

  counts_lengths : Few c → ¬ RightCounts c k size → counts_acceptance c k size ≡ Err Lengths
  unfolding counts_acceptance
  counts_lengths f n = rw (le-leb c.vertices most_vertices f) (fails lengths n)

module _ (n e : ℕ) (l : NewLine) where
  abbrev pub line : Acceptance
  line = new_line_acceptance n (record { 0 = e }) l

  below : (all_below n l.tail ≡ true) ↔ ((j : ℕ) → j < length l.tail → get_or l.tail j 0 < n)
  below = (below_at n l.tail, below_all n l.tail)

  pub line_right : line ≡ Ok tt → RightLine n l
  unfolding new_line_acceptance
  line_right p =
      let t1 = test_passed (ltb l.head n) _ _ p in
      let t2 = test_passed (leb l.own greatest) _ _ t1.1 in
      let t3 = test_passed (leb l.mark struck_mark) _ _ t2.1 in
      let t4 = test_passed (leb (length l.tail) longest_tail) _ _ t3.1 in
      let t5 = test_passed (all_below n l.tail) _ _ t4.1 in
      record { head = ltb-true _ _ t1.0; own = leb-true _ _ t2.0; mark = leb-true _ _ t3.0; short = leb-true _ _ t4.0; listed = below.0 t5.0 }

  line_accepts : RightLine n l → line ≡ Ok tt
  unfolding new_line_acceptance
  line_accepts g = rw (lt-ltb _ _ g.head, le-leb _ _ g.own, le-leb _ _ g.mark, le-leb _ _ g.short, below.1 g.listed)

  line_refuse : Refuses (WrongLine n e l) line
  unfolding new_line_acceptance
  line_refuse =
      test_refuses (ltb l.head n) _ _ (λ b. WrongLine.head (λ h. omega (arith, ltb-false l.head n b, h))) (λ b.
      let h = ltb-true l.head n b in
      test_refuses (leb l.own greatest) _ _ (λ b. WrongLine.own h (λ o. omega (arith, leb-false l.own greatest b, o))) (λ b.
      let o = leb-true l.own greatest b in
      test_refuses (leb l.mark struck_mark) _ _ (λ b. WrongLine.mark h o (λ m. omega (arith, leb-false l.mark struck_mark b, m))) (λ b.
      let m = leb-true l.mark struck_mark b in
      test_refuses (leb (length l.tail) longest_tail) _ _ (λ b. WrongLine.span h o m (λ s. omega (arith, leb-false (length l.tail) longest_tail b, s))) (λ b.
      let s = leb-true (length l.tail) longest_tail b in
      test_refuses (all_below n l.tail) _ _ (λ b. WrongLine.tail h o m s (λ t. apart (sym b ∙ below.1 t))) (λ _. none_refuses)))))

  line_refused : {r : Refusal} → WrongLine n e l r → line ≡ Err r
  unfolding new_line_acceptance
  line_refused (WrongLine.head w) = rw (le-ltb l.head n (omega (arith, w)))
  line_refused (WrongLine.own h w) = rw (lt-ltb l.head n h, lt-leb l.own greatest (omega (arith, w)))
  line_refused (WrongLine.mark h o w) = rw (lt-ltb l.head n h, le-leb l.own greatest o, lt-leb l.mark struck_mark (omega (arith, w)))
  line_refused (WrongLine.span h o m w) = rw (lt-ltb l.head n h, le-leb l.own greatest o, le-leb l.mark struck_mark m, lt-leb (length l.tail) longest_tail (omega (arith, w)))
  line_refused (WrongLine.tail h o m s w) = rw (lt-ltb l.head n h, le-leb l.own greatest o, le-leb l.mark struck_mark m, le-leb (length l.tail) longest_tail s, untrue (all_below n l.tail) below w)

-- 7
sized : (n : ℕ) (a : Entries) → Decides (sized_acceptance n a) (SizedEntries n a) AnswerLength
unfolding sized_acceptance
sized n a =
    recast (next _ (eq (length a.labels.weights) n) (next _ (eq (length a.labels.depths) n) (next _ (eq (length a.labels.edges) n) (next _ (eq (length a.pieces) n) end))))
    (λ (w, (d, (e, (p, _)))). record { labels = record { weights = w; depths = d; edges = e }; pieces = p })
    (λ s. (s.labels.weights, (s.labels.depths, (s.labels.edges, (s.pieces, tt)))))

-- the end of the spans in use
end_start : (spans : List ℕ) (m : ℕ) → end_in (take (2 * m) spans) m ≡ end_in spans m
end_start spans zero = refl
end_start spans (suc e) = ap₂ ◌+◌ (get_or-take (2 * suc e) spans (2 * e) 0 (omega arith)) (get_or-take (2 * suc e) spans (2 * e + 1) 0 (omega arith))

-- with a right line the longer table is right
pub longer_right : (c : Columns) (k : Counts) (l : NewLine) → RightCounts c k (length l.tail) → RightTable (in_use_of c k) → RightLine c.vertices l → RightTable (longer (in_use_of c k) l)
longer_right c k l u g h =
    let n = length-take-le k.edges c.heads u.heads in
    let e = ap (end_in (take (2 * k.edges) c.spans)) n ∙ end_start c.spans k.edges in
    (accepted_exactly (longer (in_use_of c k) l)).0
    (longer_accepted (in_use_of c k) l ((accepted_exactly (in_use_of c k)).1 g) h (omega (arith, n, u.edges)) (omega (arith, e, u.listed)))

module _ (m : Measure) (c : Columns) (k : Counts) (a : Entries) (index list : List ℕ) (l : NewLine) where
  abbrev n : ℕ
  n = c.vertices

  abbrev size : ℕ
  size = length l.tail

  -- the table in use, and the longer one
  abbrev t : Columns
  t = in_use_of c k

  abbrev t' : Columns
  t' = longer (in_use_of c k) l

  abbrev places : Acceptance
  places = room_acceptance c.heads c.own c.strikes c.spans c.tails k.edges size

  -- 18, of the table's columns and of the index's
  abbrev Placed : Type 0
  Placed =
      (k.edges < length c.heads)
      × ((k.edges < length c.own) × ((k.edges < length c.strikes) × ((2 * k.edges + 2 ≤ length c.spans) × ((new_end c k + size ≤ length c.tails) × Unit {0}))))

  placed : Decides places Placed ColumnRoom
  unfolding room_acceptance
  placed =
      next _ (lt k.edges (length c.heads))
      (next _ (lt k.edges (length c.own))
      (next _ (lt k.edges (length c.strikes))
      (next _ (le (2 * k.edges + 2) (length c.spans))
      (next _ (le (new_end c k + size) (length c.tails))
      end))))

  indexed : Decides (room t' index list) (IndexFits t' index list) ColumnRoom
  indexed = record { passes = room_exactly t' index list; alone = room_alone t' index list }

  spare : Placed → IndexFits t' index list → RightRoom c k l index list
  spare (h, (o, (s, (p, (z, _))))) f = record { heads = h; own = o; strikes = s; spans = p; tails = z; indexed = f }

  place : RightRoom c k l index list → Placed
  place g = (g.heads, (g.own, (g.strikes, (g.spans, (g.tails, tt)))))

  -- 19 and 8, of columns that are right so far
  index_tests : RightTable t → (is_index t index list ≡ true) ↔ IsIndex t index list
  index_tests g = index_exactly t ((accepted_exactly t).1 g) index list

  lent : RightTable t → SizedEntries n a → lent_acceptance t a ≡ Ok tt
  lent g s = columns_accept t a ((accepted_exactly t).1 g) s

  append_right : append_acceptance m c k a index list l ≡ Ok tt → RightAppend m c k a index list l
  unfolding append_acceptance
  append_right p =
      let p1 = both_accepted (counts_acceptance c k size) _ p in
      let p2 = both_accepted (acceptance t) _ p1.1 in
      let p3 = both_accepted (line n k.edges l) _ p2.1 in
      let p4 = both_accepted (sized_acceptance n a) _ p3.1 in
      let p5 = both_accepted places _ p4.1 in
      let p6 = both_accepted (room t' index list) _ p5.1 in
      let p7 = test_passed (is_index t index list) _ _ p6.1 in
      let p8 = test_passed (same_entries a (entries_of m t)) _ _ p7.1 in
      let g = (accepted_exactly t).0 p2.0 in
      let s = (sized n a).passes.0 p4.0 in
      let q = counts_right c k size p1.0 in
      record {
        few = q.0;
        counts = q.1;
        table = g;
        line = line_right n k.edges l p3.0;
        sized = s;
        room = spare (placed.passes.0 p5.0) (indexed.passes.0 p6.0);
        indexed = (index_tests g).0 p7.0;
        answers = (same_exactly m t a (lent g s)).0 p8.0;
      }

  right_append : RightAppend m c k a index list l → append_acceptance m c k a index list l ≡ Ok tt
  unfolding append_acceptance
  right_append g =
      let p1 = counts_accepts c k size g.few g.counts in
      let p2 = (accepted_exactly t).1 g.table in
      let p3 = line_accepts n k.edges l g.line in
      let p4 = (sized n a).passes.1 g.sized in
      let p5 = placed.passes.1 (place g.room) in
      let p6 = indexed.passes.1 g.room.indexed in
      let p7 = (index_tests g.table).1 g.indexed in
      let p8 = (same_exactly m t a (lent g.table g.sized)).1 g.answers in
      rw (p1, p2, p3, p4, p5, p6, p7, p8)

  append_wrong : Refuses (WrongAppend m c k a index list l) (append_acceptance m c k a index list l)
  unfolding append_acceptance
  append_wrong =
      then_refuses (counts_acceptance c k size) _ (counts_refuse c k size WrongAppend.many WrongAppend.counts) (λ p1.
      let f = (counts_right c k size p1).0 in
      let u = (counts_right c k size p1).1 in
      then_refuses (acceptance t) _ (record { holds = λ q. WrongAppend.table f u ((refused_exactly t _).0 q) }) (λ p2.
      let g = (accepted_exactly t).0 p2 in
      then_refuses (line n k.edges l) _ (record { holds = λ q. WrongAppend.line f u g ((line_refuse n k.edges l).holds q) }) (λ p3.
      let h = line_right n k.edges l p3 in
      then_refuses (sized_acceptance n a) _ (short (sized n a) (WrongAppend.sized f u g h)) (λ p4.
      let s = (sized n a).passes.0 p4 in
      then_refuses places _ (short placed (λ w. WrongAppend.room f u g h s (λ x. w (place x)))) (λ p5.
      then_refuses (room t' index list) _ (short indexed (λ w. WrongAppend.room f u g h s (λ x. w x.indexed))) (λ p6.
      let x = spare (placed.passes.0 p5) (indexed.passes.0 p6) in
      test_refuses (is_index t index list) _ _ (λ b. WrongAppend.index f u g h s x (λ i. apart (sym b ∙ (index_tests g).1 i))) (λ b.
      let i = (index_tests g).0 b in
      test_refuses (same_entries a (entries_of m t)) _ _ (λ b. WrongAppend.answers f u g h s x i ((same_fails m t a (lent g s)).0 b)) (λ _. none_refuses))))))))

  wrong_append : {r : Refusal} → WrongAppend m c k a index list l r → append_acceptance m c k a index list l ≡ Err r
  unfolding append_acceptance
  wrong_append (WrongAppend.many w) = let q = counts-many c k size w in rw q
  wrong_append (WrongAppend.counts f w) = let q = counts_lengths c k size f w in rw q
  wrong_append (WrongAppend.table f u w) = let q = (refused_exactly t _).1 w in rw (counts_accepts c k size f u, q)
  wrong_append (WrongAppend.line f u g w) = let q = line_refused n k.edges l w in rw (counts_accepts c k size f u, (accepted_exactly t).1 g, q)
  wrong_append (WrongAppend.sized f u g h w) =
      let q = fails (sized n a) w in
      rw (counts_accepts c k size f u, (accepted_exactly t).1 g, line_accepts n k.edges l h, q)
  wrong_append (WrongAppend.room f u g h s w) =
      rw (counts_accepts c k size f u, (accepted_exactly t).1 g, line_accepts n k.edges l h, (sized n a).passes.1 s)
      (first places (room t' index list) _ placed.alone indexed.alone (λ p q. w (spare (placed.passes.0 p) (indexed.passes.0 q))))
  wrong_append (WrongAppend.index f u g h s x w) =
      let i = untrue (is_index t index list) (index_tests g) w in
      let y = indexed.passes.1 x.indexed in
      rw (counts_accepts c k size f u, (accepted_exactly t).1 g, line_accepts n k.edges l h, (sized n a).passes.1 s, placed.passes.1 (place x), y, i)
  wrong_append (WrongAppend.answers f u g h s x i w) =
      let y = indexed.passes.1 x.indexed in
      let z = (same_fails m t a (lent g s)).1 w in
      rw (counts_accepts c k size f u, (accepted_exactly t).1 g, line_accepts n k.edges l h, (sized n a).passes.1 s, placed.passes.1 (place x), y, (index_tests g).1 i, z)

  pub append_exactly : (append_acceptance m c k a index list l ≡ Ok tt) ↔ RightAppend m c k a index list l
  append_exactly = (append_right, right_append)

  pub append_refused_exactly : (r : Refusal) → (append_acceptance m c k a index list l ≡ Err r) ↔ WrongAppend m c k a index list l r
  append_refused_exactly r = (append_wrong.holds, wrong_append)

  pub append_owes : let o = appended m c k a index list l in
      Owed {L = Columns × Entries × List ℕ × List ℕ} Err (c, a, index, list) (RightAppend m c k a index list l) (λ _. Ok (new_counts c k l))
      (λ _. (over t' c, entries_of m t', filled (index_of t').pairs index, filled (index_of t').list list)) (WrongAppend m c k a index list l)
      o.result (o.table, o.answers, o.index, o.list)
  unfolding appended
  append_owes = go (append_acceptance m c k a index list l) refl
    where
      go : (x : Acceptance) → append_acceptance m c k a index list l ≡ x → let o = grown m c k a index list l x in
          Owed {L = Columns × Entries × List ℕ × List ℕ} Err (c, a, index, list) (RightAppend m c k a index list l) (λ _. Ok (new_counts c k l))
          (λ _. (over t' c, entries_of m t', filled (index_of t').pairs index, filled (index_of t').list list)) (WrongAppend m c k a index list l)
          o.result (o.table, o.answers, o.index, o.list)
      go (Ok _) p = Owed.accepted (append_exactly.0 p)
      go (Err r) p = Owed.refused ((append_refused_exactly r).0 p)
