-- What the checks before an appending tell, and what of them a refusal comes from. Assumes nothing.
use mathlib.Core.Path.{◌≡◌, refl, sym, ◌∙◌, ap}
use mathlib.Core.Bool.{Bool, true, false}
use mathlib.Core.List.{List}
use Prim.Native.Nat.{ℕ, zero, suc, ◌+◌, ◌-◌, ◌*◌, ◌≤◌, ◌<◌}
use native.Mathlib.Omega.{arith}
use lib.ListN.{length, get_or}
use lib.Dec.{leb}
use borrow.Author.Tests.{ltb-true, leb-true, leb-false, eqb-true, lt-ltb, le-ltb, le-leb, lt-leb, eq-eqb, ne_eqb}
use Rattle.weights.specs.declared.Hyperedge.{Hyperedge}
use Rattle.weights.specs.declared.Measure.{Measure}
use Rattle.refusal.specs.declared.Refusal.{Refusal}
use Rattle.refusal.specs.declared.Refusal.TheVariants.{WrongIndex}
use Rattle.refusal.specs.declared.Counts.{Counts}
use Rattle.columns.specs.Columns.{Entries, Columns, SizedEntries}
use Rattle.columns.specs.Acceptance.{test, and_then, acceptance}
use Rattle.columns.specs.Longer.{NewLine, end_in, longer, in_use_of, RightLine}
use Rattle.columns.proofs.Accepted.{test_passed, both_accepted, below_at, below_all}
use Rattle.uses.specs.Uses.{distinct_in}
use Rattle.settle.specs.Checking.{answers_acceptance}
use Rattle.indextable.specs.Index.{index_of, is_index, index_room, held_acceptance}
use Rattle.append.specs.Appending.{counts_acceptance, new_line_acceptance, sized_acceptance, room_acceptance, append_acceptance, lines_acceptance, columns_acceptance}
use Rattle.append.specs.Growing.{Counted, Storable, Appendable, Growable, Holding}
use Rattle.append.proofs.Lists.{longer-list}
use Rattle.refusal.specs.Answers.{Acceptance}
use Rattle.std.specs.Prelude.{Ok, Err}

-- a test of a definition, from the fact that a branch gives
pub ruleset tests = (lt-ltb, le-ltb, le-leb, lt-leb, eq-eqb, ne_eqb)

-- the end of the spans, by the last of them
pub end_last : (spans : List ℕ) (m : ℕ) → ¬ (m ≡ 0) → end_in spans m ≡ get_or spans (2 * (m - 1)) 0 + get_or spans (2 * (m - 1) + 1) 0
end_last spans zero n = absurd (n refl)
end_last spans (suc m) n = let q : suc m - 1 ≡ m = omega arith in rw q

pub end_none : (spans : List ℕ) (m : ℕ) → m ≡ 0 → end_in spans m ≡ 0
end_none spans m e = ap (end_in spans) e

-- two tests that pass and fail together
pub same_test : (a b x y : ℕ) → (a ≤ b → x ≤ y) → (b < a → y < x) → leb a b ≡ leb x y
same_test a b x y f g = go (leb a b) refl
  where
    go : (t : Bool) → leb a b ≡ t → t ≡ leb x y
    go true p = sym (le-leb x y (f (leb-true a b p)))
    go false p = sym (lt-leb x y (g (leb-false a b p)))

-- what passed
pub counts_passed : (c : Columns) (k : Counts) (size : ℕ) → counts_acceptance c k size ≡ Ok tt → Counted c k size
unfolding counts_acceptance
counts_passed c k size p =
    let t1 = test_passed _ _ _ p in
    let t2 = test_passed _ _ _ t1.1 in
    let t3 = test_passed _ _ _ t2.1 in
    let t4 = test_passed _ _ _ t3.1 in
    let t5 = test_passed _ _ _ t4.1 in
    let t6 = test_passed _ _ _ t5.1 in
    let t7 = test_passed _ _ _ t6.1 in
    let t8 = test_passed _ _ _ t7.1 in
    let t9 = test_passed _ _ _ t8.1 in
    record {
      few = leb-true _ _ t1.0;
      heads = leb-true _ _ t2.0;
      own = leb-true _ _ t3.0;
      strikes = leb-true _ _ t4.0;
      tails = leb-true _ _ t7.0;
      listed = leb-true _ _ t8.0;
      spanned = record { spans = leb-true _ _ t6.0; edges = ltb-true _ _ t5.0; listed = leb-true _ _ t9.0 };
    }

pub line_passed : (n : ℕ) (e : Hyperedge) (l : NewLine) → new_line_acceptance n e l ≡ Ok tt → RightLine n l
unfolding new_line_acceptance
line_passed n e l p =
    let t1 = test_passed _ _ _ p in
    let t2 = test_passed _ _ _ t1.1 in
    let t3 = test_passed _ _ _ t2.1 in
    let t4 = test_passed _ _ _ t3.1 in
    let t5 = test_passed _ _ _ t4.1 in
    record {
      head = ltb-true _ _ t1.0;
      own = leb-true _ _ t2.0;
      mark = leb-true _ _ t3.0;
      short = leb-true _ _ t4.0;
      listed = below_at n l.tail t5.0;
    }

pub sizes_passed : (n : ℕ) (a : Entries) → sized_acceptance n a ≡ Ok tt → SizedEntries n a
unfolding sized_acceptance
sizes_passed n a p =
    let t1 = test_passed _ _ _ p in
    let t2 = test_passed _ _ _ t1.1 in
    let t3 = test_passed _ _ _ t2.1 in
    let t4 = test_passed _ _ _ t3.1 in
    record { labels = record { weights = eqb-true _ _ t1.0; depths = eqb-true _ _ t2.0; edges = eqb-true _ _ t3.0 }; pieces = eqb-true _ _ t4.0 }

pub room_passed : (heads own strikes spans tails : List ℕ) (m size : ℕ) → room_acceptance heads own strikes spans tails m size ≡ Ok tt
    → Storable heads own strikes spans tails m (end_in spans m) size
unfolding room_acceptance
room_passed heads own strikes spans tails m size p =
    let t1 = test_passed _ _ _ p in
    let t2 = test_passed _ _ _ t1.1 in
    let t3 = test_passed _ _ _ t2.1 in
    let t4 = test_passed _ _ _ t3.1 in
    let t5 = test_passed _ _ _ t4.1 in
    record { heads = ltb-true _ _ t1.0; own = ltb-true _ _ t2.0; strikes = ltb-true _ _ t3.0; spans = leb-true _ _ t4.0; tails = leb-true _ _ t5.0 }

module _ (c : Columns) (k : Counts) (l : NewLine) where
  -- refused by the counts, by a line that stands, or else as the new line is
  pub lines_counts : (r : Refusal) → counts_acceptance c k (length l.tail) ≡ Err r → Err r ≡ lines_acceptance c k l
  unfolding lines_acceptance
  lines_counts r p = rw p

  pub lines_table : (r : Refusal) → counts_acceptance c k (length l.tail) ≡ Ok tt → acceptance (in_use_of c k) ≡ Err r → Err r ≡ lines_acceptance c k l
  unfolding lines_acceptance
  lines_table r p q = rw (p, q)

  pub lines_new : {a : Acceptance} → counts_acceptance c k (length l.tail) ≡ Ok tt → acceptance (in_use_of c k) ≡ Ok tt
      → a ≡ new_line_acceptance c.vertices (record { 0 = k.edges }) l → a ≡ lines_acceptance c k l
  unfolding lines_acceptance
  lines_new p q e = rw (p, q) e

  pub lines_passed : lines_acceptance c k l ≡ Ok tt → Counted c k (length l.tail) × ((acceptance (in_use_of c k) ≡ Ok tt) × RightLine c.vertices l)
  unfolding lines_acceptance
  lines_passed p =
      let t = both_accepted (counts_acceptance c k (length l.tail)) _ p in
      let u = both_accepted (acceptance (in_use_of c k)) _ t.1 in
      (counts_passed c k (length l.tail) t.0, (u.0, line_passed c.vertices _ l u.1))

  module _ (a : Entries) where
    abbrev room : Acceptance
    room = room_acceptance c.heads c.own c.strikes c.spans c.tails k.edges (length l.tail)

    pub columns_lines : (r : Refusal) → lines_acceptance c k l ≡ Err r → Err r ≡ columns_acceptance c k a l
    unfolding columns_acceptance
    columns_lines r p = rw p

    pub columns_sizes : (r : Refusal) → lines_acceptance c k l ≡ Ok tt → sized_acceptance c.vertices a ≡ Err r → Err r ≡ columns_acceptance c k a l
    unfolding columns_acceptance
    columns_sizes r p q = rw (p, q)

    pub columns-room : {x : Acceptance} → lines_acceptance c k l ≡ Ok tt → sized_acceptance c.vertices a ≡ Ok tt → x ≡ room → x ≡ columns_acceptance c k a l
    unfolding columns_acceptance
    columns-room p q e = rw (p, q) e

    pub columns_passed : columns_acceptance c k a l ≡ Ok tt → Appendable c k a l
    unfolding columns_acceptance
    columns_passed p =
        let t = both_accepted (lines_acceptance c k l) _ p in
        let u = both_accepted (sized_acceptance c.vertices a) _ t.1 in
        let g = lines_passed t.0 in
        record {
          counted = g.0;
          table = g.1.0;
          line = g.1.1;
          sized = sizes_passed c.vertices a u.0;
          placed = room_passed c.heads c.own c.strikes c.spans c.tails k.edges (length l.tail) u.1;
        }

-- the table in use and the answers, for the checks that follow
pub appendable_holding : {c : Columns} {k : Counts} {a : Entries} {l : NewLine} → Appendable c k a l → Holding (in_use_of c k) a l.tail
appendable_holding {c} {l = l} g =
    record { accepted = record { table = g.table; sized = g.sized }; short = g.line.short; listed = below_all c.vertices l.tail g.line.listed }

-- answers one after the other
flat : (a b d s r e : Acceptance) → and_then (and_then (and_then a (and_then b d)) (and_then s r)) e ≡ and_then a (and_then b (and_then d (and_then s (and_then r e))))
flat (Err x) b d s r e = refl
flat (Ok _) (Err x) d s r e = refl
flat (Ok _) (Ok _) (Err x) s r e = refl
flat (Ok _) (Ok _) (Ok _) (Err x) r e = refl
flat (Ok _) (Ok _) (Ok _) (Ok _) (Err x) e = refl
flat (Ok _) (Ok _) (Ok _) (Ok _) (Ok _) e = refl

held_then : (x : Acceptance) (b : Bool) (r : Refusal) (y : Acceptance) → and_then (and_then x (test b r (Ok tt))) y ≡ and_then x (test b r y)
held_then (Err q) b r y = refl
held_then (Ok _) true r y = refl
held_then (Ok _) false r y = refl

module _ (m : Measure) (c : Columns) (k : Counts) (a : Entries) (index list : List ℕ) (l : NewLine) where
  -- the whole chain: what is behind the first five steps
  abbrev rest : Acceptance
  rest =
      and_then (index_room c.vertices (length (index_of (longer (in_use_of c k) l)).list) index list)
      (test (is_index (in_use_of c k) index list) WrongIndex (answers_acceptance m (in_use_of c k) a))

  chain : and_then (columns_acceptance c k a l) rest ≡ append_acceptance m c k a index list l
  unfolding append_acceptance columns_acceptance lines_acceptance
  chain =
      flat (counts_acceptance c k (length l.tail)) (acceptance (in_use_of c k)) (new_line_acceptance c.vertices (record { 0 = k.edges }) l) (sized_acceptance c.vertices a)
      (room_acceptance c.heads c.own c.strikes c.spans c.tails k.edges (length l.tail)) rest

  pub append-columns : (r : Refusal) → columns_acceptance c k a l ≡ Err r → Err r ≡ append_acceptance m c k a index list l
  append-columns r p = ap (λ (x : Acceptance). and_then x rest) (sym p) ∙ chain

  pub append_held : columns_acceptance c k a l ≡ Ok tt → {r : Acceptance}
      → r ≡ and_then (held_acceptance c.vertices (distinct_in l.tail (length l.tail)) (index_of (in_use_of c k)) index list) (answers_acceptance m (in_use_of c k) a)
      → r ≡ append_acceptance m c k a index list l
  unfolding held_acceptance
  append_held p e =
      let g = columns_passed c k l a p in
      let t = in_use_of c k in
      e
      ∙ held_then (index_room c.vertices (length (index_of t).list + distinct_in l.tail (length l.tail)) index list) (is_index t index list) WrongIndex (answers_acceptance m t a)
      ∙ ap
      (λ (z : ℕ). and_then (index_room c.vertices z index list) (test (is_index (in_use_of c k) index list) WrongIndex (answers_acceptance m (in_use_of c k) a)))
      (sym (longer-list (in_use_of c k) l g.table g.line))
      ∙ ap (λ (x : Acceptance). and_then x rest) (sym p)
      ∙ chain

  -- everything passed
  pub append_passed : append_acceptance m c k a index list l ≡ Ok tt → Growable c k a l index list
  unfolding index_room
  append_passed p =
      let t = both_accepted (columns_acceptance c k a l) rest (chain ∙ p) in
      let u = both_accepted (index_room c.vertices (length (index_of (longer (in_use_of c k) l)).list) index list) _ t.1 in
      let v = test_passed (leb (2 * c.vertices) (length index)) _ _ u.0 in
      let w = test_passed (leb (length (index_of (longer (in_use_of c k) l)).list) (length list)) _ _ v.1 in
      record { appendable = columns_passed c k l a t.0; places = leb-true _ _ v.0; room = leb-true _ _ w.0 }
