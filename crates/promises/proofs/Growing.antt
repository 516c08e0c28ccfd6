-- Appending to a table at the start of the largest columns, with its own index and answers: only the counts and the line itself can refuse it. Assumes nothing.
use mathlib.Core.Path.{◌≡◌, refl, sym, ◌∙◌, ap, ap₂}
use mathlib.Core.Bool.{Bool, true, false}
use mathlib.Core.List.{List}
use Prim.Native.Nat.{ℕ, zero, suc, ◌+◌, ◌*◌, ◌≤◌, ◌<◌}
use native.Mathlib.Omega.{arith}
use lib.ListN.{length, get_or, take, replicate, length-replicate}
use lib.Seq.{get_or-take, length-take-le}
use lib.Dec.{ltb, leb}
use borrow.Author.Tests.{lt-ltb, le-ltb, le-leb, lt-leb, eq-eqb, ltb-true, leb-true}
use Rattle.weights.specs.declared.Hyperedge.{Hyperedge}
use Rattle.weights.specs.declared.Measure.{Measure}
use Rattle.weights.specs.Figures.{greatest, struck_mark}
use Rattle.refusal.specs.declared.Refusal.{Refusal}
use Rattle.refusal.specs.declared.Refusal.TheVariants.{Lengths, Head, Own, Span, Tail}
use Rattle.refusal.specs.declared.Counts.{Counts}
use Rattle.columns.specs.Columns.{Columns}
use Rattle.columns.specs.Acceptance.{most_vertices, most_edges, most_listed, longest_tail, test, all_below, acceptance}
use Rattle.columns.specs.Filled.{filled}
use Rattle.columns.specs.Longer.{NewLine, end_in, end_of, longer, in_use_of, RightLine}
use Rattle.columns.proofs.Accepted.{table_accepted, below_at, below_all}
use Rattle.columns.proofs.Filled.{take-filled, length-filled}
use Rattle.columns.proofs.Longer.{longer-listed, longer_accepted}
use Rattle.columns.proofs.Same.{equal_refl, entries_refl}
use Rattle.settle.specs.Settling.{entries_of}
use Rattle.settle.proofs.Demands.{entries_sized}
use Rattle.uses.proofs.Pairs.{length_pairs}
use Rattle.uses.proofs.Room.{list_fits}
use Rattle.indextable.specs.Index.{index_of, is_index, begin_with, index_room, index_acceptance, index_outcome, table_indexed}
use Rattle.append.specs.Appending.{new_end, counts_acceptance, new_line_acceptance, sized_acceptance, room_acceptance, append_acceptance, new_counts, appended}
use Rattle.append.proofs.Appended.{appended_result}
use Rattle.amend.specs.Amend.{appended_said}
use Rattle.amend.proofs.Printed.{appends}
use Rattle.desk.specs.Appended.{Roomy, WrongLine, AppendTold}
use Rattle.refusal.specs.Answers.{Acceptance}
use Rattle.std.specs.Prelude.{Ok, Err}

-- The line ----------------------------------------------------------------------------------------------------------------------------------------

not-all : (n : ℕ) (xs : List ℕ) → ¬ ((k : ℕ) → k < length xs → get_or xs k 0 < n) → all_below n xs ≡ false
not-all n xs h = go (all_below n xs) refl
  where
    go : (b : Bool) → all_below n xs ≡ b → b ≡ false
    go true e = absurd (h (below_at n xs e))
    go false e = refl

module _ (n : ℕ) (e : Hyperedge) (l : NewLine) (mark : l.mark ≤ struck_mark) where
  line_right : RightLine n l → new_line_acceptance n e l ≡ Ok tt
  unfolding new_line_acceptance
  line_right g =
      rw (
        lt-ltb l.head n g.head,
        le-leb l.own greatest g.own,
        le-leb l.mark struck_mark mark,
        le-leb (length l.tail) longest_tail g.short,
        below_all n l.tail g.listed,
      )

  line_head : ¬ (l.head < n) → new_line_acceptance n e l ≡ Err (Head e)
  unfolding new_line_acceptance
  line_head h = rw (le-ltb l.head n (omega arith))

  line_own : l.head < n → ¬ (l.own ≤ greatest) → new_line_acceptance n e l ≡ Err (Own e)
  unfolding new_line_acceptance
  line_own h o = rw (lt-ltb l.head n h, lt-leb l.own greatest (omega arith))

  line_long : l.head < n → l.own ≤ greatest → ¬ (length l.tail ≤ longest_tail) → new_line_acceptance n e l ≡ Err (Span e)
  unfolding new_line_acceptance
  line_long h o s =
      rw (lt-ltb l.head n h, le-leb l.own greatest o, le-leb l.mark struck_mark mark, lt-leb (length l.tail) longest_tail (omega arith))

  line_unlisted : l.head < n → l.own ≤ greatest → length l.tail ≤ longest_tail → ¬ ((k : ℕ) → k < length l.tail → get_or l.tail k 0 < n)
      → new_line_acceptance n e l ≡ Err (Tail e)
  unfolding new_line_acceptance
  line_unlisted h o s b =
      rw (
        lt-ltb l.head n h,
        le-leb l.own greatest o,
        le-leb l.mark struck_mark mark,
        le-leb (length l.tail) longest_tail s,
        not-all n l.tail b,
      )

-- The index ---------------------------------------------------------------------------------------------------------------------------------------

-- columns of zeros for the largest index
abbrev pub blank_index : List ℕ
blank_index = replicate (2 * most_vertices) 0

abbrev pub blank_list : List ℕ
blank_list = replicate most_listed 0

module _ (t : Columns) (p : acceptance t ≡ Ok tt) where
  abbrev pub pairs_for : List ℕ
  pairs_for = filled (index_of t).pairs blank_index

  abbrev pub list_for : List ℕ
  list_for = filled (index_of t).list blank_list

  few_pairs : length (index_of t).pairs ≤ length blank_index
  few_pairs =
      let n : length (index_of t).pairs ≡ 2 * t.vertices = length_pairs _ _ t.vertices in
      omega (arith, length-replicate {A = ℕ} (2 * most_vertices) 0, (table_accepted t p).few)

  few_uses : length (index_of t).list ≤ length blank_list
  few_uses = omega (arith, length-replicate {A = ℕ} most_listed 0, list_fits t t.vertices p, (table_accepted t p).tails)

  -- the index fits, so it is built
  pub index_fits : table_indexed t blank_index blank_list ≡ index_outcome (index_of t) blank_index blank_list (Ok tt)
  unfolding table_indexed index_acceptance index_room
  index_fits =
      let n : length (index_of t).pairs ≡ 2 * t.vertices = length_pairs _ _ t.vertices in
      rw (p, le-leb (2 * t.vertices) (length blank_index) (omega (arith, few_pairs)), le-leb (length (index_of t).list) (length blank_list) few_uses)

  -- the columns begin with the table's index
  index_held : is_index t pairs_for list_for ≡ true
  unfolding begin_with
  index_held =
      let n : length (index_of t).pairs ≡ 2 * t.vertices = length_pairs _ _ t.vertices in
      rw (
        take-filled (index_of t).pairs blank_index (2 * t.vertices) n,
        take-filled (index_of t).list blank_list (length (index_of t).list) refl,
        equal_refl (index_of t).pairs,
        equal_refl (index_of t).list,
      )

-- The whole ---------------------------------------------------------------------------------------------------------------------------------------

end_start : (spans : List ℕ) (m : ℕ) → end_in (take (2 * m) spans) m ≡ end_in spans m
end_start spans zero = refl
end_start spans (suc e) = ap₂ ◌+◌ (get_or-take (2 * suc e) spans (2 * e) 0 (omega arith)) (get_or-take (2 * suc e) spans (2 * e + 1) 0 (omega arith))

-- columns with room for the largest table
pub record Largest (c : Columns) : Type 0 where
  pub heads : length c.heads ≡ most_edges
  pub own : length c.own ≡ most_edges
  pub strikes : length c.strikes ≡ most_edges
  pub spans : length c.spans ≡ 2 * most_edges
  pub tails : length c.tails ≡ most_listed

module _ (m : Measure) (c : Columns) (k : Counts) (l : NewLine) (p : acceptance (in_use_of c k) ≡ Ok tt) (room : Largest c) (edges : k.edges ≤ most_edges) (listed : k.listed ≤ most_listed)
    (mark : l.mark ≤ struck_mark) where
  abbrev t : Columns
  t = in_use_of c k

  abbrev size : ℕ
  size = length l.tail

  abbrev checks : Acceptance
  checks = append_acceptance m c k (entries_of m t) (pairs_for t p) (list_for t p) l

  lines_held : length t.heads ≡ k.edges
  lines_held = length-take-le k.edges c.heads (omega (arith, room.heads))

  end_held : end_of t ≡ new_end c k
  end_held = ap (end_in t.spans) lines_held ∙ end_start c.spans k.edges

  -- only two tests of the counts can fail
  abbrev counted : (lines parts : Bool) → Acceptance
  counted x y = test x Lengths (test y Lengths (Ok tt))

  counts_are : counts_acceptance c k size ≡ counted (ltb k.edges most_edges) (leb (new_end c k + size) most_listed)
  unfolding counts_acceptance
  counts_are =
      rw (
        le-leb c.vertices most_vertices (table_accepted t p).few,
        le-leb k.edges (length c.heads) (omega (arith, room.heads)),
        le-leb k.edges (length c.own) (omega (arith, room.own)),
        le-leb k.edges (length c.strikes) (omega (arith, room.strikes)),
        le-leb (2 * k.edges) (length c.spans) (omega (arith, room.spans)),
        le-leb k.listed (length c.tails) (omega (arith, room.tails)),
        le-leb k.listed most_listed listed,
      )

  counts_right : Roomy t l → counts_acceptance c k size ≡ Ok tt
  counts_right r =
      counts_are
      ∙ ap₂ counted (lt-ltb k.edges most_edges (omega (arith, r.lines, lines_held))) (le-leb (new_end c k + size) most_listed (omega (arith, r.parts, end_held)))

  counts_full : ¬ Roomy t l → counts_acceptance c k size ≡ Err Lengths
  counts_full n = counts_are ∙ go (ltb k.edges most_edges) (leb (new_end c k + size) most_listed) refl refl
    where
      go : (a b : Bool) → ltb k.edges most_edges ≡ a → leb (new_end c k + size) most_listed ≡ b → counted a b ≡ Err Lengths
      go false b x y = refl
      go true false x y = refl
      go true true x y =
          let i = ltb-true k.edges most_edges x in
          let j = leb-true (new_end c k + size) most_listed y in
          absurd (n (record { lines = omega (arith, lines_held); parts = omega (arith, end_held) }))

  roomy_checks : Roomy t l → RightLine c.vertices l → checks ≡ Ok tt
  unfolding append_acceptance sized_acceptance room_acceptance index_room
  roomy_checks r g =
      let s = entries_sized m t p in
      let q = longer_accepted t l p g (omega (arith, r.lines)) r.parts in
      let f = list_fits (longer t l) c.vertices q in
      let n : length (index_of t).pairs ≡ 2 * t.vertices = length_pairs _ _ t.vertices in
      let i = length-filled (index_of t).pairs blank_index (few_pairs t p) in
      let j = length-filled (index_of t).list blank_list (few_uses t p) in
      let z = length-replicate {A = ℕ} most_listed 0 in
      rw (
        counts_right r,
        p,
        line_right c.vertices (record { 0 = k.edges }) l mark g,
        eq-eqb (length (entries_of m t).labels.weights) c.vertices s.labels.weights,
        eq-eqb (length (entries_of m t).labels.depths) c.vertices s.labels.depths,
        eq-eqb (length (entries_of m t).labels.edges) c.vertices s.labels.edges,
        eq-eqb (length (entries_of m t).pieces) c.vertices s.pieces,
        lt-ltb k.edges (length c.heads) (omega (arith, r.lines, lines_held, room.heads)),
        lt-ltb k.edges (length c.own) (omega (arith, r.lines, lines_held, room.own)),
        lt-ltb k.edges (length c.strikes) (omega (arith, r.lines, lines_held, room.strikes)),
        le-leb (2 * k.edges + 2) (length c.spans) (omega (arith, r.lines, lines_held, room.spans)),
        le-leb (end_in c.spans k.edges + size) (length c.tails) (omega (arith, r.parts, end_held, room.tails)),
        le-leb (2 * c.vertices) (length (pairs_for t p)) (omega (arith, few_pairs t p)),
        le-leb (length (index_of (longer t l)).list) (length (list_for t p)) (omega (arith, f, longer-listed t l p, r.parts)),
        index_held t p,
        entries_refl (entries_of m t),
      )

  by_line : Roomy t l → (r : Refusal) → new_line_acceptance c.vertices (record { 0 = k.edges }) l ≡ Err r → checks ≡ Err r
  unfolding append_acceptance
  by_line g r e = rw (counts_right g, p, e)

  placed : (f : Hyperedge → Refusal) → ◌≡◌ {A = Acceptance} (Err (f (record { 0 = k.edges }))) (Err (f (record { 0 = length t.heads })))
  placed f = ap (λ (e : ℕ). Err (f (record { 0 = e }))) (sym lines_held)

  wrong_checks : {r : Refusal} → WrongLine t l r → checks ≡ Err r
  unfolding append_acceptance
  wrong_checks (WrongLine.full n) = rw (counts_full n)
  wrong_checks (WrongLine.head g h) = by_line g _ (line_head c.vertices _ l mark h) ∙ placed Head
  wrong_checks (WrongLine.own g h o) = by_line g _ (line_own c.vertices _ l mark h o) ∙ placed Own
  wrong_checks (WrongLine.long g h o s) = by_line g _ (line_long c.vertices _ l mark h o s) ∙ placed Span
  wrong_checks (WrongLine.unlisted g h o s b) = by_line g _ (line_unlisted c.vertices _ l mark h o s b) ∙ placed Tail

  grows : checks ≡ Ok tt → (appended m c k (entries_of m t) (pairs_for t p) (list_for t p) l).result ≡ Ok (new_counts c k l)
  unfolding appended
  grows e = rw e

  pub append_told : AppendTold m t l (appended_said m c k (entries_of m t) (pairs_for t p) (list_for t p) l)
  append_told =
      let a = appends m c k (entries_of m t) (pairs_for t p) (list_for t p) l in
      record {
        done = λ r g. a.done (new_counts c k l) (grows (roomy_checks r g));
        turned = λ r w. a.turned r (appended_result m c k (entries_of m t) (pairs_for t p) (list_for t p) l r (wrong_checks w));
      }
