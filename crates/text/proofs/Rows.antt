-- A table's columns and its hyperedges tell the same: columns without gaps give back the hyperedges that they are made of, a table is accepted exactly if
-- its hyperedges are within the limits, and closing the gaps changes neither. Assumes nothing.
use Prim.Native.Nat.{ℕ, zero, suc, ◌+◌, ◌*◌, ◌≤◌, ◌<◌}
use mathlib.Core.Path.{◌≡◌, refl, sym, ◌∙◌, ap, ap₂}
use mathlib.Core.List.{List, [], ◌∷◌, ◌++◌, append_assoc}
use mathlib.Core.Bool.{true}
use native.Mathlib.Nat.{add_assoc}
use native.Mathlib.Omega.{arith}
use lib.ListN.{length, get_or, take, drop, length-append, length-take}
use lib.Seq.{append_snoc, get_or_at, take_at, drop_at}
use borrow.Author.Tests.{lt-ltb, le-leb, eq-eqb}
use Rattle.weights.specs.declared.Measure.{Measure}
use Rattle.columns.specs.Columns.{Columns, head_at, own_at, strike_at, offset_at, length_at, part, tail_at}
use Rattle.columns.specs.Acceptance.{most_edges, most_listed, longest_tail, and_then, all_below, edge_acceptance, edge_at, edges_acceptance, acceptance}
use Rattle.columns.proofs.Accepted.{both_accepted, edge_accepted, table_accepted, below_at}
use Rattle.text.specs.Tables.{Edge, edge, Table, edges_from, edges_of, table_of, listed_in_all, each_of, heads_of, owns_of, marks_of, spans_from, tails_of, columns_of, closed}
use Rattle.text.specs.Rows.{EdgeFits, All, none, one, WithinLimits}
use Rattle.refusal.specs.Answers.{Acceptance}
use Rattle.std.specs.Prelude.{Ok}

pub all_snoc : {P : Edge → Type 0} {es : List Edge} {e : Edge} → All P es → P e → All P (es ++ e ∷ [])
all_snoc none p = one p none
all_snoc (one q r) p = one q (all_snoc r p)

pub below_snoc : (n : ℕ) (vs : List ℕ) (v : ℕ) → all_below n vs ≡ true → v < n → all_below n (vs ++ v ∷ []) ≡ true
unfolding all_below
below_snoc n [] v e h = rw (lt-ltb v n h)
below_snoc n (u ∷ vs) v e h = rw (lt-ltb u n (below_at n (u ∷ vs) e 0 (omega arith))) (below_snoc n vs v (rw (lt-ltb u n (below_at n (u ∷ vs) e 0 (omega arith))) at e) h)

-- Columns of appended hyperedges -----------------------------------------------------------------------------------------------------------

pub total_append : (es fs : List Edge) → listed_in_all (es ++ fs) ≡ listed_in_all es + listed_in_all fs
unfolding listed_in_all
total_append [] fs = omega arith
total_append (e ∷ es) fs = let q = total_append es fs in omega arith

pub total_snoc : (es : List Edge) (e : Edge) → listed_in_all (es ++ e ∷ []) ≡ listed_in_all es + length e.tail
unfolding listed_in_all
total_snoc es e = total_append es (e ∷ []) ∙ omega arith

pub each_append : (f : Edge → ℕ) (es fs : List Edge) → each_of f (es ++ fs) ≡ each_of f es ++ each_of f fs
unfolding each_of
each_append f [] fs = refl
each_append f (e ∷ es) fs = ap (λ (z : List ℕ). f e ∷ z) (each_append f es fs)

pub tails_append : (es fs : List Edge) → tails_of (es ++ fs) ≡ tails_of es ++ tails_of fs
unfolding tails_of
tails_append [] fs = refl
tails_append (e ∷ es) fs = ap (λ (z : List ℕ). e.tail ++ z) (tails_append es fs) ∙ sym (append_assoc e.tail (tails_of es) (tails_of fs))

pub spans_append : (from : ℕ) (es fs : List Edge) → spans_from from (es ++ fs) ≡ spans_from from es ++ spans_from (from + listed_in_all es) fs
unfolding spans_from listed_in_all
spans_append from [] fs = ap (λ (z : ℕ). spans_from z fs) (omega arith)
spans_append from (e ∷ es) fs =
    ap (λ (z : List ℕ). from ∷ length e.tail ∷ z) (spans_append (from + length e.tail) es fs
    ∙ ap (λ (z : ℕ). spans_from (from + length e.tail) es ++ spans_from z fs) (add_assoc from (length e.tail) (listed_in_all es)))

pub length-each : (f : Edge → ℕ) (es : List Edge) → length (each_of f es) ≡ length es
unfolding each_of
length-each f [] = refl
length-each f (e ∷ es) = ap suc (length-each f es)

pub length_heads : (es : List Edge) → length (heads_of es) ≡ length es
length_heads = length-each (λ e. e.head)

pub length_owns : (es : List Edge) → length (owns_of es) ≡ length es
length_owns = length-each (λ e. e.own)

pub length_marks : (es : List Edge) → length (marks_of es) ≡ length es
length_marks = length-each (λ e. e.mark)

pub length_spans : (from : ℕ) (es : List Edge) → length (spans_from from es) ≡ 2 * length es
unfolding spans_from
length_spans from [] = refl
length_spans from (e ∷ es) = let q = length_spans (from + length e.tail) es in omega arith

pub length_tails : (es : List Edge) → length (tails_of es) ≡ listed_in_all es
unfolding tails_of listed_in_all
length_tails [] = refl
length_tails (e ∷ es) = let q = length_tails es in let p = length-append e.tail (tails_of es) in omega arith

-- Hyperedge `length es` of the columns of es, e and fs is e ----------------------------------------------------------------------------------

module _ (n : ℕ) (es : List Edge) (e : Edge) (fs : List Edge) where
  abbrev C : Columns
  C = columns_of n (es ++ e ∷ fs)

  each_there : (f : Edge → ℕ) → get_or (each_of f (es ++ e ∷ fs)) (length es) 0 ≡ f e
  unfolding each_of
  each_there f = rw (each_append f es (e ∷ fs)) (get_or_at (each_of f es) (f e) (each_of f fs) 0 (length es) (length-each f es))

  head_there : head_at C (length es) ≡ e.head
  head_there = each_there (λ x. x.head)

  own_there : own_at C (length es) ≡ e.own
  own_there = each_there (λ x. x.own)

  mark_there : strike_at C (length es) ≡ e.mark
  mark_there = each_there (λ x. x.mark)

  offset_there : offset_at C (length es) ≡ listed_in_all es
  unfolding spans_from
  offset_there =
      rw (spans_append 0 es (e ∷ fs))
      (get_or_at (spans_from 0 es) (0 + listed_in_all es) (length e.tail ∷ spans_from (0 + listed_in_all es + length e.tail) fs) 0 (2 * length es) (length_spans 0 es) ∙ omega arith)

  length_there : length_at C (length es) ≡ length e.tail
  unfolding spans_from
  length_there =
      let k : length (spans_from 0 es ++ (0 + listed_in_all es) ∷ []) ≡ 2 * length es + 1 = length-append (spans_from 0 es) ((0 + listed_in_all es) ∷ []) ∙ ap (λ (z : ℕ). z + 1) (length_spans 0 es) in
      rw (spans_append 0 es (e ∷ fs))
      (ap (λ (z : List ℕ). get_or z (2 * length es + 1) 0) (sym (append_snoc (spans_from 0 es) (0 + listed_in_all es) (length e.tail ∷ spans_from (0 + listed_in_all es + length e.tail) fs)))
      ∙ get_or_at (spans_from 0 es ++ (0 + listed_in_all es) ∷ []) (length e.tail) (spans_from (0 + listed_in_all es + length e.tail) fs) 0 (2 * length es + 1) k)

  part_there : part (listed_in_all es) (length e.tail) C.tails ≡ e.tail
  unfolding tails_of
  part_there =
      rw (tails_append es (e ∷ fs))
      (ap (take (length e.tail)) (drop_at (tails_of es) (e.tail ++ tails_of fs) (listed_in_all es) (length_tails es))
      ∙ take_at e.tail (tails_of fs) (length e.tail) refl)

  tail_there : tail_at C (length es) ≡ e.tail
  tail_there = ap₂ (λ (a b : ℕ). part a b C.tails) offset_there length_there ∙ part_there

  edge_there : edge (head_at C (length es)) (own_at C (length es)) (strike_at C (length es)) (tail_at C (length es)) ≡ e
  edge_there =
      ap₂ (λ (a b : ℕ). edge a b (strike_at C (length es)) (tail_at C (length es))) head_there own_there
      ∙ ap₂ (edge e.head e.own) mark_there tail_there

one_further : (es : List Edge) (e : Edge) → length (es ++ e ∷ []) ≡ length es + 1
one_further es e = length-append es (e ∷ [])

edges_there : (n : ℕ) (es fs : List Edge) → edges_from (columns_of n (es ++ fs)) (length fs) (length es) ≡ fs
unfolding edges_from
edges_there n es [] = refl
edges_there n es (e ∷ fs) =
    ap₂ (λ (a : Edge) (b : List Edge). a ∷ b) (edge_there n es e fs)
    (ap₂ (λ (a : ℕ) (b : List Edge). edges_from (columns_of n b) (length fs) a) (sym (one_further es e)) (sym (append_snoc es e fs)) ∙ edges_there n (es ++ e ∷ []) fs)

pub edges_of-columns : (n : ℕ) (es : List Edge) → edges_of (columns_of n es) ≡ es
edges_of-columns n es = ap (λ (k : ℕ). edges_from (columns_of n es) k 0) (length_heads es) ∙ edges_there n [] es

-- Accepted is within the limits --------------------------------------------------------------------------------------------------------------

edges_fit : (c : Columns) (left e end : ℕ) → edges_acceptance c left e end ≡ Ok tt → All (EdgeFits c.vertices) (edges_from c left e)
unfolding edges_acceptance edges_from
edges_fit c zero e end p = none
edges_fit c (suc left) e end p =
    let t = both_accepted (edge_at c e end) (edges_acceptance c left (e + 1) (offset_at c e + length_at c e)) p in
    let a = edge_accepted _ _ _ _ _ _ _ _ _ t.0 in
    one (record { head = a.head; own = a.own; mark = a.mark; short = short-part a.short; tail = a.listed }) (edges_fit c left (e + 1) (offset_at c e + length_at c e) t.1)
  where
    short-part : length_at c e ≤ longest_tail → length (tail_at c e) ≤ longest_tail
    short-part h = let l = length-take (length_at c e) (drop (offset_at c e) c.tails) in omega arith

-- spans are sorted and within the column, so what they cover is no longer than it
covered : (c : Columns) (left e end : ℕ) → end ≤ length c.tails → edges_acceptance c left e end ≡ Ok tt → end + listed_in_all (edges_from c left e) ≤ length c.tails
unfolding edges_acceptance edges_from listed_in_all
covered c zero e end h p = omega arith
covered c (suc left) e end h p =
    let t = both_accepted (edge_at c e end) (edges_acceptance c left (e + 1) (offset_at c e + length_at c e)) p in
    let a = edge_accepted _ _ _ _ _ _ _ _ _ t.0 in
    let f = a.from in
    let r = covered c left (e + 1) (offset_at c e + length_at c e) a.within t.1 in
    let l = length-take (length_at c e) (drop (offset_at c e) c.tails) in
    omega arith

length_edges : (c : Columns) (left e : ℕ) → length (edges_from c left e) ≡ left
unfolding edges_from
length_edges c zero e = refl
length_edges c (suc left) e = ap suc (length_edges c left (e + 1))

pub accepted_fits : (m : Measure) (c : Columns) → acceptance c ≡ Ok tt → WithinLimits (table_of m c)
accepted_fits m c p =
    let t = table_accepted c p in
    let l = length_edges c (length c.heads) 0 in
    let k = t.edges in
    let j = t.tails in
    let r = covered c (length c.heads) 0 0 (omega arith) t.rest in
    record { vertices = t.few; edges = omega arith; listed = omega arith; each = edges_fit c (length c.heads) 0 0 t.rest }

-- Within the limits is accepted --------------------------------------------------------------------------------------------------------------

module _ (n : ℕ) (es : List Edge) (e : Edge) (fs : List Edge) (f : EdgeFits n e) where
  within_column : listed_in_all es + length e.tail ≤ length (tails_of (es ++ e ∷ fs))
  unfolding listed_in_all
  within_column = let l = length_tails (es ++ e ∷ fs) in let t = total_append es (e ∷ fs) in omega arith

  edge_passes : edge_at (columns_of n (es ++ e ∷ fs)) (length es) (listed_in_all es) ≡ Ok tt
  unfolding edge_acceptance
  edge_passes =
      let from = le-leb (listed_in_all es) (listed_in_all es) (omega arith) in
      rw (head_there n es e fs, own_there n es e fs, mark_there n es e fs, offset_there n es e fs, length_there n es e fs)
      (rw (lt-ltb _ _ f.head, le-leb _ _ f.own, le-leb _ _ f.mark, from, le-leb _ _ f.short, le-leb _ _ within_column, part_there n es e fs, f.tail))

edges_passed : (n : ℕ) (es fs : List Edge) → All (EdgeFits n) fs → edges_acceptance (columns_of n (es ++ fs)) (length fs) (length es) (listed_in_all es) ≡ Ok tt
unfolding edges_acceptance
edges_passed n es [] none = refl
edges_passed n es (e ∷ fs) (one f a) =
    let c = columns_of n (es ++ e ∷ fs) in
    let q : offset_at c (length es) + length_at c (length es) ≡ listed_in_all (es ++ e ∷ []) =
    let o = offset_there n es e fs in let l = length_there n es e fs in let t = total_snoc es e in omega arith in
    ap (λ (z : Acceptance). and_then z (edges_acceptance c (length fs) (length es + 1) (offset_at c (length es) + length_at c (length es)))) (edge_passes n es e fs f)
    ∙ ap₂ (λ (i j : ℕ). edges_acceptance c (length fs) i j) (sym (one_further es e)) q
    ∙ ap (λ (z : List Edge). edges_acceptance (columns_of n z) (length fs) (length (es ++ e ∷ [])) (listed_in_all (es ++ e ∷ []))) (sym (append_snoc es e fs))
    ∙ edges_passed n (es ++ e ∷ []) fs a

pub fits_accepted : (t : Table) → WithinLimits t → acceptance (columns_of t.vertices t.edges) ≡ Ok tt
unfolding acceptance listed_in_all
fits_accepted t f =
    let h = length_heads t.edges in
    let o = length_owns t.edges in
    let i = length_marks t.edges in
    let s = length_spans 0 t.edges in
    let l = length_tails t.edges in
    let k = f.edges in
    let j = f.listed in
    rw (
      le-leb _ _ f.vertices,
      eq-eqb (length (owns_of t.edges)) (length (heads_of t.edges)) (omega arith),
      eq-eqb (length (marks_of t.edges)) (length (heads_of t.edges)) (omega arith),
      le-leb (length (heads_of t.edges)) most_edges (omega arith),
      eq-eqb (length (spans_from 0 t.edges)) (2 * length (heads_of t.edges)) (omega arith),
      le-leb (length (tails_of t.edges)) most_listed (omega arith),
      h,
    )
    (edges_passed t.vertices [] t.edges f.each)

-- the gaps closed: the same hyperedges, and still accepted
pub closed_edges : (c : Columns) → edges_of (closed c) ≡ edges_of c
closed_edges c = edges_of-columns c.vertices (edges_of c)

pub closed_accepted : (m : Measure) (c : Columns) → acceptance c ≡ Ok tt → acceptance (closed c) ≡ Ok tt
closed_accepted m c p = fits_accepted (table_of m c) (accepted_fits m c p)
