-- The laws by which the columns are filled: a correct text has the lines that are still to come, the columns have room for each, and the room that a line's
-- vertices are lent does not change what is read. Assumes nothing.
use mathlib.Core.Path.{◌≡◌, refl, sym, ◌∙◌, ap, ap₂, subst}
use mathlib.Core.List.{List, [], ◌∷◌, ◌++◌, append-nil}
use mathlib.Core.Bool.{Bool, true, false}
use Prim.Native.Nat.{ℕ, zero, suc, ◌+◌, ◌*◌, ◌-◌, ◌≤◌, ◌<◌, min}
use native.Mathlib.Omega.{arith}
use lib.ListN.{length, get_or, take, drop, set, length-append, length-drop, length-set}
use lib.Seq.{append_snoc, length-take-le}
use lib.Dec.{ltb, eqb}
use borrow.Author.Tests.{lt-ltb, le-ltb, le-leb, lt-leb, eq-eqb, ne_eqb, ltb-true, ltb-false, leb-true}
use Rattle.weights.specs.declared.Measure.{Measure}
use Rattle.weights.specs.declared.Vertex.{Vertex}
use Rattle.weights.specs.declared.Weight.{Weight}
use Rattle.weights.specs.declared.Mark.{Mark}
use Rattle.weights.specs.Choice.{pick}
use Rattle.refusal.specs.declared.Refusal.{Refusal}
use Rattle.refusal.specs.declared.Refusal.TheVariants.{TextRoom}
use Rattle.refusal.specs.declared.Header.{Header}
use Rattle.columns.specs.Acceptance.{most_edges, most_listed, longest_tail}
use Rattle.text.specs.Tables.{Edge, edge, Table, listed_in_all, each_of, heads_of, owns_of, marks_of, spans_from, tails_of}
use Rattle.text.specs.Machine.{with_edge, may_list, Parse, Whole, Wrong, parse}
use Rattle.text.proofs.Rows.{total_snoc, each_append, spans_append, tails_append, length-each, length_spans, length_tails}
use Rattle.text.proofs.Sound.{never}
use Rattle.columns.specs.Filled.{filled}
use Rattle.columns.proofs.Filled.{filled_none, filled-set, filled_part, length-filled, part_whole, part_back}
use Rattle.cursor.specs.Cursor.{number_at}
use Rattle.reading.specs.declared.Line.{Line}
use Rattle.reading.specs.Lines.{
  Stalk,
  Bears,
  Bare,
  stem_at,
  Listing,
  Ends,
  Breaks,
  list_end,
  on_vertex,
  on_listed,
  listed_from,
  Row,
  Holds,
  Fails,
  on_listing,
  on_stem,
  row_at,
  stored,
  line_of,
  ReadsLine,
  on_row,
  scan_from,
  scan,
  header_of,
  reading_of,
}
use Rattle.reading.proofs.Scanned.{scan_is_parse}
use Rattle.reading.proofs.Scanning.{row_counts, Scanning, scan_full, scan_end, scan_fails, scan-next, scan_next_edges}
use Rattle.readtable.specs.Read.{read_outcome, room_for, read_into, read_table, edges_in, Roomy, Fills}
use Rattle.refusal.specs.Answers.{Reading}
use Rattle.std.specs.Prelude.{Option, Result, Ok, Err, Some, None}

-- a test of a definition, from the fact that a branch gives: `search tests` at a return
pub ruleset tests = (lt-ltb, le-ltb, le-leb, lt-leb, eq-eqb, ne_eqb)

-- More room for a list changes nothing ---------------------------------------------------------------------------------------------------

no_ends : {xs ys : List ℕ} {place next : ℕ} → Breaks xs place ≡ Ends ys next → ⊥
no_ends {xs} {ys} {place} {next} e = let z : ◌≡◌ {A = ℕ} 0 1 = cc in omega arith

module _ (s : List ℕ) (n : ℕ) where
  end_grows : (at : ℕ) (xs ys : List ℕ) (next : ℕ) → list_end s at xs ≡ Ends ys next → xs ≡ ys
  end_grows at xs ys next e = go (eqb (get_or s at 0) 10) e
    where
      go : (c : Bool) → pick c (Ends xs (at + 1)) (Breaks xs at) ≡ Ends ys next → xs ≡ ys
      go true q = cc
      go false q = absurd (no_ends q)

  -- a list that is read to its end begins with what was read before
  grows : (left at : ℕ) (xs ys : List ℕ) (next : ℕ) → listed_from left s n at xs ≡ Ends ys next → length xs ≤ length ys
  unfolding listed_from
  grows zero at xs ys next e = go (eqb (get_or s at 0) 32) e
    where
      go : (c : Bool) → pick c (Breaks xs at) (list_end s at xs) ≡ Ends ys next → length xs ≤ length ys
      go true q = absurd (no_ends q)
      go false q = let z = ap length (end_grows at xs ys next q) in omega arith
  grows (suc left) at xs ys next e = go (eqb (get_or s at 0) 32) e (λ v j q. grows left j (xs ++ v ∷ []) ys next q)
    where
      more : List ℕ → ℕ → Listing
      more us j = listed_from left s n j us

      found : (stop : ℕ) (F : (Option ℕ)) → on_vertex xs stop F more ≡ Ends ys next
          → ((v j : ℕ) → listed_from left s n j (xs ++ v ∷ []) ≡ Ends ys next → length (xs ++ v ∷ []) ≤ length ys) → length xs ≤ length ys
      found j (Some v) q k = let l = k v j q in let m = length-append xs (v ∷ []) in omega arith
      found j None q k = absurd (no_ends q)

      go : (c : Bool) → pick c (on_listed xs (number_at s (at + 1) n) more) (list_end s at xs) ≡ Ends ys next
          → ((v j : ℕ) → listed_from left s n j (xs ++ v ∷ []) ≡ Ends ys next → length (xs ++ v ∷ []) ≤ length ys) → length xs ≤ length ys
      go true q k = let T = number_at s (at + 1) n in found T.stop T.found q k
      go false q k = let z = ap length (end_grows at xs ys next q) in omega arith

  to_end : (left at : ℕ) (xs : List ℕ) → eqb (get_or s at 0) 32 ≡ false → listed_from left s n at xs ≡ list_end s at xs
  unfolding listed_from
  to_end zero at xs e = rw e
  to_end (suc left) at xs e = rw e

  to_vertex : (left at : ℕ) (xs : List ℕ) → eqb (get_or s at 0) 32 ≡ true → listed_from (suc left) s n at xs ≡ on_listed xs (number_at s (at + 1) n) (λ us j. listed_from left s n j us)
  unfolding listed_from
  to_vertex left at xs e = rw e

  to_none : (at : ℕ) (xs : List ℕ) → eqb (get_or s at 0) 32 ≡ true → listed_from zero s n at xs ≡ Breaks xs at
  unfolding listed_from
  to_none at xs e = rw e

  enough : (left left' at : ℕ) (xs ys : List ℕ) (next : ℕ) → listed_from left s n at xs ≡ Ends ys next → length ys ≤ length xs + left' → listed_from left' s n at xs ≡ Ends ys next
  enough zero left' at xs ys next e l = go (eqb (get_or s at 0) 32) refl
    where
      go : (c : Bool) → eqb (get_or s at 0) 32 ≡ c → listed_from left' s n at xs ≡ Ends ys next
      go true q = absurd (no_ends (sym (to_none at xs q) ∙ e))
      go false q = to_end left' at xs q ∙ sym (to_end zero at xs q) ∙ e
  enough (suc left) zero at xs ys next e l = go (eqb (get_or s at 0) 32) refl
    where
      found : (stop : ℕ) (F : (Option ℕ)) → on_vertex xs stop F (λ us j. listed_from left s n j us) ≡ Ends ys next → ⊥
      found j (Some v) q = let g = grows left j (xs ++ v ∷ []) ys next q in let m = length-append xs (v ∷ []) in omega arith
      found j None q = no_ends q

      go : (c : Bool) → eqb (get_or s at 0) 32 ≡ c → listed_from zero s n at xs ≡ Ends ys next
      go true q = let T = number_at s (at + 1) n in absurd (found T.stop T.found (sym (to_vertex left at xs q) ∙ e))
      go false q = to_end zero at xs q ∙ sym (to_end (suc left) at xs q) ∙ e
  enough (suc left) (suc left') at xs ys next e l = go (eqb (get_or s at 0) 32) refl (λ v j q. enough left left' j (xs ++ v ∷ []) ys next q (let m = length-append xs (v ∷ []) in omega arith))
    where
      found : (stop : ℕ) (F : (Option ℕ)) → on_vertex xs stop F (λ us j. listed_from left s n j us) ≡ Ends ys next
          → ((v j : ℕ) → listed_from left s n j (xs ++ v ∷ []) ≡ Ends ys next → listed_from left' s n j (xs ++ v ∷ []) ≡ Ends ys next)
          → on_vertex xs stop F (λ us j. listed_from left' s n j us) ≡ Ends ys next
      found j (Some v) q k = k v j q
      found j None q k = q

      go : (c : Bool) → eqb (get_or s at 0) 32 ≡ c
          → ((v j : ℕ) → listed_from left s n j (xs ++ v ∷ []) ≡ Ends ys next → listed_from left' s n j (xs ++ v ∷ []) ≡ Ends ys next)
          → listed_from (suc left') s n at xs ≡ Ends ys next
      go true q k = let T = number_at s (at + 1) n in to_vertex left' at xs q ∙ found T.stop T.found (sym (to_vertex left at xs q) ∙ e) k
      go false q k = to_end (suc left') at xs q ∙ sym (to_end (suc left) at xs q) ∙ e

  no_row : {us : List ℕ} {x : Edge} {place next : ℕ} → Fails us place ≡ Holds x next → ⊥
  no_row {us} {x} {place} {next} e = let z : ◌≡◌ {A = ℕ} 0 1 = cc in omega arith

  pub row_enough : (most most' at : ℕ) (x : Edge) (next : ℕ) → row_at s n most at ≡ Holds x next → length x.tail ≤ most' → row_at s n most' at ≡ Holds x next
  unfolding row_at
  row_enough most most' at x next e l = stemmed (stem_at s n at) e
    where
      listed : (h : Vertex) (o : Weight) (b : Mark) (from : ℕ) (L : Listing) → listed_from most s n from [] ≡ L → on_listing h o b L ≡ Holds x next
          → on_listing h o b (listed_from most' s n from []) ≡ Holds x next
      listed h o b from (Ends xs j) p q =
          let r : edge h.0 o.0 b.0 xs ≡ x = cc in
          let z : length xs ≡ length x.tail = ap (λ (y : Edge). length y.tail) r in
          ap (on_listing h o b) (enough most most' from [] xs j p (omega arith)) ∙ q
      listed h o b from (Breaks xs place) p q = absurd (no_row q)

      stemmed : (S : Stalk) → on_stem s n most S ≡ Holds x next → on_stem s n most' S ≡ Holds x next
      stemmed (Bears h o b from) q = listed h o b from (listed_from most s n from []) refl q
      stemmed (Bare place) q = absurd (no_row q)

-- The lines still to come ------------------------------------------------------------------------------------------------------------------

-- the table at the end has the hyperedges so far, and perhaps more
abbrev Grown : Table → Table → Type 0
Grown t u = (length t.edges ≤ length u.edges) × (listed_in_all t.edges ≤ listed_in_all u.edges)

one_grown : (t : Table) (e : Edge) (u : Table) → Grown (with_edge t e) u → Grown t u
one_grown t e u g =
    let a = g.0 in
    let b = g.1 in
    let l = length-append t.edges (e ∷ []) in
    let m = total_snoc t.edges e in
    (omega arith, omega arith)

same_grown : (t u : Table) → Whole t ≡ Whole u → Grown t u
same_grown t u e =
    let q : t ≡ u = cc in
    let l = ap (λ (w : Table). length w.edges) q in
    let m = ap (λ (w : Table). listed_in_all w.edges) q in
    (omega arith, omega arith)

scan_grows : (s : List ℕ) (left at : ℕ) (t u : Table) → scan_from left s at t ≡ Whole u → Grown t u
unfolding scan_from
scan_grows s zero at t u e = go (ltb at (length s)) e
  where
    go : (c : Bool) → pick c (Wrong (length t.edges + 2)) (Whole t) ≡ Whole u → Grown t u
    go true q = absurd (never q)
    go false q = same_grown t u q
scan_grows s (suc left) at t u e = go (ltb at (length s)) e (λ x next q. scan_grows s left next (with_edge t x) u q)
  where
    row : (R : Row) → on_row t R (λ w next. scan_from left s next w) ≡ Whole u → ((x : Edge) (next : ℕ) → scan_from left s next (with_edge t x) ≡ Whole u → Grown (with_edge t x) u) → Grown t u
    row (Holds x next) q k = one_grown t x u (k x next q)
    row (Fails xs place) q k = absurd (never q)

    go : (c : Bool) → pick c (on_row t (row_at s t.vertices (may_list t) at) (λ w next. scan_from left s next w)) (Whole t) ≡ Whole u
        → ((x : Edge) (next : ℕ) → scan_from left s next (with_edge t x) ≡ Whole u → Grown (with_edge t x) u) → Grown t u
    go true q k = row (row_at s t.vertices (may_list t) at) q k
    go false q k = same_grown t u q

-- at a place of a correct text stands a line, and the columns have room for it
pub record LineHere (s : List ℕ) (n : ℕ) (m : Measure) (at i k : ℕ) (u : Table) (g : Scanning s n m at i k) : Type 0 where
  pub this : Edge
  pub next : ℕ
  pub row : row_at s n (min (most_listed - k) longest_tail) at ≡ Holds this next
  pub short : length this.tail ≤ longest_tail
  pub later : at < next
  pub then : Scanning s n m next (i + 1) (k + length this.tail)
  pub so_far : then.so_far.edges ≡ g.so_far.edges ++ this ∷ []
  pub edges_left : i < length u.edges
  pub listed_left : k + length this.tail ≤ listed_in_all u.edges

module _ (s : List ℕ) (n : ℕ) (m : Measure) (at i k : ℕ) (u : Table) (g : Scanning s n m at i k) (w : scan s ≡ Whole u) (h : at < length s) where
  few : i < most_edges
  few = go (ltb i most_edges) refl
    where
      go : (c : Bool) → ltb i most_edges ≡ c → i < most_edges
      go true q = ltb-true i most_edges q
      go false q = absurd (never (sym (scan_full s n m at i k g h (ltb-false i most_edges q)) ∙ w))

  pub line_here : LineHere s n m at i k u g
  line_here = go (row_at s n (min (most_listed - k) longest_tail) at) refl
    where
      go : (R : Row) → row_at s n (min (most_listed - k) longest_tail) at ≡ R → LineHere s n m at i k u g
      go (Holds x next) q =
          let c = row_counts s n (min (most_listed - k) longest_tail) at x next q in
          let a = c.0 in
          let z = scan-next s n m at i k g h few (Holds x next) q x next refl in
          let d = scan_grows s (most_edges - (i + 1)) next z.so_far u (z.same ∙ w) in
          let l = d.0 in
          let t = d.1 in
          let p = z.counted in
          let r = z.summed in
          record {
            this =
                x;
            next =
                next;
            row =
                q;
            short =
                omega arith;
            later = c.1;
            then = z;
            so_far = scan_next_edges s n m at i k g h few (Holds x next) q x next refl;
            edges_left = omega arith;
            listed_left = omega arith;
          }
      go (Fails xs place) q = absurd (never (sym (scan_fails s n m at i k g h few (Fails xs place) q xs place refl) ∙ w))

-- Columns of one hyperedge more ------------------------------------------------------------------------------------------------------------

module _ (es : List Edge) (e : Edge) (old : List ℕ) (i : ℕ) (c : length es ≡ i) where
  each_more : (f : Edge → ℕ) → i < length old → set (filled (each_of f es) old) i (f e) ≡ filled (each_of f (es ++ e ∷ [])) old
  unfolding each_of
  each_more f l = filled-set (each_of f es) old i (f e) (length-each f es ∙ c) l ∙ ap (λ (z : List ℕ). filled z old) (sym (each_append f es (e ∷ [])))

  spans_more : (k : ℕ) → listed_in_all es ≡ k → 2 * i + 1 < length old → set (set (filled (spans_from 0 es) old) (2 * i) k) (2 * i + 1) (length e.tail) ≡ filled (spans_from 0 (es ++ e ∷ [])) old
  unfolding spans_from
  spans_more k t l =
      let S = spans_from 0 es in
      let a : length S ≡ 2 * i = length_spans 0 es ∙ ap (λ (z : ℕ). 2 * z) c in
      let b : length (S ++ k ∷ []) ≡ 2 * i + 1 = length-append S (k ∷ []) ∙ ap (λ (z : ℕ). z + 1) a in
      let z : k ≡ 0 + listed_in_all es = omega arith in
      ap (λ (r : List ℕ). set r (2 * i + 1) (length e.tail)) (filled-set S old (2 * i) k a (omega arith))
      ∙ filled-set (S ++ k ∷ []) old (2 * i + 1) (length e.tail) b l
      ∙ ap (λ (r : List ℕ). filled r old) (append_snoc S k (length e.tail ∷ []) ∙ ap (λ (j : ℕ). S ++ j ∷ length e.tail ∷ []) z ∙ sym (spans_append 0 es (e ∷ [])))

tails_more : (es : List Edge) (e : Edge) (old : List ℕ) (k : ℕ) → listed_in_all es ≡ k
    → take k (filled (tails_of es) old) ++ filled e.tail (drop k (filled (tails_of es) old)) ≡ filled (tails_of (es ++ e ∷ [])) old
unfolding tails_of
tails_more es e old k t =
    filled_part (tails_of es) e.tail old k (length_tails es ∙ t)
    ∙ ap (λ (z : List ℕ). filled z old) (ap (λ (z : List ℕ). tails_of es ++ z) (sym (append-nil e.tail)) ∙ sym (tails_append es (e ∷ [])))

-- i hyperedges and k vertices are in the columns
pub record Filling (s : List ℕ) (n : ℕ) (h₀ o₀ ms₀ s₀ t₀ h o ms sp t : List ℕ) (at i k : ℕ) : Type 0 where
  pub measure : Measure
  pub scanning : Scanning s n measure at i k
  pub fills : Fills scanning.so_far.edges h₀ o₀ ms₀ s₀ t₀ h o ms sp t
  pub heads_long : length h ≡ length h₀
  pub own_long : length o ≡ length o₀
  pub strikes_long : length ms ≡ length ms₀
  pub spans_long : length sp ≡ length s₀
  pub tails_long : length t ≡ length t₀

pub filling_none : (s : List ℕ) (n : ℕ) (m : Measure) (at : ℕ) (g : Scanning s n m at 0 0) (h o ms sp t : List ℕ) → g.so_far.edges ≡ [] → Filling s n h o ms sp t h o ms sp t at 0 0
unfolding each_of spans_from tails_of
filling_none s n m at g h o ms sp t e = record {
  measure = m;
  scanning = g;
  fills = record {
    heads = none heads_of h refl;
    own = none owns_of o refl;
    strikes = none marks_of ms refl;
    spans = none (spans_from 0) sp refl;
    tails = none tails_of t refl;
  };
  heads_long = refl;
  own_long = refl;
  strikes_long = refl;
  spans_long = refl;
  tails_long = refl;
}
  where
    none : (f : List Edge → List ℕ) (old : List ℕ) → f [] ≡ [] → old ≡ filled (f g.so_far.edges) old
    none f old q = filled_none old ∙ ap (λ (z : List ℕ). filled z old) (sym (ap f e ∙ q))

-- Another line ------------------------------------------------------------------------------------------------------------------------------

module _ (s : List ℕ) (n : ℕ) (h₀ o₀ ms₀ s₀ t₀ h o ms sp t : List ℕ) (at i k : ℕ) (f : Filling s n h₀ o₀ ms₀ s₀ t₀ h o ms sp t at i k)
    (y : Roomy s (length h₀) (length o₀) (length ms₀) (length s₀) (length t₀)) (lt : at < length s) where
  pub here : LineHere s n f.measure at i k y.table f.scanning
  here = line_here s n f.measure at i k y.table f.scanning (scan_is_parse s ∙ y.whole) lt

  pub tails_room : k + length here.this.tail ≤ length t
  tails_room = let a = here.listed_left in let b = y.tails in let c = f.tails_long in omega arith

  pub edge-room : (i < length h) × (i < length o) × (i < length ms) × (2 * i + 1 < length sp)
  edge-room =
      let a = here.edges_left in
      let b = f.heads_long in
      let c = f.own_long in
      let m = f.strikes_long in
      let d = f.spans_long in
      let p = y.heads in
      let q = y.own in
      let z = y.strikes in
      let r = y.spans in
      (omega arith, omega arith, omega arith, omega arith)

  -- what the column lends for the line's vertices
  abbrev lent : List ℕ
  lent = take (length t - k) (drop k t)

  lent_length : length lent ≡ length t - k
  lent_length = ap length (part_whole t k) ∙ length-drop k t

  this_row : row_at s n (min longest_tail (length lent)) at ≡ Holds here.this here.next
  this_row =
      let a = lent_length in
      let b = tails_room in
      let c = here.short in
      row_enough s n (min (most_listed - k) longest_tail) (min longest_tail (length lent)) at here.this here.next here.row (omega arith)

  -- the hyperedge in the columns
  one_filled : Filling s n h₀ o₀ ms₀ s₀ t₀ (set h i here.this.head) (set o i here.this.own) (set ms i here.this.mark)
      (set (set sp (2 * i) k) (2 * i + 1) (length here.this.tail)) (take k t ++ filled here.this.tail (drop k t)) here.next (i + 1)
      (k + length here.this.tail)
  one_filled =
      let e = here.this in
      let es = f.scanning.so_far.edges in
      let c = f.scanning.counted in
      let b = edge-room in
      let hl = f.heads_long in
      let ol = f.own_long in
      let ml = f.strikes_long in
      let sl = f.spans_long in
      let q = sym here.so_far in
      let b0 = b.0 in
      let b1 = b.1 in
      let b2 = b.2 in
      let b3 = b.3 in
      record {
        measure = f.measure;
        scanning = here.then;
        fills = record {
          heads = ap (λ (z : List ℕ). set z i e.head) f.fills.heads ∙ each_more es e h₀ i c (λ x. x.head) (omega arith) ∙ ap (λ (fs : List Edge). filled (heads_of fs) h₀) q;
          own = ap (λ (z : List ℕ). set z i e.own) f.fills.own ∙ each_more es e o₀ i c (λ x. x.own) (omega arith) ∙ ap (λ (fs : List Edge). filled (owns_of fs) o₀) q;
          strikes = ap (λ (z : List ℕ). set z i e.mark) f.fills.strikes ∙ each_more es e ms₀ i c (λ x. x.mark) (omega arith) ∙ ap (λ (fs : List Edge). filled (marks_of fs) ms₀) q;
          spans =
              ap (λ (z : List ℕ). set (set z (2 * i) k) (2 * i + 1) (length e.tail)) f.fills.spans
              ∙ spans_more es e s₀ i c k f.scanning.summed (omega arith) ∙ ap (λ (fs : List Edge). filled (spans_from 0 fs) s₀) q;
          tails = ap (λ (z : List ℕ). take k z ++ filled e.tail (drop k z)) f.fills.tails ∙ tails_more es e t₀ k f.scanning.summed ∙ ap (λ (fs : List Edge). filled (tails_of fs) t₀) q;
        };
        heads_long = length-set h i e.head ∙ f.heads_long;
        own_long = length-set o i e.own ∙ f.own_long;
        strikes_long = length-set ms i e.mark ∙ f.strikes_long;
        spans_long = length-set (set sp (2 * i) k) (2 * i + 1) (length e.tail) ∙ length-set sp (2 * i) k ∙ f.spans_long;
        tails_long = lent_back ∙ f.tails_long;
      }
    where
      lent_back : length (take k t ++ filled here.this.tail (drop k t)) ≡ length t
      lent_back =
          let r = tails_room in
          let a = length-append (take k t) (filled here.this.tail (drop k t)) in
          let b = length-take-le k t (omega arith) in
          let c = length-drop k t in
          let d = length-filled here.this.tail (drop k t) (omega arith) in
          omega arith

  module _ (ln : ℕ) (r : Result Line Refusal) (new : List ℕ) (g : ReadsLine ln at (row_at s n (min longest_tail (length lent)) at) lent r new) where
    this_line : r ≡ line_of ln at (Holds here.this here.next)
    this_line = g.answer ∙ ap (line_of ln at) this_row

    pub never_refused : (x : Refusal) → r ≡ Err x → ⊥
    never_refused x q = no_line (sym q ∙ this_line)
      where
        no_line : Err x ≡ line_of ln at (Holds here.this here.next) → ⊥
        no_line e = let z : ◌≡◌ {A = ℕ} 0 1 = cc in omega arith

    -- the column, with the vertices of the line
    tails_are : take k t ++ (new ++ drop (length t - k) (drop k t)) ≡ take k t ++ filled here.this.tail (drop k t)
    tails_are =
        part_back t new k
        ∙ ap (λ (z : List ℕ). take k t ++ z) (g.room ∙ ap₂ (λ (R : Row) (z : List ℕ). filled (stored R) z) this_row (part_whole t k))

    -- what holds behind the line that was read
    abbrev pub Behind : Result Line Refusal → Type 0
    Behind (Ok y) = (at < y.next) × Filling s n h₀ o₀ ms₀ s₀ t₀ (set h i y.head.0) (set o i y.own.0) (set ms i y.mark.0) (set (set sp (2 * i) k) (2 * i + 1) y.listed)
        (take k t ++ (new ++ drop (length t - k) (drop k t))) y.next (i + 1) (k + y.listed)
    Behind (Err x) = Unit {0}

    pub filling_next : (y : Line) → r ≡ Ok y → Behind (Ok y)
    filling_next y q =
        let e = here.this in
        let x = set (set sp (2 * i) k) (2 * i + 1) (length e.tail) in
        let columned =
        subst (λ (u : List ℕ). Filling s n h₀ o₀ ms₀ s₀ t₀ (set h i e.head) (set o i e.own) (set ms i e.mark) x u here.next (i + 1) (k + length e.tail))
        (sym tails_are) one_filled in
        subst Behind (sym this_line ∙ q) (here.later, columned)

-- as long as text is left, the columns have room for another line
pub record Rooms (s h o ms sp t : List ℕ) (at i k : ℕ) : Type 0 where
  pub heads : at < length s → i < length h
  pub own : at < length s → i < length o
  pub strikes : at < length s → i < length ms
  pub spans : at < length s → 2 * i + 1 < length sp
  pub tails : at < length s → k ≤ length t

pub rooms : {s : List ℕ} {n : ℕ} {h₀ o₀ ms₀ s₀ t₀ h o ms sp t : List ℕ} {at i k : ℕ} → Filling s n h₀ o₀ ms₀ s₀ t₀ h o ms sp t at i k
    → Roomy s (length h₀) (length o₀) (length ms₀) (length s₀) (length t₀) → Rooms s h o ms sp t at i k
rooms {s} {n} {h₀} {o₀} {ms₀} {s₀} {t₀} {h} {o} {ms} {sp} {t} {at} {i} {k} f y = record {
  heads = λ l. (edge-room s n h₀ o₀ ms₀ s₀ t₀ h o ms sp t at i k f y l).0;
  own = λ l. (edge-room s n h₀ o₀ ms₀ s₀ t₀ h o ms sp t at i k f y l).1;
  strikes = λ l. (edge-room s n h₀ o₀ ms₀ s₀ t₀ h o ms sp t at i k f y l).2;
  spans = λ l. (edge-room s n h₀ o₀ ms₀ s₀ t₀ h o ms sp t at i k f y l).3;
  tails = λ l. let r = tails_room s n h₀ o₀ ms₀ s₀ t₀ h o ms sp t at i k f y l in omega arith;
}

-- all lines are in the columns
pub filling_end : (s : List ℕ) (n : ℕ) (h₀ o₀ ms₀ s₀ t₀ h o ms sp t : List ℕ) (at i k : ℕ) → Filling s n h₀ o₀ ms₀ s₀ t₀ h o ms sp t at i k → length s ≤ at
    → Fills (edges_in (parse s)) h₀ o₀ ms₀ s₀ t₀ h o ms sp t
filling_end s n h₀ o₀ ms₀ s₀ t₀ h o ms sp t at i k f l =
    let q : edges_in (Whole f.scanning.so_far) ≡ edges_in (parse s) = ap edges_in (sym (scan_end s n f.measure at i k f.scanning l) ∙ scan_is_parse s) in
    subst (λ (es : List Edge). Fills es h₀ o₀ ms₀ s₀ t₀ h o ms sp t) q f.fills

-- The call ------------------------------------------------------------------------------------------------------------------------------------

no_table : {x : Refusal} {header : Header} → ◌≡◌ {A = Reading} (Err x) (Ok header) → ⊥
no_table {x} {header} e = let z : ◌≡◌ {A = ℕ} 0 1 = cc in omega arith

-- the text is refused by 14
pub read_wrong : (s : List ℕ) (r : Reading) (x : Refusal) (h o ms sp t : List ℕ) → r ≡ reading_of s (parse s) → r ≡ Err x → read_outcome r h o ms sp t ≡ read_table s h o ms sp t
unfolding read_into
read_wrong s r x h o ms sp t e q = go (parse s) e
  where
    go : (P : Parse) → r ≡ reading_of s P → read_outcome r h o ms sp t ≡ read_into s P h o ms sp t
    go (Whole u) p = absurd (no_table (sym q ∙ p))
    go (Wrong l) p = ap (λ (z : Reading). read_outcome z h o ms sp t) p

-- the text is that of a table
pub record Holding (s : List ℕ) (header : Header) : Type 0 where
  pub table : Table
  pub whole : parse s ≡ Whole table
  pub header_is : header ≡ header_of table

pub holding : (s : List ℕ) (r : Reading) (header : Header) → r ≡ reading_of s (parse s) → r ≡ Ok header → Holding s header
holding s r header e q = go (parse s) refl
  where
    go : (P : Parse) → parse s ≡ P → Holding s header
    go (Whole u) p = record { table = u; whole = p; header_is = let z : Ok header ≡ Ok (header_of u) = sym q ∙ e ∙ ap (reading_of s) p in cc }
    go (Wrong l) p = absurd (no_table (sym (e ∙ ap (reading_of s) p) ∙ q))

both : (a b : Bool) → pick a b false ≡ true → (a ≡ true) × (b ≡ true)
both true b e = (refl, e)
both false b e = let z : false ≡ true = e in (z, (cc))

module _ (s : List ℕ) (header : Header) (g : Holding s header) (h o ms sp t : List ℕ) where
  roomed : (b : Bool) → b ≡ room_for header (length h) (length o) (length ms) (length sp) (length t) → room_for (header_of g.table) (length h) (length o) (length ms) (length sp) (length t) ≡ b
  roomed b e = ap (λ (z : Header). room_for z (length h) (length o) (length ms) (length sp) (length t)) (sym g.header_is) ∙ sym e

  -- a column is too short: 15
  pub read_short : false ≡ room_for header (length h) (length o) (length ms) (length sp) (length t) → read_outcome (Err TextRoom) h o ms sp t ≡ read_table s h o ms sp t
  unfolding read_into
  read_short e = rw (g.whole, roomed false e)

  pub read_ready : true ≡ room_for header (length h) (length o) (length ms) (length sp) (length t) → Roomy s (length h) (length o) (length ms) (length sp) (length t)
  unfolding room_for
  read_ready e =
      let a = both _ _ (roomed true e) in
      let b = both _ _ a.1 in
      let c = both _ _ b.1 in
      let d = both _ _ c.1 in
      record {
        table = g.table;
        whole = g.whole;
        heads = leb-true _ _ a.0;
        own = leb-true _ _ b.0;
        strikes = leb-true _ _ c.0;
        spans = leb-true _ _ d.0;
        tails = leb-true _ _ d.1;
      }

  -- the table is in the columns
  pub read_whole : (h' o' ms' sp' t' : List ℕ) → true ≡ room_for header (length h) (length o) (length ms) (length sp) (length t)
      → Fills (edges_in (parse s)) h o ms sp t h' o' ms' sp' t' → (r : Reading) → r ≡ reading_of s (parse s) → read_outcome r h' o' ms' sp' t' ≡ read_table s h o ms sp t
  unfolding read_into
  read_whole h' o' ms' sp' t' e f r q = rw (f.heads, f.own, f.strikes, f.spans, f.tails, q, g.whole, roomed true e)
