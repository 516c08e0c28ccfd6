-- The state of a pass over the lines: the table of the lines passed, and that what is left has the answer of the whole; and what a line that was read
-- tells. Assumes nothing.
use mathlib.Core.Path.{◌≡◌, refl, sym, ◌∙◌, ap, ap₂, subst}
use mathlib.Core.List.{List, [], ◌∷◌, ◌++◌}
use Prim.Native.Nat.{ℕ, zero, suc, ◌+◌, ◌-◌, ◌≤◌, ◌<◌, min}
use native.Mathlib.Omega.{arith}
use lib.ListN.{length, get_or, drop, length-append, length-drop}
use lib.Dec.{ltb, eqb}
use borrow.Author.Tests.{lt-ltb, le-ltb, ltb-false, eqb-true}
use Rattle.weights.specs.declared.Measure.{Measure}
use Rattle.weights.specs.declared.Measure.TheVariants.{Cost, Grade}
use Rattle.weights.specs.declared.Vertex.{Vertex}
use Rattle.weights.specs.declared.Weight.{Weight}
use Rattle.weights.specs.declared.Mark.{Mark}
use Rattle.refusal.specs.declared.Refusal.{Refusal}
use Rattle.columns.specs.Acceptance.{most_vertices, most_edges, most_listed, longest_tail}
use Rattle.text.specs.Tables.{Edge, Table, listed_in_all}
use Rattle.text.specs.Render.{measure_text, first_word}
use Rattle.text.specs.Machine.{Head, First, begun, with_edge, next_line, may_list, Whole, Wrong, begin}
use Rattle.text.proofs.Digits.{pick_by}
use Rattle.text.proofs.Rows.{total_snoc}
use Rattle.cursor.specs.Cursor.{FoundWeight, token, number_at, weight_token, weight_at}
use Rattle.cursor.proofs.Counts.{byte_within, number_counts, weight_counts}
use Rattle.reading.specs.declared.Line.{Line}
use Rattle.reading.specs.Lines.{agreeing, on_named, on_count, Opening, Opens, Unopened, first_line, Stalk, Bears, Bare, refused_at, on_own, on_head, stem_at, Listing, Ends, Breaks, list_end, on_vertex, listed_from, Row, Holds, Fails, on_listing, on_stem, row_at, line_of, on_row, scan_from, on_first, scan}
use Rattle.reading.proofs.Scanned.{Stopped, fate, RowRuns, row_run, row_over, FirstRuns, first_run}
use Rattle.std.specs.Prelude.{Option, Result, Ok, Err, Some, None}

-- Places: the next line begins later, and within the text ------------------------------------------------------------------------------------

module _ (s : List ℕ) where
  abbrev StemCounts : ℕ → Stalk → Type 0
  StemCounts at (Bears h o k next) = (at < next) × (next ≤ length s)
  StemCounts at (Bare place) = Unit {0}

  own_counts : (at h from start stop : ℕ) (F : FoundWeight) → at < from → weight_at s from ≡ weight_token start stop F → StemCounts at (on_own h stop F)
  own_counts at h from start stop (Some (w, k)) l e = let r = weight_counts s from start stop w k e in let a = r.2 in (omega arith, r.3)
  own_counts at h from start stop None l e = tt

  head_counts : (n at start stop : ℕ) (F : (Option ℕ)) → number_at s at n ≡ token start stop F → StemCounts at (on_head s stop F)
  head_counts n at start stop (Some h) e =
      let l = (number_counts s at n start stop h e).1 in
      let W = weight_at s (stop + 1) in
      pick_by (StemCounts at) (eqb (get_or s stop 0) 32) (λ _. own_counts at h (stop + 1) W.start W.stop W.found (omega arith) refl) (λ _. tt)
  head_counts n at start stop None e = tt

  abbrev ListCounts : (at most : ℕ) → Listing → Type 0
  ListCounts at most (Ends xs next) = (length xs ≤ most) × (at < next) × (next ≤ length s)
  ListCounts at most (Breaks xs place) = Unit {0}

  end_counts : (at most : ℕ) (xs : List ℕ) → length xs ≤ most → ListCounts at most (list_end s at xs)
  end_counts at most xs h =
      pick_by (ListCounts at most) (eqb (get_or s at 0) 10) (λ e. let l = byte_within s at 10 (eqb-true _ _ e) (omega arith) in (h, omega arith, omega arith)) (λ e. tt)

  later : (at at' most : ℕ) (L : Listing) → at < at' → ListCounts at' most L → ListCounts at most L
  later at at' most (Ends xs next) h c = let l = c.1 in (c.0, omega arith, c.2)
  later at at' most (Breaks xs place) h c = tt

  vertex_counts : (at n most : ℕ) (xs : List ℕ) (start stop : ℕ) (F : (Option ℕ)) (more : List ℕ → ℕ → Listing) → number_at s (at + 1) n ≡ token start stop F
      → ((v next : ℕ) → ListCounts next most (more (xs ++ v ∷ []) next)) → ListCounts at most (on_vertex xs stop F more)
  vertex_counts at n most xs start stop (Some v) more e k =
      let l = (number_counts s (at + 1) n start stop v e).1 in later at stop most (more (xs ++ v ∷ []) stop) (omega arith) (k v stop)
  vertex_counts at n most xs start stop None more e k = tt

  list_counts : (left n at most : ℕ) (xs : List ℕ) → length xs + left ≡ most → ListCounts at most (listed_from left s n at xs)
  unfolding listed_from
  list_counts zero n at most xs h = pick_by (ListCounts at most) (eqb (get_or s at 0) 32) (λ e. tt) (λ e. end_counts at most xs (omega arith))
  list_counts (suc left) n at most xs h =
      let more : List ℕ → ℕ → Listing = λ ys next. listed_from left s n next ys in
      let T = number_at s (at + 1) n in
      pick_by (ListCounts at most) (eqb (get_or s at 0) 32)
      (λ e. vertex_counts at n most xs T.start T.stop T.found more refl (λ v next. list_counts left n next most (xs ++ v ∷ []) (let l = length-append xs (v ∷ []) in omega arith)))
      (λ e. end_counts at most xs (omega arith))

  abbrev RowCounts : (at most : ℕ) → Row → Type 0
  RowCounts at most (Holds e next) = (length e.tail ≤ most) × (at < next) × (next ≤ length s)
  RowCounts at most (Fails xs place) = Unit {0}

  listing_counts : (at from most : ℕ) (h : Vertex) (o : Weight) (k : Mark) (L : Listing) → at < from → ListCounts from most L → RowCounts at most (on_listing h o k L)
  listing_counts at from most h o k (Ends xs next) l c = let a = c.1 in (c.0, omega arith, c.2)
  listing_counts at from most h o k (Breaks xs place) l c = tt

  stem_row : (n at most : ℕ) (S : Stalk) → StemCounts at S → RowCounts at most (on_stem s n most S)
  stem_row n at most (Bears h o k from) c = listing_counts at from most h o k (listed_from most s n from []) c.0 (list_counts most n from most [] (omega arith))
  stem_row n at most (Bare place) c = tt

  pub stem_counts : (n at : ℕ) (h : Vertex) (o : Weight) (k : Mark) (next : ℕ) → stem_at s n at ≡ Bears h o k next → (at < next) × (next ≤ length s)
  unfolding stem_at
  stem_counts n at h o k next e = let T = number_at s at n in subst (StemCounts at) e (head_counts n at T.start T.stop T.found refl)

  row_count : (n most at : ℕ) → RowCounts at most (row_at s n most at)
  unfolding row_at stem_at
  row_count n most at = let T = number_at s at n in stem_row n at most (stem_at s n at) (head_counts n at T.start T.stop T.found refl)

  pub row_counts : (n most at : ℕ) (e : Edge) (next : ℕ) → row_at s n most at ≡ Holds e next → (length e.tail ≤ most) × (at < next) × (next ≤ length s)
  row_counts n most at e next q = subst (RowCounts at most) q (row_count n most at)

  abbrev FirstCounts : Opening → Type 0
  FirstCounts (Opens n m start) = start ≤ length s
  FirstCounts (Unopened place) = Unit {0}

-- no more bytes agree than stand there
pub agrees_within : (w s : List ℕ) → agreeing w s ≤ length s
unfolding agreeing
agrees_within [] s = omega arith
agrees_within (w ∷ ws) [] = omega arith
agrees_within (w ∷ ws) (b ∷ s) = pick_by (λ (k : ℕ). k ≤ length (b ∷ s)) (eqb b w) (λ e. let l = agrees_within ws s in omega arith) (λ e. omega arith)

module _ (s : List ℕ) where
  word_counts : (n : ℕ) (m : Measure) (stop : ℕ) → stop ≤ length s → FirstCounts s (on_named s n m stop)
  word_counts n m stop h =
      let w = measure_text m in
      let k = agreeing w (drop stop s) in
      let l = agrees_within w (drop stop s) in
      let d = length-drop stop s in
      pick_by (FirstCounts s) (ltb k (length w)) (λ _. tt) (λ f. let g = ltb-false k (length w) f in omega arith)

  count_counts : (stop : ℕ) (F : (Option ℕ)) → FirstCounts s (on_count s stop F)
  count_counts stop (Some n) =
      pick_by (FirstCounts s) (eqb (get_or s stop 0) 10) (λ e. let l = byte_within s stop 10 (eqb-true _ _ e) (omega arith) in omega arith)
      (λ _. pick_by (FirstCounts s) (eqb (get_or s stop 0) 32)
      (λ e. let l = byte_within s stop 32 (eqb-true _ _ e) (omega arith) in
      pick_by (FirstCounts s) (eqb (get_or s (stop + 1) 0) 99) (λ _. word_counts n Cost stop (omega arith)) (λ _. word_counts n Grade stop (omega arith)))
      (λ e. tt))
  count_counts stop None = tt

  first_count : FirstCounts s (first_line s)
  unfolding first_line
  first_count =
      let T = number_at s (length first_word) (most_vertices + 1) in
      pick_by (FirstCounts s) (ltb (agreeing first_word s) (length first_word)) (λ e. tt) (λ e. count_counts T.stop T.found)

  pub first_counts : (n : ℕ) (m : Measure) (start : ℕ) → first_line s ≡ Opens n m start → start ≤ length s
  first_counts n m start e = subst (FirstCounts s) e first_count

-- What a line tells ----------------------------------------------------------------------------------------------------------------------------

pub record Tells (R : Row) (k next : ℕ) : Type 0 where
  pub edge_is : Edge
  pub row : R ≡ Holds edge_is next
  pub count : k ≡ length edge_is.tail

pub tells : (l start : ℕ) (R : Row) (x : Line) → ◌≡◌ {A = Result Line Refusal} (Ok x) (line_of l start R) → Tells R x.listed x.next
tells l start (Holds e j) x q =
    let p : x ≡ record { head = record { 0 = e.head }; own = record { 0 = e.own }; mark = record { 0 = e.mark }; listed = length e.tail; next = j } = cc in
    record { edge_is = e; row = ap (λ (y : Line). Holds e y.next) (sym p); count = ap (λ (y : Line). y.listed) p }
tells l start (Fails xs place) x q = absurd (let z : ◌≡◌ {A = ℕ} 0 1 = cc in omega arith)

pub record Faulty (l start : ℕ) (R : Row) (r : Refusal) : Type 0 where
  pub before : List ℕ
  pub place : ℕ
  pub row : R ≡ Fails before place
  pub refusal : r ≡ refused_at l start place

pub faulty : (l start : ℕ) (R : Row) (r : Refusal) → ◌≡◌ {A = Result Line Refusal} (Err r) (line_of l start R) → Faulty l start R r
faulty l start (Holds e j) r q = absurd (let z : ◌≡◌ {A = ℕ} 0 1 = cc in omega arith)
faulty l start (Fails xs k) r q = record { before = xs; place = k; row = refl; refusal = cc }

-- A pass over the lines ------------------------------------------------------------------------------------------------------------------------

pub record Scanning (s : List ℕ) (n : ℕ) (m : Measure) (at edges listed : ℕ) : Type 0 where
  pub so_far : Table
  pub vertices : so_far.vertices ≡ n
  pub measure : so_far.measure ≡ m
  pub counted : length so_far.edges ≡ edges
  pub summed : listed_in_all so_far.edges ≡ listed
  pub few : edges ≤ most_edges
  pub few_listed : listed ≤ most_listed
  pub within : at ≤ length s
  pub same : scan_from (most_edges - edges) s at so_far ≡ scan s
  pub fated : fate s (First (Head so_far)) at at ≡ fate s begin 0 0

pub scan_unopened : (s : List ℕ) (place : ℕ) → first_line s ≡ Unopened place → scan s ≡ Wrong 1
unfolding scan
scan_unopened s place e = ap (on_first s) e

pub scan-begun : (s : List ℕ) (n : ℕ) (m : Measure) (start : ℕ) → first_line s ≡ Opens n m start → Scanning s n m start 0 0
unfolding scan listed_in_all
scan-begun s n m start e = record {
  so_far = begun n m;
  vertices = refl;
  measure = refl;
  counted = refl;
  summed = refl;
  few = omega arith;
  few_listed = omega arith;
  within = first_counts s n m start e;
  same = sym (ap (on_first s) e);
  fated = sym (subst (FirstRuns s begin 0) e (first_run s));
}

pub scan_begun_edges : (s : List ℕ) (n : ℕ) (m : Measure) (start : ℕ) (e : first_line s ≡ Opens n m start) → (scan-begun s n m start e).so_far.edges ≡ []
unfolding scan-begun
scan_begun_edges s n m start e = refl

module _ (s : List ℕ) (at : ℕ) (t : Table) where
  from_full : (left : ℕ) → left ≡ 0 → at < length s → scan_from left s at t ≡ Wrong (next_line t)
  unfolding scan_from
  from_full left z h = rw (z, lt-ltb at (length s) h)

  from_row : (left : ℕ) → 0 < left → at < length s → scan_from left s at t ≡ on_row t (row_at s t.vertices (may_list t) at) (λ u next. scan_from (left - 1) s next u)
  unfolding scan_from
  from_row zero l h = absurd (omega arith)
  from_row (suc left) l h =
      let z : suc left - 1 ≡ left = omega arith in
      rw (lt-ltb at (length s) h) (ap (λ (k : ℕ). on_row t (row_at s t.vertices (may_list t) at) (λ u next. scan_from k s next u)) (sym z))

  from_end : (left : ℕ) → length s ≤ at → scan_from left s at t ≡ Whole t
  unfolding scan_from
  from_end zero h = rw (le-ltb at (length s) h)
  from_end (suc left) h = rw (le-ltb at (length s) h)

module _ (s : List ℕ) (n : ℕ) (m : Measure) (at edges listed : ℕ) (g : Scanning s n m at edges listed) where
  line_is : next_line g.so_far ≡ edges + 2
  line_is = ap (λ (k : ℕ). k + 2) g.counted

  pub scan_full : at < length s → most_edges ≤ edges → scan s ≡ Wrong (edges + 2)
  scan_full h l = sym g.same ∙ from_full s at g.so_far (most_edges - edges) (omega arith) h ∙ ap Wrong line_is

  -- the first byte of a line too many fails
  pub full_fate : at < length s → most_edges ≤ edges → fate s begin 0 0 ≡ Stopped (edges + 2) at at
  full_fate h l = let c = g.counted in sym g.fated ∙ row_over s g.so_far at h (omega arith) ∙ ap (λ (k : ℕ). Stopped k at at) line_is

  pub scan_end : length s ≤ at → scan s ≡ Whole g.so_far
  scan_end h = sym g.same ∙ from_end s at g.so_far (most_edges - edges) h

  -- the line at the place, of as many parts as it may list
  this_row : row_at s g.so_far.vertices (may_list g.so_far) at ≡ row_at s n (min (most_listed - listed) longest_tail) at
  this_row = ap₂ (λ (a b : ℕ). row_at s a (min (most_listed - b) longest_tail) at) g.vertices g.summed

  module _ (h : at < length s) (l : edges < most_edges) (R : Row) (e : row_at s n (min (most_listed - listed) longest_tail) at ≡ R) where
    by_row : scan s ≡ on_row g.so_far R (λ u next. scan_from (most_edges - edges - 1) s next u)
    by_row = sym g.same ∙ from_row s at g.so_far (most_edges - edges) (omega arith) h ∙ ap (λ (Q : Row). on_row g.so_far Q (λ u next. scan_from (most_edges - edges - 1) s next u)) (this_row ∙ e)

    pub scan_fails : (xs : List ℕ) (place : ℕ) → R ≡ Fails xs place → scan s ≡ Wrong (edges + 2)
    scan_fails xs place q = by_row ∙ ap (λ (Q : Row). on_row g.so_far Q (λ u next. scan_from (most_edges - edges - 1) s next u)) q ∙ ap Wrong line_is

    -- what the line is read to be, byte by byte
    row_fate : RowRuns s g.so_far at (First (Head g.so_far)) at R
    row_fate = let c = g.counted in subst (RowRuns s g.so_far at (First (Head g.so_far)) at) (this_row ∙ e) (row_run s g.so_far at h (omega arith))

    pub fails_fate : (xs : List ℕ) (place : ℕ) → R ≡ Fails xs place → fate s begin 0 0 ≡ Stopped (edges + 2) place at
    fails_fate xs place q =
        sym g.fated ∙ subst (RowRuns s g.so_far at (First (Head g.so_far)) at) q row_fate ∙ ap (λ (k : ℕ). Stopped k place at) line_is

    pub scan-next : (x : Edge) (next : ℕ) → R ≡ Holds x next → Scanning s n m next (edges + 1) (listed + length x.tail)
    scan-next x next q =
        let c = row_counts s n (min (most_listed - listed) longest_tail) at x next (e ∙ q) in
        let b = c.0 in
        let f = g.few_listed in
        let z : most_edges - edges - 1 ≡ most_edges - (edges + 1) = omega arith in
        record {
          so_far = with_edge g.so_far x;
          vertices = g.vertices;
          measure = g.measure;
          counted = length-append g.so_far.edges (x ∷ []) ∙ ap (λ (k : ℕ). k + 1) g.counted;
          summed = total_snoc g.so_far.edges x ∙ ap (λ (k : ℕ). k + length x.tail) g.summed;
          few = omega arith;
          few_listed = omega arith;
          within = c.2;
          same = ap (λ (k : ℕ). scan_from k s next (with_edge g.so_far x)) (sym z) ∙ sym (by_row ∙ ap (λ (Q : Row). on_row g.so_far Q (λ u next. scan_from (most_edges - edges - 1) s next u)) q);
          fated = sym (subst (RowRuns s g.so_far at (First (Head g.so_far)) at) q row_fate) ∙ g.fated;
        }

    pub scan_next_edges : (x : Edge) (next : ℕ) (q : R ≡ Holds x next) → (scan-next x next q).so_far.edges ≡ g.so_far.edges ++ x ∷ []
    unfolding scan-next
    scan_next_edges x next q = refl
