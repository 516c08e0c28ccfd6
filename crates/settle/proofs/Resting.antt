-- Whether a line rests, worked out from the line alone; and that the answers of a table stay where a changed line rests. Assumes nothing.
use mathlib.Core.Path.{◌≡◌, refl, sym, ◌∙◌, ap, ap₂, subst}
use mathlib.Core.Bool.{Bool, true, false, not}
use mathlib.Core.Logic.{⊎_elim}
use mathlib.Core.List.{List}
use Prim.Native.Nat.{ℕ, ◌+◌, ◌*◌, ◌-◌, ◌≤◌, ◌<◌}
use native.Mathlib.Omega.{arith}
use native.Mathlib.Decide.{ℕ_discrete}
use lib.ListN.{length}
use lib.Dec.{eqb}
use borrow.Author.Tests.{eqb-false, eq-eqb, ne_eqb}
use Rattle.weights.specs.declared.Measure.{Measure}
use Rattle.weights.specs.declared.Label.{Label}
use Rattle.weights.specs.Figures.{is_struck_mark}
use Rattle.weights.specs.Measures.{algebra}
use Rattle.weights.proofs.Choice.{apart}
use Rattle.weights.proofs.Laws.{lawful}
use Rattle.weights.proofs.Lists.{true-or-false}
use Rattle.columns.specs.Acceptance.{most_vertices, acceptance}
use Rattle.columns.specs.Columns.{Answers, Entries, Columns, cell, head_at, own_at, part, tail_of, tail_at}
use Rattle.columns.specs.Filled.{filled}
use Rattle.columns.specs.Lent.{Legible, EdgeIn, Turning}
use Rattle.columns.specs.Same.{same_entries}
use Rattle.columns.proofs.Accepted.{AcceptedColumns, part_at, part_length, table_accepted}
use Rattle.columns.proofs.Same.{entries_true}
use Rattle.columns.proofs.Usable.{edge_in, same_table, turning_columns}
use Rattle.provenance.specs.BestFirst.{labels, offer}
use Rattle.provenance.specs.Labelling.{Made, weight_in, depth_in, offer_of, Fixpoint}
use Rattle.provenance.specs.Local.{every, keeps_up, vertex_right, edge_right}
use Rattle.provenance.specs.Values.{keeps_up_at}
use Rattle.provenance.proofs.Local.{every_at, every_same, all_right_lem, vertex_fails, edge_fails}
use Rattle.tables.specs.Table.{hypergraph}
use Rattle.tables.proofs.Formed.{well_formed}
use Rattle.offers.specs.Values.{value_at, height_at, values_of, heights_of, Valued, Valuable}
use Rattle.offers.proofs.Values.{height_within, valued}
use Rattle.settle.specs.Settling.{answers_of, entries_of}
use Rattle.settle.specs.Resting.{rests, with_lines, OnlyAt}
use Rattle.settle.proofs.Comparing.{own_most, edge_told}
use Rattle.settle.proofs.Demands.{answers_fixpoint, answers_sized, entries_mean}
use Rattle.settle.proofs.Settled.{answers-counted, entered}
use Rattle.std.specs.Prelude.{Ok}

-- the line that its head's label names does not rest
pub rests-not : (m : Measure) (c : Columns) (a : Answers) (e : ℕ) → cell a.edges (head_at c e) ≡ e → false ≡ rests m c a e
unfolding rests
rests-not m c a e p = rw (eq-eqb _ _ p)

-- a table of one line ---------------------------------------------------------------------------------------------------------------------------------

-- place e of a column alone, and the span of line e alone
abbrev pub alone : List ℕ → ℕ → List ℕ
alone xs e = part e (e + 1 - e) xs

abbrev pub span_alone : List ℕ → ℕ → List ℕ
span_alone ss e = part (2 * e) (2 * e + 2 - 2 * e) ss

module _ (xs : List ℕ) (e : ℕ) where
  -- what they hold, and how long they are
  alone_at : cell (alone xs e) 0 ≡ cell xs e
  alone_at = let z : e + 0 ≡ e = omega arith in part_at e (e + 1 - e) xs 0 (omega arith) ∙ ap (cell xs) z

  alone_long : e < length xs → length (alone xs e) ≡ 1
  alone_long h = omega (arith, part_length e (e + 1 - e) xs (omega arith))

  from_at : cell (span_alone xs e) 0 ≡ cell xs (2 * e)
  from_at = let z : 2 * e + 0 ≡ 2 * e = omega arith in part_at (2 * e) (2 * e + 2 - 2 * e) xs 0 (omega arith) ∙ ap (cell xs) z

  size_at : cell (span_alone xs e) 1 ≡ cell xs (2 * e + 1)
  size_at = part_at (2 * e) (2 * e + 2 - 2 * e) xs 1 (omega arith)

  span_long : 2 * e + 1 < length xs → length (span_alone xs e) ≡ 2
  span_long h = omega (arith, part_length (2 * e) (2 * e + 2 - 2 * e) xs (omega arith))

  -- it lists what line e lists
  tail_alone : (ts : List ℕ) → tail_of (span_alone xs e) ts 0 ≡ tail_of xs ts e
  tail_alone ts = ap₂ (λ (o k : ℕ). part o k ts) from_at size_at

module _ (os ms ss ts ws ds : List ℕ) (e : ℕ) where
  -- it can be read as line e can
  edge_alone : EdgeIn e os ms ss ts ws ds → EdgeIn 0 (alone os e) (alone ms e) (span_alone ss e) ts ws ds
  edge_alone g =
      let p = g.placed in
      record {
        own = omega (arith, alone_long os e g.own);
        mark = omega (arith, alone_long ms e g.mark);
        placed = record { span = omega (arith, span_long ss e p.span); short = omega (arith, size_at ss e, p.short); within = omega (arith, from_at ss e, size_at ss e, p.within) };
        legible = subst (λ (t : List ℕ). Legible t ws ds) (sym (tail_alone ss e ts)) g.legible;
      }

  module _ (m : Measure) where
    -- its value and its height are those of line e
    value_alone : value_at m (alone os e) (alone ms e) (span_alone ss e) ts ws ds 0 ≡ value_at m os ms ss ts ws ds e
    unfolding value_at
    value_alone = rw (alone_at ms e, alone_at os e, tail_alone ss e ts)

    height_alone : height_at m (alone os e) (alone ms e) (span_alone ss e) ts ws ds 0 ≡ height_at m os ms ss ts ws ds e
    unfolding height_at
    height_alone = rw (alone_at ms e, tail_alone ss e ts)

module _ {c : Columns} {a : Answers} (t : Turning c a) (e : ℕ) (h : e < length c.heads) where
  g : EdgeIn e c.own c.strikes c.spans c.tails a.weights a.depths
  g = edge_in t.usable e h

  -- what filling two places asks
  pub valuable_alone : {vs hs : List ℕ} → 1 ≤ length vs → 1 ≤ length hs
      → Valuable (alone c.own e) (alone c.strikes e) (span_alone c.spans e) c.tails a.weights a.depths vs hs
  valuable_alone p q =
      let l = alone_long c.own e g.own in
      record {
        each = λ k i.
            let z : 0 ≡ k = omega arith in
            subst (λ (x : ℕ). EdgeIn x (alone c.own e) (alone c.strikes e) (span_alone c.spans e) c.tails a.weights a.depths) z
            (edge_alone c.own c.strikes c.spans c.tails a.weights a.depths e g);
        figures = λ k i.
            let z : k ≡ 0 = omega arith in
            omega (arith, ap (cell (alone c.own e)) z, alone_at c.own e, own_most t e h);
        few = omega (arith, t.usable.level, t.usable.vertices, (table_accepted c t.usable.accepted).few);
        values = omega arith;
        heights = omega arith;
      }

  -- what the two places hold then
  module _
      (m : Measure) (vs₀ hs₀ : List ℕ) {vs hs : List ℕ}
      (f : (vs ≡ filled (values_of m (alone c.own e) (alone c.strikes e) (span_alone c.spans e) c.tails a.weights a.depths (length (alone c.own e))) vs₀)
      × (hs ≡ filled (heights_of m (alone c.own e) (alone c.strikes e) (span_alone c.spans e) c.tails a.weights a.depths (length (alone c.own e))) hs₀)) where
    d : Valued m (alone c.own e) (alone c.strikes e) (span_alone c.spans e) c.tails a.weights a.depths vs hs
    d = valued m (alone c.own e) (alone c.strikes e) (span_alone c.spans e) c.tails a.weights a.depths vs₀ hs₀ f.0 f.1

    value_told : cell vs 0 ≡ value_at m c.own c.strikes c.spans c.tails a.weights a.depths e
    value_told = d.value 0 (omega (arith, alone_long c.own e g.own)) ∙ value_alone c.own c.strikes c.spans c.tails a.weights a.depths e m

    height_told : cell hs 0 ≡ height_at m c.own c.strikes c.spans c.tails a.weights a.depths e
    height_told = d.height 0 (omega (arith, alone_long c.own e g.own)) ∙ height_alone c.own c.strikes c.spans c.tails a.weights a.depths e m

    -- the height is small
    pub height_low : cell hs 0 ≤ most_vertices + 1
    unfolding height_at
    height_low = omega (arith, height_told, height_within (cell a.depths) most_vertices t.usable.shallow ((hypergraph c).live e) ((hypergraph c).tail e))

    -- a line that the head's label does not name rests as they tell
    pub rests_told : ¬ (cell a.edges (head_at c e) ≡ e) → keeps_up_at (algebra m) (labels a (head_at c e)) (cell vs 0) (cell hs 0) e ≡ rests m c a e
    unfolding rests
    rests_told n = rw (ne_eqb _ _ n) (edge_told m c a e value_told height_told)

-- a changed line --------------------------------------------------------------------------------------------------------------------------------------

module _ (m : Measure) (c : Columns) (e : ℕ) (own strikes : List ℕ) (o : OnlyAt c e own strikes) (p : acceptance c ≡ Ok tt) where
  abbrev c' : Columns
  c' = with_lines c own strikes

  abbrev ls : ℕ → Label
  ls = labels (answers_of m c)

  -- the tests of the table as it was, and as it is now
  abbrev vertex_was : ℕ → Bool
  vertex_was = vertex_right (algebra m) (hypergraph c) (own_at c) ls

  abbrev edge_was : ℕ → Bool
  edge_was = edge_right (algebra m) (hypergraph c) (own_at c) ls

  abbrev vertex_is : ℕ → Bool
  vertex_is = vertex_right (algebra m) (hypergraph c') (own_at c') ls

  abbrev edge_is : ℕ → Bool
  edge_is = edge_right (algebra m) (hypergraph c') (own_at c') ls

  fix : Fixpoint (algebra m) (hypergraph c) (own_at c) ls
  fix = answers_fixpoint m c p

  vertices_were : every vertex_was c.vertices ≡ true
  vertices_were =
      ⊎_elim
      (λ q. q)
      (λ q. absurd (vertex_fails (lawful m) (hypergraph c) (own_at c) (answers_of m c) (answers_sized m c p) q fix))
      (true-or-false (every vertex_was c.vertices))

  edges_were : every edge_was (length c.heads) ≡ true
  edges_were =
      ⊎_elim
      (λ q. q)
      (λ q. absurd (edge_fails (lawful m) (hypergraph c) (own_at c) (answers_of m c) (answers_sized m c p) q fix))
      (true-or-false (every edge_was (length c.heads)))

  -- every other line offers what it offered
  offer_kept : (x : ℕ) → ¬ (x ≡ e)
      → offer (algebra m) (hypergraph c') (own_at c') (weight_in ls) (depth_in ls) x ≡ offer (algebra m) (hypergraph c) (own_at c) (weight_in ls) (depth_in ls) x
  offer_kept x n =
      ap₂ (λ (s w : ℕ). offer_of (algebra m) (not (is_struck_mark s)) w (tail_at c x) (weight_in ls) (depth_in ls) x) (o.marks x n) (o.figures x n)

  -- line e rests
  module _ (r : rests m c' (answers_of m c) e ≡ true) where
    not_named : ¬ ((ls (head_at c e)).edge.0 ≡ e)
    not_named q = apart (rests-not m c' (answers_of m c) e q ∙ r)

    edge-rests : edge_is e ≡ true
    unfolding rests
    edge-rests = sym (rw (ne_eqb _ _ not_named)) ∙ r

    -- no label names it
    not_chosen : (v : ℕ) → Made (ls v) → ¬ ((ls v).edge.0 ≡ e)
    not_chosen v k q =
        let h : head_at c e ≡ v = ap (head_at c) (sym q) ∙ (fix.chosen v k).yields in
        not_named (ap (λ (u : ℕ). (ls u).edge.0) h ∙ q)

    -- so each test is as it was
    vertex_kept : (v : ℕ) → v < c.vertices → vertex_is v ≡ vertex_was v
    unfolding vertex_right
    vertex_kept v h = go (eqb (ls v).depth 0) refl
      where
        go : (b : Bool) → eqb (ls v).depth 0 ≡ b → vertex_is v ≡ vertex_was v
        go true q = rw q
        go false q =
            let d : ¬ ((ls v).depth ≡ 0) = eqb-false _ _ q in
            rw (offer_kept (ls v).edge.0 (not_chosen v (record { deep = omega arith })))

    edge_kept : (x : ℕ) → x < length c.heads → edge_is x ≡ edge_was x
    unfolding edge_right
    edge_kept x h = go (ℕ_discrete x e)
      where
        go : Dec (x ≡ e) → edge_is x ≡ edge_was x
        go (yes q) = ap edge_is q ∙ edge-rests ∙ sym (every_at edge_was (length c.heads) edges_were x h)
        go (no n) = ap (keeps_up (algebra m) (ls (head_at c x))) (offer_kept x n)

    -- the labels are those of the table as it is now, and so are the piece counts, which depend on no figure and no mark
    answers_stay : acceptance c' ≡ Ok tt → answers_of m c ≡ answers_of m c'
    unfolding answers_of
    answers_stay p' =
        all_right_lem (lawful m) (hypergraph c') (own_at c') (answers_of m c) (answers_sized m c p) (well_formed c' p')
        (every_same vertex_is vertex_was c.vertices vertex_kept ∙ vertices_were)
        (every_same edge_is edge_was (length c.heads) edge_kept ∙ edges_were)

    pub entries_stay : acceptance c' ≡ Ok tt → entries_of m c ≡ entries_of m c'
    unfolding entries_of
    entries_stay p' = entered m c' p' (answers_stay p') (sym (answers-counted m c p refl))

-- right answers of a table, beside the table with other own figures and strike marks, whose number of parts is told by the answer columns
module _
    (m : Measure) (c : Columns) (a : Entries) (own strikes : List ℕ)
    (h : AcceptedColumns c a) (p' : acceptance (with_lines c own strikes) ≡ Ok tt) (right : same_entries a (entries_of m c) ≡ true) where
  is : a ≡ entries_of m c
  is = entries_true a (entries_of m c) right

  -- what asking whether a line rests asks
  pub rests_asks : Turning (same_table (with_lines c own strikes) (length a.labels.depths)) a.labels
  unfolding entries_of
  rests_asks =
      turning_columns (with_lines c own strikes) a.labels p' h.sized.labels (λ v.
      omega (arith, ap (λ (b : Entries). cell b.labels.depths v) is, (entries_mean m c h.table v).shallow, (table_accepted c h.table).few))

  -- where the one line that differs rests, the answers stay
  pub rests_stay : (e : ℕ) → OnlyAt c e own strikes → rests m (same_table (with_lines c own strikes) (length a.labels.depths)) a.labels e ≡ true
      → a ≡ entries_of m (same_table (with_lines c own strikes) (length a.labels.depths))
  unfolding entries_of
  rests_stay e o =
      subst (λ (n : ℕ). rests m (same_table (with_lines c own strikes) n) a.labels e ≡ true → a ≡ entries_of m (same_table (with_lines c own strikes) n)) (sym h.sized.labels.depths) stay
    where
      stay : rests m (with_lines c own strikes) a.labels e ≡ true → a ≡ entries_of m (with_lines c own strikes)
      stay r = is ∙ entries_stay m c e own strikes o h.table (subst (λ (b : Entries). rests m (with_lines c own strikes) b.labels e ≡ true) is r) p'
