-- From columns that hold the lines' values and heights, the tests come out as those of provenance/Local. Assumes nothing.
use mathlib.Core.Path.{◌≡◌, refl, sym, ◌∙◌, ap, ap₂}
use mathlib.Core.Bool.{Bool, true, false}
use mathlib.Core.List.{List}
use Prim.Native.Nat.{ℕ, ◌≤◌, ◌<◌}
use native.Mathlib.Omega.{arith}
use lib.ListN.{length}
use lib.Dec.{ltb, eqb}
use borrow.Author.Tests.{ltb-true, eqb-false}
use Rattle.weights.specs.declared.Measure.{Measure}
use Rattle.weights.specs.Figures.{greatest}
use Rattle.weights.specs.Measures.{algebra}
use Rattle.weights.specs.Choice.{pick}
use Rattle.columns.specs.Columns.{Answers, Columns, cell, head_at, own_at}
use Rattle.columns.specs.Filled.{filled}
use Rattle.columns.specs.Lent.{Turning}
use Rattle.columns.proofs.Accepted.{table_accepted}
use Rattle.columns.proofs.Filled.{length-filled}
use Rattle.columns.proofs.Usable.{head_in, edge_in}
use Rattle.provenance.specs.Labelling.{weight_in, depth_in}
use Rattle.provenance.specs.BestFirst.{labels, offer}
use Rattle.provenance.specs.Local.{every, gives, vertex_right, edge_right}
use Rattle.provenance.specs.Values.{gives_at, keeps_up_at}
use Rattle.provenance.proofs.Local.{every_same}
use Rattle.provenance.proofs.Values.{gives-value, keeps_up-value}
use Rattle.tables.specs.Table.{hypergraph}
use Rattle.offers.specs.Values.{below, value_at, height_at, values_of, heights_of, Valued, Valuable}
use Rattle.offers.proofs.Values.{length-below, valued}
use Rattle.settle.specs.Comparing.{vertex_fits, edge_fits, Comparable, Weighable, all_right}

lines : {c : Columns} {a : Answers} → Turning c a → length c.own ≡ length c.heads
lines {c} t = (table_accepted c t.usable.accepted).own

-- an own weight is in range
pub own_most : {c : Columns} {a : Answers} → Turning c a → (e : ℕ) → e < length c.heads → own_at c e ≤ greatest
own_most {c} t e h = ((table_accepted c t.usable.accepted).each e h).1.own

-- the head of line e has its place in each answer column
pub record HeadIn (heads : List ℕ) (a : Answers) (e : ℕ) : Type 0 where
  pub weights : cell heads e < length a.weights
  pub depths : cell heads e < length a.depths
  pub edges : cell heads e < length a.edges

pub head_inside : {heads vs hs : List ℕ} {a : Answers} → Comparable heads vs hs a → (e : ℕ) → e < length heads → HeadIn heads a e
head_inside p e h =
    let d = p.inside e h in
    record { weights = omega (arith, d, p.weights); depths = d; edges = omega (arith, d, p.edges) }

pub head_within : {c : Columns} {a : Answers} → Turning c a → (e : ℕ) → e < length c.heads → HeadIn c.heads a e
head_within t e h =
    let d = head_in t.usable e h in
    record { weights = omega (arith, d, t.usable.level); depths = d; edges = omega (arith, d, t.edges) }

-- what filling the columns asks
pub valuable : {c : Columns} {a : Answers} {vs hs : List ℕ} → Weighable c a vs hs → Valuable c.own c.strikes c.spans c.tails a.weights a.depths vs hs
valuable w =
    let t = w.turning in
    let n = lines t in
    record {
      each = λ e h. edge_in t.usable e (omega arith);
      figures = λ e h. omega (arith, own_most t e (omega arith));
      few = omega (arith, t.usable.level, t.usable.vertices, (table_accepted _ t.usable.accepted).few);
      values = omega (arith, w.values);
      heights = omega (arith, w.heights);
    }

-- a column that is filled with something of every line has room for every line
room : (f : ℕ → ℕ) (n : ℕ) (old : List ℕ) {new : List ℕ} → n ≤ length old → new ≡ filled (below f n) old → n ≤ length new
room f n old h p = omega (arith, ap length p, length-filled (below f n) old (omega (arith, length-below f n)))

-- a line's value and height tell its test
pub edge_told : (m : Measure) (c : Columns) (a : Answers) (e : ℕ) {x h : ℕ}
    → x ≡ value_at m c.own c.strikes c.spans c.tails a.weights a.depths e → h ≡ height_at m c.own c.strikes c.spans c.tails a.weights a.depths e
    → keeps_up_at (algebra m) (labels a (head_at c e)) x h e ≡ edge_right (algebra m) (hypergraph c) (own_at c) (labels a) e
unfolding edge_right value_at height_at
edge_told m c a e p q =
    ap₂ (λ (x y : ℕ). keeps_up_at (algebra m) (labels a (head_at c e)) x y e) p q
    ∙ keeps_up-value (algebra m) ((hypergraph c).live e) (own_at c e) ((hypergraph c).tail e) (cell a.weights) (cell a.depths) e (labels a (head_at c e))

module _
    (m : Measure) {c : Columns} {a : Answers} {vs₀ hs₀ vs hs : List ℕ} (w : Weighable c a vs₀ hs₀)
    (f : (vs ≡ filled (values_of m c.own c.strikes c.spans c.tails a.weights a.depths (length c.own)) vs₀)
    × (hs ≡ filled (heights_of m c.own c.strikes c.spans c.tails a.weights a.depths (length c.own)) hs₀)) where
  t : Turning c a
  t = w.turning

  d : Valued m c.own c.strikes c.spans c.tails a.weights a.depths vs hs
  d = valued m c.own c.strikes c.spans c.tails a.weights a.depths vs₀ hs₀ f.0 f.1

  -- what comparing from the filled columns asks
  pub comparable : Comparable c.heads vs hs a
  comparable =
      let n = lines t in
      let v = room (value_at m c.own c.strikes c.spans c.tails a.weights a.depths) (length c.own) vs₀ (omega (arith, w.values)) f.0 in
      let h = room (height_at m c.own c.strikes c.spans c.tails a.weights a.depths) (length c.own) hs₀ (omega (arith, w.heights)) f.1 in
      record { inside = λ e k. head_in t.usable e k; weights = t.usable.level; edges = t.edges; values = omega arith; heights = omega arith }

  gives_at_lem : (e w n : ℕ) → e < length c.heads → ¬ (n ≡ 0)
      → gives_at (cell vs e) (cell hs e) w n ≡ gives (offer (algebra m) (hypergraph c) (own_at c) (weight_in (labels a)) (depth_in (labels a)) e) w n
  unfolding value_at height_at
  gives_at_lem e w n h z =
      ap₂ (λ (x y : ℕ). gives_at x y w n) (d.value e (omega (arith, lines t))) (d.height e (omega (arith, lines t)))
      ∙ gives-value (algebra m) ((hypergraph c).live e) (own_at c e) ((hypergraph c).tail e) (cell a.weights) (cell a.depths) e w n z

  -- the two tests
  vertex_fits_lem : (v : ℕ) → vertex_fits c.heads vs hs (labels a) v ≡ vertex_right (algebra m) (hypergraph c) (own_at c) (labels a) v
  unfolding vertex_fits vertex_right
  vertex_fits_lem v = go (eqb (cell a.depths v) 0) (ltb (cell a.edges v) (length c.heads)) refl refl
    where
      go : (p q : Bool) → eqb (cell a.depths v) 0 ≡ p → ltb (cell a.edges v) (length c.heads) ≡ q
          → vertex_fits c.heads vs hs (labels a) v ≡ vertex_right (algebra m) (hypergraph c) (own_at c) (labels a) v
      go true q p r = rw p
      go false true p r =
          rw (p, r)
          (ap (λ (b : Bool). pick (eqb (head_at c (cell a.edges v)) v) b false)
          (gives_at_lem (cell a.edges v) (cell a.weights v) (cell a.depths v) (ltb-true _ _ r) (eqb-false _ _ p)))
      go false false p r = rw (p, r)

  edge_fits_lem : (e : ℕ) → e < length c.heads → edge_fits c.heads vs hs (labels a) (algebra m) e ≡ edge_right (algebra m) (hypergraph c) (own_at c) (labels a) e
  unfolding edge_fits
  edge_fits_lem e h = edge_told m c a e (d.value e (omega (arith, lines t))) (d.height e (omega (arith, lines t)))

  vertices_fit : every (vertex_fits c.heads vs hs (labels a)) (length a.depths) ≡ every (vertex_right (algebra m) (hypergraph c) (own_at c) (labels a)) (length a.depths)
  vertices_fit = every_same _ _ _ (λ v h. vertex_fits_lem v)

  -- of all vertices, and where they are right of all hyperedges
  pub wrong_fit : every (vertex_fits c.heads vs hs (labels a)) (length a.depths) ≡ false → false ≡ all_right m c a
  unfolding all_right
  wrong_fit q = rw (sym vertices_fit ∙ q)

  pub right_fit : every (vertex_fits c.heads vs hs (labels a)) (length a.depths) ≡ true → every (edge_fits c.heads vs hs (labels a) (algebra m)) (length c.heads) ≡ all_right m c a
  unfolding all_right
  right_fit q = rw (sym vertices_fit ∙ q) (every_same _ _ _ edge_fits_lem)
