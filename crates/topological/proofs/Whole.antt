-- From a visit to the whole walk: the laws by which it goes. Assumes nothing.
use mathlib.Core.Path.{◌≡◌, refl, sym, ◌∙◌, ap, subst}
use mathlib.Core.List.{List}
use Prim.Native.Nat.{ℕ, zero, suc, ◌+◌, ◌≤◌, ◌<◌}
use native.Mathlib.Numerals.{add-one}
use native.Mathlib.Omega.{arith}
use native.Mathlib.Decide.{ℕ_discrete}
use lib.ListN.{length, set, replicate, length-replicate, get_or-replicate}
use lib.Seq.{get_or-set_same, get_or-set_other}
use Rattle.weights.specs.declared.Label.{Label}
use Rattle.weights.specs.declared.Measure.{Measure}
use Rattle.weights.specs.Measures.{algebra}
use Rattle.weights.proofs.Laws.{lawful}
use Rattle.columns.specs.Columns.{Answers, Sized, Columns, answers, own_at, cell}
use Rattle.columns.specs.Acceptance.{most_vertices, most_edges, acceptance}
use Rattle.columns.specs.Lent.{Usable}
use Rattle.columns.proofs.Accepted.{table_accepted, AcceptedLabels}
use Rattle.columns.proofs.Usable.{same_table, turning_columns}
use Rattle.provenance.specs.Hypergraph.{Hypergraph}
use Rattle.provenance.specs.Labelling.{each, weight_in, depth_in, candidate}
use Rattle.provenance.specs.BestFirst.{labels, put, blank, place}
use Rattle.provenance.specs.InOrder.{first, walk, in_order}
use Rattle.provenance.proofs.Existence.{zeros, greatest_at_most, sized_put}
use Rattle.provenance.proofs.InOrder.{First, first_is}
use Rattle.queue.specs.Keys.{heavy}
use Rattle.tables.specs.Table.{hypergraph}
use Rattle.topological.specs.Walking.{end, Linked, Linkable, Visitable, Storable, put_at, Walkable}
use Rattle.topological.proofs.Passing.{weigh_below}
use Rattle.weights.specs.Offers.{Offer}
use Rattle.std.specs.Prelude.{Ok}

module _ (m : Measure) (c : Columns) where
  abbrev H : Hypergraph
  H = hypergraph c

  -- the vertices below v are labelled
  abbrev pub walk_of : ℕ → Answers
  walk_of = walk (algebra m) H (own_at c)

  -- what the lines of v offer it, from the labels in a
  abbrev offer_of : Answers → ℕ → Offer
  offer_of a v = first (algebra m) H (own_at c) (weight_in (labels a)) (depth_in (labels a)) v H.edges

  module _ (p : acceptance c ≡ Ok tt) where
    -- columns of n places in which no depth is above k, and whose weights can be summed
    record Labelled (k : ℕ) (a : Answers) : Type 0 where
      size : Sized c.vertices a
      shallow : (u : ℕ) → cell a.depths u ≤ k
      light : (u : ℕ) → cell a.weights u < heavy

    module _ {v : ℕ} {a : Answers} (g : Labelled v a) (h : v < c.vertices) where
      -- what is offered to v is stored there
      stored : {o : Offer} → First (algebra m) H (own_at c) (labels a) v H.edges o → place (algebra m) H (own_at c) a o ≡ put_at a v o
      stored (First.none n) = refl
      stored (First.found e due least) = ap (λ (x : ℕ). put a x (candidate (algebra m) H (own_at c) (labels a) e)) due.yields

      labelled : {o : Offer} → First (algebra m) H (own_at c) (labels a) v H.edges o → Labelled (suc v) (put_at a v o)
      labelled (First.none n) = record { size = g.size; shallow = λ u. omega (arith, g.shallow u); light = g.light }
      labelled (First.found e due least) =
          let l : Label = candidate (algebra m) H (own_at c) (labels a) e in
          let low : l.depth ≤ suc v = omega (arith, greatest_at_most (cell a.depths) v g.shallow (H.tail e)) in
          let below : l.weight.0 < heavy = weigh_below m (own_at c e) (each (cell a.weights) (H.tail e)) in
          record { size = sized_put a v l g.size; shallow = λ u. go l low u (ℕ_discrete u v); light = λ u. weighed l below u (ℕ_discrete u v) }
        where
          weighed : (l : Label) → l.weight.0 < heavy → (u : ℕ) → Dec (u ≡ v) → cell (set a.weights v l.weight.0) u < heavy
          weighed l below u (yes q) =
              omega (arith, ap (cell (set a.weights v l.weight.0)) q, get_or-set_same a.weights v l.weight.0 0 (omega (arith, g.size.weights)), below)
          weighed l below u (no n) = omega (arith, get_or-set_other a.weights v u l.weight.0 0 n, g.light u)

          go : (l : Label) → l.depth ≤ suc v → (u : ℕ) → Dec (u ≡ v) → cell (set a.depths v l.depth) u ≤ suc v
          go l low u (yes q) = omega (arith, ap (cell (set a.depths v l.depth)) q, get_or-set_same a.depths v l.depth 0 (omega (arith, g.size.depths)), low)
          go l low u (no n) = omega (arith, get_or-set_other a.depths v u l.depth 0 n, g.shallow u)

      told : First (algebra m) H (own_at c) (labels a) v H.edges (offer_of a v)
      told = first_is (algebra m) H (own_at c) (labels a) v (lawful m) H.edges (omega arith)

    so_far : (v : ℕ) → v ≤ c.vertices → Labelled v (walk_of v)
    unfolding walk
    so_far zero h = record {
      size = record { weights = length-replicate c.vertices 0; depths = length-replicate c.vertices 0; edges = length-replicate c.vertices 0 };
      shallow = λ u. omega (arith, zeros c.vertices u);
      light = λ u. omega (arith, zeros c.vertices u);
    }
    so_far (suc v) h =
        let g = so_far v (omega arith) in
        subst (Labelled (suc v)) (sym (stored g h (told g h))) (labelled g h (told g h))

    module _ {a : Answers} (v : ℕ) (q : a ≡ walk_of v) (h : v ≤ c.vertices) where
      g : Labelled v a
      g = subst (Labelled v) (sym q) (so_far v h)

      pub walk-sized : Sized c.vertices a
      walk-sized = g.size

      usable : Usable (same_table c (length a.depths)) a.weights a.depths
      usable = (turning_columns c a p g.size (λ u. omega (arith, g.shallow u, (table_accepted c p).few))).usable

      pub visitable : {fs ns : List ℕ} → Linked c.heads c.strikes fs ns 0 → v < c.vertices → Visitable (same_table c (length a.depths)) a.weights a.depths fs ns v
      visitable l i = record { usable = usable; light = g.light; linked = l; inside = omega (arith, g.size.depths) }

      pub storable : v < c.vertices → Storable v a
      storable i = record { weights = omega (arith, g.size.weights); depths = omega (arith, g.size.depths); edges = omega (arith, g.size.edges) }

      -- v is visited, and gets what it is offered
      pub walk_more : {o : Offer} {b : Answers} → v < c.vertices
          → o ≡ first (algebra m) (hypergraph (same_table c (length a.depths))) (own_at c) (cell a.weights) (cell a.depths) v (length c.heads)
          → b ≡ put_at a v o → b ≡ walk_of (v + 1)
      unfolding walk
      walk_more {o} {b} i r s =
          let r' : o ≡ offer_of a v =
          subst (λ (n : ℕ). o ≡ first (algebra m) (hypergraph (same_table c n)) (own_at c) (cell a.weights) (cell a.depths) v (length c.heads)) g.size.depths r in
          s ∙ ap (put_at a v) r' ∙ sym (stored g i (told g i)) ∙ rw (add-one v, ← q)

  pub walk_begin : {a : Answers} → a ≡ blank c.vertices → a ≡ walk_of 0
  unfolding walk
  walk_begin q = q

  pub walk-all : {a : Answers} {v : ℕ} → a ≡ walk_of v → v ≡ c.vertices → a ≡ in_order (algebra m) H (own_at c)
  unfolding in_order
  walk-all q e = q ∙ ap walk_of e

-- Before the walk

module _ {c : Columns} {a : Answers} (h : AcceptedLabels c a) where
  pub linkable : Linkable c.heads c.strikes (replicate most_vertices end) (replicate most_edges 0)
  linkable =
      let t = table_accepted c h.table in
      record {
        few = t.edges;
        marked = omega (arith, t.strikes);
        inside = λ e i. omega (arith, (t.each e i).1.head, t.few);
        wide = length-replicate most_vertices end;
        long = omega (arith, t.edges, length-replicate {A = ℕ} most_edges 0);
        empty = λ v i. get_or-replicate most_vertices v end 0 i;
      }

  -- the columns are set to 0
  module _ {ws ds es : List ℕ} (p : ws ≡ replicate (length a.weights) 0) (q : ds ≡ replicate (length a.depths) 0) (r : es ≡ replicate (length a.edges) 0) where
    depths_long : length ds ≡ c.vertices
    depths_long = ap length q ∙ length-replicate (length a.depths) 0 ∙ h.sized.depths

    cleared : answers ws ds es ≡ blank c.vertices
    cleared = rw (p, q, r, h.sized.weights, h.sized.depths, h.sized.edges)

    pub walkable : {fs ns : List ℕ} → Linked c.heads c.strikes fs ns 0 → Walkable (same_table c (length ds)) (answers ws ds es) fs ns
    walkable l = record {
      accepted = subst (λ (n : ℕ). acceptance (same_table c n) ≡ Ok tt) (sym depths_long) h.table;
      empty = subst (λ (n : ℕ). answers ws ds es ≡ blank n) (sym depths_long) cleared;
      linked = l;
    }

    pub walked : (m : Measure) {b : Answers} → b ≡ in_order (algebra m) (hypergraph (same_table c (length ds))) (own_at c) → b ≡ in_order (algebra m) (hypergraph c) (own_at c)
    walked m {b} e = subst (λ (n : ℕ). b ≡ in_order (algebra m) (hypergraph (same_table c n)) (own_at c)) depths_long e
