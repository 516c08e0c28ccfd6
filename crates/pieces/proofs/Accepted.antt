-- An accepted table with its answers can be counted, and what counting leaves is the piece column of the table. Assumes nothing.
use mathlib.Core.Path.{◌≡◌, refl, sym, ◌∙◌}
use mathlib.Core.List.{List}
use Prim.Native.Nat.{ℕ}
use native.Mathlib.Omega.{arith}
use lib.ListN.{length}
use Rattle.weights.specs.Measures.{Algebra}
use Rattle.weights.specs.Laws.{Lawful}
use Rattle.provenance.specs.BestFirst.{labels}
use Rattle.provenance.specs.Labelling.{Fixpoint}
use Rattle.provenance.proofs.Existence.{fixpoint_shallow}
use Rattle.provenance.specs.Pieces.{below, piece_column}
use Rattle.provenance.proofs.Pieces.{founded, pieces_same}
use Rattle.tables.specs.Table.{hypergraph}
use Rattle.columns.specs.Columns.{Answers, Sized, Columns, cell}
use Rattle.columns.specs.Acceptance.{acceptance}
use Rattle.columns.proofs.Accepted.{table_accepted}
use Rattle.tables.proofs.Formed.{well_formed}
use Rattle.pieces.specs.Counting.{lists, choices, counted, Countable}
use Rattle.std.specs.Prelude.{Ok}

module _ (c : Columns) (a : Answers) (p : acceptance c ≡ Ok tt) (s : Sized c.vertices a) where
  pub countable : {A : Algebra} {own : ℕ → ℕ} {pieces : List ℕ} → Lawful A → Fixpoint A (hypergraph c) own (labels a) → length pieces ≡ c.vertices
      → Countable c.spans c.tails a.depths a.edges pieces
  countable L fix l =
      let t = table_accepted c p in
      record {
        few = omega (arith, t.few, s.depths);
        edges_level = s.edges ∙ sym s.depths;
        pieces_level = l ∙ sym s.depths;
        shallow = λ v. omega (arith, fixpoint_shallow L _ (well_formed c p) fix v, s.depths);
        placed = λ v h.
            let n = (fix.chosen v (record { deep = h })).ready.stands.numbered in
            let g = (t.each (cell a.edges v) n).1 in
            record { span = omega (arith, t.spans); short = g.short; within = g.within };
        founded = founded fix;
      }

  pub counted_is : counted c.spans c.tails a.depths a.edges ≡ piece_column (hypergraph c) (labels a) c.vertices
  unfolding counted
  counted_is =
      let f = pieces_same (lists c.spans c.tails) (hypergraph c) (choices a.depths a.edges) (labels a) refl (λ v. refl) (λ v. refl) in
      let n = s.depths in
      λ i. below (f i) (n i)
