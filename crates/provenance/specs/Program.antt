-- The annotated Datalog program that a table is (document 000, before Definition 5): each line is a rule, from its own figure and the parts that it lists. The
-- paper's "There, facts carry the weight; here a line's own figure stands for one more fact that only this line uses". Its trees are the make-ups, with the
-- own figures along the listing at their leaves (proofs). Assumes nothing: these are definitions.
use Rattle.std.specs.Prelude.{◌∷◌, map, ℕ, ◌<◌}
use Rattle.semiring.specs.Datalog.{Program}
use Rattle.provenance.specs.Hypergraph.{Hypergraph, Stands}
use Rattle.provenance.specs.Semirings.{Valuation}

-- an atom for each part, and one for the own figure of each line
pub data Atom : Type 0 where
  part : ℕ → Atom
  figure : ℕ → Atom

-- the own figure of a line is a fact unless the line is struck
pub record Fact (H : Hypergraph) : Type 0 where
  pub edge : ℕ
  pub stands : Stands H edge

-- each line is a rule: its part, from its own figure and the parts that it lists
pub record Rule (H : Hypergraph) : Type 0 where
  pub edge : ℕ
  pub numbered : edge < H.edges

-- the program that a table is
abbrev pub program : (U : Valuation) (H : Hypergraph) (own : ℕ → ℕ) → Program U.semiring
program U H own = record {
  Atom = Atom;
  Fact = Fact H;
  states = λ f. figure f.edge;
  annotation = λ f. U.element (own f.edge);
  Rule = Rule H;
  head = λ r. part (H.head r.edge);
  body = λ r. figure r.edge ∷ map part (H.tail r.edge);
}
