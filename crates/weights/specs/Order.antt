-- The order of labels, by weight, then by depth, then by hyperedge: the relation behind the test `ahead_of`, and what the test tells. Assumes nothing: these
-- are definitions.
use Rattle.std.specs.Prelude.{Bool, true, false, ◌≤◌}
use Rattle.weights.specs.declared.Label.{Label}
use Rattle.weights.specs.Measures.{Algebra}
use Rattle.weights.specs.Laws.{NoWorse}

-- a comes before b, or is b
pub record Ahead (A : Algebra) (a b : Label) : Type 0 where
  pub weight : NoWorse A.leq a.weight.0 b.weight.0
  pub depth : NoWorse A.leq b.weight.0 a.weight.0 → a.depth ≤ b.depth
  pub edge : NoWorse A.leq b.weight.0 a.weight.0 → b.depth ≤ a.depth → a.edge.0 ≤ b.edge.0

-- what the test tells
pub data Ranked (A : Algebra) (a b : Label) : Bool → Type 0 where
  ahead : Ahead A a b → Ranked A a b true
  behind : ¬ Ahead A a b → Ahead A b a → Ranked A a b false
