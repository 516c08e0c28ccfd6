-- Labellings: a label (figure, depth, line) for each vertex; what a hyperedge gives from the labels of its tail; and the fixpoint, the local condition that a
-- right labelling meets. Assumes nothing: these are definitions.
use Rattle.std.specs.Prelude.{◌≡◌, Bool, true, false, List, [], ◌∷◌, ℕ, ◌+◌, ◌<◌, max, eqb, Some, None}
use Rattle.weights.specs.declared.Label.{Label}
use Rattle.weights.specs.Figures.{none as no_figure}
use Rattle.weights.specs.Measures.{Algebra, weigh}
use Rattle.weights.specs.Choice.{pick}
use Rattle.weights.specs.Labels.{label, unmade}
use Rattle.weights.specs.Order.{Ahead}
use Rattle.provenance.specs.Hypergraph.{Hypergraph, Stands}
use Rattle.weights.specs.Offers.{Offer}

-- depth 0 occurs only for unmade
pub record Made (l : Label) : Type 0 where
  pub deep : 0 < l.depth

pub data AllMade (ls : ℕ → Label) : List ℕ → Type 0 where
  none : AllMade ls []
  more : {v : ℕ} {vs : List ℕ} → Made (ls v) → AllMade ls vs → AllMade ls (v ∷ vs)

-- a labelling's weights and depths
abbrev pub weight_in : (ℕ → Label) → ℕ → ℕ
weight_in ls v = (ls v).weight.0

abbrev pub depth_in : (ℕ → Label) → ℕ → ℕ
depth_in ls v = (ls v).depth

-- of a tail: the weights, a vertex listed twice counted twice; the greatest of its depths, 0 if it is empty; and whether every vertex is made
unfoldable pub each : (weight : ℕ → ℕ) → List ℕ → List ℕ
each w [] = []
each w (v ∷ vs) = w v ∷ each w vs

unfoldable pub greatest_depth : (depth : ℕ → ℕ) → List ℕ → ℕ
greatest_depth d [] = 0
greatest_depth d (v ∷ vs) = max (d v) (greatest_depth d vs)

unfoldable pub none_zero : (depth : ℕ → ℕ) → List ℕ → Bool
none_zero d [] = true
none_zero d (v ∷ vs) = pick (eqb (d v) 0) false (none_zero d vs)

abbrev pub tail-weights : (ℕ → Label) → List ℕ → List ℕ
tail-weights ls = each (weight_in ls)

abbrev pub deepest_in : (ℕ → Label) → List ℕ → ℕ
deepest_in ls = greatest_depth (depth_in ls)

-- what hyperedge e of this own weight and tail gives: its depth is above those of its tail, so hyperedges in a circle can't support one another
abbrev pub yield : Algebra → (own : ℕ) → List ℕ → (weight depth : ℕ → ℕ) → ℕ → Label
yield A own tail w d e = label (weigh A own (each w tail)) (greatest_depth d tail + 1) e

-- the same, unless it is struck or a vertex of its tail is unmade
unfoldable pub offer_of : Algebra → (live : Bool) (own : ℕ) → List ℕ → (weight depth : ℕ → ℕ) → ℕ → Offer
offer_of A live own tail w d e = pick live (pick (none_zero d tail) (Some (yield A own tail w d e)) None) None

-- a line's value, "the figure that its own figure and the lent figures of its parts give" (document 02, 2026-04), or none; and the depth that it gives, or 0
unfoldable pub value_of : Algebra → (live : Bool) (own : ℕ) → List ℕ → (weight depth : ℕ → ℕ) → ℕ
value_of A live own tail w d = pick live (pick (none_zero d tail) (weigh A own (each w tail)) no_figure) no_figure

unfoldable pub height_of : (live : Bool) → List ℕ → (depth : ℕ → ℕ) → ℕ
height_of live tail d = pick live (pick (none_zero d tail) (greatest_depth d tail + 1) 0) 0

-- e is unstruck, and every vertex of its tail is made
pub record Ready (H : Hypergraph) (ls : ℕ → Label) (e : ℕ) : Type 0 where
  pub stands : Stands H e
  pub tails : AllMade ls (H.tail e)

module _ (A : Algebra) (H : Hypergraph) (own : ℕ → ℕ) where
  -- what e gives from the labels of its tail
  abbrev pub candidate : (ℕ → Label) → ℕ → Label
  candidate ls e = yield A (own e) (H.tail e) (weight_in ls) (depth_in ls) e

  -- the label of v is what e gives
  pub record Chosen (ls : ℕ → Label) (v e : ℕ) : Type 0 where
    pub ready : Ready H ls e
    pub yields : H.head e ≡ v
    pub given : ls v ≡ candidate ls e

  -- every label is the first of the candidates of its vertex
  pub record Fixpoint (ls : ℕ → Label) : Type 0 where
    pub blank : (v : ℕ) → (ls v).depth ≡ 0 → ls v ≡ unmade
    pub chosen : (v : ℕ) → Made (ls v) → Chosen ls v (ls v).edge.0
    pub made : (e : ℕ) → Ready H ls e → Made (ls (H.head e))
    pub ahead : (e : ℕ) → Ready H ls e → Ahead A (ls (H.head e)) (candidate ls e)
