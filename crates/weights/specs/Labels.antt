-- Labels, what a part's answer is made of; their order; the entry with its state. The paper's "Make-ups, figures, depth" (depth, chosen line, entry).
-- Assumes nothing: these are definitions.
use Rattle.std.specs.Prelude.{Bool, true, false, ℕ, leb, ltb, eqb}
use Rattle.weights.specs.declared.Label.{Label}
use Rattle.weights.specs.declared.State.{State}
use Rattle.weights.specs.declared.State.TheVariants.{Made, Over, Unmade}
use Rattle.weights.specs.declared.Entry.{Entry}
use Rattle.weights.specs.Choice.{pick}
use Rattle.weights.specs.Figures.{is_over}
use Rattle.weights.specs.Measures.{Algebra}

-- a label of three numbers: figure, depth, line
abbrev pub label : (weight depth edge : ℕ) → Label
label w d e = record { weight = record { 0 = w }; depth = d; edge = record { 0 = e } }

-- the label of a part that has no make-up
abbrev pub unmade : Label
unmade = label 0 0 0

-- a comes before b, or is b: by weight, then by depth, then by hyperedge
unfoldable pub ahead_of : Algebra → Label → Label → Bool
ahead_of A a b =
    pick (A.leq a.weight.0 b.weight.0)
    (pick (A.leq b.weight.0 a.weight.0)
    (pick (ltb a.depth b.depth) true
    (pick (ltb b.depth a.depth) false
    (leb a.edge.0 b.edge.0)))
    true)
    false

-- the state that the numbers tell: unmade at depth 0, else over at the mark, else made
abbrev pub state_of : (weight depth : ℕ) → State
state_of w d = pick (eqb d 0) Unmade (pick (is_over w) Over Made)

abbrev pub label_state : Label → State
label_state l = state_of l.weight.0 l.depth

-- the entry of a label and a piece count
abbrev pub entry_of : Label → (pieces : ℕ) → Entry
entry_of l p = record { state = label_state l; weight = l.weight; depth = l.depth; edge = l.edge; pieces = p }
