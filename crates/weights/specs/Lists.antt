-- Whether a number stands in a list. Assumes nothing: this is a definition.
use Rattle.std.specs.Prelude.{ℕ, Bool, true, false, List, [], ◌∷◌, eqb}
use Rattle.weights.specs.Choice.{pick}

unfoldable pub member : ℕ → List ℕ → Bool
member v [] = false
member v (w ∷ ws) = pick (eqb v w) true (member v ws)
