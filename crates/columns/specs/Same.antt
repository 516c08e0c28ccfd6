-- Columns that are the same, place for place, as a test. Assumes nothing: these are definitions.
use Rattle.std.specs.Prelude.{Bool, true, false, List, [], ◌∷◌, ℕ, eqb}
use Rattle.weights.specs.Choice.{pick}
use Rattle.columns.specs.Columns.{Answers, Entries}

-- two columns are the same
unfoldable pub equal : List ℕ → List ℕ → Bool
equal [] [] = true
equal [] (y ∷ ys) = false
equal (x ∷ xs) [] = false
equal (x ∷ xs) (y ∷ ys) = pick (eqb x y) (equal xs ys) false

-- so are three answer columns, and all four
unfoldable pub same_answers : Answers → Answers → Bool
same_answers a b = pick (equal a.weights b.weights) (pick (equal a.depths b.depths) (equal a.edges b.edges) false) false

unfoldable pub same_entries : Entries → Entries → Bool
same_entries a b = pick (same_answers a.labels b.labels) (equal a.pieces b.pieces) false
