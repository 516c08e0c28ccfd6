-- The pieces in which a row is written. Assumes nothing: these are definitions.
use Rattle.std.specs.Prelude.{ℕ, List, [], ◌∷◌, ◌++◌}
use Rattle.weights.specs.declared.State.{State}
use Rattle.text.specs.Render.{digits, tail_text}
use Rattle.report.specs.Report.{state_word}

-- bounds on the bytes of the two: two numbers of 20 digits and a state's word; one, a word and the end of the line
abbrev pub most_half : ℕ
most_half = 48

abbrev pub most_rest : ℕ
most_rest = 29

-- the part, its state and figure in the first table
unfoldable pub half : ℕ → State → (figure : ℕ) → List ℕ
half v s w = (digits v ++ (32 ∷ state_word s)) ++ (32 ∷ digits w)

-- its state and figure in the second
unfoldable pub rest : State → (figure : ℕ) → List ℕ
rest s w = (32 ∷ state_word s) ++ (tail_text (w ∷ []) ++ 10 ∷ [])
