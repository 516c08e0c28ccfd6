-- The place of refusal 14: the first line with which the lines so far are not the text of a table. The paper's "14 at the first text line that breaks a
-- rule (…; bytes after the last LF are one more line, which breaks the form)". Assumes nothing: these are definitions.
use Rattle.std.specs.Prelude.{ℕ, zero, suc, List, [], ◌∷◌, eqb}
use Rattle.weights.specs.Choice.{pick}

-- the first k lines of a text, each with its LF; bytes after the last LF are one more line
unfoldable pub first_lines : List ℕ → ℕ → List ℕ
first_lines [] k = []
first_lines (b ∷ s) zero = []
first_lines (b ∷ s) (suc k) = b ∷ first_lines s (pick (eqb b 10) k (suc k))
