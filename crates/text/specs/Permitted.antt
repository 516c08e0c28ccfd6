-- A permitted text is read, and what is not permitted is refused at the first line that breaks a rule. The paper's "The text", and 14 of "What is turned
-- away". Assumes nothing: these are definitions.
use Rattle.std.specs.Prelude.{ℕ, ◌<◌, List}
use Rattle.text.specs.Render.{Permitted}
use Rattle.text.specs.Places.{first_lines}

-- k is the first line that breaks a rule: with it the lines so far are no permitted text, and with each line before it they are
pub record FirstWrong (s : List ℕ) (k : ℕ) : Type 0 where
  pub counted : 0 < k
  pub wrong : Permitted (first_lines s k) → ⊥
  pub right : (j : ℕ) → 0 < j → j < k → Permitted (first_lines s j)
