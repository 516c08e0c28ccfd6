-- What is said of part 1 of the paper's table ("A table priced whole"), of which line 2 is struck: line 4 lists the part twice and stands once. Assumes nothing.
use mathlib.Core.Path.{◌≡◌, refl}
use mathlib.Core.List.{[], ◌∷◌}
use Rattle.weights.specs.Lists.{member}
use Rattle.columns.specs.Columns.{with_strike}
use Rattle.columns.specs.Worked.{worked}
use Rattle.uses.specs.Uses.{uses_below}
use Rattle.text.specs.Render.{digits_on, digits, mark_text, own_text, tail_text, edge_text}
use Rattle.reply.specs.Reply.{answered}
use Rattle.whereused.specs.WhereUsed.{use_row, use_rows, uses_said}

--   2 2 -500 0 1
--   4 3 0 2 1 1
pub uses_of_the_paper : uses_said (with_strike worked 2 1) 1 ≡ answered
    (50 ∷ 32 ∷ 50 ∷ 32 ∷ 45 ∷ 53 ∷ 48 ∷ 48 ∷ 32 ∷ 48 ∷ 32 ∷ 49 ∷ 10 ∷ 52 ∷ 32 ∷ 51 ∷ 32 ∷ 48 ∷ 32 ∷ 50 ∷ 32 ∷ 49 ∷ 32 ∷ 49 ∷ 10 ∷ [])
unfolding member uses_below digits_on digits mark_text own_text tail_text edge_text use_row use_rows uses_said
uses_of_the_paper = refl
