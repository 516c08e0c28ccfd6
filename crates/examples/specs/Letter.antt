-- A price letter that raises and cuts (document 02, 2026-11), on the worked table in cost: line 1 from 300 to 500, and line 3 from 2100 to 1900. Assumes nothing: these are definitions.
use Rattle.std.specs.Prelude.{List, [], ◌∷◌, pos, negsuc}
use Rattle.weights.specs.declared.Measure.TheVariants.{Cost}
use Rattle.columns.specs.Columns.{Columns, with_own}
use Rattle.columns.specs.Worked.{worked}
use Rattle.examples.specs.Case.{Case, prints, revises}
use Rattle.examples.specs.Paper.{five}

abbrev pub lettered : Columns
lettered = with_own (with_own worked 1 500) 3 1900

unfoldable pub letter_cases : List Case
letter_cases =
    -- part 2 goes from 2000 to 1900, by line 3: the change -100 lies between -200 and 200
    revises worked lettered 2 2000 1900 (negsuc 199) (pos 200)
    -- part 3 goes from 2600 to 2900, with the bill 4, 3, 1, 1: the change 300 lies between 200 and 600
    ∷ revises worked lettered 3 2600 2900 (pos 200) (pos 600)
    ∷ prints Cost lettered five 3 (9 ∷ 9 ∷ 9 ∷ 9 ∷ 9 ∷ []) (4 ∷ 3 ∷ 1 ∷ 1 ∷ [])
    ∷ []
