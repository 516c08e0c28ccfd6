-- The paper's examples P1 to P10 ("A table priced whole"; P10 in the columns of document 02, 2026-02) as one list, each by the call that it is about. Assumes nothing: these are definitions.
use Rattle.std.specs.Prelude.{ℕ, List, [], ◌∷◌}
use Rattle.weights.specs.declared.Measure.TheVariants.{Cost, Days, Grade}
use Rattle.weights.specs.declared.State.TheVariants.{Made, Over, Unmade}
use Rattle.columns.specs.Columns.{Entries, Columns, columns, entries, with_strike}
use Rattle.columns.specs.Worked.{worked}
use Rattle.examples.specs.Case.{Case, settles, prints, reprices, strikes, restores, raises}

-- part 0 at the greatest figure, and three lines that each need ten of the part before, the last with this own figure
abbrev pub tens : ℕ → Columns
tens own =
    columns 4
    (0 ∷ 1 ∷ 2 ∷ 3 ∷ [])
    (1_000_000_000 ∷ 0 ∷ 0 ∷ own ∷ [])
    (0 ∷ 0 ∷ 0 ∷ 0 ∷ [])
    (0 ∷ 0 ∷ 0 ∷ 10 ∷ 10 ∷ 10 ∷ 20 ∷ 10 ∷ [])
    (0 ∷ 0 ∷ 0 ∷ 0 ∷ 0 ∷ 0 ∷ 0 ∷ 0 ∷ 0 ∷ 0 ∷ 1 ∷ 1 ∷ 1 ∷ 1 ∷ 1 ∷ 1 ∷ 1 ∷ 1 ∷ 1 ∷ 1 ∷ 2 ∷ 2 ∷ 2 ∷ 2 ∷ 2 ∷ 2 ∷ 2 ∷ 2 ∷ 2 ∷ 2 ∷ [])

-- answer columns of n places that hold anything
abbrev pub two : Entries
two = entries (7 ∷ 7 ∷ []) (7 ∷ 7 ∷ []) (7 ∷ 7 ∷ []) (7 ∷ 7 ∷ [])

abbrev pub four : Entries
four = entries (7 ∷ 7 ∷ 7 ∷ 7 ∷ []) (7 ∷ 7 ∷ 7 ∷ 7 ∷ []) (7 ∷ 7 ∷ 7 ∷ 7 ∷ []) (7 ∷ 7 ∷ 7 ∷ 7 ∷ [])

abbrev pub five : Entries
five = entries (7 ∷ 7 ∷ 7 ∷ 7 ∷ 7 ∷ []) (7 ∷ 7 ∷ 7 ∷ 7 ∷ 7 ∷ []) (7 ∷ 7 ∷ 7 ∷ 7 ∷ 7 ∷ []) (7 ∷ 7 ∷ 7 ∷ 7 ∷ 7 ∷ [])

unfoldable pub cases : List Case
cases =
    -- P1: the answers
    settles Cost worked five
    (entries (1200 ∷ 300 ∷ 2000 ∷ 2600 ∷ 0 ∷ []) (1 ∷ 1 ∷ 2 ∷ 3 ∷ 0 ∷ []) (0 ∷ 1 ∷ 2 ∷ 4 ∷ 0 ∷ []) (1 ∷ 1 ∷ 2 ∷ 4 ∷ 0 ∷ [])) (Made ∷ Made ∷ Made ∷ Made ∷ Unmade ∷ [])
    -- P2: the bill of part 3, in a room of seven places
    ∷ prints Cost worked five 3 (9 ∷ 9 ∷ 9 ∷ 9 ∷ 9 ∷ 9 ∷ 9 ∷ []) (4 ∷ 2 ∷ 0 ∷ 1 ∷ 1 ∷ 1 ∷ [])
    -- P3: line 1 repriced to 500; part 3 rises from 2600 to 3100, between 2 × 200 and 3 × 200
    ∷ reprices Cost worked five 1 500 (1200 ∷ 500 ∷ 500 ∷ 2100 ∷ 0 ∷ 10 ∷ []) (entries (1200 ∷ 500 ∷ 2100 ∷ 3100 ∷ 0 ∷ []) (1 ∷ 1 ∷ 1 ∷ 2 ∷ 0 ∷ []) (0 ∷ 1 ∷ 3 ∷ 4 ∷ 0 ∷ []) (1 ∷ 1 ∷ 1 ∷ 3 ∷ 0 ∷ []))
    ∷ raises Cost worked 1 200 3 2600 3100 3 2
    -- P4: with days, parts 2 and 3 are 1700, part 2 by line 2
    ∷ settles Days worked five (entries (1200 ∷ 300 ∷ 1700 ∷ 1700 ∷ 0 ∷ []) (1 ∷ 1 ∷ 2 ∷ 3 ∷ 0 ∷ []) (0 ∷ 1 ∷ 2 ∷ 4 ∷ 0 ∷ []) (1 ∷ 1 ∷ 2 ∷ 4 ∷ 0 ∷ [])) (Made ∷ Made ∷ Made ∷ Made ∷ Unmade ∷ [])
    -- P5: no parts and no lines have no entries
    ∷ settles Cost (columns 0 [] [] [] [] []) (entries [] [] [] []) (entries [] [] [] []) []
    -- P6: two lines that need one another make nothing
    ∷ settles Cost (columns 2 (0 ∷ 1 ∷ []) (0 ∷ 0 ∷ []) (0 ∷ 0 ∷ []) (0 ∷ 1 ∷ 1 ∷ 1 ∷ []) (1 ∷ 0 ∷ [])) two (entries (0 ∷ 0 ∷ []) (0 ∷ 0 ∷ []) (0 ∷ 0 ∷ []) (0 ∷ 0 ∷ [])) (Unmade ∷ Unmade ∷ [])
    -- P7: the ceiling itself is made
    ∷ settles Cost (tens 0) four
    (entries (1_000_000_000 ∷ 10_000_000_000 ∷ 100_000_000_000 ∷ 1_000_000_000_000 ∷ []) (1 ∷ 2 ∷ 3 ∷ 4 ∷ []) (0 ∷ 1 ∷ 2 ∷ 3 ∷ []) (1 ∷ 10 ∷ 100 ∷ 1000 ∷ []))
    (Made ∷ Made ∷ Made ∷ Made ∷ [])
    -- P8: one more is over
    ∷ settles Cost (tens 1) four
    (entries (1_000_000_000 ∷ 10_000_000_000 ∷ 100_000_000_000 ∷ 1_000_000_000_001 ∷ []) (1 ∷ 2 ∷ 3 ∷ 4 ∷ []) (0 ∷ 1 ∷ 2 ∷ 3 ∷ []) (1 ∷ 10 ∷ 100 ∷ 1000 ∷ []))
    (Made ∷ Made ∷ Made ∷ Over ∷ [])
    -- P9: a tie goes to the lesser depth before the lower line
    ∷ settles Cost (columns 2 (0 ∷ 1 ∷ 1 ∷ []) (5 ∷ 0 ∷ 5 ∷ []) (0 ∷ 0 ∷ 0 ∷ []) (0 ∷ 0 ∷ 0 ∷ 1 ∷ 1 ∷ 0 ∷ []) (0 ∷ [])) two
    (entries (5 ∷ 5 ∷ []) (1 ∷ 1 ∷ []) (0 ∷ 2 ∷ []) (1 ∷ 1 ∷ []))
    (Made ∷ Made ∷ [])
    -- P10: line 0 struck; part 2 takes line 3, and part 0 is unmade
    ∷ strikes Cost worked five 0 (1 ∷ 0 ∷ 0 ∷ 0 ∷ 0 ∷ 0 ∷ []) (entries (0 ∷ 300 ∷ 2100 ∷ 2700 ∷ 0 ∷ []) (0 ∷ 1 ∷ 1 ∷ 2 ∷ 0 ∷ []) (0 ∷ 1 ∷ 3 ∷ 4 ∷ 0 ∷ []) (0 ∷ 1 ∷ 1 ∷ 3 ∷ 0 ∷ []))
    -- and restored: it stands at 1200, the figure that it kept, and the answers are those of P1
    ∷ restores Cost (with_strike worked 0 1) five 0 (0 ∷ 0 ∷ 0 ∷ 0 ∷ 0 ∷ 0 ∷ [])
    (entries (1200 ∷ 300 ∷ 2000 ∷ 2600 ∷ 0 ∷ []) (1 ∷ 1 ∷ 2 ∷ 3 ∷ 0 ∷ []) (0 ∷ 1 ∷ 2 ∷ 4 ∷ 0 ∷ []) (1 ∷ 1 ∷ 2 ∷ 4 ∷ 0 ∷ []))
    -- in grade (document 02, 2026-10): part 2 takes the bought line, part 3 is as good as its line's own figure
    ∷ settles Grade worked five (entries (1200 ∷ 300 ∷ 2100 ∷ 0 ∷ 0 ∷ []) (1 ∷ 1 ∷ 1 ∷ 2 ∷ 0 ∷ []) (0 ∷ 1 ∷ 3 ∷ 4 ∷ 0 ∷ []) (1 ∷ 1 ∷ 1 ∷ 3 ∷ 0 ∷ [])) (Made ∷ Made ∷ Made ∷ Made ∷ Unmade ∷ [])
    -- line 4 raised from 0 to 250 lifts part 3 to 250, and to 400 lifts it to 300, the grade of part 1
    ∷ reprices Grade worked five 4 250 (1200 ∷ 300 ∷ 500 ∷ 2100 ∷ 250 ∷ 10 ∷ []) (entries (1200 ∷ 300 ∷ 2100 ∷ 250 ∷ 0 ∷ []) (1 ∷ 1 ∷ 1 ∷ 2 ∷ 0 ∷ []) (0 ∷ 1 ∷ 3 ∷ 4 ∷ 0 ∷ []) (1 ∷ 1 ∷ 1 ∷ 3 ∷ 0 ∷ []))
    ∷ reprices Grade worked five 4 400 (1200 ∷ 300 ∷ 500 ∷ 2100 ∷ 400 ∷ 10 ∷ []) (entries (1200 ∷ 300 ∷ 2100 ∷ 300 ∷ 0 ∷ []) (1 ∷ 1 ∷ 1 ∷ 2 ∷ 0 ∷ []) (0 ∷ 1 ∷ 3 ∷ 4 ∷ 0 ∷ []) (1 ∷ 1 ∷ 1 ∷ 3 ∷ 0 ∷ []))
    ∷ raises Grade worked 4 400 3 0 300 1 1
    ∷ []
