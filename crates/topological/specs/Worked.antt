-- The paper's tables for the examples of the rule. Assumes nothing: these are definitions.
use Rattle.std.specs.Prelude.{[], ◌∷◌}
use Rattle.columns.specs.Columns.{Columns, columns}

-- the table of "A table priced whole" without its last line, `4 10 4`
abbrev pub worked_in_order : Columns
worked_in_order = columns 5 (0 ∷ 1 ∷ 2 ∷ 2 ∷ 3 ∷ []) (1200 ∷ 300 ∷ 500 ∷ 2100 ∷ 0 ∷ []) (0 ∷ 0 ∷ 0 ∷ 0 ∷ 0 ∷ []) (0 ∷ 0 ∷ 0 ∷ 0 ∷ 0 ∷ 2 ∷ 2 ∷ 0 ∷ 2 ∷ 3 ∷ []) (0 ∷ 1 ∷ 2 ∷ 1 ∷ 1 ∷ [])

-- P6: `0 0 1` and `1 0 0`
abbrev pub circle : Columns
circle = columns 2 (0 ∷ 1 ∷ []) (0 ∷ 0 ∷ []) (0 ∷ 0 ∷ []) (0 ∷ 1 ∷ 1 ∷ 1 ∷ []) (1 ∷ 0 ∷ [])
