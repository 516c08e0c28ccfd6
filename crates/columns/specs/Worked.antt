-- The table of the paper's "A table priced whole", for every example that speaks of it. Assumes nothing: this is a definition.
use Rattle.std.specs.Prelude.{[], ◌∷◌}
use Rattle.columns.specs.Columns.{Columns, columns}

--   0 1200
--   1 300
--   2 500 0 1
--   2 2100
--   3 0 2 1 1
--   4 10 4
abbrev pub worked : Columns
worked =
    columns 5
    (0 ∷ 1 ∷ 2 ∷ 2 ∷ 3 ∷ 4 ∷ [])
    (1200 ∷ 300 ∷ 500 ∷ 2100 ∷ 0 ∷ 10 ∷ [])
    (0 ∷ 0 ∷ 0 ∷ 0 ∷ 0 ∷ 0 ∷ [])
    (0 ∷ 0 ∷ 0 ∷ 0 ∷ 0 ∷ 2 ∷ 2 ∷ 0 ∷ 2 ∷ 3 ∷ 5 ∷ 1 ∷ [])
    (0 ∷ 1 ∷ 2 ∷ 1 ∷ 1 ∷ 4 ∷ [])
