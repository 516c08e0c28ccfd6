-- The text of the paper's "A table priced whole", byte for byte. Assumes nothing: these are definitions.
use Rattle.std.specs.Prelude.{ℕ, List, [], ◌∷◌}

-- the paper's text (document 02, 2026-07: "the example gains the word `cost`")
unfoldable pub cost_text : List ℕ
cost_text =
    112 ∷ 97 ∷ 114 ∷ 116 ∷ 115 ∷ 32 ∷ 53 ∷ 32 ∷ 99 ∷ 111 ∷ 115 ∷ 116 ∷ 10
    ∷ 48 ∷ 32 ∷ 49 ∷ 50 ∷ 48 ∷ 48 ∷ 10
    ∷ 49 ∷ 32 ∷ 51 ∷ 48 ∷ 48 ∷ 10
    ∷ 50 ∷ 32 ∷ 53 ∷ 48 ∷ 48 ∷ 32 ∷ 48 ∷ 32 ∷ 49 ∷ 10
    ∷ 50 ∷ 32 ∷ 50 ∷ 49 ∷ 48 ∷ 48 ∷ 10
    ∷ 51 ∷ 32 ∷ 48 ∷ 32 ∷ 50 ∷ 32 ∷ 49 ∷ 32 ∷ 49 ∷ 10
    ∷ 52 ∷ 32 ∷ 49 ∷ 48 ∷ 32 ∷ 52 ∷ 10 ∷ []

-- the same table in days: without a word
unfoldable pub days_text : List ℕ
days_text =
    112 ∷ 97 ∷ 114 ∷ 116 ∷ 115 ∷ 32 ∷ 53 ∷ 10
    ∷ 48 ∷ 32 ∷ 49 ∷ 50 ∷ 48 ∷ 48 ∷ 10
    ∷ 49 ∷ 32 ∷ 51 ∷ 48 ∷ 48 ∷ 10
    ∷ 50 ∷ 32 ∷ 53 ∷ 48 ∷ 48 ∷ 32 ∷ 48 ∷ 32 ∷ 49 ∷ 10
    ∷ 50 ∷ 32 ∷ 50 ∷ 49 ∷ 48 ∷ 48 ∷ 10
    ∷ 51 ∷ 32 ∷ 48 ∷ 32 ∷ 50 ∷ 32 ∷ 49 ∷ 32 ∷ 49 ∷ 10
    ∷ 52 ∷ 32 ∷ 49 ∷ 48 ∷ 32 ∷ 52 ∷ 10 ∷ []

-- the same table in grade (document 02, 2026-10)
unfoldable pub grade_text : List ℕ
grade_text =
    112 ∷ 97 ∷ 114 ∷ 116 ∷ 115 ∷ 32 ∷ 53 ∷ 32 ∷ 103 ∷ 114 ∷ 97 ∷ 100 ∷ 101 ∷ 10
    ∷ 48 ∷ 32 ∷ 49 ∷ 50 ∷ 48 ∷ 48 ∷ 10
    ∷ 49 ∷ 32 ∷ 51 ∷ 48 ∷ 48 ∷ 10
    ∷ 50 ∷ 32 ∷ 53 ∷ 48 ∷ 48 ∷ 32 ∷ 48 ∷ 32 ∷ 49 ∷ 10
    ∷ 50 ∷ 32 ∷ 50 ∷ 49 ∷ 48 ∷ 48 ∷ 10
    ∷ 51 ∷ 32 ∷ 48 ∷ 32 ∷ 50 ∷ 32 ∷ 49 ∷ 32 ∷ 49 ∷ 10
    ∷ 52 ∷ 32 ∷ 49 ∷ 48 ∷ 32 ∷ 52 ∷ 10 ∷ []
