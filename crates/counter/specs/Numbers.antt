-- The quotients by 4,294,967,296 of the numbers that a program in C can get of each call: 0, an acceptance, and the header's list. The paper's "Order: 16, 1, 2, then line by line …; then 7, 9, 10,
-- 11, 8, 12, 13"; in each line 21 comes "after 4" (document 02, 2026-02). Assumes nothing: these are definitions.
use Rattle.std.specs.Prelude.{List, [], ◌∷◌, ℕ}

abbrev pub settle_list : List ℕ
settle_list = 0 ∷ 16 ∷ 1 ∷ 2 ∷ 3 ∷ 4 ∷ 21 ∷ 5 ∷ 6 ∷ 7 ∷ []

abbrev pub reprice_list : List ℕ
reprice_list = 0 ∷ 16 ∷ 1 ∷ 2 ∷ 3 ∷ 4 ∷ 21 ∷ 5 ∷ 6 ∷ 7 ∷ 9 ∷ 10 ∷ 8 ∷ []

abbrev pub bill_list : List ℕ
bill_list = 0 ∷ 16 ∷ 1 ∷ 2 ∷ 3 ∷ 4 ∷ 21 ∷ 5 ∷ 6 ∷ 7 ∷ 11 ∷ 8 ∷ 12 ∷ 13 ∷ []
