-- The index of the paper's table ("A table priced whole"): line 4 lists part 1 twice and stands once. Assumes nothing.
use mathlib.Core.Path.{◌≡◌, refl}
use mathlib.Core.List.{[], ◌∷◌}
use Rattle.weights.specs.Lists.{member}
use Rattle.columns.specs.Columns.{tail_at}
use Rattle.columns.specs.Worked.{worked}
use Rattle.uses.specs.Uses.{uses_below, use_list, pairs, use_pairs}

pub list_of_the_paper : use_list (tail_at worked) 6 5 ≡ 2 ∷ 2 ∷ 4 ∷ 4 ∷ 5 ∷ []
unfolding member uses_below use_list
list_of_the_paper = refl

pub pairs_of_the_paper : use_pairs (tail_at worked) 6 5 ≡ 0 ∷ 1 ∷ 1 ∷ 2 ∷ 3 ∷ 1 ∷ 4 ∷ 0 ∷ 4 ∷ 1 ∷ []
unfolding member uses_below use_list pairs
pairs_of_the_paper = refl
