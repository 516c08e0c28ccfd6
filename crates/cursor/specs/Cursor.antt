-- What stands at a place of a text: a number, an own figure, a separator. The paper's "The text": numbers are decimal without leading zeros; where a number must
-- stand, anything but digits ends the reading. Document 02, 2026-02: of a struck line "`-` and the kept figure"; 2026-06: "The reading of one number must also
-- report where it began and where it stopped", found or not: it stops at the first byte that can't go on with it.
-- Assumes nothing: these are definitions.
use Rattle.std.specs.Prelude.{ℕ, ◌+◌, ◌*◌, List, [], ◌∷◌, get_or, drop, ltb, eqb, Option, Some, None}
use Rattle.weights.specs.declared.Weight.{Weight}
use Rattle.weights.specs.declared.Mark.{Mark}
use Rattle.weights.specs.Figures.{greatest, standing, struck_mark}
use Rattle.weights.specs.Choice.{pick}
use Rattle.text.specs.Machine.{digit_of}
use Rattle.cursor.specs.declared.Token.{Token}
use Rattle.cursor.specs.declared.WeightToken.{WeightToken}
use Rattle.cursor.specs.declared.Separator.{Separator}
use Rattle.cursor.specs.declared.Separator.TheVariants.{Space, LineEnd, Neither}

-- an own figure and the mark of its line, where one is found
abbrev pub FoundWeight : Type 0
FoundWeight = Option (Weight × Mark)

abbrev pub token : (start stop : ℕ) → (Option ℕ) → Token
token a i f = record { start = a; stop = i; found = f }

-- of the number that began at `start` the digits so far make v, and these bytes are left, from place i on
unfoldable pub digits_from : List ℕ → (start i limit v : ℕ) → Token
digits_from [] start i limit v = token start i (Some v)
digits_from (b ∷ bs) start i limit v =
    let more = digits_from bs start (i + 1) limit (10 * v + digit_of b) in
    let leading = token start i None in
    let over = token start i None in
    pick (ltb (digit_of b) 10)
    (pick (ltb 0 v) (pick (ltb (10 * v + digit_of b) limit) more over) leading)
    (token start i (Some v))

unfoldable pub number_of : List ℕ → (at limit : ℕ) → Token
number_of [] at limit = token at at None
number_of (b ∷ bs) at limit =
    pick (ltb (digit_of b) 10)
    (pick (ltb (digit_of b) limit) (digits_from bs at (at + 1) limit (digit_of b)) (token at at None))
    (token at at None)

-- the number at a place, below the limit
unfoldable pub number_at : List ℕ → (at limit : ℕ) → Token
number_at s at limit = number_of (drop at s) at limit

-- a number as the own figure of a line with this mark, which began at `start`
abbrev pub as_weight : Mark → (Option ℕ) → FoundWeight
as_weight k (Some v) = Some ((record { 0 = v }), k)
as_weight k None = None

abbrev pub weight_token : (start stop : ℕ) → FoundWeight → WeightToken
weight_token a i f = record { start = a; stop = i; found = f }

abbrev pub marked_from : (start : ℕ) → Mark → Token → WeightToken
marked_from a k t = weight_token a t.stop (as_weight k t.found)

unfoldable pub weight_at : List ℕ → ℕ → WeightToken
weight_at s at =
    pick (eqb (get_or s at 0) 45)
    (marked_from at (record { 0 = struck_mark }) (number_at s (at + 1) (greatest + 1)))
    (marked_from at (record { 0 = standing }) (number_at s at (greatest + 1)))

unfoldable pub separator_at : List ℕ → ℕ → Separator
separator_at s at = pick (eqb (get_or s at 0) 32) (Space (at + 1)) (pick (eqb (get_or s at 0) 10) (LineEnd (at + 1)) Neither)
