-- Figures and strike marks: their limits, and the capped sum. The paper's "The table" (own figures, struck; document 02, 2026-02: strike marks) and "Make-ups, figures,
-- depth" (ceiling, over).
-- Assumes nothing: these are definitions.
use Rattle.std.specs.Prelude.{ℕ, min, Bool, eqb}

-- the greatest own figure
abbrev pub greatest : ℕ
greatest = 1_000_000_000

-- the paper's strike mark of a line, which is no figure: 0, it stands, or 1, it is struck
abbrev pub standing : ℕ
standing = 0

abbrev pub struck_mark : ℕ
struck_mark = 1

abbrev pub is_struck_mark : ℕ → Bool
is_struck_mark x = eqb x struck_mark

-- the greatest sum
abbrev pub ceiling : ℕ
ceiling = 1_000_000_000_000

-- the mark "over": what a sum above the ceiling becomes
abbrev pub over : ℕ
over = 1_000_000_000_001

-- "A sum above the ceiling, 1,000,000,000,000, becomes 1,000,000,000,001": `over` is the number behind the ceiling, so it is the least of the sum and `over`
abbrev pub capped : ℕ → ℕ
capped x = min x over

abbrev pub is_over : ℕ → Bool
is_over x = eqb x over

-- no figure: the value of a line that gives none (document 02, 2026-04). It is above every figure, `value_finite`
abbrev pub none : ℕ
none = 18446744073709551615
