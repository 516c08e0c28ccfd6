-- What the rule says of a table's lines, in plain numbers: "every line lists only parts with numbers below its head" (document 02, 2026-08); and what is
-- wrong with a table that is turned away. Assumes nothing: these are definitions.
use Rattle.std.specs.Prelude.{ℕ, ◌+◌, ◌≤◌, ◌<◌, length}
use Rattle.refusal.specs.declared.Refusal.{Refusal}
use Rattle.refusal.specs.declared.Refusal.TheVariants.{TooManyVertices, Lengths, AnswerLength, Order}
use Rattle.columns.specs.Columns.{Entries, SizedEntries, Columns, head_at, offset_at, length_at, cell}
use Rattle.columns.specs.Right.{Few, Level, RightEdge, RightTable, FirstWrong}

-- every place of line e's span holds a part below its head
abbrev pub RightOrder : Columns → ℕ → Type 0
RightOrder c e = (k : ℕ) → k < length_at c e → cell c.tails (offset_at c e + k) < head_at c e

-- none of 1 to 6, 21 and 24 applies
pub record RightOrdered (c : Columns) : Type 0 where
  pub table : RightTable c
  pub order : (e : ℕ) → e < length c.heads → RightOrder c e

-- 1, 2, then line by line with 3, 4, 21, 5, 6 and 24 in each: "24 for a line that lists its head or a higher part, after 6 in that line, with the line as place"
pub data WrongOrdered (c : Columns) : Refusal → Type 0 where
  many : ¬ Few c → WrongOrdered c TooManyVertices
  unlevel : Few c → ¬ Level c → WrongOrdered c Lengths
  edge : {r : Refusal} → Few c → Level c → (e : ℕ) → FirstWrong c e r → ((x : ℕ) → x < e → RightOrder c x) → WrongOrdered c r
  order : Few c → Level c → (e : ℕ) → e < length c.heads → ((x : ℕ) → x ≤ e → RightEdge c x) → ((x : ℕ) → x < e → RightOrder c x) → ¬ RightOrder c e
      → WrongOrdered c (Order (record { 0 = e }))

-- with four answer columns of exactly n places; 7 comes behind the table's own refusals
pub record RightOrderedLent (c : Columns) (a : Entries) : Type 0 where
  pub table : RightOrdered c
  pub sized : SizedEntries c.vertices a

pub data WrongOrderedLent (c : Columns) (a : Entries) : Refusal → Type 0 where
  table : {r : Refusal} → WrongOrdered c r → WrongOrderedLent c a r
  answers : RightOrdered c → ¬ SizedEntries c.vertices a → WrongOrderedLent c a AnswerLength
