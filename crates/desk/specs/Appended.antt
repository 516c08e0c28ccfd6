-- What the program says of a line that is to be appended to a table. Assumes nothing: these are definitions.
use Rattle.std.specs.Prelude.{ℕ, ◌+◌, ◌≤◌, ◌<◌, ◌≡◌, length, get_or}
use Rattle.weights.specs.declared.Measure.{Measure}
use Rattle.weights.specs.Figures.{greatest}
use Rattle.refusal.specs.declared.Refusal.{Refusal}
use Rattle.refusal.specs.declared.Refusal.TheVariants.{Lengths, Head, Own, Span, Tail}
use Rattle.columns.specs.Columns.{Columns}
use Rattle.columns.specs.Acceptance.{most_edges, most_listed, longest_tail}
use Rattle.columns.specs.Longer.{NewLine, end_of, longer, RightLine}
use Rattle.reply.specs.Reply.{Said, refused_by}
use Rattle.amend.specs.Printed.{Printed}

-- the longer table has at most 4,096 lines and 16,384 needed parts
pub record Roomy (c : Columns) (l : NewLine) : Type 0 where
  pub lines : length c.heads < most_edges
  pub parts : end_of c + length l.tail ≤ most_listed

abbrev pub Listable : Columns → NewLine → Type 0
Listable c l = (k : ℕ) → k < length l.tail → get_or l.tail k 0 < c.vertices

-- 2, then 3, 4, 5 and 6 of the line, with its new number as place; a typed line is not struck, so 21 does not apply
pub data WrongLine (c : Columns) (l : NewLine) : Refusal → Type 0 where
  full : ¬ Roomy c l → WrongLine c l Lengths
  head : Roomy c l → ¬ (l.head < c.vertices) → WrongLine c l (Head (record { 0 = length c.heads }))
  own : Roomy c l → l.head < c.vertices → ¬ (l.own ≤ greatest) → WrongLine c l (Own (record { 0 = length c.heads }))
  long : Roomy c l → l.head < c.vertices → l.own ≤ greatest → ¬ (length l.tail ≤ longest_tail) → WrongLine c l (Span (record { 0 = length c.heads }))
  unlisted : Roomy c l → l.head < c.vertices → l.own ≤ greatest → length l.tail ≤ longest_tail → ¬ Listable c l → WrongLine c l (Tail (record { 0 = length c.heads }))

-- a right line is appended and the text of the longer table printed; a wrong one is refused
pub record AppendTold (m : Measure) (c : Columns) (l : NewLine) (s : Said) : Type 0 where
  pub done : Roomy c l → RightLine c.vertices l → Printed m (longer c l) s
  pub turned : (r : Refusal) → WrongLine c l r → s ≡ refused_by r
