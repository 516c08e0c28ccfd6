-- When a line is appended, and by what the call is refused. Document 02, 2026-01: "Turned away: 18 …, after 7 …; 19 …, after 18 and before 8; a bad new line by 3 to 6,
-- tried after the lines that stand, with its new number as place; 2 also where a count in use passes its column …", with 21 between 4 and 5 (2026-02). Assumes nothing:
-- these are definitions.
use Rattle.std.specs.Prelude.{List, ℕ, ◌+◌, ◌*◌, ◌≤◌, ◌<◌, length, get_or}
use Rattle.weights.specs.declared.Measure.{Measure}
use Rattle.weights.specs.Figures.{greatest, struck_mark}
use Rattle.refusal.specs.declared.Refusal.{Refusal}
use Rattle.refusal.specs.declared.Refusal.TheVariants.{TooManyVertices, Lengths, Head, Own, Span, Tail, AnswerLength, WrongAnswers, ColumnRoom, WrongIndex, StrikeMark}
use Rattle.refusal.specs.declared.Counts.{Counts}
use Rattle.columns.specs.Columns.{Entries, SizedEntries, Columns}
use Rattle.columns.specs.Acceptance.{most_edges, most_listed, longest_tail}
use Rattle.columns.specs.Right.{Few, RightTable, WrongTable}
use Rattle.columns.specs.Longer.{NewLine, in_use_of, longer, RightLine}
use Rattle.settle.specs.Defined.{AllMean}
use Rattle.indextable.specs.Asked.{IndexFits, IsIndex}
use Rattle.append.specs.Appending.{new_end}

-- no count in use passes its column, and with a line that lists `size` parts the longer table has at most 4,096 lines and 16,384 needed parts
pub record RightCounts (c : Columns) (k : Counts) (size : ℕ) : Type 0 where
  pub heads : k.edges ≤ length c.heads
  pub own : k.edges ≤ length c.own
  pub strikes : k.edges ≤ length c.strikes
  pub spans : 2 * k.edges ≤ length c.spans
  pub tails : k.listed ≤ length c.tails
  pub in_use : k.listed ≤ most_listed
  pub edges : k.edges + 1 ≤ most_edges
  pub listed : new_end c k + size ≤ most_listed

-- the first of 3, 4, 21, 5 and 6 that applies to the new line, whose number is e; "5 for a new line means only a list above 16"
pub data WrongLine (n e : ℕ) (l : NewLine) : Refusal → Type 0 where
  head : ¬ (l.head < n) → WrongLine n e l (Head (record { 0 = e }))
  own : l.head < n → ¬ (l.own ≤ greatest) → WrongLine n e l (Own (record { 0 = e }))
  mark : l.head < n → l.own ≤ greatest → ¬ (l.mark ≤ struck_mark) → WrongLine n e l (StrikeMark (record { 0 = e }))
  span : l.head < n → l.own ≤ greatest → l.mark ≤ struck_mark → ¬ (length l.tail ≤ longest_tail) → WrongLine n e l (Span (record { 0 = e }))
  tail : l.head < n → l.own ≤ greatest → l.mark ≤ struck_mark → length l.tail ≤ longest_tail → ¬ ((j : ℕ) → j < length l.tail → get_or l.tail j 0 < n)
      → WrongLine n e l (Tail (record { 0 = e }))

-- every column has places to spare for the new line, and those of the index for the longer table's
pub record RightRoom (c : Columns) (k : Counts) (l : NewLine) (index list : List ℕ) : Type 0 where
  pub heads : k.edges < length c.heads
  pub own : k.edges < length c.own
  pub strikes : k.edges < length c.strikes
  pub spans : 2 * k.edges + 2 ≤ length c.spans
  pub tails : new_end c k + length l.tail ≤ length c.tails
  pub indexed : IndexFits (longer (in_use_of c k) l) index list

-- 1, 2, the lines that stand, the new line, 7, 18, 19, 8; index and answers are those of the table in use
pub record RightAppend (m : Measure) (c : Columns) (k : Counts) (a : Entries) (index list : List ℕ) (l : NewLine) : Type 0 where
  pub few : Few c
  pub counts : RightCounts c k (length l.tail)
  pub table : RightTable (in_use_of c k)
  pub line : RightLine c.vertices l
  pub sized : SizedEntries c.vertices a
  pub room : RightRoom c k l index list
  pub indexed : IsIndex (in_use_of c k) index list
  pub answers : AllMean m (in_use_of c k) a

pub data WrongAppend (m : Measure) (c : Columns) (k : Counts) (a : Entries) (index list : List ℕ) (l : NewLine) : Refusal → Type 0 where
  many : ¬ Few c → WrongAppend m c k a index list l TooManyVertices
  counts : Few c → ¬ RightCounts c k (length l.tail) → WrongAppend m c k a index list l Lengths
  table : {r : Refusal} → Few c → RightCounts c k (length l.tail) → WrongTable (in_use_of c k) r → WrongAppend m c k a index list l r
  line : {r : Refusal} → Few c → RightCounts c k (length l.tail) → RightTable (in_use_of c k) → WrongLine c.vertices k.edges l r → WrongAppend m c k a index list l r
  sized : Few c → RightCounts c k (length l.tail) → RightTable (in_use_of c k) → RightLine c.vertices l → ¬ SizedEntries c.vertices a
      → WrongAppend m c k a index list l AnswerLength
  room : Few c → RightCounts c k (length l.tail) → RightTable (in_use_of c k) → RightLine c.vertices l → SizedEntries c.vertices a
      → ¬ RightRoom c k l index list → WrongAppend m c k a index list l ColumnRoom
  index : Few c → RightCounts c k (length l.tail) → RightTable (in_use_of c k) → RightLine c.vertices l → SizedEntries c.vertices a
      → RightRoom c k l index list → ¬ IsIndex (in_use_of c k) index list → WrongAppend m c k a index list l WrongIndex
  answers : Few c → RightCounts c k (length l.tail) → RightTable (in_use_of c k) → RightLine c.vertices l → SizedEntries c.vertices a
      → RightRoom c k l index list → IsIndex (in_use_of c k) index list → ¬ AllMean m (in_use_of c k) a → WrongAppend m c k a index list l WrongAnswers
