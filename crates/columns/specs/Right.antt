-- What a table must be to be accepted, in plain numbers, and what is wrong with one that is refused. The paper's "The table" and, of "What is turned away", 1 to 7
-- in their order, with 21 between 4 and 5 (document 02, 2026-02). Assumes nothing: these are definitions.
use Rattle.std.specs.Prelude.{◌≡◌, ℕ, zero, suc, ◌+◌, ◌*◌, ◌≤◌, ◌<◌, length, get_or}
use Rattle.weights.specs.Figures.{greatest, struck_mark}
use Rattle.refusal.specs.declared.Refusal.{Refusal}
use Rattle.refusal.specs.declared.Refusal.TheVariants.{TooManyVertices, Lengths, Head, Own, Span, Tail, AnswerLength, StrikeMark}
use Rattle.columns.specs.Columns.{Entries, SizedEntries, Columns, head_at, own_at, strike_at, offset_at, length_at}
use Rattle.columns.specs.Acceptance.{most_vertices, most_edges, most_listed, longest_tail}

-- "There are n parts, … n from 0 to 1,024"
abbrev pub Few : Columns → Type 0
Few c = c.vertices ≤ most_vertices

-- "0 to 4,096 lines"; own figures and strike marks as many as heads, spans twice as many; "the needed parts, at most 16,384"
pub record Level (c : Columns) : Type 0 where
  pub own : length c.own ≡ length c.heads
  pub strikes : length c.strikes ≡ length c.heads
  pub edges : length c.heads ≤ most_edges
  pub spans : length c.spans ≡ 2 * length c.heads
  pub tails : length c.tails ≤ most_listed

-- where the span before line e ends; for the first, 0
abbrev pub end_before : Columns → ℕ → ℕ
end_before c zero = 0
end_before c (suc e) = offset_at c e + length_at c e

-- a line's head is a part; its own figure is at most the greatest, struck or not; its strike mark is 0 or 1
abbrev pub RightHead : Columns → ℕ → Type 0
RightHead c e = head_at c e < c.vertices

abbrev pub RightOwn : Columns → ℕ → Type 0
RightOwn c e = own_at c e ≤ greatest

abbrev pub RightMark : Columns → ℕ → Type 0
RightMark c e = strike_at c e ≤ struck_mark

-- "A span starts at or after the end of the span before it (the first, at or after 0)"; "a list of 0 to 16 parts"; it does not pass the column's end
pub record RightSpan (c : Columns) (e : ℕ) : Type 0 where
  pub from : end_before c e ≤ offset_at c e
  pub short : length_at c e ≤ longest_tail
  pub within : offset_at c e + length_at c e ≤ length c.tails

-- every place of its span holds a part
abbrev pub RightTail : Columns → ℕ → Type 0
RightTail c e = (k : ℕ) → k < length_at c e → get_or c.tails (offset_at c e + k) 0 < c.vertices

pub record RightEdge (c : Columns) (e : ℕ) : Type 0 where
  pub head : RightHead c e
  pub own : RightOwn c e
  pub mark : RightMark c e
  pub span : RightSpan c e
  pub tail : RightTail c e

-- none of 1 to 6 and 21 applies
pub record RightTable (c : Columns) : Type 0 where
  pub few : Few c
  pub level : Level c
  pub each : (e : ℕ) → e < length c.heads → RightEdge c e

-- the first of 3, 4, 21, 5 and 6 that applies to line e
pub data WrongEdge (c : Columns) (e : ℕ) : Refusal → Type 0 where
  head : ¬ RightHead c e → WrongEdge c e (Head (record { 0 = e }))
  own : RightHead c e → ¬ RightOwn c e → WrongEdge c e (Own (record { 0 = e }))
  mark : RightHead c e → RightOwn c e → ¬ RightMark c e → WrongEdge c e (StrikeMark (record { 0 = e }))
  span : RightHead c e → RightOwn c e → RightMark c e → ¬ RightSpan c e → WrongEdge c e (Span (record { 0 = e }))
  tail : RightHead c e → RightOwn c e → RightMark c e → RightSpan c e → ¬ RightTail c e → WrongEdge c e (Tail (record { 0 = e }))

-- line e is the first that is not right, and r the first of its refusals
pub record FirstWrong (c : Columns) (e : ℕ) (r : Refusal) : Type 0 where
  pub numbered : e < length c.heads
  pub before : (x : ℕ) → x < e → RightEdge c x
  pub wrong : WrongEdge c e r

-- "Order: … 1, 2, then line by line from 0 with 3, 4, 5, 6 in each", and 21 after 4
pub data WrongTable (c : Columns) : Refusal → Type 0 where
  many : ¬ Few c → WrongTable c TooManyVertices
  unlevel : Few c → ¬ Level c → WrongTable c Lengths
  edge : {r : Refusal} → Few c → Level c → (e : ℕ) → FirstWrong c e r → WrongTable c r

-- with "three lent answer columns of exactly n places", and a fourth (document 02, 2026-09); 7 comes behind the table's own refusals
pub record RightLent (c : Columns) (a : Entries) : Type 0 where
  pub table : RightTable c
  pub sized : SizedEntries c.vertices a

pub data WrongLent (c : Columns) (a : Entries) : Refusal → Type 0 where
  table : {r : Refusal} → WrongTable c r → WrongLent c a r
  answers : RightTable c → ¬ SizedEntries c.vertices a → WrongLent c a AnswerLength
