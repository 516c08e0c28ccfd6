-- What a refusal's number and place are, and the one number that a caller in C gets. The paper's table of refusals, and "The calls" for C.
-- Assumes nothing: these are definitions.
use Rattle.std.specs.Prelude.{eqb, ℕ, ◌+◌, ◌*◌, min, Bool, true, false, Result, Ok, Err}
use Rattle.weights.specs.declared.Measure.TheVariants.{Cost, Days, Grade}
use Rattle.weights.specs.Choice.{pick}
use Rattle.refusal.specs.declared.Refusal.{Refusal}
use Rattle.refusal.specs.declared.Refusal.TheVariants.{
  TooManyVertices,
  Lengths,
  Head,
  Own,
  Span,
  Tail,
  AnswerLength,
  WrongAnswers,
  NoSuchEdge,
  NewWeight,
  NoSuchVertex,
  Underivable,
  BillRoom,
  Text,
  TextRoom,
  MeasureNumber,
  InputLength,
  ColumnRoom,
  WrongIndex,
  NotStruck,
  StrikeMark,
  SampleSize,
  TooLarge,
  Order,
  EventVertex,
  OpeningCount,
  ReceivedCount,
  ByteRoom,
}
use Rattle.refusal.specs.declared.Code.{Code}
use Rattle.refusal.specs.Answers.{MeasureChoice, Acceptance, Verdict, Extent, Reading}

-- a number and a place, with no column
abbrev pub code : (number place : ℕ) → Code
code n p = record { number = n; place = p; column = 0 }

-- the paper's table: a table line as place for 3 to 6, 21 and 24, a text line for 14, a result's index for 23, an event for 25, a part or an event for 26, otherwise 0;
-- and by document 02, 2026-06, "Refusal 14 then returns line and column, counted from 1"
abbrev pub code_of : Refusal → Code
code_of TooManyVertices = code 1 0
code_of Lengths = code 2 0
code_of (Head e) = code 3 e.0
code_of (Own e) = code 4 e.0
code_of (Span e) = code 5 e.0
code_of (Tail e) = code 6 e.0
code_of AnswerLength = code 7 0
code_of WrongAnswers = code 8 0
code_of NoSuchEdge = code 9 0
code_of NewWeight = code 10 0
code_of NoSuchVertex = code 11 0
code_of Underivable = code 12 0
code_of BillRoom = code 13 0
code_of (Text line column) = record { number = 14; place = line.0; column = column.0 }
code_of TextRoom = code 15 0
code_of MeasureNumber = code 16 0
code_of InputLength = code 17 0
code_of ColumnRoom = code 18 0
code_of WrongIndex = code 19 0
code_of NotStruck = code 20 0
code_of (StrikeMark e) = code 21 e.0
code_of SampleSize = code 22 0
code_of (TooLarge i) = code 23 i.0
code_of (Order e) = code 24 e.0
code_of (EventVertex i) = code 25 i.0
code_of (OpeningCount v) = code 26 v.0
code_of (ReceivedCount i) = code 26 i.0
code_of ByteRoom = code 27 0

abbrev pub number_of : Refusal → ℕ
number_of r = (code_of r).number

abbrev pub place_of : Refusal → ℕ
place_of r = (code_of r).place

abbrev pub column_of : Refusal → ℕ
column_of r = (code_of r).column

-- the greatest place that a result in C can hold
abbrev pub last_place : ℕ
last_place = 4_294_967_295

-- in C: the number times 2^32, plus the place. A table has at most 4,096 lines, so no place of a call is cut: `exact`
abbrev pub result_of : Code → ℕ
result_of c = c.number * 4_294_967_296 + min c.place last_place

-- in C: what an accepted call tells, or the refusal's number and place
abbrev pub answer_result : {T : Type 0} → (T → ℕ) → Result T Refusal → ℕ
answer_result told (Ok x) = told x
answer_result told (Err r) = result_of (code_of r)

-- yes is 1, no is 0
abbrev pub truth : Bool → ℕ
truth true = 1
truth false = 0

-- in C: 0 on acceptance; 1 for yes, 0 for no; a length as it is
abbrev pub acceptance_result : Acceptance → ℕ
acceptance_result = answer_result (λ _. 0)

abbrev pub verdict_result : Verdict → ℕ
verdict_result = answer_result truth

abbrev pub extent_result : Extent → ℕ
extent_result = answer_result (λ n. n)

-- what a text said of its table stands beside the number
abbrev pub reading_result : Reading → ℕ
reading_result = answer_result (λ _. 0)

-- the measure's number from C: 0 is cost, 1 is days, 2 is grade, and any other is refused by 16
abbrev pub measure_of : ℕ → MeasureChoice
measure_of n = pick (eqb n 0) (Ok Cost) (pick (eqb n 1) (Ok Days) (pick (eqb n 2) (Ok Grade) (Err MeasureNumber)))
