-- What a refusal's number and place are, and the one number that a caller in C gets. The paper's table of refusals, and "The calls" for C.
-- These are their laws. Assumes nothing.
use mathlib.Core.Path.{◌≡◌}
use Prim.Native.Nat.{◌+◌, ◌*◌, ◌≤◌}
use native.Mathlib.Omega.{arith}
use Rattle.refusal.specs.declared.Refusal.{Refusal}
use Rattle.refusal.specs.declared.Refusal.TheVariants.{
  TooManyVertices,
  Lengths,
  Head,
  Own,
  Span,
  Tail,
  AnswerLength,
  WrongAnswers,
  NoSuchEdge,
  NewWeight,
  NoSuchVertex,
  Underivable,
  BillRoom,
  Text,
  TextRoom,
  MeasureNumber,
  InputLength,
  ColumnRoom,
  WrongIndex,
  NotStruck,
  StrikeMark,
  SampleSize,
  TooLarge,
  Order,
  EventVertex,
  OpeningCount,
  ReceivedCount,
  ByteRoom,
}
use Rattle.refusal.specs.declared.Code.{Code}
use Rattle.refusal.specs.Refusals.{number_of, last_place, result_of}

pub exact : (c : Code) → c.place ≤ last_place → result_of c ≡ c.number * 4_294_967_296 + c.place
exact c h = omega arith

-- they are numbered from 1 to 27
pub numbered : (r : Refusal) → (1 ≤ number_of r) × (number_of r ≤ 27)
numbered TooManyVertices = omega arith
numbered Lengths = omega arith
numbered (Head e) = omega arith
numbered (Own e) = omega arith
numbered (Span e) = omega arith
numbered (Tail e) = omega arith
numbered AnswerLength = omega arith
numbered WrongAnswers = omega arith
numbered NoSuchEdge = omega arith
numbered NewWeight = omega arith
numbered NoSuchVertex = omega arith
numbered Underivable = omega arith
numbered BillRoom = omega arith
numbered (Text line column) = omega arith
numbered TextRoom = omega arith
numbered MeasureNumber = omega arith
numbered InputLength = omega arith
numbered ColumnRoom = omega arith
numbered WrongIndex = omega arith
numbered NotStruck = omega arith
numbered (StrikeMark e) = omega arith
numbered SampleSize = omega arith
numbered (TooLarge i) = omega arith
numbered (Order e) = omega arith
numbered (EventVertex i) = omega arith
numbered (OpeningCount v) = omega arith
numbered (ReceivedCount i) = omega arith
numbered ByteRoom = omega arith
