-- A refusal can be told from its number, its place and its column: two different refusals differ in one of them, and only two of number 14 in the column alone.
-- The place of 26 is a part or an event, as document 02, 2026-12, has it, so the two refusals of that number are left out.
-- The paper's "A refusal returns its number and a place", and document 02, 2026-06: "Refusal 14 then returns line and column".
-- Assumes nothing.
use mathlib.Core.Path.{◌≡◌, refl, sym, ◌∙◌, ap}
use mathlib.Core.List.{List, [], ◌∷◌}
use Prim.Native.Nat.{ℕ}
use lib.ListN.{get_or}
use Rattle.refusal.specs.declared.Refusal.{Refusal}
use Rattle.refusal.specs.declared.Refusal.TheVariants.{
  TooManyVertices,
  Lengths,
  Head,
  Own,
  Span,
  Tail,
  AnswerLength,
  WrongAnswers,
  NoSuchEdge,
  NewWeight,
  NoSuchVertex,
  Underivable,
  BillRoom,
  Text,
  TextRoom,
  MeasureNumber,
  InputLength,
  ColumnRoom,
  WrongIndex,
  NotStruck,
  StrikeMark,
  SampleSize,
  TooLarge,
  Order,
  EventVertex,
  OpeningCount,
  ReceivedCount,
  ByteRoom,
}
use Rattle.refusal.specs.declared.Code.{Code}
use Rattle.refusal.specs.Refusals.{code_of, number_of}

-- the refusals with place p and column c, by number, from 1 on
abbrev numbered_at : (p c : ℕ) → List Refusal
numbered_at p c =
    NotStruck ∷ TooManyVertices ∷ Lengths ∷ Head (record { 0 = p }) ∷ Own (record { 0 = p }) ∷ Span (record { 0 = p }) ∷ Tail (record { 0 = p })
    ∷ AnswerLength ∷ WrongAnswers ∷ NoSuchEdge ∷ NewWeight ∷ NoSuchVertex ∷ Underivable ∷ BillRoom ∷ Text (record { 0 = p }) (record { 0 = c }) ∷ TextRoom ∷ MeasureNumber
    ∷ InputLength ∷ ColumnRoom ∷ WrongIndex ∷ NotStruck ∷ StrikeMark (record { 0 = p }) ∷ SampleSize ∷ TooLarge (record { 0 = p })
    ∷ Order (record { 0 = p }) ∷ EventVertex (record { 0 = p }) ∷ OpeningCount (record { 0 = p }) ∷ ByteRoom ∷ []

abbrev refusal_of : Code → Refusal
refusal_of c = get_or (numbered_at c.place c.column) c.number NotStruck

refusal_code : (r : Refusal) → ¬ (number_of r ≡ 26) → refusal_of (code_of r) ≡ r
refusal_code TooManyVertices n = refl
refusal_code Lengths n = refl
refusal_code (Head e) n = refl
refusal_code (Own e) n = refl
refusal_code (Span e) n = refl
refusal_code (Tail e) n = refl
refusal_code AnswerLength n = refl
refusal_code WrongAnswers n = refl
refusal_code NoSuchEdge n = refl
refusal_code NewWeight n = refl
refusal_code NoSuchVertex n = refl
refusal_code Underivable n = refl
refusal_code BillRoom n = refl
refusal_code (Text line column) n = refl
refusal_code TextRoom n = refl
refusal_code MeasureNumber n = refl
refusal_code InputLength n = refl
refusal_code ColumnRoom n = refl
refusal_code WrongIndex n = refl
refusal_code NotStruck n = refl
refusal_code (StrikeMark e) n = refl
refusal_code SampleSize n = refl
refusal_code (TooLarge i) n = refl
refusal_code (Order e) n = refl
refusal_code (EventVertex i) n = refl
refusal_code (OpeningCount v) n = refl
refusal_code (ReceivedCount i) n = absurd (n refl)
refusal_code ByteRoom n = refl

pub codes_differ : (r s : Refusal) → ¬ (number_of r ≡ 26) → code_of r ≡ code_of s → r ≡ s
codes_differ r s n e = sym (refusal_code r n) ∙ ap refusal_of e ∙ refusal_code s (λ q. n (ap (λ (c : Code). c.number) e ∙ q))
