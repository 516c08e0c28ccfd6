use mathlib.Core.Path.{sym, ◌∙◌, ap}
use Rattle.refusal.specs.Refusals.{code_of}
use Rattle.refusal.proofs.Refusal.code.Goals as goal

pub returns-in-TooManyVertices : goal.returns-in-TooManyVertices
returns-in-TooManyVertices c = c.of.ensures ∙ sym (ap code_of c.in-TooManyVertices.is)

pub returns-in-Lengths : goal.returns-in-Lengths
returns-in-Lengths c = c.of-in-Lengths.ensures ∙ sym (ap code_of c.in-Lengths.is)

pub returns-in-Head : goal.returns-in-Head
returns-in-Head c = c.of-in-Head.ensures ∙ sym (ap code_of c.in-Head.is)

pub returns-in-Own : goal.returns-in-Own
returns-in-Own c = c.of-in-Own.ensures ∙ sym (ap code_of c.in-Own.is)

pub returns-in-Span : goal.returns-in-Span
returns-in-Span c = c.of-in-Span.ensures ∙ sym (ap code_of c.in-Span.is)

pub returns-in-Tail : goal.returns-in-Tail
returns-in-Tail c = c.of-in-Tail.ensures ∙ sym (ap code_of c.in-Tail.is)

pub returns-in-AnswerLength : goal.returns-in-AnswerLength
returns-in-AnswerLength c = c.of-in-AnswerLength.ensures ∙ sym (ap code_of c.in-AnswerLength.is)

pub returns-in-WrongAnswers : goal.returns-in-WrongAnswers
returns-in-WrongAnswers c = c.of-in-WrongAnswers.ensures ∙ sym (ap code_of c.in-WrongAnswers.is)

pub returns-in-NoSuchEdge : goal.returns-in-NoSuchEdge
returns-in-NoSuchEdge c = c.of-in-NoSuchEdge.ensures ∙ sym (ap code_of c.in-NoSuchEdge.is)

pub returns-in-NewWeight : goal.returns-in-NewWeight
returns-in-NewWeight c = c.of-in-NewWeight.ensures ∙ sym (ap code_of c.in-NewWeight.is)

pub returns-in-NoSuchVertex : goal.returns-in-NoSuchVertex
returns-in-NoSuchVertex c = c.of-in-NoSuchVertex.ensures ∙ sym (ap code_of c.in-NoSuchVertex.is)

pub returns-in-Underivable : goal.returns-in-Underivable
returns-in-Underivable c = c.of-in-Underivable.ensures ∙ sym (ap code_of c.in-Underivable.is)

pub returns-in-BillRoom : goal.returns-in-BillRoom
returns-in-BillRoom c = c.of-in-BillRoom.ensures ∙ sym (ap code_of c.in-BillRoom.is)

pub returns-in-Text : goal.returns-in-Text
returns-in-Text c = c.of_text.ensures ∙ sym (ap code_of c.in-Text.is)

pub returns-in-TextRoom : goal.returns-in-TextRoom
returns-in-TextRoom c = c.of-in-TextRoom.ensures ∙ sym (ap code_of c.in-TextRoom.is)

pub returns-in-MeasureNumber : goal.returns-in-MeasureNumber
returns-in-MeasureNumber c = c.of-in-MeasureNumber.ensures ∙ sym (ap code_of c.in-MeasureNumber.is)

pub returns-in-InputLength : goal.returns-in-InputLength
returns-in-InputLength c = c.of-in-InputLength.ensures ∙ sym (ap code_of c.in-InputLength.is)

pub returns-in-ColumnRoom : goal.returns-in-ColumnRoom
returns-in-ColumnRoom c = c.of-in-ColumnRoom.ensures ∙ sym (ap code_of c.in-ColumnRoom.is)

pub returns-in-WrongIndex : goal.returns-in-WrongIndex
returns-in-WrongIndex c = c.of-in-WrongIndex.ensures ∙ sym (ap code_of c.in-WrongIndex.is)

pub returns-in-NotStruck : goal.returns-in-NotStruck
returns-in-NotStruck c = c.of-in-NotStruck.ensures ∙ sym (ap code_of c.in-NotStruck.is)

pub returns-in-StrikeMark : goal.returns-in-StrikeMark
returns-in-StrikeMark c = c.of-in-StrikeMark.ensures ∙ sym (ap code_of c.in-StrikeMark.is)

pub returns-in-SampleSize : goal.returns-in-SampleSize
returns-in-SampleSize c = c.of-in-SampleSize.ensures ∙ sym (ap code_of c.in-SampleSize.is)

pub returns-in-TooLarge : goal.returns-in-TooLarge
returns-in-TooLarge c = c.of-in-TooLarge.ensures ∙ sym (ap code_of c.in-TooLarge.is)

pub returns-in-Order : goal.returns-in-Order
returns-in-Order c = c.of-in-Order.ensures ∙ sym (ap code_of c.in-Order.is)

pub returns-in-EventVertex : goal.returns-in-EventVertex
returns-in-EventVertex c = c.of-in-EventVertex.ensures ∙ sym (ap code_of c.in-EventVertex.is)

pub returns-in-OpeningCount : goal.returns-in-OpeningCount
returns-in-OpeningCount c = c.of-in-OpeningCount.ensures ∙ sym (ap code_of c.in-OpeningCount.is)

pub returns-in-ReceivedCount : goal.returns-in-ReceivedCount
returns-in-ReceivedCount c = c.of-in-ReceivedCount.ensures ∙ sym (ap code_of c.in-ReceivedCount.is)

pub returns-in-ByteRoom : goal.returns-in-ByteRoom
returns-in-ByteRoom c = c.of-in-ByteRoom.ensures ∙ sym (ap code_of c.in-ByteRoom.is)
