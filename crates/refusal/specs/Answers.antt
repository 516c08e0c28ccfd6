-- What calls answer: a value, or the refusal. Assumes nothing: these are definitions.
use Rattle.std.specs.Prelude.{ℕ, Bool, Result}
use Rattle.weights.specs.declared.Measure.{Measure}
use Rattle.refusal.specs.declared.Refusal.{Refusal}
use Rattle.refusal.specs.declared.Header.{Header}
use Rattle.refusal.specs.declared.Counts.{Counts}

-- checking a table, settling, repricing, striking and shuffling
abbrev pub Acceptance : Type 0
Acceptance = Result Unit Refusal

-- checking answers: yes or no
abbrev pub Verdict : Type 0
Verdict = Result Bool Refusal

-- printing a bill, writing a text and indexing a table: the length of what was written
abbrev pub Extent : Type 0
Extent = Result ℕ Refusal

-- reading a text
abbrev pub Reading : Type 0
Reading = Result Header Refusal

-- appending a line: the new counts
abbrev pub Appending : Type 0
Appending = Result Counts Refusal

-- a measure, where a number from C is one
abbrev pub MeasureChoice : Type 0
MeasureChoice = Result Measure Refusal
