-- Checking answers: yes exactly if they are the table's. The paper's "The calls". Assumes nothing: these are definitions.
use Rattle.std.specs.Prelude.{Bool, Ok, Err}
use Rattle.weights.specs.declared.Measure.{Measure}
use Rattle.refusal.specs.declared.Refusal.TheVariants.{WrongAnswers}
use Rattle.columns.specs.Columns.{Entries, Columns}
use Rattle.columns.specs.Acceptance.{test, lent_acceptance}
use Rattle.columns.specs.Same.{same_entries}
use Rattle.settle.specs.Settling.{entries_of}
use Rattle.refusal.specs.Answers.{Acceptance, Verdict}

abbrev pub verdict : Acceptance → Bool → Verdict
verdict (Err r) b = Err r
verdict (Ok _) b = Ok b

-- yes if the lent answers are those of the table, and otherwise no, never 8
unfoldable pub checked : Measure → Columns → Entries → Verdict
checked m c a = verdict (lent_acceptance c a) (same_entries a (entries_of m c))

-- 8, of the calls that rely on lent answers: the lent answers are this table's
abbrev pub answers_acceptance : Measure → Columns → Entries → Acceptance
answers_acceptance m c a = test (same_entries a (entries_of m c)) WrongAnswers (Ok tt)
