-- A table that a command printed is priced as the table that it is.
-- And `price` prints what the listing program prints: by the length of the input, by what reading it returned, and by what settling returned. Assumes nothing.
use mathlib.Core.Path.{◌≡◌, refl, ◌∙◌, ap}
use mathlib.Core.Bool.{Bool, true, false}
use mathlib.Core.List.{List}
use Prim.Native.Nat.{ℕ, ◌≤◌}
use lib.ListN.{length, replicate}
use lib.Dec.{ltb}
use Rattle.weights.specs.Choice.{pick}
use Rattle.refusal.specs.declared.Refusal.TheVariants.{InputLength}
use Rattle.columns.specs.Columns.{Entries, Columns}
use Rattle.columns.specs.Acceptance.{acceptance}
use Rattle.weights.specs.declared.Measure.{Measure}
use Rattle.text.specs.Render.{render}
use Rattle.amend.specs.Printed.{Printed}
use Rattle.report.proofs.Reports.{report_rendered}
use Rattle.settle.specs.Settling.{settled}
use Rattle.readtable.specs.Read.{ReadOutcome, columns_read}
use Rattle.report.specs.Report.{most_input, list, refused_line, priced_as, blank_entries, listed_as, listed, read_input, report}
use Rattle.reply.specs.Reply.{Said, answered, refused_by, on_acceptance}
use Rattle.command.specs.declared.Command.TheVariants.{Ask}
use Rattle.command.specs.declared.Query.TheVariants.{Settled}
use Rattle.command.specs.declared.Question.TheVariants.{Price}
use Rattle.command.specs.Command.{most_numbers, CommandLine}
use Rattle.command.proofs.Lines.{price_line}
use Rattle.desk.specs.Desk.{settled_said, on_reading, input_said, command_said, desk_said}
use Rattle.desk.specs.Priced.{PricesAsListed, PricesAgain}
use Rattle.refusal.specs.Answers.{Acceptance, Reading}
use Rattle.std.specs.Prelude.{Ok, Err}

by_answer : (n : ℕ) (x : Acceptance) (a : Entries) → (on_acceptance x (answered (list a n))).bytes ≡ priced_as n x a
unfolding on_acceptance
by_answer n (Ok _) a = refl
by_answer n (Err r) a = refl

by_reading : (s : List ℕ) (k : ℕ) (ns : List ℕ) (a : Reading) (x : ReadOutcome) → (on_reading s (Ask (Settled Price)) k ns a x).bytes ≡ listed_as a x
unfolding listed_as settled_said
by_reading s k ns (Err r) x = refl
by_reading s k ns (Ok g) x =
    let o = settled g.measure (columns_read g x) (blank_entries g.vertices) in
    by_answer g.vertices o.result o.left

by_length : (b : Bool) (s : Said) (t : List ℕ) → s.bytes ≡ t → (pick b (refused_by InputLength) s).bytes ≡ pick b (refused_line InputLength) t
by_length true s t e = refl
by_length false s t e = e

pub prices_as_listed : (input second : List ℕ) → PricesAsListed input second
unfolding desk_said input_said report
prices_as_listed input second =
    ap (λ (z : CommandLine). (command_said second z.line.command z.line.count z.numbers input).bytes) price_line
    ∙ by_length (ltb most_input (length input)) (on_reading second (Ask (Settled Price)) 0 (replicate most_numbers 0) (read_input input).answer (read_input input)) (listed (read_input input))
    (by_reading second 0 (replicate most_numbers 0) (read_input input).answer (read_input input))

pub prices_again : (m : Measure) (t : Columns) (s : Said) → Printed m t s → acceptance t ≡ Ok tt → length (render m t) ≤ most_input → PricesAgain m t s
prices_again m t s p a h = ap (λ (z : Said). report z.bytes) (p.fits h) ∙ report_rendered m t a h
