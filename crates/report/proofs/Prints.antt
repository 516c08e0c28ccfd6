-- The listing program's three cases, and demand 2's last sentence. Assumes nothing.
use mathlib.Core.Path.{◌≡◌, refl, sym, ◌∙◌, ap, subst}
use mathlib.Core.List.{List}
use Prim.Native.Nat.{ℕ, suc, ◌≤◌}
use native.Mathlib.Omega.{arith}
use native.Mathlib.Decide.{dec_le}
use lib.ListN.{length, take}
use Rattle.weights.specs.declared.Measure.{Measure}
use Rattle.columns.specs.Columns.{Columns}
use Rattle.settle.specs.Settling.{entries_of}
use Rattle.text.specs.Tables.{closed}
use Rattle.text.specs.Machine.{Parse, Whole, Wrong, parse}
use Rattle.text.proofs.Permitted.{read_permitted, wrong_unpermitted}
use Rattle.readtable.specs.Read.{ReadOutcome, columns_read, read_table}
use Rattle.writetable.specs.Write.{write_table}
use Rattle.roundtrip.specs.RoundTrip.{Room, header_for}
use Rattle.roundtrip.proofs.RoundTrip.{written, read_after_write}
use Rattle.report.specs.Report.{most_input, report}
use Rattle.report.proofs.Closed.{entries_closed, filled_back}
use Rattle.report.proofs.Reports.{report_long, report_rendered, report_unpermitted}
use Rattle.report.specs.Prints.{Prints, ReadsBack}
use Rattle.std.specs.Prelude.{Ok}

short_prints : (input : List ℕ) → length input ≤ most_input → (P : Parse) → parse input ≡ P → Prints input (report input)
short_prints input h (Whole u) e =
    let p = read_permitted input u e in
    let s = p.same in
    let k = subst (λ (z : List ℕ). length z ≤ most_input) s h in
    subst (Prints input) (sym (ap report s ∙ report_rendered p.measure p.table p.accepted k)) (Prints.listed h p)
short_prints input h (Wrong k) e =
    let n = wrong_unpermitted input k e in
    let u = report_unpermitted input h n in
    subst (Prints input) (sym u.2) (Prints.wrong h n u.0 u.1 u.3 u.4)

-- "The listing program reads this on standard input … and prints": for every input
pub prints : (input : List ℕ) → Prints input (report input)
prints input = go (dec_le (length input) most_input)
  where
    go : Dec (length input ≤ most_input) → Prints input (report input)
    go (yes h) = short_prints input h (parse input) refl
    go (no h) = let l : suc most_input ≤ length input = omega arith in subst (Prints input) (sym (report_long input l)) (Prints.long l)

-- "Read after write gives the table with its gaps closed", which has the same answers
pub reads_back : (m : Measure) (c : Columns) (room : List ℕ) (k : ℕ) (h o ms s t : List ℕ) → (write_table m c room).answer ≡ Ok k → Room (closed c) h o ms s t
    → ReadsBack m c (read_table (take k (write_table m c room).room) h o ms s t)
reads_back m c room k h o ms s t e r =
    let a = (written m c room k e).0 in
    let q = read_after_write m c room k h o ms s t e r in
    let b = ap (columns_read (header_for m (closed c))) q ∙ filled_back m c a h o ms s t in
    record { told = ap (λ (x : ReadOutcome). x.answer) q; table = b; answers = ap (entries_of m) b ∙ entries_closed m c a }
