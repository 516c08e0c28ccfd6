-- What is printed of a changed table. Assumes nothing: these are definitions.
use Rattle.std.specs.Prelude.{◌≡◌, ◌⊎◌, List, ℕ, ◌≤◌, length, Ok, Err}
use Rattle.weights.specs.declared.Measure.{Measure}
use Rattle.weights.specs.Figures.{standing, struck_mark}
use Rattle.refusal.specs.declared.Refusal.{Refusal}
use Rattle.refusal.specs.declared.Refusal.TheVariants.{TextRoom}
use Rattle.refusal.specs.declared.Counts.{Counts}
use Rattle.columns.specs.Columns.{Entries, Columns, with_own, with_strike}
use Rattle.columns.specs.Longer.{NewLine, in_use_of, longer}
use Rattle.reprice.specs.Repricing.{repriced, stricken, restored}
use Rattle.append.specs.Appending.{appended}
use Rattle.text.specs.Render.{render}
use Rattle.report.specs.Report.{most_input, refused_line}
use Rattle.reply.specs.declared.Status.TheVariants.{Answered}
use Rattle.reply.specs.Reply.{Said, answered, refused_by}
use Rattle.amend.specs.Amend.{repriced_said, stricken_said, restored_said, appended_said}
use Rattle.refusal.specs.Answers.{Acceptance}

-- the text of table t if an input may be so long, and else the line of 15
pub record Printed (m : Measure) (t : Columns) (s : Said) : Type 0 where
  pub fits : length (render m t) ≤ most_input → s ≡ answered (render m t)
  pub long : ¬ (length (render m t) ≤ most_input) → s ≡ refused_by TextRoom
  -- so what is printed as an answer is the text, and nothing else is printed than these two
  pub text : s.status ≡ Answered → s.bytes ≡ render m t
  pub either : (s.status ≡ Answered) ⊎ (s.bytes ≡ refused_line TextRoom)

-- a change of a line that had this answer prints the table t, as it then is, or the line of its refusal
pub record Amends (m : Measure) (t : Columns) (x : Acceptance) (s : Said) : Type 0 where
  pub done : x ≡ Ok tt → Printed m t s
  pub turned : (r : Refusal) → x ≡ Err r → s ≡ refused_by r

-- repricing line e to w, striking and restoring it, on any columns
abbrev pub Reprices : Measure → Columns → Entries → (e w : ℕ) → Type 0
Reprices m c a e w = Amends m (with_own c e w) (repriced m c a e w).result (repriced_said m c a e w)

abbrev pub Strikes : Measure → Columns → Entries → ℕ → Type 0
Strikes m c a e = Amends m (with_strike c e struck_mark) (stricken m c a e).result (stricken_said m c a e)

abbrev pub Restores : Measure → Columns → Entries → ℕ → Type 0
Restores m c a e = Amends m (with_strike c e standing) (restored m c a e).result (restored_said m c a e)

-- appending: the lines that were in use, and the new one behind them
pub record Appends (m : Measure) (c : Columns) (k : Counts) (a : Entries) (index list : List ℕ) (l : NewLine) : Type 0 where
  pub done : (k' : Counts) → (appended m c k a index list l).result ≡ Ok k' → Printed m (longer (in_use_of c k) l) (appended_said m c k a index list l)
  pub turned : (r : Refusal) → (appended m c k a index list l).result ≡ Err r → appended_said m c k a index list l ≡ refused_by r
