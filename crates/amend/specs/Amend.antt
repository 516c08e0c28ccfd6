-- What a desk's command says that changes a table: the text of the table as it then is, or the line of a refusal. Assumes nothing: these are definitions.
use Rattle.std.specs.Prelude.{ℕ, ◌*◌, ◌≤◌, List, length, replicate, Ok, Err}
use Rattle.weights.specs.declared.Measure.{Measure}
use Rattle.refusal.specs.declared.Counts.{Counts}
use Rattle.columns.specs.Columns.{Entries, Columns}
use Rattle.columns.specs.Longer.{NewLine, in_use_of}
use Rattle.reprice.specs.Repricing.{repriced, stricken, restored}
use Rattle.reprice.specs.Restoring.{with_strikes}
use Rattle.append.specs.Appending.{appended}
use Rattle.append.specs.Changes.{with_figures}
use Rattle.text.specs.Render.{render}
use Rattle.writetable.specs.Write.{write_table}
use Rattle.report.specs.Report.{most_input}
use Rattle.reply.specs.Reply.{Said, answered, refused_by, on_acceptance, on_extent}
use Rattle.refusal.specs.Answers.{Appending}

-- the text of a table, written into the room of an input: a longer one could not be read back and is refused by 15
unfoldable pub text_said : Measure → Columns → Said
text_said m c = on_extent (write_table m c (replicate most_input 0)).answer (λ _. answered (render m c))

-- line e is repriced to w, struck, or restored
unfoldable pub repriced_said : Measure → Columns → Entries → (e w : ℕ) → Said
repriced_said m c a e w = let o = repriced m c a e w in on_acceptance o.result (text_said m (with_figures c o.own))

unfoldable pub stricken_said : Measure → Columns → Entries → ℕ → Said
stricken_said m c a e = let o = stricken m c a e in on_acceptance o.result (text_said m (with_strikes c o.strikes))

unfoldable pub restored_said : Measure → Columns → Entries → ℕ → Said
restored_said m c a e = let o = restored m c a e in on_acceptance o.result (text_said m (with_strikes c o.strikes))

-- by what appending returned: the counts that are then in use, or its refusal
unfoldable pub on_appending : Appending → (Counts → Said) → Said
on_appending (Ok k) f = f k
on_appending (Err r) f = refused_by r

-- a line is appended
unfoldable pub appended_said : Measure → Columns → Counts → Entries → (index list : List ℕ) → NewLine → Said
appended_said m c k a index list l = let o = appended m c k a index list l in on_appending o.result (λ k'. text_said m (in_use_of o.table k'))

-- what printing the lines in use asks: the counts pass no column
pub record Placed (c : Columns) (k : Counts) : Type 0 where
  pub heads : k.edges ≤ length c.heads
  pub own : k.edges ≤ length c.own
  pub strikes : k.edges ≤ length c.strikes
  pub spans : 2 * k.edges ≤ length c.spans
  pub tails : k.listed ≤ length c.tails
