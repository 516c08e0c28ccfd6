-- `writetable::put_text` meets its contract. The invariant: i lines are written behind the first. Assumes nothing.
use mathlib.Core.Path.{◌≡◌}
use lib.ListN.{length}
use Rattle.columns.specs.Columns.{columns}
use Rattle.writetable.proofs.Laws.{Putting}
use Rattle.writetable.proofs.put_text.Given as goal

abbrev pub invariant-loop-i : goal.invariant-loop-i
invariant-loop-i l = record {
  own_long : length l.table.own.now ≡ length l.table.heads.now;
  strikes_long : length l.table.strikes.now ≡ length l.table.heads.now;
  putting : Putting (columns l.table.vertices l.table.heads.now l.table.own.now l.table.strikes.now l.table.spans.now l.table.tails.now) l.initial.at l.initial.room l.i l.at l.room;
}
