-- `writetable::text_width` meets its contract. The invariant: the first line and i lines more are measured. Assumes nothing.
use mathlib.Core.Path.{◌≡◌}
use lib.ListN.{length}
use Rattle.columns.specs.Columns.{columns}
use Rattle.writetable.proofs.Laws.{Measured}
use Rattle.writetable.proofs.text_width.Given as goal

abbrev pub invariant-loop-i : goal.invariant-loop-i
invariant-loop-i l = record {
  own_long : length l.table.own.now ≡ length l.table.heads.now;
  strikes_long : length l.table.strikes.now ≡ length l.table.heads.now;
  measured : Measured (columns l.table.vertices l.table.heads.now l.table.own.now l.table.strikes.now l.table.spans.now l.table.tails.now) l.initial.width l.width l.i;
}
