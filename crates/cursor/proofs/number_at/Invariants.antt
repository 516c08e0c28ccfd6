-- `cursor::number_at`: what is left of the text has the number of the whole. Assumes nothing.
use Rattle.std.proofs.Common.{◌≡◌, ◌≤◌, ◌<◌, length, drop}
use Rattle.cursor.specs.Cursor.{digits_from, number_at}
use Rattle.cursor.proofs.number_at.Given as goal

abbrev pub invariant-loop-i : goal.invariant-loop-i
invariant-loop-i l =
    (l.i ≤ length l.text) × (l.at < l.i) × (l.v < l.limit) × (digits_from (drop l.i l.text) l.at l.i l.limit l.v ≡ number_at l.text l.at l.limit)
