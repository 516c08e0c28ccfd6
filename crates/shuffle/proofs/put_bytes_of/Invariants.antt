-- `shuffle::put_bytes_of` meets its contract. The invariant: the first p bytes are stored. Assumes nothing.
use mathlib.Core.Path.{◌≡◌}
use lib.ListN.{take}
use Rattle.shuffle.specs.Places.{spread}
use Rattle.shuffle.proofs.put_bytes_of.Given as goal

abbrev pub invariant-loop-p : goal.invariant-loop-p
invariant-loop-p l = l.room ≡ spread l.k l.i (take l.p l.byte-items) l.initial.room
