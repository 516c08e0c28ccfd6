-- `sample::read_sample` meets its contract. The invariant: what is left gives what the whole gives. Assumes nothing.
use mathlib.Core.Path.{◌≡◌}
use Prim.Native.Nat.{◌-◌}
use lib.ListN.{length}
use Rattle.sample.specs.Sample.{sample_from}
use Rattle.sample.proofs.read_sample.Given as goal

abbrev pub invariant-loop-i : goal.invariant-loop-i
invariant-loop-i l = sample_from (length l.column - l.i) l.text l.at l.i l.column ≡ sample_from (length l.initial.column) l.text 0 0 l.initial.column
