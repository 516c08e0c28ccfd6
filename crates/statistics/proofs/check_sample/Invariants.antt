-- `statistics::check_sample` meets its contract. The invariant: the results from i on have the answer of the sample. Assumes nothing.
use mathlib.Core.Path.{◌≡◌}
use lib.ListN.{drop}
use Rattle.statistics.specs.Samples.{results_acceptance, sample_acceptance}
use Rattle.statistics.proofs.check_sample.Given as goal

abbrev pub invariant-loop-i : goal.invariant-loop-i
invariant-loop-i l = results_acceptance l.i (drop l.i l.results) ≡ sample_acceptance l.results
