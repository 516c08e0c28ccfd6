-- The worked samples hold by computation. Assumes nothing.
use mathlib.Core.Path.{refl}
use Rattle.statistics.specs.Fractions.{gcd_within, gcd, lowest}
use Rattle.statistics.specs.Samples.{total, mean, variance, results_acceptance, sample_acceptance}
use Rattle.statistics.specs.Summaries.{summary_of}
use Rattle.statistics.specs.Worked.{Worked}

pub worked : Worked
unfolding gcd_within gcd lowest total mean variance results_acceptance sample_acceptance summary_of
worked = record { three = refl; one = refl; equal = refl; nought = refl; none = refl; many = refl; large = refl }
