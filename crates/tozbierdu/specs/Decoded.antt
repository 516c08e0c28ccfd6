-- What a program in C can tell from the one number that a call of the archive gives it: the answers of all calls as `counter` has those of its three, a length or a refusal, so
-- that its `Decoded` says it of each. The paper's "The calls". Assumes nothing: these are definitions.
use Rattle.std.specs.Prelude.{Ok, Err, true, false}
use Rattle.refusal.specs.Answers.{Extent, Verdict, Reading, Appending}
use Rattle.statistics.specs.Samples.{Summary}

-- 1 for yes, 0 for no
abbrev pub verdict_extent : Verdict → Extent
verdict_extent (Ok true) = Ok 1
verdict_extent (Ok false) = Ok 0
verdict_extent (Err r) = Err r

-- 0 where what is told stands in a lent column
abbrev pub reading_extent : Reading → Extent
reading_extent (Ok h) = Ok 0
reading_extent (Err r) = Err r

abbrev pub appending_extent : Appending → Extent
appending_extent (Ok k) = Ok 0
appending_extent (Err r) = Err r

abbrev pub summary_extent : Summary → Extent
summary_extent (Ok m) = Ok 0
summary_extent (Err r) = Err r
