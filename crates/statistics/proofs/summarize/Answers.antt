-- `statistics::summarize` meets its contract: the sample is refused, or within the limits, and then no sum or product wraps. Assumes nothing.
use mathlib.Core.Path.{◌≡◌, sym, ◌∙◌, subst}
use mathlib.Core.List.{List}
use Prim.Native.Nat.{ℕ}
use lib.ListN.{length}
use native.Mathlib.Omega.{arith}
use Rattle.statistics.specs.Samples.{Sample, sample_acceptance}
use Rattle.statistics.specs.Summaries.{sums_of}
use Rattle.statistics.specs.declared.Sums.{Sums}
use Rattle.statistics.proofs.Ranges.{Ranges, ranges}
use Rattle.statistics.proofs.Accepting.{accepted_sample}
use Rattle.statistics.proofs.Summarized.{summary_refused, summary_made}
use Rattle.refusal.proofs.Passed.{passed_on}
use Rattle.statistics.proofs.summarize.Goals as goal
use Rattle.refusal.specs.Answers.{Acceptance}
use Rattle.std.specs.Prelude.{Ok}

-- past the check the sample is within the limits
sample : {xs : List ℕ} {a : Acceptance} → a ≡ sample_acceptance xs → a ≡ Ok tt → Sample xs
sample e p = accepted_sample _ (sym e ∙ p)

-- and its sums, as they were added up, are within their ranges
within : {xs : List ℕ} {s : Sums} → Sample xs → s ≡ sums_of xs → Ranges (length xs) s.total s.squares
within {xs} h e = subst (λ (s : Sums). Ranges (length xs) s.total s.squares) (sym e) (ranges h)

pub returns-in_err-check_sample : goal.returns-in_err-check_sample
returns-in_err-check_sample c = rw (passed_on _ c.from_residual.ensures.1) (summary_refused _ _ (sym c.check_sample.ensures ∙ c.in_err-check_sample.was))

pub add_up-sums-requires : goal.add_up-sums-requires
add_up-sums-requires c = sample c.check_sample.ensures c.in_ok-check_sample.was

pub lowest-mean-requires : goal.lowest-mean-requires
lowest-mean-requires c = (sample c.check_sample.ensures c.in_ok-check_sample.was).some

pub overflow_mul-spread : goal.overflow_mul-spread
overflow_mul-spread c = let r = within (sample c.check_sample.ensures c.in_ok-check_sample.was) c.add_up-sums.ensures in omega arith

pub overflow_mul-spread-2 : goal.overflow_mul-spread-2
overflow_mul-spread-2 c = let r = within (sample c.check_sample.ensures c.in_ok-check_sample.was) c.add_up-sums.ensures in omega arith

pub overflow_sub-spread : goal.overflow_sub-spread
overflow_sub-spread c = (within (sample c.check_sample.ensures c.in_ok-check_sample.was) c.add_up-sums.ensures).exact

pub overflow_mul-count : goal.overflow_mul-count
overflow_mul-count c = let r = within (sample c.check_sample.ensures c.in_ok-check_sample.was) c.add_up-sums.ensures in omega arith

pub lowest-variance-requires : goal.lowest-variance-requires
lowest-variance-requires c = (within (sample c.check_sample.ensures c.in_ok-check_sample.was) c.add_up-sums.ensures).some

pub returns : goal.returns
returns c =
    summary_made _ _ _ _ (sample c.check_sample.ensures c.in_ok-check_sample.was) c.add_up-sums.ensures c.lowest-mean.ensures c.lowest-variance.ensures
