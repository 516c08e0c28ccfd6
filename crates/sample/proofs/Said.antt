-- The laws by which a reply is what is said of a sample. Assumes nothing.
use mathlib.Core.Path.{◌≡◌, sym, ◌∙◌, ap, subst}
use mathlib.Core.List.{List, ◌++◌}
use Prim.Native.Nat.{ℕ, ◌≤◌}
use native.Mathlib.Omega.{arith}
use lib.ListN.{length, take, replicate, length-replicate}
use Rattle.refusal.specs.declared.Refusal.{Refusal}
use Rattle.statistics.specs.declared.Moments.{Moments}
use Rattle.statistics.specs.Summaries.{summary_of}
use Rattle.reply.specs.declared.Reply.{Reply}
use Rattle.reply.specs.Reply.{Said, answered, refused_by, Replied}
use Rattle.std.specs.Prelude.{Result, Ok, Err}
use Rattle.sample.specs.Sample.{most_read, Read, read, sample_from, fraction_line, summary_said, read_said, mean_said}
use Rattle.sample.proofs.Laws.{sample_kept, count_most}
use Rattle.statistics.specs.Samples.{Summary}

pub said_as : {s t : Said} (old : List ℕ) (r : Reply) (room : List ℕ) → s ≡ t → Replied s old r room → Replied t old r room
said_as old r room e h = subst (λ (z : Said). Replied z old r room) e h

pub summary_refused : (x : Summary) (r : Refusal) → x ≡ Err r → refused_by r ≡ summary_said x
summary_refused x r e = ap summary_said (sym e)

pub summary_moments : (x : Summary) (m : Moments) → x ≡ Ok m
    → answered (fraction_line m.mean.numerator m.mean.denominator ++ fraction_line m.variance.numerator m.variance.denominator) ≡ summary_said x
summary_moments x m e = ap summary_said (sym e)

module _ (s : List ℕ) (x : Result ℕ Refusal) (c : List ℕ) (q : read x c ≡ sample_from most_read s 0 0 (replicate most_read 0)) where
  by_sample : read_said x c ≡ mean_said s
  unfolding mean_said
  by_sample = ap (λ (z : Read). read_said z.sample z.column) q

  pub mean_refused : (r : Refusal) → x ≡ Err r → refused_by r ≡ mean_said s
  mean_refused r e = ap (λ (z : Result ℕ Refusal). read_said z c) (sym e) ∙ by_sample

  pub mean_said_lem : (k : ℕ) (y : Summary) → x ≡ Ok k → y ≡ summary_of (take k c) → summary_said y ≡ mean_said s
  mean_said_lem k y e f = ap summary_said f ∙ ap (λ (z : Result ℕ Refusal). read_said z c) (sym e) ∙ by_sample

  pub count_within : (k : ℕ) → x ≡ Ok k → k ≤ length c
  count_within k e =
      let z = sample_kept most_read s 0 0 (replicate most_read 0) most_read (omega arith) (length-replicate {A = ℕ} most_read 0) in
      let m = count_most most_read (sample_from most_read s 0 0 (replicate most_read 0)).sample k z.0 (sym (ap (λ (w : Read). w.sample) q) ∙ e) in
      let l = ap (λ (w : Read). length w.column) q ∙ z.1 in
      omega arith
