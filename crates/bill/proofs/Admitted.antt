-- The laws by which the refusals of a bill are found: the first test that fails. Assumes nothing.
use mathlib.Core.Path.{◌≡◌}
use mathlib.Core.Bool.{true, false}
use Prim.Native.Nat.{ℕ, ◌≤◌, ◌<◌}
use native.Mathlib.Nat.{pos_of_ne-zero}
use native.Mathlib.Omega.{arith}
use lib.ListN.{length}
use borrow.Author.Tests.{lt-ltb, le-ltb}
use Rattle.weights.specs.declared.Measure.{Measure}
use Rattle.refusal.specs.declared.Refusal.{Refusal}
use Rattle.refusal.specs.declared.Refusal.TheVariants.{NoSuchVertex, WrongAnswers, Underivable}
use Rattle.columns.specs.Columns.{Entries, Columns}
use Rattle.provenance.specs.BestFirst.{labels}
use Rattle.columns.specs.Acceptance.{lent_acceptance}
use Rattle.columns.proofs.Accepted.{columns_accepted}
use Rattle.columns.specs.Same.{same_entries}
use Rattle.settle.specs.Settling.{entries_of}
use Rattle.bill.specs.Billing.{part_acceptance}
use Rattle.std.specs.Prelude.{Ok, Err}

module _ (m : Measure) (c : Columns) (a : Entries) (v : ℕ) where
  pub part_refused : {r : Refusal} → lent_acceptance c a ≡ Err r → Err r ≡ part_acceptance m c a v
  unfolding part_acceptance
  part_refused p = rw p

  module _ (p : lent_acceptance c a ≡ Ok tt) where
    pub part_absent : c.vertices ≤ v → Err NoSuchVertex ≡ part_acceptance m c a v
    unfolding part_acceptance
    part_absent h = rw (p, le-ltb v c.vertices h)

    module _ (h : v < c.vertices) where
      pub part_placed : v < length a.labels.depths
      part_placed = omega (arith, (columns_accepted c a p).sized.labels.depths)

      pub part_wrong : same_entries a (entries_of m c) ≡ false → Err WrongAnswers ≡ part_acceptance m c a v
      unfolding part_acceptance
      part_wrong q = rw (p, lt-ltb v c.vertices h, q)

      module _ (q : same_entries a (entries_of m c) ≡ true) where
        pub part_underivable : (labels a.labels v).depth ≡ 0 → Err Underivable ≡ part_acceptance m c a v
        unfolding part_acceptance
        part_underivable z = rw (p, lt-ltb v c.vertices h, q, le-ltb 0 (labels a.labels v).depth (omega arith))

        pub part_accepted : ¬ ((labels a.labels v).depth ≡ 0) → (Ok tt) ≡ part_acceptance m c a v
        unfolding part_acceptance
        part_accepted n = rw (p, lt-ltb v c.vertices h, q, lt-ltb 0 (labels a.labels v).depth (pos_of_ne-zero n))
