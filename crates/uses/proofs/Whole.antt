-- The passes one after the other: what each leaves is what the next asks for, and the last leaves the index. Assumes nothing.
use mathlib.Core.Path.{◌≡◌, sym, ◌∙◌, ap, subst}
use mathlib.Core.List.{List}
use Prim.Native.Nat.{ℕ, ◌*◌, ◌/◌, ◌≤◌}
use native.Mathlib.Omega.{arith}
use lib.ListN.{length}
use Rattle.columns.specs.Columns.{tail_of}
use Rattle.columns.specs.Filled.{filled}
use Rattle.uses.specs.Uses.{use_list, pairs, pairs_in, use_offset, use_pairs, indexed}
use Rattle.uses.specs.Indexable.{Readable, Measurable, Indexable, counted, running, Placeable, placed, FilledTo, Offset}
use Rattle.uses.proofs.Pairs.{length_pairs}
use Rattle.uses.proofs.Placing.{running_offset, placed_offsets}
use Rattle.uses.proofs.Filling.{filled-all}

-- counted, and then placed
module _ {spans tails index : List ℕ} (a : Measurable spans tails index) {ix : List ℕ} (p : ix ≡ counted (tail_of spans tails) (pairs_in spans) (pairs_in index)) where
  -- the index keeps its length
  counted-length : length ix ≡ 2 * pairs_in index
  counted-length = ap length p ∙ length_pairs _ _ (pairs_in index)

  counted-pairs : pairs_in ix ≡ pairs_in index
  counted-pairs = ap (λ (z : ℕ). z / 2) (counted-length ∙ sym a.even)

  pub sum_is : running ix (pairs_in ix) ≡ use_offset (tail_of spans tails) (pairs_in spans) (pairs_in index)
  sum_is = ap (running ix) counted-pairs ∙ running_offset (tail_of spans tails) (pairs_in spans) (pairs_in index) p (pairs_in index) (omega arith)

  pub placeable : Placeable ix
  placeable = record { even = counted-length ∙ ap (λ (z : ℕ). 2 * z) (sym counted-pairs); fits = omega (arith, sum_is, a.fits) }

  pub placed_is : {ix₂ : List ℕ} → ix₂ ≡ placed ix (pairs_in ix) → ix₂ ≡ pairs (use_offset (tail_of spans tails) (pairs_in spans)) (λ v. 0) (pairs_in index)
  placed_is q = q ∙ ap (placed ix) counted-pairs ∙ placed_offsets (tail_of spans tails) (pairs_in spans) (pairs_in index) p

module _ {spans tails index list : List ℕ} (a : Indexable spans tails index list) where
  pub measurable : length list ≤ 18446744073709551615 → Measurable spans tails index
  measurable h = record { readable = a.readable; even = a.even; fits = omega (arith, a.room) }

  -- placed, and then filled
  module _ {ix : List ℕ} (q : ix ≡ pairs (use_offset (tail_of spans tails) (pairs_in spans)) (λ v. 0) (pairs_in index)) where
    placed-pairs : pairs_in ix ≡ pairs_in index
    placed-pairs = ap (λ (z : ℕ). z / 2) (ap length q ∙ length_pairs _ _ (pairs_in index) ∙ sym a.even)

    pub offset : Offset spans tails ix list
    offset = record {
      readable = subst (λ (z : ℕ). Readable z spans tails) (sym placed-pairs) a.readable;
      room = subst (λ (z : ℕ). length (use_list (tail_of spans tails) (pairs_in spans) z) ≤ length list) (sym placed-pairs) a.room;
      offsets = q ∙ ap (pairs (use_offset (tail_of spans tails) (pairs_in spans)) (λ v. 0)) (sym placed-pairs);
    }

    module _ {ix₃ list₃ : List ℕ} (f : FilledTo (tail_of spans tails) (pairs_in spans) (pairs_in ix) (pairs_in spans) ix₃ list₃ list) where
      to_all : FilledTo (tail_of spans tails) (pairs_in spans) (pairs_in index) (pairs_in spans) ix₃ list₃ list
      to_all = subst (λ (z : ℕ). FilledTo (tail_of spans tails) (pairs_in spans) z (pairs_in spans) ix₃ list₃ list) placed-pairs f

      pub all-pairs : ix₃ ≡ use_pairs (tail_of spans tails) (pairs_in spans) (pairs_in index)
      all-pairs = to_all.lengths

      pub all_listed : list₃ ≡ filled (use_list (tail_of spans tails) (pairs_in spans) (pairs_in index)) list
      all_listed = filled-all (tail_of spans tails) (pairs_in spans) (pairs_in index) to_all.laid a.room

      pub all-indexed : {total : ℕ} → total ≡ length (use_list (tail_of spans tails) (pairs_in spans) (pairs_in index))
          → record { total = total; index = ix₃; list = list₃ } ≡ indexed (tail_of spans tails) (pairs_in spans) (pairs_in index) list
      unfolding indexed
      all-indexed t = λ i. record { total = t i; index = all-pairs i; list = all_listed i }
