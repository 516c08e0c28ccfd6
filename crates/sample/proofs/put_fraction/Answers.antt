-- `sample::put_fraction` meets its contract: the numerator, and the denominator in the room behind it. Assumes nothing.
use mathlib.Core.Path.{sym}
use mathlib.Core.List.{List, ◌∷◌, ◌++◌, []}
use Prim.Native.Nat.{ℕ, ◌≤◌}
use native.Mathlib.Omega.{arith}
use borrow.Author.Rules.{rules}
use lib.ListN.{length}
use Rattle.text.specs.Render.{digits, tail_text}
use Rattle.writing.proofs.Written.{lent-room, within, written_part, written_as, first_fits}
use Rattle.sample.specs.Sample.{most_fraction}
use Rattle.sample.proofs.Laws.{fraction_split, fraction_most}
use Rattle.sample.proofs.put_fraction.Goals as goal

pub put_number-at-requires : goal.put_number-at-requires
put_number-at-requires c =
    let back : List ℕ = tail_text (c.args.denominator ∷ []) ++ 10 ∷ [] in
    let front : List ℕ = digits c.args.numerator in
    let short : length (front ++ back) ≤ most_fraction = fraction_most c.args.numerator c.args.denominator c.ranges.numerator.fits c.ranges.denominator.fits in
    let whole : length (front ++ back) ≤ length c.args.room.now = let l = short in let p = c.requires in omega arith in
    first_fits front back c.args.room.now whole

pub slice_bounds-put_tail-count : goal.slice_bounds-put_tail-count
slice_bounds-put_tail-count c =
    let back : List ℕ = tail_text (c.args.denominator ∷ []) ++ 10 ∷ [] in
    let front : List ℕ = digits c.args.numerator in
    let short : length (front ++ back) ≤ most_fraction = fraction_most c.args.numerator c.args.denominator c.ranges.numerator.fits c.ranges.denominator.fits in
    let whole : length (front ++ back) ≤ length c.args.room.now = let l = short in let p = c.requires in omega arith in
    within front _ _ _ c.put_number-at.ensures back whole

pub put_tail-width-requires : goal.put_tail-width-requires
put_tail-width-requires c =
    let back : List ℕ = tail_text (c.args.denominator ∷ []) ++ 10 ∷ [] in
    let front : List ℕ = digits c.args.numerator in
    let short : length (front ++ back) ≤ most_fraction = fraction_most c.args.numerator c.args.denominator c.ranges.numerator.fits c.ranges.denominator.fits in
    let whole : length (front ++ back) ≤ length c.args.room.now = let l = short in let p = c.requires in omega arith in
    lent-room front _ _ _ c.put_number-at.ensures back whole

pub returns : goal.returns
returns c =
    let back : List ℕ = tail_text (c.args.denominator ∷ []) ++ 10 ∷ [] in
    let front : List ℕ = digits c.args.numerator in
    let short : length (front ++ back) ≤ most_fraction = fraction_most c.args.numerator c.args.denominator c.ranges.numerator.fits c.ranges.denominator.fits in
    let whole : length (front ++ back) ≤ length c.args.room.now = let l = short in let p = c.requires in omega arith in
    let w = written_part front _ _ _ c.put_number-at.ensures back _ _ whole c.put_tail-width.ensures in
    record { written = written_as _ _ _ (sym (fraction_split c.args.numerator c.args.denominator)) w; upper_bound = let l = short in let n = w.count in omega arith }

pub overflow_add-result : goal.overflow_add-result
overflow_add-result c = let w = (returns c).upper_bound in omega (arith, c.well_formed)

pub slice_bounds-put_tail-start : goal.slice_bounds-put_tail-start
slice_bounds-put_tail-start c = let r = slice_bounds-put_tail-count c in search (rules, r)
