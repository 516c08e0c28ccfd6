-- `compare::put_half` meets its contract: part and state, and the figure in the room behind them. Assumes nothing.
use mathlib.Core.List.{List, ◌∷◌, ◌++◌}
use Prim.Native.Nat.{ℕ, ◌≤◌}
use native.Mathlib.Omega.{arith}
use borrow.Author.Rules.{rules}
use lib.ListN.{length}
use Rattle.text.specs.Render.{digits}
use Rattle.writing.proofs.Written.{lent-room, within, written_part, first_fits}
use Rattle.report.specs.Report.{state_word}
use Rattle.compare.specs.Pieces.{most_half, half}
use Rattle.compare.proofs.Rows.{half_most}
use Rattle.compare.proofs.put_half.Goals as goal

pub put_stem-at-requires : goal.put_stem-at-requires
put_stem-at-requires c =
    let back : List ℕ = 32 ∷ digits c.args.figure in
    let front : List ℕ = digits c.args.v ++ (32 ∷ state_word c.args.state) in
    let short : length (front ++ back) ≤ most_half = half_most c.args.v c.args.state c.args.figure c.ranges.v.fits c.ranges.figure.fits in
    let whole : length (front ++ back) ≤ length c.args.room.now = let s = short in let p = c.requires in omega arith in
    first_fits front back c.args.room.now whole

pub slice_bounds-put_spaced-count : goal.slice_bounds-put_spaced-count
slice_bounds-put_spaced-count c =
    let back : List ℕ = 32 ∷ digits c.args.figure in
    let front : List ℕ = digits c.args.v ++ (32 ∷ state_word c.args.state) in
    let short : length (front ++ back) ≤ most_half = half_most c.args.v c.args.state c.args.figure c.ranges.v.fits c.ranges.figure.fits in
    let whole : length (front ++ back) ≤ length c.args.room.now = let s = short in let p = c.requires in omega arith in
    within front _ _ _ c.put_stem-at.ensures back whole

pub slice_bounds-put_spaced-start : goal.slice_bounds-put_spaced-start
slice_bounds-put_spaced-start c = let r = slice_bounds-put_spaced-count c in search (rules, r)

pub put_spaced-width-requires : goal.put_spaced-width-requires
put_spaced-width-requires c =
    let back : List ℕ = 32 ∷ digits c.args.figure in
    let front : List ℕ = digits c.args.v ++ (32 ∷ state_word c.args.state) in
    let short : length (front ++ back) ≤ most_half = half_most c.args.v c.args.state c.args.figure c.ranges.v.fits c.ranges.figure.fits in
    let whole : length (front ++ back) ≤ length c.args.room.now = let s = short in let p = c.requires in omega arith in
    lent-room front _ _ _ c.put_stem-at.ensures back whole

pub returns : goal.returns
unfolding half
returns c =
    let back : List ℕ = 32 ∷ digits c.args.figure in
    let front : List ℕ = digits c.args.v ++ (32 ∷ state_word c.args.state) in
    let short : length (front ++ back) ≤ most_half = half_most c.args.v c.args.state c.args.figure c.ranges.v.fits c.ranges.figure.fits in
    let whole : length (front ++ back) ≤ length c.args.room.now = let s = short in let p = c.requires in omega arith in
    let w = written_part front _ _ _ c.put_stem-at.ensures back _ _ whole c.put_spaced-width.ensures in
    record { written = w; upper_bound = let l = short in let n = w.count in omega arith }

pub overflow_add-result : goal.overflow_add-result
overflow_add-result c = let n = (returns c).upper_bound in omega arith

pub shape_of-room : goal.shape_of-room
shape_of-room c = (returns c).written.long
