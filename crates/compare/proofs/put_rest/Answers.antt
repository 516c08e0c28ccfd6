-- `compare::put_rest` meets its contract: the state, and the figure in the room behind it. Assumes nothing.
use mathlib.Core.List.{List, ◌∷◌, ◌++◌, []}
use Prim.Native.Nat.{ℕ, ◌≤◌}
use native.Mathlib.Omega.{arith}
use borrow.Author.Rules.{rules}
use lib.ListN.{length}
use Rattle.text.specs.Render.{tail_text}
use Rattle.writing.proofs.Written.{lent-room, within, written_part, first_fits}
use Rattle.report.specs.Report.{state_word}
use Rattle.compare.specs.Pieces.{most_rest, rest}
use Rattle.compare.proofs.Rows.{rest_most}
use Rattle.compare.proofs.put_rest.Goals as goal

pub put_state-at-requires : goal.put_state-at-requires
put_state-at-requires c =
    let back : List ℕ = tail_text (c.args.figure ∷ []) ++ 10 ∷ [] in
    let front : List ℕ = 32 ∷ state_word c.args.state in
    let short : length (front ++ back) ≤ most_rest = rest_most c.args.state c.args.figure c.ranges.figure.fits in
    let whole : length (front ++ back) ≤ length c.args.room.now = let s = short in let p = c.requires in omega arith in
    first_fits front back c.args.room.now whole

pub slice_bounds-put_tail-count : goal.slice_bounds-put_tail-count
slice_bounds-put_tail-count c =
    let back : List ℕ = tail_text (c.args.figure ∷ []) ++ 10 ∷ [] in
    let front : List ℕ = 32 ∷ state_word c.args.state in
    let short : length (front ++ back) ≤ most_rest = rest_most c.args.state c.args.figure c.ranges.figure.fits in
    let whole : length (front ++ back) ≤ length c.args.room.now = let s = short in let p = c.requires in omega arith in
    within front _ _ _ c.put_state-at.ensures back whole

pub slice_bounds-put_tail-start : goal.slice_bounds-put_tail-start
slice_bounds-put_tail-start c = let r = slice_bounds-put_tail-count c in search (rules, r)

pub put_tail-width-requires : goal.put_tail-width-requires
put_tail-width-requires c =
    let back : List ℕ = tail_text (c.args.figure ∷ []) ++ 10 ∷ [] in
    let front : List ℕ = 32 ∷ state_word c.args.state in
    let short : length (front ++ back) ≤ most_rest = rest_most c.args.state c.args.figure c.ranges.figure.fits in
    let whole : length (front ++ back) ≤ length c.args.room.now = let s = short in let p = c.requires in omega arith in
    lent-room front _ _ _ c.put_state-at.ensures back whole

pub returns : goal.returns
unfolding rest
returns c =
    let back : List ℕ = tail_text (c.args.figure ∷ []) ++ 10 ∷ [] in
    let front : List ℕ = 32 ∷ state_word c.args.state in
    let short : length (front ++ back) ≤ most_rest = rest_most c.args.state c.args.figure c.ranges.figure.fits in
    let whole : length (front ++ back) ≤ length c.args.room.now = let s = short in let p = c.requires in omega arith in
    let w = written_part front _ _ _ c.put_state-at.ensures back _ _ whole c.put_tail-width.ensures in
    record { written = w; upper_bound = let l = short in let n = w.count in omega arith }

pub overflow_add-result : goal.overflow_add-result
overflow_add-result c = let n = (returns c).upper_bound in omega arith

pub shape_of-room : goal.shape_of-room
shape_of-room c = (returns c).written.long
