-- `whereused::put_row` meets its contract: the number, and the line in the room behind it. Assumes nothing.
use mathlib.Core.List.{List, ◌∷◌, ◌++◌, []}
use Prim.Native.Nat.{ℕ, ◌≤◌}
use native.Mathlib.Omega.{arith}
use borrow.Author.Rules.{rules}
use lib.ListN.{length}
use Rattle.text.specs.Tables.{edge}
use Rattle.text.specs.Render.{digits, edge_text}
use Rattle.writing.proofs.Written.{lent-room, within, written_part, first_fits}
use Rattle.whereused.proofs.put_row.Goals as goal

pub put_number-at-requires : goal.put_number-at-requires
put_number-at-requires c =
    let back : List ℕ = 32 ∷ (edge_text (edge c.args.head.0 c.args.own.0 c.args.mark.0 c.args.tail.now) ++ 10 ∷ []) in
    let front : List ℕ = digits c.args.e.0 in
    let whole : length (front ++ back) ≤ length c.args.room.now = c.requires in
    first_fits front back c.args.room.now whole

pub slice_bounds-put_spaced_edge-count : goal.slice_bounds-put_spaced_edge-count
slice_bounds-put_spaced_edge-count c =
    let back : List ℕ = 32 ∷ (edge_text (edge c.args.head.0 c.args.own.0 c.args.mark.0 c.args.tail.now) ++ 10 ∷ []) in
    let front : List ℕ = digits c.args.e.0 in
    let whole : length (front ++ back) ≤ length c.args.room.now = c.requires in
    within front _ _ _ c.put_number-at.ensures back whole

pub slice_bounds-put_spaced_edge-start : goal.slice_bounds-put_spaced_edge-start
slice_bounds-put_spaced_edge-start c = let r = slice_bounds-put_spaced_edge-count c in search (rules, r)

pub put_spaced_edge-width-requires : goal.put_spaced_edge-width-requires
put_spaced_edge-width-requires c =
    let back : List ℕ = 32 ∷ (edge_text (edge c.args.head.0 c.args.own.0 c.args.mark.0 c.args.tail.now) ++ 10 ∷ []) in
    let front : List ℕ = digits c.args.e.0 in
    let whole : length (front ++ back) ≤ length c.args.room.now = c.requires in
    lent-room front _ _ _ c.put_number-at.ensures back whole

pub returns : goal.returns
returns c =
    let back : List ℕ = 32 ∷ (edge_text (edge c.args.head.0 c.args.own.0 c.args.mark.0 c.args.tail.now) ++ 10 ∷ []) in
    let front : List ℕ = digits c.args.e.0 in
    let whole : length (front ++ back) ≤ length c.args.room.now = c.requires in
    written_part front _ _ _ c.put_number-at.ensures back _ _ whole c.put_spaced_edge-width.ensures

pub overflow_add-result : goal.overflow_add-result
overflow_add-result c =
    let n = (returns c).count in
    let w = c.requires in
    omega (arith, c.well_formed)

pub shape_of-room : goal.shape_of-room
shape_of-room c = (returns c).long
