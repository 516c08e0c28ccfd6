-- `report::put_stem` meets its contract: the part, and the state in the room behind it. Assumes nothing.
use mathlib.Core.List.{List, ◌∷◌, ◌++◌}
use Prim.Native.Nat.{ℕ, ◌≤◌}
use native.Mathlib.Omega.{arith}
use borrow.Author.Rules.{rules}
use lib.ListN.{length}
use Rattle.text.specs.Render.{digits}
use Rattle.writing.proofs.Written.{lent-room, within, written_part, first_fits}
use Rattle.report.specs.Report.{state_word}
use Rattle.report.proofs.put_stem.Goals as goal

pub put_number-at-requires : goal.put_number-at-requires
put_number-at-requires c =
    let back : List ℕ = 32 ∷ state_word c.args.state in
    let front : List ℕ = digits c.args.v.0 in
    let whole : length (front ++ back) ≤ length c.args.room.now = c.requires in
    first_fits front back c.args.room.now whole

pub slice_bounds-put_state-count : goal.slice_bounds-put_state-count
slice_bounds-put_state-count c =
    let back : List ℕ = 32 ∷ state_word c.args.state in
    let front : List ℕ = digits c.args.v.0 in
    let whole : length (front ++ back) ≤ length c.args.room.now = c.requires in
    within front _ _ _ c.put_number-at.ensures back whole

pub slice_bounds-put_state-start : goal.slice_bounds-put_state-start
slice_bounds-put_state-start c =
    let back : List ℕ = 32 ∷ state_word c.args.state in
    let front : List ℕ = digits c.args.v.0 in
    let whole : length (front ++ back) ≤ length c.args.room.now = c.requires in
    let r = within front _ _ _ c.put_number-at.ensures back whole in search (rules, r)

pub put_state-width-requires : goal.put_state-width-requires
put_state-width-requires c =
    let back : List ℕ = 32 ∷ state_word c.args.state in
    let front : List ℕ = digits c.args.v.0 in
    let whole : length (front ++ back) ≤ length c.args.room.now = c.requires in
    lent-room front _ _ _ c.put_number-at.ensures back whole

pub overflow_add-result : goal.overflow_add-result
overflow_add-result c =
    let back : List ℕ = 32 ∷ state_word c.args.state in
    let front : List ℕ = digits c.args.v.0 in
    let whole : length (front ++ back) ≤ length c.args.room.now = c.requires in
    let n = (written_part front _ _ _ c.put_number-at.ensures back _ _ whole c.put_state-width.ensures).count in
    omega (arith, c.well_formed)

pub returns : goal.returns
returns c =
    let back : List ℕ = 32 ∷ state_word c.args.state in
    let front : List ℕ = digits c.args.v.0 in
    let whole : length (front ++ back) ≤ length c.args.room.now = c.requires in
    written_part front _ _ _ c.put_number-at.ensures back _ _ whole c.put_state-width.ensures
