-- `whereused::put_spaced_edge` meets its contract: a space, and the line in the room behind it. Assumes nothing.
use mathlib.Core.List.{List, ◌∷◌, ◌++◌, []}
use Prim.Native.Nat.{ℕ}
use native.Mathlib.Omega.{arith}
use borrow.Author.Rules.{rules}
use lib.ListN.{set}
use Rattle.text.specs.Tables.{edge}
use Rattle.text.specs.Render.{edge_text}
use Rattle.writing.specs.Written.{Written}
use Rattle.writing.proofs.Written.{written_none, written_byte, lent-room, within, written_part}
use Rattle.whereused.proofs.put_spaced_edge.Goals as goal

pub slice_bounds-put_edge-count : goal.slice_bounds-put_edge-count
slice_bounds-put_edge-count c =
    let line : List ℕ = edge_text (edge c.args.head.0 c.args.own.0 c.args.mark.0 c.args.tail.now) ++ 10 ∷ [] in
    let spaced : Written (32 ∷ []) c.args.room.now 1 (set c.args.room.now 0 32) = let p = c.requires in written_byte [] _ 0 _ (written_none _) 32 (omega arith) in
    within _ _ _ _ spaced line c.requires

pub slice_bounds-put_edge-start : goal.slice_bounds-put_edge-start
slice_bounds-put_edge-start c = let r = slice_bounds-put_edge-count c in search (rules, r)

pub put_edge-width-requires : goal.put_edge-width-requires
put_edge-width-requires c =
    let line : List ℕ = edge_text (edge c.args.head.0 c.args.own.0 c.args.mark.0 c.args.tail.now) ++ 10 ∷ [] in
    let spaced : Written (32 ∷ []) c.args.room.now 1 (set c.args.room.now 0 32) = let p = c.requires in written_byte [] _ 0 _ (written_none _) 32 (omega arith) in
    lent-room _ _ _ _ spaced line c.requires

pub returns : goal.returns
returns c =
    let spaced : Written (32 ∷ []) c.args.room.now 1 (set c.args.room.now 0 32) = let p = c.requires in written_byte [] _ 0 _ (written_none _) 32 (omega arith) in
    written_part _ _ _ _ spaced _ _ _ c.requires c.put_edge-width.ensures

pub shape_of-room : goal.shape_of-room
shape_of-room c = (returns c).long
