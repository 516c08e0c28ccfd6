-- `quote::put_row` meets its contract: the line, and the numbers in the room behind it. Assumes nothing.
use mathlib.Core.Path.{◌≡◌, sym}
use mathlib.Core.List.{List, ◌∷◌, ◌++◌, []}
use Prim.Native.Nat.{ℕ, ◌≤◌}
use native.Mathlib.Omega.{arith}
use borrow.Author.Rules.{rules}
use lib.ListN.{length}
use Rattle.columns.specs.Columns.{columns}
use Rattle.text.specs.Render.{digits, tail_text}
use Rattle.writing.proofs.Written.{lent-room, within, written_part, written_as, first_fits}
use Rattle.quote.specs.Quote.{most_row, row}
use Rattle.quote.proofs.Rows.{row_split, row_most}
use Rattle.quote.proofs.put_row.Goals as goal

pub put_number-at-requires : goal.put_number-at-requires
put_number-at-requires c =
    let back : List ℕ = tail_text (c.cell-head.result ∷ c.cell-figure.result ∷ []) ++ 10 ∷ [] in
    let front : List ℕ = digits c.args.line in
    let short : length (front ++ back) ≤ most_row = row_most c.args.line c.cell-head.result c.cell-figure.result c.ranges.line.fits c.cell-head.type_inv c.cell-figure.type_inv in
    let whole : length (front ++ back) ≤ length c.args.room.now = let s = short in let p = c.requires in omega arith in
    first_fits front back c.args.room.now whole

pub slice_bounds-put_tail-count : goal.slice_bounds-put_tail-count
slice_bounds-put_tail-count c =
    let back : List ℕ = tail_text (c.cell-head.result ∷ c.cell-figure.result ∷ []) ++ 10 ∷ [] in
    let front : List ℕ = digits c.args.line in
    let short : length (front ++ back) ≤ most_row = row_most c.args.line c.cell-head.result c.cell-figure.result c.ranges.line.fits c.cell-head.type_inv c.cell-figure.type_inv in
    let whole : length (front ++ back) ≤ length c.args.room.now = let s = short in let p = c.requires in omega arith in
    within front _ _ _ c.put_number-at.ensures back whole

pub slice_bounds-put_tail-start : goal.slice_bounds-put_tail-start
slice_bounds-put_tail-start c = let r = slice_bounds-put_tail-count c in search (rules, r)

pub put_tail-width-requires : goal.put_tail-width-requires
put_tail-width-requires c =
    let back : List ℕ = tail_text (c.cell-head.result ∷ c.cell-figure.result ∷ []) ++ 10 ∷ [] in
    let front : List ℕ = digits c.args.line in
    let short : length (front ++ back) ≤ most_row = row_most c.args.line c.cell-head.result c.cell-figure.result c.ranges.line.fits c.cell-head.type_inv c.cell-figure.type_inv in
    let whole : length (front ++ back) ≤ length c.args.room.now = let s = short in let p = c.requires in omega arith in
    lent-room front _ _ _ c.put_number-at.ensures back whole

pub returns : goal.returns
returns c =
    let back : List ℕ = tail_text (c.cell-head.result ∷ c.cell-figure.result ∷ []) ++ 10 ∷ [] in
    let front : List ℕ = digits c.args.line in
    let is_row : row (columns 0 c.args.heads.now c.args.own.now [] [] []) c.args.line ≡ front ++ back = row_split _ c.args.line c.cell-head.result c.cell-figure.result c.cell-head.ensures c.cell-figure.ensures in
    let short : length (front ++ back) ≤ most_row = row_most c.args.line c.cell-head.result c.cell-figure.result c.ranges.line.fits c.cell-head.type_inv c.cell-figure.type_inv in
    let whole : length (front ++ back) ≤ length c.args.room.now = let s = short in let p = c.requires in omega arith in
    let w = written_part front _ _ _ c.put_number-at.ensures back _ _ whole c.put_tail-width.ensures in
    record { fact = written_as _ _ _ (sym is_row) w; upper_bound = let s = short in let n = w.count in omega arith }

pub overflow_add-result : goal.overflow_add-result
overflow_add-result c =
    let n = (returns c).upper_bound in
    omega (arith, c.well_formed)

pub shape_of-room : goal.shape_of-room
shape_of-room c = (returns c).fact.long
