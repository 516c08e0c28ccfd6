-- `whereused::put_use` meets its contract, by whether the part stands in the line's list. Assumes nothing.
use mathlib.Core.Path.{sym, ◌∙◌}
use Prim.Native.Nat.{ℕ}
use native.Mathlib.Omega.{arith}
use Rattle.columns.specs.Columns.{Columns, columns}
use Rattle.whereused.proofs.Rows.{row_fits, used_not, used}
use Rattle.whereused.proofs.put_use.Goals as goal

pub tail_of-tail-requires : goal.tail_of-tail-requires
tail_of-tail-requires c = c.requires.placed

pub returns-then-not-stands_in : goal.returns-then-not-stands_in
returns-then-not-stands_in c =
    let line : ℕ = c.args.e.0 in
    let table_of : Columns = let a = c.args in columns 0 a.table.now.heads.now a.table.now.own.now a.table.now.strikes.now a.table.now.spans.now a.table.now.tails.now in
    record { fact = used_not table_of c.args.part.0 line _ c.tail_of-tail.ensures _ (sym c.stands_in.ensures ∙ c.if-not-stands_in.true); upper_bound = omega arith }

pub put_row-requires : goal.put_row-requires
put_row-requires c =
    let line : ℕ = c.args.e.0 in
    let table_of : Columns = let a = c.args in columns 0 a.table.now.heads.now a.table.now.own.now a.table.now.strikes.now a.table.now.spans.now a.table.now.tails.now in
    let f = row_fits table_of c.args.part.0 line _ c.tail_of-tail.ensures _ c.requires in
    let r = c.requires.room in
    omega arith

pub returns : goal.returns
returns c =
    let line : ℕ = c.args.e.0 in
    let table_of : Columns = let a = c.args in columns 0 a.table.now.heads.now a.table.now.own.now a.table.now.strikes.now a.table.now.spans.now a.table.now.tails.now in
    let f = row_fits table_of c.args.part.0 line _ c.tail_of-tail.ensures _ c.requires in record { fact = used table_of c.args.part.0 line _ c.tail_of-tail.ensures _ _ _ (sym c.stands_in.ensures ∙ c.if-not-stands_in.false) c.put_row.ensures; upper_bound = let m = c.put_row.ensures.count in omega arith }
