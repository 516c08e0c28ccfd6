-- `writing::edge_width` meets its contract. Assumes nothing.
use native.Mathlib.Omega.{arith}
use Rattle.text.specs.Tables.{edge}
use Rattle.writing.proofs.Widths.{line_width, line_most, edge_tail}
use Rattle.writing.proofs.edge_width.Goals as goal

pub own_width-requires : goal.own_width-requires
own_width-requires c = c.requires.own

pub overflow_add-result : goal.overflow_add-result
overflow_add-result c =
    let e = edge c.args.head.0 c.args.own.0 c.args.mark.0 c.args.tail.now in
    let w = c.number_width.ensures in
    let o = c.own_width.ensures in
    let l = line_width e in
    let m = line_most e c.requires in
    omega arith

pub tail_width-requires : goal.tail_width-requires
tail_width-requires c = edge_tail c.requires

pub overflow_add-result-2 : goal.overflow_add-result-2
overflow_add-result-2 c =
    let e = edge c.args.head.0 c.args.own.0 c.args.mark.0 c.args.tail.now in
    let w = c.number_width.ensures in
    let o = c.own_width.ensures in
    let t = c.tail_width.ensures in
    let l = line_width e in
    let m = line_most e c.requires in
    omega arith

pub returns : goal.returns
returns c =
    let e = edge c.args.head.0 c.args.own.0 c.args.mark.0 c.args.tail.now in
    let w = c.number_width.ensures in
    let o = c.own_width.ensures in
    let t = c.tail_width.ensures in
    let l = line_width e in
    omega arith
