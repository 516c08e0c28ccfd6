-- `writing::header_width` meets its contract. Assumes nothing.
use mathlib.Core.Path.{ap}
use native.Mathlib.Omega.{arith}
use lib.ListN.{length}
use Rattle.writing.proofs.Widths.{header_width_is, header_most}
use Rattle.writing.proofs.header_width.Goals as goal

pub overflow_add-result : goal.overflow_add-result
overflow_add-result c =
    let e = header_width_is c.args.n c.args.measure in
    let m = header_most c.args.n c.args.measure c.requires in
    omega arith

pub overflow_add-result-2 : goal.overflow_add-result-2
overflow_add-result-2 c =
    let e = header_width_is c.args.n c.args.measure in
    let m = header_most c.args.n c.args.measure c.requires in
    let v = ap length c.word.ensures in
    omega arith

pub returns : goal.returns
returns c = let e = header_width_is c.args.n c.args.measure in let v = ap length c.word.ensures in omega arith
