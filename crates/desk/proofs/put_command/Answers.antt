-- `desk::put_command` meets its contract, by the command. Assumes nothing.
use mathlib.Core.Path.{refl}
use native.Mathlib.Omega.{arith}
use borrow.Author.Rules.{rules}
use Rattle.writing.proofs.Written.{written_none}
use Rattle.desk.proofs.Laws.{replied_as, ask_said, append_said_lem, mean_misused, misuse_said}
use Rattle.desk.proofs.put_command.Goals as goal

pub slice_bounds-put_append-count : goal.slice_bounds-put_append-count
slice_bounds-put_append-count c = c.requires.takes.least _ _ c.in-Append.is

pub slice_bounds-put_append-start : goal.slice_bounds-put_append-start
slice_bounds-put_append-start c = let r = slice_bounds-put_append-count c in search (rules, r)

pub slice_bounds-put_append-end : goal.slice_bounds-put_append-end
slice_bounds-put_append-end c =
    let r = slice_bounds-put_append-count c in
    let m = c.requires.takes.most in
    omega (arith, r, m)

pub returns-in-Append : goal.returns-in-Append
returns-in-Append c = replied_as _ _ _ (append_said_lem _ _ c.args.count c.args.numbers.now _ _ _ _ c.in-Append.is) c.put_append.ensures

pub returns-in-Ask : goal.returns-in-Ask
returns-in-Ask c = replied_as _ _ _ (ask_said _ _ c.args.count c.args.numbers.now _ _ _ c.in-Ask.is) c.put_read.ensures

pub returns-in-Misuse : goal.returns-in-Misuse
returns-in-Misuse c =
    replied_as _ _ _ (misuse_said _ _ c.args.count c.args.numbers.now _ _ c.in-Misuse.is)
    (record { status = refl; written = written_none _ })

pub returns-in-Mean : goal.returns-in-Mean
returns-in-Mean c =
    replied_as _ _ _ (mean_misused _ _ c.args.count c.args.numbers.now _ _ c.in-Mean.is)
    (record { status = refl; written = written_none _ })
