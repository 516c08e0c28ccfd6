-- `desk::reply` meets its contract, by the command that the words are. Assumes nothing.
use mathlib.Core.Path.{refl}
use native.Mathlib.Omega.{arith}
use Rattle.writing.proofs.Written.{written_none}
use Rattle.desk.proofs.Laws.{replied_as, words_misused, words_mean, words_ask, words_append, words_take, numbers_long}
use Rattle.desk.proofs.reply.Goals as goal

pub slice_bounds-put_input-end-in-Ask : goal.slice_bounds-put_input-end-in-Ask
slice_bounds-put_input-end-in-Ask c = numbers_long c.args.words.now c.args.input.now c.args.second.now _ _ c.read_command-line.ensures

pub put_input-requires : goal.put_input-requires
put_input-requires c =
    record {
      most_reply_in_bounds = omega arith;
      takes = words_take c.args.words.now c.args.input.now c.args.second.now _ _ c.read_command-line.ensures;
    }

pub slice_bounds-put_input-end-in-Append-2 : goal.slice_bounds-put_input-end-in-Append-2
slice_bounds-put_input-end-in-Append-2 c = numbers_long c.args.words.now c.args.input.now c.args.second.now _ _ c.read_command-line.ensures

pub put_input-requires-in-Append : goal.put_input-requires-in-Append
put_input-requires-in-Append c =
    record {
      most_reply_in_bounds = omega arith;
      takes = words_take c.args.words.now c.args.input.now c.args.second.now _ _ c.read_command-line.ensures;
    }

pub returns-in-Misuse : goal.returns-in-Misuse
returns-in-Misuse c =
    replied_as _ _ _
    (words_misused c.args.words.now c.args.input.now c.args.second.now _ _ c.read_command-line.ensures c.in-Misuse.is)
    (record { status = refl; written = written_none _ })

pub returns-in-Ask : goal.returns-in-Ask
returns-in-Ask c =
    replied_as _ _ _
    (words_ask c.args.words.now c.args.input.now c.args.second.now _ _ c.read_command-line.ensures _ c.in-Ask.is)
    c.put_input.ensures

pub returns-in-Append : goal.returns-in-Append
returns-in-Append c =
    replied_as _ _ _
    (words_append c.args.words.now c.args.input.now c.args.second.now _ _ c.read_command-line.ensures _ _ c.in-Append.is)
    c.put_input-in-Append.ensures

pub returns-in-Mean : goal.returns-in-Mean
returns-in-Mean c =
    replied_as _ _ _ (words_mean c.args.words.now c.args.input.now c.args.second.now _ _ c.read_command-line.ensures c.in-Mean.is) c.put_sample.ensures
