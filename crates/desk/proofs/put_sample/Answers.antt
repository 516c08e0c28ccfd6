-- `desk::put_sample` meets its contract, by the length of the input. Assumes nothing.
use native.Mathlib.Omega.{arith}
use Rattle.desk.proofs.Laws.{replied_as, long_sample, short_sample}
use Rattle.desk.proofs.put_sample.Goals as goal

pub returns-then-input-le-MOST_INPUT : goal.returns-then-input-le-MOST_INPUT
returns-then-input-le-MOST_INPUT c =
    let h = c.if-input-le-MOST_INPUT.true in
    replied_as _ _ _ (short_sample c.args.input.now (omega arith)) c.put_mean.ensures

pub returns : goal.returns
returns c =
    let h = c.if-input-le-MOST_INPUT.false in
    replied_as _ _ _ (long_sample c.args.input.now (omega arith)) c.put_refusal.ensures
