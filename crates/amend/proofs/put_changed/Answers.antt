-- `amend::put_changed` meets its contract, by whether the change was accepted. Assumes nothing.
use Rattle.reply.specs.Reply.{on_acceptance}
use Rattle.amend.proofs.put_changed.Goals as goal

pub returns-in-Err : goal.returns-in-Err
unfolding on_acceptance
returns-in-Err c = rw c.in-Err.is c.put_refusal.ensures

pub returns-in-Ok : goal.returns-in-Ok
unfolding on_acceptance
returns-in-Ok c = rw c.in-Ok.is c.put_text.ensures
