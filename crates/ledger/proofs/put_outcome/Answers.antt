-- `ledger::put_outcome` meets its contract, word by word. Assumes nothing.
use Rattle.ledger.proofs.Rows.{received_is, issued_is, built_is, late_is, outcome_written}
use Rattle.ledger.proofs.put_outcome.Goals as goal

pub returns-then-outcome-eq0-clause-written : goal.returns-then-outcome-eq0-clause-written
returns-then-outcome-eq0-clause-written c = (outcome_written _ _ _ _ _ (received_is _ c.if-outcome-eq0.true) c.put_bytes.ensures).0

pub returns-then-outcome-eq1-clause-written : goal.returns-then-outcome-eq1-clause-written
returns-then-outcome-eq1-clause-written c = (outcome_written _ _ _ _ _ (issued_is _ c.if-outcome-eq0.false c.if-outcome-eq1.true) c.put_bytes-then-outcome-eq1.ensures).0

pub returns-then-outcome-eq2-clause-written : goal.returns-then-outcome-eq2-clause-written
returns-then-outcome-eq2-clause-written c =
    (outcome_written _ _ _ _ _ (built_is _ c.if-outcome-eq0.false c.if-outcome-eq1.false c.if-outcome-eq2.true) c.put_bytes-then-outcome-eq2.ensures).0

pub returns-clause-written : goal.returns-clause-written
returns-clause-written c =
    (outcome_written _ _ _ _ _ (late_is _ c.if-outcome-eq0.false c.if-outcome-eq1.false c.if-outcome-eq2.false) c.put_bytes-2.ensures).0
