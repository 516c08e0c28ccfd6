-- `desk::put_table` meets its contract, by what is asked. Assumes nothing.
use Rattle.desk.proofs.Laws.{replied_as, uses_said_lem, check_said, order_said, settled_said_lem}
use Rattle.desk.proofs.put_table.Goals as goal

pub returns-in-Uses : goal.returns-in-Uses
returns-in-Uses c = replied_as _ _ _ (uses_said_lem _ _ _ _ _ _ c.in-Uses.is) c.put_uses.ensures

pub returns-in-Check : goal.returns-in-Check
returns-in-Check c = replied_as _ _ _ (check_said _ _ _ _ _ _ c.in-Check.is c.check_table-answer.ensures) c.put_acceptance.ensures

pub returns-in-CheckOrder : goal.returns-in-CheckOrder
returns-in-CheckOrder c =
    replied_as _ _ _ (order_said _ _ _ _ _ _ c.in-CheckOrder.is c.check_order-answer.ensures) c.put_acceptance-in-CheckOrder.ensures

pub returns-in-Settled : goal.returns-in-Settled
returns-in-Settled c = replied_as _ _ _ (settled_said_lem _ _ _ _ _ _ c.in-Settled.is) c.put_settled.ensures
