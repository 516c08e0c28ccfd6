-- `ledger::read_record` meets its contract, by what reading the counts and the events returned. Assumes nothing.
use mathlib.Core.Path.{sym, ◌∙◌, ap}
use Prim.Native.Nat.{ℕ}
use native.Mathlib.Omega.{arith}
use Rattle.std.specs.Prelude.{Result, Err}
use Rattle.std.proofs.lemmas.Result.{err_from_is_err_and}
use Rattle.refusal.specs.declared.Refusal.{Refusal}
use Rattle.ledger.specs.Record.{entered}
use Rattle.ledger.proofs.Laws.{shelf_wrong, shelf_right, record_wrong, record_is}
use Rattle.ledger.proofs.read_record.Goals as goal

pub wrong_at-refusal-requires : goal.wrong_at-refusal-requires
wrong_at-refusal-requires c =
    let p = shelf_wrong c.args.text.now _ c.args.parts.now c.args.received.now _ _ c.read_shelf-counts.ensures _ c.in-Err.is in
    (omega arith, omega (arith, c.well_formed))

pub read_events-requires : goal.read_events-requires
read_events-requires c =
    (shelf_right c.args.text.now _ c.args.parts.now c.args.received.now _ _ c.read_shelf-counts.ensures _ _ c.in-Ok.is, c.requires)

pub returns-in-Err : goal.returns-in-Err
returns-in-Err c =
    record_wrong c.args.text.now _ c.args.parts.now c.args.received.now _ _ c.read_shelf-counts.ensures _ _ c.in-Err.is c.wrong_at-refusal.ensures

pub returns-in_err-e-in-Ok : goal.returns-in_err-e-in-Ok
returns-in_err-e-in-Ok c =
    let a = c.args in
    let r = err_from_is_err_and c.from_residual.result c.from_residual.ensures.1 in
    ap (λ (z : Result (ℕ × ℕ) Refusal). entered z c.read_shelf-counts.new.column c.read_events.new.parts c.read_events.new.received) (r.1 ∙ ap Err r.2)
    ∙ record_is a.text.now _ a.parts.now a.received.now _ _ c.read_shelf-counts.ensures _ _ _ _ _ c.in-Ok.is c.read_events.ensures _ c.in_err-e-in-Ok.was

pub returns-in_ok-e-in-Ok : goal.returns-in_ok-e-in-Ok
returns-in_ok-e-in-Ok c =
    let a = c.args in
    record_is a.text.now _ a.parts.now a.received.now _ _ c.read_shelf-counts.ensures _ _ _ _ _ c.in-Ok.is c.read_events.ensures _ c.in_ok-e-in-Ok.was
