use mathlib.Core.Path.{◌≡◌, sym, ◌∙◌, ap}
use Prim.Native.Nat.{ℕ, ◌+◌, ◌-◌, ◌<◌}
use native.Mathlib.Omega.{arith}
use lib.ListN.{length}
use Rattle.std.specs.Prelude.{Ok, Err}
use Rattle.refusal.specs.declared.Refusal.{Refusal}
use Rattle.ledger.specs.Record.{wrong_at, listed, events_from}
use Rattle.ledger.proofs.Laws.{wrong_placed, line_placed, events_end, events_wrong, events_more, events_all, events_many}
use Rattle.ledger.proofs.read_events.Goals as goal

pub loop-i-init : goal.loop-i-init
loop-i-init c =
    let a = c.args in
    (c.requires.0, ap (λ (k : ℕ). events_from k a.text.now a.from 0 a.parts.now a.received.now) (omega arith))

pub returns-in-End : goal.returns-in-End
returns-in-End c =
    let l = c.loop-i in
    let t : l.i < length l.parts = omega arith in
    sym (events_end _ _ l.i l.parts l.received t (sym c.event_at-next.ensures ∙ c.in-End.is)) ∙ l.invariant.1

pub wrong_at-refusal-requires : goal.wrong_at-refusal-requires
wrong_at-refusal-requires c =
    let w = wrong_placed c.args.text.now c.loop-i.at _ (sym c.event_at-next.ensures ∙ c.in-Wrong.is) in
    let p = w.1 in
    (w.0, omega (arith, c.well_formed))

pub returns-in-Wrong : goal.returns-in-Wrong
returns-in-Wrong c =
    let l = c.loop-i in
    let t : l.i < length l.parts = omega arith in
    ap (λ (z : Refusal). listed (Err z) l.parts l.received) c.wrong_at-refusal.ensures
    ∙ sym (events_wrong _ _ l.i l.parts l.received _ t (sym c.event_at-next.ensures ∙ c.in-Wrong.is)) ∙ l.invariant.1

pub loop-i-preserved : goal.loop-i-preserved
loop-i-preserved c =
    let l = c.loop-i in
    let t : l.i < length l.parts = omega arith in
    let e = sym c.event_at-next.ensures ∙ c.in-Event.is in
    ((line_placed _ _ _ _ _ e).1, events_more _ _ l.i l.parts l.received _ _ _ t e ∙ l.invariant.1)

pub returns-then-at-text : goal.returns-then-at-text
returns-then-at-text c =
    let l = c.loop-i in
    let all : length l.parts ≡ l.i = omega arith in
    ap (λ (k : ℕ). listed (Ok k) l.parts l.received) all
    ∙ sym (events_all _ _ l.i l.parts l.received (length l.parts - l.i) (omega arith) c.if-at-text.true) ∙ l.invariant.1

pub wrong_at-refusal-requires-2 : goal.wrong_at-refusal-requires-2
wrong_at-refusal-requires-2 c = let h = c.loop-i.invariant.0 in (omega arith, omega (arith, c.well_formed))

pub returns : goal.returns
returns c =
    let l = c.loop-i in
    let all : length l.parts ≡ l.i = omega arith in
    ap (λ (z : Refusal). listed (Err z) l.parts l.received) c.wrong_at-refusal-2.ensures
    ∙ ap (λ (k : ℕ). listed (Err (wrong_at (k + 2) l.at l.at)) l.parts l.received) all
    ∙ sym (events_many _ _ l.i l.parts l.received (length l.parts - l.i) (omega arith) c.if-at-text.false) ∙ l.invariant.1
