use mathlib.Core.Path.{◌≡◌, sym, ◌∙◌, ap}
use Prim.Native.Nat.{ℕ, ◌-◌, ◌<◌}
use native.Mathlib.Omega.{arith}
use lib.ListN.{length}
use Rattle.std.specs.Prelude.{Some}
use Rattle.command.specs.Command.{gathered, numbers_from}
use Rattle.command.proofs.Laws.{at_end, at_neither, at_many, at_number}
use Rattle.command.proofs.numbers_from.Goals as goal

pub loop-i-init : goal.loop-i-init
loop-i-init c = let a = c.args in ap (λ (k : ℕ). numbers_from k a.words.now a.from 0 a.column.now) (omega arith)

pub returns-in-End : goal.returns-in-End
returns-in-End c = sym (at_end _ _ _ _ _ (sym c.next_at-next.ensures ∙ c.in-End.is)) ∙ c.loop-i.invariant

pub returns-in-Neither : goal.returns-in-Neither
returns-in-Neither c = sym (at_neither _ _ _ _ _ (sym c.next_at-next.ensures ∙ c.in-Neither.is)) ∙ c.loop-i.invariant

pub loop-i-preserved : goal.loop-i-preserved
loop-i-preserved c =
    let l = c.loop-i in
    let t : l.i < length l.column = omega arith in
    at_number _ _ l.i l.column _ _ t (sym c.next_at-next.ensures ∙ c.in-Number.is) ∙ l.invariant

pub returns-in-End-last : goal.returns-in-End-last
returns-in-End-last c =
    let l = c.loop-i in
    let full : l.i ≡ length l.column = omega arith in
    ap (λ (k : ℕ). gathered (Some k) l.column) (sym full) ∙ sym (at_end _ _ _ _ _ (sym c.next_at-last.ensures ∙ c.in-End-last.is)) ∙ l.invariant

pub returns-in-Neither-last : goal.returns-in-Neither-last
returns-in-Neither-last c = sym (at_neither _ _ _ _ _ (sym c.next_at-last.ensures ∙ c.in-Neither-last.is)) ∙ c.loop-i.invariant

pub returns-in-Number-last : goal.returns-in-Number-last
returns-in-Number-last c =
    let l = c.loop-i in
    let full : length l.column - l.i ≡ 0 = omega arith in
    sym (at_many _ _ _ _ _ _ _ full (sym c.next_at-last.ensures ∙ c.in-Number-last.is)) ∙ l.invariant
