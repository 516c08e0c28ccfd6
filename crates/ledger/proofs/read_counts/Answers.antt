use mathlib.Core.Path.{◌≡◌, sym, ◌∙◌, ap}
use Prim.Native.Nat.{ℕ, ◌-◌, ◌<◌}
use native.Mathlib.Omega.{arith}
use lib.ListN.{length}
use Rattle.std.specs.Prelude.{Ok}
use Rattle.ledger.specs.Record.{gathered, counts_from}
use Rattle.ledger.proofs.Laws.{counts_end, counts_wrong, counts-more, counts_full}
use Rattle.ledger.proofs.read_counts.Goals as goal

pub loop-i-init : goal.loop-i-init
loop-i-init c = let a = c.args in ap (λ (k : ℕ). counts_from k a.text.now a.from 0 a.column.now) (omega arith)

pub returns-in-End : goal.returns-in-End
returns-in-End c =
    let l = c.loop-i in
    let t : l.i < length l.column = omega arith in
    sym (counts_end _ _ l.i l.column _ t (sym c.next_at-next.ensures ∙ c.in-End.is)) ∙ l.invariant

pub returns-in-Wrong : goal.returns-in-Wrong
returns-in-Wrong c =
    let l = c.loop-i in
    let t : l.i < length l.column = omega arith in
    sym (counts_wrong _ _ l.i l.column _ t (sym c.next_at-next.ensures ∙ c.in-Wrong.is)) ∙ l.invariant

pub loop-i-preserved : goal.loop-i-preserved
loop-i-preserved c =
    let l = c.loop-i in
    let t : l.i < length l.column = omega arith in
    counts-more _ _ l.i l.column _ _ t (sym c.next_at-next.ensures ∙ c.in-Number.is) ∙ l.invariant

pub returns-in-Space : goal.returns-in-Space
returns-in-Space c =
    let l = c.loop-i in
    let full : length l.column - l.i ≡ 0 = omega arith in
    sym (counts_full _ _ l.i l.column _ _ full (sym c.separator_at-separator.ensures ∙ c.in-Space.is)) ∙ l.invariant

pub returns-in-LineEnd : goal.returns-in-LineEnd
returns-in-LineEnd c =
    let l = c.loop-i in
    let full : length l.column - l.i ≡ 0 = omega arith in
    let all : length l.column ≡ l.i = omega arith in
    ap (λ (k : ℕ). gathered (Ok (k, c.in-LineEnd.line)) l.column) all
    ∙ sym (counts_full _ _ l.i l.column _ _ full (sym c.separator_at-separator.ensures ∙ c.in-LineEnd.is)) ∙ l.invariant

pub returns-in-Neither : goal.returns-in-Neither
returns-in-Neither c =
    let l = c.loop-i in
    let full : length l.column - l.i ≡ 0 = omega arith in
    sym (counts_full _ _ l.i l.column _ _ full (sym c.separator_at-separator.ensures ∙ c.in-Neither.is)) ∙ l.invariant
