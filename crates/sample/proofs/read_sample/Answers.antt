use mathlib.Core.Path.{◌≡◌, sym, ◌∙◌, ap}
use Prim.Native.Nat.{ℕ, ◌-◌, ◌<◌}
use native.Mathlib.Omega.{arith}
use lib.ListN.{length}
use Rattle.std.specs.Prelude.{Ok, Err}
use Rattle.refusal.specs.declared.Refusal.{Refusal}
use Rattle.sample.specs.Sample.{read, sample_from}
use Rattle.sample.proofs.Laws.{wrong_placed, at_end, at_wrong, at_number, at_full}
use Rattle.sample.proofs.read_sample.Goals as goal

pub loop-i-init : goal.loop-i-init
loop-i-init c = let a = c.args in ap (λ (k : ℕ). sample_from k a.text.now 0 0 a.column.now) (omega arith)

pub returns-in-End : goal.returns-in-End
returns-in-End c =
    let l = c.loop-i in
    let t : l.i < length l.column = omega arith in
    sym (at_end _ _ l.i l.column t (sym c.result_at-next.ensures ∙ c.in-End.is)) ∙ l.invariant

pub wrong_at-refusal-requires : goal.wrong_at-refusal-requires
wrong_at-refusal-requires c =
    let w = wrong_placed c.args.text.now c.loop-i.at _ (sym c.result_at-next.ensures ∙ c.in-Wrong.is) in
    let p = w.1 in
    (omega (arith, c.well_formed), w.0, omega (arith, c.well_formed))

pub returns-in-Wrong : goal.returns-in-Wrong
returns-in-Wrong c =
    let l = c.loop-i in
    let t : l.i < length l.column = omega arith in
    ap (λ (z : Refusal). read (Err z) l.column) c.wrong_at-refusal.ensures
    ∙ sym (at_wrong _ _ l.i l.column _ t (sym c.result_at-next.ensures ∙ c.in-Wrong.is)) ∙ l.invariant

pub loop-i-preserved : goal.loop-i-preserved
loop-i-preserved c =
    let l = c.loop-i in
    let t : l.i < length l.column = omega arith in
    at_number _ _ l.i l.column _ _ t (sym c.result_at-next.ensures ∙ c.in-Number.is) ∙ l.invariant

pub returns : goal.returns
returns c =
    let l = c.loop-i in
    let full : l.i ≡ length l.column = omega arith in
    ap (λ (k : ℕ). read (Ok k) l.column) (sym full) ∙ sym (at_full _ _ l.i l.column (length l.column - l.i) (omega arith)) ∙ l.invariant
