-- `reading::stem_at` meets its contract. Assumes nothing.
use mathlib.Core.Path.{◌≡◌, sym, ◌∙◌, ap}
use Prim.Native.Nat.{ℕ, ◌+◌, ◌≤◌, max}
use native.Mathlib.Omega.{arith}
use lib.ListN.{length, get_or}
use Rattle.refusal.specs.declared.Refusal.{Refusal}
use Rattle.cursor.specs.Cursor.{token, number_at, weight_at}
use Rattle.cursor.proofs.Counts.{byte_within, token_within, weight_within}
use Rattle.reading.specs.Lines.{Stalk, Bare, stem_of, on_own, on_owned, on_head, on_headed, stem_at, refused_at, InLine}
use Rattle.reading.proofs.Laws.{in_line, stem_none, stem_own}
use Rattle.reading.proofs.stem_at.Goals as goal
use Rattle.std.specs.Prelude.{Err, Some}

-- what a fault's place says is refused there
refused : (line at : ℕ) (S : Stalk) (place : ℕ) (r : Refusal) → r ≡ refused_at line at place → Bare place ≡ S → Err r ≡ stem_of line at S
refused line at S place r e q = ap Err e ∙ ap (stem_of line at) q

pub refused_at-requires : goal.refused_at-requires
refused_at-requires c =
    let stopped : InLine c.args.at c.number_at-head.result.stop = let t = token_within c.args.text.now c.args.at c.args.n in in_line c.args.text.now _ _ c.well_formed.0.1 (rw c.number_at-head.ensures t.0) (rw c.number_at-head.ensures t.1) in
    stopped

pub returns-in_default : goal.returns-in_default
unfolding stem_at
returns-in_default c =
    let s = c.args.text.now in
    refused _ _ _ _ _ c.refused_at.ensures (ap (on_head s c.number_at-head.result.stop) (sym c.in_default.is) ∙ ap (on_headed s) c.number_at-head.ensures)

pub refused_at-requires-then-byte_at-ne32 : goal.refused_at-requires-then-byte_at-ne32
refused_at-requires-then-byte_at-ne32 c =
    let stopped : InLine c.args.at c.number_at-head.result.stop = let t = token_within c.args.text.now c.args.at c.args.n in in_line c.args.text.now _ _ c.well_formed.0.1 (rw c.number_at-head.ensures t.0) (rw c.number_at-head.ensures t.1) in
    stopped

pub returns-then-byte_at-ne32 : goal.returns-then-byte_at-ne32
unfolding stem_at
returns-then-byte_at-ne32 c =
    let headed : let a = c.args in let t = c.number_at-head.result in number_at a.text.now a.at a.n ≡ token t.start t.stop (Some c.in-Some.v) = let t = c.number_at-head.result in sym c.number_at-head.ensures ∙ ap (token t.start t.stop) c.in-Some.is in
    refused _ _ _ _ _ c.refused_at-then-byte_at-ne32.ensures (stem_none _ _ _ _ _ headed (λ e. c.if-byte_at-ne32.true (c.byte_at.ensures ∙ e)))

pub overflow_add-from : goal.overflow_add-from
overflow_add-from c =
    let spaced : get_or c.args.text.now c.number_at-head.result.stop 0 ≡ 32 = sym c.byte_at.ensures ∙ c.if-byte_at-ne32.false in
    omega (arith, byte_within c.args.text.now c.number_at-head.result.stop 32 spaced (omega arith))

-- so is where the own weight's reading stopped
pub refused_at-requires-in_default-figure : goal.refused_at-requires-in_default-figure
refused_at-requires-in_default-figure c =
    let spaced : get_or c.args.text.now c.number_at-head.result.stop 0 ≡ 32 = sym c.byte_at.ensures ∙ c.if-byte_at-ne32.false in
    let stopped : InLine c.args.at c.number_at-head.result.stop = let t = token_within c.args.text.now c.args.at c.args.n in in_line c.args.text.now _ _ c.well_formed.0.1 (rw c.number_at-head.ensures t.0) (rw c.number_at-head.ensures t.1) in
    let s = c.args.text.now in
    let t = weight_within s (c.number_at-head.result.stop + 1) in
    let inside = byte_within s c.number_at-head.result.stop 32 spaced (omega arith) in
    let h = stopped.behind_start in
    let low = t.0 in
    let high = t.1 in
    let low' : c.args.at ≤ (weight_at s (c.number_at-head.result.stop + 1)).stop = omega arith in
    let high' : (weight_at s (c.number_at-head.result.stop + 1)).stop ≤ max c.args.at (length s) = omega arith in
    in_line s _ _ c.well_formed.0.1 (rw c.weight_at-weight.ensures low') (rw c.weight_at-weight.ensures high')

pub returns-in_default-figure : goal.returns-in_default-figure
unfolding stem_at
returns-in_default-figure c =
    let headed : let a = c.args in let t = c.number_at-head.result in number_at a.text.now a.at a.n ≡ token t.start t.stop (Some c.in-Some.v) = let t = c.number_at-head.result in sym c.number_at-head.ensures ∙ ap (token t.start t.stop) c.in-Some.is in
    let spaced : get_or c.args.text.now c.number_at-head.result.stop 0 ≡ 32 = sym c.byte_at.ensures ∙ c.if-byte_at-ne32.false in
    let v = c.in-Some.v in
    refused _ _ _ _ _ c.refused_at-in_default-figure.ensures
    (ap (on_own v c.weight_at-weight.result.stop) (sym c.in_default-figure.is) ∙ ap (on_owned v) c.weight_at-weight.ensures ∙ stem_own _ _ _ _ _ headed spaced)

pub returns : goal.returns
unfolding stem_at
returns c =
    let headed : let a = c.args in let t = c.number_at-head.result in number_at a.text.now a.at a.n ≡ token t.start t.stop (Some c.in-Some.v) = let t = c.number_at-head.result in sym c.number_at-head.ensures ∙ ap (token t.start t.stop) c.in-Some.is in
    let spaced : get_or c.args.text.now c.number_at-head.result.stop 0 ≡ 32 = sym c.byte_at.ensures ∙ c.if-byte_at-ne32.false in
    let v = c.in-Some.v in
    ap (stem_of _ _) (ap (on_own v c.weight_at-weight.result.stop) (sym c.in-Some-figure.is) ∙ ap (on_owned v) c.weight_at-weight.ensures ∙ stem_own _ _ _ _ _ headed spaced)
