-- `writing::own_width` meets its contract. Assumes nothing.
use mathlib.Core.Path.{◌≡◌, sym, ◌∙◌, ap}
use mathlib.Core.List.{◌∷◌}
use native.Mathlib.Omega.{arith}
use lib.ListN.{length}
use Rattle.text.specs.Render.{digits, own_text}
use Rattle.writing.proofs.Widths.{own_struck, own_plain, width_most}
use Rattle.writing.proofs.own_width.Goals as goal

pub overflow_add-result : goal.overflow_add-result
overflow_add-result c = let w = c.number_width-width.ensures in let m = width_most c.args.own.0 in let p = c.requires in omega arith

pub returns-then-is_struck : goal.returns-then-is_struck
returns-then-is_struck c =
    let a = c.args in
    let e : length (own_text a.own.0 a.mark.0) ≡ length (45 ∷ digits a.own.0) = ap length (own_struck _ _ (sym c.is_struck.ensures ∙ c.if-is_struck.true)) in
    let w = c.number_width-width.ensures in
    omega arith

pub overflow_add-result-2 : goal.overflow_add-result-2
overflow_add-result-2 c = let w = c.number_width-width.ensures in let m = width_most c.args.own.0 in let p = c.requires in omega arith

pub returns : goal.returns
returns c =
    let a = c.args in
    let e : length (own_text a.own.0 a.mark.0) ≡ length (digits a.own.0) = ap length (own_plain _ _ (sym c.is_struck.ensures ∙ c.if-is_struck.false)) in
    let w = c.number_width-width.ensures in
    omega arith
