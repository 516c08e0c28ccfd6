-- `writing::put_own` meets its contract. Assumes nothing.
use Rattle.std.proofs.Common.{◌≡◌, ℕ, List, ◌∷◌, length, sym, ◌∙◌, ap, arith}
use Rattle.text.specs.Render.{digits, own_text}
use Rattle.writing.proofs.Written.{written_as}
use Rattle.writing.proofs.Widths.{own_struck, own_plain}
use Rattle.writing.proofs.put_own.Goals as goal

pub put_led-requires : goal.put_led-requires
put_led-requires c =
    let dashed : own_text c.args.own.0 c.args.mark.0 ≡ 45 ∷ digits c.args.own.0 = own_struck _ _ (sym c.is_struck.ensures ∙ c.if-is_struck.true) in
    let e = ap length dashed in let p = c.requires in omega arith

pub returns-then-is_struck : goal.returns-then-is_struck
returns-then-is_struck c =
    let dashed : own_text c.args.own.0 c.args.mark.0 ≡ 45 ∷ digits c.args.own.0 = own_struck _ _ (sym c.is_struck.ensures ∙ c.if-is_struck.true) in
    written_as _ _ _ (ap (λ (z : List ℕ). 32 ∷ z) (sym dashed)) c.put_led.ensures

pub put_led-requires-2 : goal.put_led-requires-2
put_led-requires-2 c =
    let plain : own_text c.args.own.0 c.args.mark.0 ≡ digits c.args.own.0 = own_plain _ _ (sym c.is_struck.ensures ∙ c.if-is_struck.false) in
    let e = ap length plain in let p = c.requires in omega arith

pub returns : goal.returns
returns c =
    let plain : own_text c.args.own.0 c.args.mark.0 ≡ digits c.args.own.0 = own_plain _ _ (sym c.is_struck.ensures ∙ c.if-is_struck.false) in
    written_as _ _ _ (ap (λ (z : List ℕ). 32 ∷ z) (sym plain)) c.put_led-2.ensures
