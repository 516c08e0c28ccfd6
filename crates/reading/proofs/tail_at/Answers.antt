use mathlib.Core.Path.{◌≡◌, sym, ◌∙◌, ap}
use mathlib.Core.List.{List}
use Prim.Native.Nat.{ℕ, ◌+◌, ◌≤◌, ◌<◌, min, max}
use native.Mathlib.Omega.{arith}
use lib.ListN.{length, get_or}
use Rattle.cursor.specs.Cursor.{token, number_at}
use Rattle.cursor.proofs.Counts.{byte_within, number_counts, token_within}
use Rattle.refusal.specs.declared.Refusal.{Refusal}
use Rattle.reading.specs.Lines.{Listing, ReadsTail, refused_at, InLine}
use Rattle.reading.proofs.Laws.{in_line, listed_none, list_full, list_none, list_more, list_broken, list_ends}
use Rattle.reading.proofs.tail_at.Goals as goal
use Rattle.std.specs.Prelude.{Err, Some}

-- what a fault's place says is refused there
refused : (line start : ℕ) (L : Listing) (old new : List ℕ) (place : ℕ) (r : Refusal) → r ≡ refused_at line start place
    → ReadsTail line start L old (Err (refused_at line start place)) new → ReadsTail line start L old (Err r) new
refused line start L old new place r e t = record { answer = ap Err e ∙ t.answer; room = t.room }

pub loop-line-init : goal.loop-line-init
loop-line-init c = (listed_none _ _ _ _ _, c.requires.0, c.requires.1)

pub refused_at-requires : goal.refused_at-requires
refused_at-requires c =
    let here : InLine c.args.start c.loop-line.next = let h = c.loop-line.invariant.2 in in_line c.args.text.now _ _ c.well_formed.0.1 c.loop-line.invariant.1 (omega arith) in
    here

pub shape_of-room-then-k-limit : goal.shape_of-room-then-k-limit
shape_of-room-then-k-limit c = c.loop-line.invariant.0.long

pub returns-then-k-limit : goal.returns-then-k-limit
returns-then-k-limit c =
    let spaced : get_or c.args.text.now c.loop-line.next 0 ≡ 32 = sym c.byte_at.ensures ∙ c.loop-line-test.true in
    refused _ _ _ _ _ _ _ c.refused_at.ensures (list_full _ _ _ _ _ _ _ _ c.loop-line.invariant.0 _ _ spaced (let h = c.if-k-limit.true in let e = c.min-limit.ensures in omega arith))

pub overflow_add-from : goal.overflow_add-from
overflow_add-from c =
    let spaced : get_or c.args.text.now c.loop-line.next 0 ≡ 32 = sym c.byte_at.ensures ∙ c.loop-line-test.true in
    omega (arith, byte_within c.args.text.now c.loop-line.next 32 spaced (omega arith))

pub refused_at-requires-in_default : goal.refused_at-requires-in_default
refused_at-requires-in_default c =
    let spaced : get_or c.args.text.now c.loop-line.next 0 ≡ 32 = sym c.byte_at.ensures ∙ c.loop-line-test.true in
    let s = c.args.text.now in
    let t = token_within s (c.loop-line.next + 1) c.args.n in
    let inside = byte_within s c.loop-line.next 32 spaced (omega arith) in
    let h = c.loop-line.invariant.1 in
    let low = t.0 in
    let high = t.1 in
    let low' : c.args.start ≤ (number_at s (c.loop-line.next + 1) c.args.n).stop = omega arith in
    let high' : (number_at s (c.loop-line.next + 1) c.args.n).stop ≤ max c.args.start (length s) = omega arith in
    in_line s _ _ c.well_formed.0.1 (rw c.number_at-vertex.ensures low') (rw c.number_at-vertex.ensures high')

pub shape_of-room-in_default : goal.shape_of-room-in_default
shape_of-room-in_default c = c.loop-line.invariant.0.long

pub returns-in_default : goal.returns-in_default
returns-in_default c =
    let roomy : c.loop-line.k < min c.args.most (length c.args.room.now) = let e = c.min-limit.ensures in let h = c.if-k-limit.false in omega arith in
    let spaced : get_or c.args.text.now c.loop-line.next 0 ≡ 32 = sym c.byte_at.ensures ∙ c.loop-line-test.true in
    let t = c.number_at-vertex.result in
    refused _ _ _ _ _ _ _ c.refused_at-in_default.ensures
    (list_none _ _ _ _ _ _ _ _ c.loop-line.invariant.0 _ _ _ _ spaced roomy
    (sym c.number_at-vertex.ensures ∙ ap (token t.start t.stop) c.in_default.is))

pub loop-line-smaller : goal.loop-line-smaller
loop-line-smaller c =
    let listed : let a = c.args in let t = c.number_at-vertex.result in number_at a.text.now (c.loop-line.next + 1) a.n ≡ token t.start t.stop (Some c.in-Some.v) = let t = c.number_at-vertex.result in sym c.number_at-vertex.ensures ∙ ap (token t.start t.stop) c.in-Some.is in
    let h = number_counts _ _ _ _ _ _ listed in let a = h.1 in let b = h.2 in omega arith

pub loop-line-preserved : goal.loop-line-preserved
loop-line-preserved c =
    let listed : let a = c.args in let t = c.number_at-vertex.result in number_at a.text.now (c.loop-line.next + 1) a.n ≡ token t.start t.stop (Some c.in-Some.v) = let t = c.number_at-vertex.result in sym c.number_at-vertex.ensures ∙ ap (token t.start t.stop) c.in-Some.is in
    let roomy : c.loop-line.k < min c.args.most (length c.args.room.now) = let e = c.min-limit.ensures in let h = c.if-k-limit.false in omega arith in
    let spaced : get_or c.args.text.now c.loop-line.next 0 ≡ 32 = sym c.byte_at.ensures ∙ c.loop-line-test.true in
    let h = number_counts _ _ _ _ _ _ listed in
    let a = h.1 in
    let b = c.loop-line.invariant.1 in
    (list_more _ _ _ _ _ _ _ _ c.loop-line.invariant.0 _ _ _ spaced roomy listed, omega arith, h.2)

pub refused_at-requires-then-byte_at-ne10 : goal.refused_at-requires-then-byte_at-ne10
refused_at-requires-then-byte_at-ne10 c =
    let here : InLine c.args.start c.loop-line.next = let h = c.loop-line.invariant.2 in in_line c.args.text.now _ _ c.well_formed.0.1 c.loop-line.invariant.1 (omega arith) in
    here

pub shape_of-room-then-byte_at-ne10 : goal.shape_of-room-then-byte_at-ne10
shape_of-room-then-byte_at-ne10 c = c.loop-line.invariant.0.long

pub returns-then-byte_at-ne10 : goal.returns-then-byte_at-ne10
returns-then-byte_at-ne10 c =
    let unspaced : get_or c.args.text.now c.loop-line.next 0 ≡ 32 → ⊥ = λ e. c.loop-line-test.false (c.byte_at.ensures ∙ e) in
    refused _ _ _ _ _ _ _ c.refused_at-then-byte_at-ne10.ensures
    (list_broken _ _ _ _ _ _ _ _ c.loop-line.invariant.0 _ _ unspaced (λ q. c.if-byte_at-ne10.true (c.byte_at-2.ensures ∙ q)))

pub overflow_add-behind : goal.overflow_add-behind
overflow_add-behind c =
    omega (arith, byte_within c.args.text.now c.loop-line.next 10 (sym c.byte_at-2.ensures ∙ c.if-byte_at-ne10.false) (omega arith))

pub shape_of-room : goal.shape_of-room
shape_of-room c = c.loop-line.invariant.0.long

pub returns : goal.returns
returns c =
    let unspaced : get_or c.args.text.now c.loop-line.next 0 ≡ 32 → ⊥ = λ e. c.loop-line-test.false (c.byte_at.ensures ∙ e) in
    list_ends _ _ _ _ _ _ _ _ c.loop-line.invariant.0 _ _ unspaced (sym c.byte_at-2.ensures ∙ c.if-byte_at-ne10.false)
