-- `reading::named` meets its contract. Assumes nothing.
use mathlib.Core.Path.{◌≡◌, ◌∙◌, ap, subst}
use Prim.Native.Nat.{ℕ, ◌+◌, ◌≤◌, ◌<◌}
use native.Mathlib.Omega.{arith}
use borrow.Author.Tests.{lt-ltb, le-ltb}
use lib.ListN.{length, drop, length-drop}
use Rattle.columns.proofs.Filled.{part_whole}
use Rattle.reading.specs.Lines.{agreeing, Opens, Unopened, first_of, on_word}
use Rattle.reading.proofs.Scanning.{agrees_within}
use Rattle.reading.proofs.Laws.{in_line}
use Rattle.reading.proofs.named.Goals as goal
use Rattle.std.specs.Prelude.{Err}

pub overflow_add-place : goal.overflow_add-place
overflow_add-place c =
    let same : let a = c.args in c.agree-same.result ≡ agreeing a.word.now (drop a.at a.text.now) = let a = c.args in c.agree-same.ensures ∙ ap (agreeing a.word.now) (part_whole a.text.now a.at) in
    let inside : let a = c.args in a.at + c.agree-same.result ≤ length a.text.now = let a = c.args in let h = c.requires in let e = same in omega (arith, length-drop a.at a.text.now, agrees_within a.word.now (drop a.at a.text.now)) in
    omega (arith, inside)

pub refused_at-requires : goal.refused_at-requires
refused_at-requires c =
    let same : let a = c.args in c.agree-same.result ≡ agreeing a.word.now (drop a.at a.text.now) = let a = c.args in c.agree-same.ensures ∙ ap (agreeing a.word.now) (part_whole a.text.now a.at) in
    let inside : let a = c.args in a.at + c.agree-same.result ≤ length a.text.now = let a = c.args in let h = c.requires in let e = same in omega (arith, length-drop a.at a.text.now, agrees_within a.word.now (drop a.at a.text.now)) in
    let h = inside in
    in_line c.args.text.now 0 _ c.well_formed.0.1 (omega arith) (omega arith)

pub returns-then-same-word : goal.returns-then-same-word
returns-then-same-word c =
    let same : let a = c.args in c.agree-same.result ≡ agreeing a.word.now (drop a.at a.text.now) = let a = c.args in c.agree-same.ensures ∙ ap (agreeing a.word.now) (part_whole a.text.now a.at) in
    let a = c.args in
    let q = same in
    let k = agreeing a.word.now (drop a.at a.text.now) in
    let h : k < length a.word.now = subst (λ (j : ℕ). j < length a.word.now) q c.if-same-word.true in
    let z : Unopened (a.at + k) ≡ on_word a.n a.measure a.at a.word.now k = rw (lt-ltb _ _ h) in
    ap Err c.refused_at.ensures ∙ ap first_of (ap (λ (j : ℕ). Unopened (a.at + j)) q ∙ z)

pub overflow_add-start : goal.overflow_add-start
overflow_add-start c =
    let same : let a = c.args in c.agree-same.result ≡ agreeing a.word.now (drop a.at a.text.now) = let a = c.args in c.agree-same.ensures ∙ ap (agreeing a.word.now) (part_whole a.text.now a.at) in
    let inside : let a = c.args in a.at + c.agree-same.result ≤ length a.text.now = let a = c.args in let h = c.requires in let e = same in omega (arith, length-drop a.at a.text.now, agrees_within a.word.now (drop a.at a.text.now)) in
    let h = c.if-same-word.false in omega (arith, inside)

pub returns : goal.returns
returns c =
    let same : let a = c.args in c.agree-same.result ≡ agreeing a.word.now (drop a.at a.text.now) = let a = c.args in c.agree-same.ensures ∙ ap (agreeing a.word.now) (part_whole a.text.now a.at) in
    let a = c.args in
    let k = agreeing a.word.now (drop a.at a.text.now) in
    let h : length a.word.now ≤ k = subst (λ (j : ℕ). length a.word.now ≤ j) same c.if-same-word.false in
    let z : Opens a.n a.measure (a.at + length a.word.now) ≡ on_word a.n a.measure a.at a.word.now k = rw (le-ltb _ _ h) in
    ap first_of z
