-- `reading::first_line` meets its contract. Assumes nothing.
use Rattle.std.proofs.Common.{◌≡◌, ℕ, ◌+◌, ◌≤◌, ◌<◌, max, length, get_or, sym, ◌∙◌, ap, subst, arith}
use Rattle.refusal.specs.declared.Refusal.{Refusal}
use Rattle.columns.specs.Acceptance.{most_vertices}
use Rattle.text.specs.Render.{word, first_word, measure_text}
use Rattle.cursor.specs.Cursor.{token, number_at}
use Rattle.cursor.proofs.Counts.{number_counts, token_within}
use Rattle.reading.specs.Lines.{agreeing, Opening, Unopened, first_of, on_count, on_counted, first_line, refused_at}
use Rattle.reading.proofs.Scanning.{agrees_within}
use Rattle.reading.proofs.Laws.{in_line, first_unopened, first_opened, count_silent, count_unspaced, count_cost, count_grade}
use Rattle.reading.proofs.first_line.Goals as goal
use Rattle.std.specs.Prelude.{Err, Some}

-- what a fault's place says is refused there
refused : (F : Opening) (place : ℕ) (r : Refusal) → r ≡ refused_at 1 0 place → Unopened place ≡ F → Err r ≡ first_of F
refused F place r e q = ap Err e ∙ ap first_of q

pub returns-then-same-lt6 : goal.returns-then-same-lt6
unfolding first_word
returns-then-same-lt6 c =
    let e = c.agree-same.ensures in
    refused _ _ _ c.refused_at.ensures (ap Unopened e ∙ first_unopened _ (subst (λ (k : ℕ). k < 6) e c.if-same-lt6.true))

pub refused_at-requires-in_default : goal.refused_at-requires-in_default
unfolding first_word
refused_at-requires-in_default c =
    let s = c.args.text.now in
    let h = c.if-same-lt6.false in
    let l = agrees_within first_word s in
    let many : 6 ≤ agreeing first_word s = subst (λ (k : ℕ). 6 ≤ k) c.agree-same.ensures h in
    let high = (token_within s 6 (most_vertices + 1)).1 in
    let high' : (number_at s 6 (most_vertices + 1)).stop ≤ max 0 (length s) = omega arith in
    in_line s 0 _ c.well_formed.0.1 (omega arith) (rw c.number_at-count.ensures high')

pub returns-in_default : goal.returns-in_default
unfolding first_word
returns-in_default c =
    let s = c.args.text.now in
    let opened : on_counted s (number_at s 6 (most_vertices + 1)) ≡ first_line s = first_opened _ (subst (λ (k : ℕ). 6 ≤ k) c.agree-same.ensures c.if-same-lt6.false) in
    refused _ _ _ c.refused_at-in_default.ensures
    (ap (on_count s c.number_at-count.result.stop) (sym c.in_default.is) ∙ ap (on_counted s) c.number_at-count.ensures ∙ opened)

pub returns-then-behind-eq10 : goal.returns-then-behind-eq10
unfolding first_word
returns-then-behind-eq10 c =
    let s = c.args.text.now in
    let t = c.number_at-count.result in
    let opened : on_counted s (number_at s 6 (most_vertices + 1)) ≡ first_line s = first_opened _ (subst (λ (k : ℕ). 6 ≤ k) c.agree-same.ensures c.if-same-lt6.false) in
    let counted : number_at s 6 (most_vertices + 1) ≡ token t.start t.stop (Some c.in-Some.n) = sym c.number_at-count.ensures ∙ ap (token t.start t.stop) c.in-Some.is in
    let ended : get_or s t.stop 0 ≡ 10 = sym c.byte_at-behind.ensures ∙ c.if-behind-eq10.true in
    ap first_of (count_silent _ _ _ _ _ counted ended ∙ opened)

pub refused_at-requires-then-behind-ne32 : goal.refused_at-requires-then-behind-ne32
refused_at-requires-then-behind-ne32 c =
    let s = c.args.text.now in
    let t = c.number_at-count.result in
    let counted : number_at s 6 (most_vertices + 1) ≡ token t.start t.stop (Some c.in-Some.n) = sym c.number_at-count.ensures ∙ ap (token t.start t.stop) c.in-Some.is in
    let h : t.stop ≤ length s = (number_counts _ _ _ _ _ _ counted).2 in
    in_line s 0 _ c.well_formed.0.1 (omega arith) (omega arith)

pub returns-then-behind-ne32 : goal.returns-then-behind-ne32
unfolding first_word
returns-then-behind-ne32 c =
    let s = c.args.text.now in
    let t = c.number_at-count.result in
    let opened : on_counted s (number_at s 6 (most_vertices + 1)) ≡ first_line s = first_opened _ (subst (λ (k : ℕ). 6 ≤ k) c.agree-same.ensures c.if-same-lt6.false) in
    let counted : number_at s 6 (most_vertices + 1) ≡ token t.start t.stop (Some c.in-Some.n) = sym c.number_at-count.ensures ∙ ap (token t.start t.stop) c.in-Some.is in
    let unended : get_or s t.stop 0 ≡ 10 → ⊥ = λ e. c.if-behind-eq10.false (c.byte_at-behind.ensures ∙ e) in
    refused _ _ _ c.refused_at-then-behind-ne32.ensures
    (count_unspaced _ _ _ _ _ counted unended (λ z. c.if-behind-ne32.true (c.byte_at-behind.ensures ∙ z)) ∙ opened)

-- the letter behind the space decides
pub returns-then-letter-eq99 : goal.returns-then-letter-eq99
unfolding first_word measure_text word
returns-then-letter-eq99 c =
    let s = c.args.text.now in
    let t = c.number_at-count.result in
    let opened : on_counted s (number_at s 6 (most_vertices + 1)) ≡ first_line s = first_opened _ (subst (λ (k : ℕ). 6 ≤ k) c.agree-same.ensures c.if-same-lt6.false) in
    let counted : number_at s 6 (most_vertices + 1) ≡ token t.start t.stop (Some c.in-Some.n) = sym c.number_at-count.ensures ∙ ap (token t.start t.stop) c.in-Some.is in
    let unended : get_or s t.stop 0 ≡ 10 → ⊥ = λ e. c.if-behind-eq10.false (c.byte_at-behind.ensures ∙ e) in
    let spaced : get_or s t.stop 0 ≡ 32 = sym c.byte_at-behind.ensures ∙ c.if-behind-ne32.false in
    c.named.ensures
    ∙ ap first_of (count_cost _ _ _ _ _ counted unended spaced (sym c.byte_at-letter.ensures ∙ c.if-letter-eq99.true) ∙ opened)

pub returns : goal.returns
unfolding first_word measure_text word
returns c =
    let s = c.args.text.now in
    let t = c.number_at-count.result in
    let opened : on_counted s (number_at s 6 (most_vertices + 1)) ≡ first_line s = first_opened _ (subst (λ (k : ℕ). 6 ≤ k) c.agree-same.ensures c.if-same-lt6.false) in
    let counted : number_at s 6 (most_vertices + 1) ≡ token t.start t.stop (Some c.in-Some.n) = sym c.number_at-count.ensures ∙ ap (token t.start t.stop) c.in-Some.is in
    let unended : get_or s t.stop 0 ≡ 10 → ⊥ = λ e. c.if-behind-eq10.false (c.byte_at-behind.ensures ∙ e) in
    let spaced : get_or s t.stop 0 ≡ 32 = sym c.byte_at-behind.ensures ∙ c.if-behind-ne32.false in
    c.named-2.ensures
    ∙ ap first_of (count_grade _ _ _ _ _ counted unended spaced (λ z. c.if-letter-eq99.false (c.byte_at-letter.ensures ∙ z)) ∙ opened)
