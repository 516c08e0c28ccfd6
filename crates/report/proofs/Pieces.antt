-- What the functions below `report` ask of their caller, and the pieces in which a row and the line of a refusal are written. Assumes nothing.
use Prim.Native.Nat.{ℕ, ◌≤◌}
use mathlib.Core.Path.{◌≡◌, sym, ◌∙◌, ap, ap₂}
use mathlib.Core.List.{List, [], ◌∷◌, ◌++◌, append_assoc, append-nil}
use lib.ListN.{length}
use borrow.Author.Tests.{eq-eqb, ne_eqb}
use Rattle.weights.specs.declared.Entry.{Entry}
use Rattle.refusal.specs.declared.Refusal.{Refusal}
use Rattle.refusal.specs.Refusals.{number_of, place_of, column_of}
use Rattle.text.specs.Render.{digits, tail_text}
use Rattle.report.specs.Report.{state_word, row, refused_with, numbers_of, refused_line}

-- three numbers, each behind a space
four : (a b c d : ℕ) → tail_text (a ∷ b ∷ c ∷ d ∷ []) ≡ (((32 ∷ digits a) ++ (32 ∷ digits b)) ++ (32 ∷ digits c)) ++ (32 ∷ digits d)
unfolding tail_text
four a b c d =
    let x : List ℕ = 32 ∷ digits a in
    let y : List ℕ = 32 ∷ digits b in
    let z : List ℕ = 32 ∷ digits c in
    let w : List ℕ = 32 ∷ digits d in
    ap (λ (t : List ℕ). x ++ (y ++ (z ++ t))) (append-nil w) ∙ sym (append_assoc (x ++ y) z w ∙ append_assoc x y (z ++ w))

-- a row: the part and its state, then the four numbers and the end of the line
pub row_split : (v : ℕ) (e : Entry)
    → row v e ≡ (digits v ++ (32 ∷ state_word e.state)) ++ (tail_text (e.weight.0 ∷ e.depth ∷ e.edge.0 ∷ e.pieces ∷ []) ++ 10 ∷ [])
unfolding row
row_split v e =
    let s : List ℕ = digits v ++ (32 ∷ state_word e.state) in
    let a : List ℕ = 32 ∷ digits e.weight.0 in
    let b : List ℕ = 32 ∷ digits e.depth in
    let d : List ℕ = 32 ∷ digits e.edge.0 in
    let g : List ℕ = 32 ∷ digits e.pieces in
    let p : ((s ++ a) ++ b) ++ d ≡ s ++ ((a ++ b) ++ d) = ap (λ (z : List ℕ). z ++ d) (append_assoc s a b) ∙ append_assoc s (a ++ b) d in
    let q : (((s ++ a) ++ b) ++ d) ++ g ≡ s ++ (((a ++ b) ++ d) ++ g) = ap (λ (z : List ℕ). z ++ g) p ∙ append_assoc s ((a ++ b) ++ d) g in
    ap (λ (z : List ℕ). z ++ 10 ∷ []) (q ∙ ap (λ (z : List ℕ). s ++ z) (sym (four e.weight.0 e.depth e.edge.0 e.pieces)))
    ∙ append_assoc s (tail_text (e.weight.0 ∷ e.depth ∷ e.edge.0 ∷ e.pieces ∷ [])) (10 ∷ [])

-- room for a row is room for its two pieces
pub row_fits : (v : ℕ) (e : Entry) (old : List ℕ) → length (row v e) ≤ length old
    → length ((digits v ++ (32 ∷ state_word e.state)) ++ (tail_text (e.weight.0 ∷ e.depth ∷ e.edge.0 ∷ e.pieces ∷ []) ++ 10 ∷ [])) ≤ length old
row_fits v e old h = rw (← row_split v e) h

-- the line of a refusal: without a column two numbers, with one three
module _ (r : Refusal) (n p c : ℕ) (a : n ≡ number_of r) (b : p ≡ place_of r) (d : c ≡ column_of r) where
  pub refused_two : c ≡ 0 → refused_line r ≡ refused_with (n ∷ p ∷ [])
  unfolding refused_line
  refused_two z =
      let q : numbers_of r ≡ number_of r ∷ place_of r ∷ [] = rw (eq-eqb (column_of r) 0 (sym d ∙ z)) in
      ap refused_with (q ∙ ap₂ (λ (x y : ℕ). x ∷ y ∷ []) (sym a) (sym b))

  pub refused_three : (c ≡ 0 → ⊥) → refused_line r ≡ refused_with (n ∷ p ∷ c ∷ [])
  unfolding refused_line
  refused_three z =
      let q : numbers_of r ≡ number_of r ∷ place_of r ∷ column_of r ∷ [] = rw (ne_eqb (column_of r) 0 (λ e. z (d ∙ e))) in
      ap refused_with (q ∙ ap₂ (λ (x y : ℕ). x ∷ y ∷ column_of r ∷ []) (sym a) (sym b) ∙ ap (λ (z : ℕ). n ∷ p ∷ z ∷ []) (sym d))
