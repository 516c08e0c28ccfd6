-- The pieces in which a row and the line of the counts are written, how long they can be, and the laws by which rows are written one behind the other.
-- Assumes nothing.
use mathlib.Core.Path.{◌≡◌, sym, ◌∙◌, ap, ap₂}
use mathlib.Core.List.{List, [], ◌∷◌, ◌++◌, append_assoc, append-nil}
use Prim.Native.Nat.{ℕ, suc, ◌+◌, ◌-◌, ◌*◌, ◌^◌, ◌≤◌, ◌<◌}
use native.Mathlib.Numerals.{add-one}
use native.Mathlib.Omega.{arith}
use lib.ListN.{length, get_or, take, drop, length-append}
use lib.Seq.{take-suc, take_all, length-take-le}
use lib.Dec.{eqb}
use borrow.Author.Tests.{eq-eqb, ne_eqb}
use Rattle.text.specs.Render.{digits, tail_text}
use Rattle.text.proofs.Digits.{pick_by}
use Rattle.writing.specs.Written.{Written}
use Rattle.writing.proofs.Written.{lent, written_as}
use Rattle.writing.proofs.Widths.{width_20}
use Rattle.reply.proofs.Room.{behind_starts, behind_room, written_behind}
use Rattle.ledger.specs.Record.{most_shelf, stock_word}
use Rattle.ledger.specs.Ledger.{most_outcome, most_row, most_stock_line, outcome_word, outcome_text, outcome_row, outcome_rows}

-- An outcome -----------------------------------------------------------------------------------------------------------------------------------------

pub word_most : (o : ℕ) → length (outcome_text o) ≤ most_outcome
unfolding outcome_word
word_most o =
    let P : List ℕ → Type 0 = λ w. length ((32 ∷ w) ++ 10 ∷ []) ≤ most_outcome in
    pick_by P (eqb o 0) (λ _. omega arith) (λ _. pick_by P (eqb o 1) (λ _. omega arith) (λ _. pick_by P (eqb o 2) (λ _. omega arith) (λ _. omega arith)))

-- ` received`, ` issued`, ` built`, ` late`, and LF
module _ (o : ℕ) where
  pub received_is : o ≡ 0 → 32 ∷ 114 ∷ 101 ∷ 99 ∷ 101 ∷ 105 ∷ 118 ∷ 101 ∷ 100 ∷ 10 ∷ [] ≡ outcome_text o
  unfolding outcome_word
  received_is e = rw (eq-eqb o 0 e)

  pub issued_is : (o ≡ 0 → ⊥) → o ≡ 1 → 32 ∷ 105 ∷ 115 ∷ 115 ∷ 117 ∷ 101 ∷ 100 ∷ 10 ∷ [] ≡ outcome_text o
  unfolding outcome_word
  issued_is a e = rw (ne_eqb o 0 a, eq-eqb o 1 e)

  pub built_is : (o ≡ 0 → ⊥) → (o ≡ 1 → ⊥) → o ≡ 2 → 32 ∷ 98 ∷ 117 ∷ 105 ∷ 108 ∷ 116 ∷ 10 ∷ [] ≡ outcome_text o
  unfolding outcome_word
  built_is a b e = rw (ne_eqb o 0 a, ne_eqb o 1 b, eq-eqb o 2 e)

  pub late_is : (o ≡ 0 → ⊥) → (o ≡ 1 → ⊥) → (o ≡ 2 → ⊥) → 32 ∷ 108 ∷ 97 ∷ 116 ∷ 101 ∷ 10 ∷ [] ≡ outcome_text o
  unfolding outcome_word
  late_is a b d = rw (ne_eqb o 0 a, ne_eqb o 1 b, ne_eqb o 2 d)

  pub outcome_written : (bytes old : List ℕ) (n : ℕ) (room : List ℕ) → bytes ≡ outcome_text o → Written bytes old n room → Written (outcome_text o) old n room × (n ≤ most_outcome)
  outcome_written bytes old n room e w =
      let v = written_as old n room e w in
      let m = word_most o in
      let k = v.count in
      (v, omega arith)

-- Rows -----------------------------------------------------------------------------------------------------------------------------------------------

-- the part, and the outcome with the end of the row
pub row_split : (v o : ℕ) → outcome_row v o ≡ digits v ++ outcome_text o
unfolding outcome_row
row_split v o = append_assoc (digits v) (32 ∷ outcome_word o) (10 ∷ [])

pub row_most : (v o : ℕ) → v < 2 ^ 64 → length (outcome_row v o) ≤ most_row
row_most v o h =
    let k = width_20 v h in
    let m = word_most o in
    let e = ap length (row_split v o) in
    let p = length-append (digits v) (outcome_text o) in
    omega arith

rows_one : (vs os : List ℕ) (v o : ℕ) → length os ≡ length vs → outcome_rows (vs ++ v ∷ []) (os ++ o ∷ []) ≡ outcome_rows vs os ++ outcome_row v o
unfolding outcome_rows
rows_one [] [] v o e = append-nil (outcome_row v o)
rows_one [] (y ∷ os) v o e = absurd (omega arith)
rows_one (x ∷ vs) [] v o e = absurd (omega arith)
rows_one (x ∷ vs) (y ∷ os) v o e =
    ap (λ (z : List ℕ). outcome_row x y ++ z) (rows_one vs os v o (omega arith)) ∙ sym (append_assoc (outcome_row x y) (outcome_rows vs os) (outcome_row v o))

-- those of the first i events
abbrev pub rows_to : (vs os : List ℕ) → ℕ → List ℕ
rows_to vs os i = outcome_rows (take i vs) (take i os)

-- they are written, in at most as many times the bytes of a row
module _ (vs os old room : List ℕ) (i at : ℕ) (level : length os ≡ length vs) (h : i < length vs) (w : Written (rows_to vs os i) old at room) (s : at ≤ most_row * i)
    (l : most_row * length vs ≤ length old) where
  fits : at + most_row ≤ length old
  fits = omega arith

  pub row_starts : at ≤ length room
  row_starts = behind_starts (rows_to vs os i) old at room w most_row fits

  pub row_room : most_row ≤ length (lent (rows_to vs os i) old at room w)
  row_room = behind_room (rows_to vs os i) old at room w most_row fits

  one_more : rows_to vs os (i + 1) ≡ rows_to vs os i ++ outcome_row (get_or vs i 0) (get_or os i 0)
  one_more =
      ap₂ (λ (a b : List ℕ). outcome_rows a b) (ap (λ (z : ℕ). take z vs) (add-one i) ∙ take-suc vs i 0 h) (ap (λ (z : ℕ). take z os) (add-one i) ∙ take-suc os i 0 (omega arith))
      ∙ rows_one (take i vs) (take i os) (get_or vs i 0) (get_or os i 0) (length-take-le i os (omega arith) ∙ sym (length-take-le i vs (omega arith)))

  pub row_next : (r : ℕ) (new : List ℕ) → r ≤ most_row → Written (outcome_row (get_or vs i 0) (get_or os i 0)) (lent (rows_to vs os i) old at room w) r new
      → Written (rows_to vs os (i + 1)) old (at + r) (take at room ++ (new ++ drop (length room - at) (drop at room)))
  row_next r new g m =
      written_as old (at + r) (take at room ++ (new ++ drop (length room - at) (drop at room))) (sym one_more)
      (written_behind (rows_to vs os i) old at room w most_row fits (outcome_row (get_or vs i 0) (get_or os i 0)) r new g m)

pub rows_all : (vs os old room : List ℕ) (i at : ℕ) → length os ≡ length vs → length vs ≤ i → Written (rows_to vs os i) old at room → Written (outcome_rows vs os) old at room
rows_all vs os old room i at e h w = written_as old at room (ap₂ (λ (a b : List ℕ). outcome_rows a b) (take_all i vs h) (take_all i os (omega arith))) w

-- The counts -----------------------------------------------------------------------------------------------------------------------------------------

pub tail_most : (xs : List ℕ) → ((j : ℕ) → get_or xs j 0 < 2 ^ 64) → length (tail_text xs) ≤ 21 * length xs
unfolding tail_text
tail_most [] f = omega arith
tail_most (x ∷ xs) f =
    let k = width_20 x (f 0) in
    let r = tail_most xs (λ j. f (suc j)) in
    let p = length-append (32 ∷ digits x) (tail_text xs) in
    omega arith

pub counts_most : (xs : List ℕ) → ((j : ℕ) → get_or xs j 0 < 2 ^ 64) → length xs ≤ most_shelf → length (stock_word ++ (tail_text xs ++ 10 ∷ [])) ≤ most_stock_line
counts_most xs f h =
    let t = tail_most xs f in
    let p = length-append stock_word (tail_text xs ++ 10 ∷ []) in
    let q = length-append (tail_text xs) (10 ∷ []) in
    omega arith
