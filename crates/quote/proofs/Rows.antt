-- The pieces in which a row is written, how long they can be, and the laws by which rows are written one behind the other. Assumes nothing.
use mathlib.Core.Path.{◌≡◌, refl, sym, ◌∙◌, ap, ap₂}
use mathlib.Core.List.{List, [], ◌∷◌, ◌++◌, append_assoc, append-nil}
use Prim.Native.Nat.{ℕ, ◌+◌, ◌-◌, ◌*◌, ◌^◌, ◌≤◌, ◌<◌}
use native.Mathlib.Numerals.{add-one}
use native.Mathlib.Omega.{arith}
use lib.ListN.{length, get_or, take, drop, length-append}
use lib.Seq.{take-suc, take_all}
use Rattle.weights.specs.declared.State.{State}
use Rattle.weights.specs.declared.State.TheVariants.{Made, Over, Unmade}
use Rattle.columns.specs.Columns.{Columns, columns, head_at, own_at}
use Rattle.text.specs.Render.{digits, tail_text}
use Rattle.writing.specs.Written.{Written}
use Rattle.writing.proofs.Written.{lent, written_as}
use Rattle.report.specs.Report.{state_word}
use Rattle.writing.proofs.Widths.{width_20}
use Rattle.reply.proofs.Room.{behind_starts, behind_room, written_behind}
use Rattle.quote.specs.Quote.{most_row, most_last, row, rows, last_row}

-- Pieces -----------------------------------------------------------------------------------------------------------------------------------------

-- a row: the line, then its part and its figure and the end of the line
pub row_split : (c : Columns) (e h o : ℕ) → h ≡ head_at c e → o ≡ own_at c e → row c e ≡ digits e ++ (tail_text (h ∷ o ∷ []) ++ 10 ∷ [])
unfolding row tail_text
row_split c e h o p q =
    let s = digits e in
    let a : List ℕ = 32 ∷ digits h in
    let b : List ℕ = 32 ∷ digits o in
    ap₂ (λ (x y : ℕ). s ++ (32 ∷ digits x) ++ (32 ∷ digits y) ++ 10 ∷ []) (sym p) (sym q)
    ∙ ap (λ (z : List ℕ). z ++ 10 ∷ []) (append_assoc s a b ∙ ap (λ (z : List ℕ). s ++ (a ++ z)) (sym (append-nil b)))
    ∙ append_assoc s (a ++ (b ++ [])) (10 ∷ [])

pub row_most : (e h o : ℕ) → e < 2 ^ 64 → h < 2 ^ 64 → o < 2 ^ 64 → length (digits e ++ (tail_text (h ∷ o ∷ []) ++ 10 ∷ [])) ≤ most_row
unfolding tail_text
row_most e h o x y z =
    let a : List ℕ = 32 ∷ digits h in
    let b : List ℕ = 32 ∷ digits o in
    let k = width_20 e x in
    let l = width_20 h y in
    let m = width_20 o z in
    let p = length-append (digits e) ((a ++ (b ++ [])) ++ 10 ∷ []) in
    let q = length-append (a ++ (b ++ [])) (10 ∷ []) in
    let r = length-append a (b ++ []) in
    let t = length-append b [] in
    omega arith

-- the last one: part and state, then the figure and the end of the line
pub last_split : (v : ℕ) (s : State) (w : ℕ) → last_row v s w ≡ (digits v ++ (32 ∷ state_word s)) ++ (tail_text (w ∷ []) ++ 10 ∷ [])
unfolding last_row tail_text
last_split v s w =
    let f : List ℕ = digits v ++ (32 ∷ state_word s) in
    let a : List ℕ = 32 ∷ digits w in
    append_assoc f a (10 ∷ []) ∙ ap (λ (z : List ℕ). f ++ (z ++ 10 ∷ [])) (sym (append-nil a))

word_most : (s : State) → length (state_word s) ≤ 6
unfolding state_word
word_most Made = omega arith
word_most Over = omega arith
word_most Unmade = omega arith

pub last_most : (v : ℕ) (s : State) (w : ℕ) → v < 2 ^ 64 → w < 2 ^ 64 → length ((digits v ++ (32 ∷ state_word s)) ++ (tail_text (w ∷ []) ++ 10 ∷ [])) ≤ most_last
unfolding tail_text
last_most v s w x y =
    let a : List ℕ = 32 ∷ digits w in
    let k = width_20 v x in
    let l = word_most s in
    let m = width_20 w y in
    let p = length-append (digits v ++ (32 ∷ state_word s)) ((a ++ []) ++ 10 ∷ []) in
    let q = length-append (digits v) (32 ∷ state_word s) in
    let r = length-append (a ++ []) (10 ∷ []) in
    let t = length-append a [] in
    omega arith

-- Rows -------------------------------------------------------------------------------------------------------------------------------------------

-- the rows read two columns alone
pub rows_read : (c : Columns) (es : List ℕ) → rows (columns 0 c.heads c.own [] [] []) es ≡ rows c es
unfolding rows row
rows_read c [] = refl
rows_read c (e ∷ es) = ap (λ (z : List ℕ). row c e ++ z) (rows_read c es)

rows_one : (c : Columns) (es : List ℕ) (e : ℕ) → rows c (es ++ e ∷ []) ≡ rows c es ++ row c e
unfolding rows
rows_one c [] e = append-nil (row c e)
rows_one c (x ∷ es) e = ap (λ (z : List ℕ). row c x ++ z) (rows_one c es e) ∙ sym (append_assoc (row c x) (rows c es) (row c e))

-- the rows of the first i lines are written, in at most as many times the bytes of a row
module _ (c : Columns) (es old room : List ℕ) (i at : ℕ) (h : i < length es) (w : Written (rows c (take i es)) old at room) (s : at ≤ most_row * i) (l : most_row * length es ≤ length old) where
  fits : at + most_row ≤ length old
  fits = omega arith

  pub row_starts : at ≤ length room
  row_starts = behind_starts (rows c (take i es)) old at room w most_row fits

  pub row_room : most_row ≤ length (lent (rows c (take i es)) old at room w)
  row_room = behind_room (rows c (take i es)) old at room w most_row fits

  pub row_next : (r : ℕ) (new : List ℕ) → r ≤ most_row → Written (row c (get_or es i 0)) (lent (rows c (take i es)) old at room w) r new
      → Written (rows c (take (i + 1) es)) old (at + r) (take at room ++ (new ++ drop (length room - at) (drop at room)))
  row_next r new g m =
      let q : rows c (take (i + 1) es) ≡ rows c (take i es) ++ row c (get_or es i 0) =
      ap (rows c) (ap (λ (z : ℕ). take z es) (add-one i) ∙ take-suc es i 0 h) ∙ rows_one c (take i es) (get_or es i 0) in
      written_as old (at + r) (take at room ++ (new ++ drop (length room - at) (drop at room))) (sym q)
      (written_behind (rows c (take i es)) old at room w most_row fits (row c (get_or es i 0)) r new g m)

pub rows_all : (c : Columns) (es old room : List ℕ) (i at : ℕ) → length es ≤ i → Written (rows c (take i es)) old at room → Written (rows c es) old at room
rows_all c es old room i at h w = written_as old at room (ap (rows c) (take_all i es h)) w
