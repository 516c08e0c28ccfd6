-- The pieces of a row and how long they can be; when there is a row; and the laws by which rows are written one behind the other. Assumes nothing.
use mathlib.Core.Path.{◌≡◌, refl, sym, ◌∙◌, ap, ap₂}
use mathlib.Core.Bool.{Bool, true, false}
use mathlib.Core.List.{List, [], ◌∷◌, ◌++◌, append_assoc, append-nil}
use Prim.Native.Nat.{ℕ, ◌+◌, ◌-◌, ◌*◌, ◌^◌, ◌≤◌, ◌<◌}
use native.Mathlib.Numerals.{add-one}
use native.Mathlib.Omega.{arith}
use lib.ListN.{length, take, drop, length-append}
use lib.Dec.{eqb}
use denote.Enum.Bare.{sameb}
use Rattle.weights.specs.contracts.State.{the_type}
use Rattle.weights.specs.declared.State.{State}
use Rattle.weights.specs.declared.State.TheVariants.{Made, Over, Unmade}
use Rattle.weights.specs.declared.Entry.{Entry}
use Rattle.weights.specs.Choice.{pick}
use Rattle.columns.specs.Columns.{Entries}
use Rattle.settle.specs.Settling.{entry_at}
use Rattle.text.specs.Render.{digits, tail_text}
use Rattle.writing.specs.Written.{Written}
use Rattle.writing.proofs.Written.{lent, written_as}
use Rattle.writing.proofs.Widths.{width_20}
use Rattle.report.specs.Report.{state_word}
use Rattle.reply.proofs.Room.{behind_starts, behind_room, written_behind}
use Rattle.compare.specs.Compare.{most_row, difference_row, same_state, agrees, row_if, differences}
use Rattle.compare.specs.Pieces.{most_half, most_rest, half, rest}

-- Pieces -----------------------------------------------------------------------------------------------------------------------------------------

pub row_split : (v : ℕ) (x y : Entry) → difference_row v x y ≡ half v x.state x.weight.0 ++ rest y.state y.weight.0
unfolding difference_row half rest tail_text
row_split v x y =
    let f : List ℕ = (digits v ++ (32 ∷ state_word x.state)) ++ (32 ∷ digits x.weight.0) in
    let t : List ℕ = 32 ∷ state_word y.state in
    let b : List ℕ = 32 ∷ digits y.weight.0 in
    append_assoc (f ++ t) b (10 ∷ []) ∙ append_assoc f t (b ++ 10 ∷ []) ∙ ap (λ (z : List ℕ). f ++ (t ++ (z ++ 10 ∷ []))) (sym (append-nil b))

word_most : (s : State) → length (state_word s) ≤ 6
unfolding state_word
word_most Made = omega arith
word_most Over = omega arith
word_most Unmade = omega arith

pub half_most : (v : ℕ) (s : State) (w : ℕ) → v < 2 ^ 64 → w < 2 ^ 64 → length ((digits v ++ (32 ∷ state_word s)) ++ (32 ∷ digits w)) ≤ most_half
half_most v s w x y =
    let k = width_20 v x in
    let l = word_most s in
    let m = width_20 w y in
    let p = length-append (digits v ++ (32 ∷ state_word s)) (32 ∷ digits w) in
    let q = length-append (digits v) (32 ∷ state_word s) in
    omega arith

pub rest_most : (s : State) (w : ℕ) → w < 2 ^ 64 → length ((32 ∷ state_word s) ++ (tail_text (w ∷ []) ++ 10 ∷ [])) ≤ most_rest
unfolding tail_text
rest_most s w y =
    let a : List ℕ = 32 ∷ digits w in
    let l = word_most s in
    let m = width_20 w y in
    let p = length-append (32 ∷ state_word s) ((a ++ []) ++ 10 ∷ []) in
    let r = length-append (a ++ []) (10 ∷ []) in
    let t = length-append a [] in
    omega arith

-- When there is a row ----------------------------------------------------------------------------------------------------------------------------

by_state : (s t : State) → sameb the_type s t ≡ same_state s t
unfolding same_state
by_state Made Made = refl
by_state Made Over = refl
by_state Made Unmade = refl
by_state Over Made = refl
by_state Over Over = refl
by_state Over Unmade = refl
by_state Unmade Made = refl
by_state Unmade Over = refl
by_state Unmade Unmade = refl

module _ (x y : Entry) where
  pub state_differs : sameb the_type x.state y.state ≡ false → false ≡ agrees x y
  unfolding agrees
  state_differs e = sym (ap (λ (b : Bool). pick b (eqb x.weight.0 y.weight.0) false) (sym (by_state x.state y.state) ∙ e))

  pub by_figure : sameb the_type x.state y.state ≡ true → eqb x.weight.0 y.weight.0 ≡ agrees x y
  unfolding agrees
  by_figure e = sym (ap (λ (b : Bool). pick b (eqb x.weight.0 y.weight.0) false) (sym (by_state x.state y.state) ∙ e))

pub no_row : (v : ℕ) (x y : Entry) → agrees x y ≡ true → row_if v x y ≡ []
unfolding row_if
no_row v x y e = ap (λ (b : Bool). pick b [] (difference_row v x y)) e

pub a_row : (v : ℕ) (x y : Entry) → agrees x y ≡ false → row_if v x y ≡ difference_row v x y
unfolding row_if
a_row v x y e = ap (λ (b : Bool). pick b [] (difference_row v x y)) e

-- Rows -------------------------------------------------------------------------------------------------------------------------------------------

-- the rows of the first i parts are written, in at most as many times the bytes of a row
module _ (a b : Entries) (old room : List ℕ) (n i at : ℕ) (h : i < n) (w : Written (differences a b i) old at room) (s : at ≤ most_row * i) (l : most_row * n ≤ length old) where
  fits : at + most_row ≤ length old
  fits = omega arith

  pub row_starts : at ≤ length room
  row_starts = behind_starts (differences a b i) old at room w most_row fits

  pub row_room : most_row ≤ length (lent (differences a b i) old at room w)
  row_room = behind_room (differences a b i) old at room w most_row fits

  pub row_next : (x y : Entry) → x ≡ entry_at a i → y ≡ entry_at b i → (r : ℕ) (new : List ℕ) → r ≤ most_row → Written (row_if i x y) (lent (differences a b i) old at room w) r new
      → Written (differences a b (i + 1)) old (at + r) (take at room ++ (new ++ drop (length room - at) (drop at room)))
  unfolding differences
  row_next x y p q r new g m =
      let e : differences a b (i + 1) ≡ differences a b i ++ row_if i x y =
      ap (differences a b) (add-one i) ∙ ap₂ (λ (u t : Entry). differences a b i ++ row_if i u t) (sym p) (sym q) in
      written_as old (at + r) (take at room ++ (new ++ drop (length room - at) (drop at room))) (sym e)
      (written_behind (differences a b i) old at room w most_row fits (row_if i x y) r new g m)

pub rows_all : (a b : Entries) (old room : List ℕ) (n i at : ℕ) → i ≤ n → n ≤ i → Written (differences a b i) old at room → Written (differences a b n) old at room
rows_all a b old room n i at h g w = let q : i ≡ n = omega arith in written_as old at room (ap (differences a b) q) w
