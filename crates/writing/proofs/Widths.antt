-- How long the pieces of a text are, and how long they can be: none of an accepted table is so long that a sum of widths could wrap. Assumes nothing.
use mathlib.Core.Path.{◌≡◌, refl, sym, ◌∙◌, ap}
use mathlib.Core.List.{List, [], ◌∷◌, ◌++◌, append_assoc}
use mathlib.Core.Bool.{Bool, true, false}
use Prim.Native.Nat.{ℕ, zero, suc, ◌+◌, ◌*◌, ◌/◌, ◌%◌, ◌≤◌, ◌<◌, ◌^◌}
use native.Mathlib.Numerals.{add-one}
use native.Mathlib.Omega.{arith}
use lib.ListN.{length, get_or, take, length-append}
use lib.Seq.{take-suc, take_all}
use lib.Dec.{ltb}
use borrow.Author.Tests.{ltb-true, ltb-false}
use Rattle.weights.specs.declared.Measure.{Measure}
use Rattle.weights.specs.declared.Measure.TheVariants.{Cost, Days, Grade}
use Rattle.weights.specs.Figures.{greatest, is_struck_mark}
use Rattle.columns.specs.Acceptance.{most_vertices, longest_tail}
use Rattle.columns.proofs.Accepted.{below_at}
use Rattle.text.specs.Tables.{Edge}
use Rattle.text.specs.Render.{digits, first_word, word, measure_text, header, mark_text, own_text, tail_text, edge_text}
use Rattle.text.proofs.Digits.{pick_by, digits_one, digits_more, by_digits}
use Rattle.text.specs.Rows.{EdgeFits}
use Rattle.text.proofs.Sound.{tail_text_snoc}
use Rattle.writing.specs.Written.{TailFits}

-- Numbers ------------------------------------------------------------------------------------------------------------------------------------

-- the last digit of a number of several
pub last_digit : (x : ℕ) → 10 ≤ x → digits x ≡ digits (x / 10) ++ (48 + x % 10) ∷ []
last_digit x h =
    let q : x ≡ 10 * (x / 10) + x % 10 = omega arith in
    ap digits q ∙ digits_more (x / 10) (x % 10) (omega arith) (omega arith)

pub width_more : (x : ℕ) → 10 ≤ x → length (digits x) ≡ length (digits (x / 10)) + 1
width_more x h = ap length (last_digit x h) ∙ length-append (digits (x / 10)) ((48 + x % 10) ∷ [])

pub width_one : (x : ℕ) → x < 10 → length (digits x) ≡ 1
width_one x h = ap length (digits_one x h)

pub digits_some : (x : ℕ) → 0 < length (digits x)
digits_some x = go (ltb x 10) refl
  where
    go : (b : Bool) → ltb x 10 ≡ b → 0 < length (digits x)
    go true e = let w = width_one x (ltb-true x 10 e) in omega arith
    go false e = let w = width_more x (ltb-false x 10 e) in omega arith

pub several_digits : (x : ℕ) → 1 < length (digits x) → 10 ≤ x
several_digits x h = go (ltb x 10) refl
  where
    go : (b : Bool) → ltb x 10 ≡ b → 10 ≤ x
    go true e = let w = width_one x (ltb-true x 10 e) in absurd (omega arith)
    go false e = ltb-false x 10 e

pub one_digit : (x : ℕ) → length (digits x) ≤ 1 → x < 10
one_digit x h = go (ltb x 10) refl
  where
    go : (b : Bool) → ltb x 10 ≡ b → x < 10
    go true e = ltb-true x 10 e
    go false e = let w = width_more x (ltb-false x 10 e) in let s = digits_some (x / 10) in absurd (omega arith)

-- a number has no more digits than its value and one
pub width_most : (v : ℕ) → length (digits v) ≤ v + 1
width_most =
    by_digits (λ (v : ℕ). length (digits v) ≤ v + 1)
    (λ d h. let e = width_one d h in omega arith)
    (λ v d pos h r. let e = ap length (digits_more v d pos h) in let l = length-append (digits v) ((48 + d) ∷ []) in omega arith)

-- the least number of k + 2 digits
unfoldable tens : ℕ → ℕ
tens zero = 10
tens (suc k) = 10 * tens k

width_below : (k v : ℕ) → v < tens k → length (digits v) ≤ suc k
unfolding tens
width_below zero v h = let w = width_one v h in omega arith
width_below (suc k) v h = go (ltb v 10) refl (width_below k (v / 10))
  where
    go : (b : Bool) → ltb v 10 ≡ b → (v / 10 < tens k → length (digits (v / 10)) ≤ suc k) → length (digits v) ≤ suc (suc k)
    go true e rec = let w = width_one v (ltb-true v 10 e) in omega arith
    go false e rec = let w = width_more v (ltb-false v 10 e) in let r = rec (omega arith) in omega arith

pub width_2 : (v : ℕ) → v < 100 → length (digits v) ≤ 2
unfolding tens
width_2 v h = width_below 1 v h

pub width_4 : (v : ℕ) → v < 10_000 → length (digits v) ≤ 4
unfolding tens
width_4 v h = width_below 3 v h

pub width_5 : (v : ℕ) → v < 100_000 → length (digits v) ≤ 5
unfolding tens
width_5 v h = width_below 4 v h

pub width_10 : (v : ℕ) → v < 10_000_000_000 → length (digits v) ≤ 10
unfolding tens
width_10 v h = width_below 9 v h

pub width_13 : (v : ℕ) → v < 10_000_000_000_000 → length (digits v) ≤ 13
unfolding tens
width_13 v h = width_below 12 v h

pub width_20 : (v : ℕ) → v < 2 ^ 64 → length (digits v) ≤ 20
unfolding tens
width_20 v h = width_below 19 v (omega arith)

-- Own figures --------------------------------------------------------------------------------------------------------------------------------

pub own_struck : (o k : ℕ) → is_struck_mark k ≡ true → own_text o k ≡ 45 ∷ digits o
unfolding mark_text own_text
own_struck o k e = rw e

pub own_plain : (o k : ℕ) → is_struck_mark k ≡ false → own_text o k ≡ digits o
unfolding mark_text own_text
own_plain o k e = rw e

-- it has at most ten digits, and a mark
pub own_most : (o k : ℕ) → o ≤ greatest → length (own_text o k) ≤ 11
unfolding mark_text own_text
own_most o k h =
    let w = width_10 o (omega arith) in
    pick_by (λ (z : List ℕ). length (z ++ digits o) ≤ 11) (is_struck_mark k) (λ e. omega arith) (λ e. omega arith)

-- Lists ----------------------------------------------------------------------------------------------------------------------------------------

module _ (vs : List ℕ) (j : ℕ) (h : j < length vs) where
  pub one_listed : tail_text (take (j + 1) vs) ≡ tail_text (take j vs) ++ (32 ∷ digits (get_or vs j 0))
  one_listed = ap tail_text (ap (λ (z : ℕ). take z vs) (add-one j) ∙ take-suc vs j 0 h) ∙ tail_text_snoc (take j vs) (get_or vs j 0)

  pub width_listed : length (tail_text (take (j + 1) vs)) ≡ length (tail_text (take j vs)) + (1 + length (digits (get_or vs j 0)))
  width_listed = ap length one_listed ∙ length-append (tail_text (take j vs)) (32 ∷ digits (get_or vs j 0)) ∙ omega arith

  pub listed_most : TailFits vs → length (digits (get_or vs j 0)) ≤ most_vertices
  listed_most f = let b = below_at most_vertices vs f.below j h in let w = width_most (get_or vs j 0) in omega arith

-- one vertex more, by the digits w of its number
pub listed_step : (vs : List ℕ) (j width w : ℕ) → j < length vs → TailFits vs → w ≡ length (digits (get_or vs j 0)) → width ≡ length (tail_text (take j vs)) + 1
    → (w ≤ most_vertices) × (width + (1 + w) ≡ length (tail_text (take (j + 1) vs)) + 1) × (length vs ≤ longest_tail)
listed_step vs j width w h f e i = let m = listed_most vs j h f in let n = width_listed vs j h in (omega arith, omega arith, f.short)

pub width_tail : (vs : List ℕ) (j : ℕ) → length vs ≤ j → length (tail_text vs ++ 10 ∷ []) ≡ length (tail_text (take j vs)) + 1
width_tail vs j h = length-append (tail_text vs) (10 ∷ []) ∙ ap (λ (z : List ℕ). length (tail_text z) + 1) (sym (take_all j vs h))

pub tail_most : (vs : List ℕ) → TailFits vs → length (tail_text vs ++ 10 ∷ []) ≤ 65536
tail_most vs f =
    let b = go (length vs) (omega arith) in
    let e = width_tail vs (length vs) (omega arith) in
    let s = f.short in
    omega arith
  where
    go : (j : ℕ) → j ≤ length vs → length (tail_text (take j vs)) ≤ 1025 * j
    go zero h = unfold tail_text in omega arith
    go (suc j) h =
        let r = go j (omega arith) in
        let w = width_listed vs j h in
        let m = listed_most vs j h f in
        let q : length (tail_text (take (suc j) vs)) ≡ length (tail_text (take (j + 1) vs)) = ap (λ (z : ℕ). length (tail_text (take z vs))) (sym (add-one j)) in
        omega arith

-- the end of the first line
pub measure_most : (m : Measure) → length (measure_text m) ≤ 7
unfolding measure_text word
measure_most Cost = omega arith
measure_most Days = omega arith
measure_most Grade = omega arith

-- Lines --------------------------------------------------------------------------------------------------------------------------------------

-- a line in three pieces
pub line_split : (e : Edge) → edge_text e ++ 10 ∷ [] ≡ (digits e.head ++ (32 ∷ own_text e.own e.mark)) ++ (tail_text e.tail ++ 10 ∷ [])
unfolding edge_text
line_split e = append_assoc (digits e.head ++ (32 ∷ own_text e.own e.mark)) (tail_text e.tail) (10 ∷ [])

-- room for a line is room for its pieces
pub line_fits : (e : Edge) (old : List ℕ) → length (edge_text e ++ 10 ∷ []) ≤ length old
    → length ((digits e.head ++ (32 ∷ own_text e.own e.mark)) ++ (tail_text e.tail ++ 10 ∷ [])) ≤ length old
line_fits e old h = rw (← line_split e) h

pub line_width : (e : Edge) → length (edge_text e ++ 10 ∷ []) ≡ length (digits e.head) + length (32 ∷ own_text e.own e.mark) + length (tail_text e.tail ++ 10 ∷ [])
line_width e =
    ap length (line_split e)
    ∙ length-append (digits e.head ++ (32 ∷ own_text e.own e.mark)) (tail_text e.tail ++ 10 ∷ [])
    ∙ ap (λ (z : ℕ). z + length (tail_text e.tail ++ 10 ∷ [])) (length-append (digits e.head) (32 ∷ own_text e.own e.mark))

pub edge_tail : {e : Edge} → EdgeFits most_vertices e → TailFits e.tail
edge_tail f = record { short = f.short; below = f.tail }

-- no line of an accepted table is so long that a sum of lines could wrap, or be taken for a refusal in C
pub line_most : (e : Edge) → EdgeFits most_vertices e → length (edge_text e ++ 10 ∷ []) ≤ 100000
line_most e f =
    let a = line_width e in
    let b = width_most e.head in
    let h = f.head in
    let c = own_most e.own e.mark f.own in
    let d = tail_most e.tail (edge_tail f) in
    omega arith

pub header_width_is : (n : ℕ) (m : Measure) → length (header n m) ≡ 6 + length (digits n) + length (measure_text m)
unfolding header first_word
header_width_is n m = let a = length-append (first_word ++ digits n) (measure_text m) in let b = length-append first_word (digits n) in omega arith

pub header_most : (n : ℕ) (m : Measure) → n ≤ most_vertices → length (header n m) ≤ 2000
header_most n m h = let a = header_width_is n m in let b = width_most n in let c = measure_most m in omega arith
