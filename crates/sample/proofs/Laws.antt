-- The laws of reading a sample line by line, and of a fraction's line. Assumes nothing.
use mathlib.Core.Path.{◌≡◌, sym, ◌∙◌, ap, subst}
use mathlib.Core.List.{List, [], ◌∷◌, ◌++◌, append_assoc, append-nil}
use Prim.Native.Nat.{ℕ, zero, suc, ◌+◌, ◌-◌, ◌^◌, ◌≤◌, ◌<◌}
use native.Mathlib.Omega.{arith}
use lib.ListN.{length, get_or, set, length-set, length-append}
use lib.Dec.{leb, eqb}
use borrow.Author.Tests.{leb-false}
use Rattle.text.specs.Render.{digits, tail_text}
use Rattle.text.proofs.Digits.{pick_by}
use Rattle.cursor.specs.Cursor.{number_at}
use Rattle.cursor.proofs.Counts.{token_within}
use Rattle.writing.proofs.Widths.{width_20}
use Rattle.sample.specs.declared.Next.{Next}
use Rattle.sample.specs.declared.Next.TheVariants.{Number, Wrong, End}
use Rattle.std.specs.Prelude.{Result, Ok, Err, Option, Some, None}
use Rattle.refusal.specs.declared.Refusal.{Refusal}
use Rattle.sample.specs.Sample.{number_limit, wrong_at, on_found, result_at, Read, read, on_next, sample_from, most_fraction, fraction_line}

-- A line -----------------------------------------------------------------------------------------------------------------------------------------

-- where a wrong byte stands: in the line, within the text
abbrev Placed : List ℕ → ℕ → Next → Type 0
Placed s at (Wrong p) = (at ≤ p) × (p ≤ length s)
Placed s at (Number v next) = Unit {0}
Placed s at End = Unit {0}

found-placed : (s : List ℕ) (at stop : ℕ) (f : (Option ℕ)) → at ≤ stop → stop ≤ length s → Placed s at (on_found s stop f)
found-placed s at stop (Some v) h g = pick_by (Placed s at) (eqb (get_or s stop 0) 10) (λ _. tt) (λ _. (h, g))
found-placed s at stop None h g = (h, g)

placed : (s : List ℕ) (at : ℕ) → Placed s at (result_at s at)
unfolding result_at
placed s at =
    pick_by (Placed s at) (leb (length s) at) (λ _. tt)
    (λ e. let l = leb-false (length s) at e in
    let t = token_within s at number_limit in
    found-placed s at (number_at s at number_limit).stop (number_at s at number_limit).found t.0 (let u = t.1 in omega arith))

pub wrong_placed : (s : List ℕ) (at p : ℕ) → result_at s at ≡ Wrong p → (at ≤ p) × (p ≤ length s)
wrong_placed s at p e = subst (Placed s at) e (placed s at)

-- The lines ----------------------------------------------------------------------------------------------------------------------------------------

module _ (s : List ℕ) (at i : ℕ) (c : List ℕ) where
  next_is : (left rest : ℕ) (x : Next) → left ≡ suc rest → result_at s at ≡ x
      → sample_from left s at i c ≡ on_next x at i c (λ v next. sample_from rest s next (i + 1) (set c i v))
  unfolding sample_from
  next_is left rest x q e =
      ap (λ (k : ℕ). sample_from k s at i c) q ∙ ap (λ (z : Next). on_next z at i c (λ v next. sample_from rest s next (i + 1) (set c i v))) e

  pub at_end : i < length c → result_at s at ≡ End → sample_from (length c - i) s at i c ≡ read (Ok i) c
  at_end h e = next_is (length c - i) (length c - (i + 1)) End (omega arith) e

  pub at_wrong : (p : ℕ) → i < length c → result_at s at ≡ Wrong p → sample_from (length c - i) s at i c ≡ read (Err (wrong_at i at p)) c
  at_wrong p h e = next_is (length c - i) (length c - (i + 1)) (Wrong p) (omega arith) e

  pub at_number : (v next : ℕ) → i < length c → result_at s at ≡ Number v next
      → sample_from (length (set c i v) - (i + 1)) s next (i + 1) (set c i v) ≡ sample_from (length c - i) s at i c
  at_number v next h e =
      ap (λ (k : ℕ). sample_from (k - (i + 1)) s next (i + 1) (set c i v)) (length-set c i v)
      ∙ sym (next_is (length c - i) (length c - (i + 1)) (Number v next) (omega arith) e)

  pub at_full : (left : ℕ) → left ≡ 0 → sample_from left s at i c ≡ read (Ok i) c
  unfolding sample_from
  at_full left q = ap (λ (k : ℕ). sample_from k s at i c) q

-- no more results than there are places, and as many places as there were
abbrev Most : ℕ → Result ℕ Refusal → Type 0
Most n (Ok k) = k ≤ n
Most n (Err r) = Unit {0}

abbrev Kept : ℕ → Read → Type 0
Kept n x = Most n x.sample × (length x.column ≡ n)

next_kept : (n : ℕ) (x : Next) (at i : ℕ) (c : List ℕ) (more : (v next : ℕ) → Read) → i ≤ n → length c ≡ n → ((v next : ℕ) → Kept n (more v next)) → Kept n (on_next x at i c more)
next_kept n End at i c more h e f = (h, e)
next_kept n (Wrong p) at i c more h e f = (tt, e)
next_kept n (Number v next) at i c more h e f = f v next

pub sample_kept : (left : ℕ) (s : List ℕ) (at i : ℕ) (c : List ℕ) (n : ℕ) → i + left ≤ n → length c ≡ n → Kept n (sample_from left s at i c)
unfolding sample_from
sample_kept zero s at i c n h e = (omega arith, e)
sample_kept (suc left) s at i c n h e =
    next_kept n (result_at s at) at i c (λ v next. sample_from left s next (i + 1) (set c i v)) (omega arith) e
    (λ v next. sample_kept left s next (i + 1) (set c i v) n (omega arith) (length-set c i v ∙ e))

pub count_most : (n : ℕ) (x : Result ℕ Refusal) (k : ℕ) → Most n x → x ≡ Ok k → k ≤ n
count_most n x k m e = subst (Most n) e m

-- A fraction ---------------------------------------------------------------------------------------------------------------------------------------

pub fraction_split : (a b : ℕ) → fraction_line a b ≡ digits a ++ (tail_text (b ∷ []) ++ 10 ∷ [])
unfolding fraction_line tail_text
fraction_split a b =
    let y : List ℕ = 32 ∷ digits b in
    append_assoc (digits a) y (10 ∷ []) ∙ ap (λ (z : List ℕ). digits a ++ (z ++ 10 ∷ [])) (sym (append-nil y))

pub fraction_most : (a b : ℕ) → a < 2 ^ 64 → b < 2 ^ 64 → length (digits a ++ (tail_text (b ∷ []) ++ 10 ∷ [])) ≤ most_fraction
unfolding tail_text
fraction_most a b x y =
    let z : List ℕ = 32 ∷ digits b in
    let k = width_20 a x in
    let l = width_20 b y in
    let p = length-append (digits a) ((z ++ []) ++ 10 ∷ []) in
    let q = length-append (z ++ []) (10 ∷ []) in
    let r = length-append z [] in
    omega arith
