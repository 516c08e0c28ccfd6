-- Where a text leaves its form, byte by byte: the forms of a byte and of a number with something after it, and the place at which reading one fails. Assumes nothing.
use Prim.Native.Nat.{ℕ, suc, ◌+◌, ◌*◌, ◌-◌, ◌≤◌, ◌<◌}
use mathlib.Core.Path.{◌≡◌, refl, sym, ◌∙◌, ap, ap₂, subst, subst₂}
use mathlib.Core.Bool.{true, false}
use mathlib.Core.Logic.{◌⊎◌, inl, inr}
use mathlib.Core.List.{List, [], ◌∷◌, ◌++◌, append_assoc}
use native.Mathlib.Nat.{add-zero}
use native.Mathlib.Numerals.{add-one}
use native.Mathlib.Omega.{arith}
use lib.ListN.{length, get_or, take, drop, length-drop, take-append-drop}
use lib.Seq.{drop-append_seam, drop-cons, drop-drop, get_or-drop, take-take}
use lib.Dec.{ltb, eqb}
use borrow.Author.Tests.{ltb-true, ltb-false, eqb-true, eq-eqb, ne_eqb}
use Rattle.weights.proofs.Choice.{apart}
use Rattle.weights.specs.Choice.{pick}
use Rattle.text.specs.Render.{digits}
use Rattle.text.specs.Machine.{digit_of}
use Rattle.text.specs.Bytes.{line_from, column_from, line_after, column_after}
use Rattle.text.proofs.Digits.{pick_by, digits_one, digit_byte}
use Rattle.cursor.specs.declared.Token.{Token}
use Rattle.cursor.specs.Cursor.{digits_from, number_of, number_at}
use Rattle.cursor.proofs.Counts.{byte_within}
use Rattle.reader.proofs.Fields.{one_more, Stops, number_read, number_found}
use Rattle.promises.specs.FirstBytes.{BeginsOf, FirstByteOf}
use Rattle.std.specs.Prelude.{Option, Some, None}

-- the text s, from line l and column c on, leaves the form at line l' and column c'
pub record Fails (G : List ℕ → Type 0) (s : List ℕ) (l c l' c' : ℕ) : Type 0 where
  pub at : ℕ
  pub inside : at ≤ length s
  pub begins : BeginsOf G (take at s)
  pub stops : at < length s → ¬ BeginsOf G (take (suc at) s)
  pub unfinished : at ≡ length s → ¬ G s
  pub line_is : l' ≡ line_from l (take at s)
  pub column_is : c' ≡ column_from c (take at s)

pub first_of : (G : List ℕ → Type 0) (s : List ℕ) (l c : ℕ) → Fails G s 1 1 l c → FirstByteOf G s l c
first_of G s l c F =
    record { at = F.at; inside = F.inside; begins = F.begins; stops = F.stops; unfinished = F.unfinished; line_is = F.line_is; column_is = F.column_is }

-- there is one such place: a shorter start of a text of the form is one too
module _ (G : List ℕ → Type 0) (s : List ℕ) where
  begins_less : (j k : ℕ) → j ≤ k → BeginsOf G (take k s) → BeginsOf G (take j s)
  begins_less j k h B =
      let cut = sym (take-append-drop j (take k s)) ∙ ap (λ (z : List ℕ). z ++ drop j (take k s)) (take-take j k s h) in
      let whole = ap (λ (z : List ℕ). z ++ B.rest) cut ∙ append_assoc (take j s) (drop j (take k s)) B.rest in
      record { rest = drop j (take k s) ++ B.rest; whole = subst G whole B.whole }

  not_before : {l c l' c' : ℕ} (p : FirstByteOf G s l c) (q : FirstByteOf G s l' c') → ¬ (p.at < q.at)
  not_before p q h = p.stops (omega (arith, q.inside)) (begins_less (suc p.at) q.at h q.begins)

  pub one_first : {l c l' c' : ℕ} → FirstByteOf G s l c → FirstByteOf G s l' c' → (l ≡ l') × (c ≡ c')
  one_first p q =
      let a = not_before p q in
      let b = not_before q p in
      let e : p.at ≡ q.at = omega arith in (
        p.line_is ∙ ap (λ (k : ℕ). line_after (take k s)) e ∙ sym q.line_is,
        p.column_is ∙ ap (λ (k : ℕ). column_after (take k s)) e ∙ sym q.column_is,
      )

-- a byte at a place
pub byte_first : (s : List ℕ) (at : ℕ) → get_or (drop at s) 0 0 ≡ get_or s at 0
byte_first s at = get_or-drop at s 0 0 ∙ ap (λ (k : ℕ). get_or s k 0) (add-zero at)

pub byte_here : (s : List ℕ) (at b : ℕ) → get_or s at 0 ≡ b → 0 < b → drop at s ≡ b ∷ drop (at + 1) s
byte_here s at b e h = drop-cons s at 0 (byte_within s at b e h) ∙ ap₂ (λ (x k : ℕ). x ∷ drop k s) e (sym (add-one at))

-- a place that is the same
module _ {G : List ℕ → Type 0} {s : List ℕ} {l c l' c' d : ℕ} (F : Fails G s l c l' c') where
  pub from_column : c ≡ d → Fails G s l d l' c'
  from_column e = subst (λ (z : ℕ). Fails G s l z l' c') e F

  pub to_column : c' ≡ d → Fails G s l c l' d
  to_column e = subst (λ (z : ℕ). Fails G s l c l' z) e F

-- what is from `at` to i is right: the form G goes on there as R, from line l and column c to line l' and column c'
pub record Passes (G R : List ℕ → Type 0) (s : List ℕ) (at i l c l' c' : ℕ) : Type 0 where
  pub on : (x y : ℕ) → Fails R (drop i s) l' c' x y → Fails G (drop at s) l c x y
  pub right : R (drop i s) → G (drop at s)

pub join : {G H R : List ℕ → Type 0} {s : List ℕ} {at i j l c l' c' l'' c'' : ℕ} → Passes G H s at i l c l' c' → Passes H R s i j l' c' l'' c'' → Passes G R s at j l c l'' c''
join P Q = record { on = λ x y F. P.on x y (Q.on x y F); right = λ r. P.right (Q.right r) }

pub up_to : {G R : List ℕ → Type 0} {s : List ℕ} {at i l c l' c' d : ℕ} → Passes G R s at i l c l' c' → c' ≡ d → Passes G R s at i l c l' d
up_to {G} {R} {s} {at} {i} {l} {c} {l'} P e = subst (λ (z : ℕ). Passes G R s at i l c l' z) e P

-- One byte ------------------------------------------------------------------------------------------------------------------------------------------

module _ (G : List ℕ → Type 0) where
  pub stuck_at : (b : ℕ) (s : List ℕ) (l c : ℕ) → BeginsOf G [] → ((x : List ℕ) → ¬ G (b ∷ x)) → Fails G (b ∷ s) l c l c
  unfolding line_from column_from
  stuck_at b s l c B n =
      record { at = 0; inside = omega arith; begins = B; stops = λ h C. n _ C.whole; unfinished = λ e g. n s g; line_is = refl; column_is = refl }

  stuck_end : (l c : ℕ) → BeginsOf G [] → ¬ G [] → Fails G [] l c l c
  unfolding line_from column_from
  stuck_end l c B n =
      record { at = 0; inside = omega arith; begins = B; stops = λ h C. absurd (omega arith); unfinished = λ e g. n g; line_is = refl; column_is = refl }

  -- where the first byte decides
  pub stuck : (s : List ℕ) (l c : ℕ) → BeginsOf G [] → ((x : List ℕ) → get_or x 0 0 ≡ get_or s 0 0 → ¬ G x) → Fails G s l c l c
  stuck [] l c B n = stuck_end l c B (n [] refl)
  stuck (b ∷ s) l c B n = stuck_at b s l c B (λ x. n (b ∷ x) refl)

  module _ (H : List ℕ → Type 0) where
    -- after a byte that the form asks for
    step_on : (b : ℕ) (s : List ℕ) (l c l' c' : ℕ) → ((x : List ℕ) → H x → G (b ∷ x)) → ((x : List ℕ) → G (b ∷ x) → H x)
        → Fails H s (pick (eqb b 10) (suc l) l) (pick (eqb b 10) 1 (suc c)) l' c' → Fails G (b ∷ s) l c l' c'
    unfolding line_from column_from
    step_on b s l c l' c' f g F = record {
      at = suc F.at;
      inside = omega (arith, F.inside);
      begins = record { rest = F.begins.rest; whole = f _ F.begins.whole };
      stops = λ h B. F.stops (omega arith) (record { rest = B.rest; whole = g _ B.whole });
      unfinished = λ e x. F.unfinished (omega arith) (g s x);
      line_is = F.line_is;
      column_is = F.column_is;
    }

    pub step_plain : (b : ℕ) (s : List ℕ) (l c l' c' : ℕ) → eqb b 10 ≡ false → ((x : List ℕ) → H x → G (b ∷ x)) → ((x : List ℕ) → G (b ∷ x) → H x)
        → Fails H s l (suc c) l' c' → Fails G (b ∷ s) l c l' c'
    step_plain b s l c l' c' q f g F = step_on b s l c l' c' f g (rw q F)

    pub byte_passes : (b : ℕ) (s : List ℕ) (at : ℕ) → drop at s ≡ b ∷ drop (at + 1) s → ((x : List ℕ) → H x → G (b ∷ x)) → ((x : List ℕ) → G (b ∷ x) → H x) → (l c : ℕ)
        → Passes G H s at (at + 1) l c (pick (eqb b 10) (suc l) l) (pick (eqb b 10) 1 (suc c))
    byte_passes b s at e f g l c = record {
      on = λ x y F. subst (λ (z : List ℕ). Fails G z l c x y) (sym e) (step_on b (drop (at + 1) s) l c x y f g F);
      right = λ r. subst G (sym e) (f (drop (at + 1) s) r);
    }

-- Another form for the same text ----------------------------------------------------------------------------------------------------------------------

-- x begins with the first byte of s
abbrev pub Kin : (s x : List ℕ) → Type 0
Kin [] x = x ≡ []
Kin (b ∷ s) x = (y : List ℕ) × (x ≡ b ∷ y)

kin_self : (s : List ℕ) → Kin s s
kin_self [] = refl
kin_self (b ∷ s) = (s, refl)

kin_more : (s : List ℕ) (n : ℕ) (rest : List ℕ) → n < length s → Kin s (take (suc n) s ++ rest)
kin_more [] n rest h = absurd (omega arith)
kin_more (b ∷ s) n rest h = (take n s ++ rest, refl)

kin_stops : (s x : List ℕ) → Stops s → Kin s x → Stops x
kin_stops [] x h e = subst Stops (sym e) tt
kin_stops (b ∷ s) x h e = subst Stops (sym e.1) h

pub mapped : (G H : List ℕ → Type 0) (s : List ℕ) (l c l' c' : ℕ) → ((x : List ℕ) → H x → G x) → ((x : List ℕ) → Kin s x → G x → H x) → Fails H s l c l' c' → Fails G s l c l' c'
mapped G H s l c l' c' f g F = record {
  at = F.at;
  inside = F.inside;
  begins = record { rest = F.begins.rest; whole = f _ F.begins.whole };
  stops = λ h B. F.stops h (record { rest = B.rest; whole = g _ (kin_more s F.at B.rest h) B.whole });
  unfinished = λ e x. F.unfinished e (g s (kin_self s) x);
  line_is = F.line_is;
  column_is = F.column_is;
}

-- the text may also end
abbrev pub EndOr : (List ℕ → Type 0) → List ℕ → Type 0
EndOr H x = (x ≡ []) ⊎ H x

not-ended : (H : List ℕ → Type 0) (s : List ℕ) (l c l' c' : ℕ) → ¬ (s ≡ []) → Fails H s l c l' c' → Fails (EndOr H) s l c l' c'
not-ended H s l c l' c' n F = mapped (EndOr H) H s l c l' c' (λ x h. inr h) (other s n) F
  where
    other : (s : List ℕ) → ¬ (s ≡ []) → (x : List ℕ) → Kin s x → EndOr H x → H x
    other [] n x k e = absurd (n refl)
    other (b ∷ s) n x k (inl e) = let q : suc (length k.0) ≡ 0 = ap length (sym k.1 ∙ e) in absurd (omega arith)
    other (b ∷ s) n x k (inr h) = h

-- a place within the text
pub not_empty : (s : List ℕ) (at : ℕ) → at < length s → ¬ (drop at s ≡ [])
not_empty s at h e = let k = length-drop at s in let z : length (drop at s) ≡ 0 = ap length e in omega arith

pub in_line : (H : List ℕ → Type 0) (s : List ℕ) (at : ℕ) → at < length s → (l : ℕ) → Passes (EndOr H) H s at at l 1 l 1
in_line H s at h l = record { on = λ x y F. not-ended H (drop at s) l 1 x y (not_empty s at h) F; right = λ r. inr r }

-- A byte with something after it ------------------------------------------------------------------------------------------------------------------------

pub record Then (b : ℕ) (K : List ℕ → Type 0) (x : List ℕ) : Type 0 where
  pub rest : List ℕ
  pub bytes : x ≡ b ∷ rest
  pub holds : K rest

module _ (b : ℕ) (K : List ℕ → Type 0) where
  pub then_more : (x : List ℕ) → K x → Then b K (b ∷ x)
  then_more x k = record { rest = x; bytes = refl; holds = k }

  pub then_less : (x : List ℕ) → Then b K (b ∷ x) → K x
  then_less x t = subst K (sym (ap (drop 1) t.bytes)) t.holds

  pub then_first : (x : List ℕ) → Then b K x → get_or x 0 0 ≡ b
  then_first x t = ap (λ (z : List ℕ). get_or z 0 0) t.bytes

  pub then_stops : 10 ≤ digit_of b → (x : List ℕ) → Then b K x → Stops x
  then_stops h x t = subst Stops (sym t.bytes) h

  pub begins_then : BeginsOf K [] → BeginsOf (Then b K) []
  begins_then B = record { rest = b ∷ B.rest; whole = then_more B.rest B.whole }

  pub then_stuck : (s : List ℕ) (l c : ℕ) → ¬ (get_or s 0 0 ≡ b) → BeginsOf K [] → Fails (Then b K) s l c l c
  then_stuck s l c n B = stuck (Then b K) s l c (begins_then B) (λ x e t. n (sym e ∙ then_first x t))

-- the byte at a place ends a line, and the next line has the form R; or it is another
module _ (R : List ℕ → Type 0) (s : List ℕ) (at : ℕ) where
  pub line_passes : eqb (get_or s at 0) 10 ≡ true → (l c : ℕ) → Passes (Then 10 R) R s at (at + 1) l c (suc l) 1
  line_passes e = byte_passes (Then 10 R) R 10 s at (byte_here s at 10 (eqb-true _ _ e) (omega arith)) (then_more 10 R) (then_less 10 R)

  pub line_stuck : eqb (get_or s at 0) 10 ≡ false → BeginsOf R [] → (l c : ℕ) → Fails (Then 10 R) (drop at s) l c l c
  line_stuck e B l c = then_stuck 10 R (drop at s) l c (λ q. apart (sym e ∙ eq-eqb (get_or s at 0) 10 (sym (byte_first s at) ∙ q))) B

pub line_stops : (R : List ℕ → Type 0) (x : List ℕ) → Then 10 R x → Stops x
unfolding digit_of
line_stops R = then_stops 10 R (omega arith)

-- A number with something after it ----------------------------------------------------------------------------------------------------------------------

pub record NumberThen (limit : ℕ) (K : ℕ → List ℕ → Type 0) (x : List ℕ) : Type 0 where
  pub value : ℕ
  pub rest : List ℕ
  pub below : value < limit
  pub bytes : x ≡ digits value ++ rest
  pub holds : K value rest

no_value : {v : ℕ} {A : Type 0} → ◌≡◌ {A = Option ℕ} None (Some v) → A
no_value e = let z : ◌≡◌ {A = ℕ} 0 1 = cc in absurd (omega arith)

same_value : {u v : ℕ} → ◌≡◌ {A = Option ℕ} (Some u) (Some v) → u ≡ v
same_value e = cc

-- a number that was found, n bytes of s, and where it leaves the form if what is after it does; or a place where s leaves it
pub record After (K : List ℕ → Type 0) (G : List ℕ → Type 0) (s : List ℕ) (i stop : ℕ) : Type 0 where
  pub n : ℕ
  pub place : stop ≡ i + n
  pub on : (l c l' c' : ℕ) → Fails K (drop n s) l (c + n) l' c' → Fails G s l c l' c'
  pub right : K (drop n s) → G s

pub record NoNumber (G : List ℕ → Type 0) (s : List ℕ) (i stop : ℕ) : Type 0 where
  pub n : ℕ
  pub place : stop ≡ i + n
  pub fails : (l c : ℕ) → Fails G s l c l (c + n)

-- at a place of a text
module _ (limit : ℕ) (K : ℕ → List ℕ → Type 0) (s : List ℕ) (at stop : ℕ) where
  pub record Reads (u : ℕ) : Type 0 where
    pub from : at ≤ stop
    pub passes : (l c : ℕ) → Passes (NumberThen limit K) (K u) s at stop l c l (c + (stop - at))

  pub record Breaks : Type 0 where
    pub from : at ≤ stop
    pub fails : (l c : ℕ) → Fails (NumberThen limit K) (drop at s) l c l (c + (stop - at))

  abbrev pub ToldAt : Option ℕ → Type 0
  ToldAt (Some u) = Reads u
  ToldAt None = Breaks

module _ (limit : ℕ) (positive : 0 < limit) (K : ℕ → List ℕ → Type 0) (stopped : (v : ℕ) (x : List ℕ) → K v x → Stops x) (ends : (v : ℕ) → BeginsOf (K v) []) where
  abbrev Told : (G : List ℕ → Type 0) → (s : List ℕ) → (i stop : ℕ) → Option ℕ → Type 0
  Told G s i stop (Some u) = After (K u) G s i stop
  Told G s i stop None = NoNumber G s i stop

  -- the digits so far make v
  abbrev Digits : ℕ → List ℕ → Type 0
  Digits v x = NumberThen limit K (digits v ++ x)

  digits_end : (v : ℕ) (x : List ℕ) → v < limit → Stops x → Digits v x → K v x
  digits_end v x h p N =
      let a = number_found (digits v ++ x) x 0 limit v refl h p in
      let b = number_found (digits v ++ x) N.rest 0 limit N.value N.bytes N.below (stopped N.value N.rest N.holds) in
      let q : v ≡ N.value = same_value (ap (λ (t : Token). t.found) (sym a ∙ b)) in
      let r : x ≡ N.rest = sym (drop-append_seam (digits v) x) ∙ ap (drop (length (digits v))) (N.bytes ∙ ap (λ (u : ℕ). digits u ++ N.rest) (sym q))
      ∙ drop-append_seam (digits v) N.rest in
      subst₂ K (sym q) (sym r) N.holds

  no_number : (s : List ℕ) → (number_of s 0 limit).found ≡ None → ¬ NumberThen limit K s
  unfolding number_at
  no_number s e N =
      let b = number_found s N.rest 0 limit N.value N.bytes N.below (stopped N.value N.rest N.holds) in
      no_value (sym e ∙ ap (λ (t : Token). t.found) b)

  no_digits : (v : ℕ) (x : List ℕ) → v < limit → (digits_from x 0 (0 + length (digits v)) limit v).found ≡ None → ¬ Digits v x
  no_digits v x h e = no_number (digits v ++ x) (ap (λ (t : Token). t.found) (number_read 0 limit v x h) ∙ e)

  begins_digits : (v : ℕ) → v < limit → BeginsOf (Digits v) []
  begins_digits v h = record { rest = (ends v).rest; whole = record { value = v; rest = (ends v).rest; below = h; bytes = refl; holds = (ends v).whole } }

  pub begins_number : BeginsOf (NumberThen limit K) []
  begins_number = record { rest = digits 0 ++ (begins_digits 0 positive).rest; whole = (begins_digits 0 positive).whole }

  none_here : (G : List ℕ → Type 0) (s : List ℕ) (i : ℕ) → ((l c : ℕ) → Fails G s l c l c) → NoNumber G s i i
  none_here G s i F = record { n = 0; place = omega arith; fails = λ l c. to_column (F l c) (omega arith) }

  -- the number ends here
  ended : (s : List ℕ) (i v : ℕ) → v < limit → Stops s → After (K v) (Digits v) s i i
  ended s i v h p = record {
    n = 0;
    place = omega arith;
    on = λ l c l' c' F.
        mapped (Digits v) (K v) s l c l' c' (λ x k. record { value = v; rest = x; below = h; bytes = refl; holds = k })
        (λ x e g. digits_end v x h (kin_stops s x p e) g) (from_column F (omega arith));
    right = λ k. record { value = v; rest = s; below = h; bytes = refl; holds = k };
  }

  -- a digit more
  shift : (G H : List ℕ → Type 0) (b : ℕ) (s : List ℕ) (i stop : ℕ) (f : Option ℕ) → digit_of b < 10 → ((x : List ℕ) → H x → G (b ∷ x)) → ((x : List ℕ) → G (b ∷ x) → H x)
      → Told H s (i + 1) stop f → Told G (b ∷ s) i stop f
  shift G H b s i stop (Some u) d f g A = record {
    n = suc A.n;
    place = omega (arith, A.place);
    on = λ l c l' c' F.
        step_plain G H b s l c l' c' (ne_eqb b 10 (λ e. omega (arith, digit_byte b d))) f g (A.on l (suc c) l' c' (from_column F (omega arith)));
    right = λ k. f s (A.right k);
  }
  shift G H b s i stop None d f g A = record {
    n = suc A.n;
    place = omega (arith, A.place);
    fails = λ l c.
        step_plain G H b s l c l (c + suc A.n) (ne_eqb b 10 (λ e. omega (arith, digit_byte b d))) f g (to_column (A.fails l (suc c)) (omega arith));
  }

  digits_told : (s : List ℕ) (start i v : ℕ) → v < limit → let t = digits_from s start i limit v in Told (Digits v) s i t.stop t.found
  unfolding digits_from
  digits_told [] start i v h = ended [] i v h tt
  digits_told (b ∷ s) start i v h =
      let P : Token → Type 0 = λ t. Told (Digits v) (b ∷ s) i t.stop t.found in
      let w = 10 * v + digit_of b in
      let t = digits_from s start (i + 1) limit w in
      let stuck : ((x : List ℕ) → (digits_from (b ∷ x) 0 (0 + length (digits v)) limit v).found ≡ None) → NoNumber (Digits v) (b ∷ s) i i =
      λ e. none_here (Digits v) (b ∷ s) i (λ l c. stuck_at (Digits v) b s l c (begins_digits v h) (λ x. no_digits v (b ∷ x) h (e x))) in
      pick_by P (ltb (digit_of b) 10) (λ d.
      pick_by P (ltb 0 v) (λ z.
      pick_by P (ltb w limit) (λ y.
      shift (Digits v) (Digits w) b s i t.stop t.found (ltb-true _ _ d)
      (λ x. subst (NumberThen limit K) (one_more v b x (ltb-true _ _ z) (ltb-true _ _ d)))
      (λ x. subst (NumberThen limit K) (sym (one_more v b x (ltb-true _ _ z) (ltb-true _ _ d))))
      (digits_told s start (i + 1) w (ltb-true _ _ y)))
      (λ y. stuck (λ x. rw (d, z, y)))) (λ z. stuck (λ x. rw (d, z)))) (λ d. ended (b ∷ s) i v h (ltb-false _ _ d))

  first_digit : (b : ℕ) (x : List ℕ) → digit_of b < 10 → digits (digit_of b) ++ x ≡ b ∷ x
  first_digit b x d = ap (λ (ds : List ℕ). ds ++ x) (digits_one (digit_of b) d) ∙ ap (λ (y : ℕ). y ∷ x) (sym (digit_byte b d))

  number_told : (s : List ℕ) (at : ℕ) → let t = number_of s at limit in Told (NumberThen limit K) s at t.stop t.found
  unfolding number_of
  number_told [] at = none_here (NumberThen limit K) [] at (λ l c. stuck_end (NumberThen limit K) l c begins_number (no_number [] refl))
  number_told (b ∷ s) at =
      let P : Token → Type 0 = λ t. Told (NumberThen limit K) (b ∷ s) at t.stop t.found in
      let t = digits_from s at (at + 1) limit (digit_of b) in
      let stuck : ((x : List ℕ) → (number_of (b ∷ x) 0 limit).found ≡ None) → NoNumber (NumberThen limit K) (b ∷ s) at at =
      λ e. none_here (NumberThen limit K) (b ∷ s) at (λ l c. stuck_at (NumberThen limit K) b s l c begins_number (λ x. no_number (b ∷ x) (e x))) in
      pick_by P (ltb (digit_of b) 10) (λ d.
      pick_by P (ltb (digit_of b) limit) (λ y.
      shift (NumberThen limit K) (Digits (digit_of b)) b s at t.stop t.found (ltb-true _ _ d)
      (λ x. subst (NumberThen limit K) (first_digit b x (ltb-true _ _ d))) (λ x. subst (NumberThen limit K) (sym (first_digit b x (ltb-true _ _ d))))
      (digits_told s at (at + 1) (digit_of b) (ltb-true _ _ y)))
      (λ y. stuck (λ x. rw (d, y)))) (λ d. stuck (λ x. rw d))

  told_at : (s : List ℕ) (at stop : ℕ) (f : Option ℕ) → Told (NumberThen limit K) (drop at s) at stop f → ToldAt limit K s at stop f
  told_at s at stop (Some u) A =
      let p = A.place in
      let q : stop - at ≡ A.n = omega arith in
      let e : drop stop s ≡ drop A.n (drop at s) = ap (λ (k : ℕ). drop k s) p ∙ sym (drop-drop A.n at s) in
      record {
        from = omega arith;
        passes = λ l c. record { on = λ x y F. A.on l c x y (subst₂ (λ (z : List ℕ) (k : ℕ). Fails (K u) z l (c + k) x y) e q F); right = λ k. A.right (subst (K u) e k) };
      }
  told_at s at stop None A =
      let p = A.place in
      let q : A.n ≡ stop - at = omega arith in
      record { from = omega arith; fails = λ l c. subst (λ (k : ℕ). Fails (NumberThen limit K) (drop at s) l c l (c + k)) q (A.fails l c) }

  pub number_told_at : (s : List ℕ) (at : ℕ) → let t = number_at s at limit in ToldAt limit K s at t.stop t.found
  unfolding number_at
  number_told_at s at = let t = number_of (drop at s) at limit in told_at s at t.stop t.found (number_told (drop at s) at)
