-- The bytes of each field that a reader tells: where a field is found its bytes stand, and where its bytes stand it is found. Assumes nothing.
use Prim.Native.Nat.{ℕ, zero, suc, ◌+◌, ◌*◌, ◌≤◌, ◌<◌}
use mathlib.Core.Path.{◌≡◌, refl, sym, ◌∙◌, ap, ap₂, subst}
use mathlib.Core.List.{List, [], ◌∷◌, ◌++◌, append_assoc}
use mathlib.Core.Bool.{false}
use native.Mathlib.Numerals.{add-one}
use native.Mathlib.Omega.{arith}
use lib.ListN.{length, get_or, drop, length-append}
use lib.Seq.{append_snoc, drop-cons, drop-drop, drop-append_seam, get_or-drop}
use lib.Dec.{ltb, eqb}
use borrow.Author.Tests.{lt-ltb, le-ltb, ltb-true, ltb-false, eqb-true, eq-eqb, ne_eqb}
use Rattle.weights.specs.declared.Measure.{Measure}
use Rattle.weights.specs.declared.Measure.TheVariants.{Cost, Days, Grade}
use Rattle.weights.specs.declared.Mark.{Mark}
use Rattle.weights.specs.Figures.{greatest, standing, struck_mark}
use Rattle.columns.specs.Acceptance.{most_vertices}
use Rattle.text.specs.Render.{digits, word, first_word, measure_text, header, mark_text, own_text}
use Rattle.text.specs.Machine.{digit_of}
use Rattle.text.proofs.Digits.{pick_by, digits_one, digits_more, by_digits, digit_byte, byte_digit}
use Rattle.cursor.specs.declared.Token.{Token}
use Rattle.cursor.specs.declared.WeightToken.{WeightToken}
use Rattle.cursor.specs.declared.Separator.{Separator}
use Rattle.cursor.specs.declared.Separator.TheVariants.{Space, LineEnd, Neither}
use Rattle.cursor.specs.Cursor.{FoundWeight, token, digits_from, number_of, number_at, as_weight, weight_token, marked_from, weight_at, separator_at}
use Rattle.cursor.proofs.Counts.{byte_within, number_counts}
use Rattle.reading.specs.Lines.{agreeing, Opening, Opens, Unopened, on_named, on_count, on_counted, first_line}
use Rattle.std.specs.Prelude.{Option, Some, None}

-- Bytes ------------------------------------------------------------------------------------------------------------------------------------

-- what is behind bytes that stand at a place
pub behind : (s bytes rest : List ℕ) (at : ℕ) → drop at s ≡ bytes ++ rest → drop (at + length bytes) s ≡ rest
behind s bytes rest at e = sym (drop-drop (length bytes) at s) ∙ ap (drop (length bytes)) e ∙ drop-append_seam bytes rest

here : (s : List ℕ) (at b : ℕ) → get_or s at 0 ≡ b → 0 < b → drop at s ≡ b ∷ drop (at + 1) s
here s at b e h = drop-cons s at 0 (byte_within s at b e h) ∙ ap₂ (λ (x k : ℕ). x ∷ drop k s) e (sym (add-one at))

byte_of : (s rest : List ℕ) (at : ℕ) → drop at s ≡ rest → get_or s at 0 ≡ get_or rest 0 0
byte_of s rest at e =
    let q : at ≡ at + 0 = omega arith in
    ap (λ (k : ℕ). get_or s k 0) q ∙ sym (get_or-drop at s 0 0) ∙ ap (λ (l : List ℕ). get_or l 0 0) e

next_byte : (s rest : List ℕ) (at : ℕ) → drop at s ≡ rest → get_or s (at + 1) 0 ≡ get_or rest 1 0
next_byte s rest at e = sym (get_or-drop at s 1 0) ∙ ap (λ (l : List ℕ). get_or l 1 0) e

-- Separators -------------------------------------------------------------------------------------------------------------------------------

abbrev SeparatorText : List ℕ → ℕ → Separator → Type 0
SeparatorText s at (Space next) = drop at s ≡ 32 ∷ drop next s
SeparatorText s at (LineEnd next) = drop at s ≡ 10 ∷ drop next s
SeparatorText s at Neither = Unit {0}

separator_text : (s : List ℕ) (at : ℕ) → SeparatorText s at (separator_at s at)
unfolding separator_at
separator_text s at =
    pick_by (SeparatorText s at) (eqb (get_or s at 0) 32) (λ e. here s at 32 (eqb-true _ _ e) (omega arith)) (λ e.
    pick_by (SeparatorText s at) (eqb (get_or s at 0) 10) (λ f. here s at 10 (eqb-true _ _ f) (omega arith)) (λ f. tt))

module _ (s : List ℕ) (at : ℕ) where
  pub space_text : (next : ℕ) → separator_at s at ≡ Space next → drop at s ≡ 32 ∷ drop next s
  space_text next e = subst (SeparatorText s at) e (separator_text s at)

  pub end_text : (next : ℕ) → separator_at s at ≡ LineEnd next → drop at s ≡ 10 ∷ drop next s
  end_text next e = subst (SeparatorText s at) e (separator_text s at)

  pub space_found : (rest : List ℕ) → drop at s ≡ 32 ∷ rest → separator_at s at ≡ Space (at + 1)
  unfolding separator_at
  space_found rest e = rw (byte_of s (32 ∷ rest) at e)

  pub end_found : (rest : List ℕ) → drop at s ≡ 10 ∷ rest → separator_at s at ≡ LineEnd (at + 1)
  unfolding separator_at
  end_found rest e = rw (byte_of s (10 ∷ rest) at e)

-- Numbers ------------------------------------------------------------------------------------------------------------------------------------

-- the bytes bs are a number and what is behind it
abbrev NumberText : (s bs : List ℕ) → (stop : ℕ) → (Option ℕ) → Type 0
NumberText s bs stop (Some v) = bs ≡ digits v ++ drop stop s
NumberText s bs stop None = Unit {0}

abbrev TokenText : (s bs : List ℕ) → Token → Type 0
TokenText s bs t = NumberText s bs t.stop t.found

rest_of : (s bs : List ℕ) (i b : ℕ) → drop i s ≡ b ∷ bs → drop (i + 1) s ≡ bs
rest_of s bs i b e = behind s (b ∷ []) bs i e

pub one_more : (v b : ℕ) (bs : List ℕ) → 0 < v → digit_of b < 10 → digits (10 * v + digit_of b) ++ bs ≡ digits v ++ b ∷ bs
one_more v b bs pos h =
    ap (λ (ds : List ℕ). ds ++ bs) (digits_more v (digit_of b) pos h)
    ∙ append_snoc (digits v) (48 + digit_of b) bs
    ∙ ap (λ (x : ℕ). digits v ++ x ∷ bs) (sym (digit_byte b h))

digits_text : (s bs : List ℕ) (start i limit v : ℕ) → drop i s ≡ bs → TokenText s (digits v ++ bs) (digits_from bs start i limit v)
unfolding digits_from
digits_text s [] start i limit v e = ap (λ (l : List ℕ). digits v ++ l) (sym e)
digits_text s (b ∷ bs) start i limit v e =
    let P : Token → Type 0 = TokenText s (digits v ++ b ∷ bs) in
    let w = 10 * v + digit_of b in
    let rec : TokenText s (digits w ++ bs) (digits_from bs start (i + 1) limit w) = digits_text s bs start (i + 1) limit w (rest_of s bs i b e) in
    pick_by P (ltb (digit_of b) 10) (λ d.
    pick_by P (ltb 0 v) (λ z.
    pick_by P (ltb w limit)
    (λ l. subst (λ (x : List ℕ). TokenText s x (digits_from bs start (i + 1) limit w)) (one_more v b bs (ltb-true _ _ z) (ltb-true _ _ d)) rec)
    (λ l. tt)) (λ z. tt)) (λ d. ap (λ (l : List ℕ). digits v ++ l) (sym e))

number_text_of : (s bs : List ℕ) (at limit : ℕ) → drop at s ≡ bs → TokenText s bs (number_of bs at limit)
unfolding number_of
number_text_of s [] at limit e = tt
number_text_of s (b ∷ bs) at limit e =
    let P : Token → Type 0 = TokenText s (b ∷ bs) in
    let F = digits_from bs at (at + 1) limit (digit_of b) in
    let rec : TokenText s (digits (digit_of b) ++ bs) F = digits_text s bs at (at + 1) limit (digit_of b) (rest_of s bs at b e) in
    pick_by P (ltb (digit_of b) 10) (λ d.
    pick_by P (ltb (digit_of b) limit) (λ l. subst (λ (x : List ℕ). TokenText s x F) (single (ltb-true _ _ d)) rec) (λ l. tt)) (λ d. tt)
  where
    single : digit_of b < 10 → digits (digit_of b) ++ bs ≡ b ∷ bs
    single h = ap (λ (ds : List ℕ). ds ++ bs) (digits_one (digit_of b) h) ∙ ap (λ (x : ℕ). x ∷ bs) (sym (digit_byte b h))

pub number_text : (s : List ℕ) (at limit start next v : ℕ) → number_at s at limit ≡ token start next (Some v) → drop at s ≡ digits v ++ drop next s
unfolding number_at
number_text s at limit start next v e = subst (TokenText s (drop at s)) e (number_text_of s (drop at s) at limit refl)

-- no digit goes on
abbrev pub Stops : List ℕ → Type 0
Stops [] = Unit {0}
Stops (b ∷ bs) = 10 ≤ digit_of b

digits_stop : (bs : List ℕ) (start i limit v : ℕ) → Stops bs → digits_from bs start i limit v ≡ token start i (Some v)
unfolding digits_from
digits_stop [] start i limit v h = refl
digits_stop (b ∷ bs) start i limit v h = rw (le-ltb (digit_of b) 10 h)

digits_step : (rest : List ℕ) (start i limit v d : ℕ) → 0 < v → d < 10 → 10 * v + d < limit → digits_from ((48 + d) ∷ rest) start i limit v ≡ digits_from rest start (i + 1) limit (10 * v + d)
unfolding digits_from
digits_step rest start i limit v d pos h l = rw (byte_digit d h, lt-ltb d 10 h, lt-ltb 0 v pos, lt-ltb _ _ l)

number_first : (rest : List ℕ) (at limit d : ℕ) → d < 10 → d < limit → number_of ((48 + d) ∷ rest) at limit ≡ digits_from rest at (at + 1) limit d
unfolding number_of
number_first rest at limit d h l = rw (byte_digit d h, lt-ltb d 10 h, lt-ltb d limit l)

-- a number's digits are read to their end
pub number_read : (at limit v : ℕ) (rest : List ℕ) → v < limit → number_of (digits v ++ rest) at limit ≡ digits_from rest at (at + length (digits v)) limit v
number_read at limit =
    by_digits (λ (v : ℕ). (rest : List ℕ) → v < limit → number_of (digits v ++ rest) at limit ≡ digits_from rest at (at + length (digits v)) limit v)
    (λ d h rest l. rw (digits_one d h) (number_first rest at limit d h l))
    (λ v d pos h rec rest l.
    let q = ap length (digits_more v d pos h) ∙ length-append (digits v) ((48 + d) ∷ []) in
    let place : at + length (digits v) + 1 ≡ at + length (digits (10 * v + d)) = omega arith in
    ap (λ (ds : List ℕ). number_of (ds ++ rest) at limit) (digits_more v d pos h)
    ∙ ap (λ (z : List ℕ). number_of z at limit) (append_snoc (digits v) (48 + d) rest)
    ∙ rec ((48 + d) ∷ rest) (omega arith)
    ∙ digits_step rest at (at + length (digits v)) limit v d pos h l
    ∙ ap (λ (k : ℕ). digits_from rest at k limit (10 * v + d)) place)

pub number_found : (s rest : List ℕ) (at limit v : ℕ) → drop at s ≡ digits v ++ rest → v < limit → Stops rest → number_at s at limit ≡ token at (at + length (digits v)) (Some v)
unfolding number_at
number_found s rest at limit v e l h =
    ap (λ (z : List ℕ). number_of z at limit) e ∙ number_read at limit v rest l ∙ digits_stop rest at (at + length (digits v)) limit v h

-- Own figures --------------------------------------------------------------------------------------------------------------------------------

abbrev WeightText : List ℕ → (at stop : ℕ) → FoundWeight → Type 0
WeightText s at stop (Some (w, k)) = drop at s ≡ own_text w.0 k.0 ++ drop stop s
WeightText s at stop None = Unit {0}

abbrev OwnText : List ℕ → (at : ℕ) → WeightToken → Type 0
OwnText s at t = WeightText s at t.stop t.found

-- a number behind the bytes of a mark
marked_text : (s : List ℕ) (at from : ℕ) (k : Mark) (start stop : ℕ) (F : (Option ℕ)) → number_at s from (greatest + 1) ≡ token start stop F → drop at s ≡ mark_text k.0 ++ drop from s
    → WeightText s at stop (as_weight k F)
unfolding own_text
marked_text s at from k start stop (Some v) e q =
    q ∙ ap (λ (l : List ℕ). mark_text k.0 ++ l) (number_text s from (greatest + 1) start stop v e) ∙ sym (append_assoc (mark_text k.0) (digits v) (drop stop s))
marked_text s at from k start stop None e q = tt

weight_text_of : (s : List ℕ) (at : ℕ) → OwnText s at (weight_at s at)
unfolding weight_at mark_text
weight_text_of s at =
    let S = number_at s (at + 1) (greatest + 1) in
    let N = number_at s at (greatest + 1) in
    pick_by (OwnText s at) (eqb (get_or s at 0) 45)
    (λ e. marked_text s at (at + 1) (record { 0 = struck_mark }) S.start S.stop S.found refl (here s at 45 (eqb-true _ _ e) (omega arith)))
    (λ e. marked_text s at at (record { 0 = standing }) N.start N.stop N.found refl refl)

pub weight_text : (s : List ℕ) (at o k start next : ℕ) → weight_at s at ≡ weight_token start next (Some ((record { 0 = o }), (record { 0 = k }))) → drop at s ≡ own_text o k ++ drop next s
weight_text s at o k start next e = subst (OwnText s at) e (weight_text_of s at)

-- a number begins with a digit
first_digit : (v : ℕ) (rest : List ℕ) → 48 ≤ get_or (digits v ++ rest) 0 0
first_digit =
    by_digits (λ (v : ℕ). (rest : List ℕ) → 48 ≤ get_or (digits v ++ rest) 0 0)
    (λ d h rest. rw (digits_one d h) (omega arith))
    (λ v d pos h rec rest. rw (digits_more v d pos h, append_snoc (digits v) (48 + d) rest) (rec ((48 + d) ∷ rest)))

module _ (s rest : List ℕ) (at o : ℕ) (h : Stops rest) (l : o ≤ greatest) where
  plain_found : drop at s ≡ digits o ++ rest → weight_at s at ≡ weight_token at (at + length (digits o)) (Some ((record { 0 = o }), (record { 0 = standing })))
  unfolding weight_at
  plain_found e =
      let b = byte_of s (digits o ++ rest) at e in
      let f = first_digit o rest in
      rw (ne_eqb (get_or s at 0) 45 (λ q. omega arith)) (ap (marked_from at (record { 0 = standing })) (number_found s rest at (greatest + 1) o e (omega arith) h))

  struck_found : drop at s ≡ 45 ∷ (digits o ++ rest) → weight_at s at ≡ weight_token at (at + length (45 ∷ digits o)) (Some ((record { 0 = o }), (record { 0 = struck_mark })))
  unfolding weight_at
  struck_found e =
      let place : at + 1 + length (digits o) ≡ at + length (45 ∷ digits o) = omega arith in
      let found = number_found s rest (at + 1) (greatest + 1) o (behind s (45 ∷ []) (digits o ++ rest) at e) (omega arith) h in
      rw (byte_of s (45 ∷ (digits o ++ rest)) at e)
      (ap (marked_from at (record { 0 = struck_mark })) found ∙ ap (λ (j : ℕ). weight_token at j (Some ((record { 0 = o }), (record { 0 = struck_mark })))) place)

  pub weight_found : (k : ℕ) → k ≤ struck_mark → drop at s ≡ own_text o k ++ rest → weight_at s at ≡ weight_token at (at + length (own_text o k)) (Some ((record { 0 = o }), (record { 0 = k })))
  unfolding mark_text own_text
  weight_found zero m e = plain_found e
  weight_found (suc zero) m e = struck_found e
  weight_found (suc (suc k)) m e = absurd (omega arith)

-- The first line -----------------------------------------------------------------------------------------------------------------------------

starts_text : (w s : List ℕ) → length w ≤ agreeing w s → s ≡ w ++ drop (length w) s
unfolding agreeing
starts_text [] s = λ h. refl
starts_text (w ∷ ws) [] = λ h. absurd (omega arith)
starts_text (w ∷ ws) (b ∷ s) =
    pick_by (λ (k : ℕ). length (w ∷ ws) ≤ k → b ∷ s ≡ w ∷ (ws ++ drop (length ws) s)) (eqb b w)
    (λ e h. ap₂ (λ (x : ℕ) (l : List ℕ). x ∷ l) (eqb-true b w e) (starts_text ws s (omega arith))) (λ e h. absurd (omega arith))

text_starts : (w rest : List ℕ) → agreeing w (w ++ rest) ≡ length w
unfolding agreeing
text_starts [] rest = refl
text_starts (w ∷ ws) rest = rw (eq-eqb w w refl) (ap suc (text_starts ws rest))

whole_word : (w s rest : List ℕ) → s ≡ w ++ rest → ltb (agreeing w s) (length w) ≡ false
whole_word w s rest e = let q = ap (agreeing w) e ∙ text_starts w rest in le-ltb (agreeing w s) (length w) (omega arith)

module _ (s : List ℕ) where
  abbrev FirstText : Opening → Type 0
  FirstText (Opens n m start) = (n ≤ most_vertices) × (s ≡ header n m ++ drop start s)
  FirstText (Unopened place) = Unit {0}

  -- the pieces of the first line, joined
  joined : (n next start : ℕ) (m : Measure) → s ≡ first_word ++ drop (length first_word) s → drop (length first_word) s ≡ digits n ++ drop next s
      → drop next s ≡ measure_text m ++ drop start s → s ≡ header n m ++ drop start s
  unfolding header
  joined n next start m a b c =
      a
      ∙ ap (λ (l : List ℕ). first_word ++ l) b
      ∙ ap (λ (l : List ℕ). first_word ++ (digits n ++ l)) c
      ∙ sym (append_assoc (first_word ++ digits n) (measure_text m) (drop start s) ∙ append_assoc first_word (digits n) (measure_text m ++ drop start s))

  -- behind the number of parts: LF, or a measure's word and LF
  named_text : (n next : ℕ) (m : Measure) → n ≤ most_vertices → s ≡ first_word ++ drop (length first_word) s → drop (length first_word) s ≡ digits n ++ drop next s → FirstText (on_named s n m next)
  named_text n next m l a b =
      let w = measure_text m in
      pick_by FirstText (ltb (agreeing w (drop next s)) (length w)) (λ f. tt)
      (λ f. (l, joined n next (next + length w) m a b (starts_text w (drop next s) (ltb-false _ _ f) ∙ ap (λ (t : List ℕ). w ++ t) (drop-drop (length w) next s))))

  count_text : (start next : ℕ) (F : (Option ℕ)) → number_at s (length first_word) (most_vertices + 1) ≡ token start next F → s ≡ first_word ++ drop (length first_word) s → FirstText (on_count s next F)
  count_text start next (Some n) e a =
      let k = (number_counts s (length first_word) (most_vertices + 1) start next n e).0 in
      let l : n ≤ most_vertices = omega arith in
      let b = number_text s (length first_word) (most_vertices + 1) start next n e in
      pick_by FirstText (eqb (get_or s next 0) 10)
      (λ q. (l, joined n next (next + 1) Days a b (unfold measure_text word in here s next 10 (eqb-true _ _ q) (omega arith))))
      (λ _. pick_by FirstText (eqb (get_or s next 0) 32)
      (λ _. pick_by FirstText (eqb (get_or s (next + 1) 0) 99) (λ _. named_text n next Cost l a b) (λ _. named_text n next Grade l a b))
      (λ _. tt))
  count_text start next None e a = tt

  first_text_of : FirstText (first_line s)
  unfolding first_line
  first_text_of =
      let T = number_at s (length first_word) (most_vertices + 1) in
      pick_by FirstText (ltb (agreeing first_word s) (length first_word)) (λ e. tt)
      (λ e. count_text T.start T.stop T.found refl (starts_text first_word s (ltb-false _ _ e)))

  pub first_text : (n start : ℕ) (m : Measure) → first_line s ≡ Opens n m start → (n ≤ most_vertices) × (s ≡ header n m ++ drop start s)
  first_text n start m e = subst FirstText e first_text_of

-- its bytes, and what they are found to be
measure_stops : (m : Measure) (rest : List ℕ) → Stops (measure_text m ++ rest)
unfolding measure_text word digit_of
measure_stops Cost rest = omega arith
measure_stops Days rest = omega arith
measure_stops Grade rest = omega arith

count_found : (s rest : List ℕ) (n next : ℕ) (m : Measure) → drop next s ≡ measure_text m ++ rest → on_count s next (Some n) ≡ Opens n m (next + length (measure_text m))
count_found s rest n next Days e = (unfold measure_text word in rw (byte_of s (10 ∷ rest) next e))
count_found s rest n next Cost e =
    let b : get_or s next 0 ≡ 32 = byte_of s (measure_text Cost ++ rest) next e ∙ (unfold measure_text word in refl) in
    let c : get_or s (next + 1) 0 ≡ 99 = next_byte s (measure_text Cost ++ rest) next e ∙ (unfold measure_text word in refl) in
    rw (b, c, whole_word (measure_text Cost) (drop next s) rest e)
count_found s rest n next Grade e =
    let b : get_or s next 0 ≡ 32 = byte_of s (measure_text Grade ++ rest) next e ∙ (unfold measure_text word in refl) in
    let c : get_or s (next + 1) 0 ≡ 103 = next_byte s (measure_text Grade ++ rest) next e ∙ (unfold measure_text word in refl) in
    rw (b, c, whole_word (measure_text Grade) (drop next s) rest e)

pub first_found : (rest : List ℕ) (n : ℕ) (m : Measure) → n ≤ most_vertices → first_line (header n m ++ rest) ≡ Opens n m (length (header n m))
unfolding first_line header
first_found rest n m h =
    let tail = measure_text m ++ rest in
    let s = header n m ++ rest in
    let q : s ≡ first_word ++ (digits n ++ tail) = append_assoc (first_word ++ digits n) (measure_text m) rest ∙ append_assoc first_word (digits n) tail in
    let opened = whole_word first_word s (digits n ++ tail) q in
    let a : drop (length first_word) s ≡ digits n ++ tail = ap (drop (length first_word)) q ∙ drop-append_seam first_word (digits n ++ tail) in
    let f = number_found s tail (length first_word) (most_vertices + 1) n a (omega arith) (measure_stops m rest) in
    let c = count_found s rest n (length first_word + length (digits n)) m (behind s (digits n) tail (length first_word) a) in
    let l = length-append (first_word ++ digits n) (measure_text m) in
    let k = length-append first_word (digits n) in
    let place : length first_word + length (digits n) + length (measure_text m) ≡ length (header n m) = omega arith in
    rw opened (ap (on_counted s) f ∙ c ∙ ap (Opens n m) place)
