-- Reading line by line is reading byte by byte: `scan` is `parse`, and the place where a line fails is that of the first byte that fails. Assumes nothing.
use mathlib.Core.Path.{◌≡◌, refl, sym, ◌∙◌, ap, ap₂, subst}
use mathlib.Core.List.{List, [], ◌∷◌, ◌++◌}
use mathlib.Core.Bool.{Bool, true, false}
use Prim.Native.Nat.{ℕ, zero, suc, ◌+◌, ◌*◌, ◌-◌, ◌≤◌, ◌<◌}
use native.Mathlib.Numerals.{add-one}
use native.Mathlib.Nat.{add-zero}
use native.Mathlib.Omega.{arith}
use lib.ListN.{length, get_or, take, drop, drop_of_length-le, length-append, length-drop, get_or-eq_default}
use lib.Seq.{drop-cons, drop-drop, length-take-le}
use lib.Dec.{ltb, eqb}
use borrow.Author.Tests.{lt-ltb, le-ltb, ltb-true, ltb-false, eq-eqb, ne_eqb, eqb-true}
use Rattle.weights.specs.declared.Measure.{Measure}
use Rattle.weights.specs.declared.Measure.TheVariants.{Cost, Days, Grade}
use Rattle.weights.specs.Figures.{greatest, standing, struck_mark}
use Rattle.weights.specs.Choice.{pick}
use Rattle.columns.specs.Acceptance.{most_vertices, most_edges}
use Rattle.text.specs.Tables.{edge, Table}
use Rattle.text.specs.Render.{word, first_word, measure_text}
use Rattle.text.specs.Machine.{
  Place,
  Vertices,
  Head,
  Own,
  Listed,
  State,
  Spelling,
  Naming,
  First,
  Within,
  Failed,
  begun,
  with_edge,
  next_line,
  may_list,
  limit,
  line_at,
  digit_of,
  grown,
  instead,
  after,
  spell,
  named,
  ended,
  step,
  run,
  Parse,
  Whole,
  Wrong,
  finish,
  begin,
  parse,
}
use Rattle.text.proofs.Digits.{pick_by}
use Rattle.text.specs.Bytes.{is_failed, survived, failing_at, column_from, column_of}
use Rattle.text.proofs.Sound.{Spells, begin_reached, word_spells}
use Rattle.text.proofs.Places.{run_failed, digit_stays}
use Rattle.text.proofs.Bytes.{survived_inside}
use Rattle.cursor.specs.declared.Token.{Token}
use Rattle.cursor.specs.declared.WeightToken.{WeightToken}
use Rattle.cursor.specs.Cursor.{FoundWeight, digits_from, number_of, number_at, as_weight, weight_at}
use Rattle.cursor.proofs.Counts.{byte_within}
use Rattle.reading.specs.Lines.{agreeing, on_word, on_named, on_count, on_counted, Opening, Opens, Unopened, first_line, Stalk, on_own, on_owned, on_head, stem_at, Listing, Ends, Breaks, list_end, on_vertex, on_listed, listed_from, Row, Holds, Fails, on_listing, on_stem, row_at, on_row, scan_from, on_first, scan}
use Rattle.std.specs.Prelude.{Option, Some, None}

-- What becomes of a text ---------------------------------------------------------------------------------------------------------------------

-- the table that it holds; or the line that is refused, the place of the byte that fails, and where that line starts
pub data Fate : Type 0 where
  Reads : Table → Fate
  Stopped : (line place start : ℕ) → Fate

abbrev pub fate_of : Parse → (place start : ℕ) → Fate
fate_of (Whole t) k a = Reads t
fate_of (Wrong l) k a = Stopped l k a

abbrev pub parsed : Fate → Parse
parsed (Reads t) = Whole t
parsed (Stopped l k a) = Wrong l

-- behind bytes that begin at place i of a line that starts at a: where the line starts in which one then is
unfoldable pub start_from : (a i : ℕ) → List ℕ → ℕ
start_from a i [] = a
start_from a i (b ∷ bs) = start_from (pick (eqb b 10) (i + 1) a) (i + 1) bs

unfoldable pub fate_from : State → List ℕ → (a i : ℕ) → Fate
fate_from σ bs a i = fate_of (finish (run σ bs)) (i + survived σ bs) (start_from a i (take (survived σ bs) bs))

-- of the text s from place i on, in a line that starts at a
abbrev pub fate : List ℕ → State → (a i : ℕ) → Fate
fate s σ a i = fate_from σ (drop i s) a i

one-behind : (i k : ℕ) → i + suc k ≡ i + 1 + k
one-behind i k = omega arith

-- a byte that is read, one that fails, and none
module _ (σ : State) (b : ℕ) (bs : List ℕ) (a i : ℕ) where
  fate_one : (τ : State) → step σ b ≡ τ → is_failed τ ≡ false → fate_from σ (b ∷ bs) a i ≡ fate_from τ bs (pick (eqb b 10) (i + 1) a) (i + 1)
  unfolding fate_from run survived start_from
  fate_one τ q f =
      let z : is_failed (step σ b) ≡ false = ap is_failed q ∙ f in
      let last : ℕ = start_from (pick (eqb b 10) (i + 1) a) (i + 1) (take (survived τ bs) bs) in
      rw (z, q) (ap (λ (k : ℕ). fate_of (finish (run τ bs)) k last) (one-behind i (survived τ bs)))

  fate_stop : (l : ℕ) → step σ b ≡ Failed l → fate_from σ (b ∷ bs) a i ≡ Stopped l i a
  unfolding fate_from run survived start_from finish
  fate_stop l q =
      let z : is_failed (step σ b) ≡ true = ap is_failed q in
      rw (z, q, run_failed l bs) (ap (λ (k : ℕ). Stopped l k a) (add-zero i))

  -- the state decides by its step alone
  fate_alike : (τ : State) → step σ b ≡ step τ b → fate_from σ (b ∷ bs) a i ≡ fate_from τ (b ∷ bs) a i
  unfolding fate_from run survived
  fate_alike τ q =
      ap (λ (ρ : State). let k = pick (is_failed ρ) 0 (suc (survived ρ bs)) in fate_of (finish (run ρ bs)) (i + k) (start_from a i (take k (b ∷ bs)))) q

fate_none : (σ : State) (a i : ℕ) → fate_from σ [] a i ≡ fate_of (finish σ) i a
unfolding fate_from run survived start_from
fate_none σ a i = ap (λ (k : ℕ). fate_of (finish σ) k a) (add-zero i)

-- A byte of the text -----------------------------------------------------------------------------------------------------------------------

module _ (s : List ℕ) (i b : ℕ) (bs : List ℕ) (e : drop i s ≡ b ∷ bs) where
  here : i < length s
  here = let l = length-drop i s in let m : length (drop i s) ≡ suc (length bs) = ap length e in omega arith

  both : get_or s i 0 ∷ drop (suc i) s ≡ b ∷ bs
  both = sym (drop-cons s i 0 here) ∙ e

  byte_here : get_or s i 0 ≡ b
  byte_here = let q = both in cc

  rest_here : drop (i + 1) s ≡ bs
  rest_here = let q = both in let r : drop (suc i) s ≡ bs = cc in ap (λ (k : ℕ). drop k s) (add-one i) ∙ r

module _ (σ : State) (s : List ℕ) (a i : ℕ) where
  fate_step : (τ : State) → i < length s → step σ (get_or s i 0) ≡ τ → is_failed τ ≡ false → fate s σ a i ≡ fate s τ (pick (eqb (get_or s i 0) 10) (i + 1) a) (i + 1)
  fate_step τ h q f =
      ap (λ (bs : List ℕ). fate_from σ bs a i) (drop-cons s i 0 h)
      ∙ fate_one σ (get_or s i 0) (drop (suc i) s) a i τ q f
      ∙ ap (λ (k : ℕ). fate_from τ (drop k s) (pick (eqb (get_or s i 0) 10) (i + 1) a) (i + 1)) (sym (add-one i))

  -- a byte within the line, and the LF that ends it
  fate_on : (τ : State) → i < length s → step σ (get_or s i 0) ≡ τ → is_failed τ ≡ false → eqb (get_or s i 0) 10 ≡ false → fate s σ a i ≡ fate s τ a (i + 1)
  fate_on τ h q f n = fate_step τ h q f ∙ ap (λ (c : Bool). fate s τ (pick c (i + 1) a) (i + 1)) n

  fate_line : (τ : State) → i < length s → step σ (get_or s i 0) ≡ τ → is_failed τ ≡ false → get_or s i 0 ≡ 10 → fate s σ a i ≡ fate s τ (i + 1) (i + 1)
  fate_line τ h q f e = fate_step τ h q f ∙ ap (λ (x : ℕ). fate s τ (pick (eqb x 10) (i + 1) a) (i + 1)) e

  fate_past : length s ≤ i → fate s σ a i ≡ fate_of (finish σ) i a
  fate_past h = ap (λ (bs : List ℕ). fate_from σ bs a i) (drop_of_length-le s h) ∙ fate_none σ a i

  -- the byte there can't stand there
  fate_wrong : (l : ℕ) → i < length s → step σ (get_or s i 0) ≡ Failed l → fate s σ a i ≡ Stopped l i a
  fate_wrong l h e = ap (λ (bs : List ℕ). fate_from σ bs a i) (drop-cons s i 0 h) ∙ fate_stop σ (get_or s i 0) (drop (suc i) s) a i l e

  -- wrong at the end of the text, and wrong within it
  wrong_both : (l : ℕ) → finish σ ≡ Wrong l → (i < length s → step σ (get_or s i 0) ≡ Failed l) → fate s σ a i ≡ Stopped l i a
  wrong_both l e f = go (ltb i (length s)) refl
    where
      go : (c : Bool) → ltb i (length s) ≡ c → fate s σ a i ≡ Stopped l i a
      go true q = let h = ltb-true i (length s) q in fate_wrong l h (f h)
      go false q = fate_past (ltb-false i (length s) q) ∙ ap (λ (P : Parse). fate_of P i a) e

-- Numbers ----------------------------------------------------------------------------------------------------------------------------------

-- of the text s, in the line that starts at a
module _ (s : List ℕ) (p : Place) (a : ℕ) where
  -- from σ at place i, the number that was found is passed; or the line is wrong where it stopped
  abbrev NumberRuns : State → (i stop : ℕ) → (Option ℕ) → Type 0
  NumberRuns σ i stop (Some v) = (fate s σ a i ≡ fate s (Within p v) a stop) × (10 ≤ digit_of (get_or s stop 0))
  NumberRuns σ i stop None = fate s σ a i ≡ Stopped (line_at p) stop a

  abbrev TokenRuns : State → (i : ℕ) → Token → Type 0
  TokenRuns σ i t = NumberRuns σ i t.stop t.found

  -- the same from one byte before
  runs_before : (σ τ : State) (i stop : ℕ) (F : (Option ℕ)) → fate s σ a i ≡ fate s τ a (i + 1) → NumberRuns τ (i + 1) stop F → NumberRuns σ i stop F
  runs_before σ τ i stop (Some v) e r = (e ∙ r.0, r.1)
  runs_before σ τ i stop None e r = e ∙ r

  -- a digit b of the number is at place i
  module _ (i b : ℕ) (bs : List ℕ) (e : drop i s ≡ b ∷ bs) (σ : State) where
    goes_on : (v : ℕ) → ltb (digit_of b) 10 ≡ true → step σ b ≡ Within p v → fate s σ a i ≡ fate s (Within p v) a (i + 1)
    goes_on v d q =
        fate_on σ s a i (Within p v) (here s i b bs e) (ap (step σ) (byte_here s i b bs e) ∙ q) refl
        (ap (λ (x : ℕ). eqb x 10) (byte_here s i b bs e) ∙ digit_stays b d)

    fails_here : step σ b ≡ Failed (line_at p) → fate s σ a i ≡ Stopped (line_at p) i a
    fails_here q = fate_wrong σ s a i (line_at p) (here s i b bs e) (ap (step σ) (byte_here s i b bs e) ∙ q)

  digits_run : (bs : List ℕ) (start i v : ℕ) → drop i s ≡ bs → TokenRuns (Within p v) i (digits_from bs start i (limit p) v)
  unfolding digits_from digit_of
  digits_run [] start i v e = (refl, ended_here)
    where
      ended_here : 10 ≤ digit_of (get_or s i 0)
      ended_here =
          let l = length-drop i s in
          let m : length (drop i s) ≡ 0 = ap length e in
          let q : digit_of (get_or s i 0) ≡ 10 = ap digit_of (get_or-eq_default s 0 (omega arith)) in
          omega arith
  digits_run (b ∷ bs) start i v e =
      let P : Token → Type 0 = TokenRuns (Within p v) i in
      let w = 10 * v + digit_of b in
      let T = digits_from bs start (i + 1) (limit p) w in
      pick_by P (ltb (digit_of b) 10) (λ d.
      pick_by P (ltb 0 v) (λ z.
      pick_by P (ltb w (limit p))
      (λ l. runs_before (Within p v) (Within p w) i T.stop T.found (goes_on i b bs e (Within p v) w d (more d z l))
      (digits_run bs start (i + 1) w (rest_here s i b bs e)))
      (λ l. fails_here i b bs e (Within p v) (over d z l)))
      (λ z. fails_here i b bs e (Within p v) (leading d z)))
      (λ d. (refl, rw (byte_here s i b bs e) (ltb-false _ _ d)))
    where
      more : ltb (digit_of b) 10 ≡ true → ltb 0 v ≡ true → ltb (10 * v + digit_of b) (limit p) ≡ true → step (Within p v) b ≡ Within p (10 * v + digit_of b)
      more d z l = unfold step grown in rw (d, z, l)

      over : ltb (digit_of b) 10 ≡ true → ltb 0 v ≡ true → ltb (10 * v + digit_of b) (limit p) ≡ false → step (Within p v) b ≡ Failed (line_at p)
      over d z l = unfold step grown in rw (d, z, l)

      leading : ltb (digit_of b) 10 ≡ true → ltb 0 v ≡ false → step (Within p v) b ≡ Failed (line_at p)
      leading d z = unfold step in rw (d, z)

  number_run_of : (bs : List ℕ) (i : ℕ) → drop i s ≡ bs → (bs ≡ [] → finish (First p) ≡ Wrong (line_at p)) → instead p (get_or s i 0) ≡ Failed (line_at p)
      → TokenRuns (First p) i (number_of bs i (limit p))
  unfolding number_of
  number_run_of [] i e f g = ap (λ (bs : List ℕ). fate_from (First p) bs a i) e ∙ fate_none (First p) a i ∙ ap (λ (P : Parse). fate_of P i a) (f refl)
  number_run_of (b ∷ bs) i e f g =
      let P : Token → Type 0 = TokenRuns (First p) i in
      let T = digits_from bs i (i + 1) (limit p) (digit_of b) in
      pick_by P (ltb (digit_of b) 10) (λ d.
      pick_by P (ltb (digit_of b) (limit p))
      (λ l. runs_before (First p) (Within p (digit_of b)) i T.stop T.found (goes_on i b bs e (First p) (digit_of b) d (one d l))
      (digits_run bs i (i + 1) (digit_of b) (rest_here s i b bs e)))
      (λ l. fails_here i b bs e (First p) (over d l)))
      (λ d. fails_here i b bs e (First p) (none d))
    where
      one : ltb (digit_of b) 10 ≡ true → ltb (digit_of b) (limit p) ≡ true → step (First p) b ≡ Within p (digit_of b)
      one d l = unfold step grown in rw (d, l)

      over : ltb (digit_of b) 10 ≡ true → ltb (digit_of b) (limit p) ≡ false → step (First p) b ≡ Failed (line_at p)
      over d l = unfold step grown in rw (d, l)

      none : ltb (digit_of b) 10 ≡ false → step (First p) b ≡ Failed (line_at p)
      none d = unfold step in rw d (ap (instead p) (sym (byte_here s i b bs e)) ∙ g)

  -- a number is looked for at place i, where nothing else may stand
  number_run : (i : ℕ) → (length s ≤ i → finish (First p) ≡ Wrong (line_at p)) → instead p (get_or s i 0) ≡ Failed (line_at p) → TokenRuns (First p) i (number_at s i (limit p))
  unfolding number_at
  number_run i f g = number_run_of (drop i s) i refl (λ e. f (let l = length-drop i s in let m : length (drop i s) ≡ 0 = ap length e in omega arith)) g

-- the byte behind a number
number_ended : (s : List ℕ) (p : Place) (v i : ℕ) → 10 ≤ digit_of (get_or s i 0) → step (Within p v) (get_or s i 0) ≡ ended p v (get_or s i 0)
unfolding step
number_ended s p v i d = rw (le-ltb (digit_of (get_or s i 0)) 10 d)

-- Lines ------------------------------------------------------------------------------------------------------------------------------------

-- σ stands at a place behind the own figure or the last of the parts xs
record Follows (t : Table) (h o k : ℕ) (xs : List ℕ) (σ : State) (s : List ℕ) (at : ℕ) : Type 0 where
  stops : finish σ ≡ Wrong (next_line t)
  steps : at < length s → step σ (get_or s at 0) ≡ after t h o k xs (get_or s at 0)

-- of a line that starts at a
module _ (s : List ℕ) (t : Table) (a : ℕ) where
  -- Own figures

  -- from σ, behind the head h, an own figure with its mark is passed; or the line is wrong where it stopped
  abbrev OwnRuns : State → (h at stop : ℕ) → FoundWeight → Type 0
  OwnRuns σ h at stop (Some (w, k)) =
      (fate s σ a at ≡ fate s (Within (Own t h k.0) w.0) a stop) × Follows t h w.0 k.0 [] (Within (Own t h k.0) w.0) s stop
  OwnRuns σ h at stop None = fate s σ a at ≡ Stopped (next_line t) stop a

  -- the same from one byte before
  own_before : (σ τ : State) (h at next stop : ℕ) (F : FoundWeight) → fate s σ a at ≡ fate s τ a next → OwnRuns τ h next stop F → OwnRuns σ h at stop F
  own_before σ τ h at next stop (Some (w, k)) e r = (e ∙ r.0, r.1)
  own_before σ τ h at next stop None e r = e ∙ r

  own_number : (h k at stop : ℕ) (F : (Option ℕ)) → NumberRuns s (Own t h k) a (First (Own t h k)) at stop F → OwnRuns (First (Own t h k)) h at stop (as_weight (record { 0 = k }) F)
  unfolding finish line_at ended
  own_number h k at stop (Some v) r = (r.0, record { stops = refl; steps = λ l. number_ended s (Own t h k) v stop r.1 })
  own_number h k at stop None r = r

  own_run : (h at : ℕ) → let t' = weight_at s at in OwnRuns (First (Own t h standing)) h at t'.stop t'.found
  unfolding weight_at
  own_run h at =
      let S = number_at s (at + 1) (greatest + 1) in
      pick_by (λ (t' : WeightToken). OwnRuns (First (Own t h standing)) h at t'.stop t'.found) (eqb (get_or s at 0) 45)
      (λ e. own_before (First (Own t h standing)) (First (Own t h struck_mark)) h at (at + 1) S.stop (as_weight (record { 0 = struck_mark }) S.found) (dashed (eqb-true _ _ e)) struck)
      (λ e. unstruck e)
    where
      dash : step (First (Own t h standing)) 45 ≡ First (Own t h struck_mark)
      dash = unfold step instead digit_of in refl

      dashed : get_or s at 0 ≡ 45 → fate s (First (Own t h standing)) a at ≡ fate s (First (Own t h struck_mark)) a (at + 1)
      dashed e =
          fate_on (First (Own t h standing)) s a at (First (Own t h struck_mark)) (byte_within s at 45 e (omega arith))
          (ap (step (First (Own t h standing))) e ∙ dash) refl (ap (λ (x : ℕ). eqb x 10) e)

      struck : let S = number_at s (at + 1) (greatest + 1) in OwnRuns (First (Own t h struck_mark)) h (at + 1) S.stop (as_weight (record { 0 = struck_mark }) S.found)
      struck =
          let S = number_at s (at + 1) (greatest + 1) in
          own_number h struck_mark (at + 1) S.stop S.found
          (unfold limit finish instead line_at in number_run s (Own t h struck_mark) a (at + 1) (λ l. refl) refl)

      unstruck : eqb (get_or s at 0) 45 ≡ false
          → let S = number_at s at (greatest + 1) in OwnRuns (First (Own t h standing)) h at S.stop (as_weight (record { 0 = standing }) S.found)
      unstruck e =
          let S = number_at s at (greatest + 1) in
          own_number h standing at S.stop S.found
          (unfold limit finish instead line_at in number_run s (Own t h standing) a at (λ l. refl) (rw e))

  -- Listed parts

  abbrev ListRuns : (h o k : ℕ) → State → ℕ → Listing → Type 0
  ListRuns h o k σ at (Ends ys next) = fate s σ a at ≡ fate s (First (Head (with_edge t (edge h o k ys)))) next next
  ListRuns h o k σ at (Breaks ys place) = fate s σ a at ≡ Stopped (next_line t) place a

  -- the same from one part before
  runs_on : (h o k : ℕ) (σ τ : State) (at next : ℕ) (L : Listing) → fate s σ a at ≡ fate s τ a next → ListRuns h o k τ next L → ListRuns h o k σ at L
  runs_on h o k σ τ at next (Ends ys j) e r = e ∙ r
  runs_on h o k σ τ at next (Breaks ys place) e r = e ∙ r

  module _ (h o k : ℕ) where
    module _ (at : ℕ) (xs : List ℕ) (σ : State) (f : Follows t h o k xs σ s at) where
      -- the byte there, and what stands behind it
      followed : (b : ℕ) (τ : State) → get_or s at 0 ≡ b → 0 < b → after t h o k xs b ≡ τ → step σ (get_or s at 0) ≡ τ
      followed b τ e p q = f.steps (byte_within s at b e p) ∙ ap (after t h o k xs) e ∙ q

      no_more : get_or s at 0 ≡ 32 → may_list t ≤ length xs → fate s σ a at ≡ Stopped (next_line t) at a
      unfolding after
      no_more e l =
          fate_wrong σ s a at (next_line t) (byte_within s at 32 e (omega arith)) (followed 32 (Failed (next_line t)) e (omega arith) (rw (le-ltb (length xs) (may_list t) l)))

      one_more : get_or s at 0 ≡ 32 → length xs < may_list t → fate s σ a at ≡ fate s (First (Listed t h o k xs)) a (at + 1)
      unfolding after
      one_more e l =
          fate_on σ s a at (First (Listed t h o k xs)) (byte_within s at 32 e (omega arith))
          (followed 32 (First (Listed t h o k xs)) e (omega arith) (rw (lt-ltb (length xs) (may_list t) l))) refl (ap (λ (x : ℕ). eqb x 10) e)

      list_end_lem : eqb (get_or s at 0) 32 ≡ false → ListRuns h o k σ at (list_end s at xs)
      list_end_lem n = pick_by (ListRuns h o k σ at) (eqb (get_or s at 0) 10) (λ e. ended_here (eqb-true _ _ e)) (λ e. wrong_both σ s a at (next_line t) f.stops (λ l. f.steps l ∙ broken e))
        where
          last : after t h o k xs 10 ≡ First (Head (with_edge t (edge h o k xs)))
          last = unfold after in refl

          ended_here : get_or s at 0 ≡ 10 → fate s σ a at ≡ fate s (First (Head (with_edge t (edge h o k xs)))) (at + 1) (at + 1)
          ended_here e =
              let τ = First (Head (with_edge t (edge h o k xs))) in
              fate_line σ s a at τ (byte_within s at 10 e (omega arith)) (followed 10 τ e (omega arith) last) refl e

          broken : eqb (get_or s at 0) 10 ≡ false → after t h o k xs (get_or s at 0) ≡ Failed (next_line t)
          broken e = unfold after in rw (n, e)

    -- behind the number v of the list
    follows_listed : (xs : List ℕ) (v next : ℕ) → 10 ≤ digit_of (get_or s next 0) → Follows t h o k (xs ++ v ∷ []) (Within (Listed t h o k xs) v) s next
    unfolding finish line_at ended
    follows_listed xs v next d = record { stops = refl; steps = λ l. number_ended s (Listed t h o k xs) v next d }

    listed_number : (at : ℕ) (xs : List ℕ) → TokenRuns s (Listed t h o k xs) a (First (Listed t h o k xs)) at (number_at s at t.vertices)
    unfolding limit finish instead line_at
    listed_number at xs = number_run s (Listed t h o k xs) a at (λ l. refl) refl

    vertex_run : (at : ℕ) (xs : List ℕ) (stop : ℕ) (F : (Option ℕ)) (more : List ℕ → ℕ → Listing) → NumberRuns s (Listed t h o k xs) a (First (Listed t h o k xs)) at stop F
        → ((v next : ℕ) → Follows t h o k (xs ++ v ∷ []) (Within (Listed t h o k xs) v) s next → ListRuns h o k (Within (Listed t h o k xs) v) next (more (xs ++ v ∷ []) next))
        → ListRuns h o k (First (Listed t h o k xs)) at (on_vertex xs stop F more)
    unfolding line_at
    vertex_run at xs stop (Some v) more r go =
        runs_on h o k (First (Listed t h o k xs)) (Within (Listed t h o k xs) v) at stop (more (xs ++ v ∷ []) stop) r.0 (go v stop (follows_listed xs v stop r.1))
    vertex_run at xs stop None more r go = r

    listing_run : (left at : ℕ) (xs : List ℕ) (σ : State) → Follows t h o k xs σ s at → left + length xs ≡ may_list t → ListRuns h o k σ at (listed_from left s t.vertices at xs)
    unfolding listed_from
    listing_run zero at xs σ f l =
        pick_by (ListRuns h o k σ at) (eqb (get_or s at 0) 32) (λ e. no_more at xs σ f (eqb-true _ _ e) (omega arith)) (list_end_lem at xs σ f)
    listing_run (suc left) at xs σ f l =
        let more : List ℕ → ℕ → Listing = λ ys next. listed_from left s t.vertices next ys in
        let T = number_at s (at + 1) t.vertices in
        pick_by (ListRuns h o k σ at) (eqb (get_or s at 0) 32)
        (λ e. runs_on h o k σ (First (Listed t h o k xs)) at (at + 1) (on_listed xs T more) (one_more at xs σ f (eqb-true _ _ e) (omega arith))
        (vertex_run (at + 1) xs T.stop T.found more (listed_number (at + 1) xs)
        (λ v next g. listing_run left next (xs ++ v ∷ []) (Within (Listed t h o k xs) v) g (let n = length-append xs (v ∷ []) in omega arith))))
        (list_end_lem at xs σ f)

  -- Whole lines

  abbrev pub RowRuns : State → ℕ → Row → Type 0
  RowRuns σ at (Holds e next) = fate s σ a at ≡ fate s (First (Head (with_edge t e))) next next
  RowRuns σ at (Fails xs place) = fate s σ a at ≡ Stopped (next_line t) place a

  row_on : (σ τ : State) (at next : ℕ) (R : Row) → fate s σ a at ≡ fate s τ a next → RowRuns τ next R → RowRuns σ at R
  row_on σ τ at next (Holds e j) q r = q ∙ r
  row_on σ τ at next (Fails xs place) q r = q ∙ r

  row_listed : (h o k at : ℕ) (σ : State) (L : Listing) → ListRuns h o k σ at L → RowRuns σ at (on_listing (record { 0 = h }) (record { 0 = o }) (record { 0 = k }) L)
  row_listed h o k at σ (Ends ys next) r = r
  row_listed h o k at σ (Breaks ys place) r = r

  row_own : (σ : State) (h at stop : ℕ) (F : FoundWeight) → OwnRuns σ h at stop F → RowRuns σ at (on_stem s t.vertices (may_list t) (on_own h stop F))
  row_own σ h at stop (Some (w, k)) r =
      let L = listed_from (may_list t) s t.vertices stop [] in
      let τ = Within (Own t h k.0) w.0 in
      row_on σ τ at stop (on_listing (record { 0 = h }) w k L) r.0
      (row_listed h w.0 k.0 stop τ L (listing_run h w.0 k.0 (may_list t) stop [] τ r.1 (omega arith)))
  row_own σ h at stop None r = r

  row_head : (at stop : ℕ) (F : (Option ℕ)) → NumberRuns s (Head t) a (First (Head t)) at stop F → RowRuns (First (Head t)) at (on_stem s t.vertices (may_list t) (on_head s stop F))
  row_head at stop (Some h) r = row_on (First (Head t)) (Within (Head t) h) at stop (on_stem s t.vertices (may_list t) (on_head s stop (Some h))) r.0 behind
    where
      space : ended (Head t) h 32 ≡ First (Own t h standing)
      space = unfold ended in refl

      spaced_own : get_or s stop 0 ≡ 32 → fate s (Within (Head t) h) a stop ≡ fate s (First (Own t h standing)) a (stop + 1)
      spaced_own e =
          fate_on (Within (Head t) h) s a stop (First (Own t h standing)) (byte_within s stop 32 e (omega arith))
          (number_ended s (Head t) h stop r.1 ∙ ap (ended (Head t) h) e ∙ space) refl (ap (λ (x : ℕ). eqb x 10) e)

      unspaced : eqb (get_or s stop 0) 32 ≡ false → fate s (Within (Head t) h) a stop ≡ Stopped (next_line t) stop a
      unspaced e = wrong_both (Within (Head t) h) s a stop (next_line t) (unfold finish line_at in refl) (λ l. number_ended s (Head t) h stop r.1 ∙ (unfold ended in rw e))

      behind : RowRuns (Within (Head t) h) stop (on_stem s t.vertices (may_list t) (on_head s stop (Some h)))
      behind =
          let W = weight_at s (stop + 1) in
          pick_by (λ (S : Stalk). RowRuns (Within (Head t) h) stop (on_stem s t.vertices (may_list t) S)) (eqb (get_or s stop 0) 32)
          (λ e. row_on (Within (Head t) h) (First (Own t h standing)) stop (stop + 1) (on_stem s t.vertices (may_list t) (on_owned h W))
          (spaced_own (eqb-true _ _ e)) (row_own (First (Own t h standing)) h (stop + 1) W.stop W.found (own_run h (stop + 1))))
          unspaced
  row_head at stop None r = unfold line_at in r

module _ (s : List ℕ) (t : Table) where
  pub row_run : (at : ℕ) → at < length s → length t.edges < most_edges → RowRuns s t at (First (Head t)) at (row_at s t.vertices (may_list t) at)
  unfolding row_at stem_at
  row_run at h l =
      let q : limit (Head t) ≡ t.vertices = unfold limit in rw (lt-ltb (length t.edges) most_edges l) in
      let T = number_at s at t.vertices in
      row_head s t at at T.stop T.found
      (subst (λ (k : ℕ). TokenRuns s (Head t) at (First (Head t)) at (number_at s at k)) q (number_run s (Head t) at at (λ g. absurd (past g)) (unfold instead line_at in refl)))
    where
      past : length s ≤ at → ⊥
      past g = omega arith

  -- no line more: its first byte fails
  pub row_over : (at : ℕ) → at < length s → most_edges ≤ length t.edges → fate s (First (Head t)) at at ≡ Stopped (next_line t) at at
  row_over at h l = fate_wrong (First (Head t)) s at at (next_line t) h (go (ltb (digit_of (get_or s at 0)) 10) refl)
    where
      none : limit (Head t) ≡ 0
      none = unfold limit in rw (le-ltb (length t.edges) most_edges l)

      over : (d : ℕ) → grown (Head t) d ≡ Failed (next_line t)
      over d = unfold grown line_at in ap (λ (k : ℕ). pick (ltb d k) (Within (Head t) d) (Failed (next_line t))) none ∙ rw (le-ltb d 0 (omega arith))

      go : (c : Bool) → ltb (digit_of (get_or s at 0)) 10 ≡ c → step (First (Head t)) (get_or s at 0) ≡ Failed (next_line t)
      go true d = unfold step in rw d (over (digit_of (get_or s at 0)))
      go false d = unfold step instead in rw d

-- The text -----------------------------------------------------------------------------------------------------------------------------------

module _ (s : List ℕ) where
  on_row_lem : (t : Table) (at : ℕ) (R : Row) (more : Table → ℕ → Parse) → RowRuns s t at (First (Head t)) at R
      → ((u : Table) (next : ℕ) → length u.edges ≡ length t.edges + 1 → more u next ≡ parsed (fate s (First (Head u)) next next))
      → on_row t R more ≡ parsed (fate s (First (Head t)) at at)
  on_row_lem t at (Holds e next) more r k = k (with_edge t e) next (length-append t.edges (e ∷ [])) ∙ sym (ap parsed r)
  on_row_lem t at (Fails xs place) more r k = sym (ap parsed r)

  text_ends : (t : Table) (at : ℕ) → length s ≤ at → Whole t ≡ parsed (fate s (First (Head t)) at at)
  unfolding finish
  text_ends t at h = sym (ap parsed (fate_past (First (Head t)) s at at h))

  scan-run : (left at : ℕ) (t : Table) → left + length t.edges ≡ most_edges → scan_from left s at t ≡ parsed (fate s (First (Head t)) at at)
  unfolding scan_from
  scan-run zero at t l =
      pick_by (λ (P : Parse). P ≡ parsed (fate s (First (Head t)) at at)) (ltb at (length s))
      (λ e. sym (ap parsed (row_over s t at (ltb-true _ _ e) (omega arith)))) (λ e. text_ends t at (ltb-false _ _ e))
  scan-run (suc left) at t l =
      let more : Table → ℕ → Parse = λ u next. scan_from left s next u in
      pick_by (λ (P : Parse). P ≡ parsed (fate s (First (Head t)) at at)) (ltb at (length s))
      (λ e. on_row_lem t at (row_at s t.vertices (may_list t) at) more (row_run s t at (ltb-true _ _ e) (omega arith)) (λ u next q. scan-run left next u (omega arith)))
      (λ e. text_ends t at (ltb-false _ _ e))

-- a word of which so many bytes stand there: the first that differs fails, or the word is passed
spell_stops : (w : ℕ) (ws : List ℕ) (p : Place) (bs : List ℕ) (a i : ℕ) → let k = agreeing (w ∷ ws) bs in
    k < length (w ∷ ws) → fate_from (Spelling (w ∷ ws) p) bs a i ≡ Stopped 1 (i + k) (start_from a i (take k (w ∷ ws)))
unfolding agreeing start_from
spell_stops w ws p [] a i = λ h. fate_none (Spelling (w ∷ ws) p) a i ∙ (unfold finish in ap (λ (k : ℕ). Stopped 1 k a) (sym (add-zero i)))
spell_stops w [] p (b ∷ bs) a i =
    pick_by (λ (k : ℕ). k < 1 → fate_from (Spelling (w ∷ []) p) (b ∷ bs) a i ≡ Stopped 1 (i + k) (start_from a i (take k (w ∷ [])))) (eqb b w)
    (λ e h. absurd (omega arith))
    (λ e h. fate_stop (Spelling (w ∷ []) p) b bs a i 1 (unfold step spell in rw e) ∙ ap (λ (k : ℕ). Stopped 1 k a) (sym (add-zero i)))
spell_stops w (v ∷ ws) p (b ∷ bs) a i =
    pick_by (λ (k : ℕ). k < length (w ∷ v ∷ ws) → fate_from (Spelling (w ∷ v ∷ ws) p) (b ∷ bs) a i ≡ Stopped 1 (i + k) (start_from a i (take k (w ∷ v ∷ ws)))) (eqb b w)
    (λ e h.
    let k = agreeing (v ∷ ws) bs in
    fate_one (Spelling (w ∷ v ∷ ws) p) b bs a i (Spelling (v ∷ ws) p) (unfold step spell in rw e) refl
    ∙ spell_stops v ws p bs (pick (eqb b 10) (i + 1) a) (i + 1) (omega arith)
    ∙ ap₂ (λ (j x : ℕ). Stopped 1 j (start_from (pick (eqb x 10) (i + 1) a) (i + 1) (take k (v ∷ ws)))) (sym (one-behind i k)) (eqb-true b w e))
    (λ e h. fate_stop (Spelling (w ∷ v ∷ ws) p) b bs a i 1 (unfold step spell in rw e) ∙ ap (λ (k : ℕ). Stopped 1 k a) (sym (add-zero i)))

spell_passes : (w : ℕ) (ws : List ℕ) (p : Place) (bs : List ℕ) (a i : ℕ) → length (w ∷ ws) ≤ agreeing (w ∷ ws) bs
    → fate_from (Spelling (w ∷ ws) p) bs a i ≡ fate_from (First p) (drop (length (w ∷ ws)) bs) (start_from a i (w ∷ ws)) (i + length (w ∷ ws))
unfolding agreeing start_from
spell_passes w ws p [] a i = λ h. absurd (omega arith)
spell_passes w [] p (b ∷ bs) a i =
    pick_by (λ (k : ℕ). 1 ≤ k → fate_from (Spelling (w ∷ []) p) (b ∷ bs) a i ≡ fate_from (First p) bs (pick (eqb w 10) (i + 1) a) (i + 1)) (eqb b w)
    (λ e h.
    fate_one (Spelling (w ∷ []) p) b bs a i (First p) (unfold step spell in rw e) refl
    ∙ ap (λ (x : ℕ). fate_from (First p) bs (pick (eqb x 10) (i + 1) a) (i + 1)) (eqb-true b w e))
    (λ e h. absurd (omega arith))
spell_passes w (v ∷ ws) p (b ∷ bs) a i =
    let n = length (v ∷ ws) in
    pick_by (λ (k : ℕ). suc n ≤ k → fate_from (Spelling (w ∷ v ∷ ws) p) (b ∷ bs) a i
    ≡ fate_from (First p) (drop n bs) (start_from (pick (eqb w 10) (i + 1) a) (i + 1) (v ∷ ws)) (i + suc n)) (eqb b w)
    (λ e h.
    fate_one (Spelling (w ∷ v ∷ ws) p) b bs a i (Spelling (v ∷ ws) p) (unfold step spell in rw e) refl
    ∙ spell_passes v ws p bs (pick (eqb b 10) (i + 1) a) (i + 1) (omega arith)
    ∙ ap₂ (λ (j x : ℕ). fate_from (First p) (drop n bs) (start_from (pick (eqb x 10) (i + 1) a) (i + 1) (v ∷ ws)) j) (sym (one-behind i n)) (eqb-true b w e))
    (λ e h. absurd (omega arith))

pub from_start : (k : ℕ) → 0 + k ≡ k
from_start k = omega arith

-- no LF stands in a word before its last byte, and behind one that ends the first line a line starts
in_word : (ws : List ℕ) (p : Place) → Spells ws p → (a i k : ℕ) → k < length ws → start_from a i (take k ws) ≡ a
unfolding start_from
in_word [] p s a i k h = absurd s
in_word (w ∷ []) p s a i zero h = refl
in_word (w ∷ []) p s a i (suc k) h = absurd (omega arith)
in_word (w ∷ v ∷ ws) p s a i zero h = refl
in_word (w ∷ v ∷ ws) p s a i (suc k) h =
    ap (λ (c : Bool). start_from (pick c (i + 1) a) (i + 1) (take k (v ∷ ws))) (ne_eqb w 10 s.0) ∙ in_word (v ∷ ws) p s.1 a (i + 1) k (omega arith)

behind-word : (ws : List ℕ) (t : Table) → Spells ws (Head t) → (a i : ℕ) → start_from a i ws ≡ i + length ws
unfolding start_from
behind-word [] t s a i = absurd s
behind-word (w ∷ []) t s a i = ap (λ (c : Bool). pick c (i + 1) a) (eq-eqb w 10 s.0)
behind-word (w ∷ v ∷ ws) t s a i = behind-word (v ∷ ws) t s.1 (pick (eqb w 10) (i + 1) a) (i + 1) ∙ sym (one-behind i (length (v ∷ ws)))

module _ (s : List ℕ) where
  abbrev pub FirstRuns : State → ℕ → Opening → Type 0
  FirstRuns σ at (Opens n m start) = fate s σ 0 at ≡ fate s (First (Head (begun n m))) start start
  FirstRuns σ at (Unopened place) = fate s σ 0 at ≡ Stopped 1 place 0

  first_on : (σ τ : State) (at next : ℕ) (F : Opening) → fate s σ 0 at ≡ fate s τ 0 next → FirstRuns τ next F → FirstRuns σ at F
  first_on σ τ at next (Opens n m start) e r = e ∙ r
  first_on σ τ at next (Unopened place) e r = e ∙ r

  -- a word that names a measure fails at the first byte that differs, or is passed
  word-run : (n : ℕ) (m : Measure) (w : ℕ) (ws : List ℕ) (at : ℕ) → Spells (w ∷ ws) (Head (begun n m))
      → FirstRuns (Spelling (w ∷ ws) (Head (begun n m))) at (on_word n m at (w ∷ ws) (agreeing (w ∷ ws) (drop at s)))
  word-run n m w ws at S =
      let p = Head (begun n m) in
      let k = agreeing (w ∷ ws) (drop at s) in
      let z = length (w ∷ ws) in
      pick_by (FirstRuns (Spelling (w ∷ ws) p) at) (ltb k z)
      (λ l. spell_stops w ws p (drop at s) 0 at (ltb-true _ _ l) ∙ ap (Stopped 1 (at + k)) (in_word (w ∷ ws) p S 0 at k (ltb-true _ _ l)))
      (λ l. spell_passes w ws p (drop at s) 0 at (ltb-false _ _ l)
      ∙ ap₂ (λ (bs : List ℕ) (j : ℕ). fate_from (First p) bs j (at + z)) (drop-drop z at s) (behind-word (w ∷ ws) (begun n m) S 0 at))

  module _ (n next : ℕ) (d : 10 ≤ digit_of (get_or s next 0)) where
    silent_run : get_or s next 0 ≡ 10 → fate s (Within Vertices n) 0 next ≡ fate s (First (Head (begun n Days))) (next + 1) (next + 1)
    silent_run e =
        let q : ended Vertices n 10 ≡ First (Head (begun n Days)) = unfold ended in refl in
        fate_line (Within Vertices n) s 0 next (First (Head (begun n Days))) (byte_within s next 10 e (omega arith))
        (number_ended s Vertices n next d ∙ ap (ended Vertices n) e ∙ q) refl e

    unspaced_run : eqb (get_or s next 0) 10 ≡ false → eqb (get_or s next 0) 32 ≡ false → fate s (Within Vertices n) 0 next ≡ Stopped 1 next 0
    unspaced_run e f = wrong_both (Within Vertices n) s 0 next 1 (unfold finish line_at in refl) (λ l. number_ended s Vertices n next d ∙ (unfold ended in rw (e, f)))

    -- behind the space a word begins; where the letter there decides it, it is as if it had been spelled from the space on
    module _ (e : get_or s next 0 ≡ 32) where
      spaced : next < length s
      spaced = byte_within s next 32 e (omega arith)

      module _ (m : Measure) (w : ℕ) (ws : List ℕ) (letter : step (Naming n) (get_or s (next + 1) 0) ≡ step (Spelling (w ∷ ws) (Head (begun n m))) (get_or s (next + 1) 0)) where
        alike : fate s (Naming n) 0 (next + 1) ≡ fate s (Spelling (w ∷ ws) (Head (begun n m))) 0 (next + 1)
        alike = go (ltb (next + 1) (length s)) refl
          where
            inside : next + 1 < length s → fate s (Naming n) 0 (next + 1) ≡ fate s (Spelling (w ∷ ws) (Head (begun n m))) 0 (next + 1)
            inside h =
                let c = drop-cons s (next + 1) 0 h in
                ap (λ (bs : List ℕ). fate_from (Naming n) bs 0 (next + 1)) c
                ∙ fate_alike (Naming n) (get_or s (next + 1) 0) (drop (suc (next + 1)) s) 0 (next + 1) (Spelling (w ∷ ws) (Head (begun n m))) letter
                ∙ sym (ap (λ (bs : List ℕ). fate_from (Spelling (w ∷ ws) (Head (begun n m))) bs 0 (next + 1)) c)

            go : (c : Bool) → ltb (next + 1) (length s) ≡ c → fate s (Naming n) 0 (next + 1) ≡ fate s (Spelling (w ∷ ws) (Head (begun n m))) 0 (next + 1)
            go true q = inside (ltb-true _ _ q)
            go false q =
                let l = ltb-false _ _ q in
                let z : finish (Naming n) ≡ finish (Spelling (w ∷ ws) (Head (begun n m))) = unfold finish in refl in
                fate_past (Naming n) s 0 (next + 1) l ∙ ap (λ (P : Parse). fate_of P (next + 1) 0) z ∙ sym (fate_past (Spelling (w ∷ ws) (Head (begun n m))) s 0 (next + 1) l)

        spelled : fate s (Within Vertices n) 0 next ≡ fate s (Spelling (32 ∷ w ∷ ws) (Head (begun n m))) 0 next
        spelled =
            let p = Head (begun n m) in
            let named_here : ended Vertices n 32 ≡ Naming n = unfold ended in refl in
            let no_end = ap (λ (x : ℕ). eqb x 10) e in
            fate_on (Within Vertices n) s 0 next (Naming n) spaced (number_ended s Vertices n next d ∙ ap (ended Vertices n) e ∙ named_here) refl no_end
            ∙ alike
            ∙ sym (fate_on (Spelling (32 ∷ w ∷ ws) p) s 0 next (Spelling (w ∷ ws) p) spaced (unfold step spell in rw e) refl no_end)

      named-run : (m : Measure) (w : ℕ) (ws : List ℕ) → measure_text m ≡ 32 ∷ w ∷ ws → Spells (measure_text m) (Head (begun n m))
          → step (Naming n) (get_or s (next + 1) 0) ≡ step (Spelling (w ∷ ws) (Head (begun n m))) (get_or s (next + 1) 0) → FirstRuns (Within Vertices n) next (on_named s n m next)
      named-run m w ws q S l =
          let r = word-run n m 32 (w ∷ ws) next (subst (λ (z : List ℕ). Spells z (Head (begun n m))) q S) in
          subst (λ (z : List ℕ). FirstRuns (Within Vertices n) next (on_word n m next z (agreeing z (drop next s)))) (sym q)
          (first_on (Within Vertices n) (Spelling (32 ∷ w ∷ ws) (Head (begun n m))) next next (on_word n m next (32 ∷ w ∷ ws) (agreeing (32 ∷ w ∷ ws) (drop next s))) (spelled m w ws l) r)

      cost_run : eqb (get_or s (next + 1) 0) 99 ≡ true → FirstRuns (Within Vertices n) next (on_named s n Cost next)
      cost_run l = named-run Cost 99 (111 ∷ 115 ∷ 116 ∷ 10 ∷ []) (unfold measure_text word in refl) (word_spells Cost n) (unfold step named in rw l)

      grade_run : eqb (get_or s (next + 1) 0) 99 ≡ false → FirstRuns (Within Vertices n) next (on_named s n Grade next)
      grade_run l = named-run Grade 103 (114 ∷ 97 ∷ 100 ∷ 101 ∷ 10 ∷ []) (unfold measure_text word in refl) (word_spells Grade n) (unfold step named in rw l)

    count_run : FirstRuns (Within Vertices n) next (on_count s next (Some n))
    count_run =
        pick_by (FirstRuns (Within Vertices n) next) (eqb (get_or s next 0) 10) (λ e. silent_run (eqb-true _ _ e)) (λ f.
        pick_by (FirstRuns (Within Vertices n) next) (eqb (get_or s next 0) 32)
        (λ e. pick_by (FirstRuns (Within Vertices n) next) (eqb (get_or s (next + 1) 0) 99) (cost_run (eqb-true _ _ e)) (grade_run (eqb-true _ _ e)))
        (unspaced_run f))

  counted_run : (at stop : ℕ) (F : (Option ℕ)) → NumberRuns s Vertices 0 (First Vertices) at stop F → FirstRuns (First Vertices) at (on_count s stop F)
  counted_run at stop (Some n) r = first_on (First Vertices) (Within Vertices n) at stop (on_count s stop (Some n)) r.0 (count_run n stop r.1)
  counted_run at stop None r = unfold line_at in r

  pub first_run : FirstRuns begin 0 (first_line s)
  unfolding first_line first_word
  first_run =
      let K = agreeing first_word s in
      let T = number_at s 6 (most_vertices + 1) in
      pick_by (FirstRuns begin 0) (ltb K 6)
      (λ l. spell_stops 112 (97 ∷ 114 ∷ 116 ∷ 115 ∷ 32 ∷ []) Vertices s 0 0 (ltb-true _ _ l) ∙ ap₂ (Stopped 1) (from_start K) (in_word first_word Vertices begin_reached.2 0 0 K (ltb-true _ _ l)))
      (λ l. first_on begin (First Vertices) 0 6 (on_counted s T)
      (unfold start_from in spell_passes 112 (97 ∷ 114 ∷ 116 ∷ 115 ∷ 32 ∷ []) Vertices s 0 0 (ltb-false _ _ l))
      (counted_run 6 T.stop T.found (unfold limit finish instead line_at in number_run s Vertices 0 6 (λ g. refl) refl)))

  scan_first : (F : Opening) → FirstRuns begin 0 F → on_first s F ≡ parsed (fate s begin 0 0)
  scan_first (Opens n m start) r = scan-run s most_edges start (begun n m) (omega arith) ∙ sym (ap parsed r)
  scan_first (Unopened place) r = sym (ap parsed r)

  parsed_of : (P : Parse) (k a : ℕ) → parsed (fate_of P k a) ≡ P
  parsed_of (Whole t) k a = refl
  parsed_of (Wrong l) k a = refl

  pub scan_is_parse : scan s ≡ parse s
  unfolding scan parse fate_from
  scan_is_parse = scan_first (first_line s) first_run ∙ parsed_of (parse s) _ _

-- The column ---------------------------------------------------------------------------------------------------------------------------------

-- the start of the line is not behind the bytes, and the column counts from it
abbrev Counted : (a i : ℕ) → List ℕ → Type 0
Counted a i bs = (start_from a i bs ≤ i + length bs) × (i + length bs - start_from a i bs + 1 ≡ column_from (i - a + 1) bs)

one_counted : (a i b : ℕ) (bs : List ℕ) → a ≤ i → ((c j : ℕ) → c ≤ j → Counted c j bs) → Counted a i (b ∷ bs)
unfolding start_from column_from
one_counted a i b bs h rec = go (eqb b 10)
  where
    go : (c : Bool) → let x = start_from (pick c (i + 1) a) (i + 1) bs in
        (x ≤ i + suc (length bs)) × (i + suc (length bs) - x + 1 ≡ column_from (pick c 1 (suc (i - a + 1))) bs)
    go true =
        let r = rec (i + 1) (i + 1) (omega arith) in
        let l = r.0 in
        let q : i + suc (length bs) ≡ i + 1 + length bs = omega arith in
        let c : i + 1 - (i + 1) + 1 ≡ 1 = omega arith in
        (omega arith, ap (λ (k : ℕ). k - start_from (i + 1) (i + 1) bs + 1) q ∙ r.1 ∙ ap (λ (k : ℕ). column_from k bs) c)
    go false =
        let r = rec a (i + 1) (omega arith) in
        let l = r.0 in
        let q : i + suc (length bs) ≡ i + 1 + length bs = omega arith in
        let c : i + 1 - a + 1 ≡ suc (i - a + 1) = omega arith in
        (omega arith, ap (λ (k : ℕ). k - start_from a (i + 1) bs + 1) q ∙ r.1 ∙ ap (λ (k : ℕ). column_from k bs) c)

counts_column : (bs : List ℕ) (a i : ℕ) → a ≤ i → Counted a i bs
unfolding start_from column_from
counts_column [] a i h = (omega arith, omega arith)
counts_column (b ∷ bs) a i h = one_counted a i b bs h (λ c j g. counts_column bs c j g)

-- what a text that is stopped at is refused with
pub record Refuses (s : List ℕ) (line place start : ℕ) : Type 0 where
  pub wrong : parse s ≡ Wrong line
  pub column : place - start + 1 ≡ column_of s
  pub behind_start : start ≤ place
  pub inside : place ≤ length s

stopped_by : (P : Parse) (k a l k' a' : ℕ) → fate_of P k a ≡ Stopped l k' a' → (P ≡ Wrong l) × (k ≡ k') × (a ≡ a')
stopped_by (Whole t) k a l k' a' e = absurd (let z : ◌≡◌ {A = ℕ} 0 1 = cc in omega arith)
stopped_by (Wrong m) k a l k' a' e = let q : m ≡ l = cc in (ap Wrong q, cc, cc)

pub stopped : (s : List ℕ) (l k a : ℕ) → fate s begin 0 0 ≡ Stopped l k a → Refuses s l k a
unfolding fate_from parse column_of
stopped s l k a e =
    let K = failing_at s in
    let r = stopped_by (finish (run begin s)) (0 + K) (start_from 0 0 (take K s)) l k a e in
    let m : length (take K s) ≡ K = length-take-le K s (survived_inside begin s) in
    let c = counts_column (take K s) 0 0 (omega arith) in
    let b = c.0 in
    let x = r.1 in
    let y = r.2 in
    let i = survived_inside begin s in
    record {
      wrong = r.0;
      column = ap₂ (λ (j z : ℕ). j - z + 1) (let q : k ≡ 0 + length (take K s) = omega arith in q) (sym y) ∙ c.1;
      behind_start = omega arith;
      inside = omega arith;
    }
