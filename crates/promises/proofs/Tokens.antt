-- What the reading of a number, of an own figure, of a separator and of a text's first line finds: what stands there, and nothing else. And where that of an own figure stops:
-- where that of its number does. Assumes nothing.
use mathlib.Core.Path.{◌≡◌, refl, sym, ◌∙◌, ap, ap₂, subst, subst₂}
use mathlib.Core.List.{List, [], ◌∷◌, ◌++◌, append-nil, append_assoc}
use mathlib.Core.Logic.{◌↔◌}
use Prim.Native.Nat.{ℕ, zero, suc, ◌+◌, ◌*◌, ◌≤◌, ◌<◌}
use native.Mathlib.Omega.{arith}
use lib.ListN.{length, get_or, drop, length-append, length-drop}
use lib.Seq.{get_or-drop}
use lib.Dec.{ltb, eqb}
use borrow.Author.Tests.{ltb-true, ltb-false, eqb-true, eq-eqb, ne_eqb}
use Rattle.weights.specs.declared.Measure.{Measure}
use Rattle.weights.specs.declared.Mark.{Mark}
use Rattle.weights.specs.declared.Weight.{Weight}
use Rattle.weights.specs.Figures.{greatest, standing, struck_mark}
use Rattle.columns.specs.Acceptance.{most_vertices}
use Rattle.text.specs.Tables.{Edge}
use Rattle.text.specs.Render.{digits, own_text, header}
use Rattle.text.specs.Machine.{digit_of, Parse, Whole, Wrong, parse}
use Rattle.text.specs.Bytes.{column_of, FirstByte}
use Rattle.text.proofs.Bytes.{wrong_byte}
use Rattle.text.proofs.Digits.{pick_by}
use Rattle.cursor.specs.declared.Separator.{Separator}
use Rattle.cursor.specs.declared.Separator.TheVariants.{Space, LineEnd}
use Rattle.cursor.specs.declared.Token.{Token}
use Rattle.cursor.specs.declared.WeightToken.{WeightToken}
use Rattle.cursor.specs.Cursor.{FoundWeight, token, digits_from, number_of, number_at, as_weight, weight_token, marked_from, weight_at, separator_at}
use Rattle.cursor.proofs.Counts.{number_counts, weight_counts, token_start, weight_start}
use Rattle.refusal.specs.declared.Refusal.TheVariants.{Text}
use Rattle.refusal.specs.Refusals.{place_of, column_of as column_in}
use Rattle.reading.specs.Lines.{refused_at, Opens, Unopened, first_of, first_line, Stalk, on_own, on_head, stem_at, Listing, Ends, Breaks, list_end, on_vertex, listed_from}
use Rattle.reading.specs.Lines.{Row, Holds, Fails, on_listing, on_stem, row_at, reading_of}
use Rattle.reading.proofs.Laws.{first_refused}
use Rattle.reader.specs.Walk.{Parts, Line}
use Rattle.reader.specs.Stops.{StopsAt}
use Rattle.reader.proofs.Stops.{token_stop}
use Rattle.reader.proofs.Fields.{Stops, behind, number_text, number_found, weight_text, weight_found, first_text, first_found}
use Rattle.promises.specs.Reads.{Reads}
use Rattle.std.specs.Prelude.{Option, Err, Some, None}

-- a number's reading, by the place that it was asked at
stops : (s : List ℕ) (at limit : ℕ) → StopsAt s limit at (number_at s at limit).stop
stops s at limit = subst (λ (k : ℕ). StopsAt s limit k (number_at s at limit).stop) (token_start s at limit) (token_stop s at limit)

module _ (s : List ℕ) (at : ℕ) where
  pub weight_stop : ¬ (get_or s at 0 ≡ 45) → StopsAt s (greatest + 1) at (weight_at s at).stop
  unfolding weight_at
  weight_stop n = rw (ne_eqb (get_or s at 0) 45 n) (stops s at (greatest + 1))

  pub struck_weight_stop : get_or s at 0 ≡ 45 → StopsAt s (greatest + 1) (at + 1) (weight_at s at).stop
  unfolding weight_at
  struck_weight_stop e = rw (eq-eqb (get_or s at 0) 45 e) (stops s (at + 1) (greatest + 1))

-- No digit follows -----------------------------------------------------------------------------------------------------------------------------------------------------

abbrev Ended : List ℕ → Token → Type 0
Ended s t = (v : ℕ) → t.found ≡ Some v → Stops (drop t.stop s)

unfound : {A : Type 0} {v : ℕ} → ◌≡◌ {A = Option ℕ} None (Some v) → A
unfound e = let z : ◌≡◌ {A = ℕ} 0 1 = cc in absurd (omega arith)

digits-ended : (s bs : List ℕ) (start i limit v : ℕ) → drop i s ≡ bs → Ended s (digits_from bs start i limit v)
unfolding digits_from
digits-ended s [] start i limit v q = λ w e. subst Stops (sym q) tt
digits-ended s (b ∷ bs) start i limit v q =
    let P : Token → Type 0 = Ended s in
    pick_by P (ltb (digit_of b) 10) (λ d.
    pick_by P (ltb 0 v) (λ z.
    pick_by P (ltb (10 * v + digit_of b) limit) (λ m. digits-ended s bs start (i + 1) limit (10 * v + digit_of b) (behind s (b ∷ []) bs i q)) (λ m w e. unfound e)) (λ z w e. unfound e))
    (λ d w e. subst Stops (sym q) (ltb-false (digit_of b) 10 d))

number_ended : (s bs : List ℕ) (at limit : ℕ) → drop at s ≡ bs → Ended s (number_of bs at limit)
unfolding number_of
number_ended s [] at limit q = λ w e. unfound e
number_ended s (b ∷ bs) at limit q =
    let P : Token → Type 0 = Ended s in
    pick_by P (ltb (digit_of b) 10) (λ d.
    pick_by P (ltb (digit_of b) limit) (λ m. digits-ended s bs at (at + 1) limit (digit_of b) (behind s (b ∷ []) bs at q)) (λ m w e. unfound e))
    (λ d w e. unfound e)

at_ended : (s : List ℕ) (at limit : ℕ) → Ended s (number_at s at limit)
unfolding number_at
at_ended s at limit = number_ended s (drop at s) at limit refl

-- of the byte itself
abbrev NoDigit : ℕ → Type 0
NoDigit b = ¬ ((48 ≤ b) × (b ≤ 57))

no_digit : (b : ℕ) → 10 ≤ digit_of b → NoDigit b
unfolding digit_of
no_digit b =
    pick_by (λ (d : ℕ). 10 ≤ d → NoDigit b) (ltb b 48) (λ e h (l, m). omega (arith, ltb-true b 48 e)) (λ e.
    pick_by (λ (d : ℕ). 10 ≤ d → NoDigit b) (ltb 57 b) (λ f h (l, m). omega (arith, ltb-true 57 b f)) (λ f h (l, m). omega arith))

digit_none : (b : ℕ) → NoDigit b → 10 ≤ digit_of b
unfolding digit_of
digit_none b n =
    pick_by (λ (d : ℕ). 10 ≤ d) (ltb b 48) (λ e. omega arith) (λ e.
    pick_by (λ (d : ℕ). 10 ≤ d) (ltb 57 b) (λ f. omega arith) (λ f. absurd (n (ltb-false b 48 e, ltb-false 57 b f))))

first_ended : (xs : List ℕ) → Stops xs → NoDigit (get_or xs 0 0)
first_ended [] h = λ (l, m). omega arith
first_ended (b ∷ bs) h = no_digit b h

ended_first : (xs : List ℕ) → NoDigit (get_or xs 0 0) → Stops xs
ended_first [] n = tt
ended_first (b ∷ bs) n = digit_none b n

byte_first : (s : List ℕ) (stop : ℕ) → get_or (drop stop s) 0 0 ≡ get_or s stop 0
byte_first s stop = get_or-drop stop s 0 0 ∙ ap (λ (k : ℕ). get_or s k 0) (omega arith)

-- What is found --------------------------------------------------------------------------------------------------------------------------------------------------------

module _ (s : List ℕ) (at stop : ℕ) where
  reads : (bytes : List ℕ) → at ≤ stop → stop ≤ length s → drop at s ≡ bytes ++ drop stop s → Stops (drop stop s) → Reads s at stop bytes
  reads bytes h l t n = record {
    place = omega (arith, ap length t, length-append bytes (drop stop s), length-drop at s, length-drop stop s);
    text = t;
    ended = subst NoDigit (byte_first s stop) (first_ended (drop stop s) n);
  }

  stopped : {bytes : List ℕ} → Reads s at stop bytes → Stops (drop stop s)
  stopped r = ended_first (drop stop s) (subst NoDigit (sym (byte_first s stop)) r.ended)

  pub number_exactly : (limit v : ℕ) → (number_at s at limit ≡ token at stop (Some v)) ↔ ((v < limit) × Reads s at stop (digits v))
  number_exactly limit v = (
    λ e.
        let c = number_counts s at limit at stop v e in
        let n = rw e at (at_ended s at limit) in
        (c.0, reads (digits v) (omega (arith, c.1)) c.2 (number_text s at limit at stop v e) (n v refl)),
    λ (l, r). number_found s (drop stop s) at limit v r.text l (stopped r) ∙ ap (λ (k : ℕ). token at k (Some v)) (sym r.place),
  )

  -- an own figure ends where its number does
  found-ended : (from : ℕ) (k : Mark) (o : ℕ) (j : Mark) (t : Token) → Ended s t → marked_from from k t ≡ weight_token at stop (Some ((record { 0 = o }), j)) → Stops (drop stop s)
  found-ended from k o j t n e = go t.found refl
    where
      go : (f : Option ℕ) → t.found ≡ f → Stops (drop stop s)
      go (Some v) q = let p : t.stop ≡ stop = ap (λ (x : WeightToken). x.stop) e in subst (λ (x : ℕ). Stops (drop x s)) p (n v q)
      go None q = let z : ◌≡◌ {A = FoundWeight} (as_weight k None) (Some (record { 0 = o }, j)) = sym (ap (as_weight k) q) ∙ ap (λ (x : WeightToken). x.found) e in absurd (no_own z)
        where
          no_own : ◌≡◌ {A = FoundWeight} None (Some (record { 0 = o }, j)) → ⊥
          no_own e = let z : ◌≡◌ {A = ℕ} 0 1 = cc in omega arith

  weight_ended : (o k : ℕ) → weight_at s at ≡ weight_token at stop (Some ((record { 0 = o }), (record { 0 = k }))) → Stops (drop stop s)
  unfolding weight_at
  weight_ended o k =
      pick_by (λ (t : WeightToken). t ≡ weight_token at stop (Some ((record { 0 = o }), (record { 0 = k }))) → Stops (drop stop s)) (eqb (get_or s at 0) 45)
      (λ b e. found-ended at (record { 0 = struck_mark }) o (record { 0 = k }) (number_at s (at + 1) (greatest + 1)) (at_ended s (at + 1) (greatest + 1)) e)
      (λ b e. found-ended at (record { 0 = standing }) o (record { 0 = k }) (number_at s at (greatest + 1)) (at_ended s at (greatest + 1)) e)

  pub weight_exactly : (o k : ℕ) → (weight_at s at ≡ weight_token at stop (Some ((record { 0 = o }), (record { 0 = k })))) ↔ ((o ≤ greatest) × (k ≤ struck_mark) × Reads s at stop (own_text o k))
  weight_exactly o k = (
    λ e.
        let c = weight_counts s at at stop _ _ e in
        (c.0, c.1, reads (own_text o k) (omega (arith, c.2)) c.3 (weight_text s at o k at stop e) (weight_ended o k e)),
    λ (l, m, r).
        weight_found s (drop stop s) at o (stopped r) l k m r.text ∙ ap (λ (i : ℕ). weight_token at i (Some ((record { 0 = o }), (record { 0 = k })))) (sym r.place),
  )

module _ (s : List ℕ) (at next : ℕ) where
  same_place : {j k : ℕ} → Space j ≡ Space k → j ≡ k
  same_place e = cc

  same_end : {j k : ℕ} → LineEnd j ≡ LineEnd k → j ≡ k
  same_end e = cc

  pub space_exactly : (separator_at s at ≡ Space next) ↔ ((next ≡ at + 1) × (get_or s at 0 ≡ 32))
  unfolding separator_at
  space_exactly = (
    pick_by (λ (x : Separator). x ≡ Space next → (next ≡ at + 1) × (get_or s at 0 ≡ 32)) (eqb (get_or s at 0) 32)
        (λ b e. (sym (same_place e), eqb-true _ _ b))
        (λ b. pick_by (λ (x : Separator). x ≡ Space next → (next ≡ at + 1) × (get_or s at 0 ≡ 32)) (eqb (get_or s at 0) 10)
        (λ d e. let z : ◌≡◌ {A = ℕ} 0 1 = cc in absurd (omega arith)) (λ d e. let z : ◌≡◌ {A = ℕ} 0 1 = cc in absurd (omega arith))),
    λ (p, q). rw (eq-eqb (get_or s at 0) 32 q) (ap Space (sym p)),
  )

  pub end_exactly : (separator_at s at ≡ LineEnd next) ↔ ((next ≡ at + 1) × (get_or s at 0 ≡ 10))
  unfolding separator_at
  end_exactly = (
    pick_by (λ (x : Separator). x ≡ LineEnd next → (next ≡ at + 1) × (get_or s at 0 ≡ 10)) (eqb (get_or s at 0) 32)
        (λ b e. let z : ◌≡◌ {A = ℕ} 0 1 = cc in absurd (omega arith))
        (λ b. pick_by (λ (x : Separator). x ≡ LineEnd next → (next ≡ at + 1) × (get_or s at 0 ≡ 10)) (eqb (get_or s at 0) 10)
        (λ d e. (sym (same_end e), eqb-true _ _ d)) (λ d e. let z : ◌≡◌ {A = ℕ} 0 1 = cc in absurd (omega arith))),
    λ (p, q). rw (ne_eqb (get_or s at 0) 32 (λ z. omega (arith, q, z)), eq-eqb (get_or s at 0) 10 q) (ap LineEnd (sym p)),
  )

pub first_exactly : (s : List ℕ) (n start : ℕ) (m : Measure) → (first_line s ≡ Opens n m start) ↔ ((n ≤ most_vertices) × (start ≡ length (header n m)) × (s ≡ header n m ++ drop start s))
first_exactly s n start m = (
  λ e. let t = first_text s n start m e in (t.0, same (sym e ∙ ap first_line t.1 ∙ first_found (drop start s) n m t.0), t.1),
  λ (l, p, t). ap first_line t ∙ first_found (drop start s) n m l ∙ ap (Opens n m) (sym p),
)
  where
    same : {j k : ℕ} → Opens n m j ≡ Opens n m k → j ≡ k
    same e = cc

-- a first line that is refused has its place at the text's first byte that can't stand there
pub first_refused_exactly : (s : List ℕ) (place : ℕ) → first_line s ≡ Unopened place → FirstByte s 1 (place + 1)
first_refused_exactly s place h = go (parse s) refl (first_refused s (refused_at 1 0 place) (ap first_of (sym h)))
  where
    go : (x : Parse) → parse s ≡ x → Err (refused_at 1 0 place) ≡ reading_of s x → FirstByte s 1 (place + 1)
    go (Whole t) q e = let z : ◌≡◌ {A = ℕ} 0 1 = cc in absurd (omega arith)
    go (Wrong l) q e =
        let t : refused_at 1 0 place ≡ Text (record { 0 = l }) (record { 0 = column_of s }) = cc in
        let line : l ≡ 1 = sym (ap place_of t) in
        let column : column_of s ≡ place + 1 = omega (arith, ap column_in t) in
        subst₂ (FirstByte s) line column (wrong_byte s l q)

-- A table line ---------------------------------------------------------------------------------------------------------------------------------------------------------

module _ (s : List ℕ) (n : ℕ) where
  -- what is listed is what stands there, after the parts xs
  parts_listed : (left at next : ℕ) (xs : List ℕ) {vs : List ℕ} → Parts s n at vs next → length vs ≤ left → listed_from left s n at xs ≡ Ends (xs ++ vs) next
  unfolding listed_from
  parts_listed zero at next xs (Parts.no_part e) h =
      let q = (end_exactly s at next).0 e in
      rw (ne_eqb (get_or s at 0) 32 (λ z. omega (arith, q.1, z)), eq-eqb (get_or s at 0) 10 q.1) (ap₂ Ends (sym (append-nil xs)) (sym q.0))
  parts_listed (suc left) at next xs (Parts.no_part e) h =
      let q = (end_exactly s at next).0 e in
      rw (ne_eqb (get_or s at 0) 32 (λ z. omega (arith, q.1, z)), eq-eqb (get_or s at 0) 10 q.1) (ap₂ Ends (sym (append-nil xs)) (sym q.0))
  parts_listed zero at next xs (Parts.part e f r) h = absurd (omega arith)
  parts_listed (suc left) at next xs (Parts.part {from = from} {after = after} {v = v} {vs = vs} e f r) h =
      let q = (space_exactly s at from).0 e in
      let f' : number_at s (at + 1) n ≡ token from after (Some v) = ap (λ (k : ℕ). number_at s k n) (sym q.0) ∙ f in
      rw (eq-eqb (get_or s at 0) 32 q.1, f') (parts_listed left after next (xs ++ v ∷ []) r (omega arith) ∙ ap (λ (ys : List ℕ). Ends ys next) (append_assoc xs (v ∷ []) vs))

  -- and what was listed stands there
  abbrev Listed : (at left : ℕ) → List ℕ → Listing → Type 0
  Listed at left xs (Ends ys next) = (vs : List ℕ) × (ys ≡ xs ++ vs) × Parts s n at vs next × (length vs ≤ left)
  Listed at left xs (Breaks ys place) = Unit {0}

  end_listed : (at left : ℕ) (xs : List ℕ) → Listed at left xs (list_end s at xs)
  end_listed at left xs =
      pick_by (Listed at left xs) (eqb (get_or s at 0) 10)
      (λ e. ([], sym (append-nil xs), Parts.no_part ((end_exactly s at (at + 1)).1 (refl, eqb-true _ _ e)), omega arith)) (λ e. tt)

  one_listed : (at stop left v : ℕ) (xs : List ℕ) → get_or s at 0 ≡ 32 → number_at s (at + 1) n ≡ token (at + 1) stop (Some v) → (L : Listing)
      → Listed stop left (xs ++ v ∷ []) L → Listed at (suc left) xs L
  one_listed at stop left v xs b e (Ends ys next) (vs, p, r, l) =
      (v ∷ vs, p ∙ append_assoc xs (v ∷ []) vs, Parts.part ((space_exactly s at (at + 1)).1 (refl, b)) e r, omega arith)
  one_listed at stop left v xs b e (Breaks ys place) t = tt

  number_is : (at : ℕ) → number_at s at n ≡ token at (number_at s at n).stop (number_at s at n).found
  number_is at = λ i. token (token_start s at n i) (number_at s at n).stop (number_at s at n).found

  listed_parts : (left at : ℕ) (xs : List ℕ) → Listed at left xs (listed_from left s n at xs)
  unfolding listed_from
  listed_parts zero at xs = pick_by (Listed at zero xs) (eqb (get_or s at 0) 32) (λ e. tt) (λ e. end_listed at zero xs)
  listed_parts (suc left) at xs =
      let more : List ℕ → ℕ → Listing = λ ys next. listed_from left s n next ys in
      pick_by (Listed at (suc left) xs) (eqb (get_or s at 0) 32)
      (λ e. go (eqb-true _ _ e) more (λ ys next. listed_parts left next ys) (number_at s (at + 1) n).stop (number_at s (at + 1) n).found (number_is (at + 1))) (λ e. end_listed at (suc left) xs)
    where
      go : get_or s at 0 ≡ 32 → (more : List ℕ → ℕ → Listing) → ((ys : List ℕ) (next : ℕ) → Listed next left ys (more ys next)) → (stop : ℕ) (f : Option ℕ)
          → number_at s (at + 1) n ≡ token (at + 1) stop f → Listed at (suc left) xs (on_vertex xs stop f more)
      go b more rec stop (Some v) e = one_listed at stop left v xs b e (more (xs ++ v ∷ []) stop) (rec (xs ++ v ∷ []) stop)
      go b more rec stop None e = tt

  module _ (most at : ℕ) where
    abbrev Rowed : Row → Type 0
    Rowed (Holds e next) = Line s n at e next × (length e.tail ≤ most)
    Rowed (Fails xs place) = Unit {0}

    module _ (stop h : ℕ) (head : number_at s at n ≡ token at stop (Some h)) (b : get_or s stop 0 ≡ 32) where
      tail_rowed : (end : ℕ) (w : Weight) (k : Mark) → weight_at s (stop + 1) ≡ weight_token (stop + 1) end (Some (w, k)) → (L : Listing) → Listed end most [] L
          → Rowed (on_listing (record { 0 = h }) w k L)
      tail_rowed end w k own (Ends ys next) (vs, p, r, l) = (
        record {
          behind_head = stop;
          from = stop + 1;
          behind_own = end;
          head = head;
          space = (space_exactly s stop (stop + 1)).1 (refl, b);
          own = own;
          parts = subst (λ (us : List ℕ). Parts s n end us next) (sym p) r;
        },
        omega (arith, ap length p),
      )
      tail_rowed end w k own (Breaks ys place) t = tt

      own_rowed : (end : ℕ) (f : FoundWeight) → weight_at s (stop + 1) ≡ weight_token (stop + 1) end f → Rowed (on_stem s n most (on_own h end f))
      own_rowed end (Some (w, k)) own = tail_rowed end w k own (listed_from most s n end []) (listed_parts most end [])
      own_rowed end None own = tt

    weight_is : (from : ℕ) → weight_at s from ≡ weight_token from (weight_at s from).stop (weight_at s from).found
    weight_is from = λ i. weight_token (weight_start s from i) (weight_at s from).stop (weight_at s from).found

    head_rowed : (stop : ℕ) (f : Option ℕ) → number_at s at n ≡ token at stop f → Rowed (on_stem s n most (on_head s stop f))
    head_rowed stop (Some h) e =
        pick_by (λ (x : Stalk). Rowed (on_stem s n most x)) (eqb (get_or s stop 0) 32)
        (λ b. own_rowed stop h e (eqb-true _ _ b) (weight_at s (stop + 1)).stop (weight_at s (stop + 1)).found (weight_is (stop + 1))) (λ b. tt)
    head_rowed stop None e = tt

    rowed : Rowed (row_at s n most at)
    unfolding row_at stem_at
    rowed = head_rowed (number_at s at n).stop (number_at s at n).found (number_is at)

    row_holds : (e : Edge) (next : ℕ) → Line s n at e next → length e.tail ≤ most → row_at s n most at ≡ Holds e next
    unfolding row_at stem_at
    row_holds e next l h =
        let q = (space_exactly s l.behind_head l.from).0 l.space in
        let own = ap (weight_at s) (sym q.0) ∙ l.own in
        rw (l.head, eq-eqb (get_or s l.behind_head 0) 32 q.1, own, parts_listed most l.behind_own next [] l.parts h)

    pub line_exactly : (e : Edge) (next : ℕ) → (row_at s n most at ≡ Holds e next) ↔ (Line s n at e next × (length e.tail ≤ most))
    line_exactly e next = (λ p. rw p at rowed, λ (l, h). row_holds e next l h)
