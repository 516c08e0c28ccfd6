-- A permitted sample is read to its results, and any other text is refused where it leaves the form. Assumes nothing.
use Prim.Native.Nat.{ℕ, zero, suc, ◌+◌, ◌-◌, ◌<◌}
use mathlib.Core.Path.{◌≡◌, refl, sym, ◌∙◌, ap, ap₂, subst}
use mathlib.Core.Logic.{◌⊎◌, inl, inr}
use mathlib.Core.List.{List, [], ◌∷◌, ◌++◌, append_assoc, append-nil}
use native.Mathlib.Omega.{arith}
use lib.ListN.{length, get_or, set, drop, replicate, length-append, length-drop, length-replicate, drop_of_length-le}
use lib.Seq.{append_snoc}
use lib.Dec.{eqb, leb}
use borrow.Author.Tests.{leb-true, leb-false}
use Rattle.refusal.specs.declared.Refusal.TheVariants.{Text}
use Rattle.columns.specs.Filled.{filled}
use Rattle.columns.proofs.Filled.{filled_none, filled-set, take-filled}
use Rattle.statistics.specs.Summaries.{summary_of}
use Rattle.text.specs.Render.{digits}
use Rattle.text.specs.Machine.{digit_of}
use Rattle.text.proofs.Digits.{pick_by}
use Rattle.cursor.specs.Cursor.{token, number_at}
use Rattle.reader.proofs.Fields.{behind, Stops, number_found}
use Rattle.reply.specs.Reply.{refused_by}
use Rattle.sample.specs.declared.Next.{Next}
use Rattle.sample.specs.declared.Next.TheVariants.{Number, Wrong, End}
use Rattle.std.specs.Prelude.{Result, Ok, Err, Option, Some, None}
use Rattle.refusal.specs.declared.Refusal.{Refusal}
use Rattle.sample.specs.Sample.{most_read, number_limit, on_found, result_at, Read, read, on_next, sample_from, summary_said, read_said, mean_said}
use Rattle.sample.specs.Told.{sample_text, Readable, none, also}
use Rattle.sample.specs.Permitted.{PermittedSample}
use Rattle.sample.proofs.Results.{result_end, result_number}
use Rattle.promises.specs.FirstBytes.{BeginsOf, FirstByteOf}
use Rattle.promises.proofs.FirstBytes.{Fails, first_of, to_column, Passes, join, byte_first, mapped, EndOr, in_line, Then, then_more, line_passes, line_stuck, line_stops, begins_then, NumberThen, ToldAt, number_told_at}

-- The form --------------------------------------------------------------------------------------------------------------------------------------------

-- `left` more results are read
unfoldable Results : ℕ → List ℕ → Type 0
Results zero x = Unit {0}
Results (suc left) x = EndOr (NumberThen number_limit (λ _. Then 10 (Results left))) x

results_end : (left : ℕ) → BeginsOf (Results left) []
unfolding Results
results_end zero = record { rest = []; whole = tt }
results_end (suc left) = record { rest = []; whole = inl refl }

-- how a text of the form ends, with so many results left
abbrev Ended : ℕ → (xs unread : List ℕ) → Type 0
Ended left xs unread = ((length xs < left) × (unread ≡ [])) ⊎ (length xs ≡ left)

ended_less : (left x : ℕ) (xs unread : List ℕ) → Ended (suc left) (x ∷ xs) unread → Ended left xs unread
ended_less left x xs unread (inl e) = inl (omega (arith, e.0), e.1)
ended_less left x xs unread (inr e) = inr (omega arith)

ended_more : (left x : ℕ) (xs unread : List ℕ) → Ended left xs unread → Ended (suc left) (x ∷ xs) unread
ended_more left x xs unread (inl e) = inl (omega (arith, e.0), e.1)
ended_more left x xs unread (inr e) = inr (omega arith)

record Sampled (left : ℕ) (s : List ℕ) : Type 0 where
  results : List ℕ
  unread : List ℕ
  readable : Readable results
  same : s ≡ sample_text results ++ unread
  end : Ended left results unread

one_result : (x : ℕ) (xs unread : List ℕ) → sample_text (x ∷ xs) ++ unread ≡ digits x ++ (10 ∷ (sample_text xs ++ unread))
unfolding sample_text
one_result x xs unread = append_assoc (digits x) (10 ∷ sample_text xs) unread

to_form : (left : ℕ) {xs : List ℕ} (unread : List ℕ) → Readable xs → Ended left xs unread → Results left (sample_text xs ++ unread)
unfolding Results
to_form zero unread r e = tt
to_form (suc left) unread none (inl e) = inl (unfold sample_text in e.1)
to_form (suc left) unread none (inr e) = absurd (omega arith)
to_form (suc left) unread (also {x} {xs} h r) e =
    inr (record {
      value = x;
      rest = 10 ∷ (sample_text xs ++ unread);
      below = h;
      bytes = one_result x xs unread;
      holds = then_more 10 (Results left) (sample_text xs ++ unread) (to_form left unread r (ended_less left x xs unread e));
    })

of_form : (left : ℕ) (s : List ℕ) → Results left s → Sampled left s
unfolding Results
of_form zero s r = record { results = []; unread = s; readable = none; same = unfold sample_text in refl; end = inr refl }
of_form (suc left) s (inl e) = record { results = []; unread = []; readable = none; same = unfold sample_text in e; end = inl (omega arith, refl) }
of_form (suc left) s (inr N) =
    let S = of_form left N.holds.rest N.holds.holds in
    record {
      results = N.value ∷ S.results;
      unread = S.unread;
      readable = also N.below S.readable;
      same = N.bytes ∙ ap (λ (z : List ℕ). digits N.value ++ z) (N.holds.bytes ∙ ap (λ (z : List ℕ). 10 ∷ z) S.same) ∙ sym (one_result N.value S.results S.unread);
      end = ended_more left N.value S.results S.unread S.end;
    }

permitted_form : (s : List ℕ) → PermittedSample s → Results most_read s
permitted_form s p = subst (Results most_read) (sym p.same) (to_form most_read p.unread p.readable p.end)

form_permitted : (s : List ℕ) → Results most_read s → PermittedSample s
form_permitted s r =
    let S = of_form most_read s r in
    record { results = S.results; unread = S.unread; readable = S.readable; same = S.same; end = S.end }

-- A line ----------------------------------------------------------------------------------------------------------------------------------------------

module _ (left : ℕ) where
  abbrev Rest : ℕ → List ℕ → Type 0
  Rest v = Then 10 (Results left)

  rest_stops : (v : ℕ) (x : List ℕ) → Rest v x → Stops x
  rest_stops v = line_stops (Results left)

  rest_ends : (v : ℕ) → BeginsOf (Rest v) []
  rest_ends v = begins_then 10 (Results left) (results_end left)

  abbrev NextTold : (s : List ℕ) → ℕ → Next → Type 0
  NextTold s at End = drop at s ≡ []
  NextTold s at (Wrong p) = (l : ℕ) → Fails (Results (suc left)) (drop at s) l 1 l (p - at + 1)
  NextTold s at (Number v next) = (l : ℕ) → Passes (Results (suc left)) (Results left) s at next l 1 (suc l) 1

  module _ (s : List ℕ) (at : ℕ) (h : at < length s) where
    abbrev begun : (l : ℕ) → Passes (EndOr (NumberThen number_limit Rest)) (NumberThen number_limit Rest) s at at l 1 l 1
    begun = in_line (NumberThen number_limit Rest) s at h

    found_told : (stop : ℕ) (f : Option ℕ) → ToldAt number_limit Rest s at stop f → NextTold s at (on_found s stop f)
    unfolding Results
    found_told stop (Some v) R =
        pick_by (NextTold s at) (eqb (get_or s stop 0) 10)
        (λ e l. join (begun l) (join (R.passes l 1) (line_passes (Results left) s stop e l (1 + (stop - at)))))
        (λ e l. (begun l).on l (stop - at + 1) ((R.passes l 1).on l (stop - at + 1) (to_column (line_stuck (Results left) s stop e (results_end left) l (1 + (stop - at))) (omega arith))))
    found_told stop None B = λ l. (begun l).on l (stop - at + 1) (to_column (B.fails l 1) (omega arith))

  result_told : (s : List ℕ) (at : ℕ) → NextTold s at (result_at s at)
  unfolding result_at
  result_told s at =
      let t = number_at s at number_limit in
      pick_by (NextTold s at) (leb (length s) at) (λ e. drop_of_length-le s (leb-true (length s) at e))
      (λ e. found_told s at (leb-false (length s) at e) t.stop t.found (number_told_at number_limit (omega arith) Rest rest_stops rest_ends s at))

-- The lines ---------------------------------------------------------------------------------------------------------------------------------------------

abbrev Outcome : (left : ℕ) → List ℕ → (at i : ℕ) → Result ℕ Refusal → Type 0
Outcome left s at i (Ok k) = Results left (drop at s)
Outcome left s at i (Err r) = (l c : ℕ) × (r ≡ Text (record { 0 = l }) (record { 0 = c })) × Fails (Results left) (drop at s) (i + 1) 1 l c

module _ (left : ℕ) (s : List ℕ) (at i : ℕ) where
  lifted : (next : ℕ) → ((l : ℕ) → Passes (Results (suc left)) (Results left) s at next l 1 (suc l) 1) → (x : Result ℕ Refusal) → Outcome left s next (i + 1) x → Outcome (suc left) s at i x
  lifted next L (Ok k) o = (L 0).right o
  lifted next L (Err r) o =
      let q : i + 1 + 1 ≡ suc (i + 1) = omega arith in
      (o.0, o.1, o.2, (L (i + 1)).on o.0 o.1 (subst (λ (l : ℕ). Fails (Results left) (drop next s) l 1 o.0 o.1) q o.3))

  by_next : (c : List ℕ) (x : Next) → NextTold left s at x → (more : (v next : ℕ) → Read) → ((v next : ℕ) → Outcome left s next (i + 1) (more v next).sample)
      → Outcome (suc left) s at i (on_next x at i c more).sample
  by_next c End e more f = unfold Results in inl e
  by_next c (Wrong p) F more f = (i + 1, p - at + 1, refl, F (i + 1))
  by_next c (Number v next) L more f = lifted next L (more v next).sample (f v next)

sample_told : (left : ℕ) (s : List ℕ) (at i : ℕ) (c : List ℕ) → Outcome left s at i (sample_from left s at i c).sample
unfolding sample_from
sample_told zero s at i c = unfold Results in tt
sample_told (suc left) s at i c =
    by_next left s at i c (result_at s at) (result_told left s at) (λ v next. sample_from left s next (i + 1) (set c i v)) (λ v next. sample_told left s next (i + 1) (set c i v))

pub sample_refused : (s : List ℕ) → ¬ PermittedSample s → (l c : ℕ) × (mean_said s ≡ refused_by (Text (record { 0 = l }) (record { 0 = c }))) × FirstByteOf PermittedSample s l c
unfolding mean_said
sample_refused s n =
    let x = sample_from most_read s 0 0 (replicate most_read 0) in
    go x.sample x.column (sample_told most_read s 0 0 (replicate most_read 0))
  where
    go : (x : Result ℕ Refusal) (column : List ℕ) → Outcome most_read s 0 0 x → (l c : ℕ) × (read_said x column ≡ refused_by (Text (record { 0 = l }) (record { 0 = c }))) × FirstByteOf PermittedSample s l c
    go (Ok k) column o = absurd (n (form_permitted s o))
    go (Err r) column o =
        (o.0, o.1, ap refused_by o.2, first_of PermittedSample s o.0 o.1 (mapped PermittedSample (Results most_read) s 1 1 o.0 o.1 form_permitted (λ x _. permitted_form x) o.3))

-- A permitted sample ------------------------------------------------------------------------------------------------------------------------------------

line_read : (s rest : List ℕ) (at x : ℕ) → drop at s ≡ digits x ++ 10 ∷ rest → x < number_limit → result_at s at ≡ Number x (at + length (digits x) + 1)
unfolding digit_of
line_read s rest at x e l =
    let n = length-append (digits x) (10 ∷ rest) in
    let k = ap length e in
    let d = length-drop at s in
    let stop = at + length (digits x) in
    let b : get_or s stop 0 ≡ 10 = sym (byte_first s stop) ∙ ap (λ (z : List ℕ). get_or z 0 0) (behind s (digits x) (10 ∷ rest) at e) in
    sym (result_number s at (token at stop (Some x)) x (omega arith) (sym (number_found s (10 ∷ rest) at number_limit x e l (omega arith))) refl b)

lines_read : {xs : List ℕ} → Readable xs → (left : ℕ) (s : List ℕ) (at i : ℕ) (done old unread : List ℕ) → length done ≡ i → i + left ≡ length old
    → drop at s ≡ sample_text xs ++ unread → Ended left xs unread → sample_from left s at i (filled done old) ≡ read (Ok (i + length xs)) (filled (done ++ xs) old)
unfolding sample_from
lines_read none zero s at i done old unread d f e end =
    let p : i ≡ i + 0 = omega arith in
    ap₂ (λ (k : ℕ) (z : List ℕ). read (Ok k) (filled z old)) p (sym (append-nil done))
lines_read none (suc left) s at i done old unread d f e (inl end) =
    let p : i ≡ i + 0 = omega arith in
    let w : sample_text [] ++ unread ≡ [] = unfold sample_text in end.1 in
    let z : length (drop at s) ≡ 0 = ap length (e ∙ w) in
    let l = length-drop at s in
    ap (λ (x : Next). on_next x at i (filled done old) (λ v next. sample_from left s next (i + 1) (set (filled done old) i v))) (sym (result_end s at (omega arith)))
    ∙ ap₂ (λ (k : ℕ) (z : List ℕ). read (Ok k) (filled z old)) p (sym (append-nil done))
lines_read none (suc left) s at i done old unread d f e (inr end) = absurd (omega arith)
lines_read (also h r) zero s at i done old unread d f e (inl end) = absurd (omega (arith, end.0))
lines_read (also h r) zero s at i done old unread d f e (inr end) = absurd (omega arith)
lines_read (also {x} {xs} h r) (suc left) s at i done old unread d f e end =
    let next = at + length (digits x) + 1 in
    let more : List ℕ = sample_text xs ++ unread in
    let e1 : drop at s ≡ digits x ++ (10 ∷ more) = e ∙ one_result x xs unread in
    let e2 : drop next s ≡ more = behind s (10 ∷ []) more (at + length (digits x)) (behind s (digits x) (10 ∷ more) at e1) in
    let l : length (done ++ x ∷ []) ≡ i + 1 = length-append done (x ∷ []) ∙ ap (λ (k : ℕ). k + 1) d in
    let p : i + 1 + length xs ≡ i + length (x ∷ xs) = omega arith in
    ap (λ (y : Next). on_next y at i (filled done old) (λ v z. sample_from left s z (i + 1) (set (filled done old) i v))) (line_read s more at x e1 h)
    ∙ ap (λ (z : List ℕ). sample_from left s next (i + 1) z) (filled-set done old i x d (omega arith))
    ∙ lines_read r left s next (i + 1) (done ++ x ∷ []) old unread l (omega arith) e2 (ended_less left x xs unread end)
    ∙ ap₂ (λ (k : ℕ) (z : List ℕ). read (Ok k) (filled z old)) p (append_snoc done x xs)

pub sample_permitted : (s : List ℕ) (p : PermittedSample s) → mean_said s ≡ summary_said (summary_of p.results)
unfolding mean_said
sample_permitted s p =
    let zeros : List ℕ = replicate most_read 0 in
    let long = length-replicate {A = ℕ} most_read 0 in
    let xs = p.results in
    let q : length xs ≡ 0 + length xs = omega arith in
    ap (λ (c : List ℕ). read_said (sample_from most_read s 0 0 c).sample (sample_from most_read s 0 0 c).column) (filled_none zeros)
    ∙ ap (λ (x : Read). read_said x.sample x.column) (lines_read p.readable most_read s 0 0 [] zeros p.unread refl (omega arith) p.same p.end)
    ∙ ap (λ (z : List ℕ). summary_said (summary_of z)) (take-filled xs zeros (0 + length xs) q)
