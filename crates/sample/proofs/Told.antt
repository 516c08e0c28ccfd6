-- A sample's text is read as the sample. Assumes nothing.
use mathlib.Core.Path.{◌≡◌, refl, sym, ◌∙◌, ap}
use mathlib.Core.List.{List, [], ◌∷◌, ◌++◌, append_assoc}
use Prim.Native.Nat.{ℕ, zero, suc, ◌+◌, ◌≤◌, ◌<◌}
use native.Mathlib.Numerals.{add-one}
use native.Mathlib.Omega.{arith}
use lib.ListN.{length, get_or, set, take, drop, replicate, length-append, length-drop, length-take, length-replicate}
use lib.Seq.{take_all, take_at, drop_at, drop-drop, get_or-drop, get_or_at, sets, sets-eq}
use Rattle.text.specs.Render.{digits}
use Rattle.text.specs.Machine.{digit_of}
use Rattle.cursor.specs.Cursor.{token}
use Rattle.reader.proofs.Fields.{number_found}
use Rattle.statistics.specs.Summaries.{summary_of}
use Rattle.sample.specs.declared.Next.{Next}
use Rattle.sample.specs.declared.Next.TheVariants.{Number}
use Rattle.std.specs.Prelude.{Ok, Some}
use Rattle.sample.specs.Sample.{most_read, number_limit, result_at, Read, read, on_next, sample_from, summary_said, read_said, mean_said}
use Rattle.sample.specs.Told.{sample_text, Readable, none, also, MeanTold}
use Rattle.sample.proofs.Results.{result_end, result_number}

-- a line is read as its number
line_read : (s rest : List ℕ) (at x : ℕ) → drop at s ≡ digits x ++ 10 ∷ rest → x < number_limit → result_at s at ≡ Number x (at + length (digits x) + 1)
unfolding digit_of
line_read s rest at x e l =
    let n = length-append (digits x) (10 ∷ rest) in
    let k = ap length e in
    let d = length-drop at s in
    let stop = at + length (digits x) in
    let width = length (digits x) in
    let behind : get_or s stop 0 ≡ 10 = sym (get_or-drop at s width 0) ∙ ap (λ (z : List ℕ). get_or z width 0) e ∙ get_or_at (digits x) 10 rest 0 width refl in
    sym (result_number s at (token at stop (Some x)) x (omega arith) (sym (number_found s (10 ∷ rest) at number_limit x e l (omega arith))) refl behind)

no_more : (i : ℕ) (c : List ℕ) → read (Ok i) c ≡ read (Ok (i + 0)) c
no_more i c = let e : i ≡ i + 0 = omega arith in ap (λ (k : ℕ). read (Ok k) c) e

-- the lines from a place on
lines_read : (s : List ℕ) {xs : List ℕ} → Readable xs → (left at i : ℕ) (c : List ℕ) → drop at s ≡ sample_text xs
    → sample_from left s at i c ≡ read (Ok (i + length (take left xs))) (sets c i (take left xs))
unfolding sample_from sample_text
lines_read s none zero at i c e = no_more i c
lines_read s (also l r) zero at i c e = no_more i c
lines_read s none (suc left) at i c e =
    let n = ap length e in
    let d = length-drop at s in
    ap (λ (z : Next). on_next z at i c (λ v next. sample_from left s next (i + 1) (set c i v))) (sym (result_end s at (omega arith)))
    ∙ no_more i c
lines_read s (also {x} {xs} l r) (suc left) at i c e =
    let next = at + length (digits x) + 1 in
    let ys = take left xs in
    let where_next : next ≡ at + (length (digits x) + 1) = omega arith in
    let on : drop next s ≡ sample_text xs =
    ap (λ (k : ℕ). drop k s) where_next ∙ sym (drop-drop (length (digits x) + 1) at s)
    ∙ ap (drop (length (digits x) + 1)) (e ∙ sym (append_assoc (digits x) (10 ∷ []) (sample_text xs)))
    ∙ drop_at (digits x ++ 10 ∷ []) (sample_text xs) (length (digits x) + 1) (length-append (digits x) (10 ∷ [])) in
    let count : i + 1 + length ys ≡ i + suc (length ys) = omega arith in
    ap (λ (z : Next). on_next z at i c (λ v next. sample_from left s next (i + 1) (set c i v))) (line_read s (sample_text xs) at x e l)
    ∙ lines_read s r left next (i + 1) (set c i x) on
    ∙ ap (λ (k : ℕ). read (Ok k) (sets (set c i x) (i + 1) ys)) count
    ∙ ap (λ (k : ℕ). read (Ok (i + suc (length ys))) (sets (set c i x) k ys)) (add-one i)

pub mean_told : (xs : List ℕ) → MeanTold xs
unfolding mean_said
mean_told xs = record {
  printed = λ r.
      let ys = take most_read xs in
      let zeros : List ℕ = replicate most_read 0 in
      let short : 0 + length ys ≤ length zeros = omega (arith, length-take most_read xs, length-replicate {A = ℕ} most_read 0) in
      let column : take (0 + length ys) (sets zeros 0 ys) ≡ ys =
      ap (take (0 + length ys)) (sets-eq ys zeros 0 short) ∙ take_at ys (drop (0 + length ys) zeros) (0 + length ys) (omega arith) in
      ap (λ (x : Read). read_said x.sample x.column) (lines_read (sample_text xs) r most_read 0 0 zeros refl)
      ∙ ap (λ (zs : List ℕ). summary_said (summary_of zs)) column;
  whole = take_all most_read xs;
}
