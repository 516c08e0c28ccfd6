-- The place of refusal 14, line and column: every text that is not permitted has one, in the line that was told before, and there is one only. Document 02,
-- 2026-06. Assumes nothing.
use Prim.Native.Nat.{ℕ, zero, suc, ◌≤◌, ◌<◌}
use mathlib.Core.Path.{◌≡◌, refl, sym, ◌∙◌, ap, subst}
use mathlib.Core.List.{List, [], ◌∷◌, ◌++◌, append_assoc}
use mathlib.Core.Bool.{true, false}
use native.Mathlib.Omega.{arith}
use lib.ListN.{length, take, drop}
use lib.Dec.{eqb}
use Rattle.weights.specs.Choice.{pick}
use Rattle.weights.proofs.Choice.{apart}
use Rattle.text.specs.Render.{Permitted}
use Rattle.text.specs.Machine.{State, Spelling, Naming, First, Within, Failed, step, run, Wrong, finish, begin, parse}
use Rattle.text.specs.Permitted.{FirstWrong}
use Rattle.text.specs.Prefixes.{Begins, NotFailed}
use Rattle.text.specs.Bytes.{is_failed, survived, failing_at, line_from, line_after, column_after, column_of, FirstByte}
use Rattle.text.proofs.Digits.{pick_by}
use Rattle.text.proofs.Sound.{Reached, begin_reached, step_reached, run_reached}
use Rattle.text.proofs.Complete.{run-append}
use Rattle.text.proofs.Places.{line_of, Moved, moved, run_failed, wrong_at}
use Rattle.text.proofs.Permitted.{read_permitted, wrong_unpermitted, unpermitted_wrong}
use Rattle.text.proofs.Prefixes.{failed_begins_none, others_begin_one}

pub survived_inside : (σ : State) (bs : List ℕ) → survived σ bs ≤ length bs
unfolding survived
survived_inside σ [] = omega arith
survived_inside σ (b ∷ bs) =
    pick_by (λ (k : ℕ). k ≤ length (b ∷ bs)) (is_failed (step σ b)) (λ e. omega arith) (λ e. let l = survived_inside (step σ b) bs in omega arith)

-- What `survived` tells -------------------------------------------------------------------------------------------------------------------------

record Survives (σ : State) (bs : List ℕ) (k : ℕ) : Type 0 where
  inside : k ≤ length bs
  goes_on : NotFailed (run σ (take k bs))
  stops : k < length bs → (l : ℕ) × (run σ (take (suc k) bs) ≡ Failed l)
  line : (l : ℕ) → finish (run σ bs) ≡ Wrong l → l ≡ line_from (line_of σ) (take k bs)

whole_line : (σ : State) (l : ℕ) → finish σ ≡ Wrong l → l ≡ line_of σ
whole_line σ l e = sym (wrong_at σ l e)

survive : (σ : State) (bs s : List ℕ) → Reached σ s → NotFailed σ → Survives σ bs (survived σ bs)
unfolding survived run line_from
survive σ [] s r n = record { inside = omega arith; goes_on = n; stops = λ h. absurd (omega arith); line = λ l e. whole_line σ l e }
survive σ (b ∷ bs) s r n = go (step σ b) refl (moved σ b s r) (λ m. survive (step σ b) bs (s ++ b ∷ []) (step_reached σ b s r) m)
  where
    on : (τ : State) → step σ b ≡ τ → NotFailed τ → is_failed τ ≡ false → line_of τ ≡ pick (eqb b 10) (suc (line_of σ)) (line_of σ)
        → Survives (step σ b) bs (survived (step σ b) bs) → Survives σ (b ∷ bs) (suc (survived (step σ b) bs))
    on τ q m f e S = record {
      inside = omega (arith, S.inside);
      goes_on = S.goes_on;
      stops = λ h. S.stops (omega arith);
      line = λ l x. S.line l x ∙ ap (λ (k : ℕ). line_from k (take (survived (step σ b) bs) bs)) (ap line_of q ∙ e);
    }

    failed_line : (l k : ℕ) → line_of σ ≡ l → finish (run (Failed l) bs) ≡ Wrong k → k ≡ line_of σ
    failed_line l k e x = unfold finish in (let z : Wrong l ≡ Wrong k = sym (ap finish (run_failed l bs)) ∙ x in cc)

    stop : (l : ℕ) → step σ b ≡ Failed l → line_of σ ≡ l → Survives σ (b ∷ bs) 0
    stop l q e = record {
      inside = omega arith;
      goes_on = n;
      stops = λ h. (l, q);
      line = λ k x. failed_line l k e (ap (λ (ρ : State). finish (run ρ bs)) (sym q) ∙ x);
    }

    failed_of : {l : ℕ} → Moved σ b (Failed l) → line_of σ ≡ l
    failed_of (Moved.fails e) = e
    failed_of (Moved.stays n e) = unfold line_of in sym e

    next_line : {τ : State} → Moved σ b τ → NotFailed τ → line_of τ ≡ pick (eqb b 10) (suc (line_of σ)) (line_of σ)
    next_line (Moved.fails e) m = absurd m
    next_line (Moved.stays n e) m = rw n e
    next_line (Moved.ends y e) m = rw y e

    more : (τ : State) → step σ b ≡ τ → Moved σ b τ → NotFailed τ → is_failed τ ≡ false
        → (NotFailed (step σ b) → Survives (step σ b) bs (survived (step σ b) bs)) → Survives σ (b ∷ bs) (pick (is_failed (step σ b)) 0 (suc (survived (step σ b) bs)))
    more τ q v m f S =
        let z : is_failed (step σ b) ≡ false = ap is_failed q ∙ f in
        rw z (on τ q m f (next_line v m) (S (subst NotFailed (sym q) m)))

    go : (τ : State) → step σ b ≡ τ → Moved σ b τ → (NotFailed (step σ b) → Survives (step σ b) bs (survived (step σ b) bs))
        → Survives σ (b ∷ bs) (pick (is_failed (step σ b)) 0 (suc (survived (step σ b) bs)))
    go (Failed l) q v S = let z : is_failed (step σ b) ≡ true = ap is_failed q in rw z (stop l q (failed_of v))
    go (Spelling ws p) q v S = more (Spelling ws p) q v tt refl S
    go (Naming n) q v S = more (Naming n) q v tt refl S
    go (First p) q v S = more (First p) q v tt refl S
    go (Within p x) q v S = more (Within p x) q v tt refl S

-- the place: the line that was told before, and the column of the first byte that fails
pub wrong_byte : (s : List ℕ) (l : ℕ) → parse s ≡ Wrong l → FirstByte s l (column_of s)
unfolding parse column_of line_of
wrong_byte s l e =
    let S = survive begin s [] begin_reached tt in
    record {
      at = failing_at s;
      inside = S.inside;
      begins = others_begin_one (take (failing_at s) s) S.goes_on;
      stops = λ h b. failed_begins_none (take (suc (failing_at s)) s) (S.stops h).0 (S.stops h).1 b;
      unfinished = λ _. wrong_unpermitted s l e;
      line_is = S.line l e;
      column_is = refl;
    }

pub first_byte : (s : List ℕ) → (Permitted s → ⊥) → (l : ℕ) × (parse s ≡ Wrong l) × FirstWrong s l × FirstByte s l (column_of s)
first_byte s n = let u = unpermitted_wrong s n in (u.0, u.1, u.2, wrong_byte s u.0 u.1)

-- a beginning of what begins a permitted text begins one
begins_less : (s : List ℕ) (j k : ℕ) → j ≤ k → Begins (take k s) → Begins (take j s)
begins_less s j k h b =
    let p = take k s in
    let cut = ap (λ (z : List ℕ). z ++ b.rest) (sym (take-drop j p)) in
    let less = ap (λ (z : List ℕ). (z ++ drop j p) ++ b.rest) (take-take s j k h) in
    record { rest = drop j p ++ b.rest; whole = subst Permitted (cut ∙ less ∙ append_assoc (take j s) (drop j p) b.rest) b.whole }
  where
    take-drop : (i : ℕ) (xs : List ℕ) → take i xs ++ drop i xs ≡ xs
    take-drop zero xs = refl
    take-drop (suc i) [] = refl
    take-drop (suc i) (x ∷ xs) = ap (λ (z : List ℕ). x ∷ z) (take-drop i xs)

    take-take : (xs : List ℕ) (i l : ℕ) → i ≤ l → take i (take l xs) ≡ take i xs
    take-take xs zero l h = refl
    take-take xs (suc i) zero h = absurd (omega arith)
    take-take [] (suc i) (suc l) h = refl
    take-take (x ∷ xs) (suc i) (suc l) h = ap (λ (z : List ℕ). x ∷ z) (take-take xs i l (omega arith))

not_before : (s : List ℕ) {l c l' c' : ℕ} (p : FirstByte s l c) (q : FirstByte s l' c') → ¬ (p.at < q.at)
not_before s p q h = p.stops (omega (arith, q.inside)) (begins_less s (suc p.at) q.at h q.begins)

-- there is one such place
pub first_byte_unique : (s : List ℕ) {l c l' c' : ℕ} → FirstByte s l c → FirstByte s l' c' → (l ≡ l') × (c ≡ c')
first_byte_unique s p q =
    let a = not_before s p q in
    let b = not_before s q p in
    let e : p.at ≡ q.at = omega arith in (
      p.line_is ∙ ap (λ (k : ℕ). line_after (take k s)) e ∙ sym q.line_is,
      p.column_is ∙ ap (λ (k : ℕ). column_after (take k s)) e ∙ sym q.column_is,
    )

-- a text that is not permitted and begins a permitted one does not end in LF: one past its last byte is in that byte's line
ends_whole : (σ τ : State) (s : List ℕ) → run begin (s ++ 10 ∷ []) ≡ τ → Moved σ 10 τ → (Permitted (s ++ 10 ∷ []) → ⊥) → Begins (s ++ 10 ∷ []) → ⊥
unfolding parse finish
ends_whole σ τ s q (Moved.fails {l} e) n b = failed_begins_none (s ++ 10 ∷ []) l q b
ends_whole σ τ s q (Moved.stays m e) n b = apart (sym m)
ends_whole σ τ s q (Moved.ends {t} y e) n b = n (read_permitted (s ++ 10 ∷ []) t (ap finish q))

pub ends_early : (s : List ℕ) → (Permitted (s ++ 10 ∷ []) → ⊥) → Begins (s ++ 10 ∷ []) → ⊥
unfolding run
ends_early s n b =
    ends_whole (run begin s) (step (run begin s) 10) s (run-append begin s (10 ∷ [])) (moved (run begin s) 10 s (run_reached begin [] s begin_reached)) n b
