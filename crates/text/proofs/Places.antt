-- The place of refusal 14: the first line with which the lines so far are not the text of a table. The paper's "14 at the first text line that breaks a
-- rule (…; bytes after the last LF are one more line, which breaks the form)". Assumes nothing.
use Prim.Native.Nat.{ℕ, zero, suc, ◌+◌, ◌*◌, ◌-◌, ◌<◌}
use mathlib.Core.Path.{◌≡◌, refl, sym, ◌∙◌, ap, ap₂, subst}
use mathlib.Core.List.{List, [], ◌∷◌, ◌++◌}
use mathlib.Core.Bool.{Bool, true, false}
use native.Mathlib.Omega.{arith}
use native.Mathlib.Nat.{not-suc-le-zero, le_of_suc-le-suc, add-zero}
use lib.ListN.{length, length-append}
use lib.Dec.{ltb, eqb}
use borrow.Author.Tests.{ltb-true, eqb-true, eq-eqb, ne_eqb}
use Rattle.weights.specs.Choice.{pick}
use Rattle.text.specs.Tables.{edge, Table}
use Rattle.weights.specs.declared.Measure.TheVariants.{Cost, Grade}
use Rattle.text.specs.Render.{letters}
use Rattle.text.specs.Machine.{
  Place,
  Vertices,
  Head,
  Own,
  Listed,
  State,
  Spelling,
  Naming,
  First,
  Within,
  Failed,
  begun,
  next_line,
  may_list,
  line_at,
  digit_of,
  grown,
  instead,
  after,
  spell,
  named,
  ended,
  step,
  run,
  Whole,
  Wrong,
  finish,
  begin,
  parse,
}
use Rattle.text.proofs.Digits.{pick_by}
use Rattle.text.proofs.Sound.{LastOf, Spells, Reached, begin_reached, cost_spells, grade_spells, step_reached, never}
use Rattle.text.specs.Places.{first_lines}

-- k is the first line that breaks a rule: with it the lines so far are no text that is read, and with each line before it they are
pub record FirstUnread (s : List ℕ) (k : ℕ) : Type 0 where
  pub counted : 0 < k
  pub wrong : (t : Table) → parse (first_lines s k) ≡ Whole t → ⊥
  pub right : (j : ℕ) → 0 < j → j < k → (t : Table) × (parse (first_lines s j) ≡ Whole t)

-- What a step does to the line -----------------------------------------------------------------------------------------------------------

unfoldable pub line_of : State → ℕ
line_of (Spelling ws p) = 1
line_of (Naming n) = 1
line_of (First p) = line_at p
line_of (Within p v) = line_at p
line_of (Failed l) = l

pub data Moved (σ : State) (b : ℕ) : State → Type 0 where
  fails : {l : ℕ} → line_of σ ≡ l → Moved σ b (Failed l)
  stays : {τ : State} → eqb b 10 ≡ false → line_of τ ≡ line_of σ → Moved σ b τ
  ends : {t : Table} → eqb b 10 ≡ true → line_of (First (Head t)) ≡ suc (line_of σ) → Moved σ b (First (Head t))

pub digit_stays : (b : ℕ) → ltb (digit_of b) 10 ≡ true → eqb b 10 ≡ false
unfolding digit_of
digit_stays b e = ne_eqb b 10 (λ q. ten (subst (λ (x : ℕ). digit_of x < 10) q (ltb-true _ _ e)))
  where
    ten : 10 < 10 → ⊥
    ten h = omega arith

other : (b c : ℕ) → eqb b c ≡ true → (c ≡ 10 → ⊥) → eqb b 10 ≡ false
other b c e n = ne_eqb b 10 (λ q. n (sym (eqb-true b c e) ∙ q))

-- the last byte of a word
last_moved : (σ : State) (p : Place) (w b : ℕ) → line_of σ ≡ 1 → LastOf p w → eqb b w ≡ true → Moved σ b (First p)
unfolding line_of line_at
last_moved σ Vertices w b q l e = stays (other b w e l) (sym q)
last_moved σ (Head t) w b q l e = ends (eq-eqb b 10 (eqb-true b w e ∙ l.0)) (l.1 ∙ ap suc (sym q))
last_moved σ (Own t h k) w b q l e = absurd l
last_moved σ (Listed t h o k xs) w b q l e = absurd l

spell_moved : (σ : State) (ws : List ℕ) (p : Place) (b : ℕ) → line_of σ ≡ 1 → Spells ws p → Moved σ b (spell ws p b)
unfolding spell line_of
spell_moved σ [] p b q s = absurd s
spell_moved σ (w ∷ []) p b q s = pick_by (Moved σ b) (eqb b w) (last_moved σ p w b q s) (λ f. fails q)
spell_moved σ (w ∷ v ∷ ws) p b q s = pick_by (Moved σ b) (eqb b w) (λ e. stays (other b w e s.0) (sym q)) (λ f. fails q)

named_moved : (n b : ℕ) → Moved (Naming n) b (named n b)
unfolding named line_of
named_moved n b =
    pick_by (Moved _ b) (eqb b 99) (λ _. spell_moved (Naming n) (letters Cost ++ 10 ∷ []) (Head (begun n Cost)) b refl (cost_spells n))
    (λ _. spell_moved (Naming n) (letters Grade ++ 10 ∷ []) (Head (begun n Grade)) b refl (grade_spells n))

grown_moved : (σ : State) (p : Place) (v b : ℕ) → line_at p ≡ line_of σ → ltb (digit_of b) 10 ≡ true → Moved σ b (grown p v)
unfolding grown line_of
grown_moved σ p v b q e = pick_by (Moved σ b) (ltb v _) (λ f. stays (digit_stays b e) q) (λ f. fails (sym q))

after_moved : (σ : State) (t : Table) (h o k : ℕ) (xs : List ℕ) (b : ℕ) → line_of σ ≡ next_line t → Moved σ b (after t h o k xs b)
unfolding after line_of line_at
after_moved σ t h o k xs b q =
    pick_by (Moved σ b) (eqb b 32)
    (λ f. pick_by (Moved σ b) (ltb (length xs) (may_list t)) (λ l. stays (other b 32 f (λ e. omega arith)) (sym q)) (λ l. fails q))
    (λ _. pick_by (Moved σ b) (eqb b 10) (λ f. ends f (let a = length-append t.edges (edge h o k xs ∷ []) in omega arith)) (λ f. fails q))

ended_moved : (p : Place) (v b : ℕ) → Moved (Within p v) b (ended p v b)
unfolding ended line_of line_at
ended_moved Vertices v b =
    pick_by (Moved _ b) (eqb b 10) (λ f. ends f refl) (λ _.
    pick_by (Moved _ b) (eqb b 32) (λ f. stays (other b 32 f (λ e. omega arith)) refl) (λ f. fails refl))
ended_moved (Head t) v b = pick_by (Moved _ b) (eqb b 32) (λ f. stays (other b 32 f (λ e. omega arith)) refl) (λ f. fails refl)
ended_moved (Own t h k) v b = after_moved (Within (Own t h k) v) t h v k [] b refl
ended_moved (Listed t h o k xs) v b = after_moved (Within (Listed t h o k xs) v) t h o k (xs ++ v ∷ []) b refl

instead_moved : (p : Place) (b : ℕ) → Moved (First p) b (instead p b)
unfolding instead line_of line_at
instead_moved Vertices b = fails refl
instead_moved (Head t) b = fails refl
instead_moved (Own t h zero) b = pick_by (Moved _ b) (eqb b 45) (λ f. stays (other b 45 f (λ e. omega arith)) refl) (λ f. fails refl)
instead_moved (Own t h (suc k)) b = fails refl
instead_moved (Listed t h o k xs) b = fails refl

pub moved : (σ : State) (b : ℕ) (s : List ℕ) → Reached σ s → Moved σ b (step σ b)
unfolding step line_of
moved (Spelling ws p) b s r = spell_moved (Spelling ws p) ws p b refl r.2
moved (Naming n) b s r = named_moved n b
moved (First p) b s r = pick_by (Moved _ b) (ltb (digit_of b) 10) (λ e. grown_moved (First p) p (digit_of b) b refl e) (λ f. instead_moved p b)
moved (Within p v) b s r =
    pick_by (Moved _ b) (ltb (digit_of b) 10) (λ e.
    pick_by (Moved _ b) (ltb 0 v) (λ f. grown_moved (Within p v) p (10 * v + digit_of b) b refl e) (λ f. fails refl)) (λ f. ended_moved p v b)
moved (Failed l) b s r = fails refl

-- The lines of a text ----------------------------------------------------------------------------------------------------------------------

-- Failed stays so
pub run_failed : (l : ℕ) (bs : List ℕ) → run (Failed l) bs ≡ Failed l
unfolding run step
run_failed l [] = refl
run_failed l (b ∷ bs) = run_failed l bs

pub wrong_at : (σ : State) (k : ℕ) → finish σ ≡ Wrong k → line_of σ ≡ k
unfolding finish line_of line_at
wrong_at (Spelling ws p) k e = cc
wrong_at (Naming n) k e = cc
wrong_at (First Vertices) k e = cc
wrong_at (First (Head t)) k e = absurd (never (sym e))
wrong_at (First (Own t h x)) k e = cc
wrong_at (First (Listed t h o x xs)) k e = cc
wrong_at (Within p v) k e = cc
wrong_at (Failed l) k e = cc

-- behind the bytes read, in the line of σ: the refused line is `on` lines on, and each one before it ends where a line may begin
record Behind (σ : State) (bs : List ℕ) (k : ℕ) : Type 0 where
  on : ℕ
  line : line_of σ + on ≡ k
  wrong : (j : ℕ) × (finish (run σ (first_lines bs (suc on))) ≡ Wrong j)
  right : (j : ℕ) → j < on → (t : Table) × (run σ (first_lines bs (suc j)) ≡ First (Head t))

no_lines : (bs : List ℕ) → first_lines bs 0 ≡ []
unfolding first_lines
no_lines [] = refl
no_lines (b ∷ bs) = refl

-- the first lines, by a byte that ends no line and by one that ends one
in_line : (σ τ : State) (b : ℕ) (bs : List ℕ) (m : ℕ) → step σ b ≡ τ → eqb b 10 ≡ false → run σ (first_lines (b ∷ bs) (suc m)) ≡ run τ (first_lines bs (suc m))
unfolding run first_lines
in_line σ τ b bs m q e = ap₂ (λ (ρ : State) (c : Bool). run ρ (first_lines bs (pick c m (suc m)))) q e

line_end : (σ τ : State) (b : ℕ) (bs : List ℕ) (m : ℕ) → step σ b ≡ τ → eqb b 10 ≡ true → run σ (first_lines (b ∷ bs) (suc m)) ≡ run τ (first_lines bs m)
unfolding run first_lines
line_end σ τ b bs m q e = ap₂ (λ (ρ : State) (c : Bool). run ρ (first_lines bs (pick c m (suc m)))) q e

lines_on : (σ : State) (b : ℕ) (bs : List ℕ) (i : ℕ) {t : Table} → step σ b ≡ First (Head t) → eqb b 10 ≡ true
    → ((j : ℕ) → j < i → (u : Table) × (run (First (Head t)) (first_lines bs (suc j)) ≡ First (Head u)))
    → (j : ℕ) → j < suc i → (u : Table) × (run σ (first_lines (b ∷ bs) (suc j)) ≡ First (Head u))
unfolding run
lines_on σ b bs i {t} q y B zero g = (t, line_end σ (First (Head t)) b bs 0 q y ∙ ap (run (First (Head t))) (no_lines bs))
lines_on σ b bs i {t} q y B (suc j) g = ((B j (le_of_suc-le-suc g)).0, line_end σ (First (Head t)) b bs (suc j) q y ∙ (B j (le_of_suc-le-suc g)).1)

next : (σ : State) (b : ℕ) (bs : List ℕ) (k : ℕ) (τ : State) → step σ b ≡ τ → Moved σ b τ → Behind τ bs k → finish (run τ bs) ≡ Wrong k → Behind σ (b ∷ bs) k
unfolding run first_lines finish
next σ b bs k τ q (fails {l} e) B h = record {
  on = 0;
  line = let z : Wrong l ≡ Wrong k = sym (ap finish (run_failed l bs)) ∙ h in add-zero (line_of σ) ∙ e ∙ cc;
  wrong = (l, ap finish (ap (λ (ρ : State). run ρ (first_lines bs (pick (eqb b 10) 0 1))) q ∙ run_failed l (first_lines bs (pick (eqb b 10) 0 1))));
  right = λ j g. absurd (not-suc-le-zero g);
}
next σ b bs k τ q (stays n e) B h = record {
  on = B.on;
  line = ap (λ (x : ℕ). x + B.on) (sym e) ∙ B.line;
  wrong = (B.wrong.0, ap finish (in_line σ τ b bs B.on q n) ∙ B.wrong.1);
  right = λ j g. ((B.right j g).0, in_line σ τ b bs j q n ∙ (B.right j g).1);
}
next σ b bs k τ q (ends {t} y e) B h = record {
  on = suc B.on;
  line = let x = B.line in omega arith;
  wrong = (B.wrong.0, ap finish (line_end σ τ b bs (suc B.on) q y) ∙ B.wrong.1);
  right = λ j g. lines_on σ b bs B.on q y B.right j g;
}

go : (σ : State) (bs s : List ℕ) (k : ℕ) → Reached σ s → finish (run σ bs) ≡ Wrong k → Behind σ bs k
unfolding run first_lines
go σ [] s k r e = record { on = 0; line = add-zero _ ∙ wrong_at σ k e; wrong = (k, e); right = λ j g. absurd (not-suc-le-zero g) }
go σ (b ∷ bs) s k r e = next σ b bs k (step σ b) refl (moved σ b s r) (go (step σ b) bs (s ++ b ∷ []) k (step_reached σ b s r) e) e

pub first_unread : (s : List ℕ) (k : ℕ) → parse s ≡ Wrong k → FirstUnread s k
unfolding parse finish line_of
first_unread s k e =
    let B = go begin s [] k begin_reached e in
    let q : k ≡ suc B.on = let x = B.line in omega arith in
    subst (FirstUnread s) (sym q) (record {
      counted = omega arith;
      wrong = λ t p. never (sym B.wrong.1 ∙ p);
      right = λ j l m. let i : j ≡ suc (j - 1) = omega arith in
          subst (λ (x : ℕ). (t : Table) × (parse (first_lines s x) ≡ Whole t)) (sym i) ((B.right (j - 1) (omega arith)).0, ap finish (B.right (j - 1) (omega arith)).1);
    })
