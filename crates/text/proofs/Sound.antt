-- What was read is what the state shows, so a text that is read to its end is the text of the table that it gives, and that table is within the limits.
-- Assumes nothing.
use Prim.Native.Nat.{ℕ, zero, suc, ◌+◌, ◌*◌, ◌≤◌, ◌<◌}
use mathlib.Core.Path.{◌≡◌, refl, sym, ◌∙◌, ap, ap₂, subst}
use mathlib.Core.List.{List, [], ◌∷◌, ◌++◌, append_assoc, append-nil}
use mathlib.Core.Bool.{true}
use native.Mathlib.Omega.{arith}
use lib.ListN.{length, length-append}
use lib.Seq.{append_snoc}
use lib.Dec.{ltb, eqb}
use borrow.Author.Tests.{ltb-true, eqb-true}
use Rattle.weights.specs.declared.Measure.{Measure}
use Rattle.weights.specs.declared.Measure.TheVariants.{Cost, Days, Grade}
use Rattle.weights.specs.Figures.{greatest, standing, struck_mark}
use Rattle.columns.specs.Acceptance.{most_vertices, most_edges, most_listed, all_below}
use Rattle.text.specs.Tables.{Edge, edge, Table, listed_in_all}
use Rattle.text.specs.Render.{digits, letters, word, first_word, measure_text, header, mark_text, own_text, tail_text, edge_text, edges_text, table_text, text_of}
use Rattle.text.specs.Machine.{
  Place,
  Vertices,
  Head,
  Own,
  Listed,
  State,
  Spelling,
  Naming,
  First,
  Within,
  Failed,
  begun,
  with_edge,
  next_line,
  may_list,
  limit,
  digit_of,
  grown,
  instead,
  after,
  spell,
  named,
  ended,
  step,
  run,
  Whole,
  Wrong,
  finish,
  begin,
  parse,
}
use Rattle.text.proofs.Digits.{pick_by, digits_one, digits_more, digit_byte}
use Rattle.text.specs.Rows.{EdgeFits, none, WithinLimits}
use Rattle.text.proofs.Rows.{all_snoc, below_snoc, total_snoc}

-- Texts of one more ----------------------------------------------------------------------------------------------------------------------

edges_text-append : (es fs : List Edge) → edges_text (es ++ fs) ≡ edges_text es ++ edges_text fs
unfolding edges_text
edges_text-append [] fs = refl
edges_text-append (e ∷ es) fs = rw (edges_text-append es fs, append_assoc (edge_text e ++ 10 ∷ []) (edges_text es) (edges_text fs))

pub tail_text-append : (vs us : List ℕ) → tail_text (vs ++ us) ≡ tail_text vs ++ tail_text us
unfolding tail_text
tail_text-append [] us = refl
tail_text-append (v ∷ vs) us = ap (λ (l : List ℕ). 32 ∷ (digits v ++ l)) (tail_text-append vs us) ∙ ap (λ (l : List ℕ). 32 ∷ l) (sym (append_assoc (digits v) (tail_text vs) (tail_text us)))

pub edges_text_snoc : (es : List Edge) (e : Edge) → edges_text (es ++ e ∷ []) ≡ edges_text es ++ (edge_text e ++ 10 ∷ [])
unfolding edges_text
edges_text_snoc es e = edges_text-append es (e ∷ []) ∙ ap (λ (l : List ℕ). edges_text es ++ l) (append-nil (edge_text e ++ 10 ∷ []))

pub tail_text_snoc : (vs : List ℕ) (v : ℕ) → tail_text (vs ++ v ∷ []) ≡ tail_text vs ++ (32 ∷ digits v)
unfolding tail_text
tail_text_snoc vs v = tail_text-append vs (v ∷ []) ∙ ap (λ (l : List ℕ). tail_text vs ++ l) (append-nil (32 ∷ digits v))

text_more : (t : Table) (e : Edge) → text_of (with_edge t e) ≡ (text_of t ++ edge_text e) ++ 10 ∷ []
unfolding table_text
text_more t e = rw (edges_text_snoc t.edges e) (simp append_assoc)

pub text_begun : (n : ℕ) (m : Measure) → text_of (begun n m) ≡ (first_word ++ digits n) ++ measure_text m
unfolding table_text header edges_text
text_begun n m = append-nil _

begun_fits : (n : ℕ) (m : Measure) → n ≤ most_vertices → WithinLimits (begun n m)
unfolding listed_in_all
begun_fits n m h = record { vertices = h; edges = omega arith; listed = omega arith; each = none }

-- What a state shows ---------------------------------------------------------------------------------------------------------------------

unfoldable pub before : Place → List ℕ
before Vertices = first_word
before (Head t) = text_of t
before (Own t h k) = ((text_of t ++ digits h) ++ 32 ∷ []) ++ mark_text k
before (Listed t h o k xs) = (text_of t ++ edge_text (edge h o k xs)) ++ 32 ∷ []

-- a line that may end here
pub record EdgeSits (t : Table) (h o k : ℕ) (xs : List ℕ) : Type 0 where
  pub fits : WithinLimits t
  pub room : length t.edges < most_edges
  pub one_more : EdgeFits t.vertices (edge h o k xs)
  pub listed : listed_in_all t.edges + length xs ≤ most_listed

abbrev pub Sits : Place → Type 0
Sits Vertices = Unit {0}
Sits (Head t) = WithinLimits t
Sits (Own t h k) = EdgeSits t h 0 k []
Sits (Listed t h o k xs) = EdgeSits t h o k xs × (length xs < may_list t)

abbrev pub InPlace : Place → ℕ → Type 0
InPlace Vertices v = v ≤ most_vertices
InPlace (Head t) v = (v < t.vertices) × (length t.edges < most_edges)
InPlace (Own t h k) v = v ≤ greatest
InPlace (Listed t h o k xs) v = v < t.vertices

-- of a word's bytes the last is LF if the second line begins behind it, and no other is
abbrev pub LastOf : Place → ℕ → Type 0
LastOf Vertices w = w ≡ 10 → ⊥
LastOf (Head t) w = (w ≡ 10) × (next_line t ≡ 2)
LastOf (Own t h k) w = ⊥
LastOf (Listed t h o k xs) w = ⊥

abbrev pub Spells : List ℕ → Place → Type 0
Spells [] p = ⊥
Spells (w ∷ []) p = LastOf p w
Spells (w ∷ v ∷ ws) p = (w ≡ 10 → ⊥) × Spells (v ∷ ws) p

-- the bytes s are read, and the state is sound
abbrev pub Reached : State → List ℕ → Type 0
Reached (Spelling ws p) s = (s ++ ws ≡ before p) × Sits p × Spells ws p
Reached (Naming n) s = (s ≡ (first_word ++ digits n) ++ 32 ∷ []) × (n ≤ most_vertices)
Reached (First p) s = (before p ≡ s) × Sits p
Reached (Within p v) s = (before p ++ digits v ≡ s) × Sits p × InPlace p v
Reached (Failed l) s = Unit {0}

pub begin_reached : Reached begin []
unfolding first_word before
begin_reached = (refl, tt, ((λ e. omega arith), ((λ e. omega arith), ((λ e. omega arith), ((λ e. omega arith), ((λ e. omega arith), (λ e. omega arith)))))))

-- A step ---------------------------------------------------------------------------------------------------------------------------------

placed : (p : Place) (v : ℕ) → v < limit p → InPlace p v
unfolding limit
placed Vertices v l = omega arith
placed (Head t) v l =
    pick_by (λ (m : ℕ). v < m → (v < t.vertices) × (length t.edges < most_edges)) (ltb (length t.edges) most_edges)
    (λ e l. (l, ltb-true _ _ e)) (λ e l. absurd (none_below l)) l
  where
    none_below : v < 0 → ⊥
    none_below l = omega arith
placed (Own t g k) v l = omega arith
placed (Listed t g o k xs) v l = l

grown_reached : (p : Place) (v : ℕ) (s : List ℕ) → Sits p → before p ++ digits v ≡ s → Reached (grown p v) s
unfolding grown
grown_reached p v s sits e = pick_by (λ (σ : State). Reached σ s) (ltb v (limit p)) (λ l. (e, sits, placed p v (ltb-true _ _ l))) (λ f. tt)

edge_done : (t : Table) (h o k : ℕ) (xs : List ℕ) → EdgeSits t h o k xs → WithinLimits (with_edge t (edge h o k xs))
edge_done t h o k xs g = record {
  vertices = g.fits.vertices;
  edges = simp length-append (let r = g.room in omega arith);
  listed = simp total_snoc (let r = g.listed in omega arith);
  each = all_snoc g.fits.each g.one_more;
}

-- the byte read is the one that may stand there
joined : {l s : List ℕ} (b c : ℕ) → l ≡ s → eqb b c ≡ true → l ++ c ∷ [] ≡ s ++ b ∷ []
joined b c e f = ap₂ (λ (l : List ℕ) (x : ℕ). l ++ x ∷ []) e (sym (eqb-true b c f))

after_reached : (t : Table) (h o k : ℕ) (xs : List ℕ) (b : ℕ) (s : List ℕ) → EdgeSits t h o k xs → text_of t ++ edge_text (edge h o k xs) ≡ s → Reached (after t h o k xs b) (s ++ b ∷ [])
unfolding after before
after_reached t h o k xs b s g e =
    let P : State → Type 0 = λ σ. Reached σ (s ++ b ∷ []) in
    pick_by P (eqb b 32)
    (λ f. pick_by P (ltb (length xs) (may_list t)) (λ l. (joined b 32 e f, (g, ltb-true _ _ l))) (λ l. tt))
    (λ _. pick_by P (eqb b 10) (λ f. (text_more t (edge h o k xs) ∙ joined b 10 e f, edge_done t h o k xs g)) (λ f. tt))

head_sits : (t : Table) (h o k : ℕ) → WithinLimits t → length t.edges < most_edges → h < t.vertices → o ≤ greatest → k ≤ struck_mark → EdgeSits t h o k []
unfolding all_below
head_sits t h o k f r v l m = record {
  fits = f;
  room = r;
  one_more = record { head = v; own = l; mark = m; short = omega arith; tail = refl };
  listed = let q = f.listed in omega arith;
}

-- behind its head a line may have another own figure and another mark
own_sits : (t : Table) (h o k o' k' : ℕ) → EdgeSits t h o k [] → o' ≤ greatest → k' ≤ struck_mark → EdgeSits t h o' k' []
own_sits t h o k o' k' g l m = head_sits t h o' k' g.fits g.room g.one_more.head l m

listed_sits : (t : Table) (h o k : ℕ) (xs : List ℕ) (v : ℕ) → EdgeSits t h o k xs → length xs < may_list t → v < t.vertices → EdgeSits t h o k (xs ++ v ∷ [])
listed_sits t h o k xs v g r l =
    let n = length-append xs (v ∷ []) in
    let m = g.one_more in
    record {
      fits = g.fits;
      room = g.room;
      one_more = record { head = m.head; own = m.own; mark = m.mark; short = omega arith; tail = below_snoc t.vertices xs v m.tail l };
      listed = omega arith;
    }

own_text_lem : (t : Table) (h o k : ℕ) → text_of t ++ edge_text (edge h o k []) ≡ (((text_of t ++ digits h) ++ 32 ∷ []) ++ mark_text k) ++ digits o
unfolding edge_text own_text tail_text
own_text_lem t h o k = simp (append_assoc, append-nil)

listed_text : (t : Table) (h o k : ℕ) (xs : List ℕ) (v : ℕ) → text_of t ++ edge_text (edge h o k (xs ++ v ∷ [])) ≡ ((text_of t ++ edge_text (edge h o k xs)) ++ 32 ∷ []) ++ digits v
unfolding edge_text
listed_text t h o k xs v = rw (tail_text_snoc xs v) (simp append_assoc)

spell_reached : (ws : List ℕ) (p : Place) (b : ℕ) (s : List ℕ) → s ++ ws ≡ before p → Sits p → Spells ws p → Reached (spell ws p b) (s ++ b ∷ [])
unfolding spell
spell_reached [] p b s e g w = absurd w
spell_reached (w ∷ []) p b s e g r = pick_by (λ (σ : State). Reached σ (s ++ b ∷ [])) (eqb b w) (λ f. (sym e ∙ joined {l = s} b w refl f, g)) (λ f. tt)
spell_reached (w ∷ v ∷ ws) p b s e g r =
    pick_by (λ (σ : State). Reached σ (s ++ b ∷ [])) (eqb b w)
    (λ f. (append_snoc s b (v ∷ ws) ∙ ap (λ (x : ℕ). s ++ x ∷ v ∷ ws) (eqb-true b w f) ∙ e, g, r.1)) (λ f. tt)

pub word_spells : (m : Measure) (n : ℕ) → Spells (measure_text m) (Head (begun n m))
unfolding measure_text word
word_spells Cost n = ((λ e. omega arith), ((λ e. omega arith), ((λ e. omega arith), ((λ e. omega arith), ((λ e. omega arith), (refl, refl))))))
word_spells Days n = (refl, refl)
word_spells Grade n = ((λ e. omega arith), ((λ e. omega arith), ((λ e. omega arith), ((λ e. omega arith), ((λ e. omega arith), ((λ e. omega arith), (refl, refl)))))))

-- behind the space
pub cost_spells : (n : ℕ) → Spells (letters Cost ++ 10 ∷ []) (Head (begun n Cost))
unfolding measure_text word
cost_spells n = (word_spells Cost n).1

pub grade_spells : (n : ℕ) → Spells (letters Grade ++ 10 ∷ []) (Head (begun n Grade))
unfolding measure_text word
grade_spells n = (word_spells Grade n).1

named_reached : (n b : ℕ) (s : List ℕ) → s ≡ (first_word ++ digits n) ++ 32 ∷ [] → n ≤ most_vertices → Reached (named n b) (s ++ b ∷ [])
unfolding named before measure_text word
named_reached n b s e h =
    let to : (ws : List ℕ) → s ++ ws ≡ (first_word ++ digits n) ++ 32 ∷ ws = λ ws. ap (λ (l : List ℕ). l ++ ws) e ∙ append_snoc (first_word ++ digits n) 32 ws in
    pick_by (λ (σ : State). Reached σ (s ++ b ∷ [])) (eqb b 99)
    (λ _. spell_reached (letters Cost ++ 10 ∷ []) (Head (begun n Cost)) b s (to (letters Cost ++ 10 ∷ []) ∙ sym (text_begun n Cost)) (begun_fits n Cost h) (cost_spells n))
    (λ _. spell_reached (letters Grade ++ 10 ∷ []) (Head (begun n Grade)) b s (to (letters Grade ++ 10 ∷ []) ∙ sym (text_begun n Grade)) (begun_fits n Grade h) (grade_spells n))

ended_reached : (p : Place) (v b : ℕ) → Sits p → InPlace p v → Reached (ended p v b) ((before p ++ digits v) ++ b ∷ [])
unfolding ended before mark_text measure_text word
ended_reached Vertices v b s h =
    pick_by (λ (σ : State). Reached σ ((first_word ++ digits v) ++ b ∷ [])) (eqb b 10)
    (λ e. (text_begun v Days ∙ joined {l = first_word ++ digits v} b 10 refl e, begun_fits v Days h))
    (λ _. pick_by (λ (σ : State). Reached σ ((first_word ++ digits v) ++ b ∷ [])) (eqb b 32) (λ e. (sym (joined {l = first_word ++ digits v} b 32 refl e), h)) (λ f. tt))
ended_reached (Head t) v b s h =
    pick_by (λ (σ : State). Reached σ ((text_of t ++ digits v) ++ b ∷ [])) (eqb b 32)
    (λ e. (append-nil _ ∙ joined {l = text_of t ++ digits v} b 32 refl e, head_sits t v 0 standing s h.1 h.0 (omega arith) (omega arith))) (λ f. tt)
ended_reached (Own t g k) v b s h = after_reached t g v k [] b _ (own_sits t g 0 k v k s h s.one_more.mark) (own_text_lem t g v k)
ended_reached (Listed t g o k xs) v b s h = after_reached t g o k (xs ++ v ∷ []) b _ (listed_sits t g o k xs v s.0 s.1 h) (listed_text t g o k xs v)

instead_reached : (p : Place) (b : ℕ) (s : List ℕ) → before p ≡ s → Sits p → Reached (instead p b) (s ++ b ∷ [])
unfolding instead before mark_text
instead_reached Vertices b s e h = tt
instead_reached (Head t) b s e h = tt
instead_reached (Own t g zero) b s e h =
    pick_by (λ (σ : State). Reached σ (s ++ b ∷ [])) (eqb b 45)
    (λ f. (joined {l = (text_of t ++ digits g) ++ 32 ∷ []} b 45 (sym (append-nil _) ∙ e) f, own_sits t g 0 standing 0 struck_mark h (omega arith) (omega arith))) (λ f. tt)
instead_reached (Own t g (suc k)) b s e h = tt
instead_reached (Listed t g o k xs) b s e h = tt

grew : (p : Place) (b : ℕ) (s : List ℕ) → before p ≡ s → digit_of b < 10 → before p ++ digits (digit_of b) ≡ s ++ b ∷ []
grew p b s e l = ap₂ (λ (u w : List ℕ). u ++ w) e (digits_one (digit_of b) l ∙ ap (λ (x : ℕ). x ∷ []) (sym (digit_byte b l)))

grew_more : (p : Place) (v b : ℕ) (s : List ℕ) → before p ++ digits v ≡ s → digit_of b < 10 → 0 < v → before p ++ digits (10 * v + digit_of b) ≡ s ++ b ∷ []
grew_more p v b s e l pos =
    ap (λ (u : List ℕ). before p ++ u) (digits_more v (digit_of b) pos l)
    ∙ sym (append_assoc (before p) (digits v) ((48 + digit_of b) ∷ []))
    ∙ ap₂ (λ (u : List ℕ) (x : ℕ). u ++ x ∷ []) e (sym (digit_byte b l))

pub step_reached : (σ : State) (b : ℕ) (s : List ℕ) → Reached σ s → Reached (step σ b) (s ++ b ∷ [])
unfolding step
step_reached (Spelling ws p) b s r = spell_reached ws p b s r.0 r.1 r.2
step_reached (Naming n) b s r = named_reached n b s r.0 r.1
step_reached (First p) b s r =
    pick_by (λ (σ : State). Reached σ (s ++ b ∷ [])) (ltb (digit_of b) 10)
    (λ e. grown_reached p (digit_of b) _ r.1 (grew p b s r.0 (ltb-true _ _ e)))
    (λ f. instead_reached p b s r.0 r.1)
step_reached (Within p v) b s r =
    pick_by (λ (σ : State). Reached σ (s ++ b ∷ [])) (ltb (digit_of b) 10)
    (λ e. pick_by (λ (σ : State). Reached σ (s ++ b ∷ [])) (ltb 0 v) (λ f. grown_reached p (10 * v + digit_of b) _ r.1 (grew_more p v b s r.0 (ltb-true _ _ e) (ltb-true _ _ f))) (λ f. tt))
    (λ f. subst (λ (u : List ℕ). Reached (ended p v b) (u ++ b ∷ [])) r.0 (ended_reached p v b r.1 r.2))
step_reached (Failed l) b s r = tt

-- A run ----------------------------------------------------------------------------------------------------------------------------------

pub run_reached : (σ : State) (s bs : List ℕ) → Reached σ s → Reached (run σ bs) (s ++ bs)
unfolding run
run_reached σ s [] r = subst (λ (u : List ℕ). Reached σ u) (sym (append-nil s)) r
run_reached σ s (b ∷ bs) r = subst (λ (u : List ℕ). Reached (run (step σ b) bs) u) (append_snoc s b bs) (run_reached (step σ b) (s ++ b ∷ []) bs (step_reached σ b s r))

pub never : {l : ℕ} {t : Table} → Wrong l ≡ Whole t → ⊥
never {l} {t} e = let z : ◌≡◌ {A = ℕ} 0 1 = cc in omega arith

finished : (σ : State) (s : List ℕ) (t : Table) → Reached σ s → finish σ ≡ Whole t → WithinLimits t × (s ≡ text_of t)
unfolding finish before
finished (Spelling ws p) s t r e = absurd (never e)
finished (Naming n) s t r e = absurd (never e)
finished (First Vertices) s t r e = absurd (never e)
finished (First (Head u)) s t r e = let q : u ≡ t = cc in subst (λ (w : Table). WithinLimits w × (s ≡ text_of w)) q (r.1, sym r.0)
finished (First (Own u h k)) s t r e = absurd (never e)
finished (First (Listed u h o k xs)) s t r e = absurd (never e)
finished (Within p v) s t r e = absurd (never e)
finished (Failed l) s t r e = absurd (never e)

pub sound : (s : List ℕ) (t : Table) → parse s ≡ Whole t → WithinLimits t × (s ≡ text_of t)
unfolding parse
sound s t e = finished (run begin s) s t (run_reached begin [] s begin_reached) e
