-- Every table within the limits is read back from its text. Assumes nothing.
use Prim.Native.Nat.{ℕ, zero, suc, ◌+◌, ◌*◌, ◌≤◌, ◌<◌}
use mathlib.Core.Path.{◌≡◌, refl, sym, ◌∙◌, ap}
use mathlib.Core.List.{List, [], ◌∷◌, ◌++◌, append_assoc, append-nil}
use mathlib.Core.Bool.{Bool, true}
use native.Mathlib.Omega.{arith}
use lib.ListN.{length, length-append}
use lib.Seq.{append_snoc}
use borrow.Author.Tests.{lt-ltb, eq-eqb}
use Rattle.weights.specs.declared.Measure.{Measure}
use Rattle.weights.specs.declared.Measure.TheVariants.{Cost, Days, Grade}
use Rattle.weights.specs.Figures.{greatest, struck_mark, standing}
use Rattle.weights.specs.Choice.{pick}
use Rattle.columns.specs.Acceptance.{most_vertices, most_edges, most_listed, all_below}
use Rattle.columns.proofs.Accepted.{below_at}
use Rattle.text.specs.Tables.{Edge, edge, Table, listed_in_all}
use Rattle.text.specs.Render.{digits, word, first_word, measure_text, header, mark_text, own_text, tail_text, edge_text, edges_text, table_text, text_of}
use Rattle.text.specs.Machine.{
  Place,
  Vertices,
  Head,
  Own,
  Listed,
  State,
  Spelling,
  First,
  Within,
  Failed,
  begun,
  with_edge,
  may_list,
  limit,
  digit_of,
  grown,
  instead,
  after,
  spell,
  named,
  ended,
  step,
  run,
  Whole,
  finish,
  begin,
  parse,
}
use Rattle.text.proofs.Digits.{digits_one, digits_more, byte_digit, by_digits}
use Rattle.text.specs.Rows.{EdgeFits, All, one, WithinLimits}
use Rattle.text.proofs.Rows.{total_append}

-- reading what is joined is reading twice
pub run-append : (σ : State) (a b : List ℕ) → run σ (a ++ b) ≡ run (run σ a) b
unfolding run
run-append σ [] b = refl
run-append σ (x ∷ a) b = run-append (step σ x) a b

-- Numbers and words ------------------------------------------------------------------------------------------------------------------------

grown_is : (p : Place) (v : ℕ) → v < limit p → grown p v ≡ Within p v
unfolding grown
grown_is p v h = rw (lt-ltb _ _ h)

first_digit : (p : Place) (d : ℕ) → d < 10 → d < limit p → step (First p) (48 + d) ≡ Within p d
unfolding step
first_digit p d h l = rw (byte_digit d h, lt-ltb d 10 h) (grown_is p d l)

next_digit : (p : Place) (v d : ℕ) → 0 < v → d < 10 → 10 * v + d < limit p → step (Within p v) (48 + d) ≡ Within p (10 * v + d)
unfolding step
next_digit p v d pos h l = rw (byte_digit d h, lt-ltb d 10 h, lt-ltb 0 v pos) (grown_is p (10 * v + d) l)

number_ended : (p : Place) (v b : ℕ) → digit_of b ≡ 10 → step (Within p v) b ≡ ended p v b
unfolding step
number_ended p v b e = rw e

run-digits : (p : Place) (v : ℕ) → v < limit p → run (First p) (digits v) ≡ Within p v
unfolding run
run-digits p =
    by_digits (λ (v : ℕ). v < limit p → run (First p) (digits v) ≡ Within p v)
    (λ d h l. rw (digits_one d h) (first_digit p d h l))
    (λ v d pos h rec l. rw (digits_more v d pos h, run-append (First p) (digits v) ((48 + d) ∷ []), rec (omega arith)) (next_digit p v d pos h l))

-- an own figure, with `-` before it or without
run-own : (t : Table) (h o k : ℕ) → o ≤ greatest → k ≤ struck_mark → run (First (Own t h standing)) (own_text o k) ≡ Within (Own t h k) o
unfolding mark_text own_text run step instead limit digit_of
run-own t h o zero l m = run-digits (Own t h 0) o (omega arith)
run-own t h o (suc zero) l m = run-digits (Own t h 1) o (omega arith)
run-own t h o (suc (suc k)) l m = absurd (omega arith)

-- a word is spelled to its end
pub run-word : (w : ℕ) (ws : List ℕ) (p : Place) → run (Spelling (w ∷ ws) p) (w ∷ ws) ≡ First p
unfolding run step spell
run-word w [] p = rw (eq-eqb w w refl)
run-word w (v ∷ ws) p = ap (λ (c : Bool). run (pick c (Spelling (v ∷ ws) p) (Failed 1)) (v ∷ ws)) (eq-eqb w w refl) ∙ run-word v ws p

-- Lines ------------------------------------------------------------------------------------------------------------------------------------

after_space : (t : Table) (h o k : ℕ) (xs : List ℕ) → length xs < may_list t → after t h o k xs 32 ≡ First (Listed t h o k xs)
unfolding after
after_space t h o k xs l = rw (lt-ltb _ _ l)

after_end : (t : Table) (h o k : ℕ) (xs : List ℕ) → after t h o k xs 10 ≡ First (Head (with_edge t (edge h o k xs)))
unfolding after
after_end t h o k xs = refl

-- σ stands behind the parts xs
Behind : Table → (h o k : ℕ) → List ℕ → State → Type 0
Behind t h o k xs σ = (b : ℕ) → digit_of b ≡ 10 → step σ b ≡ after t h o k xs b

below_first : (n v : ℕ) (vs : List ℕ) → all_below n (v ∷ vs) ≡ true → v < n
below_first n v vs e = below_at n (v ∷ vs) e 0 (omega arith)

below_rest : (n v : ℕ) (vs : List ℕ) → all_below n (v ∷ vs) ≡ true → all_below n vs ≡ true
unfolding all_below
below_rest n v vs e = rw (lt-ltb v n (below_first n v vs e)) at e

run-tail : (t : Table) (h o k : ℕ) (vs xs : List ℕ) (σ : State) → Behind t h o k xs σ → all_below t.vertices vs ≡ true → length (xs ++ vs) ≤ may_list t
    → run σ (tail_text vs ++ 10 ∷ []) ≡ First (Head (with_edge t (edge h o k (xs ++ vs))))
unfolding run Behind tail_text digit_of limit ended
run-tail t h o k [] xs σ w a l = w 10 refl ∙ after_end t h o k xs ∙ ap (λ (z : List ℕ). First (Head (with_edge t (edge h o k z)))) (sym (append-nil xs))
run-tail t h o k (v ∷ vs) xs σ w a l =
    let q : length (xs ++ v ∷ vs) ≡ length xs + suc (length vs) = length-append xs (v ∷ vs) in
    let q' : length ((xs ++ v ∷ []) ++ vs) ≡ length (xs ++ v ∷ vs) = ap length (append_snoc xs v vs) in
    ap (λ (τ : State). run τ ((digits v ++ tail_text vs) ++ 10 ∷ [])) (w 32 refl ∙ after_space t h o k xs (omega arith))
    ∙ ap (run (First (Listed t h o k xs))) (append_assoc (digits v) (tail_text vs) (10 ∷ []))
    ∙ run-append (First (Listed t h o k xs)) (digits v) (tail_text vs ++ 10 ∷ [])
    ∙ ap (λ (τ : State). run τ (tail_text vs ++ 10 ∷ [])) (run-digits (Listed t h o k xs) v (below_first t.vertices v vs a))
    ∙ run-tail t h o k vs (xs ++ v ∷ []) (Within (Listed t h o k xs) v) (number_ended (Listed t h o k xs) v) (below_rest t.vertices v vs a) (omega arith)
    ∙ ap (λ (z : List ℕ). First (Head (with_edge t (edge h o k z)))) (append_snoc xs v vs)

run-edge : (t : Table) (e : Edge) → length t.edges < most_edges → EdgeFits t.vertices e → listed_in_all t.edges + length e.tail ≤ most_listed
    → run (First (Head t)) (edge_text e ++ 10 ∷ []) ≡ First (Head (with_edge t e))
unfolding edge_text limit Behind ended run digit_of
run-edge t e r f m =
    let line = tail_text e.tail ++ 10 ∷ [] in
    let own = own_text e.own e.mark in
    let place = Own t e.head e.mark in
    let s = f.short in
    ap (run (First (Head t))) (append_assoc (digits e.head ++ 32 ∷ own) (tail_text e.tail) (10 ∷ []) ∙ append_assoc (digits e.head) (32 ∷ own) line)
    ∙ run-append (First (Head t)) (digits e.head) (32 ∷ (own ++ line))
    ∙ ap (λ (σ : State). run σ (32 ∷ (own ++ line))) (run-digits (Head t) e.head (rw (lt-ltb _ _ r) f.head))
    ∙ ap (λ (σ : State). run σ (own ++ line)) (number_ended (Head t) e.head 32 refl)
    ∙ run-append (First (Own t e.head standing)) own line
    ∙ ap (λ (σ : State). run σ line) (run-own t e.head e.own e.mark f.own f.mark)
    ∙ run-tail t e.head e.own e.mark e.tail [] (Within place e.own) (number_ended place e.own) f.tail (omega arith)

abbrev table_is : ℕ → Measure → List Edge → Table
table_is n m es = record { vertices = n; measure = m; edges = es }

run_edges : (n : ℕ) (m : Measure) (fs es : List Edge) → length (es ++ fs) ≤ most_edges → listed_in_all (es ++ fs) ≤ most_listed → All (EdgeFits n) fs
    → run (First (Head (table_is n m es))) (edges_text fs) ≡ First (Head (table_is n m (es ++ fs)))
unfolding edges_text run listed_in_all
run_edges n m [] es r s a = ap (λ (z : List Edge). First (Head (table_is n m z))) (sym (append-nil es))
run_edges n m (e ∷ fs) es r s (one f a) =
    let q : length (es ++ e ∷ fs) ≡ length es + suc (length fs) = length-append es (e ∷ fs) in
    let q' : length ((es ++ e ∷ []) ++ fs) ≡ length (es ++ e ∷ fs) = ap length (append_snoc es e fs) in
    let p : listed_in_all (es ++ e ∷ fs) ≡ listed_in_all es + (length e.tail + listed_in_all fs) = total_append es (e ∷ fs) in
    let p' : listed_in_all ((es ++ e ∷ []) ++ fs) ≡ listed_in_all (es ++ e ∷ fs) = ap listed_in_all (append_snoc es e fs) in
    run-append (First (Head (table_is n m es))) (edge_text e ++ 10 ∷ []) (edges_text fs)
    ∙ ap (λ (σ : State). run σ (edges_text fs)) (run-edge (table_is n m es) e (omega arith) f (omega arith))
    ∙ run_edges n m fs (es ++ e ∷ []) (omega arith) (omega arith) a
    ∙ ap (λ (z : List Edge). First (Head (table_is n m z))) (append_snoc es e fs)

run-header : (n : ℕ) (m : Measure) → n ≤ most_vertices → run begin (header n m) ≡ First (Head (begun n m))
unfolding header limit
run-header n m h =
    run-append begin (first_word ++ digits n) (measure_text m)
    ∙ ap (λ (σ : State). run σ (measure_text m)) (run-append begin first_word (digits n) ∙ ap (λ (σ : State). run σ (digits n)) opened ∙ run-digits Vertices n (omega arith))
    ∙ measured m
  where
    opened : run begin first_word ≡ First Vertices
    opened = unfold first_word in run-word 112 _ Vertices

    measured : (m : Measure) → run (Within Vertices n) (measure_text m) ≡ First (Head (begun n m))
    measured Cost = unfold run step spell named measure_text word digit_of ended in refl
    measured Days = unfold run step measure_text word digit_of ended in refl
    measured Grade = unfold run step spell named measure_text word digit_of ended in refl

pub run_text : (t : Table) → WithinLimits t → run begin (text_of t) ≡ First (Head t)
unfolding table_text
run_text t f =
    run-append begin (header t.vertices t.measure) (edges_text t.edges)
    ∙ ap (λ (σ : State). run σ (edges_text t.edges)) (run-header t.vertices t.measure f.vertices)
    ∙ run_edges t.vertices t.measure t.edges [] f.edges f.listed f.each

pub complete : (t : Table) → WithinLimits t → parse (text_of t) ≡ Whole t
unfolding parse finish
complete t f = ap finish (run_text t f)
