-- How long the pieces of an output can be: a number by its digits, a row by the range of a table's answers, the line of a refusal by the range of its place.
-- Assumes nothing.
use Prim.Native.Nat.{ℕ, zero, suc, ◌+◌, ◌*◌, ◌^◌, ◌≤◌, ◌<◌}
use mathlib.Core.Path.{◌≡◌, refl, sym, subst}
use mathlib.Core.List.{List, [], ◌∷◌, ◌++◌}
use native.Mathlib.Omega.{arith}
use native.Mathlib.Decide.{ℕ_discrete}
use lib.ListN.{length, take, length-append}
use lib.Seq.{length-take-le}
use lib.Dec.{eqb}
use borrow.Author.Tests.{ne_eqb}
use Rattle.weights.specs.declared.Label.{Label}
use Rattle.weights.specs.declared.Entry.{Entry}
use Rattle.weights.specs.declared.Measure.{Measure}
use Rattle.weights.specs.declared.State.{State}
use Rattle.weights.specs.Choice.{pick}
use Rattle.weights.specs.Figures.{over, is_over}
use Rattle.weights.specs.Labels.{unmade, state_of, entry_of}
use Rattle.weights.specs.Measures.{algebra}
use Rattle.weights.proofs.Laws.{lawful, below_over}
use Rattle.weights.proofs.Weighing.{weigh_within}
use Rattle.refusal.specs.declared.Refusal.{Refusal}
use Rattle.refusal.specs.Refusals.{number_of, place_of, column_of}
use Rattle.refusal.proofs.Refusals.{numbered}
use Rattle.provenance.specs.Hypergraph.{Derivation, node, weight, weights, root}
use Rattle.provenance.specs.Means.{Means, underivable, derivable}
use Rattle.columns.specs.Columns.{Entries, Columns, own_at, cell}
use Rattle.provenance.specs.BestFirst.{labels}
use Rattle.tables.specs.Table.{hypergraph}
use Rattle.columns.specs.Acceptance.{most_vertices, most_edges, acceptance}
use Rattle.columns.proofs.Accepted.{table_accepted}
use Rattle.settle.specs.Settling.{answers_of, entries_of, entry_at}
use Rattle.provenance.specs.Pieces.{most_pieces}
use Rattle.provenance.proofs.Pieces.{pieces_most}
use Rattle.settle.proofs.Demands.{answers_fixpoint, answers_means, entries_at, entries_mean}
use Rattle.text.specs.Render.{digits, tail_text}
use Rattle.text.proofs.Digits.{pick_by}
use Rattle.text.specs.Machine.{begin}
use Rattle.text.specs.Bytes.{failing_at, column_from, column_of as text_column}
use Rattle.text.proofs.Bytes.{survived_inside}
use Rattle.writing.proofs.Widths.{width_one, width_2, width_4, width_5, width_10, width_13, width_20}
use Rattle.report.specs.Report.{most_output, most_refusal, names, state_word, row, rows, list, refused_word, refused_with, refused_line}
use Rattle.std.specs.Prelude.{Ok}

-- The answers of a table -----------------------------------------------------------------------------------------------------------------------

module _ (c : Columns) where
  -- in every measure a make-up's figure is at most "over"
  weight_most : (m : Measure) {v : ℕ} (d : Derivation (hypergraph c) v) → weight (algebra m) (own_at c) d ≤ over
  unfolding weight
  weight_most m (node e s h ds) = below_over m (weigh_within (lawful m) (own_at c e) (weights (algebra m) (own_at c) ds))

  root_below : {v : ℕ} (d : Derivation (hypergraph c) v) → root d < length c.heads
  unfolding root
  root_below (node e s h ds) = s.numbered

-- what the numbers of a label can be
pub record Ranged (l : Label) : Type 0 where
  pub weight : l.weight.0 ≤ over
  pub depth : l.depth ≤ most_vertices
  pub edge : l.edge.0 ≤ most_edges
  pub blank : l.depth ≡ 0 → l ≡ unmade

-- and what its piece count can be
pub record RangedEntry (a : Entries) (v : ℕ) : Type 0 where
  pub label : Ranged (labels a.labels v)
  pub pieces : cell a.pieces v ≤ most_pieces

ranged_unmade : Ranged unmade
ranged_unmade = record { weight = omega arith; depth = omega arith; edge = omega arith; blank = λ _. refl }

-- the numbers of an accepted table's entries
pub answers_ranged : (m : Measure) (c : Columns) → acceptance c ≡ Ok tt → (v : ℕ) → RangedEntry (entries_of m c) v
unfolding entries_of
answers_ranged m c p v = record { label = go (answers_means m c p v); pieces = subst (λ (x : ℕ). x ≤ most_pieces) (sym (entries_at m c p v)) (pieces_most (hypergraph c) (labels (answers_of m c)) v) }
  where
    go : Means (algebra m) (hypergraph c) (own_at c) (labels (answers_of m c) v) v → Ranged (labels (answers_of m c) v)
    go (underivable e n) = subst Ranged (sym e) ranged_unmade
    go (derivable d) = record {
      weight = let w = weight_most c m d.shown in let e = d.weighs in omega arith;
      depth = let s = (entries_mean m c p v).shallow in let f = (table_accepted c p).few in omega arith;
      edge = let r = root_below c d.shown in let e = d.rooted in let f = (table_accepted c p).edges in omega arith;
      blank = (answers_fixpoint m c p).blank v;
    }

-- The list -------------------------------------------------------------------------------------------------------------------------------------

row-length : (v : ℕ) (e : Entry)
    → length (row v e) ≡ length (digits v) + (1 + length (state_word e.state)) + (1 + length (digits e.weight.0)) + (1 + length (digits e.depth))
    + (1 + length (digits e.edge.0)) + (1 + length (digits e.pieces)) + 1
unfolding row
row-length v e =
    let s : List ℕ = 32 ∷ state_word e.state in
    let a : List ℕ = 32 ∷ digits e.weight.0 in
    let b : List ℕ = 32 ∷ digits e.depth in
    let d : List ℕ = 32 ∷ digits e.edge.0 in
    let g : List ℕ = 32 ∷ digits e.pieces in
    let p = length-append (digits v) s in
    let q = length-append (digits v ++ s) a in
    let r = length-append (digits v ++ s ++ a) b in
    let t = length-append (digits v ++ s ++ a ++ b) d in
    let f = length-append (digits v ++ s ++ a ++ b ++ d) g in
    let u = length-append (digits v ++ s ++ a ++ b ++ d ++ g) (10 ∷ []) in
    omega arith

-- the words of parts that are not unmade are the shorter ones
short_word : (w d : ℕ) → (d ≡ 0 → ⊥) → length (state_word (state_of w d)) ≡ 4
unfolding state_word
short_word w d n = rw (ne_eqb d 0 n) (pick_by (λ (s : State). length (state_word s) ≡ 4) (is_over w) (λ _. refl) (λ _. refl))

row_most : (v : ℕ) (l : Label) (p : ℕ) → v < most_vertices → Ranged l → p ≤ most_pieces → length (row v (entry_of l p)) ≤ 45
row_most v l p h r k = go (ℕ_discrete l.depth 0)
  where
    count : length (digits p) ≤ 10
    count = width_10 p (omega arith)

    blank-row : length (row v (entry_of unmade p)) ≤ 45
    blank-row = unfold state_word in let e = row-length v (entry_of unmade p) in let a = width_4 v (omega arith) in let b = width_one 0 (omega arith) in let c = count in omega arith

    go : Dec (l.depth ≡ 0) → length (row v (entry_of l p)) ≤ 45
    go (yes z) = subst (λ (x : Label). length (row v (entry_of x p)) ≤ 45) (sym (r.blank z)) blank-row
    go (no n) =
        let e = row-length v (entry_of l p) in
        let s = short_word l.weight.0 l.depth n in
        let a = width_4 v (omega arith) in
        let w = r.weight in
        let b = width_13 l.weight.0 (omega arith) in
        let x = r.depth in
        let d = width_4 l.depth (omega arith) in
        let y = r.edge in
        let f = width_4 l.edge.0 (omega arith) in
        let c = count in
        omega arith

rows_most : (a : Entries) → ((v : ℕ) → RangedEntry a v) → (n : ℕ) → n ≤ most_vertices → length (rows a n) ≤ 45 * n
unfolding rows
rows_most a r zero h = omega arith
rows_most a r (suc n) h =
    let i = rows_most a r n (omega arith) in
    let w = row_most n (labels a.labels n) (cell a.pieces n) (omega arith) (r n).label (r n).pieces in
    let l = length-append (rows a n) (row n (entry_at a n)) in
    omega arith

pub list_most : (a : Entries) → ((v : ℕ) → RangedEntry a v) → (n : ℕ) → n ≤ most_vertices → length (list a n) ≤ most_output
unfolding list names
list_most a r n h = let w = rows_most a r n h in let l = length-append names (rows a n) in omega arith

-- A refusal ------------------------------------------------------------------------------------------------------------------------------------

-- a number more, and the word before them all
tail_one : (v : ℕ) (vs : List ℕ) → length (tail_text (v ∷ vs)) ≡ 1 + length (digits v) + length (tail_text vs)
unfolding tail_text
tail_one v vs = let l = length-append (32 ∷ digits v) (tail_text vs) in omega arith

with_length : (ns : List ℕ) → length (refused_with ns) ≡ 8 + length (tail_text ns)
unfolding refused_with refused_word
with_length ns = let p = length-append refused_word (tail_text ns ++ 10 ∷ []) in let q = length-append (tail_text ns) (10 ∷ []) in omega arith

-- of numbers of 64 bits
pub refused_with_two : (a b : ℕ) → a < 2 ^ 64 → b < 2 ^ 64 → length (refused_with (a ∷ b ∷ [])) ≤ most_refusal
unfolding tail_text
refused_with_two a b h g =
    let m = width_20 a h in
    let n = width_20 b g in
    let w = with_length (a ∷ b ∷ []) in let x = tail_one a (b ∷ []) in let y = tail_one b [] in omega arith

pub refused_with_three : (a b c : ℕ) → a < 2 ^ 64 → b < 2 ^ 64 → c < 2 ^ 64 → length (refused_with (a ∷ b ∷ c ∷ [])) ≤ most_refusal
unfolding tail_text
refused_with_three a b c h g f =
    let m = width_20 a h in
    let n = width_20 b g in
    let o = width_20 c f in
    let w = with_length (a ∷ b ∷ c ∷ []) in let x = tail_one a (b ∷ c ∷ []) in let y = tail_one b (c ∷ []) in let z = tail_one c [] in omega arith

pub refused_most : (r : Refusal) → place_of r < 10_000 → column_of r < 100_000 → length (refused_line r) ≤ most_output
unfolding refused_line tail_text
refused_most r h g =
    let k = numbered r in
    let a = number_of r in
    let b = place_of r in
    let c = column_of r in
    let m = width_2 a (omega arith) in
    let n = width_4 b h in
    let o = width_5 c g in
    pick_by (λ (ns : List ℕ). length (refused_with ns) ≤ most_output) (eqb c 0)
    (λ _. let w = with_length (a ∷ b ∷ []) in let x = tail_one a (b ∷ []) in let y = tail_one b [] in omega arith)
    (λ _. let w = with_length (a ∷ b ∷ c ∷ []) in let x = tail_one a (b ∷ c ∷ []) in let y = tail_one b (c ∷ []) in let z = tail_one c [] in omega arith)

-- a column is at most the text's length and 1
column_grows : (c : ℕ) (bs : List ℕ) → 0 < c → column_from c bs ≤ c + length bs
unfolding column_from
column_grows c [] h = omega arith
column_grows c (b ∷ bs) h =
    let x = pick (eqb b 10) 1 (suc c) in
    let l : (0 < x) × (x ≤ suc c) = pick_by (λ (k : ℕ). (0 < k) × (k ≤ suc c)) (eqb b 10) (λ _. (omega arith, omega arith)) (λ _. (omega arith, omega arith)) in
    let r = column_grows x bs l.0 in
    let m = l.1 in
    omega arith

pub column_most : (s : List ℕ) → text_column s ≤ length s + 1
unfolding text_column
column_most s =
    let r = column_grows 1 (take (failing_at s) s) (omega arith) in
    let l = length-take-le (failing_at s) s (survived_inside begin s) in
    let i = survived_inside begin s in
    omega arith
