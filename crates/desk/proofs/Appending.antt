-- The laws by which the answers of settling and of indexing tell what is said of an appended line. Assumes nothing.
use mathlib.Core.Path.{◌≡◌, sym, ◌∙◌, ap}
use mathlib.Core.List.{List, ◌++◌}
use Prim.Native.Nat.{ℕ, ◌*◌, ◌≤◌}
use native.Mathlib.Omega.{arith}
use lib.ListN.{length, take, replicate, length-append}
use lib.Seq.{take-append_seam}
use Rattle.refusal.specs.declared.Refusal.{Refusal}
use Rattle.refusal.specs.declared.Header.{Header}
use Rattle.columns.specs.Columns.{Entries, entries}
use Rattle.columns.specs.Acceptance.{most_vertices, most_listed}
use Rattle.columns.specs.Longer.{NewLine}
use Rattle.settle.specs.Settling.{settled}
use Rattle.indextable.specs.Index.{IndexOutcome, table_indexed}
use Rattle.readtable.specs.Read.{ReadOutcome, columns_read}
use Rattle.report.specs.Report.{blank_entries}
use Rattle.report.proofs.Laws.{take_zeros, zeros_long}
use Rattle.reply.specs.Reply.{refused_by, on_extent}
use Rattle.amend.specs.Amend.{appended_said}
use Rattle.desk.specs.Desk.{lent_whole, in_use_of, indexed_said, append_said}
use Rattle.desk.proofs.Laws.{settled_refused, settled_accepted}
use Rattle.refusal.specs.Answers.{Acceptance, Extent}
use Rattle.std.specs.Prelude.{Ok, Err}

-- The index ------------------------------------------------------------------------------------------------------------------------------------

module _ (g : Header) (x : ReadOutcome) (a : Entries) (index list : List ℕ) (l : NewLine)
    (o : Extent) (i j : List ℕ) (q : record { result = o; index = i; list = j } ≡ table_indexed (columns_read g x) index list) where
  by_outcome : indexed_said g x a index list l ≡ on_extent o (λ _. appended_said g.measure (lent_whole g x) (in_use_of g) a i j l)
  unfolding indexed_said
  by_outcome = ap (λ (z : IndexOutcome). on_extent z.result (λ _. appended_said g.measure (lent_whole g x) (in_use_of g) a z.index z.list l)) (sym q)

  pub index_refused : (r : Refusal) → o ≡ Err r → indexed_said g x a index list l ≡ refused_by r
  unfolding on_extent
  index_refused r e = by_outcome ∙ ap (λ (z : Extent). on_extent z (λ _. appended_said g.measure (lent_whole g x) (in_use_of g) a i j l)) e

  pub index_made : (k : ℕ) → o ≡ Ok k → indexed_said g x a index list l ≡ appended_said g.measure (lent_whole g x) (in_use_of g) a i j l
  unfolding on_extent
  index_made k e = by_outcome ∙ ap (λ (z : Extent). on_extent z (λ _. appended_said g.measure (lent_whole g x) (in_use_of g) a i j l)) e

-- Settling -------------------------------------------------------------------------------------------------------------------------------------

-- the first n of mostVertices zeros
abbrev pub zeros : ℕ → List ℕ
zeros n = take n (replicate most_vertices 0)

-- what settling left at the start of a column of mostVertices places is read back from there
module _ (n : ℕ) (few : n ≤ most_vertices) (b rest : List ℕ) (e : length b ≡ length (zeros n)) where
  sized : length b ≡ n
  sized = e ∙ sym (zeros_long n few)

  pub start_room : n ≤ length (b ++ rest)
  start_room = let l = length-append b rest in let q = sized in omega arith

  pub start_back : take n (b ++ rest) ≡ b
  start_back = ap (λ (k : ℕ). take k (b ++ rest)) (sym sized) ∙ take-append_seam b rest

  pub start_long : n ≡ length (take n (b ++ rest))
  start_long = sym (ap length start_back ∙ sized)

pub entries_back : {w w' d d' e e' p p' : List ℕ} → w ≡ w' → d ≡ d' → e ≡ e' → p ≡ p' → entries w d e p ≡ entries w' d' e' p'
entries_back {w} {w'} {d} {d'} {e} {e'} {p} {p'} i j k l =
    ap (λ (z : List ℕ). entries z d e p) i ∙ ap (λ (z : List ℕ). entries w' z e p) j ∙ ap (λ (z : List ℕ). entries w' d' z p) k ∙ ap (entries w' d' e') l

module _ (g : Header) (t : ReadOutcome) (l : NewLine) (few : g.vertices ≤ most_vertices) (x : Acceptance) (b : Entries)
    (q : record { result = x; left = b }
    ≡ settled g.measure (columns_read g t) (entries (zeros g.vertices) (zeros g.vertices) (zeros g.vertices) (zeros g.vertices))) where
  -- the answer columns that settling began with are blank
  from_blank : record { result = x; left = b } ≡ settled g.measure (columns_read g t) (blank_entries g.vertices)
  from_blank = q ∙ ap (λ (z : List ℕ). settled g.measure (columns_read g t) (entries z z z z)) (take_zeros g.vertices most_vertices few)

  pub append_refused : (r : Refusal) → x ≡ Err r → append_said g t l ≡ refused_by r
  unfolding append_said
  append_refused r e =
      sym (settled_refused g.measure (columns_read g t) (blank_entries g.vertices) x b from_blank
      (λ a. indexed_said g t a (replicate (2 * most_vertices) 0) (replicate most_listed 0) l) r e)

  pub append_accepted : x ≡ Ok tt → append_said g t l ≡ indexed_said g t b (replicate (2 * most_vertices) 0) (replicate most_listed 0) l
  unfolding append_said
  append_accepted e =
      sym (settled_accepted g.measure (columns_read g t) (blank_entries g.vertices) x b from_blank
      (λ a. indexed_said g t a (replicate (2 * most_vertices) 0) (replicate most_listed 0) l) e)
