-- The list of the longer table has as many entries more as the new line lists different parts. Assumes nothing.
use mathlib.Core.Path.{◌≡◌, refl, ◌∙◌, ap, ap₂, subst₂}
use mathlib.Core.Bool.{Bool, true, false}
use mathlib.Core.List.{List, ◌++◌, ◌∷◌, []}
use Prim.Native.Nat.{ℕ, zero, suc, ◌+◌, ◌≤◌, ◌<◌}
use native.Mathlib.Numerals.{add-one}
use native.Mathlib.Omega.{arith}
use lib.ListN.{length, get_or, take}
use Rattle.weights.specs.Lists.{member}
use Rattle.weights.specs.Choice.{pick}
use Rattle.weights.specs.declared.Measure.{Measure}
use Rattle.refusal.specs.declared.Refusal.{Refusal}
use Rattle.refusal.specs.declared.Refusal.TheVariants.{WrongAnswers}
use Rattle.columns.specs.Columns.{Entries, Columns, tail_at}
use Rattle.columns.specs.Acceptance.{and_then, acceptance}
use Rattle.columns.specs.Same.{same_entries}
use Rattle.columns.specs.Longer.{NewLine, longer, RightLine}
use Rattle.columns.proofs.Accepted.{table_accepted}
use Rattle.columns.proofs.Longer.{longer-count, longer_lines}
use Rattle.uses.specs.Uses.{uses_below, use_list, pairs_in, distinct_in}
use Rattle.uses.proofs.Room.{hits, list_more, list_fits, pairs_in_lem}
use Rattle.uses.proofs.Hits.{hits_distinct}
use Rattle.settle.specs.Settling.{entries_of}
use Rattle.settle.specs.Checking.{answers_acceptance}
use Rattle.indextable.specs.Index.{index_by, index_of, held_acceptance}
use Rattle.indextable.specs.Checkable.{Checkable}
use Rattle.append.specs.Growing.{Holding}
use Rattle.refusal.specs.Answers.{Acceptance}
use Rattle.std.specs.Prelude.{Ok, Err}

-- uses are of the tails below
module _ (tail tail' : ℕ → List ℕ) where
  uses_alike : (v k : ℕ) → ((e : ℕ) → e < k → tail e ≡ tail' e) → uses_below tail v k ≡ uses_below tail' v k
  unfolding uses_below
  uses_alike v zero f = refl
  uses_alike v (suc k) f =
      let r = uses_alike v k (λ e h. f e (omega arith)) in
      ap₂ (λ (t : List ℕ) (u : List ℕ). pick (member v t) (u ++ k ∷ []) u) (f k (omega arith)) r

  list_alike : (m n : ℕ) → ((e : ℕ) → e < m → tail e ≡ tail' e) → use_list tail m n ≡ use_list tail' m n
  unfolding use_list
  list_alike m zero f = refl
  list_alike m (suc n) f = ap₂ (λ (a b : List ℕ). a ++ b) (list_alike m n f) (uses_alike n m f)

-- no more than the places
pick_few : (b : Bool) → pick b 0 1 ≤ 1
pick_few true = omega arith
pick_few false = omega arith

distinct_few : (vs : List ℕ) (i : ℕ) → distinct_in vs i ≤ i
unfolding distinct_in
distinct_few vs zero = omega arith
distinct_few vs (suc i) = omega (arith, distinct_few vs i, pick_few (member (get_or vs i 0) (take i vs)))

module _ (c : Columns) (l : NewLine) (p : acceptance c ≡ Ok tt) (g : RightLine c.vertices l) where
  abbrev m : ℕ
  m = length c.heads

  pub longer-list : length (index_of (longer c l)).list ≡ length (index_of c).list + distinct_in l.tail (length l.tail)
  longer-list =
      let o = longer_lines c l p in
      let n = c.vertices in
      let t = tail_at (longer c l) in
      ap (λ (k : ℕ). length (use_list t k n)) (longer-count c l p ∙ add-one m)
      ∙ list_more t m n
      ∙ ap₂ (λ (x : List ℕ) (y : ℕ). length x + y) (list_alike t (tail_at c) m n o.tails) (ap (hits n) o.new_tail ∙ hits_distinct n l.tail g.listed)

-- what the check of an index asks, of an accepted table and the parts of a line
module _ (c : Columns) (a : Entries) (tail : List ℕ) (h : Holding c a tail) {more : ℕ} (e : more ≡ distinct_in tail (length tail)) where
  accepted : acceptance c ≡ Ok tt
  accepted = h.accepted.table

  spans_in : pairs_in c.spans ≡ length c.heads
  spans_in = pairs_in_lem c.spans (length c.heads) (table_accepted c accepted).spans

  pub holding_checkable : Checkable c.vertices c.spans c.tails more
  holding_checkable =
      let z = table_accepted c accepted in
      let s = spans_in in
      record {
        few = z.few;
        readable = record { even = omega (arith, z.spans); each = λ e q. let g = (z.each e (omega arith)).1 in record { within = g.within; listed = g.listed } };
        uses = rw s (omega (arith, list_fits c c.vertices accepted, z.tails));
        one = omega (arith, distinct_few tail (length tail), h.short);
      }

  -- its answer, in the table's own numbers
  pub held_told : {x : Acceptance} (index list : List ℕ)
      → x ≡ held_acceptance c.vertices more (index_by (tail_at c) (pairs_in c.spans) c.vertices) index list
      → x ≡ held_acceptance c.vertices (distinct_in tail (length tail)) (index_of c) index list
  held_told {x} index list q = subst₂ (λ (k m : ℕ). x ≡ held_acceptance c.vertices k (index_by (tail_at c) m c.vertices) index list) e spans_in q

  module _ (m : Measure) (index list : List ℕ) where
    abbrev told : Acceptance
    told = held_acceptance c.vertices (distinct_in tail (length tail)) (index_of c) index list

    pub held_refused : (r : Refusal) → told ≡ Err r → Err r ≡ and_then told (answers_acceptance m c a)
    held_refused r p = rw p

    pub held_right : told ≡ Ok tt → same_entries a (entries_of m c) ≡ true → (Ok tt) ≡ and_then told (answers_acceptance m c a)
    held_right p q = rw (p, q)

    pub held_wrong : told ≡ Ok tt → same_entries a (entries_of m c) ≡ false → Err WrongAnswers ≡ and_then told (answers_acceptance m c a)
    held_wrong p q = rw (p, q)
