-- What indexing a table leaves, from what the functions that it calls leave. Assumes nothing.
use mathlib.Core.Path.{◌≡◌, ◌∙◌, ap, subst}
use mathlib.Core.List.{List}
use Prim.Native.Nat.{ℕ, ◌*◌, ◌≤◌, ◌<◌}
use native.Mathlib.Omega.{arith}
use lib.ListN.{length, take}
use lib.Seq.{length-take-le}
use borrow.Author.Tests.{le-leb, lt-leb}
use Rattle.refusal.specs.declared.Refusal.{Refusal}
use Rattle.refusal.specs.declared.Refusal.TheVariants.{ColumnRoom}
use Rattle.columns.specs.Columns.{Columns, tail_of, tail_at}
use Rattle.columns.specs.Acceptance.{acceptance}
use Rattle.columns.specs.Filled.{filled}
use Rattle.columns.proofs.Accepted.{table_accepted}
use Rattle.uses.specs.Uses.{pairs, pairs_in, use_offset, use_count}
use Rattle.uses.specs.Indexable.{Measurable, Indexable, FilledTo, Offset}
use Rattle.uses.proofs.Pairs.{length_pairs}
use Rattle.uses.proofs.Whole.{offset, all-pairs, all_listed}
use Rattle.uses.proofs.Room.{pairs_in_lem, table_measurable}
use Rattle.indextable.specs.Index.{TableIndex, index_by, index_room, index_acceptance, IndexOutcome, index_outcome, table_indexed}
use Rattle.std.specs.Prelude.{Ok, Err}

module _ {spans tails room : List ℕ} (a : Measurable spans tails room) (index list : List ℕ) where
  -- the index of what the spans say, and the outcome of laying it
  abbrev here : TableIndex
  here = index_by (tail_of spans tails) (pairs_in spans) (pairs_in room)

  abbrev laid : IndexOutcome
  laid = index_outcome here index list (index_room (pairs_in room) (length here.list) index list)

  pub few_places : length index < length room → record { result = Err ColumnRoom; index = index; list = list } ≡ laid
  unfolding index_room
  few_places h = rw (lt-leb (2 * pairs_in room) (length index) (omega (arith, a.even)))

  module _ (fits : length room ≤ length index) where
    pub short_list : length list < length here.list → record { result = Err ColumnRoom; index = index; list = list } ≡ laid
    unfolding index_room
    short_list h = rw (le-leb (2 * pairs_in room) (length index) (omega (arith, a.even)), lt-leb (length here.list) (length list) h)

    module _ (enough : length here.list ≤ length list) {ix : List ℕ} (q : ix ≡ pairs (use_offset (tail_of spans tails) (pairs_in spans)) (λ v. 0) (pairs_in room)) where
      indexable : Indexable spans tails room list
      indexable = record { readable = a.readable; even = a.even; room = enough }

      pub fillable : Offset spans tails ix list
      fillable = offset indexable q

      module _ {ix₃ list₃ : List ℕ} (f : FilledTo (tail_of spans tails) (pairs_in spans) (pairs_in ix) (pairs_in spans) ix₃ list₃ list) where
        pub pairs_fit : length ix₃ ≤ length index
        pairs_fit =
            omega (
              arith,
              ap length (all-pairs indexable q f),
              length_pairs (use_offset (tail_of spans tails) (pairs_in spans)) (use_count (tail_of spans tails) (pairs_in spans)) (pairs_in room),
              a.even,
            )

        pub all_laid : {total : ℕ} {index₃ : List ℕ} → total ≡ length here.list → index₃ ≡ filled ix₃ index → record { result = Ok total; index = index₃; list = list₃ } ≡ laid
        unfolding index_room
        all_laid t p =
            let ps = p ∙ ap (λ (z : List ℕ). filled z index) (all-pairs indexable q f) in
            let ls = all_listed indexable q f in
            rw (t, ps, ls, le-leb (2 * pairs_in room) (length index) (omega (arith, a.even)), le-leb (length here.list) (length list) enough)

-- an accepted table
module _ (c : Columns) (p : acceptance c ≡ Ok tt) where
  spans_in : pairs_in c.spans ≡ length c.heads
  spans_in = pairs_in_lem c.spans (length c.heads) (table_accepted c p).spans

  pub places_few : 2 * c.vertices ≤ 2048
  places_few = omega (arith, (table_accepted c p).few)

  -- what indexing asks of the room
  pub room_enough : (room : List ℕ) → 2 * c.vertices ≤ length room → Measurable c.spans c.tails (take (2 * c.vertices) room)
  room_enough room h = table_measurable c p (take (2 * c.vertices) room) c.vertices (length-take-le (2 * c.vertices) room h) (omega arith)

-- the whole call
module _ (c : Columns) (index list : List ℕ) where
  pub table_refused : {r : Refusal} → acceptance c ≡ Err r → record { result = Err r; index = index; list = list } ≡ table_indexed c index list
  unfolding table_indexed index_acceptance
  table_refused p = rw p

  module _ (p : acceptance c ≡ Ok tt) where
    pub table_laid : {o : IndexOutcome} → let x = index_by (tail_at c) (pairs_in c.spans) c.vertices in
        o ≡ index_outcome x index list (index_room c.vertices (length x.list) index list) → o ≡ table_indexed c index list
    unfolding table_indexed index_acceptance
    table_laid {o} e =
        rw p
        (subst (λ (m : ℕ). let x = index_by (tail_at c) m c.vertices in o ≡ index_outcome x index list (index_room c.vertices (length x.list) index list)) (spans_in c p) e)

-- the start of a room tells the number of parts
module _ (tail : ℕ → List ℕ) (m n : ℕ) (room : List ℕ) (h : 2 * n ≤ length room) (index list : List ℕ) where
  abbrev laid_for : ℕ → IndexOutcome
  laid_for n = let x = index_by tail m n in index_outcome x index list (index_room n (length x.list) index list)

  pub in_room : {o : IndexOutcome} → o ≡ laid_for (pairs_in (take (2 * n) room)) → o ≡ laid_for n
  in_room {o} e = subst (λ (k : ℕ). o ≡ laid_for k) (pairs_in_lem (take (2 * n) room) n (length-take-le (2 * n) room h)) e
