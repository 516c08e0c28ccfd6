-- The check of an index, from what building it leaves. Assumes nothing.
use mathlib.Core.Path.{◌≡◌, sym, ◌∙◌, ap, ap₂, subst}
use mathlib.Core.Bool.{true, false}
use mathlib.Core.List.{List}
use Prim.Native.Nat.{ℕ, ◌+◌, ◌*◌, ◌≤◌, ◌<◌}
use native.Mathlib.Omega.{arith}
use lib.ListN.{length, take}
use lib.Seq.{length-take-le}
use borrow.Author.Tests.{le-leb, lt-leb}
use Rattle.refusal.specs.declared.Refusal.TheVariants.{ColumnRoom, WrongIndex}
use Rattle.columns.specs.Columns.{tail_of}
use Rattle.columns.specs.Same.{equal}
use Rattle.columns.proofs.Filled.{take-filled, length-filled}
use Rattle.uses.specs.Uses.{pairs_in, indexed}
use Rattle.uses.specs.Indexable.{Readable}
use Rattle.uses.proofs.Laws.{Indexed, parts_of}
use Rattle.uses.proofs.Room.{pairs_in_lem}
use Rattle.indextable.specs.Index.{TableIndex, index_by, index_room, begin_with, held_acceptance}
use Rattle.indextable.specs.Checkable.{Checkable, Held}
use Rattle.refusal.specs.Answers.{Acceptance}
use Rattle.std.specs.Prelude.{Ok, Err}

module _ {spans tails pairs lines : List ℕ} {more : ℕ} (h : Held spans tails more pairs lines) (index list : List ℕ) where
  abbrev here : TableIndex
  here = index_by (tail_of spans tails) (pairs_in spans) (pairs_in pairs)

  abbrev answer : Acceptance
  answer = held_acceptance (pairs_in pairs) more here index list

  pub held_few : length index < length pairs → Err ColumnRoom ≡ answer
  unfolding held_acceptance index_room
  held_few l = rw (lt-leb (2 * pairs_in pairs) (length index) (omega (arith, h.indexable.even)))

  module _ (fits : length pairs ≤ length index) {total : ℕ} {ps ls : List ℕ}
      (e : record { total = total; index = ps; list = ls } ≡ indexed (tail_of spans tails) (pairs_in spans) (pairs_in pairs) lines) where
    made : Indexed (tail_of spans tails) (pairs_in spans) (pairs_in pairs) lines total ps ls
    made = parts_of e

    -- the number of uses, and the room of the lines built
    pub total_few : total ≤ 16384
    total_few = omega (arith, made.total_is, h.uses)

    pub total_fits : total ≤ length ls
    total_fits =
        let l = ap length made.list_is ∙ length-filled here.list lines h.indexable.room in
        omega (arith, made.total_is, h.indexable.room)

    pub held_short : length list < total + more → Err ColumnRoom ≡ answer
    unfolding held_acceptance index_room
    held_short l =
        rw (le-leb (2 * pairs_in pairs) (length index) (omega (arith, h.indexable.even)), lt-leb (length here.list + more) (length list) (omega (arith, made.total_is)))

    module _ (enough : total + more ≤ length list) where
      -- what is compared
      same_pairs : equal (take (length pairs) index) ps ≡ equal (take (2 * pairs_in pairs) index) here.pairs
      same_pairs = ap₂ (λ (k : ℕ) (z : List ℕ). equal (take k index) z) h.indexable.even made.index_is

      built : take total ls ≡ here.list
      built = ap (take total) made.list_is ∙ take-filled here.list lines total (sym made.total_is)

      same_lists : equal (take total list) (take total ls) ≡ equal (take (length here.list) list) here.list
      same_lists = ap₂ (λ (k : ℕ) (z : List ℕ). equal (take k list) z) made.total_is built

      roomy : index_room (pairs_in pairs) (length here.list + more) index list ≡ Ok tt
      unfolding index_room
      roomy =
          rw (le-leb (2 * pairs_in pairs) (length index) (omega (arith, h.indexable.even)), le-leb (length here.list + more) (length list) (omega (arith, made.total_is)))

      pub held_other_pairs : equal (take (length pairs) index) ps ≡ false → Err WrongIndex ≡ answer
      unfolding held_acceptance begin_with
      held_other_pairs q = rw (roomy, sym same_pairs ∙ q)

      pub held_other_list : equal (take (length pairs) index) ps ≡ true → equal (take total list) (take total ls) ≡ false → Err WrongIndex ≡ answer
      unfolding held_acceptance begin_with
      held_other_list q r = rw (roomy, sym same_pairs ∙ q, sym same_lists ∙ r)

      pub held_right : equal (take (length pairs) index) ps ≡ true → equal (take total list) (take total ls) ≡ true → (Ok tt) ≡ answer
      unfolding held_acceptance begin_with
      held_right q r = rw (roomy, sym same_pairs ∙ q, sym same_lists ∙ r)

-- the start of a room tells the number of parts
pub held_room : (tail : ℕ → List ℕ) (m n more : ℕ) (room : List ℕ) → 2 * n ≤ length room → (index list : List ℕ) {o : Acceptance}
    → o ≡ held_acceptance (pairs_in (take (2 * n) room)) more (index_by tail m (pairs_in (take (2 * n) room))) index list
    → o ≡ held_acceptance n more (index_by tail m n) index list
held_room tail m n more room h index list {o} e =
    subst (λ (k : ℕ). o ≡ held_acceptance k more (index_by tail m k) index list) (pairs_in_lem (take (2 * n) room) n (length-take-le (2 * n) room h)) e

-- what the check asks, of rooms that are long enough
pub checkable_held : {n more : ℕ} {spans tails : List ℕ} → Checkable n spans tails more → (room lines : List ℕ) → 2 * n ≤ length room
    → 16384 ≤ length lines → Held spans tails more (take (2 * n) room) lines
checkable_held {n} {more} {spans} {tails} h room lines l k =
    let q = length-take-le (2 * n) room l in
    let p = pairs_in_lem (take (2 * n) room) n q in
    record {
      indexable = record {
        readable = subst (λ (z : ℕ). Readable z spans tails) (sym p) h.readable;
        even = omega arith;
        room = rw p (omega (arith, h.uses));
      };
      uses = rw p h.uses;
      one = h.one;
    }
