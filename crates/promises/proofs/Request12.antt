-- Document 02, change request 2026-12. Assumes nothing.
use mathlib.Core.Path.{◌≡◌, refl}
use mathlib.Core.Logic.{◌↔◌}
use mathlib.Core.List.{List}
use Prim.Native.Nat.{ℕ, ◌+◌, ◌≤◌, ◌<◌}
use lib.ListN.{length}
use Rattle.weights.specs.declared.Measure.{Measure}
use Rattle.weights.specs.declared.Vertex.{Vertex}
use Rattle.refusal.specs.declared.Event.{Event}
use Rattle.refusal.specs.declared.Refusal.{Refusal}
use Rattle.refusal.specs.declared.Refusal.TheVariants.{EventVertex, OpeningCount, ReceivedCount}
use Rattle.refusal.specs.Refusals.{place_of, code, code_of, last_place}
use Rattle.columns.specs.Columns.{Entries, Columns, cell}
use Rattle.columns.specs.Gaps.{Gapped, with_tails}
use Rattle.tozbierdu.proofs.Places.{replayed_places}
use Rattle.inventory.specs.Shelf.{Low}
use Rattle.inventory.specs.Replaying.{replayed}
use Rattle.inventory.specs.Record.{list_of, Replays, receipts, issues, uses}
use Rattle.inventory.specs.Asked.{RightReplay, WrongReplay, ReplayOwes}
use Rattle.inventory.specs.Worked.{Worked}
use Rattle.inventory.proofs.Asked.{replay_owes}
use Rattle.inventory.proofs.Fixed.{replays_once, replay_never, replay_once}
use Rattle.inventory.proofs.Replayed.{replay_meaning, conservation, outcome_received, final_low, final_sized, replay_keeps}
use Rattle.inventory.proofs.Worked.{worked_records}
use Rattle.promises.specs.Fixed.{Fixed}
use Rattle.promises.proofs.Gaps.{replay_gaps}
use Rattle.std.specs.Prelude.{Ok, Err}

-- 2026-12: run last month's orders past the shelf --------------------------------------------------------------------------------------------------------------------

module _ (m : Measure) (c : Columns) (a : Entries) (parts received stock outcomes : List ℕ) where
  -- "Turned away: 2 …, 7 …, 25 …, 26 …; opening counts go first, then events in order, 25 before 26 in each, after 8": accepted, and then the final counts and the
  -- outcomes are left, or refused, and then both columns are as they came
  pub replay : ReplayOwes m c a parts received stock outcomes (replayed m c a parts received stock outcomes)
  replay = replay_owes m c a parts received stock outcomes

  -- no input is both, or refused in two ways; and a record has one end alone
  pub replay_fixed : Fixed (RightReplay m c a parts received stock outcomes) (WrongReplay m c a parts received stock outcomes)
  replay_fixed = record { never = replay_never m c a parts received stock outcomes; once = replay_once m c a parts received stock outcomes }

  pub replay_one_end : (p q : RightReplay m c a parts received stock outcomes) → (p.outcomes ≡ q.outcomes) × (p.final ≡ q.final)
  replay_one_end p q = replays_once c a.labels p.replays q.replays

  module _ (p : (replayed m c a parts received stock outcomes).result ≡ Ok tt) where
    -- "write for each event into a lent column 0 for a receipt, 1 for a piece from the shelf, 2 for built, 3 for late. An order takes a piece from the shelf; if there's
    -- none, and the part's chosen line has parts and all of them are on the shelf in the number listed, those are used and the order counts as built; otherwise it is
    -- late and takes nothing"
    pub replay_events : let o = replayed m c a parts received stock outcomes in Replays c a.labels parts received stock o.outcomes o.stock
    replay_events = replay_meaning m c a parts received stock outcomes p

    -- "For every part, opening count plus receipts equals the final count plus pieces issued plus pieces used in building"
    pub replay_balance : (v : ℕ) → v < c.vertices → let o = replayed m c a parts received stock outcomes in
        cell stock v + receipts v parts received o.outcomes ≡ cell o.stock v + issues v parts o.outcomes + uses (list_of c a.labels) v parts o.outcomes
    replay_balance = conservation m c a parts received stock outcomes p

    -- "0 pieces marks an order, anything more a receipt"
    pub replay_receipts : (i : ℕ) → i < length parts → (cell (replayed m c a parts received stock outcomes).outcomes i ≡ 0) ↔ (0 < cell received i)
    replay_receipts = outcome_received m c a parts received stock outcomes p

    -- "a lent column of n opening counts, which becomes the final counts": n counts, none above the limit, so that they can open the next record
    pub replay_opens_next : let o = replayed m c a parts received stock outcomes in Low o.stock × (length o.stock ≡ c.vertices) × (length o.outcomes ≡ length parts)
    replay_opens_next = let s = final_sized m c a parts received stock outcomes p in (final_low m c a parts received stock outcomes p, s.0, s.1)

  -- "Table and answers keep their bytes": they are lent to be read alone, so the call can't write them; `replay` names both columns that it can
  --
  -- it does not look at what gaps hold
  pub replay_over_gaps : (tails : List ℕ) → Gapped c tails → replayed m c a parts received stock outcomes ≡ replayed m (with_tails c tails) a parts received stock outcomes
  replay_over_gaps tails g = replay_gaps c tails g m a parts received stock outcomes

  module _ {r : Refusal} (p : (replayed m c a parts received stock outcomes).result ≡ Err r) where
    -- "A refusal … alters no lent byte", however many events came before the bad one
    pub replay_refusal_keeps : let o = replayed m c a parts received stock outcomes in (o.stock ≡ stock) × (o.outcomes ≡ outcomes)
    replay_refusal_keeps = replay_keeps m c a parts received stock outcomes p

    -- the place fits the result in C
    pub replay_place : place_of r ≤ last_place
    replay_place = (replayed_places m c a parts received stock outcomes).holds p

-- "the place is the part number for a bad opening count, otherwise the event's number from 0"
pub opening_is : (v : Vertex) → code_of (OpeningCount v) ≡ code 26 v.0
opening_is v = refl

pub part_is : (i : Event) → code_of (EventVertex i) ≡ code 25 i.0
part_is i = refl

pub received_is : (i : Event) → code_of (ReceivedCount i) ≡ code 26 i.0
received_is i = refl

-- the request's words on the paper's table, and records of other kinds
pub replay_worked : Worked
replay_worked = worked_records
