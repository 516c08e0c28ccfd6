-- What the call leaves: where it is accepted, the record's events by the request's four cases, and what follows of them; where it is refused, both columns as they came.
-- Assumes nothing.
use mathlib.Core.Path.{◌≡◌, refl, sym, ◌∙◌, subst}
use mathlib.Core.Logic.{◌↔◌}
use mathlib.Core.List.{List}
use Prim.Native.Nat.{ℕ, ◌+◌, ◌<◌}
use lib.ListN.{length}
use Rattle.weights.specs.declared.Measure.{Measure}
use Rattle.refusal.specs.declared.Refusal.{Refusal}
use Rattle.columns.specs.Columns.{Entries, Columns, cell}
use Rattle.columns.proofs.Accepted.{refused}
use Rattle.inventory.specs.Shelf.{Low}
use Rattle.inventory.specs.Replaying.{Run, finished, stopped, replay_from, open_acceptance, chosen_list, begun, run_of, ReplayOutcome, concluded, replayed}
use Rattle.inventory.specs.Record.{list_of, Replays, receipts, issues, uses}
use Rattle.inventory.proofs.Meaning.{RunTells, run_tells, replays_sized}
use Rattle.inventory.proofs.Conservation.{balanced, received_nought, replays_low}
use Rattle.inventory.proofs.Opening.{Opened, open_accepted}
use Rattle.refusal.specs.Answers.{Acceptance}
use Rattle.std.specs.Prelude.{Ok, Err}

module _ (m : Measure) (c : Columns) (a : Entries) (parts received stock outcomes : List ℕ) where
  abbrev left : ReplayOutcome
  left = replayed m c a parts received stock outcomes

  abbrev opens : Acceptance
  opens = open_acceptance m c a parts received stock outcomes

  abbrev run : Run
  run = replay_from (chosen_list c a.labels) 0 parts received stock

  -- the steps of the call
  pub replay_unopened : {r : Refusal} → opens ≡ Err r → record { result = Err r; stock = stock; outcomes = outcomes } ≡ left
  unfolding replayed run_of
  replay_unopened p = rw p

  pub replay_opened : opens ≡ Ok tt → concluded run stock outcomes ≡ left
  unfolding replayed run_of
  replay_opened p = rw p

  pub ended : (r : Run) → run ≡ r → Opened m c a parts received stock outcomes → RunTells c a.labels 0 parts received stock r
  ended r e o = subst (RunTells c a.labels 0 parts received stock) e (run_tells c a.labels 0 parts received stock o.recorded.received)

  module _ (p : left.result ≡ Ok tt) where
    accepted_run : (opens ≡ Ok tt) × (run ≡ finished left.stock left.outcomes)
    unfolding replayed run_of
    accepted_run = go opens refl run refl p
      where
        go : (x : Acceptance) → opens ≡ x → (r : Run) → run ≡ r → (concluded (begun x r) stock outcomes).result ≡ Ok tt →
            let o = concluded (begun x r) stock outcomes in (opens ≡ Ok tt) × (run ≡ finished o.stock o.outcomes)
        go (Ok _) e (finished s os) f q = (e, f)
        go (Ok _) e (stopped r) f q = absurd (refused q)
        go (Err r) e x f q = absurd (refused q)

    pub replay_opens : Opened m c a parts received stock outcomes
    replay_opens = open_accepted m c a parts received stock outcomes accepted_run.0

    -- each event's outcome and the counts before and after it, from the opening counts to the final ones
    pub replay_meaning : Replays c a.labels parts received stock left.outcomes left.stock
    replay_meaning = ended (finished left.stock left.outcomes) accepted_run.1 replay_opens

    -- "For every part, opening count plus receipts equals the final count plus pieces issued plus pieces used in building"
    pub conservation : (v : ℕ) → v < c.vertices → let o = left.outcomes in
        cell stock v + receipts v parts received o ≡ cell left.stock v + issues v parts o + uses (list_of c a.labels) v parts o
    conservation v h = balanced c a.labels replay_meaning v

    pub outcome_received : (i : ℕ) → i < length parts → (cell left.outcomes i ≡ 0) ↔ (0 < cell received i)
    outcome_received = received_nought c a.labels replay_meaning

    -- the final counts can open the next record
    pub final_low : Low left.stock
    final_low = replays_low c a.labels replay_meaning replay_opens.low

    pub final_sized : (length left.stock ≡ c.vertices) × (length left.outcomes ≡ length parts)
    final_sized = let s = replays_sized c a.labels replay_meaning in (s.0 ∙ replay_opens.level, s.1)

  module _ {r : Refusal} (p : left.result ≡ Err r) where
    pub replay_keeps : (left.stock ≡ stock) × (left.outcomes ≡ outcomes)
    unfolding replayed run_of
    replay_keeps = go (begun opens run) p
      where
        go : (x : Run) → (concluded x stock outcomes).result ≡ Err r → let o = concluded x stock outcomes in (o.stock ≡ stock) × (o.outcomes ≡ outcomes)
        go (finished s os) q = absurd (refused (sym q))
        go (stopped s) q = (refl, refl)
