-- What is said of a record, by what reading and replaying it returned. Assumes nothing.
use mathlib.Core.Path.{◌≡◌, refl, sym, ◌∙◌, ap, subst}
use mathlib.Core.List.{List}
use Prim.Native.Nat.{ℕ, ◌≤◌, ◌<◌}
use native.Mathlib.Omega.{arith}
use lib.ListN.{length, take, replicate, length-replicate}
use borrow.Author.Tests.{lt-ltb, le-ltb}
use Rattle.std.specs.Prelude.{Result, Ok, Err}
use Rattle.weights.specs.declared.Measure.{Measure}
use Rattle.refusal.specs.declared.Refusal.{Refusal}
use Rattle.refusal.specs.declared.Refusal.TheVariants.{InputLength}
use Rattle.columns.specs.Columns.{Entries, Columns}
use Rattle.inventory.specs.Shelf.{most_events}
use Rattle.inventory.specs.Replaying.{replayed}
use Rattle.report.specs.Report.{most_input}
use Rattle.reply.specs.declared.Reply.{Reply}
use Rattle.reply.specs.Reply.{Said, answered, second_refused, on_second, Replied}
use Rattle.ledger.specs.Record.{most_shelf, Entered, entered, read_record}
use Rattle.ledger.specs.Ledger.{ledger, said_of, replayed_said, on_read, entered_said, replay_said}
use Rattle.ledger.proofs.Laws.{FewRead, KeptRecord, record_kept}
use Rattle.refusal.specs.Answers.{Acceptance}

pub said_as : {s t : Said} (old : List ℕ) (r : Reply) (room : List ℕ) → s ≡ t → Replied s old r room → Replied t old r room
said_as old r room e h = subst (λ (z : Said). Replied z old r room) e h

-- by what replaying returned
module _ (m : Measure) (c : Columns) (a : Entries) (vs ks s os : List ℕ) (x : Acceptance) (s' os' : List ℕ)
    (q : record { result = x; stock = s'; outcomes = os' } ≡ replayed m c a vs ks s os) where
  by_outcome : on_second x (answered (ledger vs os' s')) ≡ replayed_said m c a vs ks s os
  unfolding replayed_said
  by_outcome = ap (said_of vs) q

  pub replay_refused : (r : Refusal) → x ≡ Err r → second_refused r ≡ replayed_said m c a vs ks s os
  unfolding on_second
  replay_refused r e = ap (λ (z : Acceptance). on_second z (answered (ledger vs os' s'))) (sym e) ∙ by_outcome

  pub replay_answered : x ≡ Ok tt → answered (ledger vs os' s') ≡ replayed_said m c a vs ks s os
  unfolding on_second
  replay_answered e = ap (λ (z : Acceptance). on_second z (answered (ledger vs os' s'))) (sym e) ∙ by_outcome

pub said_long : (m : Measure) (c : Columns) (a : Entries) (s : List ℕ) → most_input < length s → second_refused InputLength ≡ replay_said m c a s
unfolding replay_said
said_long m c a s h = rw (lt-ltb most_input (length s) h)

-- k counts and e events, as many as there is room for and as columns of these lengths hold
pub record ReadWithin (k e counts parts received : ℕ) : Type 0 where
  pub few_counts : k ≤ most_shelf
  pub few_events : e ≤ most_events
  pub counted : k ≤ counts
  pub parted : e ≤ parts
  pub pieced : e ≤ received

-- by what reading returned
module _ (s : List ℕ) (x : Result (ℕ × ℕ) Refusal) (shelf vs ks : List ℕ) (q : entered x shelf vs ks ≡ read_record s (replicate most_shelf 0) (replicate most_events 0) (replicate most_events 0)) where
  module _ (m : Measure) (c : Columns) (a : Entries) (h : length s ≤ most_input) where
    by_record : on_read m c a x shelf vs ks ≡ replay_said m c a s
    unfolding replay_said
    by_record = ap (entered_said m c a) q ∙ rw (le-ltb most_input (length s) h)

    pub said_refused : (r : Refusal) → x ≡ Err r → second_refused r ≡ replay_said m c a s
    said_refused r e = ap (λ (z : Result (ℕ × ℕ) Refusal). on_read m c a z shelf vs ks) (sym e) ∙ by_record

    pub said_read : (k e : ℕ) → x ≡ Ok (k, e) → replayed_said m c a (take e vs) (take e ks) (take k shelf) (take e (replicate most_events 0)) ≡ replay_said m c a s
    said_read k e f = ap (λ (z : Result (ℕ × ℕ) Refusal). on_read m c a z shelf vs ks) (sym f) ∙ by_record

  kept : KeptRecord most_shelf most_events (entered x shelf vs ks)
  kept =
      let zeros : List ℕ = replicate most_events 0 in
      let e = length-replicate {A = ℕ} most_events 0 in
      let d = length-replicate {A = ℕ} most_shelf 0 in
      let w = subst (λ (z : Entered). KeptRecord (length (replicate {A = ℕ} most_shelf 0)) (length zeros) z) (sym q) (record_kept s (replicate most_shelf 0) zeros zeros refl) in
      subst (λ (n : ℕ). KeptRecord n most_events (entered x shelf vs ks)) d (subst (λ (n : ℕ). KeptRecord (length (replicate {A = ℕ} most_shelf 0)) n (entered x shelf vs ks)) e w)

  pub read_within : (k e : ℕ) → x ≡ Ok (k, e) → ReadWithin k e (length shelf) (length vs) (length ks)
  read_within k e f =
      let w = subst (FewRead most_shelf most_events) f kept.few in
      let a = w.0 in
      let b = w.1 in
      let i = kept.shelf in
      let j = kept.parts in
      let l = kept.received in
      record { few_counts = a; few_events = b; counted = omega arith; parted = omega arith; pieced = omega arith }
