-- What is said of a record, in the request's words: the outcomes and the final counts, or the line of the refusal; and that it fits. Assumes nothing.
use mathlib.Core.Path.{◌≡◌, refl, sym, ◌∙◌, ap, ap₂, subst}
use mathlib.Core.List.{List}
use Prim.Native.Nat.{ℕ, ◌≤◌}
use native.Mathlib.Omega.{arith}
use native.Mathlib.Decide.{dec_le}
use lib.ListN.{length, take, replicate, length-replicate}
use lib.Seq.{length-take-le}
use Rattle.std.specs.Prelude.{Result, Ok, Err}
use Rattle.weights.specs.declared.Measure.{Measure}
use Rattle.refusal.specs.declared.Refusal.{Refusal}
use Rattle.refusal.specs.declared.Refusal.TheVariants.{InputLength}
use Rattle.columns.specs.Columns.{Entries, Columns}
use Rattle.columns.specs.Owed.{Owed}
use Rattle.columns.specs.Filled.{filled}
use Rattle.columns.proofs.Filled.{take-filled}
use Rattle.inventory.specs.Shelf.{most_events}
use Rattle.inventory.specs.Asked.{RightReplay, WrongReplay}
use Rattle.inventory.proofs.Asked.{replay_owes}
use Rattle.inventory.proofs.Fixed.{replays_once, replay_never, replay_once}
use Rattle.report.specs.Report.{most_input}
use Rattle.reply.specs.Reply.{most_reply, Said, answered, second_refused, on_second}
use Rattle.ledger.specs.Record.{most_shelf, read_record}
use Rattle.ledger.specs.Ledger.{ledger, replayed_said, blanks, replay_said}
use Rattle.ledger.specs.Replayed.{record_text, Writable, RecordSaid}
use Rattle.ledger.proofs.Said.{said_long, said_refused, said_read, read_within}
use Rattle.ledger.proofs.ReadBack.{record_back}
use Rattle.ledger.proofs.Bounds.{refusal_short, record_low, replayed_short}
use Rattle.refusal.specs.Answers.{Acceptance}

-- By the call ------------------------------------------------------------------------------------------------------------------------------------------

module _ (m : Measure) (c : Columns) (a : Entries) (vs ks s os : List ℕ) where
  abbrev Owes : Acceptance → List ℕ × List ℕ → Type 0
  Owes = Owed {L = List ℕ × List ℕ} Err (s, os) (RightReplay m c a vs ks s os) (λ _. (Ok tt)) (λ q. (q.final, q.outcomes)) (WrongReplay m c a vs ks s os)

  -- what is said where it returned x and left these counts and outcomes
  abbrev said_by : Acceptance → List ℕ × List ℕ → Said
  said_by x l = on_second x (answered (ledger vs l.1 l.0))

  replayed_right : (p : RightReplay m c a vs ks s os) → replayed_said m c a vs ks s os ≡ answered (ledger vs p.outcomes p.final)
  unfolding replayed_said on_second
  replayed_right p = go (replay_owes m c a vs ks s os)
    where
      go : {x : Acceptance} {l : List ℕ × List ℕ} → Owes x l → said_by x l ≡ answered (ledger vs p.outcomes p.final)
      go (Owed.accepted q) =
          let e = replays_once c a.labels q.replays p.replays in
          ap₂ (λ (x y : List ℕ). answered (ledger vs x y)) e.0 e.1
      go (Owed.refused w) = absurd (replay_never m c a vs ks s os p w)

  replayed_wrong : (r : Refusal) → WrongReplay m c a vs ks s os r → replayed_said m c a vs ks s os ≡ second_refused r
  unfolding replayed_said on_second
  replayed_wrong r w = go (replay_owes m c a vs ks s os)
    where
      go : {x : Acceptance} {l : List ℕ × List ℕ} → Owes x l → said_by x l ≡ second_refused r
      go (Owed.accepted q) = absurd (replay_never m c a vs ks s os q w)
      go (Owed.refused v) = ap second_refused (replay_once m c a vs ks s os v w)

-- By the text ------------------------------------------------------------------------------------------------------------------------------------------

abbrev no_counts : List ℕ
no_counts = replicate most_shelf 0

abbrev no_events : List ℕ
no_events = replicate most_events 0

module _ (m : Measure) (c : Columns) (a : Entries) where
  -- a text that is a record's: what is said of its columns
  pub said_of_record : (shelf vs ks : List ℕ) → Writable shelf vs ks → length (record_text shelf vs ks) ≤ most_input
      → replay_said m c a (record_text shelf vs ks) ≡ replayed_said m c a vs ks shelf (blanks (length vs))
  said_of_record shelf vs ks w h =
      let q = record_back shelf vs ks w no_counts no_events (length-replicate {A = ℕ} most_shelf 0) (length-replicate {A = ℕ} most_events 0) in
      let t = said_read (record_text shelf vs ks) (Ok (length shelf, length vs)) (filled shelf no_counts) (filled vs no_events) (filled ks no_events) q m c a h (length shelf) (length vs) refl in
      sym t
      ∙ ap₂ (λ (x y : List ℕ). replayed_said m c a x y (take (length shelf) (filled shelf no_counts)) (blanks (length vs)))
      (take-filled vs no_events (length vs) refl) (take-filled ks no_events (length vs) w.level)
      ∙ ap (λ (x : List ℕ). replayed_said m c a vs ks x (blanks (length vs))) (take-filled shelf no_counts (length shelf) refl)

  -- any text
  short_text : (s : List ℕ) → length s ≤ most_input → length (replay_said m c a s).bytes ≤ most_reply
  short_text s h = go (read_record s no_counts no_events no_events).result refl
    where
      shelf : List ℕ
      shelf = (read_record s no_counts no_events no_events).shelf

      vs : List ℕ
      vs = (read_record s no_counts no_events no_events).parts

      ks : List ℕ
      ks = (read_record s no_counts no_events no_events).received

      few : length no_events ≤ most_events
      few = let l = length-replicate {A = ℕ} most_events 0 in omega arith

      go : (x : Result (ℕ × ℕ) Refusal) → (read_record s no_counts no_events no_events).result ≡ x → length (replay_said m c a s).bytes ≤ most_reply
      go (Err r) e =
          subst (λ (z : Said). length z.bytes ≤ most_reply) (said_refused s (read_record s no_counts no_events no_events).result shelf vs ks refl m c a h r e)
          (refusal_short r (record_low s no_counts no_events no_events r h few e))
      go (Ok (k, e)) f =
          let w = read_within s (read_record s no_counts no_events no_events).result shelf vs ks refl k e f in
          let lv = length-take-le e vs w.parted in
          let ls = length-take-le k shelf w.counted in
          let a1 = w.few_events in
          let a2 = w.few_counts in
          subst (λ (z : Said). length z.bytes ≤ most_reply) (said_read s (read_record s no_counts no_events no_events).result shelf vs ks refl m c a h k e f)
          (replayed_short m c a (take e vs) (take e ks) (take k shelf) (blanks e) (omega arith) (omega arith))

  fits : (s : List ℕ) → length (replay_said m c a s).bytes ≤ most_reply
  fits s = go (dec_le (length s) most_input)
    where
      go : Dec (length s ≤ most_input) → length (replay_said m c a s).bytes ≤ most_reply
      go (yes h) = short_text s h
      go (no n) = subst (λ (z : Said). length z.bytes ≤ most_reply) (said_long m c a s (omega (arith, n))) (refusal_short InputLength (omega arith, omega arith))

  pub record_said : RecordSaid m c a
  record_said = record {
    printed = λ shelf vs ks w h p. said_of_record shelf vs ks w h ∙ replayed_right m c a vs ks shelf (blanks (length vs)) p;
    refused = λ shelf vs ks w h r g. said_of_record shelf vs ks w h ∙ replayed_wrong m c a vs ks shelf (blanks (length vs)) r g;
    long = λ s h. sym (said_long m c a s h);
    fits = fits;
  }
