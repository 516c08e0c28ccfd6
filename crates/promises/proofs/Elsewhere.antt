-- No call but the two of request 2026-08 returns 24: nothing that can be wrong with another call's input has that number. Assumes nothing.
use mathlib.Core.Path.{◌≡◌, refl, sym, ◌∙◌, ap, subst}
use mathlib.Core.Bool.{Bool, true, false}
use mathlib.Core.List.{List}
use Prim.Native.Nat.{ℕ, ◌*◌}
use native.Mathlib.Omega.{arith}
use lib.ListN.{length}
use lib.Dec.{eqb}
use Rattle.weights.specs.declared.Measure.{Measure}
use Rattle.weights.specs.Choice.{pick}
use Rattle.refusal.specs.declared.Refusal.{Refusal}
use Rattle.refusal.specs.declared.Refusal.TheVariants.{ByteRoom}
use Rattle.refusal.specs.declared.Header.{Header}
use Rattle.refusal.specs.declared.Counts.{Counts}
use Rattle.refusal.specs.Refusals.{number_of}
use Rattle.columns.specs.Columns.{Entries, Columns}
use Rattle.columns.specs.Acceptance.{lent_acceptance}
use Rattle.columns.specs.Longer.{NewLine}
use Rattle.columns.specs.Owed.{Owed}
use Rattle.columns.specs.Right.{WrongTable, WrongLent}
use Rattle.columns.specs.Same.{same_entries}
use Rattle.columns.proofs.Accepted.{refused}
use Rattle.columns.proofs.Exactly.{refused_exactly, lent_refused_exactly}
use Rattle.columns.proofs.Refuses.{same_refusal}
use Rattle.settle.specs.Settling.{entries_of}
use Rattle.settle.specs.Checking.{verdict as told, checked}
use Rattle.topological.proofs.Ordered.{never_order}
use Rattle.reprice.specs.Changes.{WrongChange}
use Rattle.bill.specs.Asked.{WrongBill}
use Rattle.roundtrip.specs.Reads.{WrongRead}
use Rattle.writetable.specs.Asked.{WrongWrite}
use Rattle.indextable.specs.Asked.{WrongIndexing}
use Rattle.append.specs.Asked.{WrongLine, WrongAppend}
use Rattle.inventory.specs.Record.{Stops}
use Rattle.inventory.specs.Asked.{WrongReplay}
use Rattle.statistics.specs.Samples.{Sampled}
use Rattle.shuffle.specs.Shuffled.{shuffled, unshuffled, outcome, shuffle_outcome, unshuffle_outcome}
use Rattle.refusal.specs.Answers.{Acceptance, Extent, Reading, Appending}
use Rattle.std.specs.Prelude.{Ok, Err}

-- a call that owes this and was refused by r had that wrong with its input
owed_wrong : {R L : Type 0} {refuse : Refusal → R} {entry : L} {Right : Type 0} {done : Right → R} {new : Right → L} {Wrong : Refusal → Type 0} {x : R} {y : L} {r : Refusal}
    → ((p : Right) → ¬ (done p ≡ refuse r)) → ((s : Refusal) → refuse s ≡ refuse r → s ≡ r) → Owed refuse entry Right done new Wrong x y → x ≡ refuse r → Wrong r
owed_wrong n i (Owed.accepted p) e = absurd (n p e)
owed_wrong {Wrong = Wrong} n i (Owed.refused {r = s} w) e = subst Wrong (i s e) w

-- by what it returns
module _ {L : Type 0} {entry : L} {Right : Type 0} {new : Right → L} {Wrong : Refusal → Type 0} {y : L} {r : Refusal} where
  pub of_acceptance : {x : Acceptance} → Owed Err entry Right (λ _. Ok tt) new Wrong x y → x ≡ Err r → Wrong r
  of_acceptance = owed_wrong (λ p e. refused (sym e)) (λ s e. same_refusal e)

  pub of_extent : {size : Right → ℕ} {x : Extent} → Owed Err entry Right (λ p. Ok (size p)) new Wrong x y → x ≡ Err r → Wrong r
  of_extent = owed_wrong (λ p e. let z : ◌≡◌ {A = ℕ} 0 1 = cc in omega arith) (λ s e. cc)

  pub of_reading : {header : Right → Header} {x : Reading} → Owed Err entry Right (λ p. Ok (header p)) new Wrong x y → x ≡ Err r → Wrong r
  of_reading = owed_wrong (λ p e. let z : ◌≡◌ {A = ℕ} 0 1 = cc in omega arith) (λ s e. cc)

  pub of_appending : {counts : Right → Counts} {x : Appending} → Owed Err entry Right (λ p. Ok (counts p)) new Wrong x y → x ≡ Err r → Wrong r
  of_appending = owed_wrong (λ p e. let z : ◌≡◌ {A = ℕ} 0 1 = cc in omega arith) (λ s e. cc)

abbrev pub Other : Refusal → Type 0
Other r = ¬ (number_of r ≡ 24)

table_other : {c : Columns} {r : Refusal} → WrongTable c r → Other r
table_other {c} {r} w e = omega (arith, never_order c r ((refused_exactly c r).1 w), e)

pub lent_other : {c : Columns} {a : Entries} {r : Refusal} → WrongLent c a r → Other r
lent_other (WrongLent.table w) e = table_other w e
lent_other (WrongLent.answers t s) e = omega arith

pub checked_other : (m : Measure) (c : Columns) (a : Entries) {r : Refusal} → checked m c a ≡ Err r → Other r
unfolding checked
checked_other m c a {r} = go (lent_acceptance c a) (same_entries a (entries_of m c)) refl
  where
    go : (x : Acceptance) (b : Bool) → lent_acceptance c a ≡ x → told x b ≡ Err r → Other r
    go (Err s) b p q = let e : s ≡ r = cc in lent_other ((lent_refused_exactly c a r).0 (p ∙ ap Err e))
    go (Ok _) true p q = let z : ◌≡◌ {A = ℕ} 0 1 = cc in absurd (omega arith)
    go (Ok _) false p q = let z : ◌≡◌ {A = ℕ} 0 1 = cc in absurd (omega arith)

pub change_other : {m : Measure} {c : Columns} {a : Entries} {Line Further : Type 0} {own r : Refusal} → Other own → WrongChange m c a Line Further own r → Other r
change_other o (WrongChange.lent w) e = lent_other w e
change_other o (WrongChange.line l n) e = omega arith
change_other o (WrongChange.further l h n) e = o e
change_other o (WrongChange.answers l h f n) e = omega arith

pub bill_other : {m : Measure} {c : Columns} {a : Entries} {v places : ℕ} {r : Refusal} → WrongBill m c a v places r → Other r
bill_other (WrongBill.lent w) e = lent_other w e
bill_other (WrongBill.part l n) e = omega arith
bill_other (WrongBill.answers l h n) e = omega arith
bill_other (WrongBill.unmade l h f n) e = omega arith
bill_other (WrongBill.room l h f d n) e = omega arith

pub read_other : {text h o ms s t : List ℕ} {r : Refusal} → WrongRead text h o ms s t r → Other r
read_other (WrongRead.form k c n w b) e = omega arith
read_other (WrongRead.room p n) e = omega arith

pub write_other : {m : Measure} {c : Columns} {places : ℕ} {r : Refusal} → WrongWrite m c places r → Other r
write_other (WrongWrite.table w) e = table_other w e
write_other (WrongWrite.room t n) e = omega arith

pub index_other : {c : Columns} {index list : List ℕ} {r : Refusal} → WrongIndexing c index list r → Other r
index_other (WrongIndexing.table w) e = table_other w e
index_other (WrongIndexing.room t n) e = omega arith

line_other : {n k : ℕ} {l : NewLine} {r : Refusal} → WrongLine n k l r → Other r
line_other (WrongLine.head w) e = omega arith
line_other (WrongLine.own h w) e = omega arith
line_other (WrongLine.mark h o w) e = omega arith
line_other (WrongLine.span h o m w) e = omega arith
line_other (WrongLine.tail h o m s w) e = omega arith

pub append_other : {m : Measure} {c : Columns} {k : Counts} {a : Entries} {index list : List ℕ} {l : NewLine} {r : Refusal} → WrongAppend m c k a index list l r → Other r
append_other (WrongAppend.many w) e = omega arith
append_other (WrongAppend.counts f w) e = omega arith
append_other (WrongAppend.table f u w) e = table_other w e
append_other (WrongAppend.line f u g w) e = line_other w e
append_other (WrongAppend.sized f u g h w) e = omega arith
append_other (WrongAppend.room f u g h s w) e = omega arith
append_other (WrongAppend.index f u g h s x w) e = omega arith
append_other (WrongAppend.answers f u g h s x i w) e = omega arith

event_other : (c : Columns) (a : Entries) {i : ℕ} {vs ks s : List ℕ} {r : Refusal} → Stops c a.labels i vs ks s r → Other r
event_other c a (Stops.vertex h) e = omega arith
event_other c a (Stops.receipt h k l) e = omega arith
event_other c a (Stops.later h l x w) e = event_other c a w e

pub replay_other : {m : Measure} {c : Columns} {a : Entries} {vs ks stock os : List ℕ} {r : Refusal} → WrongReplay m c a vs ks stock os r → Other r
replay_other (WrongReplay.many n) e = omega arith
replay_other (WrongReplay.unlevel f n) e = omega arith
replay_other (WrongReplay.lent l w) e = lent_other w e
replay_other (WrongReplay.shelf l g n) e = omega arith
replay_other (WrongReplay.answers l g s n) e = omega arith
replay_other (WrongReplay.opening l g s f v n) e = omega arith
replay_other {c = c} {a = a} (WrongReplay.event g w) e = event_other c a w e

pub sample_other : {xs : List ℕ} {r : Refusal} → Sampled xs (Err r) → Other r
sample_other (Sampled.sized h) e = omega arith
sample_other (Sampled.large h l i f) e = omega arith

-- what is laid out is refused by 27 alone
laid_other : (b : Bool) (new old : List ℕ) {r : Refusal} → (pick b (outcome (Ok tt) new) (outcome (Err ByteRoom) old)).answer ≡ Err r → Other r
laid_other true new old p e = refused (sym p)
laid_other false new old p e = omega (arith, ap number_of (same_refusal p), e)

pub shuffle_other : (own room : List ℕ) {r : Refusal} → (shuffle_outcome own room).answer ≡ Err r → Other r
unfolding shuffle_outcome
shuffle_other own room = laid_other (eqb (length room) (8 * length own)) (shuffled own) room

pub unshuffle_other : (bytes own : List ℕ) {r : Refusal} → (unshuffle_outcome bytes own).answer ≡ Err r → Other r
unfolding unshuffle_outcome
unshuffle_other bytes own = laid_other (eqb (length bytes) (8 * length own)) (unshuffled (length own) bytes) own
