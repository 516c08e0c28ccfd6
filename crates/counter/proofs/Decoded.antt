-- What a program in C can tell from the one number that a call gives it: below 2^32 it is an acceptance, and 0 or the bill's length; otherwise the quotient by 2^32 is the
-- refusal's number and the remainder its place. The paper's "The calls": "on a refusal the refusal's number times 4,294,967,296, plus the place". Assumes nothing.
use mathlib.Core.Path.{◌≡◌, refl, sym, ◌∙◌, subst}
use mathlib.Core.List.{List}
use Prim.Native.Nat.{ℕ, ◌≤◌}
use native.Mathlib.Omega.{arith}
use lib.ListN.{length, take, length-take}
use borrow.Author.Tests.{leb-true}
use Rattle.weights.specs.declared.Measure.{Measure}
use Rattle.refusal.specs.declared.Refusal.{Refusal}
use Rattle.refusal.specs.Refusals.{place_of, last_place, acceptance_result, extent_result, measure_of}
use Rattle.refusal.proofs.Refusals.{numbered}
use Rattle.columns.specs.Columns.{Entries, Columns}
use Rattle.columns.proofs.Accepted.{both_accepted, test_passed}
use Rattle.settle.specs.Settling.{settled}
use Rattle.settle.proofs.Demands.{settled_result_lem}
use Rattle.reprice.specs.Repricing.{repriced}
use Rattle.reprice.proofs.Changes.{repriced_result_lem}
use Rattle.bill.specs.Billing.{bill_of, part_acceptance, bill_acceptance, outcome, billed}
use Rattle.counter.specs.Results.{settled_result, repriced_result, most_room, billed_result}
use Rattle.counter.proofs.Places.{lent_place, reprice_place, bill_place, measure_place}
use Rattle.counter.specs.Decoded.{Names, Decoded, extent_of, measured}
use Rattle.refusal.specs.Answers.{Acceptance, Extent, MeasureChoice}
use Rattle.std.specs.Prelude.{Ok, Err}

-- the length of an answer, or the place of its refusal
abbrev pub reach : Extent → ℕ
reach (Ok size) = size
reach (Err r) = place_of r

pub decoded : (x : Extent) → reach x ≤ last_place → Decoded x (extent_result x)
decoded (Ok size) h =
    record {
      accepted = λ k e. let q : size ≡ k = cc in (q, omega arith);
      below = λ l. refl;
      refused = λ r e. let z : ◌≡◌ {A = ℕ} 0 1 = cc in absurd (omega arith);
    }
decoded (Err r) h =
    let s = numbered r in
    record {
      accepted = λ k e. let z : ◌≡◌ {A = ℕ} 0 1 = cc in absurd (omega arith);
      below = λ l. absurd (omega arith);
      refused = λ t e. let q : r ≡ t = cc in subst (λ (u : Refusal). Names u (extent_result (Err r))) q (record { number = omega arith; place = omega arith; least = s.0; most = s.1 });
    }

-- an acceptance alone is told
answer_decoded : (x : Acceptance) → ((s : Refusal) → x ≡ Err s → place_of s ≤ last_place) → Decoded (extent_of x) (acceptance_result x)
answer_decoded (Ok _) h = decoded (Ok 0) (omega arith)
answer_decoded (Err r) h = decoded (Err r) (h r refl)

pub settled_decoded : (k : ℕ) (c : Columns) (a : Entries) → Decoded (measured (measure_of k) (λ m. extent_of (settled m c a).result)) (settled_result (measure_of k) c a).result
settled_decoded k c a = go (measure_of k) (λ r. measure_place k)
  where
    go : (o : MeasureChoice) → ((r : Refusal) → o ≡ Err r → place_of r ≤ last_place) → Decoded (measured o (λ m. extent_of (settled m c a).result)) (settled_result o c a).result
    go (Err r) h = decoded (Err r) (h r refl)
    go (Ok m) h = answer_decoded (settled m c a).result (λ s e. lent_place c a (sym (settled_result_lem m c a) ∙ e))

pub repriced_decoded : (k : ℕ) (c : Columns) (a : Entries) (e w : ℕ) → Decoded (measured (measure_of k) (λ m. extent_of (repriced m c a e w).result)) (repriced_result (measure_of k) c a e w).result
repriced_decoded k c a e w = go (measure_of k) (λ r. measure_place k)
  where
    go : (o : MeasureChoice) → ((r : Refusal) → o ≡ Err r → place_of r ≤ last_place) → Decoded (measured o (λ m. extent_of (repriced m c a e w).result)) (repriced_result o c a e w).result
    go (Err r) h = decoded (Err r) (h r refl)
    go (Ok m) h = answer_decoded (repriced m c a e w).result (λ s q. reprice_place m c a e w (sym (repriced_result_lem m c a e w) ∙ q))

-- a bill is at most as long as its room
billed_reach : (m : Measure) (c : Columns) (a : Entries) (v : ℕ) (room : List ℕ) → length room ≤ last_place → reach (billed m c a v room).result ≤ last_place
unfolding billed bill_acceptance
billed_reach m c a v room h = go (bill_acceptance m c a v (length room)) refl
  where
    go : (x : Acceptance) → bill_acceptance m c a v (length room) ≡ x → reach (outcome x (bill_of c a.labels v) room).result ≤ last_place
    go (Ok _) p = let t = both_accepted (part_acceptance m c a v) _ p in omega (arith, leb-true (length (bill_of c a.labels v)) (length room) (test_passed _ _ _ t.1).0)
    go (Err r) p = bill_place m c a v (length room) p

pub billed_decoded : (k : ℕ) (c : Columns) (a : Entries) (v : ℕ) (room : List ℕ) → Decoded (measured (measure_of k) (λ m. (billed m c a v (take most_room room)).result)) (billed_result (measure_of k) c a v room).result
billed_decoded k c a v room = go (measure_of k) (λ r. measure_place k)
  where
    go : (o : MeasureChoice) → ((r : Refusal) → o ≡ Err r → place_of r ≤ last_place) → Decoded (measured o (λ m. (billed m c a v (take most_room room)).result)) (billed_result o c a v room).result
    go (Err r) h = decoded (Err r) (h r refl)
    go (Ok m) h = decoded (billed m c a v (take most_room room)).result (billed_reach m c a v (take most_room room) (omega (arith, length-take most_room room)))
