-- A bill is printed, and refused, exactly where the paper says; demand 1 of the call. Assumes nothing.
use mathlib.Core.Path.{◌≡◌, refl, ap}
use mathlib.Core.Logic.{◌↔◌}
use mathlib.Core.List.{List}
use Prim.Native.Nat.{ℕ, ◌≤◌}
use native.Mathlib.Omega.{arith}
use native.Mathlib.Decide.{dec_le}
use lib.ListN.{length}
use lib.Dec.{ltb, leb}
use borrow.Author.Tests.{ltb-true, ltb-false, leb-true, leb-false, lt-ltb, le-ltb, le-leb, lt-leb}
use Rattle.weights.specs.declared.Measure.{Measure}
use Rattle.refusal.specs.declared.Refusal.{Refusal}
use Rattle.refusal.specs.declared.Refusal.TheVariants.{NoSuchVertex, WrongAnswers, Underivable}
use Rattle.columns.specs.Columns.{Entries, Columns}
use Rattle.provenance.specs.BestFirst.{labels}
use Rattle.columns.specs.Acceptance.{test, lent_acceptance}
use Rattle.columns.proofs.Accepted.{test_passed, both_accepted}
use Rattle.columns.specs.Owed.{Owed}
use Rattle.columns.specs.Same.{same_entries}
use Rattle.columns.proofs.Exactly.{lent_exactly, lent_refused_exactly}
use Rattle.columns.proofs.Refuses.{Refuses, none_refuses, test_refuses, then_refuses}
use Rattle.settle.specs.Settling.{entries_of}
use Rattle.settle.proofs.Exactly.{same_exactly, same_fails}
use Rattle.settle.proofs.States.{deep_made, made_deep}
use Rattle.bill.specs.Billing.{bill_of, part_acceptance, room_acceptance, bill_acceptance, outcome, billed}
use Rattle.bill.specs.Asked.{RightBill, WrongBill, BillOwes}
use Rattle.refusal.specs.Answers.{Acceptance}
use Rattle.std.specs.Prelude.{Ok, Err}

module _ (m : Measure) (c : Columns) (a : Entries) (v places : ℕ) where
  -- the tests behind those of the lent columns
  abbrev late : Acceptance
  late =
      test (ltb v c.vertices) NoSuchVertex
      (test (same_entries a (entries_of m c)) WrongAnswers
      (test (ltb 0 (labels a.labels v).depth) Underivable
      (Ok tt)))

  abbrev k : ℕ
  k = (labels a.labels v).depth

  bill_wrong : Refuses (WrongBill m c a v places) (bill_acceptance m c a v places)
  unfolding bill_acceptance part_acceptance
  bill_wrong =
      then_refuses (part_acceptance m c a v) _
      (then_refuses (lent_acceptance c a) _ (record { holds = λ q. WrongBill.lent ((lent_refused_exactly c a _).0 q) }) (λ p.
      let l = (lent_exactly c a).0 p in
      test_refuses (ltb v c.vertices) _ _ (λ b. WrongBill.part l (λ h. omega (arith, ltb-false v c.vertices b, h))) (λ b.
      let h = ltb-true v c.vertices b in
      test_refuses (same_entries a (entries_of m c)) _ _ (λ s. WrongBill.answers l h ((same_fails m c a p).0 s)) (λ s.
      let f = (same_exactly m c a p).0 s in
      test_refuses (ltb 0 k) _ _ (λ b. WrongBill.unmade l h f (λ d. omega (arith, ltb-false 0 k b, made_deep (f v h).means d))) (λ _. none_refuses)))))
      (λ q.
      let t = both_accepted (lent_acceptance c a) late q in
      let l = (lent_exactly c a).0 t.0 in
      let t1 = test_passed (ltb v c.vertices) _ _ t.1 in
      let t2 = test_passed (same_entries a (entries_of m c)) _ _ t1.1 in
      let t3 = test_passed (ltb 0 k) _ _ t2.1 in
      let h = ltb-true v c.vertices t1.0 in
      let f = (same_exactly m c a t.0).0 t2.0 in
      let d = deep_made (f v h).means (ltb-true 0 k t3.0) in
      test_refuses (leb (length (bill_of c a.labels v)) places) _ _ (λ b. WrongBill.room l h f d (λ r. omega (arith, leb-false (length (bill_of c a.labels v)) places b, r))) (λ _. none_refuses))

  wrong_bill : {r : Refusal} → WrongBill m c a v places r → bill_acceptance m c a v places ≡ Err r
  unfolding bill_acceptance part_acceptance
  wrong_bill (WrongBill.lent w) = let q = (lent_refused_exactly c a _).1 w in rw q
  wrong_bill (WrongBill.part l n) = rw ((lent_exactly c a).1 l, le-ltb v c.vertices (omega (arith, n)))
  wrong_bill (WrongBill.answers l h n) = let p = (lent_exactly c a).1 l in rw (p, lt-ltb v c.vertices h, (same_fails m c a p).1 n)
  wrong_bill (WrongBill.unmade l h f n) =
      let p = (lent_exactly c a).1 l in
      let z : k ≤ 0 = shallow (dec_le 1 k) in
      rw (p, lt-ltb v c.vertices h, (same_exactly m c a p).1 f, le-ltb 0 k z)
    where
      shallow : Dec (1 ≤ k) → k ≤ 0
      shallow (yes d) = absurd (n (deep_made (f v h).means d))
      shallow (no d) = omega arith
  wrong_bill (WrongBill.room l h f d n) =
      let p = (lent_exactly c a).1 l in
      rw (p, lt-ltb v c.vertices h, (same_exactly m c a p).1 f, lt-ltb 0 k (made_deep (f v h).means d), lt-leb (length (bill_of c a.labels v)) places (omega (arith, n)))

  accepted-bill : bill_acceptance m c a v places ≡ Ok tt → RightBill m c a v places
  unfolding bill_acceptance part_acceptance
  accepted-bill q =
      let u = both_accepted (part_acceptance m c a v) (room_acceptance (bill_of c a.labels v) places) q in
      let t = both_accepted (lent_acceptance c a) late u.0 in
      let t1 = test_passed (ltb v c.vertices) _ _ t.1 in
      let t2 = test_passed (same_entries a (entries_of m c)) _ _ t1.1 in
      let t3 = test_passed (ltb 0 k) _ _ t2.1 in
      let h = ltb-true v c.vertices t1.0 in
      let f = (same_exactly m c a t.0).0 t2.0 in
      record {
        lent = (lent_exactly c a).0 t.0;
        part = h;
        answers = f;
        made = deep_made (f v h).means (ltb-true 0 k t3.0);
        room = leb-true (length (bill_of c a.labels v)) places (test_passed _ _ _ u.1).0;
      }

  right_bill : RightBill m c a v places → bill_acceptance m c a v places ≡ Ok tt
  unfolding bill_acceptance part_acceptance
  right_bill g =
      let p = (lent_exactly c a).1 g.lent in
      let deep = made_deep (g.answers v g.part).means g.made in
      rw (p, lt-ltb v c.vertices g.part, (same_exactly m c a p).1 g.answers, lt-ltb 0 k deep, le-leb (length (bill_of c a.labels v)) places g.room)

  -- "Print a bill"
  pub bill_exactly : (bill_acceptance m c a v places ≡ Ok tt) ↔ RightBill m c a v places
  bill_exactly = (accepted-bill, right_bill)

  pub bill_refused_exactly : (r : Refusal) → (bill_acceptance m c a v places ≡ Err r) ↔ WrongBill m c a v places r
  bill_refused_exactly r = (bill_wrong.holds, wrong_bill)

pub bill_owes : (m : Measure) (c : Columns) (a : Entries) (v : ℕ) (room : List ℕ) → BillOwes m c a v room (billed m c a v room)
unfolding billed
bill_owes m c a v room = go (bill_acceptance m c a v (length room)) refl
  where
    go : (x : Acceptance) → bill_acceptance m c a v (length room) ≡ x → BillOwes m c a v room (outcome x (bill_of c a.labels v) room)
    go (Ok _) p = Owed.accepted ((bill_exactly m c a v (length room)).0 p)
    go (Err r) p = Owed.refused ((bill_refused_exactly m c a v (length room) r).0 p)

-- the call is refused by what its tests refuse by
pub bill_refused : (m : Measure) (c : Columns) (a : Entries) (v : ℕ) (room : List ℕ) (r : Refusal)
    → ((billed m c a v room).result ≡ Err r) ↔ (bill_acceptance m c a v (length room) ≡ Err r)
unfolding billed
bill_refused m c a v room r = (go (bill_acceptance m c a v (length room)), λ p. ap (λ (x : Acceptance). (outcome x (bill_of c a.labels v) room).result) p)
  where
    go : (x : Acceptance) → (outcome x (bill_of c a.labels v) room).result ≡ Err r → x ≡ Err r
    go (Ok _) q = let z : ◌≡◌ {A = ℕ} 0 1 = cc in absurd (omega arith)
    go (Err s) q = let e : s ≡ r = cc in ap Err e
