-- Repricing, striking and restoring: accepted and refused exactly where the paper says, demand 1, and what an accepted change leaves. Each is proved of a test of the
-- line and a further test; striking is the one whose further test passes. Assumes nothing.
use mathlib.Core.Path.{◌≡◌, refl, sym, ◌∙◌, subst}
use mathlib.Core.Bool.{Bool, true, false, not}
use mathlib.Core.List.{List}
use mathlib.Core.Logic.{◌↔◌}
use Prim.Native.Nat.{ℕ, ◌≤◌, ◌<◌}
use native.Mathlib.Omega.{arith}
use lib.ListN.{length, set}
use lib.Dec.{ltb, leb}
use borrow.Author.Tests.{ltb-true, ltb-false, leb-true, leb-false, eqb-true, eqb-false, lt-ltb, ne_eqb, not-true}
use Rattle.weights.specs.declared.Measure.{Measure}
use Rattle.weights.proofs.Choice.{apart, both_true}
use Rattle.weights.specs.Figures.{greatest, standing, struck_mark, is_struck_mark}
use Rattle.refusal.specs.declared.Refusal.{Refusal}
use Rattle.refusal.specs.declared.Refusal.TheVariants.{WrongAnswers, NoSuchEdge, NewWeight, NotStruck}
use Rattle.columns.specs.Columns.{Entries, Columns, strike_at, with_own, with_strike}
use Rattle.columns.specs.Acceptance.{test, and_then, acceptance, lent_acceptance}
use Rattle.columns.proofs.Accepted.{refused, test_passed, both_accepted, columns_accepted, columns_accept}
use Rattle.columns.specs.Owed.{Owed}
use Rattle.columns.proofs.Repriced.{acceptance_kept, strike_kept}
use Rattle.columns.specs.Same.{same_entries}
use Rattle.columns.proofs.Exactly.{lent_exactly, lent_refused_exactly}
use Rattle.columns.proofs.Refuses.{Refuses, none_refuses, test_refuses, then_refuses}
use Rattle.settle.specs.Settling.{entries_of}
use Rattle.settle.proofs.Demands.{entries_mean, entries_sized}
use Rattle.settle.proofs.Exactly.{same_exactly, same_fails, yes_exactly, demand_entry}
use Rattle.settle.proofs.States.{answers_state}
use Rattle.settle.specs.Checking.{answers_acceptance}
use Rattle.reprice.specs.Repricing.{stands, line_acceptance, reprice_acceptance, strike_acceptance, numbered_acceptance, struck_acceptance, restore_acceptance}
use Rattle.reprice.specs.Repricing.{changed, marked, repriced, stricken, restored}
use Rattle.reprice.specs.Changes.{Named, RightChange, WrongChange, RightReprice, WrongReprice, RightStrike, WrongStrike, RightRestore, WrongRestore}
use Rattle.reprice.specs.Changes.{ChangeOwes, MarkOwes, Leaves}
use Rattle.refusal.specs.Answers.{Acceptance}
use Rattle.std.specs.Prelude.{Ok, Err}

-- a test that passes exactly if P holds
record Tests (b : Bool) (P : Type 0) : Type 0 where
  pass : b ≡ true → P
  fail : b ≡ false → ¬ P

module _ {b : Bool} {P : Type 0} (t : Tests b P) where
  passed : P → b ≡ true
  passed l = go b refl
    where
      go : (x : Bool) → b ≡ x → x ≡ true
      go true p = refl
      go false p = absurd (t.fail p l)

  failed : ¬ P → b ≡ false
  failed n = go b refl
    where
      go : (x : Bool) → b ≡ x → x ≡ false
      go true p = absurd (n (t.pass p))
      go false p = refl

-- the tests of 9, 20 and 10, and the one that passes
module _ (c : Columns) (e : ℕ) where
  named_stands : Named c e → stands c e ≡ true
  named_stands n = rw (lt-ltb e (length c.heads) n.numbered, ne_eqb (strike_at c e) struck_mark n.unstruck)

  stands_tests : Tests (stands c e) (Named c e)
  stands_tests = record {
    pass = λ s.
        let t = both_true {a = ltb e (length c.heads)} {b = not (is_struck_mark (strike_at c e))} s in
        record { numbered = ltb-true e (length c.heads) t.0; unstruck = eqb-false (strike_at c e) struck_mark (not-true _ t.1) };
    fail = λ s n. apart (sym s ∙ named_stands n);
  }

  numbered_tests : Tests (ltb e (length c.heads)) (e < length c.heads)
  numbered_tests = record { pass = ltb-true e (length c.heads); fail = λ s h. omega (arith, ltb-false e (length c.heads) s) }

  struck_tests : Tests (is_struck_mark (strike_at c e)) (strike_at c e ≡ struck_mark)
  struck_tests = record { pass = eqb-true (strike_at c e) struck_mark; fail = eqb-false (strike_at c e) struck_mark }

low_tests : (w : ℕ) → Tests (leb w greatest) (w ≤ greatest)
low_tests w = record { pass = leb-true w greatest; fail = λ p l. omega (arith, leb-false w greatest p) }

no_test : Tests true (Unit {0})
no_test = record { pass = λ p. tt; fail = λ p. apart (sym p) }

-- a change answers what its tests do
changed_result : (m : Measure) (c : Columns) (a : Entries) (e w : ℕ) (x : Acceptance) → (changed m c a e w x).result ≡ x
changed_result m c a e w (Ok _) = refl
changed_result m c a e w (Err r) = refl

marked_result : (m : Measure) (c : Columns) (a : Entries) (e s : ℕ) (x : Acceptance) → (marked m c a e s x).result ≡ x
marked_result m c a e s (Ok _) = refl
marked_result m c a e s (Err r) = refl

pub repriced_result_lem : (m : Measure) (c : Columns) (a : Entries) (e w : ℕ) → (repriced m c a e w).result ≡ reprice_acceptance m c a e w
unfolding repriced
repriced_result_lem m c a e w = changed_result m c a e w (reprice_acceptance m c a e w)

pub stricken_result : (m : Measure) (c : Columns) (a : Entries) (e : ℕ) → (stricken m c a e).result ≡ strike_acceptance m c a e
unfolding stricken
stricken_result m c a e = marked_result m c a e struck_mark (strike_acceptance m c a e)

pub restored_result : (m : Measure) (c : Columns) (a : Entries) (e : ℕ) → (restored m c a e).result ≡ restore_acceptance m c a e
unfolding restored
restored_result m c a e = marked_result m c a e standing (restore_acceptance m c a e)

-- a change whose line passes the test l, and then b or is refused by r
module _ (m : Measure) (c : Columns) (a : Entries) {l : Bool} {Line : Type 0} (line : Tests l Line) {b : Bool} {Further : Type 0} (further : Tests b Further) (r : Refusal) where
  abbrev chain : Acceptance
  chain = and_then (and_then (lent_acceptance c a) (test l NoSuchEdge (Ok tt))) (test b r (answers_acceptance m c a))

  chain_wrong : Refuses (WrongChange m c a Line Further r) chain
  chain_wrong =
      then_refuses (and_then (lent_acceptance c a) (test l NoSuchEdge (Ok tt))) _
      (then_refuses (lent_acceptance c a) _ (record { holds = λ q. WrongChange.lent ((lent_refused_exactly c a _).0 q) }) (λ p.
      test_refuses l _ _ (λ s. WrongChange.line ((lent_exactly c a).0 p) (line.fail s)) (λ _. none_refuses)))
      (λ q.
      let t = both_accepted (lent_acceptance c a) (test l NoSuchEdge (Ok tt)) q in
      let g = (lent_exactly c a).0 t.0 in
      let n = line.pass (test_passed l NoSuchEdge (Ok tt) t.1).0 in
      test_refuses b _ _ (λ h. WrongChange.further g n (further.fail h)) (λ h.
      test_refuses (same_entries a (entries_of m c)) _ _ (λ s. WrongChange.answers g n (further.pass h) ((same_fails m c a t.0).0 s)) (λ _. none_refuses)))

  wrong_chain : {s : Refusal} → WrongChange m c a Line Further r s → chain ≡ Err s
  wrong_chain (WrongChange.lent w) = let q = (lent_refused_exactly c a _).1 w in rw q
  wrong_chain (WrongChange.line g n) = rw ((lent_exactly c a).1 g, failed line n)
  wrong_chain (WrongChange.further g n h) = rw ((lent_exactly c a).1 g, passed line n, failed further h)
  wrong_chain (WrongChange.answers g n h s) = let p = (lent_exactly c a).1 g in rw (p, passed line n, passed further h, (same_fails m c a p).1 s)

  chain_right : chain ≡ Ok tt → RightChange m c a Line Further
  chain_right p =
      let t = both_accepted (and_then (lent_acceptance c a) (test l NoSuchEdge (Ok tt))) (test b r (answers_acceptance m c a)) p in
      let k = both_accepted (lent_acceptance c a) (test l NoSuchEdge (Ok tt)) t.0 in
      let f = test_passed b r (answers_acceptance m c a) t.1 in
      record {
        lent = (lent_exactly c a).0 k.0;
        line = line.pass (test_passed l NoSuchEdge (Ok tt) k.1).0;
        further = further.pass f.0;
        answers = (same_exactly m c a k.0).0 (test_passed (same_entries a (entries_of m c)) WrongAnswers (Ok tt) f.1).0;
      }

  right_chain : RightChange m c a Line Further → chain ≡ Ok tt
  right_chain g = let p = (lent_exactly c a).1 g.lent in rw (p, passed line g.line, passed further g.further, (same_exactly m c a p).1 g.answers)

  chain_exactly : (chain ≡ Ok tt) ↔ RightChange m c a Line Further
  chain_exactly = (chain_right, right_chain)

  chain_refused_exactly : (s : Refusal) → (chain ≡ Err s) ↔ WrongChange m c a Line Further r s
  chain_refused_exactly s = (chain_wrong.holds, wrong_chain)

-- a test before a second chain, or within the first
apart_test : (x y : Acceptance) (b : Bool) (r : Refusal) → and_then x (test b r y) ≡ and_then (and_then x (test b r (Ok tt))) y
apart_test (Ok _) y true r = refl
apart_test (Ok _) y false r = refl
apart_test (Err s) y b r = refl

restore_chain : (m : Measure) (c : Columns) (a : Entries) (e : ℕ) → chain m c a (numbered_tests c e) (struck_tests c e) NotStruck ≡ restore_acceptance m c a e
unfolding restore_acceptance struck_acceptance numbered_acceptance
restore_chain m c a e = apart_test (numbered_acceptance c a e) (answers_acceptance m c a) (is_struck_mark (strike_at c e)) NotStruck

-- what a change of line e leaves
module _ (m : Measure) (c : Columns) (a : Entries) (e : ℕ) {Right : Type 0} {Wrong : Refusal → Type 0} (x : Acceptance) where
  change_owes : (w : ℕ) → (x ≡ Ok tt) ↔ Right → ((r : Refusal) → (x ≡ Err r) ↔ Wrong r) → ChangeOwes m c a e w Right Wrong (changed m c a e w x)
  change_owes w f g = go x refl
    where
      go : (y : Acceptance) → x ≡ y → ChangeOwes m c a e w Right Wrong (changed m c a e w y)
      go (Ok _) p = Owed.accepted (f.0 p)
      go (Err r) p = Owed.refused ((g r).0 p)

  mark_owes : (s : ℕ) → (x ≡ Ok tt) ↔ Right → ((r : Refusal) → (x ≡ Err r) ↔ Wrong r) → MarkOwes m c a e s Right Wrong (marked m c a e s x)
  mark_owes s f g = go x refl
    where
      go : (y : Acceptance) → x ≡ y → MarkOwes m c a e s Right Wrong (marked m c a e s y)
      go (Ok _) p = Owed.accepted (f.0 p)
      go (Err r) p = Owed.refused ((g r).0 p)

-- a table that is accepted with its answers
table_leaves : (m : Measure) (c : Columns) (column : List ℕ) → acceptance c ≡ Ok tt → Leaves m c column column (entries_of m c)
table_leaves m c column t =
    let s = columns_accept c (entries_of m c) t (entries_sized m c t) in
    record {
      stored = refl;
      accepted = t;
      means = entries_mean m c t;
      states = answers_state m c t;
      checks = (yes_exactly m c _).1 (record { accepted = s; means = λ v h. demand_entry (entries_mean m c t v) });
    }

module _ (m : Measure) (c : Columns) (a : Entries) (e : ℕ) (x : Acceptance) (lent : x ≡ Ok tt → lent_acceptance c a ≡ Ok tt) (numbered : x ≡ Ok tt → e < length c.heads) where
  change_leaves : (w : ℕ) → (x ≡ Ok tt → w ≤ greatest) → (changed m c a e w x).result ≡ Ok tt
      → Leaves m (with_own c e w) (set c.own e w) (changed m c a e w x).own (changed m c a e w x).left
  change_leaves w low q = go x refl q
    where
      go : (y : Acceptance) → x ≡ y → (changed m c a e w y).result ≡ Ok tt
          → Leaves m (with_own c e w) (set c.own e w) (changed m c a e w y).own (changed m c a e w y).left
      go (Err r) p f = absurd (refused f)
      go (Ok _) p f =
          let t = (columns_accepted c a (lent p)).table in
          let o = ((lent_exactly c a).0 (lent p)).table.level.own in
          table_leaves m (with_own c e w) (set c.own e w) (acceptance_kept c e w (omega (arith, o, numbered p)) (low p) t)

  mark_leaves : (s : ℕ) → s ≤ struck_mark → (marked m c a e s x).result ≡ Ok tt
      → Leaves m (with_strike c e s) (set c.strikes e s) (marked m c a e s x).strikes (marked m c a e s x).left
  mark_leaves s low q = go x refl q
    where
      go : (y : Acceptance) → x ≡ y → (marked m c a e s y).result ≡ Ok tt
          → Leaves m (with_strike c e s) (set c.strikes e s) (marked m c a e s y).strikes (marked m c a e s y).left
      go (Err r) p f = absurd (refused f)
      go (Ok _) p f =
          let t = (columns_accepted c a (lent p)).table in
          let o = ((lent_exactly c a).0 (lent p)).table.level.strikes in
          table_leaves m (with_strike c e s) (set c.strikes e s) (strike_kept c e s (omega (arith, o, numbered p)) low t)

module _ (m : Measure) (c : Columns) (a : Entries) (e w : ℕ) where
  -- "Reprice an unstruck line to 0 to 1,000,000,000"
  pub reprice_exactly : (reprice_acceptance m c a e w ≡ Ok tt) ↔ RightReprice m c a e w
  unfolding reprice_acceptance line_acceptance
  reprice_exactly = chain_exactly m c a (stands_tests c e) (low_tests w) NewWeight

  pub reprice_refused_exactly : (r : Refusal) → (reprice_acceptance m c a e w ≡ Err r) ↔ WrongReprice m c a e w r
  unfolding reprice_acceptance line_acceptance
  reprice_refused_exactly = chain_refused_exactly m c a (stands_tests c e) (low_tests w) NewWeight

  pub reprice_owes : ChangeOwes m c a e w (RightReprice m c a e w) (WrongReprice m c a e w) (repriced m c a e w)
  unfolding repriced
  reprice_owes = change_owes m c a e (reprice_acceptance m c a e w) w reprice_exactly reprice_refused_exactly

  pub reprice_leaves : (repriced m c a e w).result ≡ Ok tt → Leaves m (with_own c e w) (set c.own e w) (repriced m c a e w).own (repriced m c a e w).left
  unfolding repriced
  reprice_leaves =
      change_leaves m c a e (reprice_acceptance m c a e w) (λ p. (lent_exactly c a).1 (reprice_exactly.0 p).lent) (λ p. (reprice_exactly.0 p).line.numbered)
      w (λ p. (reprice_exactly.0 p).further)

module _ (m : Measure) (c : Columns) (a : Entries) (e : ℕ) where
  -- "and strike an unstruck line"
  pub strike_exactly : (strike_acceptance m c a e ≡ Ok tt) ↔ RightStrike m c a e
  unfolding strike_acceptance line_acceptance
  strike_exactly = chain_exactly m c a (stands_tests c e) no_test NewWeight

  pub strike_refused_exactly : (r : Refusal) → (strike_acceptance m c a e ≡ Err r) ↔ WrongStrike m c a e r
  unfolding strike_acceptance line_acceptance
  strike_refused_exactly = chain_refused_exactly m c a (stands_tests c e) no_test NewWeight

  pub strike_owes : MarkOwes m c a e struck_mark (RightStrike m c a e) (WrongStrike m c a e) (stricken m c a e)
  unfolding stricken
  strike_owes = mark_owes m c a e (strike_acceptance m c a e) struck_mark strike_exactly strike_refused_exactly

  pub strike_leaves : (stricken m c a e).result ≡ Ok tt
      → Leaves m (with_strike c e struck_mark) (set c.strikes e struck_mark) (stricken m c a e).strikes (stricken m c a e).left
  unfolding stricken
  strike_leaves =
      mark_leaves m c a e (strike_acceptance m c a e) (λ p. (lent_exactly c a).1 (strike_exactly.0 p).lent) (λ p. (strike_exactly.0 p).line.numbered)
      struck_mark (omega arith)

  -- "Bring a struck line back"
  pub restore_exactly : (restore_acceptance m c a e ≡ Ok tt) ↔ RightRestore m c a e
  restore_exactly = subst (λ (x : Acceptance). (x ≡ Ok tt) ↔ RightRestore m c a e) (restore_chain m c a e) (chain_exactly m c a (numbered_tests c e) (struck_tests c e) NotStruck)

  pub restore_refused_exactly : (r : Refusal) → (restore_acceptance m c a e ≡ Err r) ↔ WrongRestore m c a e r
  restore_refused_exactly r =
      subst (λ (x : Acceptance). (x ≡ Err r) ↔ WrongRestore m c a e r) (restore_chain m c a e)
      (chain_refused_exactly m c a (numbered_tests c e) (struck_tests c e) NotStruck r)

  pub restore_owes : MarkOwes m c a e standing (RightRestore m c a e) (WrongRestore m c a e) (restored m c a e)
  unfolding restored
  restore_owes = mark_owes m c a e (restore_acceptance m c a e) standing restore_exactly restore_refused_exactly

  pub restore_leaves : (restored m c a e).result ≡ Ok tt
      → Leaves m (with_strike c e standing) (set c.strikes e standing) (restored m c a e).strikes (restored m c a e).left
  unfolding restored
  restore_leaves =
      mark_leaves m c a e (restore_acceptance m c a e) (λ p. (lent_exactly c a).1 (restore_exactly.0 p).lent) (λ p. (restore_exactly.0 p).line)
      standing (omega arith)
