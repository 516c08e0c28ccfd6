-- The laws by which the changes go. Assumes nothing.
use mathlib.Core.Path.{◌≡◌, refl, sym, ◌∙◌, ap}
use mathlib.Core.Bool.{Bool, true, false, not}
use Prim.Native.Nat.{ℕ, ◌≤◌, ◌<◌}
use native.Mathlib.Omega.{arith}
use lib.ListN.{length, set}
use lib.Dec.{ltb}
use borrow.Author.Tests.{ltb-true, le-leb, lt-leb}
use Rattle.weights.specs.declared.Measure.{Measure}
use Rattle.weights.specs.Choice.{pick}
use Rattle.weights.specs.Figures.{greatest, standing, struck_mark, is_struck_mark}
use Rattle.refusal.specs.declared.Refusal.{Refusal}
use Rattle.refusal.specs.declared.Refusal.TheVariants.{WrongAnswers, NoSuchEdge, NewWeight, NotStruck}
use Rattle.columns.specs.Columns.{Entries, Columns, strike_at, with_own, with_strike}
use Rattle.columns.specs.Acceptance.{test, and_then, lent_acceptance}
use Rattle.columns.proofs.Accepted.{AcceptedColumns, test_passed, both_accepted, columns_accepted, table_accepted}
use Rattle.columns.proofs.Repriced.{own_elsewhere, acceptance_kept, strike_elsewhere, strike_kept}
use Rattle.columns.proofs.Usable.{same_table}
use Rattle.columns.specs.Same.{same_entries}
use Rattle.settle.specs.Settling.{entries_of}
use Rattle.settle.proofs.Settled.{told_accepted, told_answers}
use Rattle.settle.specs.Checking.{answers_acceptance}
use Rattle.settle.specs.Resting.{OnlyAt}
use Rattle.settle.proofs.Resting.{rests_asks, rests_stay}
use Rattle.reprice.specs.Repricing.{line_acceptance, reprice_acceptance, strike_acceptance, numbered_acceptance, struck_acceptance, restore_acceptance}
use Rattle.reprice.specs.Repricing.{ChangeOutcome, changed, MarkOutcome, marked, Changeable, Markable, Renewable, repriced, stricken, restored}
use Rattle.refusal.specs.Answers.{Acceptance}
use Rattle.std.specs.Prelude.{Ok, Err}

-- two tests of one refusal
two_tests : (x : Acceptance) (a b : Bool) (r : Refusal) → and_then x (test (pick a b false) r (Ok tt)) ≡ and_then (and_then x (test a r (Ok tt))) (test b r (Ok tt))
two_tests (Ok _) true b r = refl
two_tests (Ok _) false b r = refl
two_tests (Err s) a b r = refl

module _ (c : Columns) (a : Entries) (e : ℕ) where
  -- a line that stands is one that exists, and has no strike mark
  line_is : and_then (numbered_acceptance c a e) (test (not (is_struck_mark (strike_at c e))) NoSuchEdge (Ok tt)) ≡ line_acceptance c a e
  unfolding numbered_acceptance line_acceptance
  line_is = sym (two_tests (lent_acceptance c a) (ltb e (length c.heads)) (not (is_struck_mark (strike_at c e))) NoSuchEdge)

  -- a line that does not exist is refused by both
  pub line_refused : (r : Refusal) → numbered_acceptance c a e ≡ Err r → Err r ≡ line_acceptance c a e
  line_refused r p = (rw p) ∙ line_is

  pub struck_refused : (r : Refusal) → numbered_acceptance c a e ≡ Err r → Err r ≡ struck_acceptance c a e
  unfolding struck_acceptance
  struck_refused r p = rw p

  -- one that exists is refused by its mark
  module _ (p : numbered_acceptance c a e ≡ Ok tt) where
    pub line_struck : is_struck_mark (strike_at c e) ≡ true → Err NoSuchEdge ≡ line_acceptance c a e
    line_struck q = (rw (p, q)) ∙ line_is

    pub line_standing : is_struck_mark (strike_at c e) ≡ false → (Ok tt) ≡ line_acceptance c a e
    line_standing q = (rw (p, q)) ∙ line_is

    pub struck_standing : is_struck_mark (strike_at c e) ≡ false → Err NotStruck ≡ struck_acceptance c a e
    unfolding struck_acceptance
    struck_standing q = rw (p, q)

    pub struck_struck : is_struck_mark (strike_at c e) ≡ true → (Ok tt) ≡ struck_acceptance c a e
    unfolding struck_acceptance
    struck_struck q = rw (p, q)

  pub line_numbered : line_acceptance c a e ≡ Ok tt → numbered_acceptance c a e ≡ Ok tt
  line_numbered p = (both_accepted (numbered_acceptance c a e) _ (line_is ∙ p)).0

  pub struck_numbered : struck_acceptance c a e ≡ Ok tt → numbered_acceptance c a e ≡ Ok tt
  unfolding struck_acceptance
  struck_numbered p = (both_accepted (numbered_acceptance c a e) _ p).0

  -- a line that exists
  module _ (p : numbered_acceptance c a e ≡ Ok tt) where
    numbered_lent : AcceptedColumns c a
    unfolding numbered_acceptance
    numbered_lent = columns_accepted c a (both_accepted (lent_acceptance c a) _ p).0

    numbered_told : e < length c.heads
    unfolding numbered_acceptance
    numbered_told = ltb-true _ _ (test_passed (ltb e (length c.heads)) NoSuchEdge (Ok tt) (both_accepted (lent_acceptance c a) _ p).1).0

    -- it has a strike mark
    pub numbered_placed : e < length c.strikes
    numbered_placed = omega (arith, numbered_told, (table_accepted c numbered_lent.table).strikes)

    -- its figure and its mark can be changed
    pub line_changeable : (w : ℕ) → w ≤ greatest → Changeable c a e w
    line_changeable w h = record { accepted = numbered_lent; placed = omega (arith, numbered_told, (table_accepted c numbered_lent.table).own); allowed = h }

    pub line_markable : (s : ℕ) → s ≤ struck_mark → Markable c a e s
    line_markable s h = record { accepted = numbered_lent; placed = numbered_placed; allowed = h }

-- a line that can be changed: the table as it then is, whose number of parts `label` takes from the answer columns, is accepted
module _ (c : Columns) (a : Entries) (e w : ℕ) (h : Changeable c a e w) where
  changed_kept : AcceptedColumns (with_own c e w) a
  changed_kept = record { table = acceptance_kept c e w h.placed h.allowed h.accepted.table; sized = h.accepted.sized }

  module _ (m : Measure) where
    pub change_made : {b : Entries} → same_entries a (entries_of m c) ≡ true → b ≡ entries_of m (same_table (with_own c e w) (length a.labels.depths))
        → record { result = Ok tt; own = set c.own e w; left = b } ≡ changed m c a e w (answers_acceptance m c a)
    change_made q r = rw (q, told_answers (with_own c e w) a changed_kept m r)

    pub change_refused : same_entries a (entries_of m c) ≡ false → record { result = Err WrongAnswers; own = c.own; left = a } ≡ changed m c a e w (answers_acceptance m c a)
    change_refused q = rw q

    -- where the answers are right, they can be renewed
    pub change_renewable : same_entries a (entries_of m c) ≡ true → Renewable m (same_table (with_own c e w) (length a.labels.depths)) a e
    change_renewable q =
        let k = changed_kept in
        let o : OnlyAt c e (set c.own e w) c.strikes = record { figures = own_elsewhere c e w; marks = λ x n. refl } in
        record {
          accepted = told_accepted (with_own c e w) a k;
          turning = rests_asks m c a (set c.own e w) c.strikes h.accepted k.table q;
          numbered = omega (arith, h.placed, (table_accepted c h.accepted.table).own);
          stays = rests_stay m c a (set c.own e w) c.strikes h.accepted k.table q e o;
        }

-- the same of its mark
module _ (c : Columns) (a : Entries) (e s : ℕ) (h : Markable c a e s) where
  marked_kept : AcceptedColumns (with_strike c e s) a
  marked_kept = record { table = strike_kept c e s h.placed h.allowed h.accepted.table; sized = h.accepted.sized }

  module _ (m : Measure) where
    pub mark_made : {b : Entries} → same_entries a (entries_of m c) ≡ true → b ≡ entries_of m (same_table (with_strike c e s) (length a.labels.depths))
        → record { result = Ok tt; strikes = set c.strikes e s; left = b } ≡ marked m c a e s (answers_acceptance m c a)
    mark_made q r = rw (q, told_answers (with_strike c e s) a marked_kept m r)

    pub mark_refused : same_entries a (entries_of m c) ≡ false → record { result = Err WrongAnswers; strikes = c.strikes; left = a } ≡ marked m c a e s (answers_acceptance m c a)
    mark_refused q = rw q

    pub mark_renewable : same_entries a (entries_of m c) ≡ true → Renewable m (same_table (with_strike c e s) (length a.labels.depths)) a e
    mark_renewable q =
        let k = marked_kept in
        let o : OnlyAt c e c.own (set c.strikes e s) = record { figures = λ x n. refl; marks = strike_elsewhere c e s } in
        record {
          accepted = told_accepted (with_strike c e s) a k;
          turning = rests_asks m c a c.own (set c.strikes e s) h.accepted k.table q;
          numbered = omega (arith, h.placed, (table_accepted c h.accepted.table).strikes);
          stays = rests_stay m c a c.own (set c.strikes e s) h.accepted k.table q e o;
        }

module _ (m : Measure) (c : Columns) (a : Entries) (e : ℕ) where
  -- a change is made of its acceptance
  pub reprice_by : (w : ℕ) {x : Acceptance} {r : ChangeOutcome Acceptance} → r ≡ changed m c a e w x → x ≡ reprice_acceptance m c a e w → r ≡ repriced m c a e w
  unfolding repriced
  reprice_by w q p = q ∙ ap (changed m c a e w) p

  pub strike_by : {x : Acceptance} {r : MarkOutcome Acceptance} → r ≡ marked m c a e struck_mark x → x ≡ strike_acceptance m c a e → r ≡ stricken m c a e
  unfolding stricken
  strike_by q p = q ∙ ap (marked m c a e struck_mark) p

  pub restore_by : {x : Acceptance} {r : MarkOutcome Acceptance} → r ≡ marked m c a e standing x → x ≡ restore_acceptance m c a e → r ≡ restored m c a e
  unfolding restored
  restore_by q p = q ∙ ap (marked m c a e standing) p

  -- refused by the line
  pub reprice_line : (w : ℕ) (r : Refusal) → line_acceptance c a e ≡ Err r → Err r ≡ reprice_acceptance m c a e w
  unfolding reprice_acceptance
  reprice_line w r p = rw p

  pub strike_line : (r : Refusal) → line_acceptance c a e ≡ Err r → Err r ≡ strike_acceptance m c a e
  unfolding strike_acceptance
  strike_line r p = rw p

  pub restore_line : (r : Refusal) → struck_acceptance c a e ≡ Err r → Err r ≡ restore_acceptance m c a e
  unfolding restore_acceptance
  restore_line r p = rw p

  module _ (p : line_acceptance c a e ≡ Ok tt) where
    -- refused by the figure
    pub reprice_figure : (w : ℕ) → greatest < w → Err NewWeight ≡ reprice_acceptance m c a e w
    unfolding reprice_acceptance
    reprice_figure w h = rw (p, lt-leb _ _ h)

    -- else by the answers, or accepted
    pub reprice_answers : (w : ℕ) → w ≤ greatest → answers_acceptance m c a ≡ reprice_acceptance m c a e w
    unfolding reprice_acceptance
    reprice_answers w h = rw (p, le-leb _ _ h)

    pub strike_answers : answers_acceptance m c a ≡ strike_acceptance m c a e
    unfolding strike_acceptance
    strike_answers = rw p

  pub restore_answers : struck_acceptance c a e ≡ Ok tt → answers_acceptance m c a ≡ restore_acceptance m c a e
  unfolding restore_acceptance
  restore_answers p = rw p
