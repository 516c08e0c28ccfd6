-- Striking and restoring undo each other; restoring brings back a line at the figure that it kept; a struck line cannot be repriced. Assumes nothing.
use mathlib.Core.Path.{◌≡◌, refl, sym, ◌∙◌, ap, subst}
use mathlib.Core.List.{List}
use Prim.Native.Nat.{ℕ, ◌<◌}
use native.Mathlib.Omega.{arith}
use lib.ListN.{length, set}
use Rattle.weights.specs.declared.Measure.{Measure}
use Rattle.weights.specs.Figures.{standing, struck_mark}
use Rattle.refusal.specs.declared.Refusal.TheVariants.{NoSuchEdge}
use Rattle.columns.specs.Columns.{Entries, Columns, strike_at, with_own, with_strike}
use Rattle.columns.specs.Acceptance.{lent_acceptance}
use Rattle.columns.proofs.Accepted.{columns_accepted, table_accepted}
use Rattle.columns.proofs.Exactly.{lent_exactly}
use Rattle.columns.proofs.Repriced.{strike_here, strike_elsewhere, strike_back}
use Rattle.columns.proofs.Same.{entries_true}
use Rattle.settle.specs.Settling.{entries_of}
use Rattle.settle.specs.Defined.{Defined}
use Rattle.settle.proofs.Exactly.{same_exactly, yes_exactly}
use Rattle.reprice.specs.Repricing.{reprice_acceptance, strike_acceptance, restore_acceptance, MarkOutcome, repriced, stricken, restored}
use Rattle.reprice.specs.Changes.{Named, Struck, WrongChange, Leaves}
use Rattle.reprice.specs.Restoring.{with_strikes, StrikeRestore, RestoreStrike, RestoredThen}
use Rattle.reprice.proofs.Changes.{repriced_result_lem, stricken_result, restored_result, reprice_refused_exactly, strike_exactly, strike_leaves, restore_exactly, restore_leaves}
use Rattle.refusal.specs.Answers.{Acceptance}
use Rattle.std.specs.Prelude.{Ok, Err}

-- what an accepted change leaves are the answers of the table, so the next call does not refuse them by 8
pub leaves_defined : {m : Measure} {c : Columns} {new column : List ℕ} {left : Entries} → Leaves m c new column left → Defined m c left
leaves_defined l = (yes_exactly _ _ _).0 l.checks

module _ (m : Measure) (c : Columns) (a : Entries) where
  -- the answers of a table are one
  pub defined_is : Defined m c a → a ≡ entries_of m c
  defined_is d = entries_true a (entries_of m c) ((same_exactly m c a d.accepted).1 d.means)

  -- a struck line is not repriced
  pub reprice-struck : lent_acceptance c a ≡ Ok tt → (e w : ℕ) → strike_at c e ≡ struck_mark → (repriced m c a e w).result ≡ Err NoSuchEdge
  reprice-struck p e w s = repriced_result_lem m c a e w ∙ (reprice_refused_exactly m c a e w NoSuchEdge).1 (WrongChange.line ((lent_exactly c a).0 p) (λ n. n.unstruck s))

  module _ (e : ℕ) where
    -- outcomes of accepted changes
    pub repriced_is : (w : ℕ) → reprice_acceptance m c a e w ≡ Ok tt → repriced m c a e w ≡ record { result = Ok tt; own = set c.own e w; left = entries_of m (with_own c e w) }
    unfolding repriced
    repriced_is w p = rw p

    pub stricken_is : strike_acceptance m c a e ≡ Ok tt
        → stricken m c a e ≡ record { result = Ok tt; strikes = set c.strikes e struck_mark; left = entries_of m (with_strike c e struck_mark) }
    unfolding stricken
    stricken_is p = rw p

    pub restored_is : restore_acceptance m c a e ≡ Ok tt
        → restored m c a e ≡ record { result = Ok tt; strikes = set c.strikes e standing; left = entries_of m (with_strike c e standing) }
    unfolding restored
    restored_is p = rw p

    -- the mark that was, put back
    mark_back : (s s' : ℕ) → Defined m c a → strike_at c e ≡ s'
        → ◌≡◌ {A = MarkOutcome Acceptance}
        (record { result = Ok tt; strikes = set (set c.strikes e s) e s'; left = entries_of m (with_strike (with_strike c e s) e s') })
        (record { result = Ok tt; strikes = c.strikes; left = a })
    mark_back s s' d p =
        let q : with_strike (with_strike c e s) e s' ≡ c = subst (λ (x : ℕ). with_strike (with_strike c e s) e x ≡ c) p (strike_back c e s) in
        λ i. record { result = Ok tt; strikes = (q i).strikes; left = (ap (entries_of m) q ∙ sym (defined_is d)) i }

    -- right answers of an accepted table
    module _ (d : Defined m c a) where
      module _ (n : e < length c.heads) where
        marked_here : (s : ℕ) → strike_at (with_strike c e s) e ≡ s
        marked_here s = strike_here c e s (omega (arith, (table_accepted c (columns_accepted c a d.accepted).table).strikes))

        -- a mark that is not the one is the other
        stands_so : ¬ (strike_at c e ≡ struck_mark) → strike_at c e ≡ standing
        stands_so u = omega (arith, ((table_accepted c (columns_accepted c a d.accepted).table).each e n).1.mark)

        stands_named : Named (with_strike c e standing) e
        stands_named = record { numbered = n; unstruck = λ q. omega (arith, marked_here standing) }

      named_accepted : Named c e → strike_acceptance m c a e ≡ Ok tt
      named_accepted n = (strike_exactly m c a e).1 (record { lent = (lent_exactly c a).0 d.accepted; line = n; further = tt; answers = d.means })

      struck-accepted : Struck c e → restore_acceptance m c a e ≡ Ok tt
      struck-accepted n = (restore_exactly m c a e).1 (record { lent = (lent_exactly c a).0 d.accepted; line = n.numbered; further = n.struck; answers = d.means })

      stricken_defined : Named c e → Defined m (with_strike c e struck_mark) (entries_of m (with_strike c e struck_mark))
      stricken_defined n =
          let p = named_accepted n in
          let l = leaves_defined (strike_leaves m c a e (stricken_result m c a e ∙ p)) in
          subst (λ (x : MarkOutcome Acceptance). Defined m (with_strike c e struck_mark) x.left) (stricken_is p) l

      restored_defined : Struck c e → Defined m (with_strike c e standing) (entries_of m (with_strike c e standing))
      restored_defined n =
          let p = struck-accepted n in
          let l = leaves_defined (restore_leaves m c a e (restored_result m c a e ∙ p)) in
          subst (λ (x : MarkOutcome Acceptance). Defined m (with_strike c e standing) x.left) (restored_is p) l

module _ (m : Measure) (c : Columns) (a : Entries) (e : ℕ) (d : Defined m c a) where
  pub strike_restore : Named c e → StrikeRestore m c a e
  strike_restore n =
      let p = named_accepted m c a e d n in
      let t = with_strike c e struck_mark in
      let k : Struck t e = record { numbered = n.numbered; struck = marked_here m c a e d n.numbered struck_mark } in
      let q = struck-accepted m t (entries_of m t) e (stricken_defined m c a e d n) k in
      record {
        first = stricken_result m c a e ∙ p;
        then =
            ap (λ (x : MarkOutcome Acceptance). restored m (with_strikes c x.strikes) x.left e) (stricken_is m c a e p)
            ∙ restored_is m t (entries_of m t) e q
            ∙ mark_back m c a e struck_mark standing d (stands_so m c a e d n.numbered n.unstruck);
      }

  pub restore_strike : Struck c e → RestoreStrike m c a e
  restore_strike n =
      let p = struck-accepted m c a e d n in
      let t = with_strike c e standing in
      let q = named_accepted m t (entries_of m t) e (restored_defined m c a e d n) (stands_named m c a e d n.numbered) in
      record {
        first = restored_result m c a e ∙ p;
        then =
            ap (λ (x : MarkOutcome Acceptance). stricken m (with_strikes c x.strikes) x.left e) (restored_is m c a e p)
            ∙ stricken_is m t (entries_of m t) e q
            ∙ mark_back m c a e standing struck_mark d n.struck;
      }

  pub restored_then : Struck c e → RestoredThen m c a e
  restored_then n =
      let p = struck-accepted m c a e d n in
      let r = restored_result m c a e ∙ p in
      record {
        result = r;
        stands = stands_named m c a e d n.numbered;
        own = λ x. refl;
        elsewhere = strike_elsewhere c e standing;
        left = ap (λ (x : MarkOutcome Acceptance). x.left) (restored_is m c a e p);
        leaves = restore_leaves m c a e r;
      }
