-- The order of labels, by weight, then by depth, then by hyperedge: the relation behind the test `ahead_of`. It is total. Assumes nothing.
use mathlib.Core.Path.{◌≡◌, refl, sym, ◌∙◌, ap}
use mathlib.Core.Logic.{◌≢◌}
use mathlib.Core.Bool.{Bool, true, false}
use Prim.Native.Nat.{ℕ, ◌≤◌, ◌<◌}
use native.Mathlib.Omega.{arith}
use lib.Dec.{leb, ltb}
use borrow.Author.Tests.{lt-ltb, le-ltb, ltb-true, ltb-false, leb-true, leb-false}
use Rattle.weights.specs.declared.Label.{Label}
use Rattle.weights.specs.Choice.{pick}
use Rattle.weights.specs.Measures.{Algebra}
use Rattle.weights.specs.Labels.{ahead_of}
use Rattle.weights.specs.Laws.{NoWorse, Lawful}
use Rattle.weights.specs.Order.{Ahead, Ranked, ahead, behind}

-- a test that failed did not hold
pub failed : {leq : ℕ → ℕ → Bool} {a b : ℕ} → leq a b ≡ false → ¬ NoWorse leq a b
failed e p = let h = p.holds in let z : ◌≡◌ {A = ℕ} 0 1 = cc in omega arith

-- the test by one comparison of weights, of depths or of hyperedges: what differs first decides
module _ {A : Algebra} (L : Lawful A) (a b : Label) where
  pub by_weight : a.weight.0 ≢ b.weight.0 → A.leq a.weight.0 b.weight.0 ≡ ahead_of A a b
  unfolding ahead_of
  by_weight n = go _ (A.leq a.weight.0 b.weight.0) (A.leq b.weight.0 a.weight.0) refl refl
    where
      go : (t p q : Bool) → A.leq a.weight.0 b.weight.0 ≡ p → A.leq b.weight.0 a.weight.0 ≡ q → p ≡ pick p (pick q t true) false
      go t false q ep eq = refl
      go t true false ep eq = refl
      go t true true ep eq = absurd (n (L.ordered.antisymmetric (record { holds = ep }) (record { holds = eq })))

  module _ (e : a.weight.0 ≡ b.weight.0) where
    there : A.leq a.weight.0 b.weight.0 ≡ true
    there = ap (A.leq a.weight.0) (sym e) ∙ L.ordered.reflexive.holds

    back : A.leq b.weight.0 a.weight.0 ≡ true
    back = ap (A.leq b.weight.0) e ∙ L.ordered.reflexive.holds

    pub by_depth : a.depth ≢ b.depth → ltb a.depth b.depth ≡ ahead_of A a b
    unfolding ahead_of
    by_depth n = rw (there, back) (go (leb a.edge.0 b.edge.0) (ltb a.depth b.depth) refl)
      where
        go : (t p : Bool) → ltb a.depth b.depth ≡ p → p ≡ pick p true (pick (ltb b.depth a.depth) false t)
        go t true q = refl
        go t false q = let h : b.depth ≤ a.depth = ltb-false _ _ q in rw (lt-ltb b.depth a.depth (omega (arith, n)))

    pub by_edge : a.depth ≡ b.depth → leb a.edge.0 b.edge.0 ≡ ahead_of A a b
    unfolding ahead_of
    by_edge d = rw (there, back, le-ltb a.depth b.depth (omega arith), le-ltb b.depth a.depth (omega arith))

module _ {A : Algebra} (L : Lawful A) where
  pub ahead_refl : {a : Label} → Ahead A a a
  ahead_refl = record { weight = L.ordered.reflexive; depth = λ h. omega arith; edge = λ h k. omega arith }

  pub ahead_trans : {a b c : Label} → Ahead A a b → Ahead A b c → Ahead A a c
  ahead_trans {a} {b} {c} p q = record {
    weight = L.ordered.transitive p.weight q.weight;
    depth = λ h. omega (arith, p.depth (b≼a h), q.depth (c≼b h));
    edge = λ h k. let r = p.depth (b≼a h) in let s = q.depth (c≼b h) in omega (arith, p.edge (b≼a h) (omega arith), q.edge (c≼b h) (omega arith));
  }
    where
      b≼a : NoWorse A.leq c.weight.0 a.weight.0 → NoWorse A.leq b.weight.0 a.weight.0
      b≼a h = L.ordered.transitive q.weight h

      c≼b : NoWorse A.leq c.weight.0 a.weight.0 → NoWorse A.leq c.weight.0 b.weight.0
      c≼b h = L.ordered.transitive h p.weight

  pub ranked : (a b : Label) → Ranked A a b (ahead_of A a b)
  unfolding ahead_of
  ranked a b =
      go (A.leq a.weight.0 b.weight.0) (A.leq b.weight.0 a.weight.0) (ltb a.depth b.depth) (ltb b.depth a.depth)
      (leb a.edge.0 b.edge.0) refl refl refl refl refl
    where
      go : (p q r s t : Bool) → A.leq a.weight.0 b.weight.0 ≡ p → A.leq b.weight.0 a.weight.0 ≡ q → ltb a.depth b.depth ≡ r
          → ltb b.depth a.depth ≡ s → leb a.edge.0 b.edge.0 ≡ t → Ranked A a b (pick p (pick q (pick r true (pick s false t)) true) false)
      go false q r s t ep eq er es et =
          behind (λ k. failed ep k.weight) (record { weight = L.ordered.total _ _ ep; depth = λ k. absurd (failed ep k); edge = λ k. absurd (failed ep k) })
      go true false r s t ep eq er es et =
          ahead (record { weight = record { holds = ep }; depth = λ k. absurd (failed eq k); edge = λ k. absurd (failed eq k) })
      go true true true s t ep eq er es et =
          let h : a.depth < b.depth = ltb-true _ _ er in
          ahead (record { weight = record { holds = ep }; depth = λ _. omega arith; edge = λ _ k. absurd (omega arith) })
      go true true false true t ep eq er es et =
          let h : b.depth < a.depth = ltb-true _ _ es in
          behind (λ k. omega (arith, k.depth (record { holds = eq }))) (record { weight = record { holds = eq }; depth = λ _. omega arith; edge = λ _ k. absurd (omega arith) })
      go true true false false true ep eq er es et =
          let h = ltb-false _ _ es in
          let g = leb-true _ _ et in
          ahead (record { weight = record { holds = ep }; depth = λ _. h; edge = λ _ _. g })
      go true true false false false ep eq er es et =
          let f : b.depth ≤ a.depth = ltb-false _ _ er in
          let g : b.edge.0 < a.edge.0 = leb-false _ _ et in
          behind (λ k. omega (arith, k.edge (record { holds = eq }) f)) (record { weight = record { holds = eq }; depth = λ _. f; edge = λ _ _. omega arith })
