-- What a line's value is: a figure where the line stands and lists made parts alone, and else none, which no figure is. And what a line offers, and the two tests of a
-- labelling, in terms of values and heights. In both tests it is the height that tells a line without a value: 0, the depth of no made part. Assumes nothing.
use mathlib.Core.Path.{◌≡◌, refl, sym, ◌∙◌, ap}
use mathlib.Core.Bool.{Bool, true, false}
use mathlib.Core.Logic.{◌⊎◌, inl, inr, ⊎_elim}
use mathlib.Core.List.{List, [], ◌∷◌, Memᴰ}
use Prim.Native.Nat.{ℕ, ◌+◌, ◌<◌, ◌≤◌}
use native.Mathlib.Omega.{arith}
use lib.Dec.{eqb}
use borrow.Author.Tests.{eqb-true, eq-eqb, ne_eqb}
use Rattle.weights.specs.declared.Measure.{Measure}
use Rattle.weights.specs.declared.Label.{Label}
use Rattle.weights.specs.Figures.{over, none}
use Rattle.weights.specs.Measures.{Algebra, algebra, weigh}
use Rattle.weights.specs.Choice.{pick}
use Rattle.weights.specs.Labels.{label}
use Rattle.weights.proofs.Choice.{apart, pick-false}
use Rattle.weights.proofs.Lists.{true-or-false}
use Rattle.weights.proofs.Laws.{below_over, lawful}
use Rattle.weights.proofs.Weighing.{weigh_within}
use Rattle.provenance.specs.Hypergraph.{Hypergraph}
use Rattle.provenance.specs.Labelling.{AllMade, depth_in, tail-weights, each, greatest_depth, none_zero, offer_of, value_of, height_of, Ready}
use Rattle.provenance.specs.Local.{gives, keeps_up}
use Rattle.provenance.specs.Values.{value, UnmadeIn, Valueless, offer_at, gives_at, keeps_up_at}
use Rattle.provenance.proofs.BestFirst.{not-zero}
use Rattle.std.specs.Prelude.{Some, None}

module _ (ls : ℕ → Label) where
  -- the test of a tail, of parts that are all made, and with one that is not
  all_made : {vs : List ℕ} → AllMade ls vs → none_zero (depth_in ls) vs ≡ true
  unfolding none_zero
  all_made AllMade.none = refl
  all_made (AllMade.more {v = v} a b) = rw (ne_eqb (ls v).depth 0 (λ z. omega (arith, a.deep)), all_made b)

  one_unmade : {v : ℕ} {vs : List ℕ} → Memᴰ v vs → (ls v).depth ≡ 0 → none_zero (depth_in ls) vs ≡ false
  unfolding none_zero
  one_unmade (Memᴰ.head {x = y} e) z = rw (eq-eqb (ls y).depth 0 (sym (ap (depth_in ls) e) ∙ z))
  one_unmade (Memᴰ.tail {x = y} i) z = rw (one_unmade i z) (pick-false (eqb (ls y).depth 0))

  -- each part of a list is made, or one is not
  made_or_not : (vs : List ℕ) → AllMade ls vs ⊎ UnmadeIn ls vs
  made_or_not [] = inl AllMade.none
  made_or_not (v ∷ vs) = go (eqb (ls v).depth 0) refl (made_or_not vs)
    where
      go : (b : Bool) → eqb (ls v).depth 0 ≡ b → AllMade ls vs ⊎ UnmadeIn ls vs → AllMade ls (v ∷ vs) ⊎ UnmadeIn ls (v ∷ vs)
      go true p r = inr (record { part = v; listed = Memᴰ.head refl; zero = eqb-true _ _ p })
      go false p (inl a) = inl (AllMade.more (record { deep = not-zero p }) a)
      go false p (inr u) = inr (record { part = u.part; listed = Memᴰ.tail u.listed; zero = u.zero })

module _ (A : Algebra) (H : Hypergraph) (own : ℕ → ℕ) (ls : ℕ → Label) (e : ℕ) where
  -- e stands and lists made parts alone: its value is the figure that its own figure and those of its parts give
  pub value_figure : Ready H ls e → value A H own ls e ≡ weigh A (own e) (tail-weights ls (H.tail e))
  unfolding value_of
  value_figure r = rw (r.stands.unstruck, all_made ls r.tails)

  -- e is struck, or lists a part of depth 0: it has none
  pub value_none : Valueless H ls e → value A H own ls e ≡ none
  unfolding value_of
  value_none (Valueless.struck p) = rw p
  value_none (Valueless.lists u) = rw (one_unmade ls u.listed u.zero) (go (H.live e))
    where
      go : (b : Bool) → pick b none none ≡ none
      go true = refl
      go false = refl

-- each case excludes the other, and they are all
module _ (H : Hypergraph) (ls : ℕ → Label) (e : ℕ) where
  pub not_both : Ready H ls e → ¬ Valueless H ls e
  not_both r (Valueless.struck p) = apart (sym p ∙ r.stands.unstruck)
  not_both r (Valueless.lists u) = apart (sym (one_unmade ls u.listed u.zero) ∙ all_made ls r.tails)

  pub one_of_both : e < H.edges → Ready H ls e ⊎ Valueless H ls e
  one_of_both h =
      ⊎_elim
      (λ p. ⊎_elim (λ a. inl (record { stands = record { numbered = h; unstruck = p }; tails = a })) (λ u. inr (Valueless.lists u)) (made_or_not ls (H.tail e)))
      (λ p. inr (Valueless.struck p))
      (true-or-false (H.live e))

-- a figure is never none, whatever the lent figures are
pub value_finite : (m : Measure) (own : ℕ) (ws : List ℕ) → (weigh (algebra m) own ws ≤ over) × (¬ (weigh (algebra m) own ws ≡ none))
value_finite m own ws = let h = below_over m (weigh_within (lawful m) own ws) in (h, λ p. omega arith)

-- what a line offers is nothing exactly if its value is none, and otherwise the label of its value, its height and the line
module _ (m : Measure) (live : Bool) (own : ℕ) (tail : List ℕ) (w d : ℕ → ℕ) (e : ℕ) where
  pub offer_value : offer_of (algebra m) live own tail w d e ≡ offer_at (value_of (algebra m) live own tail w d) (height_of live tail d) e
  unfolding offer_of value_of height_of
  offer_value = go live (none_zero d tail)
    where
      x : ℕ
      x = weigh (algebra m) own (each w tail)

      g : ℕ
      g = greatest_depth d tail + 1

      go : (p q : Bool) → pick p (pick q (Some (label x g e)) None) None ≡ offer_at (pick p (pick q x none) none) (pick p (pick q g 0) 0) e
      go true true = rw (ne_eqb x none (value_finite m own (each w tail)).1)
      go true false = refl
      go false q = refl

-- the two tests of a labelling
module _ (A : Algebra) (live : Bool) (own : ℕ) (tail : List ℕ) (w d : ℕ → ℕ) (e : ℕ) where
  abbrev x : ℕ
  x = weigh A own (each w tail)

  abbrev g : ℕ
  g = greatest_depth d tail + 1

  pub gives-value : (y t : ℕ) → ¬ (t ≡ 0) → gives_at (value_of A live own tail w d) (height_of live tail d) y t ≡ gives (offer_of A live own tail w d e) y t
  unfolding offer_of value_of height_of
  gives-value y t n = go live (none_zero d tail)
    where
      no_made : (z : ℕ) → pick (eqb z y) (eqb 0 t) false ≡ false
      no_made z = rw (ne_eqb 0 t (λ p. n (sym p))) (pick-false (eqb z y))

      go : (p q : Bool) → gives_at (pick p (pick q x none) none) (pick p (pick q g 0) 0) y t ≡ gives (pick p (pick q (Some (label x g e)) None) None) y t
      go true true = refl
      go true false = no_made none
      go false q = no_made none

  pub keeps_up-value : (l : Label) → keeps_up_at A l (value_of A live own tail w d) (height_of live tail d) e ≡ keeps_up A l (offer_of A live own tail w d e)
  unfolding offer_of value_of height_of
  keeps_up-value l = go live (none_zero d tail)
    where
      go : (p q : Bool) → keeps_up_at A l (pick p (pick q x none) none) (pick p (pick q g 0) 0) e ≡ keeps_up A l (pick p (pick q (Some (label x g e)) None) None)
      go true true = rw (ne_eqb g 0 (λ p. omega arith))
      go true false = refl
      go false q = refl
