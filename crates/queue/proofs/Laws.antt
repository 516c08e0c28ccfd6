-- The laws of the queue: its least key is the key of what is next; what an offer changes in it; and that every candidate fits in a key. Assumes nothing.
use Prim.Native.Nat.{ℕ, zero, suc, ◌+◌, ◌≤◌, ◌<◌, min, max}
use mathlib.Core.Path.{◌≡◌, refl, sym, ◌∙◌, ap, ap₂}
use mathlib.Core.Logic.{◌≢◌}
use mathlib.Core.Bool.{Bool, true, false}
use mathlib.Core.List.{List, [], ◌∷◌}
use native.Mathlib.Omega.{arith}
use native.Mathlib.Decide.{ℕ_discrete}
use lib.ListN.{length}
use lib.Dec.{eqb}
use borrow.Author.Tests.{eq-eqb, ne_eqb, eqb-true, eqb-false}
use Rattle.weights.specs.Lists.{member}
use Rattle.weights.specs.declared.Measure.{Measure}
use Rattle.weights.specs.Choice.{pick}
use Rattle.weights.specs.Measures.{Algebra, algebra, weigh}
use Rattle.weights.proofs.Laws.{lawful, below_over}
use Rattle.weights.proofs.Weighing.{weigh_within}
use Rattle.provenance.specs.Hypergraph.{Hypergraph}
use Rattle.provenance.specs.Labelling.{each, greatest_depth, none_zero, yield, offer_of}
use Rattle.provenance.specs.BestFirst.{opening, next}
use Rattle.provenance.proofs.Existence.{greatest_at_most}
use Rattle.minima.specs.Minima.{none, leaves, key_in, least_key, Grouped, lowered}
use Rattle.minima.proofs.Laws.{least_at_most, least_lower, least_greatest, lowered-length, lowered_same, lowered_other, lowered_grouped}
use Rattle.queue.specs.Keys.{heavy, packed, unpacked, Fits, Fitting, nothing, found, key_of}
use Rattle.queue.proofs.Packing.{unpacked-packed, below_none, key_earlier, fitting_earlier}
use Rattle.queue.specs.Queue.{least_with, offered, key_at, Queued, Fitted}
use Rattle.weights.specs.Offers.{Offer}
use Rattle.std.specs.Prelude.{Some, None}

-- The least key with a head ---------------------------------------------------------------------------------------------------------------------

module _ (key head : ℕ → ℕ) (u : ℕ) where
  pub with_at_most : (k : ℕ) → least_with key head u k ≤ none
  unfolding least_with
  with_at_most zero = omega arith
  with_at_most (suc k) = omega (arith, with_at_most k)

  pub with_lower : (k e : ℕ) → e < k → head e ≡ u → least_with key head u k ≤ key e
  unfolding least_with
  with_lower zero e h p = absurd (omega arith)
  with_lower (suc k) e h p = go (λ l. with_lower k e l p) (ℕ_discrete e k)
    where
      go : (e < k → least_with key head u k ≤ key e) → Dec (e ≡ k) → least_with key head u (suc k) ≤ key e
      go r (yes q) =
          let t : head k ≡ u = ap head (sym q) ∙ p in
          let s : pick (eqb (head k) u) (key k) none ≡ key k = ap (λ (b : Bool). pick b (key k) none) (eq-eqb _ _ t) in
          omega (arith, s, ap key q)
      go r (no n) = omega (arith, r (omega arith))

  pub with_greatest : (k x : ℕ) → x ≤ none → ((e : ℕ) → e < k → head e ≡ u → x ≤ key e) → x ≤ least_with key head u k
  unfolding least_with
  with_greatest zero x h f = h
  with_greatest (suc k) x h f = go (eqb (head k) u) refl (with_greatest k x h (λ e l p. f e (omega arith) p))
    where
      go : (b : Bool) → eqb (head k) u ≡ b → x ≤ least_with key head u k → x ≤ min (least_with key head u k) (pick b (key k) none)
      go true q r = omega (arith, f k (omega arith) (eqb-true _ _ q))
      go false q r = omega arith

-- What is next ------------------------------------------------------------------------------------------------------------------------------------

module _ (m : Measure) (H : Hypergraph) (own w d : ℕ → ℕ) where
  abbrev next' : ℕ → Offer
  next' = next (algebra m) H own w d

  abbrev key : ℕ → ℕ
  key = key_at m H own w d

  module _ (fits : (e : ℕ) → e < H.edges → Fitting (opening (algebra m) H own w d e)) where
    pub fitting_next : (k : ℕ) → k ≤ H.edges → Fitting (next' k)
    unfolding next
    fitting_next zero h = nothing
    fitting_next (suc k) h = fitting_earlier m (fitting_next k (omega arith)) (fits k h)

    key_next : (k : ℕ) → suc k ≤ H.edges → key_of m (next' (suc k)) ≡ min (key_of m (next' k)) (key k)
    unfolding next
    key_next k h = key_earlier m (fitting_next k (omega arith)) (fits k h)

    next_at_most : (k : ℕ) → k ≤ H.edges → key_of m (next' k) ≤ none
    unfolding next
    next_at_most zero h = omega arith
    next_at_most (suc k) h = omega (arith, key_next k h, next_at_most k (omega arith))

    next_lower : (k e : ℕ) → k ≤ H.edges → e < k → key_of m (next' k) ≤ key e
    next_lower zero e h l = absurd (omega arith)
    next_lower (suc k) e h l = go (next_lower k e (omega arith)) (ℕ_discrete e k)
      where
        go : (e < k → key_of m (next' k) ≤ key e) → Dec (e ≡ k) → key_of m (next' (suc k)) ≤ key e
        go r (yes q) = omega (arith, key_next k h, ap key q)
        go r (no n) = omega (arith, key_next k h, r (omega arith))

    next_greatest : (k x : ℕ) → k ≤ H.edges → x ≤ none → ((e : ℕ) → e < k → x ≤ key e) → x ≤ key_of m (next' k)
    unfolding next
    next_greatest zero x h n f = n
    next_greatest (suc k) x h n f = omega (arith, key_next k h, next_greatest k x (omega arith) n (λ e l. f e (omega arith)), f k (omega arith))

    -- the least key of a queue is that of what is next
    pub least_next : (q : List ℕ) → ((e : ℕ) → e < H.edges → H.head e < leaves q) → Queued m H own w d q → least_key q ≡ key_of m (next' H.edges)
    least_next q heads w = omega (arith, up, down)
      where
        up : least_key q ≤ key_of m (next' H.edges)
        up = next_greatest H.edges (least_key q) (omega arith) (least_at_most q (leaves q) (leaves q))
            (λ e l. omega (
              arith,
              least_lower q (leaves q) (leaves q) (H.head e) (heads e l),
              w.waiting (H.head e) (heads e l),
              with_lower key H.head (H.head e) H.edges e l refl,
            ))

        down : key_of m (next' H.edges) ≤ least_key q
        down = least_greatest q (leaves q) (leaves q) (key_of m (next' H.edges)) (next_at_most H.edges (omega arith))
            (λ u l. omega (
              arith,
              w.waiting u l,
              with_greatest key H.head u H.edges (key_of m (next' H.edges)) (next_at_most H.edges (omega arith)) (λ e k p. next_lower H.edges e (omega arith) k),
            ))

-- Offering ------------------------------------------------------------------------------------------------------------------------------------------

pub offered-length : (m : Measure) (q : List ℕ) (v : ℕ) {o : Offer} → v < leaves q → Fitting o → Grouped q → length (offered m q v o) ≡ length q
offered-length m q v h nothing g = refl
offered-length m q v h (found {l = l} f) g = lowered-length v (packed m l) g h

pub offered_grouped : (m : Measure) (q : List ℕ) (v : ℕ) {o : Offer} → v < leaves q → Fitting o → Grouped q → Grouped (offered m q v o)
offered_grouped m q v h nothing g = g
offered_grouped m q v h (found {l = l} f) g = lowered_grouped v (packed m l) g h

pub offered_key : (m : Measure) (q : List ℕ) (v : ℕ) {o : Offer} (u : ℕ) → v < leaves q → u < leaves q → Fitting o → Grouped q
    → key_in (offered m q v o) u ≡ min (key_in q u) (pick (eqb v u) (key_of m o) none)
offered_key m q v u h k nothing g = go (eqb v u)
  where
    go : (t : Bool) → key_in q u ≡ min (key_in q u) (pick t none none)
    go true = omega (arith, g.low (leaves q + u))
    go false = omega (arith, g.low (leaves q + u))
offered_key m q v u h k (found {l = l} f) g = go (eqb v u) refl
  where
    go : (t : Bool) → eqb v u ≡ t → key_in (lowered q v (packed m l)) u ≡ min (key_in q u) (pick t (packed m l) none)
    go true e = let p : v ≡ u = eqb-true v u e in
        ap (key_in (lowered q v (packed m l))) (sym p) ∙ lowered_same v (packed m l) g h ∙ ap (λ (z : ℕ). min (key_in q z) (packed m l)) p
    go false e = omega (arith, lowered_other v (packed m l) g h u k (λ p. eqb-false v u e (sym p)), g.low (leaves q + u))

-- Labelling ----------------------------------------------------------------------------------------------------------------------------------------

-- two labellings that agree but for v, of which v is not in a list
module _ (v : ℕ) (f g : ℕ → ℕ) (same : (u : ℕ) → u ≢ v → g u ≡ f u) where
  not-head : (w : ℕ) (ws : List ℕ) → member v (w ∷ ws) ≡ false → (w ≢ v) × (member v ws ≡ false)
  unfolding member
  not-head w ws e = go (eqb v w) refl e
    where
      go : (b : Bool) → eqb v w ≡ b → pick b true (member v ws) ≡ false → (w ≢ v) × (member v ws ≡ false)
      go true p e = absurd (let z : ◌≡◌ {A = ℕ} 0 1 = cc in omega arith)
      go false p e = ((λ q. eqb-false v w p (sym q)), e)

  each_same : (vs : List ℕ) → member v vs ≡ false → each g vs ≡ each f vs
  unfolding each
  each_same [] e = refl
  each_same (w ∷ ws) e = let n = not-head w ws e in ap₂ ◌∷◌ (same w n.0) (each_same ws n.1)

  greatest_same : (vs : List ℕ) → member v vs ≡ false → greatest_depth g vs ≡ greatest_depth f vs
  unfolding greatest_depth
  greatest_same [] e = refl
  greatest_same (w ∷ ws) e = let n = not-head w ws e in ap₂ max (same w n.0) (greatest_same ws n.1)

  none_zero_same : (vs : List ℕ) → member v vs ≡ false → none_zero g vs ≡ none_zero f vs
  unfolding none_zero
  none_zero_same [] e = refl
  none_zero_same (w ∷ ws) e = let n = not-head w ws e in ap₂ (λ (x : ℕ) (y : Bool). pick (eqb x 0) false y) (same w n.0) (none_zero_same ws n.1)

-- a tail with an unmade vertex is not ready
pub zero_stops : (d : ℕ → ℕ) (v : ℕ) (vs : List ℕ) → d v ≡ 0 → member v vs ≡ true → none_zero d vs ≡ false
unfolding member none_zero
zero_stops d v [] z e = absurd (let z : ◌≡◌ {A = ℕ} 0 1 = cc in omega arith)
zero_stops d v (w ∷ ws) z e = go (eqb v w) refl e (zero_stops d v ws z)
  where
    other : (b : Bool) → pick b false false ≡ false
    other true = refl
    other false = refl

    go : (b : Bool) → eqb v w ≡ b → pick b true (member v ws) ≡ true → (member v ws ≡ true → none_zero d ws ≡ false) → pick (eqb (d w) 0) false (none_zero d ws) ≡ false
    go true p e r = let q : d w ≡ 0 = ap d (sym (eqb-true v w p)) ∙ z in ap (λ (b : Bool). pick b false (none_zero d ws)) (eq-eqb _ _ q)
    go false p e r = ap (pick (eqb (d w) 0) false) (r e) ∙ other (eqb (d w) 0)

module _ (A : Algebra) (H : Hypergraph) (own w d w' d' : ℕ → ℕ) (v : ℕ) (weights_same : (u : ℕ) → u ≢ v → w' u ≡ w u) (depths_same : (u : ℕ) → u ≢ v → d' u ≡ d u) where
  -- a hyperedge that has nothing to do with v offers what it did
  pub open_same : (e : ℕ) → H.head e ≢ v → member v (H.tail e) ≡ false → opening A H own w' d' e ≡ opening A H own w d e
  unfolding opening offer_of
  open_same e n m =
      rw (
        depths_same (H.head e) n,
        none_zero_same v d d' depths_same (H.tail e) m,
        each_same v w w' weights_same (H.tail e) m,
        greatest_same v d d' depths_same (H.tail e) m,
      )

-- a hyperedge offers nothing where a vertex of its tail is unmade, or its head is made
pub open_unmade : (A : Algebra) (H : Hypergraph) (own w d : ℕ → ℕ) (v e : ℕ) → d v ≡ 0 → member v (H.tail e) ≡ true → opening A H own w d e ≡ None
unfolding opening offer_of
open_unmade A H own w d v e z m = rw (zero_stops d v (H.tail e) z m) (none_of (eqb (d (H.head e)) 0) (H.live e))
  where
    none_of : (p q : Bool) → pick {A = Offer} p (pick q None None) None ≡ None
    none_of true true = refl
    none_of true false = refl
    none_of false q = refl

pub open_made : (A : Algebra) (H : Hypergraph) (own w d : ℕ → ℕ) (e : ℕ) → d (H.head e) ≢ 0 → opening A H own w d e ≡ None
unfolding opening
open_made A H own w d e n = rw (ne_eqb _ _ n)

-- Numbers that fit ----------------------------------------------------------------------------------------------------------------------------------

weigh_below : (m : Measure) (own : ℕ) (ws : List ℕ) → weigh (algebra m) own ws < heavy
weigh_below m own ws = omega (arith, below_over m (weigh_within (lawful m) own ws))

pub open_fits : (m : Measure) (H : Hypergraph) (own w d : ℕ → ℕ) (e : ℕ) → Fitted w d → e < 4096 → Fitting (opening (algebra m) H own w d e)
unfolding opening offer_of
open_fits m H own w d e f h = go (eqb (d (H.head e)) 0) (H.live e) (none_zero d (H.tail e))
  where
    fits : Fits (yield (algebra m) (own e) (H.tail e) w d e)
    fits = record { weight = weigh_below m (own e) (each w (H.tail e)); depth = omega (arith, greatest_at_most d 2046 f.depth (H.tail e)); edge = h }

    go : (p q r : Bool) → Fitting (pick p (pick q (pick r (Some (yield (algebra m) (own e) (H.tail e) w d e)) None) None) None)
    go false q r = nothing
    go true false r = nothing
    go true true false = nothing
    go true true true = found fits

-- what a key tells of the offer
pub told_nothing : (m : Measure) {o : Offer} (k : ℕ) → Fitting o → k ≡ key_of m o → k ≡ none → None ≡ o
told_nothing m k nothing p z = refl
told_nothing m k (found {l = l} f) p z = absurd (omega (arith, below_none m l f))

pub told_found : (m : Measure) {o : Offer} (k : ℕ) → Fitting o → k ≡ key_of m o → k ≢ none → Some (unpacked m k) ≡ o
told_found m k nothing p n = absurd (n p)
told_found m k (found {l = l} f) p n = ap Some (ap (unpacked m) p ∙ unpacked-packed m l f)
