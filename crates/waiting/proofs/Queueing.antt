-- When nothing is still to be looked at, the queue is that of the labels; when a vertex is labelled, what waited for it is still to be looked at; and then its key is
-- taken out. Assumes nothing.
use Prim.Native.Nat.{ℕ, ◌+◌, ◌≤◌, ◌<◌}
use mathlib.Core.Path.{◌≡◌, refl, sym, ◌∙◌, ap, subst}
use mathlib.Core.Logic.{◌⊎◌, inl, inr, ◌≢◌}
use mathlib.Core.Bool.{Bool, true, false}
use mathlib.Core.List.{List, [], ◌∷◌, Memᴰ}
use native.Mathlib.Omega.{arith}
use native.Mathlib.Decide.{ℕ_discrete}
use lib.ListN.{length}
use lib.Dec.{eqb}
use borrow.Author.Tests.{eqb-false, ne_eqb}
use Rattle.weights.specs.Lists.{member}
use Rattle.weights.proofs.Lists.{member_at}
use Rattle.weights.specs.declared.Measure.{Measure}
use Rattle.weights.specs.Choice.{pick}
use Rattle.weights.proofs.Choice.{apart}
use Rattle.weights.specs.Figures.{is_struck_mark}
use Rattle.weights.specs.Measures.{Algebra, algebra}
use Rattle.provenance.specs.Labelling.{none_zero, offer_of}
use Rattle.provenance.specs.BestFirst.{opening}
use Rattle.columns.specs.Columns.{Columns, head_at, strike_at, tail_at, cell}
use Rattle.tables.specs.Table.{hypergraph}
use Rattle.minima.specs.Minima.{none, leaves, key_in, Grouped, raised}
use Rattle.minima.proofs.Laws.{raised-length, raised_same, raised_other, raised_grouped}
use Rattle.queue.specs.Keys.{key_of}
use Rattle.queue.specs.Queue.{least_with, Queued}
use Rattle.queue.proofs.Laws.{with_at_most, with_lower, with_greatest, zero_stops, open_same, open_unmade, open_made}
use Rattle.offers.specs.Passing.{Extends}
use Rattle.waiting.specs.Lines.{Lines, room_of, Chain, Waiter, key_on, Placed, kept, waits, heard, Waiting, Woken, Rested}
use Rattle.waiting.proofs.Keeping.{chain_on, chain_each, unmade_before, made_still, waiter_on}
use Rattle.weights.specs.Offers.{Offer}
use Rattle.std.specs.Prelude.{None}

-- a struck hyperedge offers nothing
open_struck : (A : Algebra) (c : Columns) (w d : ℕ → ℕ) (e : ℕ) → is_struck_mark (strike_at c e) ≡ true → opening A (hypergraph c) (cell c.own) w d e ≡ None
unfolding opening offer_of
open_struck A c w d e p = rw p (go (eqb (d (head_at c e)) 0))
  where
    go : (t : Bool) → pick {A = Offer} t None None ≡ None
    go true = refl
    go false = refl

-- what was all made is all made
none_zero_on : {w d w' d' : ℕ → ℕ} → Extends w d w' d' → (vs : List ℕ) → none_zero d vs ≡ true → none_zero d' vs ≡ true
unfolding none_zero
none_zero_on x [] p = refl
none_zero_on {w} {d} {w'} {d'} x (v ∷ vs) p = go (eqb (d v) 0) refl p (none_zero_on x vs)
  where
    go : (b : Bool) → eqb (d v) 0 ≡ b → pick b false (none_zero d vs) ≡ true → (none_zero d vs ≡ true → none_zero d' vs ≡ true) → pick (eqb (d' v) 0) false (none_zero d' vs) ≡ true
    go true q p r = apart p
    go false q p r = rw (ne_eqb (d' v) 0 (made_still x v (eqb-false _ _ q))) (r p)

module _ (m : Measure) (c : Columns) (w d : ℕ → ℕ) {s : Lines} where
  -- a hyperedge that waits for an unmade vertex offers nothing
  shut : {v e : ℕ} → d v ≡ 0 → Waiter (algebra m) c w d s v e → key_on m c w d e ≡ none
  shut {v} {e} z k =
      let i = cell s.at e in
      ap (key_of m) (open_unmade (algebra m) (hypergraph c) (cell c.own) w d (cell (tail_at c e) i) e (ap d k.here ∙ z) (member_at (tail_at c e) i k.before))

  module _ {q : List ℕ} (W : Waiting m c w d s q (λ e. ⊥)) (taken : (u : ℕ) → u < (room_of c).vertices → d u ≢ 0 → key_in q u ≡ none) where
    abbrev key : ℕ → ℕ
    key = key_on m c w d

    bound : (u : ℕ) → key_in q u ≤ none
    bound u = W.grouped.low (leaves q + u)

    below_key : (u : ℕ) → u < (room_of c).vertices → (e : ℕ) → e < length c.heads → head_at c e ≡ u → key_in q u ≤ key e
    below_key u l e h p = go (is_struck_mark (strike_at c e)) refl (ℕ_discrete (d (head_at c e)) 0)
      where
        placed : Placed m c w d W.lists q (λ e. ⊥) e → key_in q u ≤ key e
        placed (kept b) = absurd b
        placed (waits v k z i) = omega (arith, bound u, shut z (chain_each (W.chained v k z) e i))
        placed (heard r b) = omega (arith, ap (key_in q) p)

        go : (t : Bool) → is_struck_mark (strike_at c e) ≡ t → Dec (d (head_at c e) ≡ 0) → key_in q u ≤ key e
        go true t z = omega (arith, bound u, ap (key_of m) (open_struck (algebra m) c w d e t))
        go false t (yes z) = placed (W.covered e h t z)
        go false t (no n) = omega (arith, bound u, ap (key_of m) (open_made (algebra m) (hypergraph c) (cell c.own) w d e n))

    offered_by : (u : ℕ) → u < (room_of c).vertices → least_with key (head_at c) u (length c.heads) ≤ key_in q u
    offered_by u l = of (ℕ_discrete (d u) 0)
      where
        go : (key_in q u ≡ none) ⊎ ((e : ℕ) × ((e < length c.heads) × ((head_at c e ≡ u) × (key_in q u ≡ key e)))) → least_with key (head_at c) u (length c.heads) ≤ key_in q u
        go (inl z) = omega (arith, with_at_most key (head_at c) u (length c.heads))
        go (inr x) = omega (arith, with_lower key (head_at c) u (length c.heads) x.0 x.1.0 x.1.1.0, x.1.1.1)

        of : Dec (d u ≡ 0) → least_with key (head_at c) u (length c.heads) ≤ key_in q u
        of (yes z) = go (W.offers u l z)
        of (no n) = go (inl (taken u l n))

    pub queued : Queued m (hypergraph c) (cell c.own) w d q
    queued = record {
      grouped = W.grouped;
      waiting = λ u l.
          let i : u < (room_of c).vertices = omega (arith, W.sized) in
          omega (arith, offered_by u i, with_greatest key (head_at c) u (length c.heads) (key_in q u) (bound u) (below_key u i));
    }

-- v is made, and nothing else changes
module _ (m : Measure) (c : Columns) (w d w' d' : ℕ → ℕ) (v : ℕ) (weights_same : (u : ℕ) → u ≢ v → w' u ≡ w u) (depths_same : (u : ℕ) → u ≢ v → d' u ≡ d u) (unmade : d v ≡ 0) (made : d' v ≢ 0) where
  pub extended : Extends w d w' d'
  extended = record { weight = λ u n. weights_same u (λ p. n (ap d p ∙ unmade)); depth = λ u n. depths_same u (λ p. n (ap d p ∙ unmade)) }

  other : (u : ℕ) → d' u ≡ 0 → u ≢ v
  other u z p = made (ap d' (sym p) ∙ z)

  -- a hyperedge with another head that does not list v offers what it did; one that lists v offered nothing
  key_same : (e : ℕ) → head_at c e ≢ v → member v (tail_at c e) ≡ false → key_on m c w' d' e ≡ key_on m c w d e
  key_same e n p = ap (key_of m) (open_same (algebra m) (hypergraph c) (cell c.own) w d w' d' v weights_same depths_same e n p)

  key_none : (e : ℕ) → member v (tail_at c e) ≡ true → key_on m c w d e ≡ none
  key_none e p = ap (key_of m) (open_unmade (algebra m) (hypergraph c) (cell c.own) w d v e unmade p)

  module _ {s : Lines} {q : List ℕ} (k : v < c.vertices) (W : Waiting m c w d s q (λ e. ⊥)) where
    abbrev pub woken : List ℕ
    woken = W.lists v

    pub woken_chain : Chain (Waiter (algebra m) c w' d' s v) s.next (cell s.first v) woken
    woken_chain = chain_on (λ x i. waiter_on extended) (λ x i. refl) (W.chained v k unmade)

    abbrev Sourced : (ℕ → ℕ) → (ℕ → ℕ) → ℕ → Type 0
    Sourced w d u = (key_in q u ≡ none) ⊎ ((e : ℕ) × ((e < length c.heads) × ((head_at c e ≡ u) × (key_in q u ≡ key_on m c w d e))))

    pub relabelled : Waiting m c w' d' s q (λ e. Memᴰ e woken)
    relabelled = record {
      lists = W.lists;
      chained = λ u l z. chain_on (λ x i. waiter_on extended) (λ x i. refl) (W.chained u l (unmade_before extended u z));
      covered = λ e l n z. covered e l z (W.covered e l n (unmade_before extended (head_at c e) z));
      apart = λ u e l z i j. other u z (sym (chain_each (W.chained u l (unmade_before extended u z)) e i).here ∙ (chain_each (W.chained v k unmade) e j).here);
      grouped = W.grouped;
      sized = W.sized;
      offers = λ u l z. sources u (other u z) (W.offers u l (unmade_before extended u z));
    }
      where
        sources : (u : ℕ) → u ≢ v → Sourced w d u → Sourced w' d' u
        sources u n (inl p) = inl p
        sources u n (inr x) = go (member v (tail_at c x.0)) refl
          where
            go : (t : Bool) → member v (tail_at c x.0) ≡ t → Sourced w' d' u
            go true m = inl (x.1.1.1 ∙ key_none x.0 m)
            go false m = inr (x.0, (x.1.0, (x.1.1.0, x.1.1.1 ∙ sym (key_same x.0 (λ p. n (sym x.1.1.0 ∙ p)) m))))

        listed : (e : ℕ) → none_zero d (tail_at c e) ≡ true → member v (tail_at c e) ≡ false
        listed e r = go (member v (tail_at c e)) refl
          where
            go : (t : Bool) → member v (tail_at c e) ≡ t → t ≡ false
            go true m = apart (sym (zero_stops d v (tail_at c e) unmade m) ∙ r)
            go false m = refl

        waits_still : (e u : ℕ) → u < c.vertices → d u ≡ 0 → Memᴰ e (W.lists u) → Dec (u ≡ v) → Placed m c w' d' W.lists q (λ e. Memᴰ e woken) e
        waits_still e u l z i (yes p) = kept (subst (λ (x : ℕ). Memᴰ e (W.lists x)) p i)
        waits_still e u l z i (no n) = waits u l (depths_same u n ∙ z) i

        covered : (e : ℕ) → e < length c.heads → d' (head_at c e) ≡ 0 → Placed m c w d W.lists q (λ e. ⊥) e → Placed m c w' d' W.lists q (λ e. Memᴰ e woken) e
        covered e l z (kept b) = absurd b
        covered e l z (waits u y r i) = waits_still e u y r i (ℕ_discrete u v)
        covered e l z (heard r b) =
            heard (none_zero_on extended (tail_at c e) r) (omega (arith, key_same e (other (head_at c e) z) (listed e r)))

-- the key of a made vertex is taken out, and nothing else changes
module _ {m : Measure} {c : Columns} {ws ds : List ℕ} {s : Lines} {q : List ℕ} {v : ℕ} (heads : (e : ℕ) → e < length c.heads → head_at c e < (room_of c).vertices)
    (h : v < (room_of c).vertices) (x : Woken m c ws ds s q v) where
  wide : (u : ℕ) → u < (room_of c).vertices → u < leaves q
  wide u l = omega (arith, x.waiting.sized)

  pub woken_raisable : (Grouped q) × (v < leaves q)
  woken_raisable = (x.waiting.grouped, wide v h)

  key_stays : (u : ℕ) → u < (room_of c).vertices → u ≢ v → key_in (raised q v) u ≡ key_in q u
  key_stays u l = raised_other q v x.waiting.grouped (wide v h) u (wide u l)

  unmade_other : (u : ℕ) → cell ds u ≡ 0 → u ≢ v
  unmade_other u z p = x.made (ap (cell ds) (sym p) ∙ z)

  pub key_out : Rested m c ws ds s (raised q v)
  key_out = record {
    sizes = x.sizes;
    waiting = record {
      lists = x.waiting.lists;
      chained = x.waiting.chained;
      covered = λ e l n z. placed e l z (x.waiting.covered e l n z);
      apart = x.waiting.apart;
      grouped = raised_grouped q v x.waiting.grouped (wide v h);
      sized = raised-length q v x.waiting.grouped (wide v h) ∙ x.waiting.sized;
      offers = λ u l z. source u (key_stays u l (unmade_other u z)) (x.waiting.offers u l z);
    };
    taken = λ u l n. out u l n (ℕ_discrete u v);
  }
    where
      placed : (e : ℕ) → e < length c.heads → cell ds (head_at c e) ≡ 0 → Placed m c (cell ws) (cell ds) x.waiting.lists q (λ e. ⊥) e
          → Placed m c (cell ws) (cell ds) x.waiting.lists (raised q v) (λ e. ⊥) e
      placed e l z (kept b) = absurd b
      placed e l z (waits u y r i) = waits u y r i
      placed e l z (heard r b) = heard r (omega (arith, key_stays (head_at c e) (heads e l) (unmade_other (head_at c e) z)))

      source : (u : ℕ) → key_in (raised q v) u ≡ key_in q u → (key_in q u ≡ none) ⊎ ((e : ℕ) × ((e < length c.heads) × ((head_at c e ≡ u) × (key_in q u ≡ key_on m c (cell ws) (cell ds) e))))
          → (key_in (raised q v) u ≡ none) ⊎ ((e : ℕ) × ((e < length c.heads) × ((head_at c e ≡ u) × (key_in (raised q v) u ≡ key_on m c (cell ws) (cell ds) e))))
      source u p (inl y) = inl (p ∙ y)
      source u p (inr y) = inr (y.0, (y.1.0, (y.1.1.0, p ∙ y.1.1.1)))

      out : (u : ℕ) → u < (room_of c).vertices → cell ds u ≢ 0 → Dec (u ≡ v) → key_in (raised q v) u ≡ none
      out u l n (yes p) = ap (key_in (raised q v)) p ∙ raised_same q v x.waiting.grouped (wide v h)
      out u l n (no k) = key_stays u l k ∙ x.taken u l n k
