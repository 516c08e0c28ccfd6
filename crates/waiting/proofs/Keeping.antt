-- The laws of hyperedges that wait: labels that extend others keep what was passed; a list keeps its hyperedges while others move; and one that moves keeps what holds
-- of all. Assumes nothing.
use Prim.Native.Nat.{ℕ, ◌+◌, ◌*◌, ◌≤◌, ◌<◌, min}
use mathlib.Core.Path.{◌≡◌, refl, sym, ◌∙◌, ap, subst}
use mathlib.Core.Logic.{◌⊎◌, inl, inr, ◌≢◌}
use mathlib.Core.Bool.{Bool, true, false}
use mathlib.Core.List.Memᴰ
use mathlib.Core.List.{List, ◌∷◌, Memᴰ}
use native.Mathlib.Omega.{arith}
use native.Mathlib.Decide.{dec_le, ℕ_discrete}
use lib.ListN.{length, length-set}
use lib.Seq.{get_or-set_same, get_or-set_other}
use lib.Dec.{eqb}
use borrow.Author.Tests.{eq-eqb, eqb-true, eqb-false}
use Rattle.weights.specs.Choice.{pick}
use Rattle.weights.specs.declared.Measure.{Measure}
use Rattle.weights.specs.Measures.{Algebra, algebra}
use Rattle.weights.specs.Figures.{is_struck_mark}
use Rattle.provenance.specs.Labelling.{none_zero}
use Rattle.provenance.specs.BestFirst.{opening}
use Rattle.columns.specs.Columns.{Columns, head_at, strike_at, tail_at, cell}
use Rattle.tables.specs.Table.{hypergraph}
use Rattle.offers.specs.Passing.{Extends, Carried}
use Rattle.minima.specs.Minima.{none, leaves, key_in, Grouped}
use Rattle.queue.specs.Keys.{Fitting, key_of}
use Rattle.queue.specs.Queue.{offered}
use Rattle.queue.proofs.Laws.{offered-length, offered_grouped, offered_key, open_made}
use Rattle.waiting.specs.Lines.{Lines, room_of, Sizes, pushed, Chain, ended, linked, Waiter, key_on, Placed, kept, waits, heard, Waiting}

module _ {w d w' d' : ℕ → ℕ} (x : Extends w d w' d') where
  pub made_still : (u : ℕ) → d u ≢ 0 → d' u ≢ 0
  made_still u n z = n (sym (x.depth u n) ∙ z)

  pub unmade_before : (u : ℕ) → d' u ≡ 0 → d u ≡ 0
  unmade_before u z = go (ℕ_discrete (d u) 0)
    where
      go : Dec (d u ≡ 0) → d u ≡ 0
      go (yes e) = e
      go (no n) = absurd (made_still u n z)

  pub extends_trans : {w'' d'' : ℕ → ℕ} → Extends w' d' w'' d'' → Extends w d w'' d''
  extends_trans y = record { weight = λ u n. y.weight u (made_still u n) ∙ x.weight u n; depth = λ u n. y.depth u (made_still u n) ∙ x.depth u n }

  -- later labels carry what was carried
  pub carried_on : {A : Algebra} {tail : List ℕ} {i j g : ℕ} → Carried A w d tail i j g → Carried A w' d' tail i j g
  carried_on k = record { inside = k.inside; shallow = k.shallow; light = k.light; carried = λ e own w'' d'' y. k.carried e own w'' d'' (extends_trans y) }

  pub waiter_on : {A : Algebra} {c : Columns} {s : Lines} {v e : ℕ} → Waiter A c w d s v e → Waiter A c w' d' s v e
  waiter_on k = record { numbered = k.numbered; unstruck = k.unstruck; before = k.before; here = k.here; passed = carried_on k.passed }

-- Lists ------------------------------------------------------------------------------------------------------------------------------------------------

-- a list stays, where its hyperedges keep their next ones and what holds of them
pub chain_on : {P Q : ℕ → Type 0} {next next' : List ℕ} {f : ℕ} {es : List ℕ} → ((x : ℕ) → Memᴰ x es → P x → Q x)
    → ((x : ℕ) → Memᴰ x es → cell next' x ≡ cell next x) → Chain P next f es → Chain Q next' f es
chain_on {f = f} g k (ended p) = ended p
chain_on {Q = Q} {next' = next'} {f = f} g k (linked {es = es} p n r) =
    linked (g f (Memᴰ.head refl) p) n (subst (λ (x : ℕ). Chain Q next' x es) (sym (k f (Memᴰ.head refl))) (chain_on (λ x i. g x (Memᴰ.tail i)) (λ x i. k x (Memᴰ.tail i)) r))

pub chain_each : {P : ℕ → Type 0} {next : List ℕ} {f : ℕ} {es : List ℕ} → Chain P next f es → (x : ℕ) → Memᴰ x es → P x
chain_each (ended p) x i = absurd (Memᴰ.not-nil i)
chain_each {P} {f = f} (linked p n r) x i = go (Memᴰ.cases_cons i) (chain_each r x)
  where
    go : {es : List ℕ} → (x ≡ f) ⊎ Memᴰ x es → (Memᴰ x es → P x) → P x
    go (inl e) t = subst P (sym e) p
    go (inr j) t = t j

carried_at : {A : Algebra} {w d : ℕ → ℕ} {tail : List ℕ} {a b k a' b' k' : ℕ} → a' ≡ a → b' ≡ b → k' ≡ k → Carried A w d tail a b k → Carried A w d tail a' b' k'
carried_at {A} {w} {d} {tail} {a} {b} {k} {a'} {b'} {k'} p q r t =
    subst (λ (z : ℕ). Carried A w d tail z b' k') (sym p) (subst (λ (z : ℕ). Carried A w d tail a z k') (sym q) (subst (λ (z : ℕ). Carried A w d tail a b z) (sym r) t))

-- every list that a hyperedge is not in keeps what holds of its hyperedges
module _ (A : Algebra) (c : Columns) (w d : ℕ → ℕ) (s : Lines) (u e i j g : ℕ) where
  abbrev after : Lines
  after = pushed s u e i j g

  pub waiter_other : (v x : ℕ) → x ≢ e → Waiter A c w d s v x → Waiter A c w d after v x
  waiter_other v x n k =
      let p = get_or-set_other s.at e x i 0 n in
      let q = get_or-set_other s.joined e x j 0 n in
      let r = get_or-set_other s.deepest e x g 0 n in
      record {
        numbered = k.numbered;
        unstruck = k.unstruck;
        before = omega (arith, p, k.before);
        here = ap (cell (tail_at c x)) p ∙ k.here;
        passed = carried_at p q r k.passed;
      }

  -- e itself waits for u, if there is room for it
  pub waiter_same : Sizes (room_of c) s → e < (room_of c).edges → e < length c.heads → is_struck_mark (strike_at c e) ≡ false
      → i < length (tail_at c e) → cell (tail_at c e) i ≡ u → Carried A w d (tail_at c e) i j g → Waiter A c w d after u e
  waiter_same z m h n b y k =
      let p = get_or-set_same s.at e i 0 (omega (arith, z.at)) in
      let q = get_or-set_same s.joined e j 0 (omega (arith, z.joined)) in
      let r = get_or-set_same s.deepest e g 0 (omega (arith, z.deepest)) in
      record { numbered = h; unstruck = n; before = omega (arith, p); here = ap (cell (tail_at c e)) p ∙ y; passed = carried_at p q r k }

  -- a list without e is as it was
  pub chain_other : (v f : ℕ) {es : List ℕ} → ¬ Memᴰ e es → Chain (Waiter A c w d s v) s.next f es → Chain (Waiter A c w d after v) after.next f es
  chain_other v f n k =
      chain_on (λ x m. waiter_other v x (λ p. n (Memᴰ.cast (sym p) m))) (λ x m. get_or-set_other s.next e x (cell s.first u) 0 (λ p. n (Memᴰ.cast (sym p) m))) k

  module _ (z : Sizes (room_of c) s) (m : e < (room_of c).edges) (o : u < (room_of c).vertices) where
    -- e comes first in the list of u
    pub chain_first : {es : List ℕ} → Waiter A c w d after u e → ¬ Memᴰ e es → Chain (Waiter A c w d s u) s.next (cell s.first u) es
        → Chain (Waiter A c w d after u) after.next (cell after.first u) (e ∷ es)
    chain_first {es} x n k =
        let p = get_or-set_same s.first u e 0 (omega (arith, z.first)) in
        let q = get_or-set_same s.next e (cell s.first u) 0 (omega (arith, z.next)) in
        subst (λ (f : ℕ). Chain (Waiter A c w d after u) after.next f (e ∷ es)) (sym p)
        (linked x n (subst (λ (f : ℕ). Chain (Waiter A c w d after u) after.next f es) (sym q) (chain_other u (cell s.first u) n k)))

    -- every list, e being in none
    abbrev put_first : (ℕ → List ℕ) → ℕ → List ℕ
    put_first lists v = pick (eqb v u) (e ∷ lists v) (lists v)

    pub chains : (lists : ℕ → List ℕ) (v : ℕ) → Waiter A c w d after u e → ¬ Memᴰ e (lists v)
        → Chain (Waiter A c w d s v) s.next (cell s.first v) (lists v)
        → Chain (Waiter A c w d after v) after.next (cell after.first v) (put_first lists v)
    chains lists v x n k = go (eqb v u) refl
      where
        go : (t : Bool) → eqb v u ≡ t → Chain (Waiter A c w d after v) after.next (cell after.first v) (pick t (e ∷ lists v) (lists v))
        go true p =
            let r : v ≡ u = eqb-true _ _ p in
            subst (λ (y : ℕ). Chain (Waiter A c w d after y) after.next (cell after.first y) (e ∷ lists v)) (sym r)
            (chain_first x n (subst (λ (y : ℕ). Chain (Waiter A c w d s y) s.next (cell s.first y) (lists v)) r k))
        go false p =
            subst (λ (f : ℕ). Chain (Waiter A c w d after v) after.next f (lists v)) (sym (get_or-set_other s.first u v e 0 (eqb-false _ _ p))) (chain_other v (cell s.first v) n k)

    pub in_first : (lists : ℕ → List ℕ) → Memᴰ e (put_first lists u)
    in_first lists = subst (λ (t : Bool). Memᴰ e (pick t (e ∷ lists u) (lists u))) (sym (eq-eqb u u refl)) (Memᴰ.head refl)

    pub in_others : (lists : ℕ → List ℕ) (v x : ℕ) → Memᴰ x (lists v) → Memᴰ x (put_first lists v)
    in_others lists v x k = go (eqb v u)
      where
        go : (t : Bool) → Memᴰ x (pick t (e ∷ lists v) (lists v))
        go true = Memᴰ.tail k
        go false = k

    pub out_first : (lists : ℕ → List ℕ) (v x : ℕ) → Memᴰ x (put_first lists v) → (x ≡ e) ⊎ Memᴰ x (lists v)
    out_first lists v x k = go (eqb v u) k
      where
        go : (t : Bool) → Memᴰ x (pick t (e ∷ lists v) (lists v)) → (x ≡ e) ⊎ Memᴰ x (lists v)
        go true k = Memᴰ.cases_cons k
        go false k = inr k

    pub pushed_sizes : Sizes (room_of c) after
    pushed_sizes = record {
      first = length-set s.first u e ∙ z.first;
      next = length-set s.next e (cell s.first u) ∙ z.next;
      at = length-set s.at e i ∙ z.at;
      joined = length-set s.joined e j ∙ z.joined;
      deepest = length-set s.deepest e g ∙ z.deepest;
    }

-- Going on ---------------------------------------------------------------------------------------------------------------------------------------------

module _ (m : Measure) (c : Columns) (w d : ℕ → ℕ) (heads : (e : ℕ) → e < length c.heads → head_at c e < (room_of c).vertices)
    (fits : (e : ℕ) → e < length c.heads → Fitting (opening (algebra m) (hypergraph c) (cell c.own) w d e)) where
  abbrev pub key : ℕ → ℕ
  key = key_on m c w d

  abbrev pub Source : List ℕ → ℕ → Type 0
  Source q u = (key_in q u ≡ none) ⊎ ((e : ℕ) × ((e < length c.heads) × ((head_at c e ≡ u) × (key_in q u ≡ key e))))

  module _ {s : Lines} {q : List ℕ} {busy : ℕ → Type 0} (W : Waiting m c w d s q busy) (e : ℕ) (h : e < length c.heads) {q' : List ℕ}
      (p : q' ≡ offered m q (head_at c e) (opening (algebra m) (hypergraph c) (cell c.own) w d e)) where
    wide : (u : ℕ) → u < (room_of c).vertices → u < leaves q
    wide u l = omega (arith, W.sized)

    at_key : (u : ℕ) → u < (room_of c).vertices → key_in q' u ≡ min (key_in q u) (pick (eqb (head_at c e) u) (key e) none)
    at_key u l = ap (λ (z : List ℕ). key_in z u) p ∙ offered_key m q (head_at c e) u (wide (head_at c e) (heads e h)) (wide u l) (fits e h) W.grouped

    lower : (u : ℕ) → u < (room_of c).vertices → key_in q' u ≤ key_in q u
    lower u l = omega (arith, at_key u l)

    lowest : key_in q' (head_at c e) ≤ key e
    lowest = omega (arith, at_key (head_at c e) (heads e h), ap (λ (t : Bool). pick t (key e) none) (eq-eqb (head_at c e) (head_at c e) refl))

    grouped_still : Grouped q'
    grouped_still = subst Grouped (sym p) (offered_grouped m q (head_at c e) (wide (head_at c e) (heads e h)) (fits e h) W.grouped)

    sized_still : length q' ≡ 2 * (room_of c).vertices
    sized_still = ap length p ∙ offered-length m q (head_at c e) (wide (head_at c e) (heads e h)) (fits e h) W.grouped ∙ W.sized

    sources : (u : ℕ) → u < (room_of c).vertices → d u ≡ 0 → Source q' u
    sources u l z = go (eqb (head_at c e) u) refl (at_key u l) (dec_le (key_in q u) (key e)) (W.offers u l z)
      where
        as_before : key_in q' u ≡ key_in q u → Source q u → Source q' u
        as_before r (inl y) = inl (r ∙ y)
        as_before r (inr y) = inr (y.0, (y.1.0, (y.1.1.0, r ∙ y.1.1.1)))

        go : (t : Bool) → eqb (head_at c e) u ≡ t → key_in q' u ≡ min (key_in q u) (pick t (key e) none) → Dec (key_in q u ≤ key e) → Source q u → Source q' u
        go true y r (yes b) x = as_before (omega arith) x
        go true y r (no b) x = inr (e, (h, (eqb-true _ _ y, omega arith)))
        go false y r b x = as_before (omega (arith, W.grouped.low (leaves q + u))) x

    -- nothing is offered to a made vertex
    pub taken_still : (u : ℕ) → u < (room_of c).vertices → d u ≢ 0 → key_in q u ≡ none → key_in q' u ≡ none
    taken_still u l n z = go (eqb (head_at c e) u) refl (at_key u l)
      where
        go : (t : Bool) → eqb (head_at c e) u ≡ t → key_in q' u ≡ min (key_in q u) (pick t (key e) none) → key_in q' u ≡ none
        go true y r = omega (arith, ap (key_of m) (open_made (algebra m) (hypergraph c) (cell c.own) w d e (λ k. n (ap d (sym (eqb-true _ _ y)) ∙ k))))
        go false y r = omega arith

    module _ {busy' : ℕ → Type 0} (others : (x : ℕ) → busy x → (x ≡ e) ⊎ busy' x) (fewer : (x : ℕ) → busy' x → busy x) where
      -- e stays out of the lists
      pub went_stays : (d (head_at c e) ≡ 0 → none_zero d (tail_at c e) ≡ true) → Waiting m c w d s q' busy'
      went_stays r =
          record {
            lists =
                W.lists;
            chained =
                W.chained;
            covered = λ x a b z. go x a z (W.covered x a b z);
            apart = λ v x l z i b. W.apart v x l z i (fewer x b);
            grouped = grouped_still;
            sized = sized_still;
            offers = sources;
          }
        where
          now_there : (x : ℕ) → d (head_at c x) ≡ 0 → (x ≡ e) ⊎ busy' x → Placed m c w d W.lists q' busy' x
          now_there x z (inr b) = kept b
          now_there x z (inl y) = subst (λ (a : ℕ). Placed m c w d W.lists q' busy' a) (sym y) (heard (r (ap (λ (a : ℕ). d (head_at c a)) (sym y) ∙ z)) lowest)

          go : (x : ℕ) → x < length c.heads → d (head_at c x) ≡ 0 → Placed m c w d W.lists q busy x → Placed m c w d W.lists q' busy' x
          go x a z (kept b) = now_there x z (others x b)
          go x a z (waits v l y k) = waits v l y k
          go x a z (heard y b) = heard y (omega (arith, lower (head_at c x) (heads x a)))

      -- e waits for another vertex
      pub went_waits : (i j g : ℕ) → Sizes (room_of c) s → e < (room_of c).edges → ((k : ℕ) → k < length (tail_at c e) → cell (tail_at c e) k < c.vertices) → c.vertices ≤ (room_of c).vertices
          → busy e → (busy' e → ⊥)
          → is_struck_mark (strike_at c e) ≡ false → i < length (tail_at c e) → d (cell (tail_at c e) i) ≡ 0 → Carried (algebra m) w d (tail_at c e) i j g
          → Waiting m c w d (pushed s (cell (tail_at c e) i) e i j g) q' busy'
      went_waits i j g z room inside few was gone n b y k =
          record {
            lists = put_first (algebra m) c w d s u e i j g z room o W.lists;
            chained = λ v l a. chains (algebra m) c w d s u e i j g z room o W.lists v (waiter_same (algebra m) c w d s u e i j g z room h n b refl k) (out v l a) (W.chained v l a);
            covered = λ x a r t. go x a (W.covered x a r t);
            apart = λ v x l a t f. apart v x l a (out_first (algebra m) c w d s u e i j g z room o W.lists v x t) f;
            grouped = grouped_still;
            sized = sized_still;
            offers = sources;
          }
        where
          u : ℕ
          u = cell (tail_at c e) i

          out : (v : ℕ) → v < c.vertices → d v ≡ 0 → ¬ Memᴰ e (W.lists v)
          out v l a t = W.apart v e l a t was

          apart : (v x : ℕ) → v < c.vertices → d v ≡ 0 → (x ≡ e) ⊎ Memᴰ x (W.lists v) → busy' x → ⊥
          apart v x l a (inl r) f = gone (subst busy' r f)
          apart v x l a (inr t) f = W.apart v x l a t (fewer x f)

          o : u < (room_of c).vertices
          o = omega (arith, inside i b)

          lists' : ℕ → List ℕ
          lists' = put_first (algebra m) c w d s u e i j g z room o W.lists

          now_there : (x : ℕ) → (x ≡ e) ⊎ busy' x → Placed m c w d lists' q' busy' x
          now_there x (inr a) = kept a
          now_there x (inl r) = subst (λ (a : ℕ). Placed m c w d lists' q' busy' a) (sym r) (waits u (inside i b) y (in_first (algebra m) c w d s u e i j g z room o W.lists))

          go : (x : ℕ) → x < length c.heads → Placed m c w d W.lists q busy x → Placed m c w d lists' q' busy' x
          go x a (kept r) = now_there x (others x r)
          go x a (waits v l r t) = waits v l r (in_others (algebra m) c w d s u e i j g z room o W.lists v x t)
          go x a (heard r t) = heard r (omega (arith, lower (head_at c x) (heads x a)))
