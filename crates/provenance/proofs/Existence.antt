-- Existence: best-first is a fixpoint, so every part has an entry with its meaning; and no depth passes the number of vertices. Document 000's Theorem 14 for
-- labels. A turn is proved from what `Next` tells alone, whichever way the next hyperedge is found. Assumes nothing.
use mathlib.Core.Path.{◌≡◌, refl, sym, ◌∙◌, ap, subst}
use mathlib.Core.Logic.{◌⊎◌, inl, inr, ◌≢◌}
use mathlib.Core.List.{List, [], ◌∷◌, Memᴰ}
use Prim.Native.Nat.{ℕ, zero, suc, ◌+◌, ◌-◌, ◌≤◌, ◌<◌}
use native.Mathlib.Omega.{arith}
use native.Mathlib.Decide.{dec_le, ℕ_discrete}
use lib.ListN.{get_or, set, replicate, length, length-set, length-replicate}
use lib.Seq.{get_or-set_same, get_or-set_other, ext_get_or}
use Rattle.weights.specs.declared.Label.{Label}
use Rattle.weights.specs.Measures.{Algebra, weigh}
use Rattle.weights.specs.Labels.{unmade}
use Rattle.weights.specs.Laws.{InRange, Lawful}
use Rattle.weights.proofs.Weighing.{superior, weigh_within}
use Rattle.weights.specs.Order.{Ahead}
use Rattle.weights.proofs.Order.{ahead_refl, ahead_trans}
use Rattle.provenance.specs.Hypergraph.{Hypergraph, WellFormed}
use Rattle.provenance.specs.Labelling.{Made, AllMade, depth_in, each, greatest_depth, tail-weights, deepest_in, Ready, candidate, Chosen, Fixpoint}
use Rattle.provenance.proofs.Meaning.{unique}
use Rattle.provenance.proofs.BestFirst.{Open, Next, stuck, found, next_is}
use Rattle.columns.specs.Columns.{Answers, Sized}
use Rattle.provenance.specs.BestFirst.{labels, put, blank, place, turn, turns, best_first}
use Rattle.weights.specs.Offers.{Offer}

-- a made label under f is the same under g
abbrev Keeps : (ℕ → Label) → (ℕ → Label) → Type 0
Keeps f g = (v : ℕ) → Made (f v) → g v ≡ f v

record Kept (f g : ℕ → Label) (vs : List ℕ) : Type 0 where
  made : AllMade g vs
  weight : tail-weights g vs ≡ tail-weights f vs
  depth : deepest_in g vs ≡ deepest_in f vs

kept : {f g : ℕ → Label} → Keeps f g → {vs : List ℕ} → AllMade f vs → Kept f g vs
unfolding each greatest_depth
kept k AllMade.none = record { made = AllMade.none; weight = refl; depth = refl }
kept {f} {g} k (AllMade.more {v = v} a b) =
    let r = kept k b in
    let e = k v a in
    record { made = AllMade.more {v = v} (rw e a) r.made; weight = cc; depth = cc }

mem-tail_weights : (g : ℕ → Label) {v : ℕ} {vs : List ℕ} → Memᴰ v vs → Memᴰ (g v).weight.0 (tail-weights g vs)
unfolding each
mem-tail_weights g (Memᴰ.head e) = Memᴰ.head (ap (λ x. (g x).weight.0) e)
mem-tail_weights g (Memᴰ.tail i) = Memᴰ.tail (mem-tail_weights g i)

mem-depth : (g : ℕ → Label) {v : ℕ} {vs : List ℕ} → Memᴰ v vs → (g v).depth ≤ deepest_in g vs
unfolding greatest_depth
mem-depth g (Memᴰ.head e) = omega (arith, ap (λ x. (g x).depth) e)
mem-depth g (Memᴰ.tail i) = omega (arith, mem-depth g i)

module _ (A : Algebra) (H : Hypergraph) (own : ℕ → ℕ) where
  -- g is f with the head of e made by the first of the open edges
  pub record Settled (f g : ℕ → Label) (e : ℕ) : Type 0 where
    pub open_edge : Open H f e
    pub first : (e' : ℕ) → Open H f e' → Ahead A (candidate A H own f e) (candidate A H own f e')
    pub here : g (H.head e) ≡ candidate A H own f e
    pub elsewhere : (v : ℕ) → v ≢ H.head e → g v ≡ f v

  -- what holds between two turns
  pub record Turned (f : ℕ → Label) : Type 0 where
    pub blank : (v : ℕ) → (f v).depth ≡ 0 → f v ≡ unmade
    pub chosen : (v : ℕ) → Made (f v) → Chosen A H own f v (f v).edge.0
    pub ahead : (v e : ℕ) → Made (f v) → Ready H f e → ((f (H.head e)).depth ≡ 0) ⊎ (H.head e ≡ v) → Ahead A (f v) (candidate A H own f e)

module _ {A : Algebra} {H : Hypergraph} {own : ℕ → ℕ} {f g : ℕ → Label} {e : ℕ} (L : Lawful A) (t : Turned A H own f) (s : Settled A H own f g e) where
  keeps : Keeps f g
  keeps v a = s.elsewhere v (λ q. omega (arith, ap (λ x. (f x).depth) q, s.open_edge.fresh))

  made_back : (v : ℕ) → v ≢ H.head e → Made (g v) → Made (f v)
  made_back v n a = rw (s.elsewhere v n) at a

  unmade_back : (v : ℕ) → (g v).depth ≡ 0 → (f v).depth ≡ 0
  unmade_back v z = go (dec_le 1 (f v).depth)
    where
      go : Dec (1 ≤ (f v).depth) → (f v).depth ≡ 0
      go (yes a) = omega (arith, ap (λ l. l.depth) (keeps v (record { deep = a })))
      go (no n) = omega arith

  ready_kept : (e' : ℕ) → Ready H f e' → Ready H g e'
  ready_kept e' r = record { stands = r.stands; tails = (kept keeps r.tails).made }

  candidate-kept : (e' : ℕ) → Ready H f e' → candidate A H own g e' ≡ candidate A H own f e'
  candidate-kept e' r = let k = kept keeps r.tails in λ i. record { weight = record { 0 = weigh A (own e') (k.weight i) }; depth = k.depth i + 1; edge = record { 0 = e' } }

  tails_back : {vs : List ℕ} → AllMade g vs → AllMade f vs ⊎ Memᴰ (H.head e) vs
  tails_back AllMade.none = inl AllMade.none
  tails_back (AllMade.more {v = v} {vs = vs} a b) = go (ℕ_discrete v (H.head e)) (tails_back b)
    where
      go : Dec (v ≡ H.head e) → AllMade f vs ⊎ Memᴰ (H.head e) vs → AllMade f (v ∷ vs) ⊎ Memᴰ (H.head e) (v ∷ vs)
      go (yes q) x = inr (Memᴰ.head (sym q))
      go (no n) (inl x) = inl (AllMade.more (made_back v n a) x)
      go (no n) (inr i) = inr (Memᴰ.tail i)

  -- what the new label leads to comes after it
  later : (e' : ℕ) → Memᴰ (H.head e) (H.tail e') → Ahead A (g (H.head e)) (candidate A H own g e')
  later e' i = record {
    weight = superior L (own e') (mem-tail_weights g i) (rw s.here (weigh_within L (own e) (tail-weights f (H.tail e))));
    depth = λ _. omega (arith, mem-depth g i);
    edge = λ _ k. absurd (omega (arith, mem-depth g i));
  }

  ahead_new : (v : ℕ) → Made (g v) → Ahead A (g v) (g (H.head e))
  ahead_new v a = go (ℕ_discrete v (H.head e))
    where
      go : Dec (v ≡ H.head e) → Ahead A (g v) (g (H.head e))
      go (yes q) = rw q (ahead_refl L)
      go (no n) = rw (s.elsewhere v n, s.here) (t.ahead v e (made_back v n a) s.open_edge.ready (inl s.open_edge.fresh))

  ahead_old : (v e' : ℕ) → Made (g v) → Ready H f e' → ((g (H.head e')).depth ≡ 0) ⊎ (H.head e' ≡ v) → Ahead A (g v) (candidate A H own f e')
  ahead_old v e' a r due = go (ℕ_discrete v (H.head e)) due
    where
      go : Dec (v ≡ H.head e) → ((g (H.head e')).depth ≡ 0) ⊎ (H.head e' ≡ v) → Ahead A (g v) (candidate A H own f e')
      go (yes q) (inl z) = rw (q, s.here) (s.first e' (record { ready = r; fresh = unmade_back (H.head e') z }))
      go (yes q) (inr p) = rw (q, s.here) (s.first e' (record { ready = r; fresh = rw (p, q) s.open_edge.fresh }))
      go (no n) (inl z) = rw (s.elsewhere v n) (t.ahead v e' (made_back v n a) r (inl (unmade_back (H.head e') z)))
      go (no n) (inr p) = rw (s.elsewhere v n) (t.ahead v e' (made_back v n a) r (inr p))

  named : {v e' : ℕ} → Chosen A H own g v e' → Chosen A H own g v (g v).edge.0
  named {v} c = subst (λ x. Chosen A H own g v x) (sym (ap (λ l. l.edge.0) c.given)) c

  pub turned : Turned A H own g
  turned = record { blank = blank; chosen = chosen; ahead = ahead }
    where
      blank : (v : ℕ) → (g v).depth ≡ 0 → g v ≡ unmade
      blank v z = go (ℕ_discrete v (H.head e))
        where
          go : Dec (v ≡ H.head e) → g v ≡ unmade
          go (yes q) = absurd (omega (arith, ap (λ x. (g x).depth) q, ap (λ l. l.depth) s.here))
          go (no n) = s.elsewhere v n ∙ t.blank v (unmade_back v z)

      chosen : (v : ℕ) → Made (g v) → Chosen A H own g v (g v).edge.0
      chosen v a = go (ℕ_discrete v (H.head e))
        where
          go : Dec (v ≡ H.head e) → Chosen A H own g v (g v).edge.0
          go (yes q) = named (record { ready = ready_kept e s.open_edge.ready; yields = sym q; given = rw q (s.here ∙ sym (candidate-kept e s.open_edge.ready)) })
          go (no n) =
              let c = t.chosen v (made_back v n a) in
              named (record { ready = ready_kept _ c.ready; yields = c.yields; given = s.elsewhere v n ∙ c.given ∙ sym (candidate-kept _ c.ready) })

      ahead : (v e' : ℕ) → Made (g v) → Ready H g e' → ((g (H.head e')).depth ≡ 0) ⊎ (H.head e' ≡ v) → Ahead A (g v) (candidate A H own g e')
      ahead v e' a r due = go (tails_back r.tails)
        where
          go : AllMade f (H.tail e') ⊎ Memᴰ (H.head e) (H.tail e') → Ahead A (g v) (candidate A H own g e')
          go (inr i) = ahead_trans L (ahead_new v a) (later e' i)
          go (inl x) = let q : Ready H f e' = record { stands = r.stands; tails = x } in rw (candidate-kept e' q) (ahead_old v e' a q due)

-- when no edge is open, the labels are the fixpoint
pub finished : {A : Algebra} {H : Hypergraph} {own : ℕ → ℕ} {f : ℕ → Label} → Turned A H own f → ((e : ℕ) → ¬ Open H f e) → Fixpoint A H own f
finished {A} {H} {own} {f} t n = record { blank = t.blank; chosen = t.chosen; made = made; ahead = λ e r. t.ahead (H.head e) e (made e r) r (inr refl) }
  where
    made : (e : ℕ) → Ready H f e → Made (f (H.head e))
    made e r = go (dec_le 1 (f (H.head e)).depth)
      where
        go : Dec (1 ≤ (f (H.head e)).depth) → Made (f (H.head e))
        go (yes p) = record { deep = p }
        go (no k) = absurd (n e (record { ready = r; fresh = omega arith }))

-- the number of depths that are 0
pub gaps : List ℕ → ℕ
gaps [] = 0
gaps (d ∷ ds) = (1 - d) + gaps ds

gaps_length : (ds : List ℕ) → gaps ds ≤ length ds
unfolding gaps
gaps_length [] = omega arith
gaps_length (l ∷ ls) = omega (arith, gaps_length ls)

gaps_set : (ds : List ℕ) (i d : ℕ) → i < length ds → get_or ds i 0 ≡ 0 → 0 < d → gaps (set ds i d) < gaps ds
unfolding gaps
gaps_set [] i l h z p = absurd (omega arith)
gaps_set (x ∷ ls) zero l h z p = omega arith
gaps_set (x ∷ ls) (suc i) l h z p = omega (arith, gaps_set ls i l (omega arith) z p)

gaps_none : (ds : List ℕ) (i : ℕ) → i < length ds → get_or ds i 0 ≡ 0 → 0 < gaps ds
unfolding gaps
gaps_none [] i h z = absurd (omega arith)
gaps_none (x ∷ ls) zero h z = omega arith
gaps_none (x ∷ ls) (suc i) h z = omega (arith, gaps_none ls i (omega arith) z)

pub zeros : (n v : ℕ) → get_or {A = ℕ} (replicate n 0) v 0 ≡ 0
zeros zero v = refl
zeros (suc n) zero = refl
zeros (suc n) (suc v) = zeros n v

pub at_blank : (n v : ℕ) → labels (blank n) v ≡ unmade
at_blank n v = λ i. record { weight = record { 0 = zeros n v i }; depth = zeros n v i; edge = record { 0 = zeros n v i } }

-- no depth of a tail passes what none passes
pub greatest_at_most : (d : ℕ → ℕ) (k : ℕ) → ((v : ℕ) → d v ≤ k) → (vs : List ℕ) → greatest_depth d vs ≤ k
unfolding greatest_depth
greatest_at_most d k h [] = omega arith
greatest_at_most d k h (v ∷ vs) = omega (arith, h v, greatest_at_most d k h vs)

pub sized_put : {n : ℕ} (a : Answers) (v : ℕ) (l : Label) → Sized n a → Sized n (put a v l)
sized_put a v l s =
    record {
      weights =
          length-set a.weights v l.weight.0 ∙ s.weights;
      depths = length-set a.depths v l.depth ∙ s.depths;
      edges = length-set a.edges v l.edge.0 ∙ s.edges;
    }

pub put_here : {n : ℕ} (a : Answers) (v : ℕ) (l : Label) → Sized n a → v < n → labels (put a v l) v ≡ l
put_here a v l s h =
    let p = get_or-set_same a.weights v l.weight.0 0 (rw s.weights h) in
    let q = get_or-set_same a.depths v l.depth 0 (rw s.depths h) in
    let r = get_or-set_same a.edges v l.edge.0 0 (rw s.edges h) in
    λ i. record { weight = record { 0 = p i }; depth = q i; edge = record { 0 = r i } }

pub put_elsewhere : (a : Answers) (v : ℕ) (l : Label) (w : ℕ) → w ≢ v → labels (put a v l) w ≡ labels a w
put_elsewhere a v l w n =
    let p = get_or-set_other a.weights v w l.weight.0 0 n in
    let q = get_or-set_other a.depths v w l.depth 0 n in
    let r = get_or-set_other a.edges v w l.edge.0 0 n in
    λ i. record { weight = record { 0 = p i }; depth = q i; edge = record { 0 = r i } }

module _ (A : Algebra) (H : Hypergraph) (own : ℕ → ℕ) where
  -- what holds after k turns
  pub record After (k : ℕ) (a : Answers) : Type 0 where
    pub size : Sized H.vertices a
    pub turned : Turned A H own (labels a)
    pub shallow : (v : ℕ) → (labels a v).depth ≤ k
    pub progress : (gaps a.depths + k ≤ H.vertices) ⊎ ((e : ℕ) → e < H.edges → ¬ Open H (labels a) e)

module _ {A : Algebra} (L : Lawful A) {H : Hypergraph} (own : ℕ → ℕ) (wf : WellFormed H) where
  after-zero : After A H own 0 (blank H.vertices)
  after-zero = record {
    size = record { weights = length-replicate H.vertices 0; depths = length-replicate H.vertices 0; edges = length-replicate H.vertices 0 };
    turned = record {
      blank = λ v _. at_blank H.vertices v;
      chosen = λ v a. absurd (none v a);
      ahead = λ v e a. absurd (none v a);
    };
    shallow = λ v. omega (arith, zeros H.vertices v);
    progress = inl (omega (arith, gaps_length (replicate H.vertices 0), length-replicate {A = ℕ} H.vertices 0));
  }
    where
      none : (v : ℕ) → ¬ Made (labels (blank H.vertices) v)
      none v a = omega (arith, zeros H.vertices v, a.deep)

  module _ {k : ℕ} {ls : Answers} (a : After A H own k ls) where
    after-found : (e : ℕ) → Open H (labels ls) e
        → ((e' : ℕ) → e' < H.edges → Open H (labels ls) e' → Ahead A (candidate A H own (labels ls) e) (candidate A H own (labels ls) e'))
        → After A H own (suc k) (put ls (H.head e) (candidate A H own (labels ls) e))
    after-found e o first =
        record { size = sized_put ls _ _ a.size; turned = turned L a.turned s; shallow = λ v. shallow v (ℕ_discrete v (H.head e)); progress = go a.progress }
      where
        l : Label
        l = candidate A H own (labels ls) e

        fits : H.head e < H.vertices
        fits = wf.heads e o.ready.stands.numbered

        s : Settled A H own (labels ls) (labels (put ls (H.head e) l)) e
        s = record { open_edge = o; first = λ e' q. first e' q.ready.stands.numbered q; here = put_here ls (H.head e) l a.size fits; elsewhere = λ v n. put_elsewhere ls (H.head e) l v n }

        shallow : (v : ℕ) → Dec (v ≡ H.head e) → (labels (put ls (H.head e) l) v).depth ≤ suc k
        shallow v (yes q) = omega (arith, ap (λ x. (labels (put ls (H.head e) l) x).depth) q, ap (λ x. x.depth) s.here, greatest_at_most (depth_in (labels ls)) k a.shallow (H.tail e))
        shallow v (no n) = omega (arith, ap (λ x. x.depth) (s.elsewhere v n), a.shallow v)

        go : (gaps ls.depths + k ≤ H.vertices) ⊎ ((e : ℕ) → e < H.edges → ¬ Open H (labels ls) e)
            → (gaps (set ls.depths (H.head e) l.depth) + suc k ≤ H.vertices) ⊎ ((e' : ℕ) → e' < H.edges → ¬ Open H (labels (put ls (H.head e) l)) e')
        go (inl h) = inl (omega (arith, gaps_set ls.depths (H.head e) l.depth (rw a.size.depths fits) o.fresh (omega arith)))
        go (inr n) = absurd (n e o.ready.stands.numbered o)

    pub after-place : (o : Offer) → Next A H own (labels ls) H.edges o → After A H own (suc k) (place A H own ls o)
    after-place o (stuck n) = record { size = a.size; turned = a.turned; shallow = λ v. omega (arith, a.shallow v); progress = inr n }
    after-place o (found e p first) = after-found e p first

  pub after : (k : ℕ) → After A H own k (turns A H own k)
  unfolding turns turn
  after zero = after-zero
  after (suc k) = after-place (after k) _ (next_is A H own (labels (turns A H own k)) L H.edges (omega arith))

  ended : {ls : Answers} → After A H own H.vertices ls → (e : ℕ) → ¬ Open H (labels ls) e
  ended {ls} a e o = go a.progress
    where
      go : (gaps ls.depths + H.vertices ≤ H.vertices) ⊎ ((e : ℕ) → e < H.edges → ¬ Open H (labels ls) e) → ⊥
      go (inl h) = omega (arith, gaps_none ls.depths (H.head e) (rw a.size.depths (wf.heads e o.ready.stands.numbered)) o.fresh)
      go (inr n) = n e o.ready.stands.numbered o

  -- the fixpoint exists: best-first finds it
  pub exists : Fixpoint A H own (labels (best_first A H own))
  unfolding best_first
  exists = let a = after H.vertices in finished a.turned (ended a)

  pub exists_sized : Sized H.vertices (best_first A H own)
  unfolding best_first
  exists_sized = (after H.vertices).size

  pub exists_shallow : (v : ℕ) → (labels (best_first A H own) v).depth ≤ H.vertices
  unfolding best_first
  exists_shallow = (after H.vertices).shallow

  pub fixpoint_shallow : {ls : ℕ → Label} → Fixpoint A H own ls → (v : ℕ) → (ls v).depth ≤ H.vertices
  fixpoint_shallow {ls} fix v = rw (unique L ls (labels (best_first A H own)) fix exists v) (exists_shallow v)

  -- three columns that are a fixpoint are best-first's
  pub columns_unique : (a : Answers) → Sized H.vertices a → Fixpoint A H own (labels a) → a ≡ best_first A H own
  columns_unique a s fix =
      let b = best_first A H own in
      let t = exists_sized in
      let u = unique L (labels a) (labels b) fix exists in
      let p : a.weights ≡ b.weights = ext_get_or 0 a.weights b.weights (s.weights ∙ sym t.weights) (λ v _. ap (λ (l : Label). l.weight.0) (u v)) in
      let q : a.depths ≡ b.depths = ext_get_or 0 a.depths b.depths (s.depths ∙ sym t.depths) (λ v _. ap (λ (l : Label). l.depth) (u v)) in
      let r : a.edges ≡ b.edges = ext_get_or 0 a.edges b.edges (s.edges ∙ sym t.edges) (λ v _. ap (λ (l : Label). l.edge.0) (u v)) in
      λ i. record { weights = p i; depths = q i; edges = r i }

-- a made label's weight is in range
pub label_within : {A : Algebra} (L : Lawful A) {H : Hypergraph} {own : ℕ → ℕ} {ls : ℕ → Label} → Fixpoint A H own ls → (v : ℕ) → Made (ls v) → InRange A (ls v).weight.0
label_within {A} L {H} {own} {ls} fix v k =
    let e = (ls v).edge.0 in
    subst (λ (w : ℕ). InRange A w) (sym (ap (λ (l : Label). l.weight.0) (fix.chosen v k).given)) (weigh_within L (own e) (tail-weights ls (H.tail e)))
