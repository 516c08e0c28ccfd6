-- One walk up the vertices of a hypergraph in topological order labels them as best-first does, in every lawful algebra: the labels below v are final after v steps, since
-- a tail lies below its head, so what the walk leaves is the fixpoint. Assumes nothing.
use mathlib.Core.Path.{◌≡◌, refl, sym, ◌∙◌, ap, subst}
use mathlib.Core.Logic.{◌≢◌}
use mathlib.Core.Bool.{Bool, true, false}
use mathlib.Core.List.{List, [], ◌∷◌, Memᴰ}
use Prim.Native.Nat.{ℕ, zero, suc, ◌+◌, ◌≤◌, ◌<◌}
use native.Mathlib.Omega.{arith}
use native.Mathlib.Decide.{ℕ_discrete, dec_le}
use lib.ListN.{length-replicate}
use lib.Dec.{eqb}
use borrow.Author.Tests.{eqb-true, eqb-false}
use Rattle.weights.specs.declared.Label.{Label}
use Rattle.weights.specs.Measures.{Algebra, weigh}
use Rattle.weights.specs.Choice.{pick}
use Rattle.weights.specs.Labels.{unmade, ahead_of}
use Rattle.weights.specs.Laws.{Lawful}
use Rattle.weights.specs.Order.{Ahead, Ranked, ahead, behind}
use Rattle.weights.proofs.Order.{ahead_refl, ahead_trans, ranked}
use Rattle.columns.specs.Columns.{Answers, Sized}
use Rattle.provenance.specs.Hypergraph.{Hypergraph, WellFormed}
use Rattle.provenance.specs.Labelling.{Made, AllMade, weight_in, depth_in, each, greatest_depth, tail-weights, deepest_in, Ready, candidate, Chosen}
use Rattle.provenance.specs.BestFirst.{labels, put, blank, place, earlier, offer, best_first}
use Rattle.provenance.specs.InOrder.{InOrder, offer_to, first, walk, in_order}
use Rattle.provenance.proofs.BestFirst.{Offered, offered}
use Rattle.provenance.proofs.Existence.{zeros, at_blank, sized_put, put_here, put_elsewhere, columns_unique}
use Rattle.weights.specs.Offers.{Offer}
use Rattle.std.specs.Prelude.{Some, None}

-- What `first` tells

module _ (A : Algebra) (H : Hypergraph) (own : ℕ → ℕ) (ls : ℕ → Label) (v : ℕ) where
  -- e is ready, and v is its head
  pub record Due (e : ℕ) : Type 0 where
    pub ready : Ready H ls e
    pub yields : H.head e ≡ v

  data Told (e : ℕ) : Offer → Type 0 where
    given : Due e → Told e (Some (candidate A H own ls e))
    refused : ¬ Due e → Told e None

  told : (e : ℕ) → e < H.edges → Told e (offer_to A H own (weight_in ls) (depth_in ls) v e)
  unfolding offer_to
  told e h = go (eqb (H.head e) v) (offer A H own (weight_in ls) (depth_in ls) e) refl (offered A H own ls e h)
    where
      go : (p : Bool) (o : Offer) → eqb (H.head e) v ≡ p → Offered A H own ls e o → Told e (pick p o None)
      go true o p (Offered.given r) = Told.given (record { ready = r; yields = eqb-true _ _ p })
      go true o p (Offered.refused n) = Told.refused (λ q. n q.ready)
      go false o p r = Told.refused (λ q. eqb-false _ _ p q.yields)

  pub data First (k : ℕ) : Offer → Type 0 where
    none : ((e : ℕ) → e < k → ¬ Due e) → First k None
    found : (e : ℕ) → Due e → ((e' : ℕ) → e' < k → Due e' → Ahead A (candidate A H own ls e) (candidate A H own ls e')) → First k (Some (candidate A H own ls e))

  below : (k : ℕ) {P : ℕ → Type 0} → ((e : ℕ) → e < k → P e) → P k → (e : ℕ) → e < suc k → P e
  below k {P} f p e h = go (ℕ_discrete e k)
    where
      go : Dec (e ≡ k) → P e
      go (yes q) = subst P (sym q) p
      go (no n) = f e (omega arith)

  module _ (L : Lawful A) where
    extend : (k : ℕ) {o o' : Offer} → First k o → Told k o' → First (suc k) (earlier A o o')
    extend k (none n) (Told.refused c) = none (below k n c)
    extend k (none n) (Told.given o) = found k o (below k (λ e h q. absurd (n e h q)) (λ _. ahead_refl L))
    extend k (found e o a) (Told.refused c) = found e o (below k a (λ q. absurd (c q)))
    extend k (found e o a) (Told.given o') = go (ahead_of A (candidate A H own ls e) (candidate A H own ls k)) (ranked L (candidate A H own ls e) (candidate A H own ls k))
      where
        go : (b : Bool) → Ranked A (candidate A H own ls e) (candidate A H own ls k) b → First (suc k) (pick b (Some (candidate A H own ls e)) (Some (candidate A H own ls k)))
        go true (ahead p) = found e o (below k a (λ _. p))
        go false (behind n p) = found k o' (below k (λ e' h q. ahead_trans L p (a e' h q)) (λ _. ahead_refl L))

    pub first_is : (k : ℕ) → k ≤ H.edges → First k (first A H own (weight_in ls) (depth_in ls) v k)
    unfolding first
    first_is zero h = none (λ e k. absurd (omega arith))
    first_is (suc k) h = extend k (first_is k (omega arith)) (told k h)

-- Labels that differ at v alone

record Tail (f g : ℕ → Label) (vs : List ℕ) : Type 0 where
  made : AllMade g vs → AllMade f vs
  back : AllMade f vs → AllMade g vs
  weight : tail-weights g vs ≡ tail-weights f vs
  depth : deepest_in g vs ≡ deepest_in f vs

tail_made : {f : ℕ → Label} {v : ℕ} {vs : List ℕ} → AllMade f (v ∷ vs) → AllMade f vs
tail_made (AllMade.more a b) = b

head_made : {f : ℕ → Label} {v : ℕ} {vs : List ℕ} → AllMade f (v ∷ vs) → Made (f v)
head_made (AllMade.more a b) = a

tail_same : {f g : ℕ → Label} (vs : List ℕ) → ((u : ℕ) → Memᴰ u vs → g u ≡ f u) → Tail f g vs
unfolding each greatest_depth
tail_same [] s = record { made = λ _. AllMade.none; back = λ _. AllMade.none; weight = refl; depth = refl }
tail_same {f} {g} (u ∷ us) s =
    let r = tail_same {f = f} {g = g} us (λ x i. s x (Memᴰ.tail i)) in
    let e = s u (Memᴰ.head refl) in
    record {
      made = λ m. AllMade.more {v = u} (rw e at (head_made m)) (r.made (tail_made m));
      back = λ m. AllMade.more {v = u} (rw e (head_made m)) (r.back (tail_made m));
      weight = cc;
      depth = cc;
    }

module _ (A : Algebra) (H : Hypergraph) (own : ℕ → ℕ) where
  -- the labels of the vertices below v are final, and the others are unmade
  record Walked (v : ℕ) (f : ℕ → Label) : Type 0 where
    later : (u : ℕ) → v ≤ u → f u ≡ unmade
    blank : (u : ℕ) → (f u).depth ≡ 0 → f u ≡ unmade
    chosen : (u : ℕ) → Made (f u) → Chosen A H own f u (f u).edge.0
    made : (e : ℕ) → H.head e < v → Ready H f e → Made (f (H.head e))
    ahead : (e : ℕ) → H.head e < v → Ready H f e → Ahead A (f (H.head e)) (candidate A H own f e)

module _ {A : Algebra} {H : Hypergraph} {own : ℕ → ℕ} (L : Lawful A) (ord : InOrder H)
    {f g : ℕ → Label} {v : ℕ} (w : Walked A H own v f) (away : (u : ℕ) → u ≢ v → g u ≡ f u) where
  same : (e : ℕ) → e < H.edges → H.head e ≤ v → Tail f g (H.tail e)
  same e n h = tail_same (H.tail e) (λ u i. away u (omega (arith, ord.below e n u i)))

  ready_back : (e : ℕ) → H.head e ≤ v → Ready H g e → Ready H f e
  ready_back e h r = record { stands = r.stands; tails = (same e r.stands.numbered h).made r.tails }

  ready_on : (e : ℕ) → H.head e ≤ v → Ready H f e → Ready H g e
  ready_on e h r = record { stands = r.stands; tails = (same e r.stands.numbered h).back r.tails }

  candidate_same : (e : ℕ) → e < H.edges → H.head e ≤ v → candidate A H own g e ≡ candidate A H own f e
  candidate_same e n h = let k = same e n h in λ i. record { weight = record { 0 = weigh A (own e) (k.weight i) }; depth = k.depth i + 1; edge = record { 0 = e } }

  unmade_here : (f v).depth ≡ 0
  unmade_here = ap (λ (l : Label). l.depth) (w.later v (omega arith))

  -- what holds of the vertices below v stays
  chosen_on : (u : ℕ) → u ≢ v → Made (g u) → Chosen A H own g u (g u).edge.0
  chosen_on u n a =
      let q = away u n in
      let m : Made (f u) = rw q at a in
      let c = w.chosen u m in
      let low : u < v = before u m (dec_le v u) in
      let h : H.head (f u).edge.0 ≤ v = omega (arith, c.yields) in
      subst (λ (x : ℕ). Chosen A H own g u x) (sym (ap (λ (l : Label). l.edge.0) q))
      (record { ready = ready_on _ h c.ready; yields = c.yields; given = q ∙ c.given ∙ sym (candidate_same _ c.ready.stands.numbered h) })
    where
      before : (u : ℕ) → Made (f u) → Dec (v ≤ u) → u < v
      before u m (yes h) = absurd (omega (arith, m.deep, ap (λ (l : Label). l.depth) (w.later u h)))
      before u m (no k) = omega arith

  made_on : (e : ℕ) → H.head e < v → Ready H g e → Made (g (H.head e))
  made_on e h r = rw (away (H.head e) (omega arith)) (w.made e h (ready_back e (omega arith) r))

  ahead_on : (e : ℕ) → H.head e < v → Ready H g e → Ahead A (g (H.head e)) (candidate A H own g e)
  ahead_on e h r = rw (away (H.head e) (omega arith), candidate_same e r.stands.numbered (omega arith)) (w.ahead e h (ready_back e (omega arith) r))

  -- nothing is offered to v
  stays : g v ≡ f v → ((e : ℕ) → e < H.edges → ¬ Due A H own f v e) → Walked A H own (suc v) g
  stays here n = record {
    later = λ u h. away u (omega arith) ∙ w.later u (omega arith);
    blank = λ u z. all u (ℕ_discrete u v) ∙ w.blank u (ap (λ (l : Label). l.depth) (sym (all u (ℕ_discrete u v))) ∙ z);
    chosen = λ u a. at u (ℕ_discrete u v) a;
    made = λ e h r. go e h r (ℕ_discrete (H.head e) v) (λ k. made_on e k r);
    ahead = λ e h r. go e h r (ℕ_discrete (H.head e) v) (λ k. ahead_on e k r);
  }
    where
      all : (u : ℕ) → Dec (u ≡ v) → g u ≡ f u
      all u (yes q) = rw q here
      all u (no k) = away u k

      at : (u : ℕ) → Dec (u ≡ v) → Made (g u) → Chosen A H own g u (g u).edge.0
      at u (yes q) a = absurd (omega (arith, a.deep, ap (λ (x : ℕ). (g x).depth) q, ap (λ (l : Label). l.depth) here, unmade_here))
      at u (no k) a = chosen_on u k a

      go : (e : ℕ) → H.head e < suc v → Ready H g e → Dec (H.head e ≡ v) → {P : Type 0} → (H.head e < v → P) → P
      go e h r (yes q) k = absurd (n e r.stands.numbered (record { ready = ready_back e (omega arith) r; yields = q }))
      go e h r (no m) k = k (omega arith)

  -- v gets the first of what is offered
  labelled : (x : ℕ) → Due A H own f v x → ((e : ℕ) → e < H.edges → Due A H own f v e → Ahead A (candidate A H own f x) (candidate A H own f e))
      → g v ≡ candidate A H own f x → Walked A H own (suc v) g
  labelled x due least here = record {
    later = λ u h. away u (omega arith) ∙ w.later u (omega arith);
    blank = λ u z. blank u (ℕ_discrete u v) z;
    chosen = λ u a. at u (ℕ_discrete u v) a;
    made = λ e h r. made e h r (ℕ_discrete (H.head e) v);
    ahead = λ e h r. ahead_at e h r (ℕ_discrete (H.head e) v);
  }
    where
      mine : candidate A H own g x ≡ candidate A H own f x
      mine = candidate_same x due.ready.stands.numbered (omega (arith, due.yields))

      deep : 0 < (g v).depth
      deep = omega (arith, ap (λ (l : Label). l.depth) here)

      blank : (u : ℕ) → Dec (u ≡ v) → (g u).depth ≡ 0 → g u ≡ unmade
      blank u (yes q) z = absurd (omega (arith, deep, ap (λ (y : ℕ). (g y).depth) q))
      blank u (no k) z = away u k ∙ w.blank u (ap (λ (l : Label). l.depth) (sym (away u k)) ∙ z)

      at : (u : ℕ) → Dec (u ≡ v) → Made (g u) → Chosen A H own g u (g u).edge.0
      at u (yes q) a = subst (λ (y : ℕ). Chosen A H own g y (g y).edge.0) (sym q)
          (subst (λ (y : ℕ). Chosen A H own g v y) (sym (ap (λ (l : Label). l.edge.0) here))
          (record { ready = ready_on x (omega (arith, due.yields)) due.ready; yields = due.yields; given = here ∙ sym mine }))
      at u (no k) a = chosen_on u k a

      made : (e : ℕ) → H.head e < suc v → Ready H g e → Dec (H.head e ≡ v) → Made (g (H.head e))
      made e h r (yes q) = rw q (record { deep = deep })
      made e h r (no k) = made_on e (omega arith) r

      ahead_at : (e : ℕ) → H.head e < suc v → Ready H g e → Dec (H.head e ≡ v) → Ahead A (g (H.head e)) (candidate A H own g e)
      ahead_at e h r (yes q) =
          let l : H.head e ≤ v = omega arith in
          rw (q, here, candidate_same e r.stands.numbered l) (least e r.stands.numbered (record { ready = ready_back e l r; yields = q }))
      ahead_at e h r (no k) = ahead_on e (omega arith) r

-- The walk

module _ (A : Algebra) (H : Hypergraph) (own : ℕ → ℕ) where
  record Going (v : ℕ) (a : Answers) : Type 0 where
    size : Sized H.vertices a
    walked : Walked A H own v (labels a)

module _ {A : Algebra} (L : Lawful A) {H : Hypergraph} (own : ℕ → ℕ) (wf : WellFormed H) (ord : InOrder H) where
  begin : Going A H own 0 (blank H.vertices)
  begin = record {
    size = record { weights = length-replicate H.vertices 0; depths = length-replicate H.vertices 0; edges = length-replicate H.vertices 0 };
    walked = record {
      later = λ u _. at_blank H.vertices u;
      blank = λ u _. at_blank H.vertices u;
      chosen = λ u a. absurd (omega (arith, a.deep, zeros H.vertices u));
      made = λ e h. absurd (omega arith);
      ahead = λ e h. absurd (omega arith);
    };
  }

  onward : {v : ℕ} {a : Answers} → v < H.vertices → Going A H own v a → (o : Offer) → First A H own (labels a) v H.edges o → Going A H own (suc v) (place A H own a o)
  onward {v} {a} h g o (none n) = record { size = g.size; walked = stays L ord g.walked (λ u _. refl) refl n }
  onward {v} {a} h g o (found x due least) =
      let l : Label = candidate A H own (labels a) x in
      let fits : H.head x < H.vertices = wf.heads x due.ready.stands.numbered in
      let here : labels (put a (H.head x) l) (H.head x) ≡ l = put_here a (H.head x) l g.size fits in
      let q = due.yields in
      record {
        size = sized_put a (H.head x) l g.size;
        walked = labelled L ord g.walked (λ u n. put_elsewhere a (H.head x) l u (λ e. n (e ∙ q))) x due least (subst (λ (y : ℕ). labels (put a (H.head x) l) y ≡ l) q here);
      }

  going : (v : ℕ) → v ≤ H.vertices → Going A H own v (walk A H own v)
  unfolding walk
  going zero h = begin
  going (suc v) h = onward h (going v (omega arith)) _ (first_is A H own (labels (walk A H own v)) v L H.edges (omega arith))

  -- one walk up the vertices leaves what best-first does
  pub in_order-best_first : in_order A H own ≡ best_first A H own
  unfolding in_order
  in_order-best_first =
      let g = going H.vertices (omega arith) in
      let w = g.walked in
      columns_unique L own wf (walk A H own H.vertices) g.size (record {
        blank = w.blank;
        chosen = w.chosen;
        made = λ e r. w.made e (wf.heads e r.stands.numbered) r;
        ahead = λ e r. w.ahead e (wf.heads e r.stands.numbered) r;
      })
