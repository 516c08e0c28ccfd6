-- The local test of a labelling: one test for each vertex (its label is blank, or what its own hyperedge offers) and one for each hyperedge (its head's label does
-- not come after its offer). All pass exactly if the labelling is the fixpoint. This is how answers are checked without settling. Assumes nothing.
use mathlib.Core.Path.{◌≡◌, refl, sym, ◌∙◌, ap, ap₂}
use mathlib.Core.Bool.{Bool, true, false}
use mathlib.Core.Logic.{◌⊎◌, inl, inr, ⊎_elim}
use Prim.Native.Nat.{ℕ, zero, suc, ◌+◌, ◌<◌, ◌≤◌}
use native.Mathlib.Numerals.{add-one}
use native.Mathlib.Omega.{arith}
use native.Mathlib.Decide.{dec_le, ℕ_discrete}
use lib.ListN.{get_or-eq_default}
use lib.Dec.{ltb, eqb}
use borrow.Author.Tests.{ltb-true, ltb-false, eqb-true, eqb-false}
use Rattle.weights.specs.declared.Label.{Label}
use Rattle.weights.specs.Measures.{Algebra}
use Rattle.weights.specs.Choice.{pick}
use Rattle.weights.proofs.Choice.{apart, both_true, both_false, pick-false}
use Rattle.weights.specs.Labels.{unmade}
use Rattle.weights.specs.Laws.{Lawful}
use Rattle.weights.specs.Order.{Ahead, Ranked}
use Rattle.weights.proofs.Order.{ranked}
use Rattle.provenance.specs.Hypergraph.{Hypergraph, WellFormed}
use Rattle.provenance.specs.Labelling.{Made, weight_in, depth_in, Ready, candidate, Chosen, Fixpoint}
use Rattle.columns.specs.Columns.{Answers, Sized}
use Rattle.provenance.specs.BestFirst.{labels, offer, best_first}
use Rattle.provenance.proofs.BestFirst.{Offered, offered}
use Rattle.provenance.proofs.Existence.{exists, columns_unique}
use Rattle.provenance.specs.Local.{every, gives, keeps_up, vertex_right, edge_right}
use Rattle.weights.specs.Offers.{Offer}

not-blank : {l : Label} → Made l → ¬ (l.depth ≡ 0)
not-blank a z = omega (arith, a.deep)

-- laws of `every`
pub every_more : (p : ℕ → Bool) (i : ℕ) → p i ≡ true → every p i ≡ true → every p (i + 1) ≡ true
unfolding every
every_more p i h k = rw (add-one i, h, k)

-- the last of n + 1, or one before it
last_or : (i n : ℕ) → i < suc n → (i ≡ n) ⊎ (i < n)
last_or i n h = go (ℕ_discrete i n)
  where
    go : Dec (i ≡ n) → (i ≡ n) ⊎ (i < n)
    go (yes e) = inl e
    go (no k) = inr (omega arith)

pub every_stop : (p : ℕ → Bool) (i n : ℕ) → i < n → p i ≡ false → every p n ≡ false
unfolding every
every_stop p i zero h q = absurd (omega arith)
every_stop p i (suc n) h q =
    ⊎_elim
    (λ e. let z : p n ≡ false = sym (ap p e) ∙ q in rw z)
    (λ k. rw (every_stop p i n k q) (pick-false (p n)))
    (last_or i n h)

pub every_at : (p : ℕ → Bool) (n : ℕ) → every p n ≡ true → (i : ℕ) → i < n → p i ≡ true
unfolding every
every_at p zero q i h = absurd (omega arith)
every_at p (suc n) q i h =
    let t = both_true {a = p n} {b = every p n} q in
    ⊎_elim (λ e. ap p e ∙ t.0) (λ k. every_at p n t.1 i k) (last_or i n h)

pub every-not : (p : ℕ → Bool) (n : ℕ) → every p n ≡ false → (A : Type 0) → ((i : ℕ) → i < n → p i ≡ false → A) → A
unfolding every
every-not p zero q A f = apart (sym q)
every-not p (suc n) q A f = ⊎_elim (λ e. f n (omega arith) e) (λ e. every-not p n e A (λ i h. f i (omega arith))) (both_false {a = p n} {b = every p n} q)

pub every_same : (p q : ℕ → Bool) (n : ℕ) → ((i : ℕ) → i < n → p i ≡ q i) → every p n ≡ every q n
unfolding every
every_same p q zero f = refl
every_same p q (suc n) f = ap₂ (λ (a b : Bool). pick a b false) (f n (omega arith)) (every_same p q n (λ i h. f i (omega arith)))

module _ (A : Algebra) (H : Hypergraph) (own : ℕ → ℕ) (ls : ℕ → Label) where
  -- what the test of a vertex tells
  pub record Right (v : ℕ) : Type 0 where
    pub blank : (ls v).depth ≡ 0 → ls v ≡ unmade
    pub chosen : Made (ls v) → Chosen A H own ls v (ls v).edge.0

  pub data VertexIs (v : ℕ) : Bool → Type 0 where
    right : Right v → VertexIs v true
    wrong : ¬ Fixpoint A H own ls → VertexIs v false

  blank_is : (v : ℕ) → (ls v).depth ≡ 0 → (p q : Bool) → eqb (ls v).weight.0 0 ≡ p → eqb (ls v).edge.0 0 ≡ q → VertexIs v (pick p q false)
  blank_is v d true true p q =
      let w = eqb-true _ _ p in
      let e = eqb-true _ _ q in
      right (record { blank = λ _ i. record { weight = record { 0 = w i }; depth = d i; edge = record { 0 = e i } }; chosen = λ a. absurd (omega (arith, a.deep)) })
  blank_is v d true false p q = wrong (λ fix. eqb-false _ _ q (ap (λ (l : Label). l.edge.0) (fix.blank v d)))
  blank_is v d false r p q = wrong (λ fix. eqb-false _ _ p (ap (λ (l : Label). l.weight.0) (fix.blank v d)))

  given_is : (v : ℕ) → Made (ls v) → H.head (ls v).edge.0 ≡ v → {o : Offer} → Offered A H own ls (ls v).edge.0 o → VertexIs v (gives o (ls v).weight.0 (ls v).depth)
  given_is v a h (Offered.refused n) = wrong (λ fix. n (fix.chosen v a).ready)
  given_is v a h (Offered.given r) = go (eqb c.weight.0 (ls v).weight.0) (eqb c.depth (ls v).depth) refl refl
    where
      c : Label
      c = candidate A H own ls (ls v).edge.0

      go : (p q : Bool) → eqb c.weight.0 (ls v).weight.0 ≡ p → eqb c.depth (ls v).depth ≡ q → VertexIs v (pick p q false)
      go true true p q =
          let w = eqb-true _ _ p in
          let d = eqb-true _ _ q in
          right
          (record {
            blank =
                λ z. absurd (not-blank a z);
            chosen =
                λ _. record { ready = r; yields = h; given = sym (λ i. record { weight = record { 0 = w i }; depth = d i; edge = record { 0 = (ls v).edge.0 } }) };
          })
      go true false p q = wrong (λ fix. eqb-false _ _ q (sym (ap (λ (l : Label). l.depth) (fix.chosen v a).given)))
      go false x p q = wrong (λ fix. eqb-false _ _ p (sym (ap (λ (l : Label). l.weight.0) (fix.chosen v a).given)))

  made_is_right : (v : ℕ) → Made (ls v) → (p q : Bool) → ltb (ls v).edge.0 H.edges ≡ p → eqb (H.head (ls v).edge.0) v ≡ q
      → VertexIs v (pick p (pick q (gives (offer A H own (weight_in ls) (depth_in ls) (ls v).edge.0) (ls v).weight.0 (ls v).depth) false) false)
  made_is_right v a true true p q = given_is v a (eqb-true _ _ q) (offered A H own ls (ls v).edge.0 (ltb-true _ _ p))
  made_is_right v a true false p q = wrong (λ fix. eqb-false _ _ q (fix.chosen v a).yields)
  made_is_right v a false x p q = let k : H.edges ≤ (ls v).edge.0 = ltb-false _ _ p in wrong (λ fix. omega (arith, (fix.chosen v a).ready.stands.numbered))

  pub vertex_is : (v : ℕ) → VertexIs v (vertex_right A H own ls v)
  unfolding vertex_right
  vertex_is v = go (eqb (ls v).depth 0) refl
    where
      go : (p : Bool) → eqb (ls v).depth 0 ≡ p
          → VertexIs v
          (pick p (pick (eqb (ls v).weight.0 0) (eqb (ls v).edge.0 0) false)
          (pick (ltb (ls v).edge.0 H.edges)
          (pick (eqb (H.head (ls v).edge.0) v) (gives (offer A H own (weight_in ls) (depth_in ls) (ls v).edge.0) (ls v).weight.0 (ls v).depth) false)
          false))
      go true p = blank_is v (eqb-true _ _ p) _ _ refl refl
      go false p = let n : ¬ ((ls v).depth ≡ 0) = eqb-false _ _ p in made_is_right v (record { deep = omega arith }) _ _ refl refl

  -- what the test of a hyperedge tells
  pub record Kept (e : ℕ) : Type 0 where
    pub made : Ready H ls e → Made (ls (H.head e))
    pub ahead : Ready H ls e → Ahead A (ls (H.head e)) (candidate A H own ls e)

  pub data EdgeIs (e : ℕ) : Bool → Type 0 where
    right : Kept e → EdgeIs e true
    wrong : ¬ Fixpoint A H own ls → EdgeIs e false

  pub edge_is : Lawful A → (e : ℕ) → e < H.edges → EdgeIs e (edge_right A H own ls e)
  unfolding edge_right
  edge_is L e h = go (offer A H own (weight_in ls) (depth_in ls) e) (offered A H own ls e h)
    where
      compared : Ready H ls e → (p q : Bool) → eqb (ls (H.head e)).depth 0 ≡ p → Ranked A (ls (H.head e)) (candidate A H own ls e) q → EdgeIs e (pick p false q)
      compared r true q p t = EdgeIs.wrong (λ fix. omega (arith, eqb-true (ls (H.head e)).depth 0 p, (fix.made e r).deep))
      compared r false true p (Ranked.ahead a) = let n : ¬ ((ls (H.head e)).depth ≡ 0) = eqb-false _ _ p in EdgeIs.right (record { made = λ _. record { deep = omega arith }; ahead = λ _. a })
      compared r false false p (Ranked.behind n a) = EdgeIs.wrong (λ fix. n (fix.ahead e r))

      go : (o : Offer) → Offered A H own ls e o → EdgeIs e (keeps_up A (ls (H.head e)) o)
      go o (Offered.refused n) = EdgeIs.right (record { made = λ r. absurd (n r); ahead = λ r. absurd (n r) })
      go o (Offered.given r) = compared r _ _ refl (ranked L (ls (H.head e)) (candidate A H own ls e))

  right_of : {v : ℕ} {b : Bool} → VertexIs v b → b ≡ true → Right v
  right_of (VertexIs.right r) e = r
  right_of (VertexIs.wrong n) e = let z : ◌≡◌ {A = ℕ} 0 1 = cc in absurd (omega arith)

  kept_of : {e : ℕ} {b : Bool} → EdgeIs e b → b ≡ true → Kept e
  kept_of (EdgeIs.right r) e = r
  kept_of (EdgeIs.wrong n) e = let z : ◌≡◌ {A = ℕ} 0 1 = cc in absurd (omega arith)

  pub vertex_wrong : {v : ℕ} {b : Bool} → VertexIs v b → b ≡ false → ¬ Fixpoint A H own ls
  vertex_wrong (VertexIs.right r) e = let z : ◌≡◌ {A = ℕ} 0 1 = cc in absurd (omega arith)
  vertex_wrong (VertexIs.wrong n) e = n

  pub edge-wrong : {e : ℕ} {b : Bool} → EdgeIs e b → b ≡ false → ¬ Fixpoint A H own ls
  edge-wrong (EdgeIs.right r) e = let z : ◌≡◌ {A = ℕ} 0 1 = cc in absurd (omega arith)
  edge-wrong (EdgeIs.wrong n) e = n

module _ {A : Algebra} (L : Lawful A) (H : Hypergraph) (own : ℕ → ℕ) (a : Answers) (s : Sized H.vertices a) where
  -- past the columns' ends every label is blank
  beyond : (v : ℕ) → H.vertices ≤ v → labels a v ≡ unmade
  beyond v h =
      let p = get_or-eq_default a.weights 0 {n = v} (omega (arith, s.weights)) in
      let q = get_or-eq_default a.depths 0 {n = v} (omega (arith, s.depths)) in
      let r = get_or-eq_default a.edges 0 {n = v} (omega (arith, s.edges)) in
      λ i. record { weight = record { 0 = p i }; depth = q i; edge = record { 0 = r i } }

  -- where every test passes, the columns are best-first's
  pub all_right_lem : WellFormed H → every (vertex_right A H own (labels a)) H.vertices ≡ true → every (edge_right A H own (labels a)) H.edges ≡ true → a ≡ best_first A H own
  all_right_lem wf vs es = columns_unique L own wf a s (record {
    blank = λ v. blank v (dec_le H.vertices v);
    chosen = λ v. chosen v (dec_le H.vertices v);
    made = λ e r. (kept e r).made r;
    ahead = λ e r. (kept e r).ahead r;
  })
    where
      at : (v : ℕ) → ¬ (H.vertices ≤ v) → Right A H own (labels a) v
      at v n = right_of A H own (labels a) (vertex_is A H own (labels a) v) (every_at _ _ vs v (omega arith))

      blank : (v : ℕ) → Dec (H.vertices ≤ v) → (labels a v).depth ≡ 0 → labels a v ≡ unmade
      blank v (yes h) z = beyond v h
      blank v (no n) z = (at v n).blank z

      chosen : (v : ℕ) → Dec (H.vertices ≤ v) → Made (labels a v) → Chosen A H own (labels a) v (labels a v).edge.0
      chosen v (yes h) x = absurd (omega (arith, x.deep, ap (λ (l : Label). l.depth) (beyond v h)))
      chosen v (no n) x = (at v n).chosen x

      kept : (e : ℕ) → Ready H (labels a) e → Kept A H own (labels a) e
      kept e r = kept_of A H own (labels a) (edge_is A H own (labels a) L e r.stands.numbered) (every_at _ _ es e r.stands.numbered)

  -- where one fails, they are not
  pub not_fixpoint : WellFormed H → ¬ Fixpoint A H own (labels a) → ¬ (a ≡ best_first A H own)
  not_fixpoint wf n e = n (rw e (exists L own wf))

  pub vertex_fails : every (vertex_right A H own (labels a)) H.vertices ≡ false → ¬ Fixpoint A H own (labels a)
  vertex_fails q = every-not _ _ q _ (λ v h p. vertex_wrong A H own (labels a) (vertex_is A H own (labels a) v) p)

  pub edge_fails : every (edge_right A H own (labels a)) H.edges ≡ false → ¬ Fixpoint A H own (labels a)
  edge_fails q = every-not _ _ q _ (λ e h p. edge-wrong A H own (labels a) (edge_is A H own (labels a) L e h) p)
