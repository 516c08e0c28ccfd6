-- Best-first (document 000, Algorithm 1), as an executable definition over the three answer columns: `vertices` turns from all unmade; a turn takes the first of
-- the candidates of ready hyperedges whose head is unmade, and labels that head with it. This is what contracts equate the answer columns with.
-- And what each of its tests and choices tells. Assumes nothing.
use mathlib.Core.Path.{◌≡◌, refl, sym, subst}
use mathlib.Core.Bool.{Bool, true, false}
use mathlib.Core.List.{List, [], ◌∷◌}
use Prim.Native.Nat.{ℕ, zero, suc, ◌<◌, ◌≤◌}
use native.Mathlib.Omega.{arith}
use native.Mathlib.Decide.{ℕ_discrete}
use lib.Dec.{eqb}
use borrow.Author.Tests.{eqb-true, eqb-false}
use Rattle.weights.specs.declared.Label.{Label}
use Rattle.weights.specs.Measures.{Algebra}
use Rattle.weights.specs.Choice.{pick}
use Rattle.weights.specs.Labels.{ahead_of}
use Rattle.weights.specs.Laws.{Lawful}
use Rattle.weights.specs.Order.{Ahead, Ranked, ahead, behind}
use Rattle.weights.proofs.Order.{ahead_refl, ahead_trans, ranked}
use Rattle.provenance.specs.Hypergraph.{Hypergraph}
use Rattle.provenance.specs.Labelling.{Made, AllMade, weight_in, depth_in, none_zero, offer_of, Ready, candidate}
use Rattle.provenance.specs.BestFirst.{earlier, offer, opening, next}
use Rattle.weights.specs.Offers.{Offer}
use Rattle.std.specs.Prelude.{Some, None}

-- e is ready, and its head is unmade
pub record Open (H : Hypergraph) (ls : ℕ → Label) (e : ℕ) : Type 0 where
  pub ready : Ready H ls e
  pub fresh : (ls (H.head e)).depth ≡ 0

made_head : {ls : ℕ → Label} {v : ℕ} {vs : List ℕ} → AllMade ls (v ∷ vs) → Made (ls v)
made_head (AllMade.more a b) = a

made_tail : {ls : ℕ → Label} {v : ℕ} {vs : List ℕ} → AllMade ls (v ∷ vs) → AllMade ls vs
made_tail (AllMade.more a b) = b

-- what the test of a tail tells
data Tested (ls : ℕ → Label) (vs : List ℕ) : Bool → Type 0 where
  all : AllMade ls vs → Tested ls vs true
  some : ¬ AllMade ls vs → Tested ls vs false

pub not-zero : {n : ℕ} → eqb n 0 ≡ false → 0 < n
not-zero {n} e = let k : ¬ (n ≡ 0) = eqb-false n 0 e in omega arith

tested : (ls : ℕ → Label) (vs : List ℕ) → Tested ls vs (none_zero (depth_in ls) vs)
unfolding none_zero
tested ls [] = all AllMade.none
tested ls (v ∷ vs) = go (eqb (ls v).depth 0) (none_zero (depth_in ls) vs) refl (tested ls vs)
  where
    go : (p q : Bool) → eqb (ls v).depth 0 ≡ p → Tested ls vs q → Tested ls (v ∷ vs) (pick p false q)
    go true q e i = some (λ x. omega (arith, eqb-true (ls v).depth 0 e, (made_head x).deep))
    go false true e (all x) = all (AllMade.more (record { deep = not-zero e }) x)
    go false false e (some n) = some (λ x. n (made_tail x))

module _ (A : Algebra) (H : Hypergraph) (own : ℕ → ℕ) (ls : ℕ → Label) where
  -- what an offer tells
  pub data Offered (e : ℕ) : Offer → Type 0 where
    given : Ready H ls e → Offered e (Some (candidate A H own ls e))
    refused : ¬ Ready H ls e → Offered e None

  pub offered : (e : ℕ) → e < H.edges → Offered e (offer A H own (weight_in ls) (depth_in ls) e)
  unfolding offer_of
  offered e h = go (H.live e) (none_zero (depth_in ls) (H.tail e)) refl (tested ls (H.tail e))
    where
      go : (p q : Bool) → H.live e ≡ p → Tested ls (H.tail e) q → Offered e (pick p (pick q (Some (candidate A H own ls e)) None) None)
      go false q p i = refused (λ r. let z : ◌≡◌ {A = ℕ} 0 1 = let y = r.stands.unstruck in cc in omega arith)
      go true true p (all x) = given (record { stands = record { numbered = h; unstruck = p }; tails = x })
      go true false p (some n) = refused (λ r. n r.tails)

  data Opened (e : ℕ) : Offer → Type 0 where
    given : Open H ls e → Opened e (Some (candidate A H own ls e))
    refused : ¬ Open H ls e → Opened e None

  opened : (e : ℕ) → e < H.edges → Opened e (opening A H own (weight_in ls) (depth_in ls) e)
  unfolding opening
  opened e h = go (eqb (ls (H.head e)).depth 0) (offer A H own (weight_in ls) (depth_in ls) e) refl (offered e h)
    where
      go : (p : Bool) (o : Offer) → eqb (ls (H.head e)).depth 0 ≡ p → Offered e o → Opened e (pick p o None)
      go true o p (Offered.given r) = Opened.given (record { ready = r; fresh = eqb-true _ _ p })
      go true o p (Offered.refused n) = Opened.refused (λ q. n q.ready)
      go false o p r = Opened.refused (λ q. eqb-false _ _ p q.fresh)

  -- what the first of the open hyperedges below k tells
  pub data Next (k : ℕ) : Offer → Type 0 where
    stuck : ((e : ℕ) → e < k → ¬ Open H ls e) → Next k None
    found : (e : ℕ) → Open H ls e → ((e' : ℕ) → e' < k → Open H ls e' → Ahead A (candidate A H own ls e) (candidate A H own ls e')) → Next k (Some (candidate A H own ls e))

  below : (k : ℕ) {P : ℕ → Type 0} → ((e : ℕ) → e < k → P e) → P k → (e : ℕ) → e < suc k → P e
  below k {P} f p e h = go (ℕ_discrete e k)
    where
      go : Dec (e ≡ k) → P e
      go (yes q) = subst P (sym q) p
      go (no n) = f e (omega arith)

  module _ (L : Lawful A) where
    extend : (k : ℕ) {o o' : Offer} → Next k o → Opened k o' → Next (suc k) (earlier A o o')
    extend k (stuck n) (Opened.refused c) = stuck (below k n c)
    extend k (stuck n) (Opened.given o) = found k o (below k (λ e h q. absurd (n e h q)) (λ _. ahead_refl L))
    extend k (found e o a) (Opened.refused c) = found e o (below k a (λ q. absurd (c q)))
    extend k (found e o a) (Opened.given o') = go (ahead_of A (candidate A H own ls e) (candidate A H own ls k)) (ranked L (candidate A H own ls e) (candidate A H own ls k))
      where
        go : (b : Bool) → Ranked A (candidate A H own ls e) (candidate A H own ls k) b → Next (suc k) (pick b (Some (candidate A H own ls e)) (Some (candidate A H own ls k)))
        go true (ahead p) = found e o (below k a (λ _. p))
        go false (behind n p) = found k o' (below k (λ e' h q. ahead_trans L p (a e' h q)) (λ _. ahead_refl L))

    pub next_is : (k : ℕ) → k ≤ H.edges → Next k (next A H own (weight_in ls) (depth_in ls) k)
    unfolding next
    next_is zero h = stuck (λ e k. absurd (omega arith))
    next_is (suc k) h = extend k (next_is k (omega arith)) (opened k h)
