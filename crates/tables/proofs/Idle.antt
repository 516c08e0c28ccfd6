-- The own figure of a struck line counts for nothing: whatever it is, best-first gives the same. Document 02, 2026-02: a struck line keeps its figure. Assumes nothing.
use mathlib.Core.Path.{◌≡◌, refl, ap, ap₂}
use mathlib.Core.Bool.{Bool, true, false, not}
use mathlib.Core.List.{List}
use Prim.Native.Nat.{ℕ, zero, suc}
use native.Mathlib.Decide.{ℕ_discrete}
use Rattle.weights.specs.Figures.{is_struck_mark}
use Rattle.weights.specs.Measures.{Algebra}
use Rattle.weights.proofs.Choice.{apart}
use Rattle.provenance.specs.Hypergraph.{Hypergraph}
use Rattle.provenance.specs.Labelling.{weight_in, depth_in, offer_of}
use Rattle.provenance.specs.BestFirst.{labels, earlier, opening, next, turn, turns, best_first}
use Rattle.columns.specs.Columns.{Answers, Columns, own_at, strike_at, with_own}
use Rattle.columns.proofs.Repriced.{own_elsewhere}
use Rattle.tables.specs.Table.{hypergraph}

module _ (A : Algebra) (tail : List ℕ) (w d : ℕ → ℕ) (x : ℕ) where
  offers_alike : (live : Bool) (o o' : ℕ) → (live ≡ true → o ≡ o') → offer_of A live o tail w d x ≡ offer_of A live o' tail w d x
  unfolding offer_of
  offers_alike true o o' f = rw (f refl)
  offers_alike false o o' f = refl

-- own figures that agree wherever a hyperedge is live
module _ (A : Algebra) (H : Hypergraph) (own own' : ℕ → ℕ) (agree : (x : ℕ) → H.live x ≡ true → own x ≡ own' x) where
  opening_alike : (w d : ℕ → ℕ) (x : ℕ) → opening A H own w d x ≡ opening A H own' w d x
  unfolding opening
  opening_alike w d x = rw (offers_alike A (H.tail x) w d x (H.live x) (own x) (own' x) (agree x))

  next_alike : (w d : ℕ → ℕ) (k : ℕ) → next A H own w d k ≡ next A H own' w d k
  unfolding next
  next_alike w d zero = refl
  next_alike w d (suc k) = ap₂ (earlier A) (next_alike w d k) (opening_alike w d k)

  turn_alike : (a : Answers) → turn A H own a ≡ turn A H own' a
  unfolding turn
  turn_alike a = rw (next_alike (weight_in (labels a)) (depth_in (labels a)) H.edges)

  turns_alike : (k : ℕ) → turns A H own k ≡ turns A H own' k
  unfolding turns
  turns_alike zero = refl
  turns_alike (suc k) = rw (turns_alike k, turn_alike (turns A H own' k))

  best_first_alike : best_first A H own ≡ best_first A H own'
  unfolding best_first
  best_first_alike = turns_alike H.vertices

-- line e is struck: the table with any own figure there
module _ (c : Columns) (e w : ℕ) (struck : is_struck_mark (strike_at c e) ≡ true) where
  own_where_live : (x : ℕ) → (hypergraph c).live x ≡ true → own_at (with_own c e w) x ≡ own_at c x
  own_where_live x p = go (ℕ_discrete x e)
    where
      go : Dec (x ≡ e) → own_at (with_own c e w) x ≡ own_at c x
      go (yes q) = let d = ap (hypergraph c).live q in let s = ap not struck in let z : false ≡ true = cc in apart z
      go (no n) = own_elsewhere c e w x n

  pub idle_best_first : (A : Algebra) → best_first A (hypergraph (with_own c e w)) (own_at (with_own c e w)) ≡ best_first A (hypergraph c) (own_at c)
  idle_best_first A = best_first_alike A (hypergraph c) (own_at (with_own c e w)) (own_at c) own_where_live
