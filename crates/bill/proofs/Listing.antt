-- Counts of a make-up: its nodes, and how often a line stands in it. Its listing has as many lines, and each as often; and its grade is the least own figure along
-- it. Assumes nothing.
use mathlib.Core.Path.{◌≡◌, refl, sym, ◌∙◌, ap}
use mathlib.Core.List.{List, [], ◌∷◌, ◌++◌}
use Prim.Native.Nat.{ℕ, ◌+◌, ◌≤◌, min}
use native.Mathlib.Omega.{arith}
use lib.ListN.{length, length-append}
use Rattle.weights.specs.Figures.{greatest}
use Rattle.weights.specs.Measures.{grade, fold, weigh}
use Rattle.weights.proofs.Weighing.{fold_least}
use Rattle.provenance.specs.Hypergraph.{Hypergraph, Derivation, Derivations, node, none, more, weight, weights, listing, listings}
use Rattle.provenance.specs.Counting.{count}
use Rattle.bill.specs.Listing.{nodes, all_nodes, uses, all_uses, least_own}

count-append : (x : ℕ) (es fs : List ℕ) → count x (es ++ fs) ≡ count x es + count x fs
unfolding count
count-append x [] fs = omega arith
count-append x (e ∷ es) fs = omega (arith, count-append x es fs)

module _ {H : Hypergraph} where
  mutual
    unfolding listing nodes

    pub listing-nodes : {v : ℕ} (t : Derivation H v) → length (listing t) ≡ nodes t
    listing-nodes (node e s h ds) = omega (arith, listings-nodes ds)

    listings-nodes : {vs : List ℕ} (ds : Derivations H vs) → length (listings ds) ≡ all_nodes ds
    listings-nodes none = refl
    listings-nodes (more d ds) = omega (arith, length-append (listing d) (listings ds), listing-nodes d, listings-nodes ds)

  mutual
    unfolding listing count uses

    pub listing-uses : (x : ℕ) {v : ℕ} (t : Derivation H v) → count x (listing t) ≡ uses x t
    listing-uses x (node e s h ds) = omega (arith, listings-uses x ds)

    listings-uses : (x : ℕ) {vs : List ℕ} (ds : Derivations H vs) → count x (listings ds) ≡ all_uses x ds
    listings-uses x none = refl
    listings-uses x (more d ds) = omega (arith, count-append x (listing d) (listings ds), listing-uses x d, listings-uses x ds)

module _ (own : ℕ → ℕ) where
  least_most : (es : List ℕ) → least_own own es ≤ greatest
  unfolding least_own
  least_most [] = omega arith
  least_most (e ∷ es) = omega (arith, least_most es)

  least_append : (es fs : List ℕ) → least_own own (es ++ fs) ≡ min (least_own own es) (least_own own fs)
  unfolding least_own
  least_append [] fs = omega (arith, least_most fs)
  least_append (e ∷ es) fs = omega (arith, least_append es fs)

  least_of_none : fold min greatest [] ≡ greatest
  unfolding fold
  least_of_none = refl

  -- one weight more in a joining by the least
  first_out : (w : ℕ) (ws : List ℕ) → fold min greatest (w ∷ ws) ≡ min w (fold min greatest ws)
  unfolding fold
  first_out w ws = ap (λ (x : ℕ). fold min x ws) (let q : min greatest w ≡ min w greatest = omega arith in q) ∙ sym (fold_least w greatest ws)

  module _ {H : Hypergraph} where
    mutual
      unfolding weight listing least_own weigh

      pub listing_least : {v : ℕ} (t : Derivation H v) → weight grade own t ≡ least_own own (listing t)
      listing_least (node e s h ds) = ap (min (own e)) (listings_least ds)

      listings_least : {vs : List ℕ} (ds : Derivations H vs) → fold min greatest (weights grade own ds) ≡ least_own own (listings ds)
      listings_least none = least_of_none
      listings_least (more d ds) =
          omega (arith, first_out (weight grade own d) (weights grade own ds), least_append (listing d) (listings ds), listing_least d, listings_least ds)
