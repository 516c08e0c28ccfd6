-- The laws of piece counts. A count is that of the leaves of the chosen make-up, and it can be read off the bill; and it is the only one that meets a local rule at every
-- vertex, by which it is computed and checked. By induction on depth. Assumes nothing.
use mathlib.Core.Path.{◌≡◌, refl, sym, ◌∙◌, ap, fun_ext}
use mathlib.Core.Bool.{Bool, true, false}
use mathlib.Core.List.{List, [], ◌∷◌, ◌++◌}
use Prim.Native.Nat.{ℕ, zero, suc, ◌+◌, ◌≤◌, ◌<◌, min}
use native.Mathlib.Nat.{zero-add}
use native.Mathlib.Omega.{arith}
use native.Mathlib.Decide.{ℕ_discrete, dec_le}
use lib.ListN.{length, get_or, length-append, get_or-append, get_or-eq_default}
use lib.Seq.{ext_get_or, get_or_at}
use lib.Dec.{eqb}
use borrow.Author.Tests.{eqb-true, eq-eqb}
use Rattle.weights.specs.declared.Label.{Label}
use Rattle.weights.specs.Measures.{Algebra}
use Rattle.weights.specs.Laws.{Lawful}
use Rattle.weights.specs.Choice.{pick}
use Rattle.provenance.specs.Hypergraph.{Hypergraph, Derivation, Derivations, node, none, more, listing, listings}
use Rattle.provenance.specs.Labelling.{Made, AllMade, depth_in, deepest_in, greatest_depth, Fixpoint}
use Rattle.provenance.specs.Means.{Follows}
use Rattle.provenance.specs.Support.{bills, bill}
use Rattle.provenance.specs.Counting.{total}
use Rattle.provenance.specs.Pieces.{most_pieces, piece, bought, leaves, all_leaves, pieces_at, below, piece_column, HasPieces, piece_count, edge_in, piece_local, AllUnder, empty, also, Founded}
use Rattle.provenance.proofs.BestFirst.{not-zero}
use Rattle.provenance.proofs.Counting.{total_append}
use Rattle.provenance.proofs.Support.{follows_bill, chosen, supports}

pub capped_sum : (a b c : ℕ) → min (min a c + min b c) c ≡ min (a + b) c
capped_sum a b c = omega arith

total_capped : (f : ℕ → ℕ) (c : ℕ) (vs : List ℕ) → min (total (λ u. min (f u) c) vs) c ≡ min (total f vs) c
unfolding total
total_capped f c [] = refl
total_capped f c (v ∷ vs) = omega (arith, total_capped f c vs)

total_under : {d : ℕ → ℕ} {k : ℕ} {vs : List ℕ} (p q : ℕ → ℕ) → AllUnder d k vs → ((u : ℕ) → 0 < d u → d u < k → p u ≡ q u) → total p vs ≡ total q vs
unfolding total
total_under p q empty s = refl
total_under p q (also {v = v} a h rest) s = omega (arith, s v a h, total_under p q rest s)

bought-bills : (tail : ℕ → List ℕ) (f : ℕ → List ℕ) (vs : List ℕ) → bought tail (bills f vs) ≡ total (λ u. bought tail (f u)) vs
unfolding total bills
bought-bills tail f [] = refl
bought-bills tail f (v ∷ vs) = omega (arith, total_append (λ e. piece (tail e)) (f v) (bills f vs), bought-bills tail f vs)

-- what stands for deeper vertices, and for unmade ones, takes no part in a count
pub count_under : {d : ℕ → ℕ} {k : ℕ} {vs : List ℕ} (p q : ℕ → ℕ) → AllUnder d k vs → ((u : ℕ) → 0 < d u → d u < k → p u ≡ q u) → piece_count p vs ≡ piece_count q vs
unfolding piece_count
count_under p q empty s = refl
count_under p q (also a h rest) s = ap (λ (x : ℕ). min x most_pieces) (total_under p q (also a h rest) s)

bills_under : {d : ℕ → ℕ} {k : ℕ} {vs : List ℕ} (f g : ℕ → List ℕ) → AllUnder d k vs → ((u : ℕ) → 0 < d u → d u < k → f u ≡ g u) → bills f vs ≡ bills g vs
unfolding bills
bills_under f g empty s = refl
bills_under f g (also {v = v} a h rest) s = let x = s v a h in let y = bills_under f g rest s in λ i. x i ++ y i

-- The theorems over labels that are founded -------------------------------------------------------------------------------------------------------

-- an unmade vertex counts 0
pub pieces_unmade : (H : Hypergraph) (ls : ℕ → Label) (v : ℕ) → (ls v).depth ≡ 0 → pieces_at H ls v ≡ 0
unfolding pieces_at bill total
pieces_unmade H ls v z = rw z

module _ (H : Hypergraph) (ls : ℕ → Label) (g : Founded H.tail (depth_in ls) (edge_in ls)) where
  -- a bill is the same with any fuel that is enough
  bill_enough : (k j v : ℕ) → 0 < (ls v).depth → (ls v).depth ≤ k → (ls v).depth ≤ j → bill H ls k v ≡ bill H ls j v
  unfolding bill
  bill_enough zero j v a h i = absurd (omega arith)
  bill_enough (suc k) zero v a h i = absurd (omega arith)
  bill_enough (suc k) (suc j) v a h i =
      let tails = bills_under (bill H ls k) (bill H ls j) (g.under v a) (λ u b l. bill_enough k j u b (omega arith) (omega arith)) in
      ap (λ (xs : List ℕ). (ls v).edge.0 ∷ xs) tails

  node_pieces : (k : ℕ) (vs : List ℕ) → AllUnder (depth_in ls) (suc k) vs → min (piece vs + bought H.tail (bills (bill H ls k) vs)) most_pieces ≡ piece_count (pieces_at H ls) vs
  unfolding piece bills total piece_count pieces_at
  node_pieces k [] a = refl
  node_pieces k (v ∷ vs) a =
      let f : ℕ → ℕ = λ u. bought H.tail (bill H ls k u) in
      let f' : ℕ → ℕ = λ u. bought H.tail (bill H ls (ls u).depth u) in
      let x : bought H.tail (bills (bill H ls k) (v ∷ vs)) ≡ total f (v ∷ vs) = bought-bills H.tail (bill H ls k) (v ∷ vs) in
      let y : total f (v ∷ vs) ≡ total f' (v ∷ vs) = total_under f f' a (λ u b l. ap (bought H.tail) (bill_enough k (ls u).depth u b (omega arith) (omega arith))) in
      ap (λ (z : ℕ). min z most_pieces) (zero-add _ ∙ x ∙ y) ∙ sym (total_capped f' most_pieces (v ∷ vs))

  made_pieces : (k v : ℕ) → 0 < (ls v).depth → (ls v).depth ≡ k → pieces_at H ls v ≡ piece_count (pieces_at H ls) (H.tail (ls v).edge.0)
  unfolding pieces_at bill total
  made_pieces zero v a e = absurd (omega arith)
  made_pieces (suc k) v a e = rw e (node_pieces k (H.tail (ls v).edge.0) (rw e at (g.under v a)))

  -- the counts meet the local rule
  pub pieces_local : (v : ℕ) → pieces_at H ls v ≡ piece_local H.tail (depth_in ls) (edge_in ls) (pieces_at H ls) v
  unfolding piece_local
  pieces_local v = go (eqb (ls v).depth 0) refl
    where
      go : (b : Bool) → eqb (ls v).depth 0 ≡ b → pieces_at H ls v ≡ pick b 0 (piece_count (pieces_at H ls) (H.tail (ls v).edge.0))
      go true e = pieces_unmade H ls v (eqb-true _ _ e)
      go false e = made_pieces (ls v).depth v (not-zero e) refl

  pub local_under : (p q : ℕ → ℕ) (v : ℕ) → ((u : ℕ) → 0 < (ls u).depth → (ls u).depth < (ls v).depth → p u ≡ q u)
      → piece_local H.tail (depth_in ls) (edge_in ls) p v ≡ piece_local H.tail (depth_in ls) (edge_in ls) q v
  unfolding piece_local
  local_under p q v s = go (eqb (ls v).depth 0) refl
    where
      go : (b : Bool) → eqb (ls v).depth 0 ≡ b → pick b 0 (piece_count p (H.tail (ls v).edge.0)) ≡ pick b 0 (piece_count q (H.tail (ls v).edge.0))
      go true e = refl
      go false e = count_under p q (g.under v (not-zero e)) s

  -- nothing else does
  unique_below : (p : ℕ → ℕ) → ((v : ℕ) → p v ≡ piece_local H.tail (depth_in ls) (edge_in ls) p v) → (k v : ℕ) → (ls v).depth ≤ k → p v ≡ pieces_at H ls v
  unique_below p e zero v h = e v ∙ local_under p (pieces_at H ls) v (λ u a l. absurd (omega arith)) ∙ sym (pieces_local v)
  unique_below p e (suc k) v h = e v ∙ local_under p (pieces_at H ls) v (λ u a l. unique_below p e k u (omega arith)) ∙ sym (pieces_local v)

  pub pieces_unique : (p : ℕ → ℕ) → ((v : ℕ) → p v ≡ piece_local H.tail (depth_in ls) (edge_in ls) p v) → (v : ℕ) → p v ≡ pieces_at H ls v
  pieces_unique p e v = unique_below p e (ls v).depth v (omega arith)

  -- a made vertex counts at least 1
  positive_count : {k : ℕ} {vs : List ℕ} → AllUnder (depth_in ls) k vs → ((u : ℕ) → 0 < (ls u).depth → (ls u).depth < k → 0 < pieces_at H ls u) → 0 < piece_count (pieces_at H ls) vs
  unfolding piece_count total
  positive_count empty s = omega arith
  positive_count (also {v = v} a h rest) s = omega (arith, s v a h)

  positive_below : (k v : ℕ) → 0 < (ls v).depth → (ls v).depth ≤ k → 0 < pieces_at H ls v
  positive_below zero v a h = absurd (omega arith)
  positive_below (suc k) v a h = omega (arith, made_pieces (ls v).depth v a refl, positive_count (g.under v a) (λ u b l. positive_below k u b (omega arith)))

  pub pieces_positive : (v : ℕ) → Made (ls v) → 0 < pieces_at H ls v
  pieces_positive v a = positive_below (ls v).depth v a.deep (omega arith)

pub pieces_most : (H : Hypergraph) (ls : ℕ → Label) (v : ℕ) → pieces_at H ls v ≤ most_pieces
unfolding pieces_at
pieces_most H ls v = omega arith

-- a count is told by the lists of the lines, the depths and the chosen lines alone
bill_same : (H H' : Hypergraph) (ls ls' : ℕ → Label) → H.tail ≡ H'.tail → ((v : ℕ) → (ls v).edge.0 ≡ (ls' v).edge.0) → (k v : ℕ) → bill H ls k v ≡ bill H' ls' k v
unfolding bill
bill_same H H' ls ls' t e zero v = refl
bill_same H H' ls ls' t e (suc k) v =
    let q = e v in
    let r : bill H ls k ≡ bill H' ls' k = fun_ext (λ u. bill_same H H' ls ls' t e k u) in
    λ i. q i ∷ bills (r i) (t i (q i))

pub pieces_same : (H H' : Hypergraph) (ls ls' : ℕ → Label) → H.tail ≡ H'.tail → ((v : ℕ) → (ls v).depth ≡ (ls' v).depth) → ((v : ℕ) → (ls v).edge.0 ≡ (ls' v).edge.0) → pieces_at H ls ≡ pieces_at H' ls'
unfolding pieces_at
pieces_same H H' ls ls' t d e =
    fun_ext (λ v.
    let q = bill_same H H' ls ls' t e (ls v).depth v ∙ ap (λ (k : ℕ). bill H' ls' k v) (d v) in
    λ i. min (bought (t i) (q i)) most_pieces)

-- Columns -----------------------------------------------------------------------------------------------------------------------------------------

module _ (f : ℕ → ℕ) where
  pub length-below : (n : ℕ) → length (below f n) ≡ n
  unfolding below
  length-below zero = refl
  length-below (suc n) = length-append (below f n) (f n ∷ []) ∙ (let l = length-below n in omega arith)

  pub below_at : (n v : ℕ) → v < n → get_or (below f n) v 0 ≡ f v
  unfolding below
  below_at zero v h = absurd (omega arith)
  below_at (suc n) v h = go (ℕ_discrete v n) (below_at n v)
    where
      go : Dec (v ≡ n) → (v < n → get_or (below f n) v 0 ≡ f v) → get_or (below f n ++ f n ∷ []) v 0 ≡ f v
      go (yes e) rest = get_or_at (below f n) (f n) [] 0 v (length-below n ∙ sym e) ∙ ap f (sym e)
      go (no k) rest = let b : v < n = omega arith in get_or-append (below f n) (f n ∷ []) 0 v (let l = length-below n in omega arith) ∙ rest b

  -- beyond n the function is 0, as the column is
  pub below_all : (n : ℕ) → ((v : ℕ) → n ≤ v → f v ≡ 0) → (v : ℕ) → get_or (below f n) v 0 ≡ f v
  below_all n beyond v = go (dec_le n v)
    where
      go : Dec (n ≤ v) → get_or (below f n) v 0 ≡ f v
      go (yes h) = get_or-eq_default (below f n) 0 (omega (arith, length-below n)) ∙ sym (beyond v h)
      go (no k) = below_at n v (omega arith)

  pub below_is : (n : ℕ) (xs : List ℕ) → length xs ≡ n → ((v : ℕ) → v < n → get_or xs v 0 ≡ f v) → xs ≡ below f n
  below_is n xs l s = ext_get_or 0 xs (below f n) (l ∙ sym (length-below n)) (λ i h. s i (omega arith) ∙ sym (below_at n i (omega arith)))

-- a column that meets the local rule in every place is the piece column, where no vertex beyond it is made
pub column_unique : (H : Hypergraph) (ls : ℕ → Label) → Founded H.tail (depth_in ls) (edge_in ls) → (n : ℕ) (xs : List ℕ) → length xs ≡ n → ((v : ℕ) → n ≤ v → (ls v).depth ≡ 0)
    → ((v : ℕ) → v < n → get_or xs v 0 ≡ piece_local H.tail (depth_in ls) (edge_in ls) (λ u. get_or xs u 0) v) → xs ≡ piece_column H ls n
unfolding piece_local
column_unique H ls g n xs l beyond right = below_is (pieces_at H ls) n xs l (λ v h. pieces_unique H ls g (λ u. get_or xs u 0) (λ v. go v (dec_le n v)) v)
  where
    go : (v : ℕ) → Dec (n ≤ v) → get_or xs v 0 ≡ piece_local H.tail (depth_in ls) (edge_in ls) (λ u. get_or xs u 0) v
    go v (yes h) = get_or-eq_default xs 0 (omega arith) ∙ rw (eq-eqb _ _ (beyond v h))
    go v (no k) = right v (omega arith)

-- and the piece column does
pub column_local : (H : Hypergraph) (ls : ℕ → Label) → Founded H.tail (depth_in ls) (edge_in ls) → (n : ℕ) → ((v : ℕ) → n ≤ v → (ls v).depth ≡ 0) → (v : ℕ) → v < n
    → get_or (piece_column H ls n) v 0 ≡ piece_local H.tail (depth_in ls) (edge_in ls) (λ u. get_or (piece_column H ls n) u 0) v
column_local H ls g n beyond v h =
    below_at (pieces_at H ls) n v h
    ∙ pieces_local H ls g v
    ∙ local_under H ls g (pieces_at H ls) (λ u. get_or (piece_column H ls n) u 0) v (λ u a l. go u a (dec_le n u))
  where
    go : (u : ℕ) → 0 < (ls u).depth → Dec (n ≤ u) → pieces_at H ls u ≡ get_or (piece_column H ls n) u 0
    go u a (yes k) = absurd (omega (arith, beyond u k))
    go u a (no k) = sym (below_at (pieces_at H ls) n u (omega arith))

-- The count as leaves -----------------------------------------------------------------------------------------------------------------------------

module _ {H : Hypergraph} where
  mutual
    unfolding leaves listing total

    -- the pieces of a make-up's listing are its leaves
    pub listing-leaves : {v : ℕ} (t : Derivation H v) → leaves t ≡ bought H.tail (listing t)
    listing-leaves (node e s h ds) = omega (arith, listings-leaves ds)

    listings-leaves : {vs : List ℕ} (ds : Derivations H vs) → all_leaves ds ≡ bought H.tail (listings ds)
    listings-leaves none = refl
    listings-leaves (more d ds) = omega (arith, total_append (λ e. piece (H.tail e)) (listing d) (listings ds), listing-leaves d, listings-leaves ds)

made_under : {ls : ℕ → Label} {k : ℕ} {vs : List ℕ} → AllMade ls vs → deepest_in ls vs < k → AllUnder (depth_in ls) k vs
unfolding greatest_depth
made_under AllMade.none h = empty
made_under (AllMade.more a rest) h = also a.deep (omega arith) (made_under rest (omega arith))

module _ {A : Algebra} {H : Hypergraph} {own : ℕ → ℕ} {ls : ℕ → Label} (fix : Fixpoint A H own ls) where
  -- the labels of a fixpoint are founded
  pub founded : Founded H.tail (depth_in ls) (edge_in ls)
  founded = record {
    under = λ v a.
        let c = fix.chosen v (record { deep = a }) in
        let e : (ls v).depth ≡ deepest_in ls (H.tail (ls v).edge.0) + 1 = ap (λ (l : Label). l.depth) c.given in
        made_under c.ready.tails (omega arith);
  }

  -- the count of a made vertex is that of the leaves of its chosen make-up, whichever tree shows it
  pub pieces_count : Lawful A → (v : ℕ) (t : Derivation H v) → Follows ls t → pieces_at H ls v ≡ min (leaves t) most_pieces
  unfolding pieces_at
  pieces_count L v t f =
      let l : listing t ≡ bill H ls (ls v).depth v = follows_bill ls t f (ls v).depth (omega (arith, (supports L fix t f).deep)) in
      ap (λ (x : ℕ). min x most_pieces) (ap (bought H.tail) (sym l) ∙ sym (listing-leaves t))

  -- so the count of any vertex is what it must be, and nothing else is
  pub has_pieces : Lawful A → (v : ℕ) → HasPieces H ls v (pieces_at H ls v)
  has_pieces L v = record { made = λ t f. pieces_count L v t f; unmade = pieces_unmade H ls v }

  pub pieces_only : Lawful A → (v p : ℕ) → HasPieces H ls v p → p ≡ pieces_at H ls v
  pieces_only L v p h = go (ℕ_discrete (ls v).depth 0)
    where
      go : Dec ((ls v).depth ≡ 0) → p ≡ pieces_at H ls v
      go (yes z) = h.unmade z ∙ sym (pieces_unmade H ls v z)
      go (no n) = let t = chosen L fix v (record { deep = omega arith }) in h.made t.tree t.follows ∙ sym (pieces_count L v t.tree t.follows)
