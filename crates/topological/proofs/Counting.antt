-- The piece counts of a table in order, counted from part 0 up. Assumes nothing.
use mathlib.Core.Path.{◌≡◌, refl, sym, ◌∙◌, ap, ap₂}
use mathlib.Core.Bool.{Bool, true, false}
use mathlib.Core.List.{List, [], ◌∷◌, Memᴰ}
use Prim.Native.Nat.{ℕ, ◌+◌, ◌≤◌, ◌<◌, min}
use native.Mathlib.Omega.{arith}
use native.Mathlib.Decide.{ℕ_discrete, dec_le}
use lib.ListN.{length, set, replicate, length-set, length-replicate}
use lib.Seq.{get_or-set_same, get_or-set_other}
use lib.Dec.{eqb}
use Rattle.weights.specs.Choice.{pick}
use Rattle.columns.specs.Columns.{tail_of, cell}
use Rattle.provenance.specs.Counting.{total}
use Rattle.provenance.specs.Pieces.{most_pieces, piece_count, piece_local}
use Rattle.provenance.proofs.BestFirst.{not-zero}
use Rattle.provenance.proofs.Existence.{zeros}
use Rattle.provenance.proofs.Pieces.{pieces_local, pieces_most, below_is}
use Rattle.pieces.specs.Counting.{lists, choices, count_of, counted, Low, Countable}
use Rattle.topological.specs.Walking.{Upward}

-- a count sees only what stands for the listed vertices
total_same : (p q : ℕ → ℕ) (vs : List ℕ) → ((u : ℕ) → Memᴰ u vs → p u ≡ q u) → total p vs ≡ total q vs
unfolding total
total_same p q [] f = refl
total_same p q (v ∷ vs) f = ap₂ ◌+◌ (f v (Memᴰ.head refl)) (total_same p q vs (λ u i. f u (Memᴰ.tail i)))

count_same : (p q : ℕ → ℕ) (vs : List ℕ) → ((u : ℕ) → Memᴰ u vs → p u ≡ q u) → piece_count p vs ≡ piece_count q vs
unfolding piece_count
count_same p q [] f = refl
count_same p q (v ∷ vs) f = ap (λ (x : ℕ). min x most_pieces) (total_same p q (v ∷ vs) f)

module _ (spans tails depths edges : List ℕ) where
  abbrev count : ℕ → ℕ
  count = count_of spans tails depths edges

  -- the vertices below v are counted, and the others hold 0
  pub record Risen (v : ℕ) (pieces : List ℕ) : Type 0 where
    pub level : length pieces ≡ length depths
    pub lower : (u : ℕ) → u < v → cell pieces u ≡ count u
    pub blank : (u : ℕ) → v ≤ u → cell pieces u ≡ 0

  pub risen_none : (pieces : List ℕ) {new : List ℕ} → length pieces ≡ length depths → new ≡ replicate (length pieces) 0 → Risen 0 new
  risen_none pieces l e = record {
    level = ap length e ∙ length-replicate (length pieces) 0 ∙ l;
    lower = λ u h. absurd (omega arith);
    blank = λ u h. ap (λ (xs : List ℕ). cell xs u) e ∙ zeros (length pieces) u;
  }

  module _ {v : ℕ} {pieces : List ℕ} (r : Risen v pieces) where
    pub risen_low : Low pieces
    risen_low u = go (dec_le v u)
      where
        go : Dec (v ≤ u) → cell pieces u ≤ most_pieces
        go (yes h) = omega (arith, r.blank u h)
        go (no n) = omega (arith, r.lower u (omega arith), pieces_most (lists spans tails) (choices depths edges) u)

    pub risen_all : length depths ≤ v → pieces ≡ counted spans tails depths edges
    unfolding counted
    risen_all h = below_is count (length depths) pieces r.level (λ u l. r.lower u (omega arith))

    -- what v counts then is its count
    module _ {old : List ℕ} (c : Countable spans tails depths edges old) (up : Upward spans tails depths edges) where
      local : piece_local (tail_of spans tails) (cell depths) (cell edges) (cell pieces) v ≡ piece_local (tail_of spans tails) (cell depths) (cell edges) count v
      unfolding piece_local
      local = go (eqb (cell depths v) 0) refl
        where
          go : (b : Bool) → eqb (cell depths v) 0 ≡ b
              → pick b 0 (piece_count (cell pieces) (tail_of spans tails (cell edges v))) ≡ pick b 0 (piece_count count (tail_of spans tails (cell edges v)))
          go true e = refl
          go false e = count_same (cell pieces) count (tail_of spans tails (cell edges v)) (λ u i. r.lower u (up.below v (not-zero e) u i))

      pub risen_more : {x : ℕ} → v < length depths → x ≡ piece_local (tail_of spans tails) (cell depths) (cell edges) (cell pieces) v → Risen (v + 1) (set pieces v x)
      risen_more {x} h e = record {
        level = length-set pieces v x ∙ r.level;
        lower = λ u l. lower u l (ℕ_discrete u v);
        blank = λ u l. get_or-set_other pieces v u x 0 (λ q. omega arith) ∙ r.blank u (omega arith);
      }
        where
          here : x ≡ count v
          here = e ∙ local ∙ sym (pieces_local (lists spans tails) (choices depths edges) c.founded v)

          lower : (u : ℕ) → u < v + 1 → Dec (u ≡ v) → cell (set pieces v x) u ≡ count u
          lower u l (yes q) = rw q (get_or-set_same pieces v x 0 (omega (arith, r.level)) ∙ here)
          lower u l (no n) = get_or-set_other pieces v u x 0 n ∙ r.lower u (omega arith)
