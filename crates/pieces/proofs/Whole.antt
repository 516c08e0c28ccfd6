-- The rule at one vertex, and the whole column: it is the piece column once all depths are counted, and exactly if the rule holds at every vertex. Assumes nothing.
use mathlib.Core.Path.{◌≡◌, refl, sym, ◌∙◌, ap, subst}
use mathlib.Core.Bool.{Bool, true, false}
use mathlib.Core.List.{List}
use Prim.Native.Nat.{ℕ, ◌≤◌, ◌<◌}
use native.Mathlib.Omega.{arith}
use native.Mathlib.Decide.{dec_le}
use lib.ListN.{length, get_or-eq_default}
use borrow.Author.Tests.{eq-eqb, ne_eqb}
use Rattle.weights.proofs.Choice.{apart}
use Rattle.provenance.specs.Pieces.{most_pieces, piece_count, piece_local, piece_column}
use Rattle.provenance.proofs.Pieces.{pieces_most, length-below, below_at, below_is, column_unique, column_local}
use Rattle.columns.specs.Columns.{cell, tail_of}
use Rattle.columns.specs.Same.{equal}
use Rattle.columns.proofs.Same.{equal_refl, equal-true}
use Rattle.pieces.specs.Counting.{lists, choices, count_of, counted, Low, low, Countable, Deepest, Staged}
use Rattle.pieces.proofs.Sums.{is_low}

module _ (tail : ℕ → List ℕ) (depth edge p : ℕ → ℕ) (v : ℕ) where
  pub local_unmade : depth v ≡ 0 → 0 ≡ piece_local tail depth edge p v
  unfolding piece_local
  local_unmade e = rw (eq-eqb _ _ e)

  pub local_made : ¬ (depth v ≡ 0) → piece_count p (tail (edge v)) ≡ piece_local tail depth edge p v
  unfolding piece_local
  local_made n = rw (ne_eqb _ _ n)

module _ {spans tails depths edges pieces : List ℕ} (c : Countable spans tails depths edges pieces) where
  -- what the rule gives for v
  abbrev rule : List ℕ → ℕ → ℕ
  rule p v = piece_local (tail_of spans tails) (cell depths) (cell edges) (cell p) v

  beyond : (v : ℕ) → length depths ≤ v → cell depths v ≡ 0
  beyond v h = get_or-eq_default depths 0 {n = v} h

  -- all depths are counted
  pub all-counted : {layers g d n : ℕ} {new : List ℕ} → Deepest depths layers (length depths) g → g < d → Staged depths (count_of spans tails depths edges) d n new
      → new ≡ counted spans tails depths edges
  unfolding counted
  all-counted {new = new} m h s = below_is (count_of spans tails depths edges) (length depths) new s.level (λ v l. s.lower v l (omega (arith, m.most v l)))

  -- the rule holds everywhere
  pub all_right : ((v : ℕ) → v < length depths → cell pieces v ≡ rule pieces v) → true ≡ equal pieces (counted spans tails depths edges)
  unfolding counted
  all_right f =
      let H = lists spans tails in
      let ls = choices depths edges in
      let whole = piece_column H ls (length depths) in
      let e : pieces ≡ whole = column_unique H ls c.founded (length depths) pieces c.pieces_level beyond f in
      sym (ap (λ (x : List ℕ). equal x whole) e ∙ equal_refl whole)

  -- it fails somewhere
  pub one_wrong : (v : ℕ) → v < length depths → ¬ (cell pieces v ≡ rule pieces v) → false ≡ equal pieces (counted spans tails depths edges)
  unfolding counted
  one_wrong v h n = go (equal pieces whole) refl
    where
      whole : List ℕ
      whole = piece_column (lists spans tails) (choices depths edges) (length depths)

      go : (b : Bool) → equal pieces whole ≡ b → false ≡ b
      go false e = refl
      go true e =
          let holds = column_local (lists spans tails) (choices depths edges) c.founded (length depths) beyond v h in
          absurd (n (subst (λ (x : List ℕ). cell x v ≡ rule x v) (sym (equal-true pieces whole e)) holds))

-- no count of the whole column is above the greatest, so a column that has such a count is wrong
pub high_wrong : (spans tails depths edges pieces : List ℕ) → low pieces ≡ false → false ≡ equal pieces (counted spans tails depths edges)
unfolding counted
high_wrong spans tails depths edges pieces h = go (equal pieces whole) refl
  where
    whole : List ℕ
    whole = piece_column (lists spans tails) (choices depths edges) (length depths)

    whole_low : Low whole
    whole_low v = at (dec_le (length depths) v)
      where
        count : ℕ → ℕ
        count = count_of spans tails depths edges

        at : Dec (length depths ≤ v) → cell whole v ≤ most_pieces
        at (yes k) = omega (arith, get_or-eq_default whole 0 {n = v} (omega (arith, length-below count (length depths))))
        at (no n) = omega (arith, below_at count (length depths) v (omega arith), pieces_most (lists spans tails) (choices depths edges) v)

    go : (b : Bool) → equal pieces whole ≡ b → false ≡ b
    go false e = refl
    go true e = apart (sym h ∙ ap low (equal-true pieces whole e) ∙ is_low whole whole_low)
