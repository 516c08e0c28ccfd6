-- What an index of uses tells those who read it: for each vertex exactly the hyperedges that list it, ascending, at its offset; offsets from 0 without gaps.
-- Assumes nothing.
use mathlib.Core.Path.{◌≡◌, ◌∙◌, ap}
use mathlib.Core.Bool.{true}
use mathlib.Core.List.{List}
use Prim.Native.Nat.{ℕ, suc, ◌+◌, ◌*◌, ◌≤◌, ◌<◌}
use native.Mathlib.Numerals.{add-one}
use native.Mathlib.Omega.{arith}
use lib.ListN.{length, get_or, drop, get_or-append}
use Rattle.weights.specs.Lists.{member}
use Rattle.columns.specs.Filled.{filled}
use Rattle.uses.specs.Uses.{uses_below, use_list, use_offset, use_count, use_pairs, Index, indexed}
use Rattle.uses.proofs.Pairs.{length_pairs, pairs_first, pairs_second}
use Rattle.uses.proofs.Lists.{uses_sound, uses_complete, uses_ascend, offset_next, offset_end, uses_at}

-- the three parts of what indexing leaves
pub record Indexed (tail : ℕ → List ℕ) (m n : ℕ) (old : List ℕ) (total : ℕ) (index list : List ℕ) : Type 0 where
  pub total_is : total ≡ length (use_list tail m n)
  pub index_is : index ≡ use_pairs tail m n
  pub list_is : list ≡ filled (use_list tail m n) old

pub parts_of : {tail : ℕ → List ℕ} {m n : ℕ} {old : List ℕ} {total : ℕ} {index list : List ℕ}
    → record { total = total; index = index; list = list } ≡ indexed tail m n old → Indexed tail m n old total index list
unfolding indexed
parts_of e = record { total_is = ap (λ (x : Index). x.total) e; index_is = ap (λ (x : Index). x.index) e; list_is = ap (λ (x : Index). x.list) e }

module _ {tail : ℕ → List ℕ} {m n : ℕ} {old : List ℕ} {total : ℕ} {index list : List ℕ} (x : Indexed tail m n old total index list) where
  -- two places for each vertex: its offset and its length
  pub index-length : length index ≡ 2 * n
  index-length = ap length x.index_is ∙ length_pairs (use_offset tail m) (use_count tail m) n

  pub offset_is : (v : ℕ) → v < n → get_or index (2 * v) 0 ≡ use_offset tail m v
  offset_is v h = ap (λ (z : List ℕ). get_or z (2 * v) 0) x.index_is ∙ pairs_first (use_offset tail m) (use_count tail m) n v h

  pub length_is : (v : ℕ) → v < n → get_or index (2 * v + 1) 0 ≡ use_count tail m v
  length_is v h = ap (λ (z : List ℕ). get_or z (2 * v + 1) 0) x.index_is ∙ pairs_second (use_offset tail m) (use_count tail m) n v h

  -- from 0, without gaps, and within the list
  pub offset_start : 0 < n → get_or index 0 0 ≡ 0
  unfolding use_list
  offset_start h = offset_is 0 h

  pub offset_gapless : (v : ℕ) → v + 1 < n → get_or index (2 * (v + 1)) 0 ≡ get_or index (2 * v) 0 + get_or index (2 * v + 1) 0
  offset_gapless v h =
      let a = offset_is (v + 1) h in
      let b = offset_is v (omega arith) in
      let c = length_is v (omega arith) in
      let d = offset_next tail m v in
      let e : use_offset tail m (v + 1) ≡ use_offset tail m (suc v) = ap (use_offset tail m) (add-one v) in
      omega arith

  pub uses_end : (v : ℕ) → v < n → get_or index (2 * v) 0 + get_or index (2 * v + 1) 0 ≤ total
  uses_end v h = let a = offset_is v h in let b = length_is v h in let c = offset_end tail m v n h in let d = x.total_is in omega arith

  -- a use by its number
  pub use_is : (v i : ℕ) → v < n → i < get_or index (2 * v + 1) 0 → get_or list (get_or index (2 * v) 0 + i) 0 ≡ get_or (uses_below tail v m) i 0
  unfolding filled
  use_is v i h l =
      let c = length_is v h in
      let b = offset_end tail m v n h in
      ap (λ (z : ℕ). get_or list (z + i) 0) (offset_is v h)
      ∙ ap (λ (z : List ℕ). get_or z (use_offset tail m v + i) 0) x.list_is
      ∙ get_or-append (use_list tail m n) (drop (length (use_list tail m n)) old) 0 (use_offset tail m v + i) (omega arith)
      ∙ uses_at tail m n v i h (omega arith)

  -- each use is a hyperedge that lists the vertex, each such hyperedge is a use, and they ascend
  pub use_sound : (v i : ℕ) → v < n → i < get_or index (2 * v + 1) 0 → (get_or list (get_or index (2 * v) 0 + i) 0 < m) × (member v (tail (get_or list (get_or index (2 * v) 0 + i) 0)) ≡ true)
  use_sound v i h l = let c = length_is v h in rw (use_is v i h l) (uses_sound tail v m i (omega arith))

  pub use_complete : (v e : ℕ) → v < n → e < m → member v (tail e) ≡ true → (i : ℕ) × ((i < get_or index (2 * v + 1) 0) × (get_or list (get_or index (2 * v) 0 + i) 0 ≡ e))
  use_complete v e h l p =
      let f = uses_complete tail v m e l p in
      let c = length_is v h in
      let b : f.0 < get_or index (2 * v + 1) 0 = omega (arith, f.1.0) in
      (f.0, (b, use_is v f.0 h b ∙ f.1.1))

  pub use_ascend : (v i j : ℕ) → v < n → i < j → j < get_or index (2 * v + 1) 0 → get_or list (get_or index (2 * v) 0 + i) 0 < get_or list (get_or index (2 * v) 0 + j) 0
  use_ascend v i j h k l =
      let c = length_is v h in
      rw (use_is v i h (omega arith), use_is v j h l) (uses_ascend tail v m i j k (omega arith))
