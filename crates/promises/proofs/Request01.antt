-- Document 02, change request 2026-01. Assumes nothing.
use mathlib.Core.Path.{◌≡◌}
use mathlib.Core.Bool.{true}
use mathlib.Core.Logic.{◌↔◌}
use mathlib.Core.List.{List}
use Prim.Native.Nat.{ℕ, ◌*◌}
use lib.ListN.{length, take}
use Rattle.weights.specs.declared.Measure.{Measure}
use Rattle.refusal.specs.declared.Refusal.{Refusal}
use Rattle.refusal.specs.declared.Counts.{Counts}
use Rattle.columns.specs.Columns.{Entries, Columns, with_own}
use Rattle.columns.specs.Filled.{filled}
use Rattle.columns.specs.Gaps.{Gapped, with_tails}
use Rattle.columns.specs.Right.{RightTable}
use Rattle.columns.specs.Longer.{NewLine, in_use_of, longer, RightLine}
use Rattle.columns.specs.Owed.{Owed}
use Rattle.columns.proofs.Exactly.{accepted_exactly}
use Rattle.settle.specs.Settling.{entries_of}
use Rattle.indextable.specs.Index.{index_of, is_index, index_acceptance, table_indexed}
use Rattle.indextable.specs.Told.{Told}
use Rattle.indextable.specs.Asked.{RightIndexing, WrongIndexing}
use Rattle.indextable.proofs.Told.{index_told, index_fixed, index_exactly, index_kept}
use Rattle.append.specs.Appending.{append_acceptance, appended, leaves, new_counts, over}
use Rattle.append.specs.Asked.{RightCounts, RightAppend, WrongAppend}
use Rattle.append.specs.Leaves.{Extended, Behind}
use Rattle.append.proofs.Appended.{appended-longer, appended_behind, appended_result, appended_keeps}
use Rattle.promises.specs.Fixed.{Fixed}
use Rattle.promises.proofs.Fixed.{fixed}
use Rattle.promises.proofs.Indexing.{index_exactly as indexing_exactly, index_refused_exactly, index_owes}
use Rattle.promises.proofs.Appends.{append_exactly, append_refused_exactly, append_owes, longer_right}
use Rattle.promises.proofs.Gaps.{index_gaps, append_gaps}
use Rattle.std.specs.Prelude.{Ok, Err}

-- 2026-01: show me every line that needs this seal -------------------------------------------------------------------------------------------------------------------

-- "for each part a pair of offset and length, sorted by offset, from 0 and without gaps, into a list of the lines that need the part. Each list is ascending, names a
-- line once however often it lists the part, and includes struck lines"
pub index_is : (c : Columns) → RightTable c → Told c (index_of c).pairs (index_of c).list
index_is c t = index_told c ((accepted_exactly c).1 t)

-- and nothing else is the table's index
pub index_alone : (c : Columns) → RightTable c → (p l : List ℕ) → Told c p l → (p ≡ (index_of c).pairs) × (l ≡ (index_of c).list)
index_alone c t = index_fixed c ((accepted_exactly c).1 t)

-- "19 if the lent index isn't this table's": exactly then
pub index_tested : (c : Columns) → RightTable c → (index list : List ℕ)
    → (is_index c index list ≡ true) ↔ ((k : ℕ) × Told c (take (2 * c.vertices) index) (take k list))
index_tested c t = index_exactly c ((accepted_exactly c).1 t)

-- repricing leaves the index true; striking and restoring do too (Request02)
pub index_stays : (c : Columns) (e w : ℕ) → index_of (with_own c e w) ≡ index_of c
index_stays = index_kept

module _ (c : Columns) (index list : List ℕ) where
  -- "One call builds it and returns the list's length"; places behind it keep their bytes
  pub index_built : index_acceptance c index list ≡ Ok tt
      → table_indexed c index list ≡ record { result = Ok (length (index_of c).list); index = filled (index_of c).pairs index; list = filled (index_of c).list list }
  unfolding table_indexed
  index_built p = rw p

  -- the same with what each refusal says: 1 to 6 and 21, then 18; places after the pairs and after the list keep their bytes
  pub index-table : Owed {L = List ℕ × List ℕ} Err (index, list) (RightIndexing c index list) (λ _. Ok (length (index_of c).list))
      (λ _. (filled (index_of c).pairs index, filled (index_of c).list list)) (WrongIndexing c index list)
      (table_indexed c index list).result ((table_indexed c index list).index, (table_indexed c index list).list)
  index-table = index_owes c index list

  -- a refusal leaves both columns
  pub index_refused : (r : Refusal) → index_acceptance c index list ≡ Err r → table_indexed c index list ≡ record { result = Err r; index = index; list = list }
  unfolding table_indexed
  index_refused r p = rw p

  pub index_table_fixed : Fixed (RightIndexing c index list) (WrongIndexing c index list)
  index_table_fixed = fixed (index_acceptance c index list) (indexing_exactly c index list) (index_refused_exactly c index list)

  -- it does not look at what gaps hold
  pub index_over_gaps : (tails : List ℕ) → Gapped c tails → table_indexed c index list ≡ table_indexed (with_tails c tails) index list
  index_over_gaps tails g = index_gaps c tails g index list

-- "Also add a call that appends a line … It returns the new counts". 1, 2, the lines that stand, the new line by 3, 4, 21, 5 and 6 "with its new number as place", 7, 18, 19, 8
module _ (m : Measure) (c : Columns) (k : Counts) (a : Entries) (index list : List ℕ) (l : NewLine) where
  pub append : let t = longer (in_use_of c k) l in let o = appended m c k a index list l in
      Owed {L = Columns × Entries × List ℕ × List ℕ} Err (c, a, index, list) (RightAppend m c k a index list l) (λ _. Ok (new_counts c k l))
      (λ _. (over t c, entries_of m t, filled (index_of t).pairs index, filled (index_of t).list list)) (WrongAppend m c k a index list l)
      o.result (o.table, o.answers, o.index, o.list)
  append = append_owes m c k a index list l

  pub append_fixed : Fixed (RightAppend m c k a index list l) (WrongAppend m c k a index list l)
  append_fixed = fixed (append_acceptance m c k a index list l) (append_exactly m c k a index list l) (append_refused_exactly m c k a index list l)

  -- "It returns the new counts … Table, index and answers must then be those of the longer table": what it means to be its index and its answers, and that the next call's
  -- checks pass
  pub append_extends : (k' : Counts) → (appended m c k a index list l).result ≡ Ok k' → Extended m c k l k' (appended m c k a index list l) (longer (in_use_of c k) l)
  append_extends = appended-longer m c k a index list l

  -- "places beyond the new counts keep their bytes"
  pub append_keeps_behind : (k' : Counts) → (appended m c k a index list l).result ≡ Ok k' → Behind c index list k' (appended m c k a index list l) (longer (in_use_of c k) l)
  append_keeps_behind = appended_behind m c k a index list l

  -- it is turned away where the chain of `append_acceptance` says, and by which refusal
  pub append_turned_away : (r : Refusal) → append_acceptance m c k a index list l ≡ Err r → (appended m c k a index list l).result ≡ Err r
  append_turned_away = appended_result m c k a index list l

  -- and a refusal alters no lent byte
  pub append_refused : (r : Refusal) → (appended m c k a index list l).result ≡ Err r
      → let o = appended m c k a index list l in (o.table ≡ c) × ((o.answers ≡ a) × ((o.index ≡ index) × (o.list ≡ list)))
  append_refused = appended_keeps m c k a index list l

  -- it does not look at what gaps hold: with another column of needed parts, as long and the same at every place of every span in use, result, index and answers are the
  -- same, and so is every column of the table but that one
  pub append_over_gaps : (tails : List ℕ) → length c.tails ≡ length tails → Gapped (in_use_of c k) (take k.listed tails)
      → let o = appended m c k a index list l in let o' = appended m (with_tails c tails) k a index list l in
      o' ≡ leaves o.result (with_tails o.table o'.table.tails) o.answers o.index o.list
  append_over_gaps = append_gaps m c k a index list l

-- the longer table, for whose index 18 asks for room, is right where the counts, the table in use and the new line are
pub longer_is_right : (c : Columns) (k : Counts) (l : NewLine) → RightCounts c k (length l.tail) → RightTable (in_use_of c k) → RightLine c.vertices l
    → RightTable (longer (in_use_of c k) l)
longer_is_right = longer_right
