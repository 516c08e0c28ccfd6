-- What an appending leaves. Document 02, 2026-01: "Table, index and answers must then be those of the longer table"; "places beyond the new counts keep their bytes".
-- Assumes nothing: these are definitions.
use Rattle.std.specs.Prelude.{◌≡◌, List, ℕ, ◌*◌, length, take, drop, Ok, true}
use Rattle.weights.specs.declared.Measure.{Measure}
use Rattle.refusal.specs.declared.Counts.{Counts}
use Rattle.columns.specs.Columns.{Columns}
use Rattle.columns.specs.Acceptance.{acceptance}
use Rattle.columns.specs.Longer.{NewLine, in_use_of, longer, OneMore}
use Rattle.provenance.specs.BestFirst.{labels}
use Rattle.settle.specs.Settling.{entries_of}
use Rattle.settle.specs.Checking.{checked}
use Rattle.settle.specs.Demands.{Demand2}
use Rattle.settle.specs.States.{StateMeans}
use Rattle.indextable.specs.Index.{index_of}
use Rattle.indextable.specs.Told.{Told}
use Rattle.append.specs.Appending.{Grown, new_counts}

-- the columns, cut at the counts k' that were returned, are the longer table t, which is accepted; index and answers are t's, by what they mean; and the next call's
-- checks pass
pub record Extended (m : Measure) (c : Columns) (k : Counts) (l : NewLine) (k' : Counts) (o : Grown) (t : Columns) : Type 0 where
  pub counts : k' ≡ new_counts c k l
  pub table : in_use_of o.table k' ≡ t
  pub longer_is : t ≡ longer (in_use_of c k) l
  pub lines : OneMore (in_use_of c k) l t
  pub accepted : acceptance t ≡ Ok tt
  pub pairs : take (2 * t.vertices) o.index ≡ (index_of t).pairs
  pub list : take (length (index_of t).list) o.list ≡ (index_of t).list
  pub told : Told t (take (2 * t.vertices) o.index) (take (length (index_of t).list) o.list)
  pub answers : o.answers ≡ entries_of m t
  pub means : (v : ℕ) → Demand2 m t o.answers v
  pub states : (v : ℕ) → StateMeans m t (labels o.answers.labels v) v
  pub checks : checked m t o.answers ≡ Ok true

-- behind the counts, the pairs and the list every place is as it was
pub record Behind (c : Columns) (index list : List ℕ) (k' : Counts) (o : Grown) (t : Columns) : Type 0 where
  pub heads : drop k'.edges o.table.heads ≡ drop k'.edges c.heads
  pub own : drop k'.edges o.table.own ≡ drop k'.edges c.own
  pub strikes : drop k'.edges o.table.strikes ≡ drop k'.edges c.strikes
  pub spans : drop (2 * k'.edges) o.table.spans ≡ drop (2 * k'.edges) c.spans
  pub tails : drop k'.listed o.table.tails ≡ drop k'.listed c.tails
  pub pairs : drop (2 * t.vertices) o.index ≡ drop (2 * t.vertices) index
  pub list_behind : drop (length (index_of t).list) o.list ≡ drop (length (index_of t).list) list
