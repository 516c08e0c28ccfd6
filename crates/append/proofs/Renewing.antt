-- Index and answers of the table in use, from what indexing and labelling leave. Assumes nothing.
use mathlib.Core.Path.{◌≡◌, sym, ◌∙◌, ap}
use mathlib.Core.List.{List, ◌++◌}
use Prim.Native.Nat.{ℕ, ◌*◌}
use native.Mathlib.Omega.{arith}
use lib.ListN.{length, take, drop}
use lib.Seq.{length-take-le}
use Rattle.refusal.specs.declared.Counts.{Counts}
use Rattle.columns.specs.Columns.{Entries, Columns, tail_at}
use Rattle.columns.specs.Filled.{filled}
use Rattle.columns.specs.Longer.{in_use_of}
use Rattle.columns.proofs.Accepted.{AcceptedColumns}
use Rattle.uses.specs.Uses.{pairs_in, indexed}
use Rattle.uses.specs.Indexable.{Indexable}
use Rattle.uses.proofs.Laws.{Indexed, parts_of, index-length}
use Rattle.uses.proofs.Room.{table_indexable, table_indexed}
use Rattle.indextable.specs.Index.{index_of}
use Rattle.append.specs.Growing.{Renewable}

module _ (c : Columns) (k : Counts) (a : Entries) (index list : List ℕ) (g : Renewable c k a index list) where
  abbrev held : Columns
  held = in_use_of c k

  pub held_accepted : AcceptedColumns held a
  held_accepted = record { table = g.table; sized = g.sized }

  two : length (take (2 * c.vertices) index) ≡ 2 * c.vertices
  two = length-take-le (2 * c.vertices) index g.places

  pub held_indexable : Indexable held.spans held.tails (take (2 * c.vertices) index) list
  held_indexable = table_indexable held g.table (take (2 * c.vertices) index) c.vertices two (omega arith) list g.room

  module _ {total : ℕ} {ps ls : List ℕ} (e : record { total = total; index = ps; list = ls } ≡ indexed (tail_at held) (pairs_in held.spans) (pairs_in (take (2 * c.vertices) index)) list) where
    made : Indexed (tail_at held) (length held.heads) c.vertices list total ps ls
    made = table_indexed held g.table (take (2 * c.vertices) index) c.vertices two (omega arith) (parts_of e)

    pub pairs_renewed : ps ++ drop (2 * c.vertices) index ≡ filled (index_of held).pairs index
    unfolding filled
    pairs_renewed =
        ap (λ (z : ℕ). ps ++ drop z index) (sym (index-length made) ∙ ap length made.index_is)
        ∙ ap (λ (z : List ℕ). z ++ drop (length (index_of held).pairs) index) made.index_is

    pub list_renewed : ls ≡ filled (index_of held).list list
    list_renewed = made.list_is
