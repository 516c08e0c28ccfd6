-- Tables that differ in the contents of gaps alone mean the same hypergraph. Assumes nothing.
use mathlib.Core.Path.{◌≡◌, ap, fun_ext}
use mathlib.Core.Bool.{not}
use mathlib.Core.List.{List}
use Prim.Native.Nat.{ℕ}
use lib.ListN.{length}
use Rattle.weights.specs.Figures.{is_struck_mark}
use Rattle.columns.specs.Columns.{Columns, head_at, strike_at}
use Rattle.columns.specs.Acceptance.{acceptance}
use Rattle.columns.specs.Gaps.{Gapped, with_tails}
use Rattle.columns.proofs.Gaps.{all_tails_alike}
use Rattle.tables.specs.Table.{hypergraph}
use Rattle.std.specs.Prelude.{Ok}

module _ (c : Columns) (tails : List ℕ) (g : Gapped c tails) where
  pub gaps_hypergraph : acceptance c ≡ Ok tt → hypergraph c ≡ hypergraph (with_tails c tails)
  gaps_hypergraph p =
      ap (λ (t : ℕ → List ℕ). record { vertices = c.vertices; edges = length c.heads; head = head_at c; tail = t; live = λ e. not (is_struck_mark (strike_at c e)) })
      (fun_ext (all_tails_alike c tails g p))
