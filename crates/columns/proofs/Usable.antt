-- What a usable table says of a hyperedge, and when columns are such a table. Assumes nothing.
use mathlib.Core.Path.{◌≡◌, refl, sym, ◌∙◌, subst}
use mathlib.Core.List.{List}
use Prim.Native.Nat.{ℕ, ◌≤◌, ◌<◌}
use native.Mathlib.Omega.{arith}
use lib.ListN.{length}
use Rattle.columns.specs.Columns.{Answers, Sized, Columns, columns, head_at, cell}
use Rattle.columns.specs.Acceptance.{most_vertices, acceptance}
use Rattle.columns.proofs.Accepted.{table_accepted, below_at}
use Rattle.columns.specs.Lent.{EdgeIn, Usable, Turning}
use Rattle.std.specs.Prelude.{Ok}

module _ {c : Columns} {ws ds : List ℕ} (u : Usable c ws ds) (e : ℕ) (h : e < length c.heads) where
  pub head_in : head_at c e < length ds
  head_in = omega (arith, u.vertices, ((table_accepted c u.accepted).each e h).1.head)

  pub edge_in : EdgeIn e c.own c.strikes c.spans c.tails ws ds
  edge_in =
      let z = table_accepted c u.accepted in
      let g = (z.each e h).1 in
      record {
        own = omega (arith, z.own);
        mark = omega (arith, z.strikes);
        placed = record { span = omega (arith, z.spans); short = g.short; within = g.within };
        legible = record { level = u.level; inside = λ k l. omega (arith, u.vertices, below_at _ _ g.listed k l); shallow = u.shallow };
      }

-- a table of n vertices and the same columns: by the length of a column, it is the table
abbrev pub same_table : Columns → ℕ → Columns
same_table c n = columns n c.heads c.own c.strikes c.spans c.tails

pub turning_columns : (c : Columns) (a : Answers) → acceptance c ≡ Ok tt → Sized c.vertices a → ((v : ℕ) → cell a.depths v ≤ most_vertices) → Turning (same_table c (length a.depths)) a
turning_columns c a p s shallow =
    record {
      usable = record {
        accepted = subst (λ (n : ℕ). acceptance (same_table c n) ≡ Ok tt) (sym s.depths) p;
        level = s.weights ∙ sym s.depths;
        vertices = refl;
        shallow = shallow;
      };
      edges = s.edges ∙ sym s.depths;
    }
