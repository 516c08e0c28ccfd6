-- What the source says of a part's grade, from demand 2. Assumes nothing.
use mathlib.Core.Path.{◌≡◌, sym, ◌∙◌, ap, subst}
use Prim.Native.Nat.{ℕ, ◌≤◌, min}
use native.Mathlib.Omega.{arith}
use Rattle.semiring.specs.Semiring.{finite}
use Rattle.semiring.specs.Chain.{present}
use Rattle.semiring.specs.Datalog.{Provenance}
use Rattle.weights.specs.declared.Measure.TheVariants.{Grade}
use Rattle.weights.specs.declared.Label.{Label}
use Rattle.weights.specs.Figures.{greatest}
use Rattle.weights.specs.Measures.{grade}
use Rattle.weights.proofs.Laws.{at_most, unturn}
use Rattle.weights.proofs.States.{over_state}
use Rattle.columns.specs.Columns.{Entries, Columns, own_at}
use Rattle.provenance.specs.BestFirst.{labels}
use Rattle.provenance.specs.Labelling.{Made}
use Rattle.provenance.specs.Means.{Means, underivable, derivable}
use Rattle.provenance.specs.Semirings.{grade_of, valuation}
use Rattle.provenance.specs.Program.{part, program}
use Rattle.tables.specs.Table.{hypergraph}
use Rattle.settle.specs.Settling.{settled}
use Rattle.settle.proofs.Demands.{demand_2}
use Rattle.settle.proofs.States.{grade_most}
use Rattle.settle.specs.Worth.{Worth, GreatestGrade, NeverOver}
use Rattle.std.specs.Prelude.{Ok}

module _ (c : Columns) (l : Label) (v : ℕ) where
  abbrev Graded : Type 0
  Graded = Means grade (hypergraph c) (own_at c) l v

  graded_low : Graded → l.weight.0 ≤ greatest
  graded_low (underivable q n) = omega (arith, ap (λ (x : Label). x.weight.0) q)
  graded_low (derivable k) = omega (arith, k.weighs, grade_most (own_at c) k.shown)

  -- no figure of an accepted table's is cut
  uncut : {x : ℕ} → x ≤ greatest → grade_of x ≡ present (finite x)
  unfolding grade_of
  uncut {x} h = ap (λ (y : ℕ). present (finite y)) (let q : min x greatest ≡ x = omega arith in q)

  -- so the grade itself is the provenance
  grade_means : Graded → Worth Grade c l v → Made l → Provenance (program (valuation Grade) (hypergraph c) (own_at c)) (part v) (present (finite l.weight.0))
  grade_means k w m = let (x, p, e) = w.made m in subst (Provenance (program (valuation Grade) (hypergraph c) (own_at c)) (part v)) (ap grade_of (sym e) ∙ uncut (graded_low k)) p

  means_greatest : Graded → GreatestGrade c l v
  means_greatest (underivable q n) = record { attained = λ m. absurd (omega (arith, m.deep, ap (λ (x : Label). x.depth) q)); most = λ d. absurd (n d) }
  means_greatest (derivable k) = record { attained = λ m. (k.shown, k.weighs); most = λ d. at_most (unturn (k.best d)) }

  means_low : Graded → NeverOver l
  means_low k = record { low = graded_low k; state = λ e. omega (arith, graded_low k, ((over_state l.weight.0 l.depth).0 e).1) }

module _ (c : Columns) (a : Entries) (q : (settled Grade c a).result ≡ Ok tt) (v : ℕ) where
  pub grade_provenance : let l = labels (settled Grade c a).left.labels v in Made l
      → Provenance (program (valuation Grade) (hypergraph c) (own_at c)) (part v) (present (finite l.weight.0))
  grade_provenance = let d = demand_2 Grade c a q v in grade_means c (labels (settled Grade c a).left.labels v) v d.means d.worth

  pub grade-greatest : GreatestGrade c (labels (settled Grade c a).left.labels v) v
  grade-greatest = means_greatest c (labels (settled Grade c a).left.labels v) v (demand_2 Grade c a q v).means

  pub grade-low : NeverOver (labels (settled Grade c a).left.labels v)
  grade-low = means_low c (labels (settled Grade c a).left.labels v) v (demand_2 Grade c a q v).means
