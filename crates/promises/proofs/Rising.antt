-- Why a part's days rise by at most d where one line goes up by d: the line stands at most once on a downward path of a chosen make-up, so along each path the own figures
-- come to at most d more. Assumes nothing.
use mathlib.Core.Path.{◌≡◌, sym, ◌∙◌, ap, subst}
use mathlib.Core.List.{List}
use Prim.Native.Nat.{ℕ, ◌+◌, ◌*◌, ◌≤◌}
use native.Mathlib.Nat.{mul-zero, mul-one}
use native.Mathlib.Decide.{ℕ_discrete}
use native.Mathlib.Omega.{arith}
use Rattle.weights.specs.declared.Measure.TheVariants.{Days}
use Rattle.weights.specs.Measures.{days}
use Rattle.weights.proofs.Laws.{at_most, days_lawful}
use Rattle.columns.specs.Columns.{Columns, own_at, with_own}
use Rattle.columns.specs.Acceptance.{acceptance}
use Rattle.provenance.specs.Hypergraph.{Derivation, weight}
use Rattle.provenance.specs.Means.{Follows}
use Rattle.provenance.specs.BestFirst.{labels}
use Rattle.provenance.specs.Counting.{count, total, Raised}
use Rattle.provenance.specs.Paths.{Path}
use Rattle.provenance.proofs.Counting.{raised_total}
use Rattle.provenance.proofs.LowerBound.{bound}
use Rattle.provenance.proofs.Paths.{line-once}
use Rattle.provenance.proofs.Sensitivity.{days_along}
use Rattle.provenance.proofs.Support.{supports}
use Rattle.tables.specs.Table.{hypergraph}
use Rattle.settle.specs.Settling.{answers_of}
use Rattle.settle.proofs.Demands.{answers_fixpoint}
use Rattle.reprice.specs.Demand3.{Pair}
use Rattle.reprice.proofs.Revision.{line_raised}
use Rattle.promises.specs.Figures.{figure_in}
use Rattle.std.specs.Prelude.{Ok}

times_once : (d k : ℕ) → k ≤ 1 → d * k ≤ d
times_once d k h = go (ℕ_discrete k 0)
  where
    go : Dec (k ≡ 0) → d * k ≤ d
    go (yes z) = omega (arith, ap (λ (x : ℕ). d * x) z ∙ mul-zero d)
    go (no n) = let z : k ≡ 1 = omega arith in omega (arith, ap (λ (x : ℕ). d * x) z ∙ mul-one d)

pub pair_raised : (c c' : Columns) (e d : ℕ) → Pair c c' e d → Raised (own_at c) (own_at c') e d
pair_raised c c' e d p = subst (λ (x : Columns). Raised (own_at c) (own_at x) e d) (sym p.raised) (line_raised c e d p.accepted p.numbered)

pub old_figure : (c : Columns) → acceptance c ≡ Ok tt → {v : ℕ} (t : Derivation (hypergraph c) v) → Follows (labels (answers_of Days c)) t → figure_in Days c v ≡ weight days (own_at c) t
old_figure c p t f = sym (supports days_lawful (answers_fixpoint Days c p) t f).weighs

module _ (c c' : Columns) (e d : ℕ) (p : Pair c c' e d) {v : ℕ} (t : Derivation (hypergraph c) v) where
  -- one hypergraph: figures have no part in it
  pub new_figure : figure_in Days c' v ≤ weight days (own_at c') t
  new_figure =
      subst (λ (x : Columns). figure_in Days x v ≤ weight days (own_at x) t) (sym p.raised)
      (at_most (bound days_lawful (answers_fixpoint Days (with_own c e (own_at c e + d)) (subst (λ (x : Columns). acceptance x ≡ Ok tt) p.raised p.accepted')) t).low)

  module _ (f : Follows (labels (answers_of Days c)) t) where
    pub rising_path : (es : List ℕ) → Path t es → total (own_at c') es ≤ total (own_at c) es + d
    rising_path es q =
        let once = line-once days_lawful (answers_fixpoint Days c p.accepted) t f es q e in
        omega (arith, raised_total (pair_raised c c' e d p) es, times_once d (count e es) once)

    pub rising_days : weight days (own_at c') t ≤ weight days (own_at c) t + d
    rising_days =
        let new = days_along (own_at c') t in
        let old = days_along (own_at c) t in
        omega (arith, new.reached, old.most new.lines new.path, rising_path new.lines new.path)
