-- Document 02, change request 2026-03. Assumes nothing.
use mathlib.Core.Path.{◌≡◌, refl}
use mathlib.Core.List.{List, [], ◌∷◌}
use Prim.Native.Nat.{ℕ, ◌+◌, ◌≤◌}
use native.Mathlib.Omega.{arith}
use Rattle.weights.specs.declared.Measure.{Measure}
use Rattle.weights.specs.declared.Measure.TheVariants.{Days}
use Rattle.weights.specs.declared.State.TheVariants.{Made, Unmade}
use Rattle.weights.specs.Figures.{capped}
use Rattle.weights.specs.Measures.{days, weigh}
use Rattle.weights.proofs.Laws.{lawful}
use Rattle.columns.specs.Columns.{Entries, Columns, entries, own_at}
use Rattle.columns.specs.Worked.{worked}
use Rattle.columns.specs.Right.{RightTable}
use Rattle.columns.proofs.Exactly.{accepted_exactly}
use Rattle.semiring.specs.Semiring.{Extended, finite, extend, product}
use Rattle.semiring.specs.Chain.{bottleneck}
use Rattle.semiring.specs.Datalog.{BestWeight}
use Rattle.provenance.specs.Hypergraph.{Hypergraph, Stands, Derivation, Derivations, node, weight, weights}
use Rattle.provenance.specs.Labelling.{greatest_depth as greatest_of}
use Rattle.provenance.specs.Means.{Follows}
use Rattle.provenance.specs.BestFirst.{labels}
use Rattle.provenance.specs.Counting.{count, total}
use Rattle.provenance.specs.Semirings.{valuation, Valued}
use Rattle.provenance.specs.BestWeight.{weighted}
use Rattle.provenance.specs.Paths.{Path, Greatest}
use Rattle.provenance.proofs.Semirings.{weighs}
use Rattle.provenance.proofs.BestWeight.{best_weight}
use Rattle.provenance.proofs.Paths.{line-once, fold_greatest}
use Rattle.provenance.proofs.Sensitivity.{days_along}
use Rattle.tables.specs.Table.{hypergraph}
use Rattle.tables.proofs.Formed.{well_formed}
use Rattle.settle.specs.Settling.{answers_of, settled}
use Rattle.settle.proofs.Demands.{answers_fixpoint, demand_2}
use Rattle.reprice.specs.Demand3.{Pair}
use Rattle.bill.specs.Listing.{amount}
use Rattle.examples.specs.Case.{Settles, AllHold}
use Rattle.examples.specs.Paper.{five, cases}
use Rattle.examples.proofs.Paper.{every_case_holds}
use Rattle.promises.specs.Figures.{figure_in}
use Rattle.promises.proofs.Rising.{rising_path, rising_days, new_figure, old_figure}
use Rattle.std.specs.Prelude.{Ok}

-- 2026-03: the bench starts when the last part arrives ---------------------------------------------------------------------------------------------------------------

module _ {H : Hypergraph} (own : ℕ → ℕ) {v : ℕ} where
  -- "the days of a line are its own figure plus the greatest of its parts' figures (0 if it has none). A sum above the ceiling is over, as in cost"
  pub days_are : (e : ℕ) (s : Stands H e) (h : H.head e ≡ v) (ds : Derivations H (H.tail e))
      → weight days own (node {v = v} e s h ds) ≡ capped (own e + greatest_of (λ w. w) (weights days own ds))
  unfolding weight weigh
  days_are e s h ds = omega (arith, fold_greatest 0 (weights days own ds))

  -- so of the whole make-up the greatest that a downward path comes to
  pub days_come_to : (t : Derivation H v) → Greatest (amount own) t (weight days own t)
  days_come_to = days_along own

-- "The meaning of days, in demand 2 too, now rests on Definition 7's weight function": a line's is its own figure added to the product, which is the greatest, of the weights
-- of its parts in the bottleneck semiring; and a part's figure is its best weight, up to the ceiling, in every measure; in days that is what demand 2 says
pub days_weight_function : (own : ℕ) (xs : List Extended) → (valuation Days).function own xs ≡ extend ◌+◌ (finite own) (product bottleneck xs)
days_weight_function own xs = refl

pub figures_mean : (m : Measure) (c : Columns) → RightTable c → (v : ℕ) → Valued (valuation m) (BestWeight (weighted (valuation m) (hypergraph c) (own_at c)) v) (labels (answers_of m c) v)
figures_mean m c r = let p = (accepted_exactly c).1 r in best_weight (weighs m) (hypergraph c) (own_at c) (lawful m) (well_formed c p) (answers_fixpoint m c p)

pub days_mean : (c : Columns) (a : Entries) → (settled Days c a).result ≡ Ok tt → (v : ℕ)
    → Valued (valuation Days) (BestWeight (weighted (valuation Days) (hypergraph c) (own_at c)) v) (labels (settled Days c a).left.labels v)
days_mean c a h v = (demand_2 Days c a h v).worth

-- "Example P4 becomes 1700 for parts 2 and 3"
pub days_p4 : Settles Days worked five (entries (1200 ∷ 300 ∷ 1700 ∷ 1700 ∷ 0 ∷ []) (1 ∷ 1 ∷ 2 ∷ 3 ∷ 0 ∷ []) (0 ∷ 1 ∷ 2 ∷ 4 ∷ 0 ∷ []) (1 ∷ 1 ∷ 2 ∷ 4 ∷ 0 ∷ []))
    (Made ∷ Made ∷ Made ∷ Made ∷ Unmade ∷ [])
unfolding cases AllHold
days_p4 = every_case_holds.1.1.1.1.0

-- "The rise in days … is still 0 to d, now for parts within the ceiling in both tables" (Demand3, `days_rises`); "the reason must be shown, as a line stands at most once on
-- any downward path of a chosen make-up"
pub stands_once : (m : Measure) (c : Columns) → RightTable c → {v : ℕ} (t : Derivation (hypergraph c) v) → Follows (labels (answers_of m c)) t
    → (es : List ℕ) → Path t es → (e : ℕ) → count e es ≤ 1
stands_once m c r = line-once (lawful m) (answers_fixpoint m c ((accepted_exactly c).1 r))

-- so where the line goes up by d, no downward path of the old chosen make-up comes to more than d above what it came to. Hence the days of that make-up rise by at most d (by
-- `days_come_to`). They were the old figure, and the new figure is at most what they are now
module _ (c c' : Columns) (e d : ℕ) (p : Pair c c' e d) {v : ℕ} (t : Derivation (hypergraph c) v) (f : Follows (labels (answers_of Days c)) t) where
  pub path_rises : (es : List ℕ) → Path t es → total (own_at c') es ≤ total (own_at c) es + d
  path_rises = rising_path c c' e d p t f

  pub make_up_rises : weight days (own_at c') t ≤ weight days (own_at c) t + d
  make_up_rises = rising_days c c' e d p t f

  pub figure_at_most : figure_in Days c' v ≤ weight days (own_at c') t
  figure_at_most = new_figure c c' e d p t

  pub figure_was : figure_in Days c v ≡ weight days (own_at c) t
  figure_was = old_figure c p.accepted t f
