-- Demand 2. Every entry that settling leaves is the one that the paper defines by make-ups, and its figure is what document 000 says: in cost the provenance, in days the
-- best weight. Assumes nothing.
use mathlib.Core.Path.{◌≡◌, refl, sym, ◌∙◌, subst}
use mathlib.Core.Logic.{◌↔◌}
use mathlib.Core.List.{List}
use Prim.Native.Nat.{ℕ, ◌≤◌}
use native.Mathlib.Omega.{arith}
use Rattle.weights.specs.declared.Measure.{Measure}
use Rattle.weights.specs.declared.Measure.TheVariants.{Cost, Days, Grade}
use Rattle.weights.specs.declared.Label.{Label}
use Rattle.weights.specs.Measures.{algebra}
use Rattle.weights.specs.Figures.{capped}
use Rattle.weights.specs.Labels.{unmade}
use Rattle.weights.proofs.Laws.{lawful}
use Rattle.columns.specs.Columns.{Entries, SizedEntries, Columns, own_at}
use Rattle.columns.specs.Acceptance.{acceptance}
use Rattle.columns.specs.Right.{RightTable, RightLent}
use Rattle.columns.specs.Gaps.{Gapped, with_tails}
use Rattle.columns.proofs.Accepted.{columns_accept}
use Rattle.columns.proofs.Exactly.{accepted_exactly, lent_exactly}
use Rattle.semiring.specs.Semiring.{finite}
use Rattle.semiring.specs.Chain.{present}
use Rattle.semiring.specs.Datalog.{Provenance, BestWeight}
use Rattle.provenance.specs.Labelling.{Made}
use Rattle.provenance.specs.Means.{Means, underivable, derivable}
use Rattle.provenance.specs.BestFirst.{labels}
use Rattle.provenance.specs.Semirings.{valuation}
use Rattle.provenance.specs.Program.{part, program}
use Rattle.provenance.specs.BestWeight.{weighted}
use Rattle.provenance.specs.Support.{ChosenDerivation, Supports}
use Rattle.provenance.proofs.Meaning.{means_unique}
use Rattle.tables.specs.Table.{hypergraph}
use Rattle.settle.specs.Settling.{answers_of, entries_of, settled}
use Rattle.settle.specs.Checking.{checked}
use Rattle.settle.specs.Defined.{AllMean}
use Rattle.settle.specs.States.{StateMeans}
use Rattle.settle.specs.Worth.{Worth}
use Rattle.settle.proofs.Demands.{entries_mean, entries_sized, settled_left, settled_result_lem, demand_2, yes_only}
use Rattle.settle.proofs.Exactly.{demand_entry, yes_exactly, no_exactly}
use Rattle.settle.proofs.States.{made_deep, settled_state}
use Rattle.settle.proofs.Worth.{grade_provenance}
use Rattle.settle.proofs.Gaps.{gaps_settled, gaps_checked}
use Rattle.std.specs.Prelude.{Ok, true, false}

-- What settling leaves -----------------------------------------------------------------------------------------------------------------------------------------------

-- settling is accepted exactly where none of 1 to 7 applies: it turns no right table away
pub settles_exactly : (m : Measure) (c : Columns) (a : Entries) → ((settled m c a).result ≡ Ok tt) ↔ RightLent c a
settles_exactly m c a = (λ h. (lent_exactly c a).0 (sym (settled_result_lem m c a) ∙ h), λ h. settled_result_lem m c a ∙ (lent_exactly c a).1 h)

-- the answers of a right table are those that the paper defines, and no other columns of n places are
pub answers_exactly : (m : Measure) (c : Columns) → RightTable c → (a : Entries) → (a ≡ entries_of m c) ↔ (SizedEntries c.vertices a × AllMean m c a)
answers_exactly m c t a = (mean, same)
  where
    p : acceptance c ≡ Ok tt
    p = (accepted_exactly c).1 t

    mean : a ≡ entries_of m c → SizedEntries c.vertices a × AllMean m c a
    mean q = subst (λ (x : Entries). SizedEntries c.vertices x × AllMean m c x) (sym q) (entries_sized m c p, λ v h. demand_entry (entries_mean m c p v))

    same : SizedEntries c.vertices a × AllMean m c a → a ≡ entries_of m c
    same (s, all) = yes_only m c a ((yes_exactly m c a).1 (record { accepted = columns_accept c a p s; means = all }))

-- three of their columns are what demand 3 compares
pub answers_labels : (m : Measure) (c : Columns) → (entries_of m c).labels ≡ answers_of m c
unfolding entries_of
answers_labels m c = refl

module _ (m : Measure) (c : Columns) (a : Entries) (h : (settled m c a).result ≡ Ok tt) where
  pub settled_answers : (settled m c a).left ≡ entries_of m c
  settled_answers = settled_left m c a (sym (settled_result_lem m c a) ∙ h)

  -- "Make-ups, figures, depth": an entry is unmade where there is no make-up; else a thrifty make-up has its figure, depth and line, none is better, no thrifty one is
  -- less deep, and no thrifty one of that depth has a lower line at its root
  pub entry_means : (v : ℕ) → Means (algebra m) (hypergraph c) (own_at c) (labels (settled m c a).left.labels v) v
  entry_means v = (demand_2 m c a h v).means

  -- and this fixes it
  pub entry_fixed : (v : ℕ) (l : Label) → Means (algebra m) (hypergraph c) (own_at c) l v → l ≡ labels (settled m c a).left.labels v
  entry_fixed v l p = means_unique (lawful m) l _ p (entry_means v)

  -- "Its chosen make-up uses the chosen line of every part in it": every part that is not unmade has one; it is thrifty, and has the part's figure and depth
  pub entry_chosen : (v : ℕ) → Made (labels (settled m c a).left.labels v)
      → (x : ChosenDerivation (hypergraph c) (labels (settled m c a).left.labels) v) × Supports (algebra m) (own_at c) (labels (settled m c a).left.labels) x.tree
  entry_chosen v k = let g = demand_2 m c a h v in (g.chosen k, g.supports k)

  -- a depth is at most n
  pub entry_shallow : (v : ℕ) → (labels (settled m c a).left.labels v).depth ≤ c.vertices
  entry_shallow v = (demand_2 m c a h v).shallow

  -- "Each part's entry holds its state (made, over or unmade)": over if the plain sum of every make-up is above the ceiling, unmade if there is none
  pub entry_state : (v : ℕ) → StateMeans m c (labels (settled m c a).left.labels v) v
  entry_state = settled_state m c a h

  -- "depth 0 occurs only for unmade", which "is figure 0, depth 0, line 0"
  pub entry_unmade : (v : ℕ) → (labels (settled m c a).left.labels v).depth ≡ 0 → labels (settled m c a).left.labels v ≡ unmade
  entry_unmade v z = go (entry_means v)
    where
      go : Means (algebra m) (hypergraph c) (own_at c) (labels (settled m c a).left.labels v) v → labels (settled m c a).left.labels v ≡ unmade
      go (underivable e n) = e
      go (derivable x) = absurd (omega (arith, made_deep (entry_means v) x.shown))

  -- The source: in cost and grade the figure is Definition 5's provenance, the sum over all derivations of the product over leaves; in days it is Definition 10's best
  -- weight, the sum over all derivations of their weights; cost and days up to the ceiling, and unmade is the empty sum. That these are semirings, Paper says
  pub entry_worth : (v : ℕ) → Worth m c (labels (settled m c a).left.labels v) v
  entry_worth v = (demand_2 m c a h v).worth

-- in plain numbers: in cost the provenance, in the tropical semiring, is a number x, and in days the best weight, on the bottleneck semiring (document 003, Semiring 5);
-- the figure is x up to the ceiling, else over. In grade the provenance, in the semiring of grades, is the figure
module _ (c : Columns) (a : Entries) (v : ℕ) where
  pub cost_worth : (settled Cost c a).result ≡ Ok tt → let l = labels (settled Cost c a).left.labels v in Made l
      → (x : ℕ) × Provenance (program (valuation Cost) (hypergraph c) (own_at c)) (part v) (finite x) × (l.weight.0 ≡ capped x)
  cost_worth h = (demand_2 Cost c a h v).worth.made

  pub days_worth : (settled Days c a).result ≡ Ok tt → let l = labels (settled Days c a).left.labels v in Made l
      → (x : ℕ) × BestWeight (weighted (valuation Days) (hypergraph c) (own_at c)) v (finite x) × (l.weight.0 ≡ capped x)
  days_worth h = (demand_2 Days c a h v).worth.made

  pub grade_worth : (settled Grade c a).result ≡ Ok tt → let l = labels (settled Grade c a).left.labels v in Made l
      → Provenance (program (valuation Grade) (hypergraph c) (own_at c)) (part v) (present (finite l.weight.0))
  grade_worth h = grade_provenance c a h v

-- The answer check ---------------------------------------------------------------------------------------------------------------------------------------------------

module _ (m : Measure) (c : Columns) (a : Entries) where
  -- "yes exactly if they are the ones defined above, whoever wrote them"
  pub says_yes : (checked m c a ≡ Ok true) ↔ (RightLent c a × AllMean m c a)
  says_yes = (
    λ h. let d = (yes_exactly m c a).0 h in ((lent_exactly c a).0 d.accepted, d.means),
    λ (l, all). (yes_exactly m c a).1 (record { accepted = (lent_exactly c a).1 l; means = all }),
  )

  -- "Checking answers returns no, and not 8, for wrong ones"
  pub says_no : (checked m c a ≡ Ok false) ↔ (RightLent c a × ¬ AllMean m c a)
  says_no = (λ h. let d = (no_exactly m c a).0 h in ((lent_exactly c a).0 d.0, d.1), λ (l, n). (no_exactly m c a).1 ((lent_exactly c a).1 l, n))

-- Gaps -----------------------------------------------------------------------------------------------------------------------------------------------------------------

-- "Gaps may stand between spans and their contents are never looked at": with other contents in the gaps settling and the answer check have the same outcome, accepted or
-- refused
module _ (m : Measure) (c : Columns) (tails : List ℕ) (g : Gapped c tails) (a : Entries) where
  pub settles_over_gaps : settled m c a ≡ settled m (with_tails c tails) a
  settles_over_gaps = gaps_settled m c tails g a

  pub checks_over_gaps : checked m c a ≡ checked m (with_tails c tails) a
  checks_over_gaps = gaps_checked m c tails g a
