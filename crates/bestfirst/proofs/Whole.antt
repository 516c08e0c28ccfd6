-- From a turn to the whole: the laws by which the turns go. Assumes nothing.
use mathlib.Core.Path.{◌≡◌, sym, ◌∙◌, ap, subst}
use mathlib.Core.List.{List}
use Prim.Native.Nat.{ℕ, ◌+◌, ◌≤◌, ◌<◌}
use native.Mathlib.Numerals.{add-one}
use native.Mathlib.Omega.{arith}
use lib.ListN.{length}
use Rattle.weights.specs.declared.Measure.{Measure}
use Rattle.weights.specs.Measures.{algebra}
use Rattle.weights.proofs.Laws.{lawful}
use Rattle.columns.specs.Columns.{Answers, Sized, Columns, own_at}
use Rattle.provenance.specs.BestFirst.{turn, turns, best_first}
use Rattle.provenance.proofs.Existence.{After, after}
use Rattle.tables.specs.Table.{hypergraph}
use Rattle.columns.specs.Acceptance.{acceptance}
use Rattle.columns.proofs.Accepted.{table_accepted}
use Rattle.tables.proofs.Formed.{well_formed}
use Rattle.columns.specs.Lent.{Turning}
use Rattle.columns.proofs.Usable.{same_table, turning_columns}
use Rattle.waiting.specs.Lines.{Lines}
use Rattle.bestfirst.specs.Turns.{Waits, Underway}
use Rattle.std.specs.Prelude.{Ok}

-- k turns on a table
abbrev pub turns_of : Measure → Columns → ℕ → Answers
turns_of m c = turns (algebra m) (hypergraph c) (own_at c)

-- a turn for each vertex
pub all-turns : (m : Measure) (c : Columns) {a : Answers} {k : ℕ} → a ≡ turns_of m c k → k ≡ c.vertices → a ≡ best_first (algebra m) (hypergraph c) (own_at c)
unfolding best_first
all-turns m c p e = p ∙ ap (turns_of m c) e

module _ (m : Measure) (c : Columns) (p : acceptance c ≡ Ok tt) {a : Answers} (k : ℕ) (q : a ≡ turns_of m c k) where
  -- after k turns
  so_far : After (algebra m) (hypergraph c) (own_at c) k a
  so_far = subst (After (algebra m) (hypergraph c) (own_at c) k) (sym q) (after (lawful m) (own_at c) (well_formed c p) k)

  pub sizes : Sized c.vertices a
  sizes = so_far.size

  pub turning : k ≤ c.vertices → Turning (same_table c (length a.depths)) a
  turning h = turning_columns c a p sizes (λ v. omega (arith, so_far.shallow v, (table_accepted c p).few))

  -- before the next turn
  pub underway : {s : Lines} {q : List ℕ} → k < c.vertices → Waits m c a.weights a.depths s q → Underway m (same_table c (length a.depths)) a s q
  underway {s} {q} h w =
      subst (λ (n : ℕ). Underway m (same_table c n) a s q) (sym sizes.depths) (record {
        turning = subst (λ (n : ℕ). Turning (same_table c n) a) sizes.depths (turning (omega arith));
        taken = k;
        more = h;
        shallow = so_far.shallow;
        waits = w;
      })

  pub waits_on : {ws ds : List ℕ} {s : Lines} {q : List ℕ} → Waits m (same_table c (length a.depths)) ws ds s q → Waits m c ws ds s q
  waits_on {ws} {ds} {s} {q} w = subst (λ (n : ℕ). Waits m (same_table c n) ws ds s q) sizes.depths w

  -- one turn more
  pub turns_more : {b : Answers} → b ≡ turn (algebra m) (hypergraph (same_table c (length a.depths))) (own_at c) a → b ≡ turns_of m c (k + 1)
  unfolding turns
  turns_more {b} t =
      let t' : b ≡ turn (algebra m) (hypergraph c) (own_at c) a = subst (λ (n : ℕ). b ≡ turn (algebra m) (hypergraph (same_table c n)) (own_at c) a) sizes.depths t in
      t' ∙ rw (add-one, ← q)
