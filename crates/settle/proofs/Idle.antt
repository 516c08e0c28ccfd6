-- The answers do not depend on the own figure of a struck line. Document 02, 2026-02: a struck line keeps its figure. Assumes nothing.
use mathlib.Core.Path.{◌≡◌}
use mathlib.Core.Bool.{true}
use Prim.Native.Nat.{ℕ}
use Rattle.weights.specs.declared.Measure.{Measure}
use Rattle.weights.specs.Figures.{is_struck_mark}
use Rattle.weights.specs.Measures.{algebra}
use Rattle.columns.specs.Columns.{Columns, strike_at, with_own}
use Rattle.provenance.specs.BestFirst.{labels}
use Rattle.provenance.specs.Pieces.{piece_column}
use Rattle.tables.specs.Table.{hypergraph}
use Rattle.tables.proofs.Idle.{idle_best_first}
use Rattle.settle.specs.Settling.{answers_of, entries_of}

pub struck_idle : (m : Measure) (c : Columns) (e : ℕ) → is_struck_mark (strike_at c e) ≡ true → (w : ℕ) → answers_of m (with_own c e w) ≡ answers_of m c
unfolding answers_of
struck_idle m c e struck w = idle_best_first c e w struck (algebra m)

pub struck_idle_entries : (m : Measure) (c : Columns) (e : ℕ) → is_struck_mark (strike_at c e) ≡ true → (w : ℕ) → entries_of m (with_own c e w) ≡ entries_of m c
unfolding entries_of
struck_idle_entries m c e struck w =
    let a = struck_idle m c e struck w in
    λ i. record { labels = a i; pieces = piece_column (hypergraph c) (labels (a i)) c.vertices }
