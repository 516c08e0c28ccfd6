-- Before the first turn: the columns to work in are clear, so nothing waits and nothing is queued. Assumes nothing.
use Prim.Native.Nat.{ℕ, ◌*◌, ◌<◌}
use mathlib.Core.Path.{◌≡◌, sym, ◌∙◌, ap, subst}
use mathlib.Core.List.{List}
use native.Mathlib.Omega.{arith}
use lib.ListN.{length, length-replicate, get_or-replicate}
use Rattle.weights.specs.declared.Measure.{Measure}
use Rattle.columns.specs.Columns.{Answers, Columns, cell}
use Rattle.provenance.specs.BestFirst.{turns}
use Rattle.provenance.proofs.Existence.{zeros}
use Rattle.minima.specs.Minima.{none, Grouped}
use Rattle.minima.proofs.Laws.{no_keys_grouped}
use Rattle.queue.specs.Keys.{heavy}
use Rattle.waiting.specs.Lines.{end, Lines, room_of, Offerable, Rested, Empty}
use Rattle.waiting.proofs.Steps.{room_power, enough, edge-room}
use Rattle.bestfirst.specs.Turns.{Blank, Begun, Cleared}

module _ {m : Measure} {c : Columns} {a : Answers} {s : Lines} {q : List ℕ} (u : Blank m c a) (k : Cleared m (room_of c) s q) where
  light : (v : ℕ) → cell a.weights v < heavy
  unfolding turns
  light v = omega (arith, ap (λ (b : Answers). cell b.weights v) u.blank, zeros c.vertices v)

  deep_none : (v : ℕ) → cell a.depths v ≡ 0
  unfolding turns
  deep_none v = ap (λ (b : Answers). cell b.depths v) u.blank ∙ zeros c.vertices v

  pub offerable : Offerable c a.weights a.depths q
  offerable = record {
    usable = u.turning.usable;
    fitted = record { weight = light; depth = λ v. omega (arith, u.turning.usable.shallow v) };
    grouped = subst Grouped (sym k.queue) (no_keys_grouped (room_of c).vertices (room_power c.vertices (length c.heads)));
    sized = ap length k.queue ∙ length-replicate (2 * (room_of c).vertices) none;
  }

  pub emptied : Empty m c a.depths s q
  emptied = record {
    sizes = k.sizes;
    unmade = deep_none;
    untouched = λ e h. k.untouched e (edge-room offerable e h);
    empty = λ v h. ap (λ (z : List ℕ). cell z v) k.first ∙ get_or-replicate (room_of c).vertices v end 0 (omega (arith, (enough offerable).vertices));
    nothing = k.queue;
  }

  pub ready : {s' : Lines} {q' : List ℕ} → Rested m c a.weights a.depths s' q' → Begun m c a s' q'
  ready r = record { unmade = u; waits = record { light = light; rested = r } }
