-- What a line offers whose weights were summed as they are and capped at the end: what it offers where every sum is capped. It has room in a key. Assumes nothing.
use mathlib.Core.Path.{◌≡◌, sym, ◌∙◌, ap}
use mathlib.Core.Bool.{Bool, true, false}
use mathlib.Core.List.{List}
use Prim.Native.Nat.{ℕ, ◌+◌, ◌≤◌, ◌<◌, max}
use native.Mathlib.Omega.{arith}
use lib.ListN.{length}
use Rattle.weights.specs.declared.Measure.{Measure}
use Rattle.weights.specs.Choice.{pick}
use Rattle.weights.specs.Figures.{greatest}
use Rattle.weights.specs.Labels.{label}
use Rattle.weights.specs.Measures.{Algebra, algebra, fold, weigh}
use Rattle.weights.proofs.Laws.{lawful, below_over}
use Rattle.weights.proofs.Weighing.{weigh_within}
use Rattle.columns.specs.Acceptance.{most_vertices, most_edges}
use Rattle.columns.specs.Columns.{part, cell}
use Rattle.provenance.specs.Labelling.{each, greatest_depth, none_zero, yield, offer_of}
use Rattle.provenance.proofs.Existence.{greatest_at_most}
use Rattle.offers.specs.Passing.{rest, Carried}
use Rattle.offers.proofs.Passing.{alone, carried_stop, carried_end}
use Rattle.queue.specs.Keys.{heavy, Fits, Fitting, nothing, found}
use Rattle.std.specs.Prelude.{Some, None}

-- the weight of a line has room in a key
pub weigh_below : (m : Measure) (own : ℕ) (ws : List ℕ) → weigh (algebra m) own ws < heavy
weigh_below m own ws = omega (arith, below_over m (weigh_within (lawful m) own ws))

-- so has what it offers
pub offer_fits : (m : Measure) (live : Bool) (own : ℕ) (tail : List ℕ) (w d : ℕ → ℕ) (e : ℕ) → ((v : ℕ) → d v ≤ most_vertices) → e < most_edges
    → Fitting (offer_of (algebra m) live own tail w d e)
unfolding offer_of
offer_fits m live own tail w d e f h = go live (none_zero d tail)
  where
    fits : Fits (yield (algebra m) own tail w d e)
    fits = record { weight = weigh_below m own (each w tail); depth = omega (arith, greatest_at_most d most_vertices f tail); edge = h }

    go : (p q : Bool) → Fitting (pick p (pick q (Some (yield (algebra m) own tail w d e)) None) None)
    go false q = nothing
    go true false = nothing
    go true true = found fits

-- the own weight of a line that lists nothing has room in a key, and is what the line offers
pub bought_fits : {own e : ℕ} → own ≤ greatest → e < most_edges → Fits (label own 1 e)
bought_fits h i = record { weight = omega arith; depth = omega arith; edge = i }

pub bought : (m : Measure) {own : ℕ} (w d : ℕ → ℕ) {e : ℕ} (offset : ℕ) {size : ℕ} (tails : List ℕ) → own ≤ greatest → size ≡ 0
    → Some (label own 1 e) ≡ offer_of (algebra m) true own (part offset size tails) w d e
unfolding offer_of weigh fold each greatest_depth none_zero
bought m {own} w d {e} offset tails h z =
    ap (λ (x : ℕ). Some (label x 1 e)) (sym (alone m own h)) ∙ ap (λ (k : ℕ). offer_of (algebra m) true own (part offset k tails) w d e) (sym z)

module _ (A : Algebra) (e own : ℕ) (w d : ℕ → ℕ) (tail : List ℕ) where
  whole : rest A e own w d A.unit 0 tail ≡ offer_of A true own tail w d e
  unfolding rest offer_of weigh
  whole = let z : max 0 (greatest_depth d tail) ≡ greatest_depth d tail = omega arith in rw z

  module _ {i j g : ℕ} (p : Carried A w d tail i j g) where
    -- a vertex that is unmade is reached
    pub stops : i < length tail → d (cell tail i) ≡ 0 → None ≡ offer_of A true own tail w d e
    stops h z = carried_stop p e own h z ∙ whole

    -- the end is reached, and x is the weight
    pub ended : {x : ℕ} → x ≡ A.finish own j → length tail ≤ i → Some (label x (g + 1) e) ≡ offer_of A true own tail w d e
    ended q h = rw q (carried_end p e own h ∙ whole)
