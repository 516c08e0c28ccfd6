-- The order of keys is the order of labels, and a key tells its label. Assumes nothing.
use Prim.Native.Nat.{ℕ, ◌/◌, ◌%◌, ◌≤◌, ◌<◌, min}
use mathlib.Core.Path.{◌≡◌, refl, sym, ◌∙◌, ap}
use mathlib.Core.Bool.{Bool, true, false}
use native.Mathlib.Omega.{arith}
use native.Mathlib.Decide.{dec_le}
use lib.Dec.{leb}
use borrow.Author.Tests.{le-leb, leb-true}
use Rattle.weights.specs.declared.Measure.{Measure}
use Rattle.weights.specs.declared.Measure.TheVariants.{Cost, Days, Grade}
use Rattle.weights.specs.declared.Label.{Label}
use Rattle.weights.specs.Measures.{algebra}
use Rattle.weights.specs.Choice.{pick}
use Rattle.weights.specs.Labels.{ahead_of}
use Rattle.weights.specs.Laws.{NoWorse}
use Rattle.weights.proofs.Laws.{at_most, least, turn, unturn, lawful}
use Rattle.weights.specs.Order.{Ahead, Ranked, ahead, behind}
use Rattle.weights.proofs.Order.{ranked}
use Rattle.provenance.specs.BestFirst.{earlier}
use Rattle.minima.specs.Minima.{none}
use Rattle.queue.specs.Keys.{heavy, rank, packed, unpacked, Fits, Fitting, nothing, found, key_of}
use Rattle.weights.specs.Offers.{Offer}
use Rattle.std.specs.Prelude.{Some}

-- the rank of a weight that has room has room; taken twice it is the weight; and its order is the measure's
pub rank_below : (m : Measure) (w : ℕ) → w < heavy → rank m w < heavy
rank_below Cost w h = h
rank_below Days w h = h
rank_below Grade w h = omega arith

pub rank_twice : (m : Measure) (w : ℕ) → w < heavy → rank m (rank m w) ≡ w
rank_twice Cost w h = refl
rank_twice Days w h = refl
rank_twice Grade w h = omega arith

pub rank_up : (m : Measure) {a b : ℕ} → NoWorse (algebra m).leq a b → rank m a ≤ rank m b
rank_up Cost p = at_most p
rank_up Days p = at_most p
rank_up Grade p = omega (arith, at_most (unturn p))

pub rank_down : (m : Measure) {a b : ℕ} → a < heavy → b < heavy → rank m a ≤ rank m b → NoWorse (algebra m).leq a b
rank_down Cost f g h = least h
rank_down Days f g h = least h
rank_down Grade f g h = turn (least (omega arith))

pub unpacked-packed : (m : Measure) (l : Label) → Fits l → unpacked m (packed m l) ≡ l
unpacked-packed m l f =
    let a = f.depth in
    let b = f.edge in
    let w : packed m l / 8388608 ≡ rank m l.weight.0 = omega arith in
    let p : rank m (packed m l / 8388608) ≡ l.weight.0 = ap (rank m) w ∙ rank_twice m l.weight.0 f.weight in
    let q : packed m l / 4096 % 2048 ≡ l.depth = omega arith in
    let r : packed m l % 4096 ≡ l.edge.0 = omega arith in
    λ i. record { weight = record { 0 = p i }; depth = q i; edge = record { 0 = r i } }

pub below_none : (m : Measure) (l : Label) → Fits l → packed m l < none
below_none m l f = omega (arith, rank_below m l.weight.0 f.weight, f.depth, f.edge)

-- of two labels the one that comes first has the lesser key
pub packed-ahead : (m : Measure) (a b : Label) → Fits a → Fits b → Ahead (algebra m) a b → packed m a ≤ packed m b
packed-ahead m a b f g p = go (dec_le (rank m b.weight.0) (rank m a.weight.0)) (dec_le b.depth a.depth)
  where
    go : Dec (rank m b.weight.0 ≤ rank m a.weight.0) → Dec (b.depth ≤ a.depth) → packed m a ≤ packed m b
    go (no n) d = omega (arith, f.depth, f.edge)
    go (yes h) (no n) = omega (arith, rank_up m p.weight, f.edge)
    go (yes h) (yes k) = omega (arith, rank_up m p.weight, p.depth (rank_down m g.weight f.weight h), p.edge (rank_down m g.weight f.weight h) k)

-- so the first of two offers has the lesser of their keys
pub key_earlier : (m : Measure) {a b : Offer} → Fitting a → Fitting b → key_of m (earlier (algebra m) a b) ≡ min (key_of m a) (key_of m b)
key_earlier m nothing nothing = omega arith
key_earlier m nothing (found {l = l} g) = omega (arith, below_none m l g)
key_earlier m (found {l = l} f) nothing = omega (arith, below_none m l f)
key_earlier m (found {l = a} f) (found {l = b} g) = go (ahead_of (algebra m) a b) (ranked (lawful m) a b)
  where
    go : (t : Bool) → Ranked (algebra m) a b t → key_of m (pick t (Some a) (Some b)) ≡ min (packed m a) (packed m b)
    go true (ahead p) = omega (arith, packed-ahead m a b f g p)
    go false (behind n p) = omega (arith, packed-ahead m b a g f p)

pub fitting_earlier : (m : Measure) {a b : Offer} → Fitting a → Fitting b → Fitting (earlier (algebra m) a b)
fitting_earlier m f nothing = f
fitting_earlier m nothing (found g) = found g
fitting_earlier m (found {l = a} f) (found {l = b} g) = go (ahead_of (algebra m) a b)
  where
    go : (t : Bool) → Fitting (pick t (Some a) (Some b))
    go true = found f
    go false = found g

-- the packed order is the label order
pub packed_order : (m : Measure) (a b : Label) → Fits a → Fits b → ahead_of (algebra m) a b ≡ leb (packed m a) (packed m b)
packed_order m a b f g = go (ahead_of (algebra m) a b) (ranked (lawful m) a b)
  where
    go : (t : Bool) → Ranked (algebra m) a b t → t ≡ leb (packed m a) (packed m b)
    go true (ahead p) = sym (le-leb _ _ (packed-ahead m a b f g p))
    go false (behind n p) = later (leb (packed m a) (packed m b)) refl
      where
        later : (t : Bool) → leb (packed m a) (packed m b) ≡ t → false ≡ t
        later false e = refl
        later true e = absurd (n (ahead_same (leb-true _ _ e)))
          where
            ahead_same : packed m a ≤ packed m b → Ahead (algebra m) a b
            ahead_same h =
                let e : packed m a ≡ packed m b = omega (arith, packed-ahead m b a g f p) in
                let w : rank m a.weight.0 ≡ rank m b.weight.0 = omega (arith, f.depth, f.edge, g.depth, g.edge) in
                let d : a.depth ≡ b.depth = omega (arith, f.edge, g.edge) in
                record { weight = rank_down m f.weight g.weight (omega arith); depth = λ _. omega arith; edge = λ _ _. omega arith }
