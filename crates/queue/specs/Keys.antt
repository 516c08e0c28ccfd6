-- A label as one number, its key: 40 bits of the weight's rank, 11 of depth and 12 of hyperedge, so that keys are compared where labels would be. An offer of
-- nothing has the key of none. Assumes nothing: these are definitions.
use Rattle.std.specs.Prelude.{ℕ, ◌+◌, ◌*◌, ◌-◌, ◌/◌, ◌%◌, ◌<◌, Some, None}
use Rattle.weights.specs.declared.Measure.{Measure}
use Rattle.weights.specs.declared.Measure.TheVariants.{Cost, Days, Grade}
use Rattle.weights.specs.declared.Label.{Label}
use Rattle.weights.specs.Labels.{label}
use Rattle.minima.specs.Minima.{none}
use Rattle.weights.specs.Offers.{Offer}

-- weights below it have room in a key
abbrev pub heavy : ℕ
heavy = 1_099_511_627_776

-- the rank of a weight: a number whose order is the measure's, so in grade the numbers that have room are mirrored
abbrev pub rank : Measure → ℕ → ℕ
rank Cost w = w
rank Days w = w
rank Grade w = heavy - 1 - w

abbrev pub packed : Measure → Label → ℕ
packed m l = rank m l.weight.0 * 8388608 + l.depth * 4096 + l.edge.0

abbrev pub unpacked : Measure → ℕ → Label
unpacked m k = label (rank m (k / 8388608)) (k / 4096 % 2048) (k % 4096)

-- a label whose numbers have room in a key
pub record Fits (l : Label) : Type 0 where
  pub weight : l.weight.0 < heavy
  pub depth : l.depth < 2048
  pub edge : l.edge.0 < 4096

pub data Fitting : Offer → Type 0 where
  nothing : Fitting None
  found : {l : Label} → Fits l → Fitting (Some l)

abbrev pub key_of : Measure → Offer → ℕ
key_of m None = none
key_of m (Some l) = packed m l
