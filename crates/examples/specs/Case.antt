-- A worked example: a call, from answer columns of filler, and what must come out of it, by an equation with the outcome that the call's contract cites. Assumes
-- nothing: these are definitions.
use Rattle.std.specs.Prelude.{◌≡◌, List, [], ◌∷◌, ◌++◌, ℕ, ◌+◌, ℤ, ◌≤ℤ◌, length, drop, Ok}
use Rattle.std.proofs.Math.IntN.{sub_ℕ}
use Rattle.weights.specs.declared.Measure.{Measure}
use Rattle.weights.specs.declared.Measure.TheVariants.{Cost}
use Rattle.weights.specs.declared.State.{State}
use Rattle.weights.specs.Labels.{state_of}
use Rattle.provenance.specs.Counting.{bill_change}
use Rattle.columns.specs.Columns.{Entries, Columns, own_at, with_own}
use Rattle.settle.specs.Settling.{answers_of, settled}
use Rattle.reprice.specs.Repricing.{repriced, stricken, restored}
use Rattle.reprice.specs.Demand3.{labels_of, Pair, Rise}
use Rattle.reprice.specs.Revision.{Revised}
use Rattle.bill.specs.Billing.{bill_of, billed}
use Rattle.bill.specs.Rises.{count_in}

pub data Case : Type 0 where
  -- settling leaves these answers, of these states
  settles : Measure → Columns → (filler left : Entries) → List State → Case
  -- once settled, the bill of part v stands at the start of the room
  prints : Measure → Columns → (filler : Entries) → (v : ℕ) → (room bill : List ℕ) → Case
  -- once settled, repricing line e to w leaves these own figures and answers
  reprices : Measure → Columns → (filler : Entries) → (e w : ℕ) → (own : List ℕ) → (left : Entries) → Case
  -- once settled, striking line e, or restoring it, leaves these strike marks and answers; the own figures are lent to be read alone
  strikes : Measure → Columns → (filler : Entries) → (e : ℕ) → (marks : List ℕ) → (left : Entries) → Case
  restores : Measure → Columns → (filler : Entries) → (e : ℕ) → (marks : List ℕ) → (left : Entries) → Case
  -- line e raised by d carries part v from figure w to w', and stands `old` times in its bill before and `new` times after
  raises : Measure → Columns → (e d v w w' old new : ℕ) → Case
  -- a letter carries part v from figure w to w'; the lines' changes come to `most` in its bill before and to `least` in its bill after
  revises : (c c' : Columns) (v w w' : ℕ) (least most : ℤ) → Case

-- the states of parts of these figures and depths
unfoldable pub states : (weights depths : List ℕ) → List State
states [] ds = []
states (w ∷ ws) [] = []
states (w ∷ ws) (d ∷ ds) = state_of w d ∷ states ws ds

pub record Settles (m : Measure) (c : Columns) (filler left : Entries) (ss : List State) : Type 0 where
  pub outcome : settled m c filler ≡ record { result = Ok tt; left = left }
  pub told : states left.labels.weights left.labels.depths ≡ ss

-- the two tables are a pair of demand 3, and the rise keeps to its bounds
pub record Raises (m : Measure) (c : Columns) (e d v w w' old new : ℕ) : Type 0 where
  pub pair : Pair c (with_own c e (own_at c e + d)) e d
  pub before : (labels_of m c v).weight.0 ≡ w
  pub after : (labels_of m (with_own c e (own_at c e + d)) v).weight.0 ≡ w'
  pub old_count : count_in m c e v ≡ old
  pub new_count : count_in m (with_own c e (own_at c e + d)) e v ≡ new
  pub bounds : Rise m d w w' old new

-- the two tables are those of a price letter, and the change keeps to its bounds
pub record Revises (c c' : Columns) (v w w' : ℕ) (least most : ℤ) : Type 0 where
  pub letter : Revised c c'
  pub before : (labels_of Cost c v).weight.0 ≡ w
  pub after : (labels_of Cost c' v).weight.0 ≡ w'
  pub new_sum : bill_change (own_at c) (own_at c') (length c.heads) (bill_of c' (answers_of Cost c') v) ≡ least
  pub old_sum : bill_change (own_at c) (own_at c') (length c.heads) (bill_of c (answers_of Cost c) v) ≡ most
  pub at_least : least ≤ℤ sub_ℕ w' w
  pub at_most : sub_ℕ w' w ≤ℤ most

-- what a case says
abbrev pub Holds : Case → Type 0
Holds (settles m c filler left ss) = Settles m c filler left ss
Holds (prints m c filler v room bill) = billed m c (settled m c filler).left v room ≡ record { result = Ok (length bill); left = bill ++ drop (length bill) room }
Holds (reprices m c filler e w own left) = repriced m c (settled m c filler).left e w ≡ record { result = Ok tt; own = own; left = left }
Holds (strikes m c filler e marks left) = stricken m c (settled m c filler).left e ≡ record { result = Ok tt; strikes = marks; left = left }
Holds (restores m c filler e marks left) = restored m c (settled m c filler).left e ≡ record { result = Ok tt; strikes = marks; left = left }
Holds (raises m c e d v w w' old new) = Raises m c e d v w w' old new
Holds (revises c c' v w w' least most) = Revises c c' v w w' least most

-- every case of a list holds
unfoldable pub AllHold : List Case → Type 0
AllHold [] = Unit {0}
AllHold (p ∷ ps) = Holds p × AllHold ps
