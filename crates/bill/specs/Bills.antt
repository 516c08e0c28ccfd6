-- What a bill is: theorems beside the contract. Where a part is accepted, its bill lists its chosen make-up: it is as long as that has nodes, each line stands in it
-- as often as in the make-up, and its own figures come to the part's figure: in cost and grade along the bill, in days along the make-up's downward paths. The paper's "The
-- calls": a bill's length is a count of the chosen make-up, and a line's count is what demand 3 counts. Assumes nothing: these are definitions.
use Rattle.std.specs.Prelude.{◌≡◌, List, ◌++◌, ℕ, length, drop}
use Rattle.weights.specs.declared.Measure.{Measure}
use Rattle.weights.specs.declared.Measure.TheVariants.{Cost, Days, Grade}
use Rattle.weights.specs.declared.Label.{Label}
use Rattle.provenance.specs.Hypergraph.{Derivation, listing}
use Rattle.provenance.specs.Means.{Follows}
use Rattle.columns.specs.Columns.{Entries, Columns, own_at}
use Rattle.provenance.specs.BestFirst.{labels}
use Rattle.provenance.specs.Support.{ChosenDerivation}
use Rattle.provenance.specs.Counting.{count}
use Rattle.provenance.specs.Paths.{Greatest}
use Rattle.tables.specs.Table.{hypergraph}
use Rattle.bill.specs.Billing.{bill_of}
use Rattle.bill.specs.Listing.{nodes, uses, amount, least_own}

-- what the own figures of es, the bill of v, have to do with the part's figure: in cost their sum, capped, is it; in days a downward path of the chosen make-up comes
-- to it, and none to more; in grade the least of them is it
abbrev pub BillWorth : Measure → Columns → (ls : ℕ → Label) (v : ℕ) → List ℕ → Type 0
BillWorth Cost c ls v es = amount (own_at c) es ≡ (ls v).weight.0
BillWorth Days c ls v es = (t : Derivation (hypergraph c) v) → Follows ls t → Greatest (amount (own_at c)) t (ls v).weight.0
BillWorth Grade c ls v es = least_own (own_at c) es ≡ (ls v).weight.0

-- es is the bill of v: v has a chosen make-up, and es lists it, whichever tree shows it
pub record IsBill (m : Measure) (c : Columns) (ls : ℕ → Label) (v : ℕ) (es : List ℕ) : Type 0 where
  pub chosen : ChosenDerivation (hypergraph c) ls v
  pub lists : (t : Derivation (hypergraph c) v) → Follows ls t → es ≡ listing t
  pub long : (t : Derivation (hypergraph c) v) → Follows ls t → length es ≡ nodes t
  pub counts : (t : Derivation (hypergraph c) v) → Follows ls t → (e : ℕ) → count e es ≡ uses e t
  pub worth : BillWorth m c ls v es

-- what a length that the call returns says: it is that of the part's bill, and the room holds the bill and then what it held
pub record Printed (m : Measure) (c : Columns) (a : Entries) (v : ℕ) (room : List ℕ) (size : ℕ) (left : List ℕ) : Type 0 where
  pub bill : IsBill m c (labels a.labels) v (bill_of c a.labels v)
  pub counted : size ≡ length (bill_of c a.labels v)
  pub holds : left ≡ bill_of c a.labels v ++ drop size room
