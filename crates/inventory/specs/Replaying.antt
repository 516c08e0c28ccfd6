-- Replaying a record of receipts and orders: what one event does, the events in order, the refusals of the call in the request's order, and its outcome. Document 02,
-- 2026-12. Assumes nothing: these are definitions.
use Rattle.std.specs.Prelude.{Bool, true, false, List, [], ◌∷◌, ◌++◌, ℕ, ◌+◌, ◌-◌, length, set, ltb, leb, eqb, Result, Ok, Err}
use Rattle.weights.specs.declared.Measure.{Measure}
use Rattle.weights.specs.Choice.{pick}
use Rattle.refusal.specs.declared.Refusal.{Refusal}
use Rattle.refusal.specs.declared.Refusal.TheVariants.{TooManyVertices, Lengths, AnswerLength, EventVertex, OpeningCount, ReceivedCount}
use Rattle.columns.specs.Columns.{Answers, Entries, Columns, cell}
use Rattle.columns.specs.Acceptance.{most_vertices, test, and_then, lent_acceptance}
use Rattle.provenance.specs.Counting.{count}
use Rattle.settle.specs.Checking.{answers_acceptance}
use Rattle.inventory.specs.declared.Fulfilment.{Fulfilment}
use Rattle.inventory.specs.declared.Fulfilment.TheVariants.{Received, Issued, Built, Late}
use Rattle.inventory.specs.Shelf.{most_stock, most_events, chosen_tail}
use Rattle.refusal.specs.Answers.{Acceptance}

-- "0 for a receipt, 1 for a piece from the shelf, 2 for built, 3 for late"
abbrev pub outcome_number : Fulfilment → ℕ
outcome_number Received = 0
outcome_number Issued = 1
outcome_number Built = 2
outcome_number Late = 3

-- of every part u of `us` the shelf has as many as `tail` lists
unfoldable pub holds : (stock tail us : List ℕ) → Bool
holds stock tail [] = true
holds stock tail (u ∷ us) = pick (leb (count u tail) (cell stock u)) (holds stock tail us) false

-- "all of them are on the shelf in the number listed"
abbrev pub suffices : (stock tail : List ℕ) → Bool
suffices stock tail = holds stock tail tail

-- each place of the tail takes one piece
unfoldable pub consumed : (stock tail : List ℕ) → List ℕ
consumed stock [] = stock
consumed stock (u ∷ us) = consumed (set stock u (cell stock u - 1)) us

-- what became of an order, and the counts after it
pub record Fulfilled : Type 0 where
  pub outcome : Fulfilment
  pub stock : List ℕ

abbrev pub fulfilled : Fulfilment → List ℕ → Fulfilled
fulfilled f s = record { outcome = f; stock = s }

-- an order of a part that is not on the shelf: built if its chosen line "has parts and all of them are on the shelf", "otherwise it is late and takes nothing"
unfoldable pub build : (stock tail : List ℕ) → Fulfilled
build stock tail = pick (eqb (length tail) 0) (fulfilled Late stock) (pick (suffices stock tail) (fulfilled Built (consumed stock tail)) (fulfilled Late stock))

-- an order of v, where the chosen line of a part u lists the parts `lists u`: "An order takes a piece from the shelf; if there's none …"
unfoldable pub fulfil : (lists : ℕ → List ℕ) → (stock : List ℕ) → (v : ℕ) → Fulfilled
fulfil lists stock v = pick (ltb 0 (cell stock v)) (fulfilled Issued (set stock v (cell stock v - 1))) (build stock (lists v))

-- what an event came to, and the counts after it
pub record Stepped : Type 0 where
  pub result : Result Fulfilment Refusal
  pub stock : List ℕ

abbrev pub stepped : Result Fulfilment Refusal → List ℕ → Stepped
stepped r s = record { result = r; stock = s }

abbrev pub ordered : Fulfilled → Stepped
ordered f = stepped (Ok f.outcome) f.stock

-- event i receives so many pieces of v: 26 for a count "above 1,000,000 … after a receipt"
unfoldable pub receive : (i : ℕ) → (stock : List ℕ) → (v pieces : ℕ) → Stepped
receive i stock v pieces =
    pick (leb (cell stock v + pieces) most_stock) (stepped (Ok Received) (set stock v (cell stock v + pieces))) (stepped (Err (ReceivedCount (record { 0 = i }))) stock)

-- event i of part v: "0 pieces marks an order, anything more a receipt"; "25 for a part not below n", as many as the shelf has counts, before 26
unfoldable pub apply_event : (lists : ℕ → List ℕ) → (i v pieces : ℕ) → (stock : List ℕ) → Stepped
apply_event lists i v pieces stock =
    pick (ltb v (length stock))
    (pick (ltb 0 pieces) (receive i stock v pieces) (ordered (fulfil lists stock v)))
    (stepped (Err (EventVertex (record { 0 = i }))) stock)

-- a record that was run to its end: the final counts and the outcomes; or the refusal of an event
pub data Run : Type 0 where
  finished : (stock outcomes : List ℕ) → Run
  stopped : Refusal → Run

-- the same with these outcomes before it
abbrev pub resumed : List ℕ → Run → Run
resumed os (finished s more) = finished s (os ++ more)
resumed os (stopped r) = stopped r

abbrev pub after : Result Fulfilment Refusal → (stock : List ℕ) → (List ℕ → Run) → Run
after (Err r) s rest = stopped r
after (Ok f) s rest = resumed (outcome_number f ∷ []) (rest s)

-- the events from i on, over the counts before event i
unfoldable pub replay_from : (lists : ℕ → List ℕ) → (i : ℕ) → (parts received stock : List ℕ) → Run
replay_from lists i [] ks s = finished s []
replay_from lists i (v ∷ vs) [] s = finished s []
replay_from lists i (v ∷ vs) (k ∷ ks) s = let e = apply_event lists i v k s in after e.result e.stock (replay_from lists (i + 1) vs ks)

-- how a run over columns ended that hold these numbers
abbrev pub ran : Acceptance → (stock outcomes : List ℕ) → Run
ran (Ok _) s o = finished s o
ran (Err r) s o = stopped r

-- 26 for the first opening count above 1,000,000, where these counts begin with part v's
unfoldable pub opening_acceptance : (v : ℕ) → List ℕ → Acceptance
opening_acceptance v [] = Ok tt
opening_acceptance v (x ∷ xs) = pick (leb x most_stock) (opening_acceptance (v + 1) xs) (Err (OpeningCount (record { 0 = v })))

-- 1, and "2 if the record or outcome columns differ in length or pass 4,096"
unfoldable pub record_acceptance : (n : ℕ) → (parts received outcomes : List ℕ) → Acceptance
record_acceptance n parts received outcomes =
    test (leb n most_vertices) TooManyVertices
    (test (eqb (length received) (length parts)) Lengths
    (test (eqb (length outcomes) (length parts)) Lengths
    (test (leb (length parts) most_events) Lengths
    (Ok tt))))

-- 1, 2, 3 to 6 and 21, "7 if the shelf column is not n long" or an answer column, 8, and 26 of the opening counts: what is tested before the events
unfoldable pub open_acceptance : Measure → Columns → Entries → (parts received stock outcomes : List ℕ) → Acceptance
open_acceptance m c a parts received stock outcomes =
    and_then (record_acceptance c.vertices parts received outcomes)
    (and_then (lent_acceptance c a)
    (test (eqb (length stock) c.vertices) AnswerLength
    (and_then (answers_acceptance m c a)
    (opening_acceptance 0 stock))))

-- the parts that the chosen line of a part lists
abbrev pub chosen_list : Columns → Answers → (v : ℕ) → List ℕ
chosen_list c a = chosen_tail c.spans c.tails a.depths a.edges

-- the run of a call: no event is looked at where something before them is refused
abbrev pub begun : Acceptance → Run → Run
begun (Ok _) run = run
begun (Err r) run = stopped r

unfoldable pub run_of : Measure → Columns → Entries → (parts received stock outcomes : List ℕ) → Run
run_of m c a parts received stock outcomes = begun (open_acceptance m c a parts received stock outcomes) (replay_from (chosen_list c a.labels) 0 parts received stock)

-- what the call returns, and the counts and the outcomes as it leaves them
pub record ReplayOutcome : Type 0 where
  pub result : Acceptance
  pub stock : List ℕ
  pub outcomes : List ℕ

-- on acceptance the final counts and the outcomes; on a refusal both columns as they came
abbrev pub concluded : Run → (stock outcomes : List ℕ) → ReplayOutcome
concluded (finished s o) stock outcomes = record { result = Ok tt; stock = s; outcomes = o }
concluded (stopped r) stock outcomes = record { result = Err r; stock = stock; outcomes = outcomes }

-- replaying, from everything at entry
unfoldable pub replayed : Measure → Columns → Entries → (parts received stock outcomes : List ℕ) → ReplayOutcome
replayed m c a parts received stock outcomes = concluded (run_of m c a parts received stock outcomes) stock outcomes

-- the refusals of the call, in the request's order
abbrev pub replay_acceptance : Measure → Columns → Entries → (parts received stock outcomes : List ℕ) → Acceptance
replay_acceptance m c a parts received stock outcomes = (replayed m c a parts received stock outcomes).result
