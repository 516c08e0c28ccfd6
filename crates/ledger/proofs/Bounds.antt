-- How long what is said of a record can be: the line of a refusal by its line and column, which the text's length bounds, or by the number of its count or event; the rows
-- and the final counts by what a replay leaves. Assumes nothing.
use mathlib.Core.Path.{◌≡◌, refl, subst}
use mathlib.Core.List.{List}
use Prim.Native.Nat.{ℕ, zero, suc, ◌+◌, ◌*◌, ◌^◌, ◌≤◌, ◌<◌}
use native.Mathlib.Omega.{arith}
use lib.ListN.{length, set, length-append}
use lib.Dec.{leb}
use Rattle.std.specs.Prelude.{Result, Ok, Err}
use Rattle.weights.specs.declared.Measure.{Measure}
use Rattle.refusal.specs.declared.Refusal.{Refusal}
use Rattle.refusal.specs.Refusals.{place_of, column_of}
use Rattle.columns.specs.Columns.{Answers, Entries, Columns}
use Rattle.columns.specs.Owed.{Owed}
use Rattle.columns.specs.Right.{WrongEdge, WrongTable, WrongLent}
use Rattle.inventory.specs.Shelf.{most_events}
use Rattle.inventory.specs.Record.{Replays, Stops}
use Rattle.inventory.specs.Asked.{RightReplay, WrongReplay}
use Rattle.inventory.proofs.Asked.{replay_owes, stops_place}
use Rattle.inventory.proofs.Conservation.{replays_low}
use Rattle.inventory.proofs.Meaning.{replays_sized}
use Rattle.text.proofs.Digits.{pick_by}
use Rattle.report.specs.Report.{most_input, refused_line}
use Rattle.report.proofs.Bounds.{refused_most}
use Rattle.reply.specs.Reply.{most_reply, answered, on_second}
use Rattle.ledger.specs.declared.EventLine.{EventLine}
use Rattle.ledger.specs.declared.EventLine.TheVariants as line
use Rattle.ledger.specs.Record.{most_shelf, event_at, Listed, on_event, events_from, with_counts, on_counts, read_record, shelf_in}
use Rattle.ledger.specs.Ledger.{most_row, outcome_row, outcome_rows, stock_line, ledger, replayed_said}
use Rattle.ledger.proofs.Laws.{Placed, event_placed, FewCounts, shelf_kept}
use Rattle.ledger.proofs.Rows.{row_most, counts_most}
use Rattle.refusal.specs.Answers.{Acceptance}

-- Refusals ---------------------------------------------------------------------------------------------------------------------------------------------

-- its place has four digits, its column five
abbrev pub Low : Refusal → Type 0
Low r = (place_of r < 10_000) × (column_of r < 100_000)

pub refusal_short : (r : Refusal) → Low r → length (refused_line r) ≤ most_reply
refusal_short r l = let w = refused_most r l.0 l.1 in omega arith

-- of a text
abbrev LowRead : Result (ℕ × ℕ) Refusal → Type 0
LowRead (Err r) = Low r
LowRead (Ok (k, e)) = Unit {0}

abbrev LowEvents : Result ℕ Refusal → Type 0
LowEvents (Err r) = Low r
LowEvents (Ok e) = Unit {0}

event_low : (s : List ℕ) (x : EventLine) (at i : ℕ) (vs ks : List ℕ) (more : (v k l : ℕ) → Listed) → length s ≤ most_input → i + 2 < 10_000 → Placed s at x
    → ((v k l : ℕ) → LowEvents (more v k l).events) → LowEvents (on_event x at i vs ks more).events
event_low s line.End at i vs ks more h g w f = tt
event_low s (line.Wrong p) at i vs ks more h g w f = (g, (let l = w.0 in let r = w.1 in omega arith))
event_low s (line.Event v k l) at i vs ks more h g w f = f v k l

events_low : (left : ℕ) (s : List ℕ) (at i : ℕ) (vs ks : List ℕ) → length s ≤ most_input → i + left + 2 < 10_000 → LowEvents (events_from left s at i vs ks).events
unfolding events_from
events_low zero s at i vs ks h g = pick_by LowEvents (leb (length s) at) (λ _. tt) (λ _. (omega arith, omega arith))
events_low (suc left) s at i vs ks h g =
    event_low s (event_at s at) at i vs ks (λ v k l. events_from left s l (i + 1) (set vs i v) (set ks i k)) h (omega arith) (event_placed s at)
    (λ v k l. events_low left s l (i + 1) (set vs i v) (set ks i k) h (omega arith))

with_low : (k : ℕ) (x : Result ℕ Refusal) → LowEvents x → LowRead (with_counts k x)
with_low k (Ok e) h = tt
with_low k (Err r) h = h

counts-low : (s : List ℕ) (n : ℕ) (x : Result (ℕ × ℕ) ℕ) (c vs ks : List ℕ) → length s ≤ most_input → length vs ≤ most_events → FewCounts s n x → LowRead (on_counts s x c vs ks).result
counts-low s n (Err p) c vs ks h g f = (omega arith, omega arith)
counts-low s n (Ok (k, l)) c vs ks h g f = with_low k (events_from (length vs) s l 0 vs ks).events (events_low (length vs) s l 0 vs ks h (omega arith))

pub record_low : (s shelf vs ks : List ℕ) (r : Refusal) → length s ≤ most_input → length vs ≤ most_events → (read_record s shelf vs ks).result ≡ Err r → Low r
record_low s shelf vs ks r h g e = subst LowRead e low
  where
    low : LowRead (read_record s shelf vs ks).result
    low = unfold read_record in counts-low s (length shelf) (shelf_in s shelf).counts (shelf_in s shelf).column vs ks h g (shelf_kept s shelf).0

-- of a table
edge_low : {c : Columns} {e : ℕ} {r : Refusal} → e < 10_000 → WrongEdge c e r → Low r
edge_low h (WrongEdge.head x) = (h, omega arith)
edge_low h (WrongEdge.own x y) = (h, omega arith)
edge_low h (WrongEdge.mark x y z) = (h, omega arith)
edge_low h (WrongEdge.span x y z w) = (h, omega arith)
edge_low h (WrongEdge.tail x y z w u) = (h, omega arith)

table_low : {c : Columns} {r : Refusal} → WrongTable c r → Low r
table_low (WrongTable.many x) = (omega arith, omega arith)
table_low (WrongTable.unlevel x y) = (omega arith, omega arith)
table_low (WrongTable.edge x y e f) = edge_low (let n = f.numbered in let l = y.edges in omega arith) f.wrong

lent_low : {c : Columns} {a : Entries} {r : Refusal} → WrongLent c a r → Low r
lent_low (WrongLent.table w) = table_low w
lent_low (WrongLent.answers x y) = (omega arith, omega arith)

-- of an event
stops_column : (c : Columns) (a : Answers) {i : ℕ} {vs ks s : List ℕ} {r : Refusal} → Stops c a i vs ks s r → column_of r ≡ 0
stops_column c a (Stops.vertex h) = refl
stops_column c a (Stops.receipt h k l) = refl
stops_column c a (Stops.later h l x w) = stops_column c a w

module _ (m : Measure) (c : Columns) (a : Entries) (vs ks s os : List ℕ) (few : length vs ≤ most_events) (counted : length s ≤ most_shelf) where
  wrong_low : {r : Refusal} → WrongReplay m c a vs ks s os r → Low r
  wrong_low (WrongReplay.many x) = (omega arith, omega arith)
  wrong_low (WrongReplay.unlevel x y) = (omega arith, omega arith)
  wrong_low (WrongReplay.lent x w) = lent_low w
  wrong_low (WrongReplay.shelf x y z) = (omega arith, omega arith)
  wrong_low (WrongReplay.answers x y z w) = (omega arith, omega arith)
  wrong_low (WrongReplay.opening x y z w v f) = (let l = f.within in omega arith, omega arith)
  wrong_low (WrongReplay.event x w) = (let l = stops_place c a.labels w in omega arith, let e = stops_column c a.labels w in omega arith)

-- What is printed --------------------------------------------------------------------------------------------------------------------------------------

-- every part of a record that was replayed has its place on the shelf
rows_short : (c : Columns) (a : Answers) {vs ks s os t : List ℕ} → Replays c a vs ks s os t → length s < 2 ^ 64 → length (outcome_rows vs os) ≤ most_row * length vs
unfolding outcome_rows
rows_short c a Replays.none h = omega arith
rows_short c a (Replays.more {v = v} {o = o} {vs = vs} {os = os} l e x r) h =
    let w = row_most v o (omega arith) in
    let i = rows_short c a r (omega arith) in
    let p = length-append (outcome_row v o) (outcome_rows vs os) in
    omega arith

module _ (m : Measure) (c : Columns) (a : Entries) (vs ks s os : List ℕ) (few : length vs ≤ most_events) (counted : length s ≤ most_shelf) where
  right_short : (p : RightReplay m c a vs ks s os) → length (ledger vs p.outcomes p.final) ≤ most_reply
  unfolding ledger stock_line
  right_short p =
      let r = rows_short c a.labels p.replays (omega arith) in
      let z = (replays_sized c a.labels p.replays).0 in
      let low = replays_low c a.labels p.replays p.shelf.low in
      let t = counts_most p.final (λ j. let x = low j in omega arith) (omega arith) in
      let l = length-append (outcome_rows vs p.outcomes) (stock_line p.final) in
      omega arith

  pub replayed_short : length (replayed_said m c a vs ks s os).bytes ≤ most_reply
  unfolding replayed_said on_second
  replayed_short = go (replay_owes m c a vs ks s os)
    where
      go : {x : Acceptance} {l : List ℕ × List ℕ}
          → Owed {L = List ℕ × List ℕ} Err (s, os) (RightReplay m c a vs ks s os) (λ _. (Ok tt)) (λ q. (q.final, q.outcomes)) (WrongReplay m c a vs ks s os) x l
          → length (on_second x (answered (ledger vs l.1 l.0))).bytes ≤ most_reply
      go (Owed.accepted p) = right_short p
      go (Owed.refused {r} w) = refusal_short r (wrong_low m c a vs ks s os few counted w)
