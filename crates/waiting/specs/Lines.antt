-- Hyperedges that wait, each for one vertex of its tail: the first that is not made. In columns: `first` has for each vertex the first hyperedge that waits for it, `next`
-- for each hyperedge the next in the same list; `at`, `joined` and `deepest` how far a hyperedge has come in its tail, and what the places before join to.
-- What holds of them between two steps is said by `Waiting`. Assumes nothing: these are definitions.
use Rattle.std.specs.Prelude.{ℕ, ◌+◌, ◌*◌, ◌≤◌, ◌<◌, ◌≡◌, ◌⊎◌, ◌≢◌, Bool, true, false, length, set, replicate, leb}
use mathlib.Core.List.{List, [], ◌∷◌, Memᴰ}
use Rattle.weights.specs.declared.Measure.{Measure}
use Rattle.weights.specs.Figures.{is_struck_mark}
use Rattle.weights.specs.declared.Label.{Label}
use Rattle.weights.specs.Labels.{label}
use Rattle.weights.specs.Measures.{Algebra, algebra}
use Rattle.provenance.specs.Labelling.{none_zero}
use Rattle.provenance.specs.BestFirst.{opening}
use Rattle.columns.specs.Columns.{Columns, head_at, strike_at, tail_at, cell}
use Rattle.tables.specs.Table.{hypergraph}
use Rattle.columns.specs.Acceptance.{most_vertices, most_edges}
use Rattle.weights.specs.Choice.{pick}
use Rattle.columns.specs.Lent.{Usable}
use Rattle.offers.specs.Passing.{Carried}
use Rattle.minima.specs.Minima.{none, leaves, key_in, Grouped}
use Rattle.queue.specs.Keys.{Fits}
use Rattle.queue.specs.Queue.{key_at, offered, Fitted}

-- in place of a hyperedge, at the end of a list
abbrev pub end : ℕ
end = 65535

-- the columns
pub record Lines : Type 0 where
  pub first : List ℕ
  pub next : List ℕ
  pub at : List ℕ
  pub joined : List ℕ
  pub deepest : List ℕ

abbrev pub lines : (first next at joined deepest : List ℕ) → Lines
lines first next at joined deepest = record { first = first; next = next; at = at; joined = joined; deepest = deepest }

-- how many vertices and hyperedges there are places for: a small table is given few, as every place has to be cleared
pub record Room : Type 0 where
  pub vertices : ℕ
  pub edges : ℕ

abbrev pub small : Room
small = record { vertices = 64; edges = 256 }

abbrev pub middle : Room
middle = record { vertices = 256; edges = 1024 }

abbrev pub large : Room
large = record { vertices = most_vertices; edges = most_edges }

-- a table of n vertices and k hyperedges has its places
abbrev pub holds : Room → (n k : ℕ) → Bool
holds r n k = pick (leb n r.vertices) (leb k r.edges) false

unfoldable pub room_for : (n k : ℕ) → Room
room_for n k = pick (holds small n k) small (pick (holds middle n k) middle large)

abbrev pub room_of : Columns → Room
room_of c = room_for c.vertices (length c.heads)

-- columns with as many places
pub record Sizes (r : Room) (s : Lines) : Type 0 where
  pub first : length s.first ≡ r.vertices
  pub next : length s.next ≡ r.edges
  pub at : length s.at ≡ r.edges
  pub joined : length s.joined ≡ r.edges
  pub deepest : length s.deepest ≡ r.edges

-- hyperedge e is put first in the list of v, i places of its tail passed, which join to j and are g deep
abbrev pub pushed : Lines → (v e i j g : ℕ) → Lines
pushed s v e i j g = record { first = set s.first v e; next = set s.next e (cell s.first v); at = set s.at e i; joined = set s.joined e j; deepest = set s.deepest e g }

-- the same of the two columns of the lists
pub record Linked (fs ns : List ℕ) (v e : ℕ) (fs' ns' : List ℕ) : Type 0 where
  pub first : fs' ≡ set fs v e
  pub next : ns' ≡ set ns e (cell fs v)

-- nothing is passed of the tail of hyperedge e, as before it starts
pub record Untouched (A : Algebra) (s : Lines) (e : ℕ) : Type 0 where
  pub at : cell s.at e ≡ 0
  pub joined : cell s.joined e ≡ A.unit
  pub deepest : cell s.deepest e ≡ 0

-- Tails ------------------------------------------------------------------------------------------------------------------------------------------------

-- a tail is passed as far as possible: to the end, or to a vertex that is unmade
pub record Gone (A : Algebra) (w d : ℕ → ℕ) (tail : List ℕ) (i j g : ℕ) : Type 0 where
  pub passed : Carried A w d tail i j g
  pub stopped : i < length tail → d (cell tail i) ≡ 0

-- Lists ------------------------------------------------------------------------------------------------------------------------------------------------

-- from f along `next` stand these, none of them twice, and each has P
pub data Chain (P : ℕ → Type 0) (next : List ℕ) : ℕ → List ℕ → Type 0 where
  ended : {f : ℕ} → f ≡ end → Chain P next f []
  linked : {f : ℕ} {es : List ℕ} → P f → ¬ Memᴰ f es → Chain P next (cell next f) es → Chain P next f (f ∷ es)

module _ (A : Algebra) (c : Columns) (w d : ℕ → ℕ) where
  -- hyperedge e waits for v
  pub record Waiter (s : Lines) (v e : ℕ) : Type 0 where
    pub numbered : e < length c.heads
    pub unstruck : is_struck_mark (strike_at c e) ≡ false
    pub before : cell s.at e < length (tail_at c e)
    pub here : cell (tail_at c e) (cell s.at e) ≡ v
    pub passed : Carried A w d (tail_at c e) (cell s.at e) (cell s.joined e) (cell s.deepest e)

  -- what a hyperedge does when it goes on: it stays out of the lists, offered unless its head is made, or waits for another vertex
  pub data Moved (e : ℕ) (s s' : Lines) : Type 0 where
    stays : s' ≡ s → (d (head_at c e) ≡ 0 → none_zero d (tail_at c e) ≡ true) → Moved e s s'
    waits : (i j g : ℕ) → i < length (tail_at c e) → d (cell (tail_at c e) i) ≡ 0 → Carried A w d (tail_at c e) i j g → s' ≡ pushed s (cell (tail_at c e) i) e i j g → Moved e s s'

module _ (m : Measure) (c : Columns) (w d : ℕ → ℕ) where
  -- the key of what e has to offer
  abbrev pub key_on : ℕ → ℕ
  key_on e = key_at m (hypergraph c) (cell c.own) w d e

  -- where e is: still to be looked at, in the list of an unmade vertex, or offered
  pub data Placed (lists : ℕ → List ℕ) (q : List ℕ) (busy : ℕ → Type 0) (e : ℕ) : Type 0 where
    kept : busy e → Placed lists q busy e
    waits : (v : ℕ) → v < c.vertices → d v ≡ 0 → Memᴰ e (lists v) → Placed lists q busy e
    heard : none_zero d (tail_at c e) ≡ true → key_in q (head_at c e) ≤ key_on e → Placed lists q busy e

  -- every unstruck hyperedge whose head is unmade is in one of these; and what is queued for an unmade vertex is offered by some hyperedge
  pub record Waiting (s : Lines) (q : List ℕ) (busy : ℕ → Type 0) : Type 0 where
    pub lists : ℕ → List ℕ
    pub chained : (v : ℕ) → v < c.vertices → d v ≡ 0 → Chain (Waiter (algebra m) c w d s v) s.next (cell s.first v) (lists v)
    pub covered : (e : ℕ) → e < length c.heads → is_struck_mark (strike_at c e) ≡ false → d (head_at c e) ≡ 0 → Placed lists q busy e
    pub apart : (v e : ℕ) → v < c.vertices → d v ≡ 0 → Memᴰ e (lists v) → busy e → ⊥
    pub grouped : Grouped q
    pub sized : length q ≡ 2 * (room_of c).vertices
    pub offers : (u : ℕ) → u < (room_of c).vertices → d u ≡ 0 → (key_in q u ≡ none) ⊎ ((e : ℕ) × ((e < length c.heads) × ((head_at c e ≡ u) × (key_in q u ≡ key_on e))))

  pub record Went (e : ℕ) (s s' : Lines) (q q' : List ℕ) : Type 0 where
    pub moved : Moved (algebra m) c w d e s s'
    pub heard : q' ≡ offered m q (head_at c e) (opening (algebra m) (hypergraph c) (cell c.own) w d e)

-- What functions ask -----------------------------------------------------------------------------------------------------------------------------------

-- lists with room for hyperedge e
pub record Linkable (first next : List ℕ) (v e : ℕ) : Type 0 where
  pub vertex : v < length first
  pub edge : e < length next
  pub small : e < 65536

-- columns with room for it
pub record Pushable (s : Lines) (v e i g : ℕ) : Type 0 where
  pub room : Room
  pub sizes : Sizes room s
  pub vertex : v < room.vertices
  pub edge : e < room.edges
  pub small : e < 65536
  pub place : i < 256
  pub depth : g < 65536

-- a label can be offered to the head of its hyperedge
pub record Queueable (l : Label) (heads q : List ℕ) : Type 0 where
  pub head : l.edge.0 < length heads
  pub fits : Fits l
  pub grouped : Grouped q
  pub key : cell heads l.edge.0 < leaves q

-- hyperedge e, whose tail is passed, can be offered to its head
pub record Arriving (m : Measure) (heads own q : List ℕ) (e j g : ℕ) : Type 0 where
  pub figure : e < length own
  pub sum : cell own e + j < 18446744073709551616
  pub queueable : Queueable (label ((algebra m).finish (cell own e) j) (g + 1) e) heads q

-- hyperedges can be offered to their heads
pub record Offerable (c : Columns) (ws ds q : List ℕ) : Type 0 where
  pub usable : Usable c ws ds
  pub fitted : Fitted (cell ws) (cell ds)
  pub grouped : Grouped q
  pub sized : length q ≡ 2 * (room_of c).vertices

-- hyperedge e, whose head is unmade, can go on
pub record Going (m : Measure) (c : Columns) (ws ds : List ℕ) (s : Lines) (e i j g : ℕ) : Type 0 where
  pub sizes : Sizes (room_of c) s
  pub numbered : e < length c.heads
  pub unstruck : is_struck_mark (strike_at c e) ≡ false
  pub fresh : cell ds (head_at c e) ≡ 0
  pub passed : Carried (algebra m) (cell ws) (cell ds) (tail_at c e) i j g

-- hyperedge e waits for a vertex
pub record Wakeful (m : Measure) (c : Columns) (ws ds : List ℕ) (s : Lines) (e : ℕ) : Type 0 where
  pub sizes : Sizes (room_of c) s
  pub vertex : ℕ
  pub waiter : Waiter (algebra m) c (cell ws) (cell ds) s vertex e

-- no vertex is made, and the hyperedges from i on are still to be looked at
pub record Starting (m : Measure) (c : Columns) (ws ds : List ℕ) (s : Lines) (q : List ℕ) (i : ℕ) : Type 0 where
  pub sizes : Sizes (room_of c) s
  pub unmade : (v : ℕ) → cell ds v ≡ 0
  pub untouched : (e : ℕ) → i ≤ e → e < length c.heads → Untouched (algebra m) s e
  pub waiting : Waiting m c (cell ws) (cell ds) s q (λ e. i ≤ e)

-- vertex v is made, and what waited for it is still to be looked at; of what is made it alone has its key still in the queue
pub record Waking (m : Measure) (c : Columns) (ws ds : List ℕ) (s : Lines) (q : List ℕ) (v l : ℕ) : Type 0 where
  pub sizes : Sizes (room_of c) s
  pub made : cell ds v ≢ 0
  pub left : List ℕ
  pub chain : Chain (Waiter (algebra m) c (cell ws) (cell ds) s v) s.next l left
  pub waiting : Waiting m c (cell ws) (cell ds) s q (λ e. Memᴰ e left)
  pub taken : (u : ℕ) → u < (room_of c).vertices → cell ds u ≢ 0 → u ≢ v → key_in q u ≡ none

-- nothing is still to be looked at, and the key of v is still in the queue
pub record Woken (m : Measure) (c : Columns) (ws ds : List ℕ) (s : Lines) (q : List ℕ) (v : ℕ) : Type 0 where
  pub sizes : Sizes (room_of c) s
  pub made : cell ds v ≢ 0
  pub waiting : Waiting m c (cell ws) (cell ds) s q (λ e. ⊥)
  pub taken : (u : ℕ) → u < (room_of c).vertices → cell ds u ≢ 0 → u ≢ v → key_in q u ≡ none

-- nothing is still to be looked at, and what is made has no key
pub record Rested (m : Measure) (c : Columns) (ws ds : List ℕ) (s : Lines) (q : List ℕ) : Type 0 where
  pub sizes : Sizes (room_of c) s
  pub waiting : Waiting m c (cell ws) (cell ds) s q (λ e. ⊥)
  pub taken : (u : ℕ) → u < (room_of c).vertices → cell ds u ≢ 0 → key_in q u ≡ none

-- no vertex is made, nothing is passed, nothing waits, and nothing is queued
pub record Empty (m : Measure) (c : Columns) (ds : List ℕ) (s : Lines) (q : List ℕ) : Type 0 where
  pub sizes : Sizes (room_of c) s
  pub unmade : (v : ℕ) → cell ds v ≡ 0
  pub untouched : (e : ℕ) → e < length c.heads → Untouched (algebra m) s e
  pub empty : (v : ℕ) → v < c.vertices → cell s.first v ≡ end
  pub nothing : q ≡ replicate (2 * (room_of c).vertices) none
