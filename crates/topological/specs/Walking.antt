-- The lists of the lines of each head that are not struck, and what the functions of the walk ask of their callers. Assumes nothing: these are definitions.
use Rattle.std.specs.Prelude.{◌≡◌, false, ℕ, ◌+◌, ◌≤◌, ◌<◌, length, Ok, Some, None}
use mathlib.Core.List.{List, Memᴰ}
use Rattle.weights.specs.declared.Measure.{Measure}
use Rattle.weights.specs.Figures.{greatest, is_struck_mark}
use Rattle.weights.specs.Measures.{algebra}
use Rattle.columns.specs.Columns.{Answers, Columns, tail_of, cell}
use Rattle.columns.specs.Acceptance.{most_vertices, most_edges, acceptance}
use Rattle.columns.specs.Lent.{Placed, Usable}
use Rattle.provenance.specs.BestFirst.{put, blank}
use Rattle.provenance.specs.InOrder.{first}
use Rattle.queue.specs.Keys.{heavy}
use Rattle.offers.specs.Passing.{Passable}
use Rattle.tables.specs.Table.{hypergraph}
use Rattle.weights.specs.Offers.{Offer}

-- stands for no line
abbrev pub end : ℕ
end = 65535

-- line e has head v, and is not struck
pub record Yields (heads strikes : List ℕ) (v e : ℕ) : Type 0 where
  pub head : cell heads e ≡ v
  pub stands : is_struck_mark (cell strikes e) ≡ false

-- x is the first such line from line k on, or the end if there is none
pub data Least (heads strikes : List ℕ) (v k : ℕ) : ℕ → Type 0 where
  line : (x : ℕ) → k ≤ x → x < length heads → Yields heads strikes v x → ((e : ℕ) → k ≤ e → e < x → ¬ Yields heads strikes v e) → Least heads strikes v k x
  none : ((e : ℕ) → k ≤ e → e < length heads → ¬ Yields heads strikes v e) → Least heads strikes v k end

-- of the lines from k on that are not struck, `first` has for each head the first, and `next` for each the next one with its head
pub record Linked (heads strikes first next : List ℕ) (k : ℕ) : Type 0 where
  pub wide : length first ≡ most_vertices
  pub long : length heads ≤ length next
  pub firsts : (v : ℕ) → v < most_vertices → Least heads strikes v k (cell first v)
  pub nexts : (e : ℕ) → k ≤ e → e < length heads → is_struck_mark (cell strikes e) ≡ false → Least heads strikes (cell heads e) (e + 1) (cell next e)

-- no line is linked yet, and each has a mark and a place
pub record Linkable (heads strikes first next : List ℕ) : Type 0 where
  pub few : length heads ≤ most_edges
  pub marked : length heads ≤ length strikes
  pub inside : (e : ℕ) → e < length heads → cell heads e < most_vertices
  pub wide : length first ≡ most_vertices
  pub long : length heads ≤ length next
  pub empty : (v : ℕ) → v < most_vertices → cell first v ≡ end

-- line e can be read, its number has room in a key, its own weight is in range, and the weights that it lists can be summed
pub record Weighable (e : ℕ) (os ss ts ws ds : List ℕ) : Type 0 where
  pub numbered : e < most_edges
  pub own : e < length os
  pub figure : cell os e ≤ greatest
  pub placed : Placed ss ts e
  pub tail : Passable (tail_of ss ts e) ws ds

-- the first of what the lines of v offer it, from the labels in two columns
abbrev pub visited : Measure → Columns → (ws ds : List ℕ) → ℕ → Offer
visited m c ws ds v = first (algebra m) (hypergraph c) (cell c.own) (cell ws) (cell ds) v (length c.heads)

-- v can be visited: its lines are linked, can be read and summed
pub record Visitable (c : Columns) (ws ds first next : List ℕ) (v : ℕ) : Type 0 where
  pub usable : Usable c ws ds
  pub light : (u : ℕ) → cell ws u < heavy
  pub linked : Linked c.heads c.strikes first next 0
  pub inside : v < length ds

-- the three columns have a place for v
pub record Storable (v : ℕ) (a : Answers) : Type 0 where
  pub weights : v < length a.weights
  pub depths : v < length a.depths
  pub edges : v < length a.edges

-- v is labelled with what it is offered
abbrev pub put_at : Answers → ℕ → Offer → Answers
put_at a v None = a
put_at a v (Some l) = put a v l

-- the walk can begin
pub record Walkable (c : Columns) (a : Answers) (first next : List ℕ) : Type 0 where
  pub accepted : acceptance c ≡ Ok tt
  pub empty : a ≡ blank c.vertices
  pub linked : Linked c.heads c.strikes first next 0

-- the chosen line of a made part lists only parts below it
pub record Upward (spans tails depths edges : List ℕ) : Type 0 where
  pub below : (v : ℕ) → 0 < cell depths v → (u : ℕ) → Memᴰ u (tail_of spans tails (cell edges v)) → u < v
