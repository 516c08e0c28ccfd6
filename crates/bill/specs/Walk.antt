-- What the walks of a bill read and write: the lists of the lines and the chosen line of each part, as three columns hold them; what must hold of them; a room
-- that is written from a place on, and what is copied in it; a budget, and the lengths that are known. Assumes nothing: these are definitions.
use Rattle.std.specs.Prelude.{◌≡◌, List, [], ◌∷◌, ◌++◌, ℕ, zero, suc, ◌+◌, ◌-◌, ◌*◌, ◌≤◌, ◌<◌, length, get_or, take, drop, leb, Option, Some, None}
use Rattle.weights.specs.declared.Label.{Label}
use Rattle.weights.specs.Choice.{pick}
use Rattle.provenance.specs.Hypergraph.{Hypergraph}
use Rattle.provenance.specs.BestFirst.{labels}
use Rattle.provenance.specs.Support.{bills, bill}
use Rattle.columns.specs.Filled.{filled}
use Rattle.columns.specs.Lent.{Placed}
use Rattle.columns.specs.Columns.{columns, answers, cell, tail_of}
use Rattle.tables.specs.Table.{hypergraph}

-- of a table and its answers, what a bill reads: the lists of the lines, and the chosen line of each part
abbrev pub lists : (spans tails : List ℕ) → Hypergraph
lists spans tails = hypergraph (columns 0 [] [] [] spans tails)

abbrev pub choices : (edges : List ℕ) → ℕ → Label
choices edges = labels (answers [] [] edges)

-- the bill of a part whose chosen make-up is at most `depth` deep, and the bills of a list of such parts
abbrev pub vertex_bill : (spans tails edges : List ℕ) → (depth v : ℕ) → List ℕ
vertex_bill spans tails edges depth = bill (lists spans tails) (choices edges) depth

abbrev pub tail_bill : (spans tails edges : List ℕ) → (depth : ℕ) → List ℕ → List ℕ
tail_bill spans tails edges depth vs = bills (vertex_bill spans tails edges depth) vs

-- P holds of every number of a list
unfoldable pub Each : (ℕ → Type 0) → List ℕ → Type 0
Each P [] = Unit {0}
Each P (v ∷ vs) = P v × Each P vs

-- the chosen make-up of v is at most `depth` deep, and every line of it has its place
unfoldable pub Grounded : (spans tails edges : List ℕ) → (depth v : ℕ) → Type 0
Grounded spans tails edges zero v = ⊥
Grounded spans tails edges (suc depth) v = (v < length edges) × Placed spans tails (get_or edges v 0) × Each (Grounded spans tails edges depth) (tail_of spans tails (get_or edges v 0))

abbrev pub AllGrounded : (spans tails edges : List ℕ) → (depth : ℕ) → List ℕ → Type 0
AllGrounded spans tails edges depth = Each (Grounded spans tails edges depth)

-- what writing the bill of v asks, and the bills of a tail: they are grounded, and the room holds them from a place on
pub record VertexFits (spans tails edges : List ℕ) (depth v : ℕ) (room : List ℕ) : Type 0 where
  pub grounded : Grounded spans tails edges depth v
  pub fits : length (vertex_bill spans tails edges depth v) ≤ length room

pub record TailFits (spans tails edges : List ℕ) (depth : ℕ) (tail : List ℕ) (at : ℕ) (room : List ℕ) : Type 0 where
  pub grounded : AllGrounded spans tails edges depth tail
  pub fits : at + length (tail_bill spans tails edges depth tail) ≤ length room

-- after `new` was written from a place on, the room is filled to `to`, and `left` is its content
pub record WrittenFrom (from : ℕ) (new room : List ℕ) (to : ℕ) (left : List ℕ) : Type 0 where
  pub reaches : to ≡ from + length new
  pub content : left ≡ take from room ++ filled new (drop from room)

-- what stands in the `size` places before a place; what copying it behind them asks: they are there, and as many more
abbrev pub standing : (at size : ℕ) → List ℕ → List ℕ
standing at size room = drop (at - size) (take at room)

pub record Repeatable (at size : ℕ) (room : List ℕ) : Type 0 where
  pub stand : size ≤ at
  pub fits : at + size ≤ length room

-- k of them are copied
pub record Copied (at size : ℕ) (room : List ℕ) (k : ℕ) (left : List ℕ) : Type 0 where
  pub within : k ≤ size
  pub written : WrittenFrom at (take k (standing at size room)) room (at + k) left

-- the bill of v, if its line lists something, has this length
abbrev pub Long : (spans tails edges : List ℕ) → (depth v size : ℕ) → Type 0
Long spans tails edges depth v size = ¬ (cell spans (2 * get_or edges v 0 + 1) ≡ 0) → size ≡ length (vertex_bill spans tails edges depth v)

-- the bills of the parts of a tail up to i are written from a place on, and the last one, unless a bought part's, has the length `size`
pub record TailWritten (spans tails edges : List ℕ) (depth : ℕ) (tail : List ℕ) (from : ℕ) (room : List ℕ) (i size to : ℕ) (left : List ℕ) : Type 0 where
  pub written : WrittenFrom from (tail_bill spans tails edges depth (take i tail)) room to left
  pub last : 0 < i → Long spans tails edges depth (get_or tail (i - 1) 0) size

-- a column of lengths is right: it has a place for every part, and holds 0 or the length of the part's bill
pub record Known (spans tails edges lengths : List ℕ) : Type 0 where
  pub places : length edges ≤ length lengths
  pub right : (depth v : ℕ) → Grounded spans tails edges depth v → ¬ (cell lengths v ≡ 0) → cell lengths v ≡ length (vertex_bill spans tails edges depth v)

-- it is so after a walk that found one, and has as many places
pub record KnownStill (spans tails edges before after : List ℕ) : Type 0 where
  pub known : Known spans tails edges after
  pub long : length after ≡ length before

-- what is left of a budget after so many lines, if they do not spend it
abbrev pub spend : (budget lines : ℕ) → Option ℕ
spend budget lines = pick (leb lines budget) (Some (budget - lines)) None
