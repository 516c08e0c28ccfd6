-- What counting pieces reads of a table and its answers, what it asks of them, and what its passes leave. Assumes nothing: these are definitions.
use Rattle.std.specs.Prelude.{◌≡◌, Bool, true, false, List, [], ◌∷◌, ℕ, zero, suc, ◌+◌, ◌≤◌, ◌<◌, length, eqb, leb}
use Rattle.weights.specs.declared.Label.{Label}
use Rattle.weights.specs.Choice.{pick}
use Rattle.provenance.specs.Hypergraph.{Hypergraph}
use Rattle.provenance.specs.BestFirst.{labels}
use Rattle.provenance.specs.Pieces.{most_pieces, pieces_at, piece_column, Founded}
use Rattle.tables.specs.Table.{hypergraph}
use Rattle.columns.specs.Columns.{columns, answers, cell, tail_of}
use Rattle.columns.specs.Acceptance.{most_vertices, longest_tail}
use Rattle.columns.specs.Lent.{Placed}

-- of a table and its answers, what counting reads: the lists of the lines, and the depth and the chosen line of each part
abbrev pub lists : (spans tails : List ℕ) → Hypergraph
lists spans tails = hypergraph (columns 0 [] [] [] spans tails)

abbrev pub choices : (depths edges : List ℕ) → ℕ → Label
choices depths edges = labels (answers [] depths edges)

-- the count of a part, and the column of all
abbrev pub count_of : (spans tails depths edges : List ℕ) → ℕ → ℕ
count_of spans tails depths edges = pieces_at (lists spans tails) (choices depths edges)

unfoldable pub counted : (spans tails depths edges : List ℕ) → List ℕ
counted spans tails depths edges = piece_column (lists spans tails) (choices depths edges) (length depths)

-- no count of a column is above the greatest; and whether that is so
abbrev pub Low : List ℕ → Type 0
Low pieces = (v : ℕ) → cell pieces v ≤ most_pieces

unfoldable pub low : List ℕ → Bool
low [] = true
low (p ∷ ps) = pick (leb p most_pieces) (low ps) false

-- the counts of a tail can be added up: few vertices that have their places, and low counts
pub record Summable (tail pieces : List ℕ) : Type 0 where
  pub each : (i : ℕ) → i < length tail → cell tail i < length pieces
  pub short : length tail ≤ longest_tail
  pub low : Low pieces

-- what counting asks: columns of one length, no depth above it, and of each made part that its chosen line has its place and lists only made parts that are less deep
pub record Countable (spans tails depths edges pieces : List ℕ) : Type 0 where
  pub few : length depths ≤ most_vertices
  pub edges_level : length edges ≡ length depths
  pub pieces_level : length pieces ≡ length depths
  pub shallow : (v : ℕ) → cell depths v ≤ length depths
  pub placed : (v : ℕ) → 0 < cell depths v → Placed spans tails (cell edges v)
  pub founded : Founded (tail_of spans tails) (cell depths) (cell edges)

-- of the vertices below k the last of depth d, and 1 more; 0 where there is none
unfoldable pub last_of : (depth : ℕ → ℕ) → (d k : ℕ) → ℕ
last_of depth d zero = 0
last_of depth d (suc k) = pick (eqb (depth k) d) (k + 1) (last_of depth d k)

pub record Linkable (depths last pieces : List ℕ) : Type 0 where
  pub level : length pieces ≡ length depths
  pub some : 0 < length last
  pub shallow : (v : ℕ) → v < length depths → cell depths v < length last
  pub cleared : (d : ℕ) → d < length last → cell last d ≡ 0

-- while linking: the last vertex below v of each depth, and for each vertex below v the one before it of its depth
pub record Linked (depths : List ℕ) (layers v : ℕ) (last pieces : List ℕ) : Type 0 where
  pub last_level : length last ≡ layers
  pub pieces_level : length pieces ≡ length depths
  pub ends : (d : ℕ) → d < layers → cell last d ≡ last_of (cell depths) d v
  pub links : (u : ℕ) → u < v → cell pieces u ≡ last_of (cell depths) (cell depths u) u

-- of the vertices below v none is deeper than g, which is one of so many depths
pub record Deepest (depths : List ℕ) (layers v g : ℕ) : Type 0 where
  pub layer : g < layers
  pub most : (u : ℕ) → u < v → cell depths u ≤ g

-- while counting: the vertices of lower depth than d are counted, and of depth d those from `next` on; the others are linked
pub record Staged (depths : List ℕ) (count : ℕ → ℕ) (d next : ℕ) (pieces : List ℕ) : Type 0 where
  pub level : length pieces ≡ length depths
  pub lower : (u : ℕ) → u < length depths → cell depths u < d → cell pieces u ≡ count u
  pub here : (u : ℕ) → u < length depths → cell depths u ≡ d → next ≤ u → cell pieces u ≡ count u
  pub waiting : (u : ℕ) → u < length depths → cell depths u ≡ d → u < next → cell pieces u ≡ last_of (cell depths) d u
  pub deeper : (u : ℕ) → u < length depths → d < cell depths u → cell pieces u ≡ last_of (cell depths) (cell depths u) u

pub record Layer (d : ℕ) (last spans tails depths edges pieces : List ℕ) : Type 0 where
  pub countable : Countable spans tails depths edges pieces
  pub layer : d < length last
  pub end : cell last d ≡ last_of (cell depths) d (length depths)
  pub staged : Staged depths (count_of spans tails depths edges) d (length depths) pieces
