-- The lent columns of a table and of its answers, as data. The paper's "The table". Assumes nothing: these are definitions.
use Rattle.std.specs.Prelude.{ℕ, ◌+◌, ◌*◌, ◌≡◌, List, length, get_or, set, take, drop}

-- n, and the five columns: heads; own figures; strike marks; spans, two places for each line; and the needed parts
pub record Columns : Type 0 where
  pub vertices : ℕ
  pub heads : List ℕ
  pub own : List ℕ
  pub strikes : List ℕ
  pub spans : List ℕ
  pub tails : List ℕ

abbrev pub columns : ℕ → (heads own strikes spans tails : List ℕ) → Columns
columns n heads own strikes spans tails = record { vertices = n; heads = heads; own = own; strikes = strikes; spans = spans; tails = tails }

-- three of the answer columns: figure, depth and line of each part
pub record Answers : Type 0 where
  pub weights : List ℕ
  pub depths : List ℕ
  pub edges : List ℕ

abbrev pub answers : (weights depths edges : List ℕ) → Answers
answers weights depths edges = record { weights = weights; depths = depths; edges = edges }

-- the three columns are n long
pub record Sized (n : ℕ) (a : Answers) : Type 0 where
  pub weights : length a.weights ≡ n
  pub depths : length a.depths ≡ n
  pub edges : length a.edges ≡ n

-- the four answer columns: those three, and the piece count of each part (document 02, 2026-09)
pub record Entries : Type 0 where
  pub labels : Answers
  pub pieces : List ℕ

abbrev pub entries : (weights depths edges pieces : List ℕ) → Entries
entries weights depths edges pieces = record { labels = answers weights depths edges; pieces = pieces }

-- the four columns are n long
pub record SizedEntries (n : ℕ) (x : Entries) : Type 0 where
  pub labels : Sized n x.labels
  pub pieces : length x.pieces ≡ n

-- what a column holds for a vertex
abbrev pub cell : List ℕ → ℕ → ℕ
cell xs v = get_or xs v 0

-- a line's head, own figure and strike mark; its span: offset, then length; and the parts that it lists
abbrev pub head_at : Columns → ℕ → ℕ
head_at c e = get_or c.heads e 0

abbrev pub own_at : Columns → ℕ → ℕ
own_at c e = get_or c.own e 0

abbrev pub strike_at : Columns → ℕ → ℕ
strike_at c e = get_or c.strikes e 0

abbrev pub offset_at : Columns → ℕ → ℕ
offset_at c e = get_or c.spans (2 * e) 0

abbrev pub length_at : Columns → ℕ → ℕ
length_at c e = get_or c.spans (2 * e + 1) 0

abbrev pub tail_at : Columns → ℕ → List ℕ
tail_at c e = take (length_at c e) (drop (offset_at c e) c.tails)

-- `size` places of a column, from `offset` on
abbrev pub part : (offset size : ℕ) → List ℕ → List ℕ
part offset size xs = take size (drop offset xs)

-- `tail_at` by the two columns that it looks at
abbrev pub tail_of : (spans tails : List ℕ) → ℕ → List ℕ
tail_of spans tails e = part (get_or spans (2 * e) 0) (get_or spans (2 * e + 1) 0) tails

-- the same columns with the own figure w at line e
abbrev pub with_own : Columns → (e w : ℕ) → Columns
with_own c e w = columns c.vertices c.heads (set c.own e w) c.strikes c.spans c.tails

-- the same columns with the strike mark s at line e
abbrev pub with_strike : Columns → (e s : ℕ) → Columns
with_strike c e s = columns c.vertices c.heads c.own (set c.strikes e s) c.spans c.tails
