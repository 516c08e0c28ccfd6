-- A table hyperedge by hyperedge, as its text has it: out of the lent columns, and into columns without gaps. The paper's "The table", and of "The text":
-- "Spans are written from offset 0 without gaps". Assumes nothing: these are definitions.
use Rattle.std.specs.Prelude.{ℕ, zero, suc, ◌+◌, List, [], ◌∷◌, ◌++◌, length}
use Rattle.weights.specs.declared.Measure.{Measure}
use Rattle.columns.specs.Columns.{Columns, columns, head_at, own_at, strike_at, tail_at}

-- a line of the table: its head, its own figure, its strike mark, the parts that it lists
pub record Edge : Type 0 where
  pub head : ℕ
  pub own : ℕ
  pub mark : ℕ
  pub tail : List ℕ

abbrev pub edge : (head own mark : ℕ) → List ℕ → Edge
edge h o k xs = record { head = h; own = o; mark = k; tail = xs }

pub record Table : Type 0 where
  pub vertices : ℕ
  pub measure : Measure
  pub edges : List Edge

-- the hyperedges of columns: the `left` from e on, and all
unfoldable pub edges_from : Columns → (left e : ℕ) → List Edge
edges_from c zero e = []
edges_from c (suc left) e = record { head = head_at c e; own = own_at c e; mark = strike_at c e; tail = tail_at c e } ∷ edges_from c left (e + 1)

abbrev pub edges_of : Columns → List Edge
edges_of c = edges_from c (length c.heads) 0

abbrev pub table_of : Measure → Columns → Table
table_of m c = record { vertices = c.vertices; measure = m; edges = edges_of c }

-- how many parts are listed in all
unfoldable pub listed_in_all : List Edge → ℕ
listed_in_all [] = 0
listed_in_all (e ∷ es) = length e.tail + listed_in_all es

-- the five columns of hyperedges, spans from an offset on without gaps
unfoldable pub each_of : (Edge → ℕ) → List Edge → List ℕ
each_of f [] = []
each_of f (e ∷ es) = f e ∷ each_of f es

abbrev pub heads_of : List Edge → List ℕ
heads_of = each_of (λ e. e.head)

abbrev pub owns_of : List Edge → List ℕ
owns_of = each_of (λ e. e.own)

abbrev pub marks_of : List Edge → List ℕ
marks_of = each_of (λ e. e.mark)

unfoldable pub spans_from : ℕ → List Edge → List ℕ
spans_from offset [] = []
spans_from offset (e ∷ es) = offset ∷ length e.tail ∷ spans_from (offset + length e.tail) es

unfoldable pub tails_of : List Edge → List ℕ
tails_of [] = []
tails_of (e ∷ es) = e.tail ++ tails_of es

abbrev pub columns_of : ℕ → List Edge → Columns
columns_of n es = columns n (each_of (λ e. e.head) es) (each_of (λ e. e.own) es) (each_of (λ e. e.mark) es) (spans_from 0 es) (tails_of es)

-- the same table with its gaps closed
abbrev pub closed : Columns → Columns
closed c = columns_of c.vertices (edges_of c)
