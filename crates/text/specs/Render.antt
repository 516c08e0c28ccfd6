-- The bytes of a table: the whole meaning of the format; and which texts are permitted. The paper's "The text". Assumes nothing: these are definitions.
use Rattle.std.specs.Prelude.{ℕ, zero, suc, ◌+◌, ◌/◌, ◌%◌, ◌≡◌, List, [], ◌∷◌, ◌++◌, ltb, Ok}
use Rattle.weights.specs.declared.Measure.{Measure}
use Rattle.weights.specs.declared.Measure.TheVariants.{Cost, Days, Grade}
use Rattle.weights.specs.Figures.{is_struck_mark}
use Rattle.weights.specs.Choice.{pick}
use Rattle.columns.specs.Columns.{Columns}
use Rattle.columns.specs.Acceptance.{acceptance}
use Rattle.text.specs.Tables.{Edge, Table, edges_of}

-- Numbers: decimal without leading zeros -------------------------------------------------------------------------------------------------

-- for n at most the first argument
unfoldable pub digits_on : ℕ → ℕ → List ℕ
digits_on zero n = (48 + n) ∷ []
digits_on (suc k) n =
    let more = digits_on k (n / 10) ++ (48 + n % 10) ∷ [] in
    pick (ltb n 10) ((48 + n) ∷ []) more

unfoldable pub digits : ℕ → List ℕ
digits n = digits_on n n

-- The first line: `parts N`, `parts N cost` or `parts N grade` ---------------------------------------------------------------------------

-- the letters that name a measure: days has none
abbrev pub letters : Measure → List ℕ
letters Cost = 99 ∷ 111 ∷ 115 ∷ 116 ∷ []
letters Days = []
letters Grade = 103 ∷ 114 ∷ 97 ∷ 100 ∷ 101 ∷ []

-- its word, with the space before it
unfoldable pub word : Measure → List ℕ
word Cost = 32 ∷ letters Cost
word Days = []
word Grade = 32 ∷ letters Grade

-- `parts `
unfoldable pub first_word : List ℕ
first_word = 112 ∷ 97 ∷ 114 ∷ 116 ∷ 115 ∷ 32 ∷ []

-- the end of the first line
unfoldable pub measure_text : Measure → List ℕ
measure_text m = word m ++ 10 ∷ []

unfoldable pub header : ℕ → Measure → List ℕ
header n m = (first_word ++ digits n) ++ measure_text m

-- A line for each hyperedge: head, own figure with its mark, listed parts, single spaces between ----------------------------------------

-- `-` if struck, and the figure that the line keeps (document 02, 2026-02: "as `-500`; a bare `-` is refused")
unfoldable pub mark_text : ℕ → List ℕ
mark_text k = pick (is_struck_mark k) (45 ∷ []) []

unfoldable pub own_text : (own mark : ℕ) → List ℕ
own_text o k = mark_text k ++ digits o

unfoldable pub tail_text : List ℕ → List ℕ
tail_text [] = []
tail_text (v ∷ vs) = (32 ∷ digits v) ++ tail_text vs

-- a line up to its LF
unfoldable pub edge_text : Edge → List ℕ
edge_text e = digits e.head ++ (32 ∷ own_text e.own e.mark) ++ tail_text e.tail

unfoldable pub edges_text : List Edge → List ℕ
edges_text [] = []
edges_text (e ∷ es) = (edge_text e ++ 10 ∷ []) ++ edges_text es

-- The text ---------------------------------------------------------------------------------------------------------------------------------

unfoldable pub table_text : ℕ → Measure → List Edge → List ℕ
table_text n m es = header n m ++ edges_text es

-- the bytes of a table in columns: gaps are not seen
abbrev pub render : Measure → Columns → List ℕ
render m c = table_text c.vertices m (edges_of c)

-- and of a table hyperedge by hyperedge, as reading holds it
abbrev pub text_of : Table → List ℕ
text_of t = table_text t.vertices t.measure t.edges

-- a text is permitted if it is the rendering of an accepted table
pub record Permitted (s : List ℕ) : Type 0 where
  pub measure : Measure
  pub table : Columns
  pub accepted : acceptance table ≡ Ok tt
  pub same : s ≡ render measure table
