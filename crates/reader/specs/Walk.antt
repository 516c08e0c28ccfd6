-- What walking a text with a reader tells, field by field from its start to its end: each equation is the answer of one function of `reader`. The paper's
-- "The text", without its three counts. Assumes nothing: these are definitions.
use Rattle.std.specs.Prelude.{ℕ, ◌≤◌, ◌<◌, ◌≡◌, List, [], ◌∷◌, true, false, length, leb, Ok, Some}
use Rattle.weights.specs.Figures.{greatest, struck_mark}
use Rattle.columns.specs.Acceptance.{most_vertices, most_edges, most_listed, longest_tail, all_below}
use Rattle.text.specs.Tables.{Edge, Table, listed_in_all}
use Rattle.text.specs.Rows.{All}
use Rattle.cursor.specs.declared.Separator.TheVariants.{Space, LineEnd}
use Rattle.cursor.specs.Cursor.{token, number_at, weight_token, weight_at, separator_at}
use Rattle.reading.specs.Lines.{first_line, first_of}

-- the parts listed from a place on, each behind a space, up to the end of the line
pub data Parts (s : List ℕ) (n : ℕ) : (at : ℕ) → List ℕ → (next : ℕ) → Type 0 where
  no_part : {at next : ℕ} → separator_at s at ≡ LineEnd next → Parts s n at [] next
  part : {at from after next v : ℕ} {vs : List ℕ} → separator_at s at ≡ Space from → number_at s from n ≡ token from after (Some v) → Parts s n after vs next → Parts s n at (v ∷ vs) next

-- a table line: head, single space, own figure with its mark, listed parts
pub record Line (s : List ℕ) (n at : ℕ) (e : Edge) (next : ℕ) : Type 0 where
  pub behind_head : ℕ
  pub from : ℕ
  pub behind_own : ℕ
  pub head : number_at s at n ≡ token at behind_head (Some e.head)
  pub space : separator_at s behind_head ≡ Space from
  pub own : weight_at s from ≡ weight_token from behind_own (Some ((record { 0 = e.own }), (record { 0 = e.mark })))
  pub parts : Parts s n behind_own e.tail next

-- table lines up to the text's end
pub data Lines (s : List ℕ) (n : ℕ) : (at : ℕ) → List Edge → Type 0 where
  no_line : {at : ℕ} → leb (length s) at ≡ true → Lines s n at []
  line : {at next : ℕ} {e : Edge} {es : List Edge} → leb (length s) at ≡ false → Line s n at e next → Lines s n next es → Lines s n at (e ∷ es)

-- a walk of a text reaches its end, and has passed this table
pub record Walks (s : List ℕ) (t : Table) : Type 0 where
  pub start : ℕ
  pub first : first_of (first_line s) ≡ Ok (record { vertices = t.vertices; measure = t.measure; next = start })
  pub lines : Lines s t.vertices start t.edges

-- every number of a table is within its limit: a text of such a table is permitted in form
pub record EdgeFormed (n : ℕ) (e : Edge) : Type 0 where
  pub head : e.head < n
  pub own : e.own ≤ greatest
  pub mark : e.mark ≤ struck_mark
  pub tail : all_below n e.tail ≡ true

pub record Formed (t : Table) : Type 0 where
  pub vertices : t.vertices ≤ most_vertices
  pub each : All (EdgeFormed t.vertices) t.edges

-- the counts that are left to whoever walks: at most 4,096 lines, 16 parts to a line, 16,384 in all
pub record Counted (t : Table) : Type 0 where
  pub edges : length t.edges ≤ most_edges
  pub listed : listed_in_all t.edges ≤ most_listed
  pub short : All (λ (e : Edge). length e.tail ≤ longest_tail) t.edges
