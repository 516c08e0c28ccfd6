-- What the lines of a text hold, line by line as the code reads them; `scan` is the whole text so read, and Scanned shows that it is `parse`. The paper's
-- "The text". Assumes nothing: these are definitions.
use Rattle.std.specs.Prelude.{ℕ, zero, suc, ◌+◌, ◌-◌, ◌^◌, ◌≤◌, ◌<◌, ◌≡◌, List, [], ◌∷◌, ◌++◌, length, get_or, drop, ltb, eqb, Option, Result, Ok, Err, Some, None}
use Rattle.weights.specs.declared.Vertex.{Vertex}
use Rattle.weights.specs.declared.Weight.{Weight}
use Rattle.weights.specs.declared.Mark.{Mark}
use Rattle.weights.specs.declared.Measure.{Measure}
use Rattle.weights.specs.declared.Measure.TheVariants.{Cost, Days, Grade}
use Rattle.weights.specs.Choice.{pick}
use Rattle.refusal.specs.declared.Refusal.{Refusal}
use Rattle.refusal.specs.declared.Refusal.TheVariants.{Text}
use Rattle.refusal.specs.declared.Header.{Header}
use Rattle.columns.specs.Acceptance.{most_vertices, most_edges}
use Rattle.text.specs.Tables.{Edge, edge, Table, listed_in_all}
use Rattle.text.specs.Render.{measure_text, first_word}
use Rattle.text.specs.Machine.{begun, with_edge, next_line, may_list, Parse, Whole, Wrong}
use Rattle.text.specs.Bytes.{column_of}
use Rattle.columns.specs.Filled.{filled}
use Rattle.cursor.specs.declared.Token.{Token}
use Rattle.cursor.specs.declared.WeightToken.{WeightToken}
use Rattle.cursor.specs.Cursor.{FoundWeight, number_at, weight_at}
use Rattle.reading.specs.declared.FirstLine.{FirstLine}
use Rattle.reading.specs.declared.Stem.{Stem}
use Rattle.reading.specs.declared.Tail.{Tail}
use Rattle.reading.specs.declared.Line.{Line}
use Rattle.refusal.specs.Answers.{Reading}

-- the refusal at a place of the text line that begins at `start`; no text is so long that its column wraps
abbrev pub refused_at : (line start place : ℕ) → Refusal
refused_at l start place = Text (record { 0 = l }) (record { 0 = place - start + 1 })

pub record InLine (start place : ℕ) : Type 0 where
  pub behind_start : start ≤ place
  pub near : place - start < 2 ^ 63

-- The first line -----------------------------------------------------------------------------------------------------------------------------

-- with how many bytes of a word a text starts
unfoldable pub agreeing : (word text : List ℕ) → ℕ
agreeing [] s = 0
agreeing (w ∷ ws) [] = 0
agreeing (w ∷ ws) (b ∷ s) = pick (eqb b w) (suc (agreeing ws s)) 0

-- how many parts there are, the measure, and the place of the next line; or the place of the first byte that can't stand there
pub data Opening : Type 0 where
  Opens : (n : ℕ) → Measure → (start : ℕ) → Opening
  Unopened : (place : ℕ) → Opening

abbrev pub first_of : Opening → Result FirstLine Refusal
first_of (Opens n m start) = Ok (record { vertices = n; measure = m; next = start })
first_of (Unopened place) = Err (refused_at 1 0 place)

-- k bytes of w, which names measure m, stand behind the number of parts, which stopped there
abbrev pub on_word : (n : ℕ) → Measure → (stop : ℕ) → (w : List ℕ) (k : ℕ) → Opening
on_word n m stop w k = pick (ltb k (length w)) (Unopened (stop + k)) (Opens n m (stop + length w))

abbrev pub on_named : List ℕ → (n : ℕ) → Measure → (stop : ℕ) → Opening
on_named s n m stop = on_word n m stop (measure_text m) (agreeing (measure_text m) (drop stop s))

-- behind the number of parts: LF, or a space and the letter that decides the word
abbrev pub on_count : List ℕ → (stop : ℕ) → (Option ℕ) → Opening
on_count s stop (Some n) =
    pick (eqb (get_or s stop 0) 10) (Opens n Days (stop + 1))
    (pick (eqb (get_or s stop 0) 32) (pick (eqb (get_or s (stop + 1) 0) 99) (on_named s n Cost stop) (on_named s n Grade stop)) (Unopened stop))
on_count s stop None = Unopened stop

abbrev pub on_counted : List ℕ → Token → Opening
on_counted s t = on_count s t.stop t.found

unfoldable pub first_line : List ℕ → Opening
first_line s =
    pick (ltb (agreeing first_word s) (length first_word)) (Unopened (agreeing first_word s)) (on_counted s (number_at s (length first_word) (most_vertices + 1)))

-- A line for a hyperedge ---------------------------------------------------------------------------------------------------------------------

-- head, own figure and mark, and the place behind them; or the place of the first byte that fails
pub data Stalk : Type 0 where
  Bears : Vertex → Weight → Mark → (next : ℕ) → Stalk
  Bare : (place : ℕ) → Stalk

abbrev pub stem_of : (line start : ℕ) → Stalk → Result Stem Refusal
stem_of l start (Bears h o k next) = Ok (record { head = h; own = o; mark = k; next = next })
stem_of l start (Bare place) = Err (refused_at l start place)

abbrev pub on_own : (h stop : ℕ) → FoundWeight → Stalk
on_own h stop (Some (w, k)) = Bears (record { 0 = h }) w k stop
on_own h stop None = Bare stop

abbrev pub on_owned : ℕ → WeightToken → Stalk
on_owned h t = on_own h t.stop t.found

abbrev pub on_head : List ℕ → (stop : ℕ) → (Option ℕ) → Stalk
on_head s stop (Some h) = pick (eqb (get_or s stop 0) 32) (on_owned h (weight_at s (stop + 1))) (Bare stop)
on_head s stop None = Bare stop

abbrev pub on_headed : List ℕ → Token → Stalk
on_headed s t = on_head s t.stop t.found

-- head, single space, own figure with its mark
unfoldable pub stem_at : List ℕ → (n at : ℕ) → Stalk
stem_at s n at = on_headed s (number_at s at n)

-- the parts listed, and the place of the next line; or the parts before the first fault, and the place of the byte that fails
pub data Listing : Type 0 where
  Ends : List ℕ → (next : ℕ) → Listing
  Breaks : List ℕ → (place : ℕ) → Listing

abbrev pub list_end : List ℕ → ℕ → List ℕ → Listing
list_end s at xs = pick (eqb (get_or s at 0) 10) (Ends xs (at + 1)) (Breaks xs at)

abbrev pub on_vertex : List ℕ → (stop : ℕ) → (Option ℕ) → (List ℕ → ℕ → Listing) → Listing
on_vertex xs stop (Some v) more = more (xs ++ v ∷ []) stop
on_vertex xs stop None more = Breaks xs stop

abbrev pub on_listed : List ℕ → Token → (List ℕ → ℕ → Listing) → Listing
on_listed xs t more = on_vertex xs t.stop t.found more

-- behind the parts xs, `left` more may be listed: the space before one too many fails
unfoldable pub listed_from : (left : ℕ) → List ℕ → (n at : ℕ) → List ℕ → Listing
listed_from zero s n at xs = pick (eqb (get_or s at 0) 32) (Breaks xs at) (list_end s at xs)
listed_from (suc left) s n at xs =
    let more : List ℕ → ℕ → Listing = λ ys next. listed_from left s n next ys in
    pick (eqb (get_or s at 0) 32) (on_listed xs (number_at s (at + 1) n) more) (list_end s at xs)

abbrev pub vertices : Listing → List ℕ
vertices (Ends xs next) = xs
vertices (Breaks xs place) = xs

abbrev pub tail_of : (line start : ℕ) → Listing → Result Tail Refusal
tail_of l start (Ends xs next) = Ok (record { listed = length xs; next = next })
tail_of l start (Breaks xs place) = Err (refused_at l start place)

-- a hyperedge, and the place of the next line; or the parts that were listed before the first fault, and the place of the byte that fails
pub data Row : Type 0 where
  Holds : Edge → (next : ℕ) → Row
  Fails : List ℕ → (place : ℕ) → Row

abbrev pub on_listing : Vertex → Weight → Mark → Listing → Row
on_listing h o k (Ends xs next) = Holds (edge h.0 o.0 k.0 xs) next
on_listing h o k (Breaks xs place) = Fails xs place

abbrev pub on_stem : List ℕ → (n most : ℕ) → Stalk → Row
on_stem s n most (Bears h o k at) = on_listing h o k (listed_from most s n at [])
on_stem s n most (Bare place) = Fails [] place

-- the line at a place, of at most so many listed parts
unfoldable pub row_at : List ℕ → (n most at : ℕ) → Row
row_at s n most at = on_stem s n most (stem_at s n at)

abbrev pub stored : Row → List ℕ
stored (Holds e next) = e.tail
stored (Fails xs place) = xs

abbrev pub line_of : (line start : ℕ) → Row → Result Line Refusal
line_of l start (Holds e next) = Ok (record { head = record { 0 = e.head }; own = record { 0 = e.own }; mark = record { 0 = e.mark }; listed = length e.tail; next = next })
line_of l start (Fails xs place) = Err (refused_at l start place)

-- the outcome of reading a list, and a line: the answer, and the room with the listed parts from its start
pub record ReadsTail (line start : ℕ) (l : Listing) (old : List ℕ) (r : Result Tail Refusal) (new : List ℕ) : Type 0 where
  pub answer : r ≡ tail_of line start l
  pub room : new ≡ filled (vertices l) old

pub record ReadsLine (line start : ℕ) (w : Row) (old : List ℕ) (r : Result Line Refusal) (new : List ℕ) : Type 0 where
  pub answer : r ≡ line_of line start w
  pub room : new ≡ filled (stored w) old

-- The text -------------------------------------------------------------------------------------------------------------------------------------

abbrev pub on_row : Table → Row → (Table → ℕ → Parse) → Parse
on_row t (Holds e next) more = more (with_edge t e) next
on_row t (Fails xs place) more = Wrong (next_line t)

-- behind the hyperedges of t, `left` lines more may stand
unfoldable pub scan_from : (left : ℕ) → List ℕ → ℕ → Table → Parse
scan_from zero s at t = pick (ltb at (length s)) (Wrong (next_line t)) (Whole t)
scan_from (suc left) s at t =
    let more : Table → ℕ → Parse = λ u next. scan_from left s next u in
    pick (ltb at (length s)) (on_row t (row_at s t.vertices (may_list t) at) more) (Whole t)

abbrev pub on_first : List ℕ → Opening → Parse
on_first s (Opens n m start) = scan_from most_edges s start (begun n m)
on_first s (Unopened place) = Wrong 1

unfoldable pub scan : List ℕ → Parse
scan s = on_first s (first_line s)

-- what is told of a text: n, the measure and the counts, or refusal 14 with line and column
abbrev pub header_of : Table → Header
header_of t = record { vertices = t.vertices; measure = t.measure; edges = length t.edges; listed = listed_in_all t.edges }

abbrev pub reading_of : List ℕ → Parse → Reading
reading_of s (Whole t) = Ok (header_of t)
reading_of s (Wrong l) = Err (Text (record { 0 = l }) (record { 0 = column_of s }))
