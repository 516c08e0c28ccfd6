-- Reading, byte by byte from left to right and never ahead: a state for what was read, a step for each byte. Every limit is tested as early as it can
-- fail, so a state that has not failed can still become a permitted text (Prefixes). The paper's "The text", and 14 of "What is turned away".
-- Assumes nothing: these are definitions.
use Rattle.std.specs.Prelude.{ℕ, zero, suc, ◌+◌, ◌*◌, ◌-◌, min, List, [], ◌∷◌, ◌++◌, length, ltb, eqb}
use Rattle.weights.specs.declared.Measure.{Measure}
use Rattle.weights.specs.declared.Measure.TheVariants.{Cost, Days, Grade}
use Rattle.weights.specs.Figures.{greatest, standing, struck_mark}
use Rattle.weights.specs.Choice.{pick}
use Rattle.columns.specs.Acceptance.{most_vertices, most_edges, most_listed, longest_tail}
use Rattle.text.specs.Tables.{Edge, edge, Table, listed_in_all}
use Rattle.text.specs.Render.{letters, first_word}

-- the number that a reader stands before or in, with all that was read before it
pub data Place : Type 0 where
  Vertices : Place
  Head : Table → Place
  Own : Table → (head mark : ℕ) → Place
  Listed : Table → (head own mark : ℕ) → List ℕ → Place

pub data State : Type 0 where
  -- of a word these bytes are left, and then a number begins there
  Spelling : List ℕ → Place → State
  -- behind the n of the first line and a space: the word of a measure begins here
  Naming : (n : ℕ) → State
  -- a number begins here
  First : Place → State
  -- its digits so far make v
  Within : Place → (v : ℕ) → State
  -- a byte of this text line, from 1, could not stand there
  Failed : (line : ℕ) → State

abbrev pub begun : ℕ → Measure → Table
begun n m = record { vertices = n; measure = m; edges = [] }

abbrev pub with_edge : Table → Edge → Table
with_edge t e = record { vertices = t.vertices; measure = t.measure; edges = t.edges ++ e ∷ [] }

-- the text line behind the hyperedges read so far, from 1
abbrev pub next_line : Table → ℕ
next_line t = length t.edges + 2

-- how many parts the next line may list
abbrev pub may_list : Table → ℕ
may_list t = min (most_listed - listed_in_all t.edges) longest_tail

-- a number there is below this; the 4,097th hyperedge has no head
unfoldable pub limit : Place → ℕ
limit Vertices = most_vertices + 1
limit (Head t) = pick (ltb (length t.edges) most_edges) t.vertices 0
limit (Own t h k) = greatest + 1
limit (Listed t h o k xs) = t.vertices

unfoldable pub line_at : Place → ℕ
line_at Vertices = 1
line_at (Head t) = next_line t
line_at (Own t h k) = next_line t
line_at (Listed t h o k xs) = next_line t

-- the digit that a byte is, else 10
unfoldable pub digit_of : ℕ → ℕ
digit_of b = pick (ltb b 48) 10 (pick (ltb 57 b) 10 (b - 48))

-- the number there is v so far
unfoldable pub grown : Place → ℕ → State
grown p v = pick (ltb v (limit p)) (Within p v) (Failed (line_at p))

-- a first byte that is no digit: `-` marks the own figure of a struck line, and behind it the figure must begin
unfoldable pub instead : Place → ℕ → State
instead Vertices b = Failed 1
instead (Head t) b = Failed (next_line t)
instead (Own t h zero) b = pick (eqb b 45) (First (Own t h struck_mark)) (Failed (next_line t))
instead (Own t h (suc k)) b = Failed (next_line t)
instead (Listed t h o k xs) b = Failed (next_line t)

-- the byte after an own figure or a listed part
unfoldable pub after : Table → (head own mark : ℕ) → List ℕ → ℕ → State
after t h o k xs b =
    pick (eqb b 32)
    (pick (ltb (length xs) (may_list t)) (First (Listed t h o k xs)) (Failed (next_line t)))
    (pick (eqb b 10) (First (Head (with_edge t (edge h o k xs)))) (Failed (next_line t)))

-- a byte of a word
unfoldable pub spell : List ℕ → Place → ℕ → State
spell [] p b = Failed 1
spell (w ∷ []) p b = pick (eqb b w) (First p) (Failed 1)
spell (w ∷ v ∷ ws) p b = pick (eqb b w) (Spelling (v ∷ ws) p) (Failed 1)

-- the first letter of a measure's word decides which it is
unfoldable pub named : (n b : ℕ) → State
named n b = pick (eqb b 99) (spell (letters Cost ++ 10 ∷ []) (Head (begun n Cost)) b) (spell (letters Grade ++ 10 ∷ []) (Head (begun n Grade)) b)

-- the byte after a number
unfoldable pub ended : Place → (v b : ℕ) → State
ended Vertices n b = pick (eqb b 10) (First (Head (begun n Days))) (pick (eqb b 32) (Naming n) (Failed 1))
ended (Head t) h b = pick (eqb b 32) (First (Own t h standing)) (Failed (next_line t))
ended (Own t h k) o b = after t h o k [] b
ended (Listed t h o k xs) v b = after t h o k (xs ++ v ∷ []) b

unfoldable pub step : State → ℕ → State
step (Spelling ws p) b = spell ws p b
step (Naming n) b = named n b
step (First p) b = pick (ltb (digit_of b) 10) (grown p (digit_of b)) (instead p b)
step (Within p v) b =
    pick (ltb (digit_of b) 10)
    (pick (ltb 0 v) (grown p (10 * v + digit_of b)) (Failed (line_at p)))
    (ended p v b)
step (Failed l) b = Failed l

unfoldable pub run : State → List ℕ → State
run σ [] = σ
run σ (b ∷ bs) = run (step σ b) bs

-- what a text holds, or the first text line that breaks a rule
pub data Parse : Type 0 where
  Whole : Table → Parse
  Wrong : (line : ℕ) → Parse

-- a text may end where a line may begin
unfoldable pub finish : State → Parse
finish (Spelling ws p) = Wrong 1
finish (Naming n) = Wrong 1
finish (First Vertices) = Wrong 1
finish (First (Head t)) = Whole t
finish (First (Own t h k)) = Wrong (next_line t)
finish (First (Listed t h o k xs)) = Wrong (next_line t)
finish (Within p v) = Wrong (line_at p)
finish (Failed l) = Wrong l

abbrev pub begin : State
begin = Spelling first_word Vertices

unfoldable pub parse : List ℕ → Parse
parse s = finish (run begin s)
