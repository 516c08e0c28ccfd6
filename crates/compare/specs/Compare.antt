-- Two tables side by side: "a row for each part that differs: its state and figure in both tables". Assumes nothing: these are definitions.
use Rattle.std.specs.Prelude.{ℕ, zero, suc, max, Bool, true, false, List, [], ◌∷◌, ◌++◌, length, eqb, ltb, Ok, Err}
use Rattle.weights.specs.declared.State.{State}
use Rattle.weights.specs.declared.State.TheVariants.{Made, Over, Unmade}
use Rattle.weights.specs.declared.Entry.{Entry}
use Rattle.weights.specs.Choice.{pick}
use Rattle.refusal.specs.declared.Refusal.TheVariants.{InputLength}
use Rattle.columns.specs.Columns.{Entries}
use Rattle.columns.specs.Owed.{Outcome}
use Rattle.settle.specs.Settling.{entry_at, settled}
use Rattle.text.specs.Render.{digits}
use Rattle.readtable.specs.Read.{ReadOutcome, columns_read}
use Rattle.report.specs.Report.{most_input, state_word, blank_entries, read_input}
use Rattle.reply.specs.Reply.{Said, answered, second_refused, on_second}
use Rattle.refusal.specs.Answers.{Acceptance, Reading}

-- a bound on the bytes of a row: three numbers of 20 digits and two states' words
abbrev pub most_row : ℕ
most_row = 77

-- part, its state and figure in the first table, its state and figure in the second
unfoldable pub difference_row : ℕ → Entry → Entry → List ℕ
difference_row v x y =
    digits v ++ (32 ∷ state_word x.state) ++ (32 ∷ digits x.weight.0) ++ (32 ∷ state_word y.state) ++ (32 ∷ digits y.weight.0) ++ 10 ∷ []

unfoldable pub same_state : State → State → Bool
same_state Made Made = true
same_state Made Over = false
same_state Made Unmade = false
same_state Over Made = false
same_state Over Over = true
same_state Over Unmade = false
same_state Unmade Made = false
same_state Unmade Over = false
same_state Unmade Unmade = true

-- "a row for each part that differs": in state or figure; depth, line and pieces are not looked at
unfoldable pub agrees : Entry → Entry → Bool
agrees x y = pick (same_state x.state y.state) (eqb x.weight.0 y.weight.0) false

unfoldable pub row_if : ℕ → Entry → Entry → List ℕ
row_if v x y = pick (agrees x y) [] (difference_row v x y)

-- of the parts below k
unfoldable pub differences : (a b : Entries) → ℕ → List ℕ
differences a b zero = []
differences a b (suc k) = differences a b k ++ row_if k (entry_at a k) (entry_at b k)

-- by what settling the second table, of k parts, returned; a part that a table does not have is unmade there
abbrev pub compared_as : (n k : ℕ) → Entries → Outcome Acceptance Entries → Said
compared_as n k a o = on_second o.result (answered (differences a o.left (max n k)))

-- by what reading the second text returned
abbrev pub compared_with : (n : ℕ) → Entries → Reading → ReadOutcome → Said
compared_with n a (Err r) x = second_refused r
compared_with n a (Ok g) x = compared_as n g.vertices a (settled g.measure (columns_read g x) (blank_entries g.vertices))

-- 17 comes first, then 14
unfoldable pub compared_said : (n : ℕ) → Entries → (second : List ℕ) → Said
compared_said n a s = pick (ltb most_input (length s)) (second_refused InputLength) (compared_with n a (read_input s).answer (read_input s))
