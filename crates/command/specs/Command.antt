-- Which command a line of words is: its name and its numbers, single spaces between them and an LF behind the last. Numbers are written as the table's text
-- writes them. Assumes nothing: these are definitions.
use Rattle.std.specs.Prelude.{ℕ, zero, suc, ◌+◌, Bool, true, false, List, [], ◌∷◌, length, get_or, set, replicate, eqb, leb, Option, Some, None}
use Rattle.weights.specs.Choice.{pick}
use Rattle.cursor.specs.declared.Separator.{Separator}
use Rattle.cursor.specs.declared.Separator.TheVariants as separator
use Rattle.cursor.specs.Cursor.{number_at, separator_at}
use Rattle.reading.specs.Lines.{agreeing}
use Rattle.command.specs.declared.Name.{Name}
use Rattle.command.specs.declared.Name.TheVariants as name
use Rattle.command.specs.declared.Named.{Named}
use Rattle.command.specs.declared.Next.{Next}
use Rattle.command.specs.declared.Next.TheVariants.{Number, End, Neither}
use Rattle.command.specs.declared.Command.{Command}
use Rattle.command.specs.declared.Question.{Question}
use Rattle.command.specs.declared.Question.TheVariants.{Price, Bill, Reprice, Strike, Restore, Compare, Replay}
use Rattle.command.specs.declared.Query.{Query}
use Rattle.command.specs.declared.Query.TheVariants.{Settled, Uses, Check, CheckOrder}
use Rattle.command.specs.declared.Command.TheVariants.{Ask, Append, Mean, Misuse}
use Rattle.command.specs.declared.Line.{Line}

-- the most numbers of a command, and the least number that no argument is: it has nineteen digits
abbrev pub most_numbers : ℕ
most_numbers = 18

abbrev pub number_limit : ℕ
number_limit = 1_000_000_000_000_000_000

-- The name -------------------------------------------------------------------------------------------------------------------------------------

abbrev pub named : Name → ℕ → Named
named x k = record { name = x; stop = k }

-- `price`, `bill`, `uses`, `reprice`, `strike`, `restore`, `append`, `check-order`, `check`, `mean`, `compare`, `replay`
abbrev pub price_word : List ℕ
price_word = 112 ∷ 114 ∷ 105 ∷ 99 ∷ 101 ∷ []

abbrev pub bill_word : List ℕ
bill_word = 98 ∷ 105 ∷ 108 ∷ 108 ∷ []

abbrev pub uses_word : List ℕ
uses_word = 117 ∷ 115 ∷ 101 ∷ 115 ∷ []

abbrev pub reprice_word : List ℕ
reprice_word = 114 ∷ 101 ∷ 112 ∷ 114 ∷ 105 ∷ 99 ∷ 101 ∷ []

abbrev pub strike_word : List ℕ
strike_word = 115 ∷ 116 ∷ 114 ∷ 105 ∷ 107 ∷ 101 ∷ []

abbrev pub restore_word : List ℕ
restore_word = 114 ∷ 101 ∷ 115 ∷ 116 ∷ 111 ∷ 114 ∷ 101 ∷ []

abbrev pub append_word : List ℕ
append_word = 97 ∷ 112 ∷ 112 ∷ 101 ∷ 110 ∷ 100 ∷ []

abbrev pub check_order_word : List ℕ
check_order_word = 99 ∷ 104 ∷ 101 ∷ 99 ∷ 107 ∷ 45 ∷ 111 ∷ 114 ∷ 100 ∷ 101 ∷ 114 ∷ []

abbrev pub check_word : List ℕ
check_word = 99 ∷ 104 ∷ 101 ∷ 99 ∷ 107 ∷ []

abbrev pub mean_word : List ℕ
mean_word = 109 ∷ 101 ∷ 97 ∷ 110 ∷ []

abbrev pub compare_word : List ℕ
compare_word = 99 ∷ 111 ∷ 109 ∷ 112 ∷ 97 ∷ 114 ∷ 101 ∷ []

abbrev pub replay_word : List ℕ
replay_word = 114 ∷ 101 ∷ 112 ∷ 108 ∷ 97 ∷ 121 ∷ []

-- the first of them with which a line starts, and the place behind it; `check-order` before `check`, with which it starts
abbrev pub name_in : List ℕ → Named
name_in s =
    pick (eqb (agreeing price_word s) 5) (named name.Price 5)
    (pick (eqb (agreeing bill_word s) 4) (named name.Bill 4)
    (pick (eqb (agreeing uses_word s) 4) (named name.Uses 4)
    (pick (eqb (agreeing reprice_word s) 7) (named name.Reprice 7)
    (pick (eqb (agreeing strike_word s) 6) (named name.Strike 6)
    (pick (eqb (agreeing restore_word s) 7) (named name.Restore 7)
    (pick (eqb (agreeing append_word s) 6) (named name.Append 6)
    (pick (eqb (agreeing check_order_word s) 11) (named name.CheckOrder 11)
    (pick (eqb (agreeing check_word s) 5) (named name.Check 5)
    (pick (eqb (agreeing mean_word s) 4) (named name.Mean 4)
    (pick (eqb (agreeing compare_word s) 7) (named name.Compare 7)
    (pick (eqb (agreeing replay_word s) 6) (named name.Replay 6)
    (named name.Unknown 0))))))))))))

-- The numbers ----------------------------------------------------------------------------------------------------------------------------------

abbrev pub as_next : (stop : ℕ) → (Option ℕ) → Next
as_next stop (Some v) = Number v stop
as_next stop None = Neither

unfoldable pub found_number : List ℕ → ℕ → Next
found_number s at = as_next (number_at s at number_limit).stop (number_at s at number_limit).found

-- by the separator: a number behind a single space, or an LF that is the line's last byte
abbrev pub on_separator : List ℕ → Separator → Next
on_separator s (separator.Space i) = found_number s i
on_separator s (separator.LineEnd i) = pick (leb (length s) i) End Neither
on_separator s separator.Neither = Neither

unfoldable pub next_at : List ℕ → ℕ → Next
next_at s at = on_separator s (separator_at s at)

-- how many numbers came, or that something else did, and the column that they were put into
pub record Gathered : Type 0 where
  pub numbers : Option ℕ
  pub column : List ℕ

abbrev pub gathered : Option ℕ → List ℕ → Gathered
gathered n c = record { numbers = n; column = c }

-- by what comes next: the line's end, a number and the place behind it, or something else
abbrev pub on_next : Next → (i : ℕ) → List ℕ → ((v stop : ℕ) → Gathered) → Gathered
on_next End i c more = gathered (Some i) c
on_next Neither i c more = gathered None c
on_next (Number v stop) i c more = more v stop

-- at most `left` more numbers stand from a place on; i stand already in the column
unfoldable pub numbers_from : (left : ℕ) → List ℕ → (at i : ℕ) → List ℕ → Gathered
numbers_from zero s at i c = on_next (next_at s at) i c (λ v stop. gathered None c)
numbers_from (suc left) s at i c = on_next (next_at s at) i c (λ v stop. numbers_from left s stop (i + 1) (set c i v))

-- The command ----------------------------------------------------------------------------------------------------------------------------------

-- how many numbers a command takes: `bill PART`, `uses PART`, `reprice LINE FIGURE`, `strike LINE`, `restore LINE`, `append HEAD FIGURE PARTS…`, else none
abbrev pub takes : Name → ℕ → Bool
takes name.Price k = eqb k 0
takes name.Bill k = eqb k 1
takes name.Uses k = eqb k 1
takes name.Reprice k = eqb k 2
takes name.Strike k = eqb k 1
takes name.Restore k = eqb k 1
takes name.Append k = leb 2 k
takes name.Check k = eqb k 0
takes name.CheckOrder k = eqb k 0
takes name.Mean k = eqb k 0
takes name.Compare k = eqb k 0
takes name.Replay k = eqb k 0
takes name.Unknown k = false

abbrev pub as_command : Name → (a b : ℕ) → Command
as_command name.Price a b = Ask (Settled Price)
as_command name.Bill a b = Ask (Settled (Bill (record { 0 = a })))
as_command name.Uses a b = Ask (Uses (record { 0 = a }))
as_command name.Reprice a b = Ask (Settled (Reprice (record { 0 = a }) (record { 0 = b })))
as_command name.Strike a b = Ask (Settled (Strike (record { 0 = a })))
as_command name.Restore a b = Ask (Settled (Restore (record { 0 = a })))
as_command name.Append a b = Append (record { 0 = a }) (record { 0 = b })
as_command name.Check a b = Ask Check
as_command name.CheckOrder a b = Ask CheckOrder
as_command name.Mean a b = Mean
as_command name.Compare a b = Ask (Settled Compare)
as_command name.Replay a b = Ask (Settled Replay)
as_command name.Unknown a b = Misuse

abbrev pub line : Command → ℕ → Line
line x k = record { command = x; count = k }

-- a name with so many numbers, the first two of which are at the start of a column
abbrev pub line_with : Name → (count : ℕ) → List ℕ → Line
line_with x k c = pick (takes x k) (line (as_command x (get_or c 0 0) (get_or c 1 0)) k) (line Misuse 0)

abbrev pub line_of : Name → Option ℕ → List ℕ → Line
line_of x (Some k) c = line_with x k c
line_of x None c = line Misuse 0

-- the command of a line, and the column with its numbers
pub record CommandLine : Type 0 where
  pub line : Line
  pub numbers : List ℕ

unfoldable pub command_in : List ℕ → (column : List ℕ) → CommandLine
command_in s c =
    let g = numbers_from (length c) s (name_in s).stop 0 c in
    record { line = line_of (name_in s).name g.numbers g.column; numbers = g.column }

-- The second input -----------------------------------------------------------------------------------------------------------------------------

-- `compare` and `replay` have one
abbrev pub question_second : Question → Bool
question_second Price = false
question_second (Bill v) = false
question_second (Reprice e w) = false
question_second (Strike e) = false
question_second (Restore e) = false
question_second Compare = true
question_second Replay = true

abbrev pub query_second : Query → Bool
query_second (Settled q) = question_second q
query_second (Uses v) = false
query_second Check = false
query_second CheckOrder = false

abbrev pub command_second : Command → Bool
command_second (Ask q) = query_second q
command_second (Append h w) = false
command_second Mean = false
command_second Misuse = false

unfoldable pub takes_second : (words : List ℕ) → Bool
takes_second words = command_second (command_in words (replicate most_numbers 0)).line.command
