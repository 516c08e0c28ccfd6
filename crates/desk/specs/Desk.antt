-- What the program for the desks prints, and its status, by the line of its words, its input and a second one. Assumes nothing: these are definitions.
use Rattle.std.specs.Prelude.{ℕ, ◌*◌, ◌-◌, ◌≤◌, ◌≡◌, List, [], length, take, drop, replicate, ltb, Ok, Err}
use Rattle.weights.specs.declared.Measure.{Measure}
use Rattle.weights.specs.declared.Vertex.{Vertex}
use Rattle.weights.specs.declared.Weight.{Weight}
use Rattle.weights.specs.Choice.{pick}
use Rattle.weights.specs.Figures.{standing}
use Rattle.refusal.specs.declared.Refusal.TheVariants.{InputLength}
use Rattle.refusal.specs.declared.Counts.{Counts}
use Rattle.refusal.specs.declared.Header.{Header}
use Rattle.columns.specs.Columns.{Entries, Columns, columns}
use Rattle.columns.specs.Acceptance.{most_vertices, most_listed, acceptance}
use Rattle.columns.specs.Longer.{NewLine, new_line}
use Rattle.settle.specs.Settling.{settled, entries_of}
use Rattle.topological.specs.Ordering.{ordered_acceptance}
use Rattle.indextable.specs.Index.{table_indexed}
use Rattle.readtable.specs.Read.{ReadOutcome, columns_read}
use Rattle.report.specs.Report.{most_input, list, blank_entries, read_input}
use Rattle.report.specs.Pieces.{lent_columns}
use Rattle.reply.specs.Reply.{most_reply, Said, answered, refused_by, misused, on_acceptance, on_extent}
use Rattle.command.specs.declared.Command.{Command}
use Rattle.command.specs.declared.Command.TheVariants.{Ask, Append, Mean, Misuse}
use Rattle.command.specs.declared.Query.{Query}
use Rattle.command.specs.declared.Query.TheVariants.{Settled, Uses, Check, CheckOrder}
use Rattle.command.specs.declared.Question.{Question}
use Rattle.command.specs.declared.Question.TheVariants.{Price, Bill, Reprice, Strike, Restore, Compare, Replay}
use Rattle.command.specs.Command.{most_numbers, command_in}
use Rattle.sample.specs.Sample.{mean_said}
use Rattle.ledger.specs.Ledger.{replay_said}
use Rattle.quote.specs.Quote.{bill_said}
use Rattle.whereused.specs.WhereUsed.{uses_said}
use Rattle.compare.specs.Compare.{compared_said}
use Rattle.amend.specs.Amend.{repriced_said, stricken_said, restored_said, appended_said}
use Rattle.refusal.specs.Answers.{Reading}

-- the table that was read is settled into answer columns of zeros
unfoldable pub settled_said : Measure → Columns → Entries → (Entries → Said) → Said
settled_said m c a f = on_acceptance (settled m c a).result (f (settled m c a).left)

-- appending: the table stands at the start of columns for the largest, and its index in columns of zeros
abbrev pub lent_whole : Header → ReadOutcome → Columns
lent_whole g x = columns g.vertices x.heads x.own x.strikes x.spans x.tails

abbrev pub in_use_of : Header → Counts
in_use_of g = record { edges = g.edges; listed = g.listed }

unfoldable pub indexed_said : Header → ReadOutcome → Entries → (index list : List ℕ) → NewLine → Said
indexed_said g x a index list l =
    let o = table_indexed (columns_read g x) index list in
    on_extent o.result (λ _. appended_said g.measure (lent_whole g x) (in_use_of g) a o.index o.list l)

unfoldable pub append_said : Header → ReadOutcome → NewLine → Said
append_said g x l =
    settled_said g.measure (columns_read g x) (blank_entries g.vertices)
    (λ a. indexed_said g x a (replicate (2 * most_vertices) 0) (replicate most_listed 0) l)

-- of a table and its answers
abbrev pub answer_said : (second : List ℕ) → Question → Measure → Columns → Entries → Said
answer_said s Price m c a = answered (list a c.vertices)
answer_said s (Bill v) m c a = bill_said m c a v.0
answer_said s (Reprice e w) m c a = repriced_said m c a e.0 w.0
answer_said s (Strike e) m c a = stricken_said m c a e.0
answer_said s (Restore e) m c a = restored_said m c a e.0
answer_said s Compare m c a = compared_said c.vertices a s
answer_said s Replay m c a = replay_said m c a s

-- of a table, with answer columns to settle it into: `check` and `check-order` print nothing on acceptance
abbrev pub table_said : (second : List ℕ) → Query → Measure → Columns → Entries → Said
table_said s (Settled q) m c a = settled_said m c a (answer_said s q m c)
table_said s (Uses v) m c a = uses_said c v.0
table_said s Check m c a = on_acceptance (acceptance c) (answered [])
table_said s CheckOrder m c a = on_acceptance (ordered_acceptance c) (answered [])

-- the parts that an appended line lists: a command's numbers from the third on
abbrev pub needed_in : (count : ℕ) → List ℕ → List ℕ
needed_in k ns = take (k - 2) (drop 2 ns)

-- of a table that was read: a command with so many numbers
abbrev pub read_said : (second : List ℕ) → Command → (count : ℕ) → (numbers : List ℕ) → Header → ReadOutcome → Said
read_said s (Ask q) k ns g x = table_said s q g.measure (columns_read g x) (blank_entries g.vertices)
read_said s (Append h w) k ns g x = append_said g x (new_line h.0 w.0 standing (needed_in k ns))
read_said s Mean k ns g x = misused
read_said s Misuse k ns g x = misused

-- by what reading the input returned
abbrev pub on_reading : (second : List ℕ) → Command → (count : ℕ) → (numbers : List ℕ) → Reading → ReadOutcome → Said
on_reading s y k ns (Err r) x = refused_by r
on_reading s y k ns (Ok g) x = read_said s y k ns g x

-- 17 comes first, then 14
unfoldable pub input_said : (second : List ℕ) → Command → (count : ℕ) → (numbers input : List ℕ) → Said
input_said s y k ns input = pick (ltb most_input (length input)) (refused_by InputLength) (on_reading s y k ns (read_input input).answer (read_input input))

-- `mean` takes its input for a sample's text and not for a table's
unfoldable pub sample_said : List ℕ → Said
sample_said input = pick (ltb most_input (length input)) (refused_by InputLength) (mean_said input)

-- words that are no command are told before the input is looked at
abbrev pub command_said : (second : List ℕ) → Command → (count : ℕ) → (numbers input : List ℕ) → Said
command_said s (Ask q) k ns input = input_said s (Ask q) k ns input
command_said s (Append h w) k ns input = input_said s (Append h w) k ns input
command_said s Mean k ns input = sample_said input
command_said s Misuse k ns input = misused

-- the whole; a second input is looked at by `compare` and `replay` alone
unfoldable pub desk_said : (words input second : List ℕ) → Said
desk_said words input second = let l = command_in words (replicate most_numbers 0) in command_said second l.line.command l.line.count l.numbers input

-- What the functions ask ------------------------------------------------------------------------------------------------------------------------

-- an accepted table, its own answers, and the room of a reply
pub record Answered (m : Measure) (c : Columns) (a : Entries) (room : ℕ) : Type 0 where
  pub table : acceptance c ≡ Ok tt
  pub answers : a ≡ entries_of m c
  pub large : most_reply ≤ room

-- the table that a header tells of stands at the start of five columns, and is accepted
pub record Stands (g : Header) (h o ms s t : List ℕ) : Type 0 where
  pub few : g.vertices ≤ most_vertices
  pub heads : g.edges ≤ length h
  pub own : g.edges ≤ length o
  pub strikes : g.edges ≤ length ms
  pub spans : 2 * g.edges ≤ length s
  pub tails : g.listed ≤ length t
  pub table : acceptance (lent_columns g h o ms s t) ≡ Ok tt

-- a line that is appended has a head and a figure, and no command has more numbers than there is room for
pub record Takes (y : Command) (k places : ℕ) : Type 0 where
  pub most : k ≤ places
  pub least : (h : Vertex) (w : Weight) → y ≡ Append h w → 2 ≤ k
