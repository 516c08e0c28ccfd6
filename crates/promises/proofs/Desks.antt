-- The program for the desks: what its commands print, over the calls. Assumes nothing.
use mathlib.Core.Path.{◌≡◌}
use mathlib.Core.List.{List, []}
use Prim.Native.Nat.{ℕ, ◌≤◌, ◌<◌}
use lib.ListN.{length, replicate}
use Rattle.weights.specs.declared.Measure.{Measure}
use Rattle.weights.specs.declared.Vertex.{Vertex}
use Rattle.weights.specs.declared.Weight.{Weight}
use Rattle.weights.specs.Figures.{standing}
use Rattle.refusal.specs.declared.Refusal.TheVariants.{InputLength, Text}
use Rattle.refusal.specs.declared.Counts.{Counts}
use Rattle.columns.specs.Columns.{Entries, Columns}
use Rattle.columns.specs.Acceptance.{acceptance}
use Rattle.columns.specs.Longer.{NewLine, new_line}
use Rattle.settle.specs.Settling.{entries_of}
use Rattle.topological.specs.Ordering.{ordered_acceptance}
use Rattle.text.specs.Tables.{closed}
use Rattle.text.specs.Render.{render, Permitted}
use Rattle.text.specs.Bytes.{FirstByte}
use Rattle.report.specs.Report.{most_input}
use Rattle.reply.specs.Reply.{Said, answered, refused_by, second_refused, misused, on_acceptance}
use Rattle.quote.specs.Quoted.{Quoted}
use Rattle.quote.proofs.Quoted.{quoted}
use Rattle.compare.specs.Compare.{compared_said}
use Rattle.compare.specs.Compared.{Compared, ComparedAny}
use Rattle.compare.proofs.Compared.{compared, compared_any, compared_with_itself}
use Rattle.ledger.specs.Ledger.{replay_said}
use Rattle.ledger.specs.Replayed.{RecordSaid}
use Rattle.ledger.specs.Permitted.{PermittedRecord}
use Rattle.ledger.proofs.Replayed.{record_said}
use Rattle.statistics.specs.Summaries.{summary_of}
use Rattle.sample.specs.Sample.{summary_said, mean_said}
use Rattle.sample.specs.Told.{MeanTold}
use Rattle.sample.specs.Permitted.{PermittedSample}
use Rattle.sample.proofs.Told.{mean_told}
use Rattle.whereused.specs.WhereUsed.{uses_said}
use Rattle.whereused.specs.Listed.{UsesTold}
use Rattle.whereused.proofs.Listed.{uses_told}
use Rattle.amend.specs.Printed.{Printed, Reprices, Strikes, Restores, Appends}
use Rattle.amend.proofs.Printed.{reprices, strikes, restores, appends}
use Rattle.command.specs.declared.Command.{Command}
use Rattle.command.specs.declared.Question.{Question}
use Rattle.command.specs.declared.Query.TheVariants.{Settled, Uses, Check, CheckOrder}
use Rattle.command.specs.declared.Command.TheVariants.{Ask, Append, Mean, Misuse}
use Rattle.command.specs.Command.{most_numbers, command_in}
use Rattle.command.specs.Words.{numbers_of, words_of, Typable, typed, ReadAs}
use Rattle.desk.specs.Desk.{answer_said, desk_said}
use Rattle.desk.specs.Priced.{PricesAsListed, PricesAgain}
use Rattle.desk.proofs.Priced.{prices_as_listed, prices_again}
use Rattle.desk.specs.Appended.{AppendTold}
use Rattle.desk.specs.Second.{SecondUnlooked, Compares, Replays}
use Rattle.desk.proofs.Second.{second_unlooked, settled_asked, compares, replays}
use Rattle.promises.specs.FirstBytes.{FirstByteOf}
use Rattle.promises.proofs.FirstBytes.{one_first}
use Rattle.promises.proofs.Samples.{sample_permitted, sample_refused}
use Rattle.promises.proofs.Records.{record_refused}
use Rattle.promises.proofs.Commands.{words_read, words_misuse}
use Rattle.promises.proofs.Asked.{mean_asked, long_asked, unread_asked, uses_asked, check_asked, order_asked, append_asked}
use Rattle.std.specs.Prelude.{Ok}

-- "`price`: what `listing` prints"
pub desk_price : (input second : List ℕ) → PricesAsListed input second
desk_price = prices_as_listed

-- "`bill PART`: a row for each line of the bill, in the bill's order: line, its part, its own figure; last a row with the part's figure, to quote from"
pub desk_bill : (m : Measure) (c : Columns) (a : Entries) (v : ℕ) → Quoted m c a v
desk_bill = quoted

-- "`uses PART`: the rows of the table that need the part, as they stand in the text, each behind its line number"
pub desk_uses : (c : Columns) (v : ℕ) → UsesTold c v
desk_uses = uses_told

-- "`compare` with a second table: a row for each part that differs: its state and figure in both tables"; of a second text that is no table's, its refusal
module _ (m m' : Measure) (c c' : Columns) (p : acceptance c ≡ Ok tt) (q : acceptance c' ≡ Ok tt) (l : length (render m' c') ≤ most_input) where
  pub desk_compare : Compared m m' c c' (render m' c')
  desk_compare = compared m m' c c' p q l

pub desk_compare_any : (n : ℕ) (a : Entries) (second : List ℕ) → ComparedAny n a second
desk_compare_any = compared_any

-- a table and its own text: no row
pub desk_compare_itself : (m : Measure) (c : Columns) → acceptance c ≡ Ok tt → length (render m c) ≤ most_input
    → compared_said c.vertices (entries_of m c) (render m c) ≡ answered []
desk_compare_itself = compared_with_itself

-- "`replay` with a record: the outcome of each event, then the final counts", of every record that can be written as a text
pub desk_replay : (m : Measure) (c : Columns) (a : Entries) → RecordSaid m c a
desk_replay = record_said

-- "`price`, `bill PART`, …": the words of a command are read as that command, with its numbers
pub desk_words : (k : Command) (needed : List ℕ) → Typable k needed → ReadAs (words_of k needed) k (numbers_of k needed)
desk_words = words_read

-- any other line of words is misuse, whatever the inputs are
pub desk_misuse : (words : List ℕ) → ((k : Command) (needed : List ℕ) → Typable k needed → ¬ (words ≡ words_of k needed)) → (input second : List ℕ) → desk_said words input second ≡ misused
desk_misuse = words_misuse

-- and these are what the program says, of the text of a table: `compare` of its answers, `replay` of it with its gaps closed; so with `price`, `bill`, `reprice`, `strike` and
-- `restore`, whose words are a command that is asked of a table and its answers
module _ (m : Measure) (c : Columns) (p : acceptance c ≡ Ok tt) (l : length (render m c) ≤ most_input) where
  pub desk_asked : (words second : List ℕ) (q : Question) → (command_in words (replicate most_numbers 0)).line.command ≡ Ask (Settled q)
      → desk_said words (render m c) second ≡ answer_said second q m (closed c) (entries_of m c)
  desk_asked = settled_asked m c p l

  -- "`uses PART`", "`check`", "`check-order`": a check that passes prints nothing
  pub desk_lists_uses : (words second : List ℕ) (v : Vertex) → (typed words).line.command ≡ Ask (Uses v) → desk_said words (render m c) second ≡ uses_said (closed c) v.0
  desk_lists_uses = uses_asked m c p l

  pub desk_checks : (words second : List ℕ) → (typed words).line.command ≡ Ask Check → desk_said words (render m c) second ≡ answered []
  desk_checks = check_asked m c p l

  pub desk_checks_order : (words second : List ℕ) → (typed words).line.command ≡ Ask CheckOrder
      → desk_said words (render m c) second ≡ on_acceptance (ordered_acceptance (closed c)) (answered [])
  desk_checks_order = order_asked m c p l

  -- "`append HEAD FIGURE PARTS…`": a right line is appended and the text of the longer table printed; any other line is refused
  pub desk_appends : (words second : List ℕ) (h : Vertex) (w : Weight) (needed : List ℕ) → ReadAs words (Append h w) (numbers_of (Append h w) needed)
      → AppendTold m (closed c) (new_line h.0 w.0 standing needed) (desk_said words (render m c) second)
  desk_appends = append_asked m c p l

  pub desk_compares : (second : List ℕ) → Compares m c second
  desk_compares = compares m c p l

  pub desk_replays : (second : List ℕ) → Replays m c second
  desk_replays = replays m c p l

-- a second input that is no record's is refused by 14, at the first byte that cannot occur there
pub desk_record_refused : (m : Measure) (c : Columns) (a : Entries) (s : List ℕ) → length s ≤ most_input → ¬ PermittedRecord s
    → (k l : ℕ) × (replay_said m c a s ≡ second_refused (Text (record { 0 = k }) (record { 0 = l }))) × FirstByteOf PermittedRecord s k l
desk_record_refused = record_refused

-- only these two look at the second input: with other words the same is said, whatever it is
pub desk_second : (words : List ℕ) → SecondUnlooked words
desk_second = second_unlooked

-- 17 comes first; then a text that is not permitted is refused by 14, at the first byte that cannot occur there
module _ (words input second : List ℕ) (n : ¬ ((typed words).line.command ≡ Misuse)) where
  pub desk_long : most_input < length input → desk_said words input second ≡ refused_by InputLength
  desk_long = long_asked words input second n

  pub desk_unread : ¬ ((typed words).line.command ≡ Mean) → length input ≤ most_input → ¬ Permitted input
      → (k c : ℕ) × (desk_said words input second ≡ refused_by (Text (record { 0 = k }) (record { 0 = c }))) × FirstByte input k c
  desk_unread = unread_asked words input second n

pub desk_means : (words input second : List ℕ) → (typed words).line.command ≡ Mean → length input ≤ most_input → desk_said words input second ≡ mean_said input
desk_means = mean_asked

-- "`mean`: mean and variance of the numbers on standard input, a line each"
pub desk_mean : (xs : List ℕ) → MeanTold xs
desk_mean = mean_told

-- every permitted sample is read to its results, and any other text is refused by 14, at the first byte that cannot occur there
pub desk_sample_read : (s : List ℕ) (p : PermittedSample s) → mean_said s ≡ summary_said (summary_of p.results)
desk_sample_read = sample_permitted

pub desk_sample_refused : (s : List ℕ) → ¬ PermittedSample s
    → (k l : ℕ) × (mean_said s ≡ refused_by (Text (record { 0 = k }) (record { 0 = l }))) × FirstByteOf PermittedSample s k l
desk_sample_refused = sample_refused

-- this fixes both numbers, with no word of how a text is read
pub desk_place_fixed : (Form : List ℕ → Type 0) (s : List ℕ) {k l k' l' : ℕ} → FirstByteOf Form s k l → FirstByteOf Form s k' l' → (k ≡ k') × (l ≡ l')
desk_place_fixed Form s = one_first Form s

-- "`reprice LINE FIGURE`, `strike LINE`, `restore LINE`, `append HEAD FIGURE PARTS…`: the text of the table as it then is"
module _ (m : Measure) (c : Columns) (a : Entries) where
  pub desk_reprice : (e w : ℕ) → Reprices m c a e w
  desk_reprice e w = reprices m c a e w

  pub desk_strike : (e : ℕ) → Strikes m c a e
  desk_strike e = strikes m c a e

  pub desk_restore : (e : ℕ) → Restores m c a e
  desk_restore e = restores m c a e

  pub desk_append : (k : Counts) (index list : List ℕ) (l : NewLine) → Appends m c k a index list l
  desk_append k index list l = appends m c k a index list l

-- "so that it can replace the file": fed back, it is listed with the answers of the table that it is
pub desk_again : (m : Measure) (t : Columns) (s : Said) → Printed m t s → acceptance t ≡ Ok tt → length (render m t) ≤ most_input → PricesAgain m t s
desk_again = prices_again
