-- Only `compare` and `replay` look at the second input: by what is asked, by what reading the input returned, and by the command.
-- And words that ask something of a settled table, with the text of a table: what is said of that table and its answers. Assumes nothing.
use mathlib.Core.Path.{◌≡◌, refl, sym, ◌∙◌, ap}
use mathlib.Core.Bool.{false}
use mathlib.Core.List.{List}
use Prim.Native.Nat.{ℕ, ◌≤◌}
use lib.ListN.{length, replicate}
use lib.Dec.{ltb}
use Rattle.weights.specs.declared.Measure.{Measure}
use Rattle.weights.specs.Choice.{pick}
use Rattle.weights.proofs.Choice.{apart}
use Rattle.refusal.specs.declared.Refusal.TheVariants.{InputLength}
use Rattle.refusal.specs.declared.Header.{Header}
use Rattle.columns.specs.Columns.{Entries, Columns}
use Rattle.columns.specs.Acceptance.{acceptance}
use Rattle.settle.specs.Settling.{settled, entries_of}
use Rattle.settle.proofs.Demands.{settled_result_lem, settled_left}
use Rattle.text.specs.Tables.{closed}
use Rattle.text.specs.Render.{render}
use Rattle.readtable.specs.Read.{ReadOutcome, columns_read}
use Rattle.report.specs.Report.{most_input, blank_entries, read_input}
use Rattle.report.proofs.Closed.{entries_closed}
use Rattle.report.proofs.Reports.{read_settles, rendered, columns_back}
use Rattle.reply.specs.Reply.{refused_by, on_acceptance}
use Rattle.command.specs.declared.Command.{Command}
use Rattle.command.specs.declared.Line.{Line}
use Rattle.command.specs.declared.Command.TheVariants.{Ask, Append, Mean, Misuse}
use Rattle.command.specs.declared.Query.{Query}
use Rattle.command.specs.declared.Query.TheVariants.{Settled, Uses, Check, CheckOrder}
use Rattle.command.specs.declared.Question.{Question}
use Rattle.command.specs.declared.Question.TheVariants.{Price, Bill, Reprice, Strike, Restore, Compare, Replay}
use Rattle.command.specs.Command.{most_numbers, command_in, question_second, query_second, command_second, takes_second}
use Rattle.command.proofs.Lines.{compare_line_lem, replay_line_lem}
use Rattle.desk.specs.Desk.{settled_said, answer_said, table_said, on_reading, input_said, command_said, desk_said}
use Rattle.desk.specs.Second.{compare_line, replay_line, SecondUnlooked, Compares, Replays}
use Rattle.desk.proofs.Laws.{settled_accepted, table_said_lem, words_ask}
use Rattle.refusal.specs.Answers.{Reading}
use Rattle.std.specs.Prelude.{Ok, Err}

-- What does not look at it -----------------------------------------------------------------------------------------------------------------------

module _ (s t : List ℕ) where
  by_question : (q : Question) → question_second q ≡ false → (m : Measure) (c : Columns) (a : Entries) → answer_said s q m c a ≡ answer_said t q m c a
  by_question Price e m c a = refl
  by_question (Bill v) e m c a = refl
  by_question (Reprice l w) e m c a = refl
  by_question (Strike l) e m c a = refl
  by_question (Restore l) e m c a = refl
  by_question Compare e m c a = apart (sym e)
  by_question Replay e m c a = apart (sym e)

  by_query : (q : Query) → query_second q ≡ false → (m : Measure) (c : Columns) (a : Entries) → table_said s q m c a ≡ table_said t q m c a
  unfolding settled_said
  by_query (Settled q) e m c a = ap (on_acceptance (settled m c a).result) (by_question q e m c (settled m c a).left)
  by_query (Uses v) e m c a = refl
  by_query Check e m c a = refl
  by_query CheckOrder e m c a = refl

  by_reading : (y : Command) → command_second y ≡ false → (k : ℕ) (ns : List ℕ) (a : Reading) (x : ReadOutcome) → on_reading s y k ns a x ≡ on_reading t y k ns a x
  by_reading y e k ns (Err r) x = refl
  by_reading (Ask q) e k ns (Ok g) x = by_query q e g.measure (columns_read g x) (blank_entries g.vertices)
  by_reading (Append h w) e k ns (Ok g) x = refl
  by_reading Mean e k ns (Ok g) x = refl
  by_reading Misuse e k ns (Ok g) x = refl

  by_input : (y : Command) → command_second y ≡ false → (k : ℕ) (ns input : List ℕ) → input_said s y k ns input ≡ input_said t y k ns input
  unfolding input_said
  by_input y e k ns input = ap (pick (ltb most_input (length input)) (refused_by InputLength)) (by_reading y e k ns (read_input input).answer (read_input input))

  by_command : (y : Command) → command_second y ≡ false → (k : ℕ) (ns input : List ℕ) → command_said s y k ns input ≡ command_said t y k ns input
  by_command (Ask q) e k ns input = by_input (Ask q) e k ns input
  by_command (Append h w) e k ns input = by_input (Append h w) e k ns input
  by_command Mean e k ns input = refl
  by_command Misuse e k ns input = refl

pub second_unlooked : (words : List ℕ) → SecondUnlooked words
unfolding desk_said takes_second
second_unlooked words e input s t =
    let l = command_in words (replicate most_numbers 0) in
    by_command s t l.line.command e l.line.count l.numbers input

-- The text of a table ----------------------------------------------------------------------------------------------------------------------------

-- a table that was read is settled, so what is asked is said of it and its answers
module _ (s input : List ℕ) (short : length input ≤ most_input) (g : Header) (e : (read_input input).answer ≡ Ok g) where
  abbrev table : Columns
  table = columns_read g (read_input input)

  read_asked : (q : Question) (k : ℕ) (ns : List ℕ) → input_said s (Ask (Settled q)) k ns input ≡ answer_said s q g.measure table (entries_of g.measure table)
  read_asked q k ns =
      let x = read_input input in
      let b = blank_entries g.vertices in
      let o = settled g.measure table b in
      let r = read_settles input g e in
      let l = settled_left g.measure table b (sym (settled_result_lem g.measure table b) ∙ r) in
      sym (table_said_lem s (Ask (Settled q)) k ns input short x.answer x.heads x.own x.strikes x.spans x.tails refl g e)
      ∙ sym (settled_accepted g.measure table b o.result o.left refl (answer_said s q g.measure table) r)
      ∙ ap (answer_said s q g.measure table) l

module _ (m : Measure) (c : Columns) (p : acceptance c ≡ Ok tt) (short : length (render m c) ≤ most_input) where
  -- the header that is read back
  abbrev header : Header
  header = record { vertices = c.vertices; measure = m; edges = length (closed c).heads; listed = length (closed c).tails }

  -- a text has no gaps: the table is the one with its gaps closed, and its answers are the same
  pub settled_asked : (words s : List ℕ) (q : Question) → (command_in words (replicate most_numbers 0)).line.command ≡ Ask (Settled q)
      → desk_said words (render m c) s ≡ answer_said s q m (closed c) (entries_of m c)
  settled_asked words s q e =
      let l = command_in words (replicate most_numbers 0) in
      let k = l.line.count in
      sym (words_ask words (render m c) s l.line l.numbers refl (Settled q) e)
      ∙ ap (λ (y : Command). input_said s y k l.numbers (render m c)) e
      ∙ read_asked s (render m c) short header (ap (λ (x : ReadOutcome). x.answer) (rendered m c p)) q k l.numbers
      ∙ ap (λ (z : Columns). answer_said s q m z (entries_of m z)) (columns_back m c p)
      ∙ ap (answer_said s q m (closed c)) (entries_closed m c p)

  pub compares : (second : List ℕ) → Compares m c second
  compares second = settled_asked compare_line second Compare (ap (λ (l : Line). l.command) compare_line_lem)

  pub replays : (second : List ℕ) → Replays m c second
  replays second = settled_asked replay_line second Replay (ap (λ (l : Line). l.command) replay_line_lem)
