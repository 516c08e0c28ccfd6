-- The laws by which a reply is what the definitions say: by what settling, reading and the line of words returned. Assumes nothing.
use mathlib.Core.Path.{◌≡◌, refl, sym, ◌∙◌, ap, subst}
use mathlib.Core.List.{List, []}
use Prim.Native.Nat.{ℕ, ◌≤◌, ◌<◌}
use native.Mathlib.Omega.{arith}
use lib.ListN.{length, take, replicate, length-replicate}
use borrow.Author.Tests.{lt-ltb, le-ltb}
use Rattle.weights.specs.declared.Measure.{Measure}
use Rattle.weights.specs.declared.Vertex.{Vertex}
use Rattle.weights.specs.declared.Weight.{Weight}
use Rattle.weights.specs.declared.Hyperedge.{Hyperedge}
use Rattle.refusal.specs.declared.Refusal.{Refusal}
use Rattle.refusal.specs.declared.Refusal.TheVariants.{InputLength}
use Rattle.refusal.specs.declared.Header.{Header}
use Rattle.columns.specs.Columns.{Entries, Columns, entries}
use Rattle.columns.specs.Longer.{new_line}
use Rattle.weights.specs.Figures.{standing}
use Rattle.columns.specs.Acceptance.{most_vertices, acceptance, lent_acceptance}
use Rattle.columns.proofs.Accepted.{table_accepted, columns_accepted}
use Rattle.columns.specs.Owed.{Outcome}
use Rattle.settle.specs.Settling.{settled, entries_of}
use Rattle.settle.proofs.Demands.{entries_sized, settled_result_lem, settled_left}
use Rattle.readtable.specs.Read.{ReadOutcome, read_outcome, columns_read}
use Rattle.report.specs.Report.{most_input, most_output, list, blank_entries, read_input}
use Rattle.report.proofs.Laws.{take_zeros}
use Rattle.report.proofs.Reports.{input_lent, input_accepted}
use Rattle.report.proofs.Bounds.{answers_ranged, list_most}
use Rattle.reply.specs.declared.Reply.{Reply}
use Rattle.reply.specs.Reply.{most_reply, Said, answered, refused_by, misused, on_acceptance, Replied}
use Rattle.whereused.specs.WhereUsed.{uses_said}
use Rattle.compare.specs.Compare.{compared_said}
use Rattle.topological.specs.Ordering.{ordered_acceptance}
use Rattle.command.specs.declared.Command.{Command}
use Rattle.command.specs.declared.Command.TheVariants.{Ask, Append, Mean, Misuse}
use Rattle.command.specs.declared.Line.{Line}
use Rattle.command.specs.Command.{most_numbers, CommandLine, command_in}
use Rattle.command.proofs.Taken.{Taken, command_taken, column_kept}
use Rattle.command.specs.declared.Query.{Query}
use Rattle.command.specs.declared.Query.TheVariants.{Settled, Uses, Check, CheckOrder}
use Rattle.command.specs.declared.Question.{Question}
use Rattle.command.specs.declared.Question.TheVariants.{Price, Bill, Reprice, Strike, Restore, Compare, Replay}
use Rattle.sample.specs.Sample.{mean_said}
use Rattle.ledger.specs.Ledger.{replay_said}
use Rattle.quote.specs.Quote.{bill_said}
use Rattle.amend.specs.Amend.{repriced_said, stricken_said, restored_said}
use Rattle.desk.specs.Desk.{settled_said, answer_said, table_said, append_said, needed_in, read_said, on_reading, input_said, sample_said, command_said, desk_said, Answered, Stands, Takes}
use Rattle.refusal.specs.Answers.{Acceptance, Reading}
use Rattle.std.specs.Prelude.{Ok, Err}

-- a reply that says what is to be said
pub replied_as : {s t : Said} (old : List ℕ) (r : Reply) (room : List ℕ) → s ≡ t → Replied s old r room → Replied t old r room
replied_as old r room e h = subst (λ (z : Said). Replied z old r room) e h

-- An acceptance ---------------------------------------------------------------------------------------------------------------------------------

pub acceptance_refused : (x : Acceptance) (r : Refusal) → x ≡ Err r → refused_by r ≡ on_acceptance x (answered [])
unfolding on_acceptance
acceptance_refused x r e = ap (λ (z : Acceptance). on_acceptance z (answered [])) (sym e)

pub acceptance_accepted : (x : Acceptance) → x ≡ Ok tt → answered [] ≡ on_acceptance x (answered [])
unfolding on_acceptance
acceptance_accepted x e = ap (λ (z : Acceptance). on_acceptance z (answered [])) (sym e)

-- Settling -------------------------------------------------------------------------------------------------------------------------------------

module _ (m : Measure) (c : Columns) (a : Entries) (x : Acceptance) (b : Entries) (q : record { result = x; left = b } ≡ settled m c a) where
  -- what is said, by what settling returned
  told : (f : Entries → Said) → on_acceptance x (f b) ≡ settled_said m c a f
  unfolding settled_said
  told f = ap (λ (o : Outcome Acceptance Entries). on_acceptance o.result (f o.left)) q

  pub settled_refused : (f : Entries → Said) (r : Refusal) → x ≡ Err r → refused_by r ≡ settled_said m c a f
  unfolding on_acceptance
  settled_refused f r e = ap (λ (z : Acceptance). on_acceptance z (f b)) (sym e) ∙ told f

  pub settled_accepted : (f : Entries → Said) → x ≡ Ok tt → f b ≡ settled_said m c a f
  unfolding on_acceptance
  settled_accepted f e = ap (λ (z : Acceptance). on_acceptance z (f b)) (sym e) ∙ told f

  -- the columns left are the table's answers
  pub settled_holds : (room : ℕ) → x ≡ Ok tt → most_reply ≤ room → Answered m c b room
  settled_holds room e h =
      let p : lent_acceptance c a ≡ (Ok tt) = sym (settled_result_lem m c a) ∙ sym (ap (λ (o : Outcome Acceptance Entries). o.result) q) ∙ e in
      record { table = (columns_accepted c a p).table; answers = ap (λ (o : Outcome Acceptance Entries). o.left) q ∙ settled_left m c a p; large = h }

-- the list of a table's answers has a row for each part, and fits the room
module _ (m : Measure) (c : Columns) (a : Entries) (room : ℕ) (s : Answered m c a room) where
  pub answers_long : length a.labels.depths ≡ c.vertices
  answers_long = ap (λ (z : Entries). length z.labels.depths) s.answers ∙ (entries_sized m c s.table).labels.depths

  pub few_parts : c.vertices ≤ most_vertices
  few_parts = (table_accepted c s.table).few

  pub list_fits : length (list a (length a.labels.depths)) ≤ room
  list_fits =
      let l = list_most (entries_of m c) (answers_ranged m c s.table) c.vertices (table_accepted c s.table).few in
      let e : length (list a (length a.labels.depths)) ≡ length (list (entries_of m c) c.vertices) =
      ap (λ (k : ℕ). length (list a k)) answers_long ∙ ap (λ (z : Entries). length (list z c.vertices)) s.answers in
      let h = s.large in
      omega arith

-- What is asked ----------------------------------------------------------------------------------------------------------------------------------

module _ (s : List ℕ) (q : Query) (m : Measure) (c : Columns) (a : Entries) where
  pub uses_said_lem : (v : Vertex) → q ≡ Uses v → uses_said c v.0 ≡ table_said s q m c a
  uses_said_lem v e = ap (λ (z : Query). table_said s z m c a) (sym e)

  pub check_said : (x : Acceptance) → q ≡ Check → x ≡ acceptance c → on_acceptance x (answered []) ≡ table_said s q m c a
  check_said x e h = ap (λ (z : Acceptance). on_acceptance z (answered [])) h ∙ ap (λ (z : Query). table_said s z m c a) (sym e)

  pub order_said : (x : Acceptance) → q ≡ CheckOrder → x ≡ ordered_acceptance c → on_acceptance x (answered []) ≡ table_said s q m c a
  order_said x e h = ap (λ (z : Acceptance). on_acceptance z (answered [])) h ∙ ap (λ (z : Query). table_said s z m c a) (sym e)

  pub settled_said_lem : (y : Question) → q ≡ Settled y → settled_said m c a (answer_said s y m c) ≡ table_said s q m c a
  settled_said_lem y e = ap (λ (z : Query). table_said s z m c a) (sym e)

module _ (s : List ℕ) (q : Question) (m : Measure) (c : Columns) (a : Entries) where
  pub price_said : (room : ℕ) → q ≡ Price → Answered m c a room → answered (list a (length a.labels.depths)) ≡ answer_said s q m c a
  price_said room e h = ap (λ (k : ℕ). answered (list a k)) (answers_long m c a room h) ∙ ap (λ (z : Question). answer_said s z m c a) (sym e)

  pub bill_said_lem : (v : Vertex) → q ≡ Bill v → bill_said m c a v.0 ≡ answer_said s q m c a
  bill_said_lem v e = ap (λ (z : Question). answer_said s z m c a) (sym e)

  pub reprice_said : (e : Hyperedge) (w : Weight) → q ≡ Reprice e w → repriced_said m c a e.0 w.0 ≡ answer_said s q m c a
  reprice_said e w h = ap (λ (z : Question). answer_said s z m c a) (sym h)

  pub strike_said : (e : Hyperedge) → q ≡ Strike e → stricken_said m c a e.0 ≡ answer_said s q m c a
  strike_said e h = ap (λ (z : Question). answer_said s z m c a) (sym h)

  pub restore_said : (e : Hyperedge) → q ≡ Restore e → restored_said m c a e.0 ≡ answer_said s q m c a
  restore_said e h = ap (λ (z : Question). answer_said s z m c a) (sym h)

  pub compare_said : q ≡ Compare → compared_said c.vertices a s ≡ answer_said s q m c a
  compare_said h = ap (λ (z : Question). answer_said s z m c a) (sym h)

  pub replay_said_lem : q ≡ Replay → replay_said m c a s ≡ answer_said s q m c a
  replay_said_lem h = ap (λ (z : Question). answer_said s z m c a) (sym h)

-- answer columns of n zeros, taken from larger ones
pub blank_said : (s : List ℕ) (q : Query) (m : Measure) (c : Columns) (n : ℕ) → n ≤ most_vertices
    → table_said s q m c (entries (take n (replicate most_vertices 0)) (take n (replicate most_vertices 0)) (take n (replicate most_vertices 0)) (take n (replicate most_vertices 0)))
    ≡ table_said s q m c (blank_entries n)
blank_said s q m c n h = ap (λ (z : List ℕ). table_said s q m c (entries z z z z)) (take_zeros n most_vertices h)

-- By the command ---------------------------------------------------------------------------------------------------------------------------------

module _ (s : List ℕ) (y : Command) (k : ℕ) (ns : List ℕ) (g : Header) (x : ReadOutcome) where
  pub ask_said : (q : Query) → y ≡ Ask q → table_said s q g.measure (columns_read g x) (blank_entries g.vertices) ≡ read_said s y k ns g x
  ask_said q e = ap (λ (z : Command). read_said s z k ns g x) (sym e)

  pub append_said_lem : (h : Vertex) (w : Weight) → y ≡ Append h w → append_said g x (new_line h.0 w.0 standing (needed_in k ns)) ≡ read_said s y k ns g x
  append_said_lem h w e = ap (λ (z : Command). read_said s z k ns g x) (sym e)

  pub mean_misused : y ≡ Mean → misused ≡ read_said s y k ns g x
  mean_misused e = ap (λ (z : Command). read_said s z k ns g x) (sym e)

  pub misuse_said : y ≡ Misuse → misused ≡ read_said s y k ns g x
  misuse_said e = ap (λ (z : Command). read_said s z k ns g x) (sym e)

-- By the input -----------------------------------------------------------------------------------------------------------------------------------

module _ (s : List ℕ) (y : Command) (k : ℕ) (ns input : List ℕ) where
  pub long_said : most_input < length input → refused_by InputLength ≡ input_said s y k ns input
  unfolding input_said
  long_said h = rw (lt-ltb most_input (length input) h)

  short_said : length input ≤ most_input → input_said s y k ns input ≡ on_reading s y k ns (read_input input).answer (read_input input)
  unfolding input_said
  short_said h = rw (le-ltb most_input (length input) h)

  module _ (short : length input ≤ most_input) (a : Reading) (h o ms sp t : List ℕ) (q : read_outcome a h o ms sp t ≡ read_input input) where
    by_reading : on_reading s y k ns a (read_outcome a h o ms sp t) ≡ input_said s y k ns input
    by_reading = ap (λ (z : ReadOutcome). on_reading s y k ns z.answer z) q ∙ sym (short_said short)

    pub unread_said : (r : Refusal) → a ≡ Err r → refused_by r ≡ input_said s y k ns input
    unread_said r e = ap (λ (z : Reading). on_reading s y k ns z (read_outcome a h o ms sp t)) (sym e) ∙ by_reading

    pub table_said_lem : (g : Header) → a ≡ Ok g → read_said s y k ns g (read_outcome (Ok g) h o ms sp t) ≡ input_said s y k ns input
    table_said_lem g e = ap (λ (z : Reading). on_reading s y k ns z (read_outcome z h o ms sp t)) (sym e) ∙ by_reading

-- a sample's text
pub long_sample : (input : List ℕ) → most_input < length input → refused_by InputLength ≡ sample_said input
unfolding sample_said
long_sample input h = rw (lt-ltb most_input (length input) h)

pub short_sample : (input : List ℕ) → length input ≤ most_input → mean_said input ≡ sample_said input
unfolding sample_said
short_sample input h = rw (le-ltb most_input (length input) h)

-- a table that was read stands at the start of the columns
pub input_stands : (input : List ℕ) → length input ≤ most_input → (a : Reading) (h o ms s t : List ℕ) → read_outcome a h o ms s t ≡ read_input input
    → (g : Header) → a ≡ Ok g → Stands g h o ms s t
input_stands input short a h o ms s t q g e =
    let f = sym (ap (λ (z : ReadOutcome). z.answer) q) ∙ e in
    let l = input_lent input g most_output short refl f in
    let b = input_accepted input g f in
    subst (λ (z : ReadOutcome). Stands g z.heads z.own z.strikes z.spans z.tails) (sym q)
    (record { few = l.few; heads = l.heads; own = l.own; strikes = l.strikes; spans = l.spans; tails = l.tails; table = b })

-- By the words -----------------------------------------------------------------------------------------------------------------------------------

module _ (words input s : List ℕ) (l : Line) (ns : List ℕ) (q : record { line = l; numbers = ns } ≡ command_in words (replicate most_numbers 0)) where
  by_line : command_said s l.command l.count ns input ≡ desk_said words input s
  unfolding desk_said
  by_line = ap (λ (z : CommandLine). command_said s z.line.command z.line.count z.numbers input) q

  pub words_misused : l.command ≡ Misuse → misused ≡ desk_said words input s
  words_misused e = ap (λ (z : Command). command_said s z l.count ns input) (sym e) ∙ by_line

  pub words_mean : l.command ≡ Mean → sample_said input ≡ desk_said words input s
  words_mean e = ap (λ (z : Command). command_said s z l.count ns input) (sym e) ∙ by_line

  pub words_ask : (x : Query) → l.command ≡ Ask x → input_said s l.command l.count ns input ≡ desk_said words input s
  words_ask x e =
      ap (λ (z : Command). input_said s z l.count ns input) e ∙ ap (λ (z : Command). command_said s z l.count ns input) (sym e) ∙ by_line

  pub words_append : (h : Vertex) (w : Weight) → l.command ≡ Append h w → input_said s l.command l.count ns input ≡ desk_said words input s
  words_append h w e =
      ap (λ (z : Command). input_said s z l.count ns input) e ∙ ap (λ (z : Command). command_said s z l.count ns input) (sym e) ∙ by_line

  pub numbers_long : most_numbers ≡ length ns
  numbers_long =
      let n = length-replicate {A = ℕ} most_numbers 0 in
      sym (ap (λ (z : CommandLine). length z.numbers) q ∙ column_kept words (replicate most_numbers 0) ∙ n)

  pub words_take : Takes l.command l.count (length ns)
  words_take =
      let t = command_taken words (replicate most_numbers 0) in
      let n = length-replicate {A = ℕ} most_numbers 0 in
      let r : Taken most_numbers l = subst (λ (k : ℕ). Taken k l) n (subst (Taken (length {A = ℕ} (replicate most_numbers 0))) (sym (ap (λ (z : CommandLine). z.line) q)) t) in
      record { most = let m = r.most in let e = numbers_long in omega arith; least = r.least }
