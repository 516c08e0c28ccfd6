-- What the program says of an input, by the command that its words are. Assumes nothing.
use mathlib.Core.Path.{◌≡◌, refl, sym, ◌∙◌, ap, subst}
use mathlib.Core.List.{List, [], ◌∷◌}
use Prim.Native.Nat.{ℕ, zero, suc, ◌*◌, ◌-◌, ◌≤◌, ◌<◌}
use native.Mathlib.Omega.{arith}
use lib.ListN.{length, take, drop, length-replicate}
use Rattle.weights.specs.declared.Measure.{Measure}
use Rattle.weights.specs.declared.Vertex.{Vertex}
use Rattle.weights.specs.declared.Weight.{Weight}
use Rattle.weights.specs.Figures.{standing}
use Rattle.refusal.specs.declared.Refusal.TheVariants.{InputLength, Text}
use Rattle.refusal.specs.declared.Header.{Header}
use Rattle.columns.specs.Columns.{Entries, Columns}
use Rattle.columns.specs.Acceptance.{most_edges, most_listed, acceptance}
use Rattle.columns.specs.Longer.{NewLine, new_line}
use Rattle.columns.proofs.Accepted.{table_accepted}
use Rattle.columns.proofs.Filled.{length-filled}
use Rattle.settle.specs.Settling.{settled, entries_of}
use Rattle.settle.proofs.Demands.{settled_result_lem, settled_left}
use Rattle.topological.specs.Ordering.{ordered_acceptance}
use Rattle.indextable.specs.Index.{index_of, IndexOutcome, table_indexed}
use Rattle.text.specs.Tables.{closed}
use Rattle.text.specs.Render.{render, Permitted}
use Rattle.text.specs.Bytes.{FirstByte}
use Rattle.text.proofs.Rows.{closed_accepted}
use Rattle.readtable.specs.Read.{ReadOutcome, read_outcome, columns_read}
use Rattle.roundtrip.specs.RoundTrip.{header_for}
use Rattle.roundtrip.proofs.Refused.{unpermitted_is_refused}
use Rattle.report.specs.Report.{most_input, blank_entries, read_input}
use Rattle.report.proofs.Reports.{input_accepted, read_settles, rendered, columns_back}
use Rattle.reply.specs.Reply.{Said, answered, refused_by, on_acceptance}
use Rattle.command.specs.declared.Command.{Command}
use Rattle.command.specs.declared.Command.TheVariants.{Ask, Append, Mean, Misuse}
use Rattle.command.specs.declared.Query.{Query}
use Rattle.command.specs.declared.Query.TheVariants.{Uses, Check, CheckOrder}
use Rattle.command.specs.Words.{numbers_of, typed, ReadAs}
use Rattle.sample.specs.Sample.{mean_said}
use Rattle.whereused.specs.WhereUsed.{uses_said}
use Rattle.amend.specs.Amend.{appended_said}
use Rattle.desk.specs.Desk.{lent_whole, in_use_of, indexed_said, append_said, table_said, needed_in, input_said, command_said, desk_said}
use Rattle.desk.specs.Appended.{AppendTold}
use Rattle.desk.proofs.Laws.{acceptance_accepted, settled_accepted, table_said_lem, unread_said, long_said, long_sample, short_sample, words_ask, words_append, words_mean}
use Rattle.desk.proofs.Appending.{index_made}
use Rattle.promises.proofs.Growing.{blank_index, blank_list, pairs_for, list_for, index_fits, Largest, append_told}
use Rattle.std.specs.Prelude.{Ok}

-- Any input -----------------------------------------------------------------------------------------------------------------------------------------

module _ (words input second : List ℕ) where
  abbrev asked : Command
  asked = (typed words).line.command

  pub mean_asked : asked ≡ Mean → length input ≤ most_input → desk_said words input second ≡ mean_said input
  mean_asked e h = sym (short_sample input h ∙ words_mean words input second (typed words).line (typed words).numbers refl e)

  -- 17 comes first
  pub long_asked : ¬ (asked ≡ Misuse) → most_input < length input → desk_said words input second ≡ refused_by InputLength
  unfolding desk_said
  long_asked n h = go asked n
    where
      go : (k : Command) → ¬ (k ≡ Misuse) → command_said second k (typed words).line.count (typed words).numbers input ≡ refused_by InputLength
      go (Ask q) n = sym (long_said second (Ask q) (typed words).line.count (typed words).numbers input h)
      go (Append v w) n = sym (long_said second (Append v w) (typed words).line.count (typed words).numbers input h)
      go Mean n = sym (long_sample input h)
      go Misuse n = absurd (n refl)

  -- a command that is asked of a table
  by_command : (y : Command) → ¬ (y ≡ Misuse) → ¬ (y ≡ Mean) → (s : Said) → ((z : Command) → s ≡ input_said second z (typed words).line.count (typed words).numbers input)
      → command_said second y (typed words).line.count (typed words).numbers input ≡ s
  by_command (Ask q) n o s f = sym (f (Ask q))
  by_command (Append v w) n o s f = sym (f (Append v w))
  by_command Mean n o s f = absurd (o refl)
  by_command Misuse n o s f = absurd (n refl)

  -- 14, of a text that is not permitted
  pub unread_asked : ¬ (asked ≡ Misuse) → ¬ (asked ≡ Mean) → length input ≤ most_input → ¬ Permitted input
      → (l c : ℕ) × (desk_said words input second ≡ refused_by (Text (record { 0 = l }) (record { 0 = c }))) × FirstByte input l c
  unfolding desk_said read_input
  unread_asked n o h u =
      let k = (typed words).line.count in
      let ns = (typed words).numbers in
      let x = read_input input in
      let place = unpermitted_is_refused input _ _ _ _ _ u in
      let refuse : (y : Command) → refused_by (Text (record { 0 = place.0 }) (record { 0 = place.1 })) ≡ input_said second y k ns input =
      λ y. unread_said second y k ns input h x.answer x.heads x.own x.strikes x.spans x.tails refl _ (ap (λ (z : ReadOutcome). z.answer) place.2) in
      (place.0, place.1, by_command asked n o _ refuse, place.4)

-- The text of a table -------------------------------------------------------------------------------------------------------------------------------

-- a command's numbers from the third on
from_third : (n : ℕ) (xs : List ℕ) → take n (drop 2 xs) ≡ drop 2 (take (suc (suc n)) xs)
from_third zero [] = refl
from_third (suc n) [] = refl
from_third zero (a ∷ []) = refl
from_third (suc n) (a ∷ []) = refl
from_third n (a ∷ b ∷ xs) = refl

needed_read : {words : List ℕ} {h : Vertex} {w : Weight} {needed : List ℕ} → ReadAs words (Append h w) (numbers_of (Append h w) needed)
    → needed_in (typed words).line.count (typed words).numbers ≡ needed
unfolding numbers_of
needed_read {words} {h} {w} {needed} r =
    let n : (typed words).line.count - 2 ≡ length needed = omega (arith, r.count) in
    ap (λ (k : ℕ). take k (drop 2 (typed words).numbers)) n ∙ from_third (length needed) (typed words).numbers ∙ ap (drop 2) r.column

module _ (m : Measure) (c : Columns) (p : acceptance c ≡ Ok tt) (short : length (render m c) ≤ most_input) where
  abbrev header : Header
  header = header_for m (closed c)

  abbrev here : ReadOutcome
  here = read_input (render m c)

  -- what was read, without the answer
  abbrev lent : ReadOutcome
  lent = read_outcome (Ok header) here.heads here.own here.strikes here.spans here.tails

  abbrev table : Columns
  table = columns_read header lent

  answer_read : here.answer ≡ Ok header
  answer_read = ap (λ (x : ReadOutcome). x.answer) (rendered m c p)

  module _ (words second : List ℕ) where
    abbrev k : ℕ
    k = (typed words).line.count

    abbrev ns : List ℕ
    ns = (typed words).numbers

    table_asked : (q : Query) → (typed words).line.command ≡ Ask q → desk_said words (render m c) second ≡ table_said second q m (closed c) (blank_entries c.vertices)
    table_asked q e =
        sym (words_ask words (render m c) second (typed words).line ns refl q e)
        ∙ ap (λ (y : Command). input_said second y k ns (render m c)) e
        ∙ sym (table_said_lem second (Ask q) k ns (render m c) short here.answer here.heads here.own here.strikes here.spans here.tails refl header answer_read)
        ∙ ap (λ (z : Columns). table_said second q m z (blank_entries c.vertices)) (columns_back m c p)

    pub uses_asked : (v : Vertex) → (typed words).line.command ≡ Ask (Uses v) → desk_said words (render m c) second ≡ uses_said (closed c) v.0
    uses_asked v e = table_asked (Uses v) e

    pub check_asked : (typed words).line.command ≡ Ask Check → desk_said words (render m c) second ≡ answered []
    check_asked e = table_asked Check e ∙ sym (acceptance_accepted (acceptance (closed c)) (closed_accepted m c p))

    pub order_asked : (typed words).line.command ≡ Ask CheckOrder → desk_said words (render m c) second ≡ on_acceptance (ordered_acceptance (closed c)) (answered [])
    order_asked e = table_asked CheckOrder e

  -- Appending: the table that was read is settled and indexed
  table_right : acceptance table ≡ Ok tt
  table_right = input_accepted (render m c) header answer_read

  largest : Largest (lent_whole header lent)
  largest =
      let t = table_accepted (closed c) (closed_accepted m c p) in
      let n = length-replicate {A = ℕ} most_edges 0 in
      let s = length-replicate {A = ℕ} (2 * most_edges) 0 in
      let l = length-replicate {A = ℕ} most_listed 0 in
      record {
        heads = ap (λ (x : ReadOutcome). length x.heads) (rendered m c p) ∙ length-filled (closed c).heads _ (omega (arith, t.edges)) ∙ n;
        own = ap (λ (x : ReadOutcome). length x.own) (rendered m c p) ∙ length-filled (closed c).own _ (omega (arith, t.edges, t.own)) ∙ n;
        strikes = ap (λ (x : ReadOutcome). length x.strikes) (rendered m c p) ∙ length-filled (closed c).strikes _ (omega (arith, t.edges, t.strikes)) ∙ n;
        spans = ap (λ (x : ReadOutcome). length x.spans) (rendered m c p) ∙ length-filled (closed c).spans _ (omega (arith, t.edges, t.spans)) ∙ s;
        tails = ap (λ (x : ReadOutcome). length x.tails) (rendered m c p) ∙ length-filled (closed c).tails _ (omega (arith, t.tails)) ∙ l;
      }

  line_appended : (l : NewLine) → append_said header lent l ≡ appended_said m (lent_whole header lent) (in_use_of header) (entries_of m table) (pairs_for table table_right) (list_for table table_right) l
  unfolding append_said
  line_appended l =
      let b = blank_entries c.vertices in
      let o = settled m table b in
      let f : Entries → Said = λ a. indexed_said header lent a blank_index blank_list l in
      let r = read_settles (render m c) header answer_read in
      let made = table_indexed table blank_index blank_list in
      sym (settled_accepted m table b o.result o.left refl f r)
      ∙ ap f (settled_left m table b (sym (settled_result_lem m table b) ∙ r))
      ∙ index_made header lent (entries_of m table) blank_index blank_list l made.result made.index made.list refl (length (index_of table).list)
      (ap (λ (x : IndexOutcome). x.result) (index_fits table table_right))
      ∙ ap (λ (x : IndexOutcome). appended_said m (lent_whole header lent) (in_use_of header) (entries_of m table) x.index x.list l) (index_fits table table_right)

  pub append_asked : (words second : List ℕ) (h : Vertex) (w : Weight) (needed : List ℕ) → ReadAs words (Append h w) (numbers_of (Append h w) needed)
      → AppendTold m (closed c) (new_line h.0 w.0 standing needed) (desk_said words (render m c) second)
  append_asked words second h w needed r =
      let n = (typed words).line.count in
      let xs = (typed words).numbers in
      let l = new_line h.0 w.0 standing needed in
      let t = table_accepted (closed c) (closed_accepted m c p) in
      let said : desk_said words (render m c) second ≡ appended_said m (lent_whole header lent) (in_use_of header) (entries_of m table) (pairs_for table table_right) (list_for table table_right) l =
      sym (words_append words (render m c) second (typed words).line xs refl h w r.command)
      ∙ ap (λ (y : Command). input_said second y n xs (render m c)) r.command
      ∙ sym (table_said_lem second (Append h w) n xs (render m c) short here.answer here.heads here.own here.strikes here.spans here.tails refl header answer_read)
      ∙ ap (λ (z : List ℕ). append_said header lent (new_line h.0 w.0 standing z)) (needed_read r)
      ∙ line_appended l in
      let told = append_told m (lent_whole header lent) (in_use_of header) l table_right largest t.edges t.tails (omega arith) in
      subst (λ (z : Said). AppendTold m (closed c) l z) (sym said)
      (subst (λ (z : Columns). AppendTold m z l (appended_said m (lent_whole header lent) (in_use_of header) (entries_of m table) (pairs_for table table_right) (list_for table table_right) l)) (columns_back m c p) told)
