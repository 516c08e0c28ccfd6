-- What is said of two tables, in the paper's terms; and how long that can be. Assumes nothing.
use mathlib.Core.Path.{◌≡◌, refl, sym, ◌∙◌, ap, ap₂}
use mathlib.Core.Bool.{Bool, true, false}
use mathlib.Core.List.{List, [], ◌++◌}
use Prim.Native.Nat.{ℕ, zero, suc, max, ◌*◌, ◌^◌, ◌≤◌, ◌<◌}
use native.Mathlib.Omega.{arith}
use native.Mathlib.Decide.{dec_le}
use lib.ListN.{length, length-append, get_or-eq_default}
use lib.Dec.{eqb}
use borrow.Author.Tests.{eq-eqb, eqb-true}
use Rattle.weights.specs.declared.Measure.{Measure}
use Rattle.weights.specs.declared.State.{State}
use Rattle.weights.specs.declared.State.TheVariants.{Made, Over, Unmade}
use Rattle.weights.specs.declared.Weight.{Weight}
use Rattle.weights.specs.declared.Entry.{Entry}
use Rattle.weights.specs.Choice.{pick}
use Rattle.weights.specs.Figures.{is_over}
use Rattle.refusal.specs.declared.Header.{Header}
use Rattle.columns.specs.Columns.{Entries, Columns}
use Rattle.columns.specs.Acceptance.{most_vertices, acceptance}
use Rattle.columns.proofs.Accepted.{table_accepted}
use Rattle.provenance.specs.BestFirst.{labels}
use Rattle.settle.specs.Settling.{entries_of, entry_at}
use Rattle.settle.proofs.Demands.{entries_sized, settled_result_lem, settled_left}
use Rattle.text.specs.Tables.{closed}
use Rattle.text.specs.Render.{render}
use Rattle.text.proofs.Digits.{pick_by}
use Rattle.readtable.specs.Read.{ReadOutcome, columns_read}
use Rattle.roundtrip.specs.RoundTrip.{header_for}
use Rattle.roundtrip.proofs.Refused.{unpermitted_is_refused}
use Rattle.report.specs.Report.{most_input, blank_entries, listed_as, read_input}
use Rattle.report.proofs.Closed.{entries_closed}
use Rattle.report.proofs.Reports.{input_accepted, read_settles, report-short, report_fits, report_long, rendered, columns_back}
use Rattle.report.proofs.Bounds.{answers_ranged}
use Rattle.reply.specs.Reply.{most_reply, Said, answered, on_second}
use Rattle.compare.specs.Compare.{most_row, difference_row, same_state, agrees, row_if, differences, compared_with, compared_said}
use Rattle.compare.specs.Compared.{RowExactly, Absent, Compared, ComparedAny}
use Rattle.compare.specs.Pieces.{half, rest}
use Rattle.compare.proofs.Rows.{row_split, half_most, rest_most, no_row, a_row}
use Rattle.compare.proofs.Said.{long_said, short_said}
use Rattle.refusal.specs.Answers.{Acceptance, Reading}
use Rattle.std.specs.Prelude.{Ok, Err}

-- A row exactly if the entries differ ------------------------------------------------------------------------------------------------------------

not_both : {A : Type 0} → false ≡ true → A
not_both q = let z : ◌≡◌ {A = ℕ} 0 1 = cc in absurd (omega arith)

state_same : (s t : State) → same_state s t ≡ true → s ≡ t
unfolding same_state
state_same Made Made e = refl
state_same Made Over e = not_both e
state_same Made Unmade e = not_both e
state_same Over Made e = not_both e
state_same Over Over e = refl
state_same Over Unmade e = not_both e
state_same Unmade Made e = not_both e
state_same Unmade Over e = not_both e
state_same Unmade Unmade e = refl

same_state_lem : (s : State) → same_state s s ≡ true
unfolding same_state
same_state_lem Made = refl
same_state_lem Over = refl
same_state_lem Unmade = refl

agree_same : (x y : Entry) → agrees x y ≡ true → (x.state ≡ y.state) × (x.weight ≡ y.weight)
unfolding agrees
agree_same x y = go (same_state x.state y.state) refl
  where
    go : (b : Bool) → same_state x.state y.state ≡ b → pick b (eqb x.weight.0 y.weight.0) false ≡ true → (x.state ≡ y.state) × (x.weight ≡ y.weight)
    go true p e = (state_same x.state y.state p, let q = eqb-true x.weight.0 y.weight.0 e in ap (λ (w : ℕ). record { 0 = w }) q)
    go false p e = not_both e

same_agree : (x y : Entry) → x.state ≡ y.state → x.weight ≡ y.weight → agrees x y ≡ true
unfolding agrees
same_agree x y p q =
    let s : same_state x.state y.state ≡ true = ap (same_state x.state) (sym p) ∙ same_state_lem x.state in
    ap (λ (b : Bool). pick b (eqb x.weight.0 y.weight.0) false) s ∙ eq-eqb x.weight.0 y.weight.0 (ap (λ (w : Weight). w.0) q)

-- a row has bytes
row_some : (v : ℕ) (x y : Entry) → 0 < length (difference_row v x y)
unfolding rest
row_some v x y =
    let e = ap length (row_split v x y) in
    let l = length-append (half v x.state x.weight.0) (rest y.state y.weight.0) in
    omega arith

pub row_exactly : (v : ℕ) (x y : Entry) → RowExactly v x y
row_exactly v x y = record { alike = λ e. agree_same x y (go (agrees x y) refl e); silent = λ p q. no_row v x y (same_agree x y p q) }
  where
    go : (b : Bool) → agrees x y ≡ b → row_if v x y ≡ [] → agrees x y ≡ true
    go true p e = p
    go false p e =
        let l = ap length (sym (a_row v x y p) ∙ e) in
        let s = row_some v x y in
        absurd (omega arith)

-- of a table and itself nothing is printed
pub none_differs : (a : Entries) (n : ℕ) → differences a a n ≡ []
unfolding differences
none_differs a zero = refl
none_differs a (suc n) = ap₂ (λ (u t : List ℕ). u ++ t) (none_differs a n) ((row_exactly n (entry_at a n) (entry_at a n)).silent refl refl)

-- The text of a table ----------------------------------------------------------------------------------------------------------------------------

module _ (n : ℕ) (a : Entries) (second : List ℕ) (short : length second ≤ most_input) (g : Header) (e : (read_input second).answer ≡ Ok g) where
  abbrev table : Columns
  table = columns_read g (read_input second)

  pub table_compared : compared_said n a second ≡ answered (differences a (entries_of g.measure table) (max n g.vertices))
  unfolding on_second
  table_compared =
      let b = blank_entries g.vertices in
      let r = read_settles second g e in
      let l = settled_left g.measure table b (sym (settled_result_lem g.measure table b) ∙ r) in
      short_said n a second short
      ∙ ap (λ (z : Reading). compared_with n a z (read_input second)) e
      ∙ ap₂ (λ (x : Acceptance) (y : Entries). on_second x (answered (differences a y (max n g.vertices)))) r l

module _ (n : ℕ) (a : Entries) (m : Measure) (c : Columns) (t : acceptance c ≡ Ok tt) (short : length (render m c) ≤ most_input) where
  pub rendered_compared : compared_said n a (render m c) ≡ answered (differences a (entries_of m c) (max n c.vertices))
  rendered_compared =
      table_compared n a (render m c) short (header_for m (closed c)) (ap (λ (x : ReadOutcome). x.answer) (rendered m c t))
      ∙ ap (λ (z : Columns). answered (differences a (entries_of m z) (max n c.vertices))) (columns_back m c t)
      ∙ ap (λ (z : Entries). answered (differences a z (max n c.vertices))) (entries_closed m c t)

-- a part that a table does not have
pub absent : (m : Measure) (c : Columns) → acceptance c ≡ Ok tt → Absent m c
absent m c t v h =
    let z = (entries_sized m c t).labels.depths in
    let y = (entries_sized m c t).labels.weights in
    let d = get_or-eq_default (entries_of m c).labels.depths 0 {n = v} (omega arith) in
    let w = (labels (entries_of m c).labels v).weight.0 in
    (ap (λ (k : ℕ). pick (eqb k 0) Unmade (pick (is_over w) Over Made)) d, get_or-eq_default (entries_of m c).labels.weights 0 {n = v} (omega arith))

pub compared : (m m' : Measure) (c c' : Columns) → acceptance c ≡ Ok tt → acceptance c' ≡ Ok tt → length (render m' c') ≤ most_input → Compared m m' c c' (render m' c')
compared m m' c c' t t' h = record {
  printed = rendered_compared c.vertices (entries_of m c) m' c' t' h;
  row_iff = λ v l. row_exactly v (entry_at (entries_of m c) v) (entry_at (entries_of m' c') v);
  first_absent = absent m c t;
  second_absent = absent m' c' t';
}

-- a table and its own text
pub compared_with_itself : (m : Measure) (c : Columns) → acceptance c ≡ Ok tt → length (render m c) ≤ most_input → compared_said c.vertices (entries_of m c) (render m c) ≡ answered []
compared_with_itself m c t h = rendered_compared c.vertices (entries_of m c) m c t h ∙ ap answered (none_differs (entries_of m c) (max c.vertices c.vertices))

-- How long it is ---------------------------------------------------------------------------------------------------------------------------------

row_most : (v : ℕ) (x y : Entry) → v < 2 ^ 64 → x.weight.0 < 2 ^ 64 → y.weight.0 < 2 ^ 64 → length (row_if v x y) ≤ most_row
unfolding row_if half rest
row_most v x y h i j =
    pick_by (λ (z : List ℕ). length z ≤ most_row) (agrees x y) (λ _. omega arith)
    (λ _. let e = ap length (row_split v x y) in
    let l = length-append (half v x.state x.weight.0) (rest y.state y.weight.0) in
    let p = half_most v x.state x.weight.0 h i in
    let q = rest_most y.state y.weight.0 j in
    omega arith)

differences_most : (a b : Entries) → ((v : ℕ) → (entry_at a v).weight.0 < 2 ^ 64) → ((v : ℕ) → (entry_at b v).weight.0 < 2 ^ 64) → (n : ℕ) → n ≤ most_vertices
    → length (differences a b n) ≤ most_row * n
unfolding differences
differences_most a b f g zero h = omega arith
differences_most a b f g (suc n) h =
    let i = differences_most a b f g n (omega arith) in
    let w = row_most n (entry_at a n) (entry_at b n) (omega arith) (f n) (g n) in
    let l = length-append (differences a b n) (row_if n (entry_at a n) (entry_at b n)) in
    omega arith

-- the figures of an accepted table are of 64 bits
pub figures_fit : (m : Measure) (c : Columns) → acceptance c ≡ Ok tt → (v : ℕ) → (entry_at (entries_of m c) v).weight.0 < 2 ^ 64
figures_fit m c t v = let w = (answers_ranged m c t v).label.weight in omega arith

module _ (n : ℕ) (a : Entries) (second : List ℕ) (few : n ≤ most_vertices) (f : (v : ℕ) → (entry_at a v).weight.0 < 2 ^ 64) where
  long_fits : most_input < length second → length (compared_said n a second).bytes ≤ most_reply
  long_fits h =
      let e = ap (λ (s : Said). length s.bytes) (long_said n a second h) in
      let r = ap length (report_long second h) in
      let k = report_fits second in
      omega arith

  -- by what reading it returned: its refusal is what the listing program prints
  short_fits : length second ≤ most_input → length (compared_said n a second).bytes ≤ most_reply
  unfolding listed_as
  short_fits h = go (read_input second).answer refl
    where
      go : (x : Reading) → (read_input second).answer ≡ x → length (compared_said n a second).bytes ≤ most_reply
      go (Err r) e =
          let s = ap (λ (z : Said). length z.bytes) (short_said n a second h ∙ ap (λ (z : Reading). compared_with n a z (read_input second)) e) in
          let q = ap length (report-short second h ∙ ap (λ (z : Reading). listed_as z (read_input second)) e) in
          let k = report_fits second in
          omega arith
      go (Ok g) e =
          let c = columns_read g (read_input second) in
          let t = input_accepted second g e in
          let v = (table_accepted c t).few in
          let s = ap (λ (z : Said). length z.bytes) (table_compared n a second h g e) in
          let d = differences_most a (entries_of g.measure c) f (figures_fit g.measure c t) (max n g.vertices) (omega arith) in
          omega arith

  fits : length (compared_said n a second).bytes ≤ most_reply
  fits = go (dec_le (length second) most_input)
    where
      go : Dec (length second ≤ most_input) → length (compared_said n a second).bytes ≤ most_reply
      go (yes h) = short_fits h
      go (no h) = long_fits (omega arith)

pub compared_any : (n : ℕ) (a : Entries) (second : List ℕ) → ComparedAny n a second
unfolding read_input
compared_any n a second = record {
  long = λ h. sym (long_said n a second h);
  wrong = λ h p. let u = unpermitted_is_refused second _ _ _ _ _ p in
      (u.0, u.1, short_said n a second h ∙ ap (λ (z : ReadOutcome). compared_with n a z.answer z) u.2, u.3, u.4);
  fits = λ few f. fits n a second few f;
}
