-- How long a row can be in an accepted table, and the laws by which the rows of the lines that need a part are written one behind the other. Assumes nothing.
use mathlib.Core.Path.{◌≡◌, sym, ◌∙◌, ap}
use mathlib.Core.Bool.{Bool, true, false}
use mathlib.Core.List.{List, [], ◌∷◌, ◌++◌, append_assoc, append-nil}
use Prim.Native.Nat.{ℕ, zero, suc, ◌+◌, ◌-◌, ◌*◌, ◌^◌, ◌≤◌, ◌<◌}
use native.Mathlib.Numerals.{add-one}
use native.Mathlib.Omega.{arith}
use lib.ListN.{length, take, drop, length-append}
use borrow.Author.Tests.{ltb-true}
use Rattle.weights.specs.Figures.{is_struck_mark}
use Rattle.weights.specs.Choice.{pick}
use Rattle.weights.specs.Lists.{member}
use Rattle.weights.proofs.Choice.{both_true}
use Rattle.columns.specs.Columns.{Columns, columns, head_at, own_at, strike_at, tail_at}
use Rattle.columns.specs.Acceptance.{most_vertices, all_below, acceptance}
use Rattle.columns.proofs.Accepted.{table_accepted}
use Rattle.uses.specs.Uses.{uses_below}
use Rattle.text.specs.Tables.{Edge, edge}
use Rattle.text.specs.Render.{digits, mark_text, own_text, tail_text, edge_text}
use Rattle.text.specs.Rows.{EdgeFits}
use Rattle.text.proofs.Digits.{pick_by}
use Rattle.writing.specs.Written.{Written}
use Rattle.writing.proofs.Written.{lent, written_none, written_as}
use Rattle.writing.proofs.Widths.{line_width}
use Rattle.writetable.proofs.Laws.{line_of, edge_here}
use Rattle.writing.proofs.Widths.{width_4, width_20}
use Rattle.reply.specs.Reply.{most_reply}
use Rattle.reply.proofs.Room.{behind_starts, behind_room, written_behind}
use Rattle.whereused.specs.WhereUsed.{use_row, use_rows, most_use, RowIn}
use Rattle.std.specs.Prelude.{Ok}

-- Bounds -----------------------------------------------------------------------------------------------------------------------------------------

own-short : (o k : ℕ) → o < 2 ^ 64 → length (own_text o k) ≤ 21
unfolding mark_text own_text
own-short o k h = let w = width_20 o h in pick_by (λ (z : List ℕ). length (z ++ digits o) ≤ 21) (is_struck_mark k) (λ e. omega arith) (λ e. omega arith)

tail-short : (vs : List ℕ) → all_below most_vertices vs ≡ true → length (tail_text vs) ≤ 5 * length vs
unfolding all_below tail_text
tail-short [] e = omega arith
tail-short (v ∷ vs) e =
    let b = both_true e in
    let h = ltb-true v most_vertices b.0 in
    let w = width_4 v (omega arith) in
    let r = tail-short vs b.1 in
    let l = length-append (32 ∷ digits v) (tail_text vs) in
    omega arith

line_short : (x : Edge) → EdgeFits most_vertices x → length (edge_text x ++ 10 ∷ []) ≤ 107
line_short x f =
    let e = line_width x in
    let a = f.head in
    let h = width_4 x.head (omega arith) in
    let b = f.own in
    let o = own-short x.own x.mark (omega arith) in
    let s = f.short in
    let t = tail-short x.tail f.tail in
    let l = length-append (tail_text x.tail) (10 ∷ []) in
    omega arith

-- a line of an accepted table, in a room for its row
pub row_in : (c : Columns) (i room : ℕ) → acceptance c ≡ Ok tt → i < length c.heads → most_use ≤ room
    → RowIn (columns 0 c.heads c.own c.strikes c.spans c.tails) i room
unfolding use_row
row_in c i room p h g =
    let t = edge_here c i p h in
    let o = t.owns in
    let s = t.strikes in
    let m = t.edges in
    let d = width_4 i (omega arith) in
    let b = line_short _ t.fits in
    let l = length-append (digits i) (32 ∷ line_of c i) in
    record { head = h; own = omega arith; mark = omega arith; placed = t.placed; short = omega arith; room = g }

-- One line ---------------------------------------------------------------------------------------------------------------------------------------

-- the row of line e with its list as it was read
abbrev pub row_of : Columns → (e : ℕ) → List ℕ → List ℕ
row_of c e vs = digits e ++ (32 ∷ (edge_text (edge (head_at c e) (own_at c e) (strike_at c e) vs) ++ 10 ∷ []))

-- what line e adds to the rows of the lines that need v
abbrev pub added : Columns → (v e : ℕ) → List ℕ
added c v e = pick (member v (tail_at c e)) (use_row c e) []

module _ (c : Columns) (v e : ℕ) (vs : List ℕ) (q : vs ≡ tail_at c e) where
  row_is : row_of c e vs ≡ use_row c e
  unfolding use_row
  row_is = ap (row_of c e) q

  pub row_fits : (places : ℕ) → RowIn c e places → length (row_of c e vs) ≤ most_use
  row_fits places r = let l = ap length row_is in let s = r.short in omega arith

  pub used_not : (old : List ℕ) → member v vs ≡ false → Written (added c v e) old 0 old
  used_not old f = written_as old 0 old (sym (ap (λ (b : Bool). pick b (use_row c e) []) (ap (member v) (sym q) ∙ f))) (written_none old)

  pub used : (old : List ℕ) (r : ℕ) (room : List ℕ) → member v vs ≡ true → Written (row_of c e vs) old r room → Written (added c v e) old r room
  used old r room t w = written_as old r room (row_is ∙ sym (ap (λ (b : Bool). pick b (use_row c e) []) (ap (member v) (sym q) ∙ t))) w

-- Rows -------------------------------------------------------------------------------------------------------------------------------------------

rows_one : (c : Columns) (es : List ℕ) (e : ℕ) → use_rows c (es ++ e ∷ []) ≡ use_rows c es ++ use_row c e
unfolding use_rows
rows_one c [] e = append-nil (use_row c e)
rows_one c (x ∷ es) e = ap (λ (z : List ℕ). use_row c x ++ z) (rows_one c es e) ∙ sym (append_assoc (use_row c x) (use_rows c es) (use_row c e))

module _ (c : Columns) (v : ℕ) where
  -- the rows of the lines below i that need v
  abbrev pub below : ℕ → List ℕ
  below i = use_rows c (uses_below (tail_at c) v i)

  below_next : (i : ℕ) → below (i + 1) ≡ below i ++ added c v i
  unfolding uses_below
  below_next i =
      ap below (add-one i) ∙ go (member v (tail_at c i))
    where
      go : (b : Bool) → use_rows c (pick b (uses_below (tail_at c) v i ++ i ∷ []) (uses_below (tail_at c) v i)) ≡ below i ++ pick b (use_row c i) []
      go true = rows_one c (uses_below (tail_at c) v i) i
      go false = sym (append-nil (below i))

  module _ (old room : List ℕ) (i m at : ℕ) (h : i < m) (w : Written (below i) old at room) (s : at ≤ most_use * i) (l : m ≤ 4096) (g : most_reply ≤ length old) where
    fits : at + most_use ≤ length old
    fits = omega arith

    pub use_starts : at ≤ length room
    use_starts = behind_starts (below i) old at room w most_use fits

    pub use_room : most_use ≤ length (lent (below i) old at room w)
    use_room = behind_room (below i) old at room w most_use fits

    pub use_next : (r : ℕ) (new : List ℕ) → r ≤ most_use → Written (added c v i) (lent (below i) old at room w) r new
        → Written (below (i + 1)) old (at + r) (take at room ++ (new ++ drop (length room - at) (drop at room)))
    use_next r new k x =
        written_as old (at + r) (take at room ++ (new ++ drop (length room - at) (drop at room))) (sym (below_next i))
        (written_behind (below i) old at room w most_use fits (added c v i) r new k x)

-- all of them fit the room of a reply
below-short : (c : Columns) (v i : ℕ) → acceptance c ≡ Ok tt → i ≤ length c.heads → length (below c v i) ≤ most_use * i
unfolding use_row use_rows uses_below
below-short c v zero p h = omega arith
below-short c v (suc i) p h =
    let r = below-short c v i p (omega arith) in
    let s = (row_in c i most_use p (omega arith) (omega arith)).short in
    let a : length (added c v i) ≤ most_use = pick_by (λ (z : List ℕ). length z ≤ most_use) (member v (tail_at c i)) (λ _. s) (λ _. omega arith) in
    let e = ap length (ap (below c v) (sym (add-one i)) ∙ below_next c v i) in
    let l = length-append (below c v i) (added c v i) in
    omega arith

pub rows_fit : (c : Columns) (v : ℕ) → acceptance c ≡ Ok tt → length (below c v (length c.heads)) ≤ most_reply
rows_fit c v p = let b = below-short c v (length c.heads) p (omega arith) in let m = (table_accepted c p).edges in omega arith
