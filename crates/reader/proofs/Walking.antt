-- Walking a text with a reader reaches its end exactly if the text is permitted in form; and a text is permitted exactly if the table so passed keeps the
-- three counts besides. Assumes nothing.
use Prim.Native.Nat.{ℕ, ◌+◌, ◌≤◌, ◌<◌}
use mathlib.Core.Path.{◌≡◌, refl, sym, ◌∙◌, ap, subst}
use mathlib.Core.List.{List, [], ◌∷◌, ◌++◌, append_assoc}
use mathlib.Core.Bool.{true}
use native.Mathlib.Omega.{arith}
use lib.ListN.{length, drop, length-append, length-drop, drop_of_length-le}
use lib.Seq.{drop-append_seam}
use borrow.Author.Tests.{lt-ltb, le-leb, lt-leb, leb-true}
use Rattle.columns.specs.Acceptance.{longest_tail, all_below}
use Rattle.columns.proofs.Accepted.{below_at}
use Rattle.text.specs.Tables.{Edge, Table, table_of}
use Rattle.text.specs.Render.{digits, header, own_text, tail_text, edge_text, edges_text, table_text, text_of, Permitted}
use Rattle.text.specs.Machine.{digit_of}
use Rattle.text.specs.Rows.{EdgeFits, All, none, one}
use Rattle.text.proofs.Rows.{accepted_fits}
use Rattle.text.proofs.Permitted.{table_permitted}
use Rattle.cursor.proofs.Counts.{number_counts, weight_counts}
use Rattle.reader.specs.Walk.{Parts, no_part, part, Line, Lines, no_line, line, Walks, EdgeFormed, Formed, Counted}
use Rattle.reading.specs.Lines.{first_of}
use Rattle.reading.proofs.Laws.{opened}
use Rattle.reader.proofs.Fields.{behind, space_text, end_text, space_found, end_found, number_text, Stops, number_found, weight_text, weight_found, first_text, first_found}

-- Pieces of a line, joined -----------------------------------------------------------------------------------------------------------------

join_part : (a b c d : List ℕ) → a ++ ((b ++ c) ++ d) ≡ ((a ++ b) ++ c) ++ d
join_part a b c d = simp append_assoc

join_line : (h o t r : List ℕ) → h ++ (32 ∷ (o ++ ((t ++ 10 ∷ []) ++ r))) ≡ (((h ++ (32 ∷ o)) ++ t) ++ 10 ∷ []) ++ r
join_line h o t r = simp append_assoc

-- What a walk passes stands in the text ------------------------------------------------------------------------------------------------------

module _ (s : List ℕ) (n : ℕ) where
  parts_text : {at next : ℕ} {vs : List ℕ} → Parts s n at vs next → (all_below n vs ≡ true) × (drop at s ≡ (tail_text vs ++ 10 ∷ []) ++ drop next s)
  unfolding tail_text all_below
  parts_text (no_part {at} {next} e) = (refl, end_text s at next e)
  parts_text (part {at} {from} {after} {next} {v} {vs} e f r) =
      let rec = parts_text r in
      let below = (number_counts s from n from after v f).0 in
      let listed = number_text s from n from after v f ∙ ap (λ (l : List ℕ). digits v ++ l) rec.1 ∙ join_part (digits v) (tail_text vs) (10 ∷ []) (drop next s) in
      (rw (lt-ltb v n below) rec.0, space_text s at from e ∙ ap (λ (l : List ℕ). 32 ∷ l) listed)

  line_text : {at next : ℕ} {e : Edge} → Line s n at e next → EdgeFormed n e × (drop at s ≡ (edge_text e ++ 10 ∷ []) ++ drop next s)
  unfolding edge_text
  line_text {at} {next} {e} l =
      let rec = parts_text l.parts in
      let text = own_text e.own e.mark in
      let own = weight_text s l.from e.own e.mark l.from l.behind_own l.own ∙ ap (λ (z : List ℕ). text ++ z) rec.1 in
      let spaced = space_text s l.behind_head l.from l.space ∙ ap (λ (z : List ℕ). 32 ∷ z) own in
      let counts = weight_counts s l.from _ _ _ _ l.own in
      let formed : EdgeFormed n e = record { head = (number_counts s at n _ _ _ l.head).0; own = counts.0; mark = counts.1; tail = rec.0 } in
      (formed, number_text s at n _ _ _ l.head ∙ ap (λ (z : List ℕ). digits e.head ++ z) spaced ∙ join_line (digits e.head) text (tail_text e.tail) (drop next s))

  lines_text : {at : ℕ} {es : List Edge} → Lines s n at es → All (EdgeFormed n) es × (drop at s ≡ edges_text es)
  unfolding edges_text
  lines_text (no_line {at} e) = (none, drop_of_length-le s (leb-true (length s) at e))
  lines_text (line {at} {next} {e} {es} q l r) =
      let a = line_text l in
      let rec = lines_text r in
      (one a.0 rec.0, a.1 ∙ ap (λ (z : List ℕ). (edge_text e ++ 10 ∷ []) ++ z) rec.1)

pub walk_text : (s : List ℕ) (t : Table) → Walks s t → Formed t × (s ≡ text_of t)
unfolding table_text
walk_text s t w =
    let a = first_text s t.vertices w.start t.measure (opened _ _ (sym w.first)) in
    let b = lines_text s t.vertices w.lines in
    (record { vertices = a.0; each = b.0 }, a.1 ∙ ap (λ (z : List ℕ). header t.vertices t.measure ++ z) b.1)

-- The text of a table that is permitted in form is walked to its end -------------------------------------------------------------------------

tail_stops : (vs rest : List ℕ) → Stops ((tail_text vs ++ 10 ∷ []) ++ rest)
unfolding tail_text digit_of
tail_stops [] rest = omega arith
tail_stops (v ∷ vs) rest = omega arith

space_stops : (rest : List ℕ) → Stops (32 ∷ rest)
unfolding digit_of
space_stops rest = omega arith

module _ (s : List ℕ) (n : ℕ) where
  parts_found : (vs rest : List ℕ) (at : ℕ) → all_below n vs ≡ true → drop at s ≡ (tail_text vs ++ 10 ∷ []) ++ rest → (next : ℕ) × Parts s n at vs next × (drop next s ≡ rest)
  unfolding tail_text all_below
  parts_found [] rest at b e = (at + 1, no_part (end_found s at rest e), behind s (10 ∷ []) rest at e)
  parts_found (v ∷ vs) rest at b e =
      let more = (tail_text vs ++ 10 ∷ []) ++ rest in
      let below : v < n = below_at n (v ∷ vs) b 0 (omega arith) in
      let here : drop at s ≡ 32 ∷ (digits v ++ more) = e ∙ ap (λ (z : List ℕ). 32 ∷ z) (sym (join_part (digits v) (tail_text vs) (10 ∷ []) rest)) in
      let there : drop (at + 1) s ≡ digits v ++ more = behind s (32 ∷ []) (digits v ++ more) at here in
      let rec = parts_found vs rest (at + 1 + length (digits v)) (rw (lt-ltb v n below) at b) (behind s (digits v) more (at + 1) there) in
      (rec.0, part (space_found s at (digits v ++ more) here) (number_found s more (at + 1) n v there below (tail_stops vs rest)) rec.1, rec.2)

  module _ (e : Edge) (f : EdgeFormed n e) (rest : List ℕ) (at : ℕ) (q : drop at s ≡ (edge_text e ++ 10 ∷ []) ++ rest) where
    line_found : (next : ℕ) × Line s n at e next × (drop next s ≡ rest)
    unfolding edge_text
    line_found =
        let more = (tail_text e.tail ++ 10 ∷ []) ++ rest in
        let space = at + length (digits e.head) in
        let text = own_text e.own e.mark in
        let behind_own = space + 1 + length text in
        let a : drop at s ≡ digits e.head ++ (32 ∷ (text ++ more)) = q ∙ sym (join_line (digits e.head) text (tail_text e.tail) rest) in
        let b : drop space s ≡ 32 ∷ (text ++ more) = behind s (digits e.head) _ at a in
        let c : drop (space + 1) s ≡ text ++ more = behind s (32 ∷ []) _ space b in
        let rec = parts_found e.tail rest behind_own f.tail (behind s text more (space + 1) c) in
        let found : Line s n at e rec.0 = record {
          behind_head = space;
          from = space + 1;
          behind_own = behind_own;
          head = number_found s _ at n e.head a f.head (space_stops (text ++ more));
          space = space_found s space _ b;
          own = weight_found s more (space + 1) e.own (tail_stops e.tail rest) f.own e.mark f.mark c;
          parts = rec.1;
        } in
        (rec.0, found, rec.2)

    -- a line has a byte
    within : at < length s
    within =
        let a = ap length q ∙ length-append (edge_text e ++ 10 ∷ []) rest in
        let b = length-append (edge_text e) (10 ∷ []) in
        let c = length-drop at s in
        omega arith

  lines-found : (es : List Edge) (at : ℕ) → All (EdgeFormed n) es → drop at s ≡ edges_text es → Lines s n at es
  unfolding edges_text
  lines-found [] at a e = let l = length-drop at s in let m : length (drop at s) ≡ 0 = ap length e in no_line (le-leb (length s) at (omega arith))
  lines-found (e ∷ es) at (one f a) q =
      let r = line_found e f (edges_text es) at q in
      line (lt-leb (length s) at (within e f (edges_text es) at q)) r.1 (lines-found es r.0 a r.2)

pub text_walk : (t : Table) → Formed t → Walks (text_of t) t
unfolding table_text
text_walk t f =
    let first = header t.vertices t.measure in
    let rest = edges_text t.edges in
    record {
      start = length first;
      first = ap first_of (first_found rest t.vertices t.measure f.vertices);
      lines = lines-found (first ++ rest) t.vertices t.edges (length first) f.each (drop-append_seam first rest);
    }

-- With the counts ------------------------------------------------------------------------------------------------------------------------------

abbrev Short : Edge → Type 0
Short e = length e.tail ≤ longest_tail

both : {n : ℕ} {es : List Edge} → All (EdgeFormed n) es → All Short es → All (EdgeFits n) es
both none none = none
both (one f a) (one h b) = one (record { head = f.head; own = f.own; mark = f.mark; short = h; tail = f.tail }) (both a b)

formed : {n : ℕ} {es : List Edge} → All (EdgeFits n) es → All (EdgeFormed n) es
formed none = none
formed (one f a) = one (record { head = f.head; own = f.own; mark = f.mark; tail = f.tail }) (formed a)

short : {n : ℕ} {es : List Edge} → All (EdgeFits n) es → All Short es
short none = none
short (one f a) = one f.short (short a)

pub walk_permitted : (s : List ℕ) (t : Table) → Walks s t → Counted t → Permitted s
walk_permitted s t w c =
    let r = walk_text s t w in
    table_permitted s t (record { vertices = r.0.vertices; edges = c.edges; listed = c.listed; each = both r.0.each c.short }) r.1

pub permitted_walk : (s : List ℕ) → Permitted s → (t : Table) × Walks s t × Counted t
permitted_walk s p =
    let t = table_of p.measure p.table in
    let f = accepted_fits p.measure p.table p.accepted in
    let w = text_walk t (record { vertices = f.vertices; each = formed f.each }) in
    (t, subst (λ (x : List ℕ). Walks x t) (sym p.same) w, record { edges = f.edges; listed = f.listed; short = short f.each })
