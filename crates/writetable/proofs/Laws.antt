-- The laws by which a table is measured and written, hyperedge by hyperedge. Assumes nothing.
use mathlib.Core.Path.{◌≡◌, refl, sym, ◌∙◌, ap, ap₂, subst}
use mathlib.Core.List.{List, [], ◌∷◌, ◌++◌, append_assoc, append-nil}
use mathlib.Core.Bool.{true}
use Prim.Native.Nat.{ℕ, zero, suc, ◌+◌, ◌*◌, ◌-◌, ◌≤◌, ◌<◌}
use native.Mathlib.Nat.{sub-zero, sub-eq-zero_of_le}
use native.Mathlib.Numerals.{add-one}
use native.Mathlib.Omega.{arith}
use lib.ListN.{length, take, drop, length-append, length-take}
use borrow.Author.Tests.{lt-ltb, le-leb, lt-leb}
use Rattle.weights.specs.declared.Measure.{Measure}
use Rattle.refusal.specs.declared.Refusal.TheVariants.{TextRoom}
use Rattle.refusal.specs.declared.Refusal.{Refusal}
use Rattle.columns.specs.Lent.{Placed}
use Rattle.columns.specs.Columns.{Columns, head_at, own_at, strike_at, offset_at, length_at, tail_at}
use Rattle.columns.specs.Acceptance.{most_vertices, most_edges, most_listed, all_below, acceptance}
use Rattle.columns.proofs.Accepted.{table_accepted, below_at}
use Rattle.text.specs.Tables.{edge, edges_from, edges_of}
use Rattle.text.specs.Render.{header, edge_text, edges_text, table_text, render}
use Rattle.text.specs.Rows.{EdgeFits}
use Rattle.writing.specs.Written.{Written}
use Rattle.writing.proofs.Written.{lent-room, within, written_part, written_as}
use Rattle.writing.proofs.Widths.{line_most, header_most}
use Rattle.writetable.specs.Write.{write_outcome, write_text, write_as, write_table, Writable}
use Rattle.refusal.specs.Answers.{Acceptance}
use Rattle.std.specs.Prelude.{Ok, Err}

-- A hyperedge of an accepted table ----------------------------------------------------------------------------------------------------------

below_wider : (n m : ℕ) (vs : List ℕ) → n ≤ m → all_below n vs ≡ true → all_below m vs ≡ true
unfolding all_below
below_wider n m [] h e = refl
below_wider n m (v ∷ vs) h e =
    let l = below_at n (v ∷ vs) e 0 (omega arith) in
    rw (lt-ltb v m (omega arith)) (below_wider n m vs h (rw (lt-ltb v n l) at e))

-- its span is within the column, and it is within the limits
pub record EdgeHere (c : Columns) (i : ℕ) : Type 0 where
  pub owns : length c.own ≡ length c.heads
  pub strikes : length c.strikes ≡ length c.heads
  pub spans : length c.spans ≡ 2 * length c.heads
  pub edges : length c.heads ≤ most_edges
  pub listed : length c.tails ≤ most_listed
  pub placed : Placed c.spans c.tails i
  pub fits : EdgeFits most_vertices (edge (head_at c i) (own_at c i) (strike_at c i) (tail_at c i))

pub edge_here : (c : Columns) (i : ℕ) → acceptance c ≡ Ok tt → i < length c.heads → EdgeHere c i
edge_here c i p h =
    let t = table_accepted c p in
    let a = (t.each i h).1 in
    let f = t.few in
    let b = a.head in
    let s = a.short in
    let l = length-take (length_at c i) (drop (offset_at c i) c.tails) in
    record {
      owns = t.own;
      strikes = t.strikes;
      spans = t.spans;
      edges = t.edges;
      listed = t.tails;
      placed = record { span = omega arith; short = s; within = a.within };
      fits = record { head = omega arith; own = a.own; mark = a.mark; short = omega arith; tail = below_wider c.vertices most_vertices (tail_at c i) f a.listed };
    }

-- the line of a hyperedge
abbrev pub line_of : Columns → ℕ → List ℕ
line_of c i = edge_text (edge (head_at c i) (own_at c i) (strike_at c i) (tail_at c i)) ++ 10 ∷ []

-- The lines passed ---------------------------------------------------------------------------------------------------------------------------

-- these are the bytes of the hyperedges before i
pub record Passed (c : Columns) (i : ℕ) (bytes : List ℕ) : Type 0 where
  pub few : i ≤ length c.heads
  pub rest : bytes ++ edges_text (edges_from c (length c.heads - i) i) ≡ edges_text (edges_of c)

pub passed_none : (c : Columns) → Passed c 0 []
passed_none c = record { few = omega arith; rest = rw sub-zero }

module _ (c : Columns) (i : ℕ) (bytes : List ℕ) (p : Passed c i bytes) where
  pub passed_next : i < length c.heads → Passed c (i + 1) (bytes ++ line_of c i)
  unfolding edges_from edges_text
  passed_next h =
      let z : length c.heads - i ≡ suc (length c.heads - (i + 1)) = omega arith in
      record {
        few = omega arith;
        rest = append_assoc bytes (line_of c i) (edges_text (edges_from c (length c.heads - (i + 1)) (i + 1))) ∙ ap (λ (k : ℕ). bytes ++ edges_text (edges_from c k i)) (sym z) ∙ p.rest;
      }

  pub passed_all : length c.heads ≤ i → bytes ≡ edges_text (edges_of c)
  unfolding edges_from edges_text
  passed_all h = sym (append-nil bytes) ∙ ap (λ (k : ℕ). bytes ++ edges_text (edges_from c k i)) (sym (sub-eq-zero_of_le h)) ∙ p.rest

  -- no more than all of them
  pub passed_within : length bytes ≤ length (edges_text (edges_of c))
  passed_within = let l = length-append bytes (edges_text (edges_from c (length c.heads - i) i)) in let e = ap length p.rest in omega arith

pub render-length : (m : Measure) (c : Columns) → length (render m c) ≡ length (header c.vertices m) + length (edges_text (edges_of c))
unfolding table_text
render-length m c = length-append (header c.vertices m) (edges_text (edges_of c))

-- Measuring ------------------------------------------------------------------------------------------------------------------------------------

pub record Measured (c : Columns) (start width i : ℕ) : Type 0 where
  pub bytes : List ℕ
  pub passed : Passed c i bytes
  pub is : width ≡ start + length bytes
  pub small : start ≤ 2000
  pub most : width ≤ start + 100000 * i

pub measured_none : (c : Columns) (start : ℕ) → start ≤ 2000 → Measured c start start 0
measured_none c start h = record { bytes = []; passed = passed_none c; is = omega arith; small = h; most = omega arith }

pub measured_next : (c : Columns) (start width i w : ℕ) → acceptance c ≡ Ok tt → i < length c.heads → w ≡ length (line_of c i) → Measured c start width i → Measured c start (width + w) (i + 1)
measured_next c start width i w a h e m =
    let b = line_most (edge (head_at c i) (own_at c i) (strike_at c i) (tail_at c i)) (edge_here c i a h).fits in
    let l = length-append m.bytes (line_of c i) in
    let n = m.is in
    let k = m.most in
    record { bytes = m.bytes ++ line_of c i; passed = passed_next c i m.bytes m.passed h; is = omega arith; small = m.small; most = omega arith }

pub measured_all : (m : Measure) (c : Columns) (start width i : ℕ) → start ≡ length (header c.vertices m) → length c.heads ≤ i → Measured c start width i → width ≡ length (render m c)
measured_all m c start width i e h g =
    let a = ap length (passed_all c i g.bytes g.passed h) in
    let b = render-length m c in
    let d = g.is in
    omega arith

-- the whole text, measured: its length is below 2^32
module _ (m : Measure) (c : Columns) (a : acceptance c ≡ Ok tt) where
  abbrev begins : ℕ
  begins = length (header c.vertices m)

  measured_to : (i : ℕ) → i ≤ length c.heads → (width : ℕ) × Measured c begins width i
  measured_to zero h = (begins, measured_none c begins (header_most c.vertices m (table_accepted c a).few))
  measured_to (suc i) h =
      let r = measured_to i (omega arith) in
      let n = measured_next c begins r.0 i (length (line_of c i)) a h refl r.1 in
      (r.0 + length (line_of c i), subst (Measured c begins (r.0 + length (line_of c i))) (add-one i) n)

  pub render_most : length (render m c) ≤ 4_294_967_295
  render_most =
      let r = measured_to (length c.heads) (omega arith) in
      let e = measured_all m c begins r.0 (length c.heads) refl (omega arith) r.1 in
      let s = r.1.small in
      let l = r.1.most in
      let t = (table_accepted c a).edges in
      omega arith

-- Writing --------------------------------------------------------------------------------------------------------------------------------------

-- whatever stands before the lines, with room for all of them: the hyperedges before i are written behind it
pub record Putting (c : Columns) (start : ℕ) (room₀ : List ℕ) (i at : ℕ) (room : List ℕ) : Type 0 where
  pub bytes : List ℕ
  pub passed : Passed c i bytes
  pub written : (done old : List ℕ) → Written done old start room₀ → length (done ++ edges_text (edges_of c)) ≤ length old → Written (done ++ bytes) old at room

pub putting_none : (c : Columns) (start : ℕ) (room : List ℕ) → Putting c start room 0 start room
putting_none c start room = record { bytes = []; passed = passed_none c; written = λ done old w h. written_as old start room (sym (append-nil done)) w }

module _ (c : Columns) (start : ℕ) (room₀ : List ℕ) (i at : ℕ) (room : List ℕ) (p : Putting c start room₀ i at room) (done old : List ℕ) (w : Written done old start room₀)
    (h : length (done ++ edges_text (edges_of c)) ≤ length old) where
  pub so_far : Written (done ++ p.bytes) old at room
  so_far = p.written done old w h

  pub line_fits : i < length c.heads → length ((done ++ p.bytes) ++ line_of c i) ≤ length old
  line_fits l =
      let q = passed_within c (i + 1) (p.bytes ++ line_of c i) (passed_next c i p.bytes p.passed l) in
      let a = length-append (done ++ p.bytes) (line_of c i) in
      let b = length-append done p.bytes in
      let d = length-append p.bytes (line_of c i) in
      let e = length-append done (edges_text (edges_of c)) in
      omega arith

pub putting_next : (c : Columns) (start : ℕ) (room₀ : List ℕ) (i at : ℕ) (room : List ℕ) (p : Putting c start room₀ i at room) (r : ℕ) (new : List ℕ) → i < length c.heads
    → Written (line_of c i) (take (length room - at) (drop at room)) r new → Putting c start room₀ (i + 1) (at + r) (take at room ++ (new ++ drop (length room - at) (drop at room)))
putting_next c start room₀ i at room p r new l g = record {
  bytes = p.bytes ++ line_of c i;
  passed = passed_next c i p.bytes p.passed l;
  written = λ done old w h.
      written_as old (at + r) (take at room ++ (new ++ drop (length room - at) (drop at room))) (append_assoc done p.bytes (line_of c i))
      (written_part (done ++ p.bytes) old at room (so_far c start room₀ i at room p done old w h) (line_of c i) r new (line_fits c start room₀ i at room p done old w h l) g);
}

pub putting_all : (m : Measure) (c : Columns) (start : ℕ) (room₀ : List ℕ) (i at : ℕ) (room old : List ℕ) → Putting c start room₀ i at room → length c.heads ≤ i
    → Written (header c.vertices m) old start room₀ → length (render m c) ≤ length old → Written (render m c) old (length (render m c)) room
unfolding table_text
putting_all m c start room₀ i at room old p h w f =
    let g = so_far c start room₀ i at room p (header c.vertices m) old w f in
    let e = ap (λ (z : List ℕ). header c.vertices m ++ z) (passed_all c i p.bytes p.passed h) in
    let k = written_as old at room e g in
    record { count = refl; room_is = k.room_is; long = k.long }

-- what the code takes for the tail is the hyperedge's
pub tail_fits : (c : Columns) (i : ℕ) {vs : List ℕ} → vs ≡ tail_at c i → EdgeHere c i → EdgeFits most_vertices (edge (head_at c i) (own_at c i) (strike_at c i) vs)
tail_fits c i e h = subst (λ (vs : List ℕ). EdgeFits most_vertices (edge (head_at c i) (own_at c i) (strike_at c i) vs)) (sym e) h.fits

pub tail_line : (c : Columns) (i : ℕ) {vs : List ℕ} → vs ≡ tail_at c i → edge_text (edge (head_at c i) (own_at c i) (strike_at c i) vs) ++ 10 ∷ [] ≡ line_of c i
tail_line c i e = ap (λ (vs : List ℕ). edge_text (edge (head_at c i) (own_at c i) (strike_at c i) vs) ++ 10 ∷ []) e

-- one line more is measured, and written, of what the code takes for the tail
module _ (c : Columns) (start i : ℕ) {vs : List ℕ} (h : i < length c.heads) (e : vs ≡ tail_at c i) where
  pub line_measured : (width w : ℕ) → acceptance c ≡ Ok tt → w ≡ length (edge_text (edge (head_at c i) (own_at c i) (strike_at c i) vs) ++ 10 ∷ [])
      → Measured c start width i → Measured c start (width + w) (i + 1)
  line_measured width w a q m = measured_next c start width i w a h (q ∙ ap length (tail_line c i e)) m

  pub line_put : (room₀ : List ℕ) (at : ℕ) (room : List ℕ) (p : Putting c start room₀ i at room) (r : ℕ) (new : List ℕ)
      → Written (edge_text (edge (head_at c i) (own_at c i) (strike_at c i) vs) ++ 10 ∷ []) (take (length room - at) (drop at room)) r new
      → Putting c start room₀ (i + 1) (at + r) (take at room ++ (new ++ drop (length room - at) (drop at room)))
  line_put room₀ at room p r new g = putting_next c start room₀ i at room p r new h (written_as (take (length room - at) (drop at room)) r new (tail_line c i e) g)

-- room for the text is room for its first line
pub header_fits : (m : Measure) (c : Columns) (n : ℕ) → Writable m c n → length (header c.vertices m) ≤ n
header_fits m c n w = let r = render-length m c in let f = w.fits in omega arith

-- Room for the next line, and for all
module _ (m : Measure) (c : Columns) (start : ℕ) (room₀ : List ℕ) (i at : ℕ) (room old : List ℕ) (p : Putting c start room₀ i at room) (w : Written (header c.vertices m) old start room₀)
    (f : length (render m c) ≤ length old) where
  abbrev pub stands : Type 0
  stands = Written (header c.vertices m ++ p.bytes) old at room

  pub stand : stands
  unfolding table_text
  stand = so_far c start room₀ i at room p (header c.vertices m) old w f

  pub place : at ≤ length old
  place =
      let n = stand.count in
      let a = length-append (header c.vertices m) p.bytes in
      let b = passed_within c i p.bytes p.passed in
      let r = render-length m c in
      omega arith

  pub next_room : i < length c.heads → {vs : List ℕ} → vs ≡ tail_at c i
      → (at ≤ length room) × (length (edge_text (edge (head_at c i) (own_at c i) (strike_at c i) vs) ++ 10 ∷ []) ≤ length (take (length room - at) (drop at room)))
  unfolding table_text
  next_room l e =
      let g = line_fits c start room₀ i at room p (header c.vertices m) old w f l in
      let q = ap length (tail_line c i e) in
      let z = lent-room (header c.vertices m ++ p.bytes) old at room stand (line_of c i) g in
      (within (header c.vertices m ++ p.bytes) old at room stand (line_of c i) g, omega arith)

-- The call ------------------------------------------------------------------------------------------------------------------------------------

-- the room is too short, and it is not
pub write_short : (text room : List ℕ) → length room < length text → write_outcome (Err TextRoom) room ≡ write_text text room
unfolding write_text
write_short text room h = rw (lt-leb (length text) (length room) h)

pub write_whole : (text room new : List ℕ) (n : ℕ) → length text ≤ length room → n ≡ length text → Written text room (length text) new → write_outcome (Ok n) new ≡ write_text text room
unfolding write_text
write_whole text room new n h e w = rw (le-leb (length text) (length room) h) (ap₂ (λ (a : ℕ) (b : List ℕ). write_outcome (Ok a) b) e w.room_is)

-- by what the check of the table says
pub write_refused : (m : Measure) (c : Columns) (room : List ℕ) (r : Refusal) → acceptance c ≡ Err r → write_outcome (Err r) room ≡ write_table m c room
write_refused m c room r e = ap (λ (a : Acceptance). write_as a (render m c) room) (sym e)

pub write_accepted : (m : Measure) (c : Columns) (room : List ℕ) → acceptance c ≡ Ok tt → write_text (render m c) room ≡ write_table m c room
write_accepted m c room e = ap (λ (a : Acceptance). write_as a (render m c) room) (sym e)
