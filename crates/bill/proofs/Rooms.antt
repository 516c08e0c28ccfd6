-- The laws by which a room is filled: nothing is written yet, the root is, or the next bill of a tail follows: one line, or the part behind what is written is lent for
-- it, or the bill before it is copied. Assumes nothing.
use mathlib.Core.Path.{◌≡◌, sym, ◌∙◌, ap, ap₂, subst}
use mathlib.Core.List.{List, [], ◌∷◌, ◌++◌, append_assoc, append-nil}
use Prim.Native.Nat.{ℕ, ◌+◌, ◌-◌, ◌*◌, ◌≤◌, ◌<◌}
use native.Mathlib.Numerals.{add-one}
use native.Mathlib.Omega.{arith}
use lib.ListN.{length, get_or, take, drop, set, length-set, length-append, length-take, length-drop, take-append-drop, drop_of_length-le}
use lib.Seq.{take_all, take_at, drop_at, drop-drop, set_split}
use borrow.Rule.Slice.PartMut.{put_mid}
use Rattle.columns.specs.Columns.{cell, tail_of}
use Rattle.columns.specs.Filled.{filled}
use Rattle.bill.specs.Walk.{vertex_bill, tail_bill, Grounded, VertexFits, TailFits, WrittenFrom, Repeatable, standing, Long, TailWritten}
use Rattle.bill.proofs.Walks.{Below, grounded, bought, each_at, bills_none, bills_next, bills-all, bills_within}

-- a room from a place on, as it is lent; and the room once that part has come back as ys
abbrev pub lent : List ℕ → ℕ → List ℕ
lent room from = take (length room - from) (drop from room)

abbrev pub returned : List ℕ → ℕ → List ℕ → List ℕ
returned room from ys = put_mid from (length room - from) room ys

lent_is : (room : List ℕ) (from : ℕ) → lent room from ≡ drop from room
lent_is room from = take_all (length room - from) (drop from room) (simp length-drop (omega arith))

returned_is : (room : List ℕ) (from : ℕ) (ys : List ℕ) → returned room from ys ≡ take from room ++ ys
returned_is room from ys =
    let e : drop (length room - from) (drop from room) ≡ [] = drop_of_length-le (drop from room) {i = length room - from} (simp length-drop (omega arith)) in
    ap (λ (zs : List ℕ). take from room ++ (ys ++ zs)) e ∙ ap (λ (zs : List ℕ). take from room ++ zs) (append-nil ys)

lent_length : (room : List ℕ) (from : ℕ) → from ≤ length room → from + length (lent room from) ≡ length room
lent_length room from h = simp (length-take, length-drop) (omega arith)

-- writing keeps a room's length
pub written_length : {from : ℕ} {new room : List ℕ} {to : ℕ} {left : List ℕ} → WrittenFrom from new room to left → from + length new ≤ length room → length left ≡ length room
unfolding filled
written_length {from} {new} {room} w h = rw w.content (simp (length-append, length-take, length-drop) (omega arith))

pub write_none : (from : ℕ) (new room : List ℕ) → new ≡ [] → WrittenFrom from new room from room
unfolding filled
write_none from new room e = record { reaches = rw e (omega arith); content = rw e (sym (take-append-drop from room)) }

-- the root
write_root : {e : ℕ} {es new room : List ℕ} {to : ℕ} {left : List ℕ} → new ≡ e ∷ es → 0 < length room → WrittenFrom 1 es (set room 0 e) to left → WrittenFrom 0 new room to left
unfolding filled
write_root {e} {es} {new} {room} {to} {left} q h w = go room h w
  where
    go : (r : List ℕ) → 0 < length r → WrittenFrom 1 es (set r 0 e) to left → WrittenFrom 0 new r to left
    go [] k w = absurd (omega arith)
    go (x ∷ xs) k w = record { reaches = rw q (omega (arith, w.reaches)); content = rw q w.content }

-- one line
pub write_line : (room : List ℕ) (at e : ℕ) → at < length room → WrittenFrom at (e ∷ []) room (at + 1) (set room at e)
unfolding filled
write_line room at e h = record {
  reaches = omega arith;
  content =
      let behind = ap (λ (n : ℕ). drop n room) (sym (add-one at)) ∙ sym (drop-drop 1 at room) in
      set_split room at e h ∙ ap (λ (zs : List ℕ). take at room ++ e ∷ zs) behind;
}

-- what stands before the place that a writing reached, and behind it
module _ {from : ℕ} {new room : List ℕ} {to : ℕ} {left : List ℕ} (h : from + length new ≤ length room) (w : WrittenFrom from new room to left) where
  parts : left ≡ (take from room ++ new) ++ drop (length new) (drop from room)
  unfolding filled
  parts = w.content ∙ sym (append_assoc (take from room) new (drop (length new) (drop from room)))

  reach : length (take from room ++ new) ≡ to
  reach = simp (length-append, length-take) (omega (arith, w.reaches))

  written_before : take to left ≡ take from room ++ new
  written_before = ap (take to) parts ∙ take_at (take from room ++ new) (drop (length new) (drop from room)) to reach

  written_behind : drop to left ≡ drop (length new) (drop from room)
  written_behind = ap (drop to) parts ∙ drop_at (take from room ++ new) (drop (length new) (drop from room)) to reach

-- one writing after another
pub write_on : {from to end : ℕ} {new next room now left : List ℕ} → from + length new ≤ length room → WrittenFrom from new room to now → WrittenFrom to next now end left
    → WrittenFrom from (new ++ next) room end left
unfolding filled
write_on {from} {to} {end} {new} {next} {room} {now} {left} h w v = record {
  reaches = simp length-append (omega (arith, v.reaches, w.reaches));
  content = v.content ∙ ap₂ ◌++◌ (written_before h w) (ap (filled next) (written_behind h w)) ∙ regroup;
}
  where
    regroup : (take from room ++ new) ++ filled next (drop (length new) (drop from room)) ≡ take from room ++ filled (new ++ next) (drop from room)
    regroup = rw (length-append new next, drop-drop (length next) (length new) (drop from room)) (simp append_assoc)

-- what is written into the part that is lent is written from its start on
write_lent : (room : List ℕ) (from : ℕ) {n : ℕ} {new ys : List ℕ} → WrittenFrom 0 new (lent room from) n ys → WrittenFrom from new room (from + n) (returned room from ys)
write_lent room from {n} {new} {ys} w = record {
  reaches = omega (arith, w.reaches);
  content = returned_is room from ys ∙ ap (λ (zs : List ℕ). take from room ++ zs) (w.content ∙ ap (filled new) (lent_is room from));
}

-- what `vertex_bill` goes by: the root is written, and the tail behind it
module _ {spans tails edges : List ℕ} {depth v : ℕ} {room : List ℕ} (f : VertexFits spans tails edges depth v room) {vs : List ℕ} (q : vs ≡ tail_of spans tails (get_or edges v 0)) where
  below : Below spans tails edges depth v
  below = grounded spans tails edges depth v f.grounded

  lines : vertex_bill spans tails edges depth v ≡ get_or edges v 0 ∷ tail_bill spans tails edges (depth - 1) vs
  lines = rw q below.lines

  pub root_fits : 0 < length room
  root_fits = omega (arith, f.fits, ap length lines)

  pub below_fits : TailFits spans tails edges (depth - 1) vs 1 (set room 0 (get_or edges v 0))
  below_fits = record { grounded = rw q below.below; fits = rw (length-set room 0 (get_or edges v 0)) (omega (arith, f.fits, ap length lines)) }

  module _ {to : ℕ} {left : List ℕ} (w : WrittenFrom 1 (tail_bill spans tails edges (depth - 1) vs) (set room 0 (get_or edges v 0)) to left) where
    pub vertex_written : WrittenFrom 0 (vertex_bill spans tails edges depth v) room to left
    vertex_written = write_root lines root_fits w

    pub vertex_kept : length left ≡ length room
    vertex_kept = written_length vertex_written (omega (arith, f.fits))

-- what `tail_bill` goes by: the bills of the parts up to a place are written, the next one goes behind them
module _ {spans tails edges : List ℕ} {depth : ℕ} {tail : List ℕ} {from : ℕ} {room : List ℕ} (f : TailFits spans tails edges depth tail from room) where
  pub none_written : (size : ℕ) → TailWritten spans tails edges depth tail from room 0 size from room
  none_written size = record { written = write_none from _ room (bills_none (vertex_bill spans tails edges depth) tail); last = λ h. absurd (omega arith) }

  -- the next part is grounded
  pub next-below : (i : ℕ) → i < length tail → Below spans tails edges depth (get_or tail i 0)
  next-below i h = grounded spans tails edges depth (get_or tail i 0) (each_at (Grounded spans tails edges depth) tail i h f.grounded)

  module _ {i size at : ℕ} {now : List ℕ} (w : TailWritten spans tails edges depth tail from room i size at now) where
    so_far_within : from + length (tail_bill spans tails edges depth (take i tail)) ≤ length room
    so_far_within = omega (arith, f.fits, bills_within (vertex_bill spans tails edges depth) tail i)

    pub room_kept : length now ≡ length room
    room_kept = written_length w.written so_far_within

    pub reached_within : at ≤ length now
    reached_within = omega (arith, w.written.reaches, so_far_within, room_kept)

    pub all_written : length tail ≤ i → WrittenFrom from (tail_bill spans tails edges depth tail) room at now
    all_written h = subst (λ (es : List ℕ). WrittenFrom from es room at now) (bills-all (vertex_bill spans tails edges depth) tail h) w.written

    module _ (h : i < length tail) where
      next_within : at + length (vertex_bill spans tails edges depth (get_or tail i 0)) ≤ length now
      next_within =
          let before = tail_bill spans tails edges depth (take i tail) in
          let one = vertex_bill spans tails edges depth (get_or tail i 0) in
          let long = ap length (bills_next (vertex_bill spans tails edges depth) tail h) ∙ length-append before one in
          omega (arith, f.fits, w.written.reaches, long, bills_within (vertex_bill spans tails edges depth) tail (i + 1), room_kept)

      -- its bill follows
      next_follows : {long to : ℕ} {left : List ℕ} → Long spans tails edges depth (get_or tail i 0) long → WrittenFrom at (vertex_bill spans tails edges depth (get_or tail i 0)) now to left
          → TailWritten spans tails edges depth tail from room (i + 1) long to left
      next_follows {long} {to} {left} l v =
          let more = write_on so_far_within w.written v in
          let e : i ≡ i + 1 - 1 = omega arith in
          record {
            written = subst (λ (es : List ℕ). WrittenFrom from es room to left) (sym (bills_next (vertex_bill spans tails edges depth) tail h)) more;
            last = λ _. subst (λ (j : ℕ). Long spans tails edges depth (get_or tail j 0) long) e l;
          }

      pub next_fits : VertexFits spans tails edges depth (get_or tail i 0) (lent now at)
      next_fits = record {
        grounded = each_at (Grounded spans tails edges depth) tail i h f.grounded;
        fits = omega (arith, next_within, lent_length now at reached_within);
      }

      -- its line has a place
      pub line_within : at < length now
      line_within = omega (arith, next_within, ap length (next-below i h).lines)

      -- and is all of its bill if it lists nothing
      pub line_written : let root = get_or edges (get_or tail i 0) 0 in
          cell spans (2 * root + 1) ≡ 0 → TailWritten spans tails edges depth tail from room (i + 1) size (at + 1) (set now at root)
      line_written z =
          let root = get_or edges (get_or tail i 0) 0 in
          let line = write_line now at root line_within in
          let one = sym (bought spans tails edges (next-below i h) z) in
          next_follows (λ k. absurd (k z)) (subst (λ (es : List ℕ). WrittenFrom at es now (at + 1) (set now at root)) one line)

      module _ {count : ℕ} {ys : List ℕ} (v : WrittenFrom 0 (vertex_bill spans tails edges depth (get_or tail i 0)) (lent now at) count ys) where
        pub next_reached : at + count ≤ length now
        next_reached = omega (arith, next_within, v.reaches)

        pub next_written : TailWritten spans tails edges depth tail from room (i + 1) count (at + count) (returned now at ys)
        next_written = next_follows (λ _. omega (arith, v.reaches)) (write_lent now at v)

      -- a part that is listed again: its bill stands right before the place that is reached
      module _ (p : 0 < i) (again : get_or tail (i - 1) 0 ≡ get_or tail i 0) (k : ¬ (cell spans (2 * get_or edges (get_or tail i 0) 0 + 1) ≡ 0)) where
        again-long : size ≡ length (vertex_bill spans tails edges depth (get_or tail i 0))
        again-long = subst (λ (v : ℕ). Long spans tails edges depth v size) again (w.last p) k

        again-last : tail_bill spans tails edges depth (take i tail) ≡ tail_bill spans tails edges depth (take (i - 1) tail) ++ vertex_bill spans tails edges depth (get_or tail i 0)
        again-last =
            let bill = vertex_bill spans tails edges depth in
            let e : i ≡ i - 1 + 1 = omega arith in
            ap (λ (j : ℕ). tail_bill spans tails edges depth (take j tail)) e ∙ bills_next bill tail {i = i - 1} (omega arith)
            ∙ ap (λ (v : ℕ). tail_bill spans tails edges depth (take (i - 1) tail) ++ bill v) again

        again_reaches : at ≡ from + length (tail_bill spans tails edges depth (take (i - 1) tail)) + size
        again_reaches =
            let one = vertex_bill spans tails edges depth (get_or tail i 0) in
            let long = ap length again-last ∙ length-append (tail_bill spans tails edges depth (take (i - 1) tail)) one in
            omega (arith, w.written.reaches, long, again-long)

        pub again_fits : Repeatable at size now
        again_fits = record { stand = omega (arith, again_reaches); fits = omega (arith, next_within, again-long) }

        again_stands : standing at size now ≡ vertex_bill spans tails edges depth (get_or tail i 0)
        again_stands =
            let one = vertex_bill spans tails edges depth (get_or tail i 0) in
            let before = tail_bill spans tails edges depth (take (i - 1) tail) in
            let kept = written_before so_far_within w.written ∙ ap (λ (es : List ℕ). take from room ++ es) again-last ∙ sym (append_assoc (take from room) before one) in
            ap (drop (at - size)) kept ∙ drop_at (take from room ++ before) one (at - size) (simp (length-append, length-take) (omega (arith, again_reaches, so_far_within)))

        pub again_written : {to : ℕ} {left : List ℕ} → WrittenFrom at (standing at size now) now to left → TailWritten spans tails edges depth tail from room (i + 1) size to left
        again_written {to} {left} v = next_follows (λ _. again-long) (subst (λ (es : List ℕ). WrittenFrom at es now to left) again_stands v)
