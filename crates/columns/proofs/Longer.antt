-- A table with a line more has the lines that it had and the new one behind them, and is accepted. Assumes nothing.
use mathlib.Core.Path.{◌≡◌, refl, sym, ◌∙◌, ap, subst}
use mathlib.Core.List.{List, [], ◌∷◌, ◌++◌}
use mathlib.Core.Logic.{◌⊎◌, ⊎_elim}
use Prim.Native.Nat.{ℕ, zero, suc, ◌+◌, ◌*◌, ◌-◌, ◌≤◌, ◌<◌}
use native.Mathlib.Nat.{eq-or-lt_of_le}
use native.Mathlib.Omega.{arith}
use lib.ListN.{length, get_or, take, drop, length-append, length-take, length-drop, get_or-append}
use lib.Seq.{get_or_at, get_or-append-add, get_or-take, get_or-drop, take_all, drop_at, length-take-le, ext_get_or}
use Rattle.columns.specs.Columns.{Columns, head_at, own_at, strike_at, offset_at, length_at, part, tail_at}
use Rattle.columns.specs.Acceptance.{most_edges, most_listed, acceptance}
use Rattle.columns.specs.Right.{end_before, RightEdge, RightTable}
use Rattle.columns.specs.Longer.{NewLine, end_in, end_of, longer, RightLine, OneMore}
use Rattle.columns.proofs.Exactly.{accepted_exactly}
use Rattle.std.specs.Prelude.{Ok}

-- where the span before a line ends, by the columns
pub end_before_lem : (c : Columns) (e : ℕ) → end_in c.spans e ≡ end_before c e
end_before_lem c zero = refl
end_before_lem c (suc e) = refl

-- spans ascend, and the last ends within the column
module _ (c : Columns) (t : RightTable c) where
  ends_ascend : (k e : ℕ) → e + k ≤ length c.heads → end_before c e ≤ end_before c (e + k)
  ends_ascend zero e h = let q : e + 0 ≡ e = omega arith in rw q (omega arith)
  ends_ascend (suc k) e h =
      let q : e + suc k ≡ suc (e + k) = omega arith in
      let s = (t.each (e + k) (omega arith)).span in
      rw q (omega (arith, ends_ascend k e (omega arith), s.from))

  pub span_before_end : (e : ℕ) → e < length c.heads → offset_at c e + length_at c e ≤ end_of c
  span_before_end e h =
      let k = length c.heads - suc e in
      let q : suc e + k ≡ length c.heads = omega arith in
      let a : end_before c (suc e) ≤ end_before c (suc e + k) = ends_ascend k (suc e) (omega arith) in
      let b : end_before c (suc e) ≤ end_before c (length c.heads) = rw q at a in
      omega (arith, end_before_lem c (length c.heads))

  end_within_at : (m : ℕ) → m ≤ length c.heads → end_in c.spans m ≤ length c.tails
  end_within_at zero h = omega arith
  end_within_at (suc e) h = (t.each e h).span.within

  pub end_within : end_of c ≤ length c.tails
  end_within = end_within_at (length c.heads) (omega arith)

-- a part of a column's start is the part of the column
part_start : (off size k : ℕ) (xs ys : List ℕ) → off + size ≤ k → k ≤ length xs → part off size (take k xs ++ ys) ≡ part off size xs
part_start off size k xs ys h l =
    let a = length-take size (drop off (take k xs ++ ys)) in
    let b = length-drop off (take k xs ++ ys) in
    let d = length-append (take k xs) ys in
    let t = length-take-le k xs l in
    let e = length-take size (drop off xs) in
    let f = length-drop off xs in
    ext_get_or 0 (part off size (take k xs ++ ys)) (part off size xs) (omega arith) (λ i q.
    let s : i < size = omega arith in
    get_or-take size (drop off (take k xs ++ ys)) i 0 s
    ∙ get_or-drop off (take k xs ++ ys) i 0
    ∙ get_or-append (take k xs) ys 0 (off + i) (omega arith)
    ∙ get_or-take k xs (off + i) 0 (omega arith)
    ∙ sym (get_or-take size (drop off xs) i 0 s ∙ get_or-drop off xs i 0))

module _ (c : Columns) (l : NewLine) (p : acceptance c ≡ Ok tt) where
  right : RightTable c
  right = (accepted_exactly c).0 p

  own_level : length c.own ≡ length c.heads
  own_level = right.level.own

  strikes_level : length c.strikes ≡ length c.heads
  strikes_level = right.level.strikes

  spans_level : length c.spans ≡ 2 * length c.heads
  spans_level = right.level.spans

  pub longer-count : length (longer c l).heads ≡ length c.heads + 1
  longer-count = length-append c.heads (l.head ∷ [])

  -- the lines that stood
  old_offset : (e : ℕ) → e < length c.heads → offset_at (longer c l) e ≡ offset_at c e
  old_offset e h = get_or-append c.spans (end_of c ∷ length l.tail ∷ []) 0 (2 * e) (omega (arith, spans_level))

  old_length : (e : ℕ) → e < length c.heads → length_at (longer c l) e ≡ length_at c e
  old_length e h = get_or-append c.spans (end_of c ∷ length l.tail ∷ []) 0 (2 * e + 1) (omega (arith, spans_level))

  old_head : (e : ℕ) → e < length c.heads → head_at (longer c l) e ≡ head_at c e
  old_head e h = get_or-append c.heads (l.head ∷ []) 0 e h

  old_own : (e : ℕ) → e < length c.heads → own_at (longer c l) e ≡ own_at c e
  old_own e h = get_or-append c.own (l.own ∷ []) 0 e (omega (arith, own_level))

  old_strike : (e : ℕ) → e < length c.heads → strike_at (longer c l) e ≡ strike_at c e
  old_strike e h = get_or-append c.strikes (l.mark ∷ []) 0 e (omega (arith, strikes_level))

  old_end : (e : ℕ) → e ≤ length c.heads → end_before (longer c l) e ≡ end_before c e
  old_end zero h = refl
  old_end (suc e) h = omega (arith, old_offset e h, old_length e h)

  old_tail : (e : ℕ) → e < length c.heads → tail_at (longer c l) e ≡ tail_at c e
  old_tail e h =
      ap (λ (k : ℕ). part k (length_at (longer c l) e) (longer c l).tails) (old_offset e h)
      ∙ ap (λ (k : ℕ). part (offset_at c e) k (longer c l).tails) (old_length e h)
      ∙ part_start (offset_at c e) (length_at c e) (end_of c) c.tails l.tail (span_before_end c right e h) (end_within c right)

  -- the line behind them
  new_offset : offset_at (longer c l) (length c.heads) ≡ end_of c
  new_offset = get_or_at c.spans (end_of c) (length l.tail ∷ []) 0 (2 * length c.heads) spans_level

  new_length : length_at (longer c l) (length c.heads) ≡ length l.tail
  new_length =
      ap (λ (k : ℕ). get_or (longer c l).spans (k + 1) 0) (sym spans_level)
      ∙ get_or-append-add c.spans (end_of c ∷ length l.tail ∷ []) 1 0

  new_head : head_at (longer c l) (length c.heads) ≡ l.head
  new_head = get_or_at c.heads l.head [] 0 (length c.heads) refl

  new_own : own_at (longer c l) (length c.heads) ≡ l.own
  new_own = get_or_at c.own l.own [] 0 (length c.heads) own_level

  new_mark : strike_at (longer c l) (length c.heads) ≡ l.mark
  new_mark = get_or_at c.strikes l.mark [] 0 (length c.heads) strikes_level

  start_length : length (take (end_of c) c.tails) ≡ end_of c
  start_length = length-take-le (end_of c) c.tails (end_within c right)

  new_tail : tail_at (longer c l) (length c.heads) ≡ l.tail
  new_tail =
      ap (λ (k : ℕ). part k (length_at (longer c l) (length c.heads)) (longer c l).tails) new_offset
      ∙ ap (λ (k : ℕ). part (end_of c) k (longer c l).tails) new_length
      ∙ ap (take (length l.tail)) (drop_at (take (end_of c) c.tails) l.tail (end_of c) start_length)
      ∙ take_all (length l.tail) l.tail (omega arith)

  pub longer_lines : OneMore c l (longer c l)
  longer_lines = record {
    vertices = refl;
    count = longer-count;
    heads = old_head;
    own = old_own;
    strikes = old_strike;
    tails = old_tail;
    new_head = new_head;
    new_own = new_own;
    new_mark = new_mark;
    new_tail = new_tail;
  }

  pub longer-listed : length (longer c l).tails ≡ end_of c + length l.tail
  longer-listed = omega (arith, length-append (take (end_of c) c.tails) l.tail, start_length)

  -- it is accepted
  module _ (g : RightLine c.vertices l) (edges : length c.heads + 1 ≤ most_edges) (listed : end_of c + length l.tail ≤ most_listed) where
    old_right : (e : ℕ) → e < length c.heads → RightEdge (longer c l) e
    old_right e h =
        let r = right.each e h in
        let s = r.span in
        let o = old_offset e h in
        let n = old_length e h in
        record {
          head = omega (arith, old_head e h, r.head);
          own = omega (arith, old_own e h, r.own);
          mark = omega (arith, old_strike e h, r.mark);
          span = record {
            from = omega (arith, old_end e (omega arith), s.from);
            short = omega (arith, s.short);
            within = omega (arith, span_before_end c right e h, longer-listed);
          };
          tail = λ k q.
              let i : k < length_at c e = omega arith in
              let b = span_before_end c right e h in
              let a : get_or (longer c l).tails (offset_at (longer c l) e + k) 0 ≡ get_or c.tails (offset_at c e + k) 0 =
              ap (λ (x : ℕ). get_or (longer c l).tails (x + k) 0) o
              ∙ get_or-append (take (end_of c) c.tails) l.tail 0 (offset_at c e + k) (omega (arith, start_length))
              ∙ get_or-take (end_of c) c.tails (offset_at c e + k) 0 (omega arith) in
              omega (arith, r.tail k i);
        }

    new_right : RightEdge (longer c l) (length c.heads)
    new_right =
        let o = new_offset in
        let n = new_length in
        record {
          head = omega (arith, new_head, g.head);
          own = omega (arith, new_own, g.own);
          mark = omega (arith, new_mark, g.mark);
          span = record {
            from = omega (arith, old_end (length c.heads) (omega arith), end_before_lem c (length c.heads));
            short = omega (arith, g.short);
            within = omega (arith, longer-listed);
          };
          tail = λ k q.
              let i : k < length l.tail = omega arith in
              let a : get_or (longer c l).tails (offset_at (longer c l) (length c.heads) + k) 0 ≡ get_or l.tail k 0 =
              ap (λ (x : ℕ). get_or (longer c l).tails (x + k) 0) (o ∙ sym start_length)
              ∙ get_or-append-add (take (end_of c) c.tails) l.tail k 0 in
              omega (arith, g.listed k i);
        }

    pub longer_accepted : acceptance (longer c l) ≡ Ok tt
    longer_accepted = (accepted_exactly (longer c l)).1 (record {
      few = right.few;
      level = record {
        own = omega (arith, length-append c.own (l.own ∷ []), longer-count, own_level);
        strikes = omega (arith, length-append c.strikes (l.mark ∷ []), longer-count, strikes_level);
        edges = omega (arith, longer-count);
        spans = omega (arith, length-append c.spans (end_of c ∷ length l.tail ∷ []), longer-count, spans_level);
        tails = omega (arith, longer-listed);
      };
      each = λ e h. ⊎_elim
          (λ q. subst (RightEdge (longer c l)) (sym q) new_right)
          (λ q. old_right e q)
          (eq_or_below e (omega (arith, longer-count)));
    })
      where
        eq_or_below : (e : ℕ) → e ≤ length c.heads → (e ≡ length c.heads) ⊎ (e < length c.heads)
        eq_or_below e h = eq-or-lt_of_le h
