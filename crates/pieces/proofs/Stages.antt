-- Counting by depth: from one vertex of a depth to the next, and from one depth to the next. Assumes nothing.
use mathlib.Core.Path.{◌≡◌, sym, ◌∙◌, ap, subst}
use mathlib.Core.List.{List}
use mathlib.Core.Logic.{◌≢◌}
use Prim.Native.Nat.{ℕ, zero, suc, ◌+◌, ◌*◌, ◌≤◌, ◌<◌}
use native.Mathlib.Omega.{arith}
use native.Mathlib.Decide.{ℕ_discrete, dec_le}
use lib.ListN.{length, set, drop, length-set, length-take, get_or-eq_default}
use lib.Seq.{get_or-set_same, get_or-set_other}
use Rattle.provenance.specs.Pieces.{most_pieces, pieces_at, piece_local, AllUnder, empty, also}
use Rattle.provenance.proofs.Pieces.{pieces_local, local_under}
use Rattle.columns.specs.Columns.{cell, tail_of}
use Rattle.columns.specs.Acceptance.{most_vertices}
use Rattle.pieces.specs.Counting.{lists, choices, count_of, last_of, Low, Summable, Countable, Linked, Staged}
use Rattle.pieces.proofs.Links.{last-le, last_above, last_is}

-- a made vertex has its place
pub made_within : (depths : List ℕ) (v : ℕ) → 0 < cell depths v → v < length depths
made_within depths v h = go (dec_le (length depths) v)
  where
    go : Dec (length depths ≤ v) → v < length depths
    go (yes k) = absurd (omega (arith, get_or-eq_default depths 0 {n = v} k))
    go (no n) = omega arith

under_within : (depths : List ℕ) {k : ℕ} {vs : List ℕ} → AllUnder (cell depths) k vs → (i : ℕ) → i < length vs → cell vs i < length depths
under_within depths empty i h = absurd (omega arith)
under_within depths (also {v = v} a l rest) zero h = made_within depths v a
under_within depths (also a l rest) (suc i) h = under_within depths rest i (omega arith)

-- what the chosen line of a made vertex lists can be added up
pub tail_summable : {spans tails depths edges pieces : List ℕ} → Countable spans tails depths edges pieces → Low pieces → (v : ℕ) → 0 < cell depths v
    → Summable (tail_of spans tails (cell edges v)) pieces
tail_summable {spans} {tails} {depths} {edges} c l v a = record {
  each = λ i h. omega (arith, c.pieces_level, under_within depths (c.founded.under v a) i h);
  short = let e = cell edges v in omega (arith, (c.placed v a).short, length-take (cell spans (2 * e + 1)) (drop (cell spans (2 * e)) tails));
  low = l;
}

pub countable_still : {spans tails depths edges pieces pieces' : List ℕ} → Countable spans tails depths edges pieces → length pieces' ≡ length pieces → Countable spans tails depths edges pieces'
countable_still c e = record { few = c.few; edges_level = c.edges_level; pieces_level = e ∙ c.pieces_level; shallow = c.shallow; placed = c.placed; founded = c.founded }

module _ {depths : List ℕ} {count : ℕ → ℕ} {d : ℕ} {pieces : List ℕ} where
  -- a depth begins at its last vertex
  pub staged_from : Staged depths count d (length depths) pieces → Staged depths count d (last_of (cell depths) d (length depths)) pieces
  staged_from s = record {
    level = s.level;
    lower = s.lower;
    here = λ u h e l. absurd (omega (arith, last_above (cell depths) d (length depths) u h e));
    waiting = λ u h e l. s.waiting u h e h;
    deeper = s.deeper;
  }

  -- one vertex more, and on to the one before it of its depth
  pub staged_more : {v : ℕ} → Staged depths count d (suc v) pieces → v < length depths → cell depths v ≡ d → Staged depths count d (cell pieces v) (set pieces v (count v))
  staged_more {v} s h e = record {
    level = length-set pieces v (count v) ∙ s.level;
    lower = λ u k l. other u (λ z. omega (arith, ap (cell depths) z)) ∙ s.lower u k l;
    here = λ u k q l. here u k q l (ℕ_discrete u v) (dec_le u v);
    waiting = λ u k q l. other u (λ z. omega (arith, next, before)) ∙ s.waiting u k q (omega (arith, next, before));
    deeper = λ u k l. other u (λ z. omega (arith, ap (cell depths) z)) ∙ s.deeper u k l;
  }
    where
      next : cell pieces v ≡ last_of (cell depths) d v
      next = s.waiting v h e (omega arith)

      before : last_of (cell depths) d v ≤ v
      before = last-le (cell depths) d v

      other : (u : ℕ) → u ≢ v → cell (set pieces v (count v)) u ≡ cell pieces u
      other u n = get_or-set_other pieces v u (count v) 0 n

      here : (u : ℕ) → u < length depths → cell depths u ≡ d → cell pieces v ≤ u → Dec (u ≡ v) → Dec (u ≤ v) → cell (set pieces v (count v)) u ≡ count u
      here u k q l (yes z) _ = rw z (get_or-set_same pieces v (count v) 0 (omega (arith, s.level)))
      here u k q l (no n) (yes z) = absurd (omega (arith, next, last_above (cell depths) d v u (omega arith) q))
      here u k q l (no n) (no z) = other u n ∙ s.here u k q (omega arith)

  -- the next depth
  pub staged_next : Staged depths count d 0 pieces → Staged depths count (d + 1) (length depths) pieces
  staged_next s = record {
    level = s.level;
    lower = λ u h l. lower u h l (ℕ_discrete (cell depths u) d);
    here = λ u h e l. absurd (omega arith);
    waiting = λ u h e l. s.deeper u h (omega arith) ∙ ap (λ (k : ℕ). last_of (cell depths) k u) e;
    deeper = λ u h l. s.deeper u h (omega arith);
  }
    where
      lower : (u : ℕ) → u < length depths → cell depths u < d + 1 → Dec (cell depths u ≡ d) → cell pieces u ≡ count u
      lower u h l (yes e) = s.here u h e (omega arith)
      lower u h l (no n) = s.lower u h (omega arith)

-- what stands in the column is a count, or the place of a vertex: never above the greatest count
pub staged_low : {depths : List ℕ} {count : ℕ → ℕ} {d next : ℕ} {pieces : List ℕ} → length depths ≤ most_vertices → ((u : ℕ) → count u ≤ most_pieces)
    → Staged depths count d next pieces → Low pieces
staged_low {depths} {count} {d} {next} {pieces} few most s u = go (dec_le (length depths) u)
  where
    linked : (x : ℕ) → u < length depths → cell pieces u ≡ last_of (cell depths) x u → cell pieces u ≤ most_pieces
    linked x h e = omega (arith, e, few, last-le (cell depths) x u)

    placed : u < length depths → Dec (cell depths u ≡ d) → Dec (d ≤ cell depths u) → Dec (next ≤ u) → cell pieces u ≤ most_pieces
    placed h (yes e) _ (yes l) = omega (arith, s.here u h e l, most u)
    placed h (yes e) _ (no n) = linked d h (s.waiting u h e (omega arith))
    placed h (no n) (yes g) _ = linked (cell depths u) h (s.deeper u h (omega arith))
    placed h (no n) (no g) _ = omega (arith, s.lower u h (omega arith), most u)

    go : Dec (length depths ≤ u) → cell pieces u ≤ most_pieces
    go (yes h) = omega (arith, get_or-eq_default pieces 0 {n = u} (omega (arith, s.level)))
    go (no n) = placed (omega arith) (ℕ_discrete (cell depths u) d) (dec_le d (cell depths u)) (dec_le next u)

-- the first depth
pub staged_none : {depths last pieces : List ℕ} {layers : ℕ} (count : ℕ → ℕ) → Linked depths layers (length depths) last pieces → Staged depths count 0 (length depths) pieces
staged_none {depths} count l = record {
  level = l.pieces_level;
  lower = λ u h k. absurd (omega arith);
  here = λ u h e k. absurd (omega arith);
  waiting = λ u h e k. l.links u h ∙ ap (λ (x : ℕ). last_of (cell depths) x u) e;
  deeper = λ u h k. l.links u h;
}

-- what a vertex counts, once those of lower depth are counted, is its count
pub count_is : {spans tails depths edges pieces : List ℕ} {next : ℕ} (v : ℕ) → Countable spans tails depths edges pieces
    → Staged depths (count_of spans tails depths edges) (cell depths v) next pieces
    → piece_local (tail_of spans tails) (cell depths) (cell edges) (cell pieces) v ≡ count_of spans tails depths edges v
count_is {spans} {tails} {depths} {edges} {pieces} v c s =
    let H = lists spans tails in
    let ls = choices depths edges in
    local_under H ls c.founded (cell pieces) (pieces_at H ls) v (λ u a l. s.lower u (made_within depths u a) l)
    ∙ sym (pieces_local H ls c.founded v)

-- The walk along the vertices of one depth ---------------------------------------------------------------------------------------------------------

-- `next` is a vertex of depth d, and 1 more, or 0
pub record Walked (depths : List ℕ) (count : ℕ → ℕ) (d next : ℕ) (pieces : List ℕ) : Type 0 where
  pub staged : Staged depths count d next pieces
  pub vertex : (v : ℕ) → next ≡ suc v → (v < length depths) × (cell depths v ≡ d)

module _ {depths : List ℕ} {count : ℕ → ℕ} {d : ℕ} {pieces : List ℕ} where
  pub walked_from : {next : ℕ} → next ≡ last_of (cell depths) d (length depths) → Staged depths count d (length depths) pieces → Walked depths count d next pieces
  walked_from e s = record {
    staged = subst (λ (z : ℕ). Staged depths count d z pieces) (sym e) (staged_from s);
    vertex = λ v q. (omega (arith, last-le (cell depths) d (length depths)), last_is (cell depths) d (length depths) v (sym e ∙ q));
  }

  module _ {next v : ℕ} (w : Walked depths count d next pieces) (e : next ≡ suc v) where
    at_v : Staged depths count d (suc v) pieces
    at_v = subst (λ (z : ℕ). Staged depths count d z pieces) e w.staged

    before_v : cell pieces v ≡ last_of (cell depths) d v
    before_v = at_v.waiting v (w.vertex v e).0 (w.vertex v e).1 (omega arith)

    pub walked_less : cell pieces v ≤ v
    walked_less = omega (arith, before_v, last-le (cell depths) d v)

    pub walked_more : {x : ℕ} → x ≡ count v → Walked depths count d (cell pieces v) (set pieces v x)
    walked_more q = record {
      staged = subst (λ (z : ℕ). Staged depths count d (cell pieces v) (set pieces v z)) (sym q) (staged_more at_v (w.vertex v e).0 (w.vertex v e).1);
      vertex = λ u z. (omega (arith, walked_less, (w.vertex v e).0), last_is (cell depths) d v u (sym before_v ∙ z));
    }

  pub walked_end : {next : ℕ} → Walked depths count d next pieces → next ≡ 0 → Staged depths count d 0 pieces
  walked_end w e = subst (λ (z : ℕ). Staged depths count d z pieces) e w.staged
