-- The laws by which one hyperedge goes on: where its tail stands, and what it offers at the end of it. Assumes nothing.
use Prim.Native.Nat.{ℕ, ◌+◌, ◌-◌, ◌≤◌, ◌<◌, max}
use mathlib.Core.Path.{◌≡◌, refl, sym, ◌∙◌, ap, subst}
use mathlib.Core.Logic.{◌≢◌}
use mathlib.Core.Bool.{Bool, true, false}
use mathlib.Core.List.{List}
use native.Mathlib.Omega.{arith}
use lib.ListN.{length, take, drop, length-take, length-drop}
use lib.Seq.{get_or-take, get_or-drop}
use lib.Dec.{leb}
use borrow.Author.Tests.{eq-eqb, leb-true}
use Rattle.weights.proofs.Lists.{member_at}
use Rattle.weights.specs.declared.Measure.{Measure}
use Rattle.weights.specs.declared.Label.{Label}
use Rattle.weights.specs.Choice.{pick}
use Rattle.weights.specs.Figures.{greatest, is_struck_mark}
use Rattle.weights.specs.Labels.{label}
use Rattle.weights.specs.Measures.{Algebra, algebra, fold}
use Rattle.provenance.specs.Hypergraph.{Hypergraph}
use Rattle.provenance.specs.Labelling.{each, greatest_depth, none_zero}
use Rattle.provenance.specs.BestFirst.{opening}
use Rattle.columns.specs.Columns.{Columns, head_at, own_at, strike_at, offset_at, length_at, tail_at, cell}
use Rattle.tables.specs.Table.{hypergraph}
use Rattle.columns.proofs.Accepted.{table_accepted, below_at}
use Rattle.columns.proofs.Usable.{edge_in}
use Rattle.offers.specs.Passing.{rest, Passable, Carried}
use Rattle.offers.proofs.Laws.{rest_whole}
use Rattle.offers.proofs.Passing as offers
use Rattle.minima.specs.Minima.{PowerOfFour, four, times}
use Rattle.queue.specs.Keys.{Fits, Fitting, nothing, found}
use Rattle.queue.specs.Queue.{offered}
use Rattle.queue.proofs.Laws.{open_fits, open_unmade, open_made}
use Rattle.waiting.specs.Lines.{Lines, Room, small, middle, large, holds, room_for, room_of, pushed, Gone, stays, waits, Waiting, Went, Arriving, Offerable, Going, Linkable, Pushable}
use Rattle.weights.specs.Offers.{Offer}
use Rattle.std.specs.Prelude.{Some, None}

-- which room a table is given
pub room_small : (n k : ℕ) → holds small n k ≡ true → room_for n k ≡ small
unfolding room_for
room_small n k p = rw p

pub room-middle : (n k : ℕ) → holds small n k ≡ false → holds middle n k ≡ true → room_for n k ≡ middle
unfolding room_for
room-middle n k p q = rw (p, q)

pub room-large : (n k : ℕ) → holds small n k ≡ false → holds middle n k ≡ false → room_for n k ≡ large
unfolding room_for
room-large n k p q = rw (p, q)

pub room_power : (n k : ℕ) → PowerOfFour (room_for n k).vertices
unfolding room_for
room_power n k = go (holds small n k) (holds middle n k)
  where
    go : (b d : Bool) → PowerOfFour (pick b small (pick d middle large)).vertices
    go true d = times (times four)
    go false true = times (times (times four))
    go false false = times (times (times (times four)))

-- the room holds the table
pub record Enough (n k : ℕ) (r : Room) : Type 0 where
  pub vertices : n ≤ r.vertices
  pub edges : k ≤ r.edges

holds_enough : (r : Room) (n k : ℕ) → holds r n k ≡ true → Enough n k r
holds_enough r n k p = go (leb n r.vertices) refl p
  where
    go : (b : Bool) → leb n r.vertices ≡ b → pick b (leb k r.edges) false ≡ true → Enough n k r
    go true q p = record { vertices = leb-true n r.vertices q; edges = leb-true k r.edges p }
    go false q p = absurd (let z : ◌≡◌ {A = ℕ} 0 1 = cc in omega arith)

room_enough : (n k : ℕ) → n ≤ 1024 → k ≤ 4096 → Enough n k (room_for n k)
unfolding room_for
room_enough n k h i = go (holds small n k) refl (holds middle n k) refl
  where
    go : (b : Bool) → holds small n k ≡ b → (d : Bool) → holds middle n k ≡ d → Enough n k (pick b small (pick d middle large))
    go true p d q = holds_enough small n k p
    go false p true q = holds_enough middle n k q
    go false p false q = record { vertices = h; edges = i }

pub vertices_few : {c : Columns} {ws ds q : List ℕ} → Offerable c ws ds q → length ds ≤ 1024
vertices_few {c} r = omega (arith, r.usable.vertices, (table_accepted c r.usable.accepted).few)

pub enough : {c : Columns} {ws ds q : List ℕ} → Offerable c ws ds q → Enough c.vertices (length c.heads) (room_of c)
enough {c} r = room_enough c.vertices (length c.heads) (table_accepted c r.usable.accepted).few (table_accepted c r.usable.accepted).edges

-- a hyperedge of a usable table: its tail, its head, and what it offers
module _ {c : Columns} {ws ds q : List ℕ} (r : Offerable c ws ds q) (e : ℕ) (h : e < length c.heads) where
  pub edge_few : e < 4096
  edge_few = omega (arith, (table_accepted c r.usable.accepted).edges)

  pub edge-room : e < (room_of c).edges
  edge-room = omega (arith, (enough r).edges)

  pub head_below : head_at c e < c.vertices
  head_below = ((table_accepted c r.usable.accepted).each e h).1.head

  pub head_key : head_at c e < (room_of c).vertices
  head_key = omega (arith, (enough r).vertices, head_below)

  pub own_low : own_at c e ≤ greatest
  own_low = ((table_accepted c r.usable.accepted).each e h).1.own

  pub within : offset_at c e + length_at c e ≤ length c.tails
  within = ((table_accepted c r.usable.accepted).each e h).1.within

  pub tails_few : length c.tails ≤ 16384
  tails_few = (table_accepted c r.usable.accepted).tails

  pub short : length_at c e ≤ 16
  short = ((table_accepted c r.usable.accepted).each e h).1.short

  pub tail_length : length (tail_at c e) ≡ length_at c e
  tail_length = omega (arith, within, length-take (length_at c e) (drop (offset_at c e) c.tails), length-drop (offset_at c e) c.tails)

  pub tail_at_lem : (k : ℕ) → k < length_at c e → cell (tail_at c e) k ≡ cell c.tails (offset_at c e + k)
  tail_at_lem k l = get_or-take (length_at c e) (drop (offset_at c e) c.tails) k 0 l ∙ get_or-drop (offset_at c e) c.tails k 0

  pub tail_below : (k : ℕ) → k < length (tail_at c e) → cell (tail_at c e) k < c.vertices
  tail_below k l = below_at _ _ ((table_accepted c r.usable.accepted).each e h).1.listed k l

  pub passable : Passable (tail_at c e) ws ds
  passable = offers.passable (edge_in r.usable e h) r.fitted.weight

  pub edge_fits_lem : (m : Measure) → Fitting (opening (algebra m) (hypergraph c) (cell c.own) (cell ws) (cell ds) e)
  edge_fits_lem m = open_fits m (hypergraph c) (cell c.own) (cell ws) (cell ds) e r.fitted edge_few

pub found_fits : {l : Label} {o : Offer} → Fitting o → Some l ≡ o → Fits l
found_fits nothing p = absurd (let z : ◌≡◌ {A = ℕ} 0 1 = cc in omega arith)
found_fits {l} (found {l = k} f) p = let e : k ≡ l = cc in subst Fits e f

-- a part of a column that is lent is as long as the span says
pub span_length : (off len : ℕ) → off + len - off ≡ len
span_length off len = omega arith

module _ (A : Algebra) (c : Columns) (w d : ℕ → ℕ) (e : ℕ) where
  abbrev H : Hypergraph
  H = hypergraph c

  abbrev here : Offer
  here = opening A H (cell c.own) w d e

  module _ {i j g : ℕ} (p : Carried A w d (tail_at c e) i j g) (l : length (tail_at c e) ≤ i) where
    at_end : Some (label (A.finish (own_at c e) j) (g + 1) e) ≡ rest A e (own_at c e) w d A.unit 0 (tail_at c e)
    at_end = offers.carried_end p e (own_at c e) l

    -- past the end of the tail every vertex of it is made
    pub all_made : none_zero d (tail_at c e) ≡ true
    unfolding rest
    all_made = go (none_zero d (tail_at c e)) (Some (label (A.finish (own_at c e) (fold A.join A.unit (each w (tail_at c e)))) (max 0 (greatest_depth d (tail_at c e)) + 1) e)) at_end
      where
        go : (b : Bool) (m : Offer) {l : Label} → Some l ≡ pick b m None → b ≡ true
        go true m z = refl
        go false m z = absurd (let y : ◌≡◌ {A = ℕ} 0 1 = cc in omega arith)

    pub end_open : is_struck_mark (strike_at c e) ≡ false → d (head_at c e) ≡ 0 → Some (label (A.finish (own_at c e) j) (g + 1) e) ≡ here
    unfolding opening
    end_open u f = at_end ∙ rest_whole A e (own_at c e) (strike_at c e) w d (tail_at c e) u ∙ rw (eq-eqb _ _ f)

module _ (m : Measure) (c : Columns) (w d : ℕ → ℕ) (e : ℕ) where
  abbrev offer : Offer
  offer = opening (algebra m) (hypergraph c) (cell c.own) w d e

  -- at a vertex that is unmade nothing is offered
  pub heard-nothing : (q : List ℕ) (i : ℕ) → i < length (tail_at c e) → d (cell (tail_at c e) i) ≡ 0 → q ≡ offered m q (head_at c e) offer
  heard-nothing q i l z = ap (offered m q (head_at c e)) (sym (open_unmade (algebra m) (hypergraph c) (cell c.own) w d (cell (tail_at c e) i) e z (member_at (tail_at c e) i l)))

  pub heard_made : (q : List ℕ) → d (head_at c e) ≢ 0 → q ≡ offered m q (head_at c e) offer
  heard_made q n = ap (offered m q (head_at c e)) (sym (open_made (algebra m) (hypergraph c) (cell c.own) w d e n))

  pub went_on : {s s' : Lines} (q : List ℕ) (v i j g : ℕ) → Gone (algebra m) w d (tail_at c e) i j g → i < length (tail_at c e) → cell (tail_at c e) i ≡ v
      → s' ≡ pushed s v e i j g → Went m c w d e s s' q q
  went_on {s} q v i j g p l y x = record {
    moved = waits i j g l (p.stopped l) p.passed (x ∙ ap (λ (z : ℕ). pushed s z e i j g) (sym y));
    heard = heard-nothing q i l (p.stopped l);
  }

  pub went_out : (s : Lines) {q q' : List ℕ} (i j g : ℕ) → Gone (algebra m) w d (tail_at c e) i j g → length (tail_at c e) ≤ i → q' ≡ offered m q (head_at c e) offer → Went m c w d e s s q q'
  went_out s i j g p l x = record { moved = stays refl (λ _. all_made (algebra m) c w d e p.passed l); heard = x }

-- there is room for a hyperedge that waits
pub pushable : {m : Measure} {c : Columns} {ws ds q : List ℕ} {s : Lines} {e a b k : ℕ} → Offerable c ws ds q → Going m c ws ds s e a b k
    → (v i j g : ℕ) → Gone (algebra m) (cell ws) (cell ds) (tail_at c e) i j g → i < length (tail_at c e) → cell (tail_at c e) i ≡ v → Pushable s v e i g
pushable {e = e} r y v i j g p l x = record {
  sizes = y.sizes;
  room = _;
  vertex = omega (arith, (enough r).vertices, tail_below r e y.numbered i l);
  edge = edge-room r e y.numbered;
  small = omega (arith, edge_few r e y.numbered);
  place = omega (arith, tail_length r e y.numbered, short r e y.numbered);
  depth = omega (arith, p.passed.shallow);
}

pub linkable : {s : Lines} {v e i g : ℕ} → Pushable s v e i g → Linkable s.first s.next v e
linkable p = record { vertex = omega (arith, p.sizes.first, p.vertex); edge = omega (arith, p.sizes.next, p.edge); small = p.small }

-- a hyperedge past the end of its tail can be offered, and then has gone on
module _ {m : Measure} {c : Columns} {ws ds q : List ℕ} {s : Lines} {e a b k : ℕ} (r : Offerable c ws ds q) (y : Going m c ws ds s e a b k)
    {i j g : ℕ} (p : Gone (algebra m) (cell ws) (cell ds) (tail_at c e) i j g) (l : length (tail_at c e) ≤ i) where
  is_open : Some (label ((algebra m).finish (own_at c e) j) (g + 1) e) ≡ opening (algebra m) (hypergraph c) (cell c.own) (cell ws) (cell ds) e
  is_open = end_open (algebra m) c (cell ws) (cell ds) e p.passed l y.unstruck y.fresh

  pub arriving : Arriving m c.heads c.own q e j g
  arriving = record {
    figure = (edge_in r.usable e y.numbered).own;
    sum = omega (arith, own_low r e y.numbered, p.passed.light, p.passed.inside, offers.unit_light m, tail_length r e y.numbered, short r e y.numbered);
    queueable = record {
      head = y.numbered;
      fits = found_fits (edge_fits_lem r e y.numbered m) is_open;
      grouped = r.grouped;
      key = omega (arith, r.sized, head_key r e y.numbered);
    };
  }

  pub arrived : {q' : List ℕ} → q' ≡ offered m q (head_at c e) (Some (label ((algebra m).finish (own_at c e) j) (g + 1) e)) → Went m c (cell ws) (cell ds) e s s q q'
  arrived x = went_out m c (cell ws) (cell ds) e s i j g p l (x ∙ ap (offered m q (head_at c e)) is_open)

-- what stands in the queue changes, and the rest of what is asked stays
pub queue_on : {m : Measure} {c : Columns} {w d : ℕ → ℕ} {ws ds q q' : List ℕ} {s : Lines} {busy : ℕ → Type 0} → Offerable c ws ds q → Waiting m c w d s q' busy → Offerable c ws ds q'
queue_on r W = record { usable = r.usable; fitted = r.fitted; grouped = W.grouped; sized = W.sized }

-- the tail of a hyperedge is lent from where it begins up to where it ends, and was passed to place i
module _ {m : Measure} {c : Columns} {ws ds q : List ℕ} {s : Lines} {e a b k : ℕ} (r : Offerable c ws ds q) (y : Going m c ws ds s e a b k) {i j g : ℕ}
    (p : Gone (algebra m) (cell ws) (cell ds) (take (offset_at c e + length_at c e - offset_at c e) (drop (offset_at c e) c.tails)) i j g) where
  passed_so : Gone (algebra m) (cell ws) (cell ds) (tail_at c e) i j g
  passed_so = rw span_length at p

  -- within it is a vertex to wait for
  module _ (l : i < length_at c e) where
    further : i < length (tail_at c e)
    further = omega (arith, tail_length r e y.numbered)

    pub waits-there : Pushable s (cell c.tails (offset_at c e + i)) e i g
    waits-there = pushable r y _ i j g passed_so further (tail_at_lem r e y.numbered i l)

    pub went_there : {s' : Lines} → s' ≡ pushed s (cell c.tails (offset_at c e + i)) e i j g → Went m c (cell ws) (cell ds) e s s' q q
    went_there = went_on m c (cell ws) (cell ds) e q _ i j g passed_so further (tail_at_lem r e y.numbered i l)

  -- past its end the hyperedge is offered
  module _ (l : length_at c e ≤ i) where
    finished : length (tail_at c e) ≤ i
    finished = omega (arith, tail_length r e y.numbered)

    pub offers-end : Arriving m c.heads c.own q e j g
    offers-end = arriving r y passed_so finished

    pub went_past : {q' : List ℕ} → q' ≡ offered m q (head_at c e) (Some (label ((algebra m).finish (own_at c e) j) (g + 1) e)) → Went m c (cell ws) (cell ds) e s s q q'
    went_past = arrived r y passed_so finished
