-- The lists of the lines of each head that are not struck: they are linked from the last line down, and going along one finds the lines of its head in their order. Assumes nothing.
use mathlib.Core.Path.{◌≡◌, refl, sym, ◌∙◌, ap, subst}
use mathlib.Core.Logic.{◌≢◌}
use mathlib.Core.Bool.{Bool, true, false, not, true≢false}
use mathlib.Core.List.{List}
use Prim.Native.Nat.{ℕ, zero, suc, ◌+◌, ◌-◌, ◌≤◌, ◌<◌, min}
use native.Mathlib.Numerals.{add-one}
use native.Mathlib.Omega.{arith}
use native.Mathlib.Decide.{ℕ_discrete}
use lib.ListN.{length, set, length-set}
use lib.Seq.{get_or-set_same, get_or-set_other}
use lib.Dec.{eqb}
use borrow.Author.Tests.{eq-eqb, ne_eqb}
use Rattle.weights.specs.declared.Measure.{Measure}
use Rattle.weights.specs.Choice.{pick}
use Rattle.weights.specs.Figures.{is_struck_mark}
use Rattle.weights.specs.Measures.{algebra}
use Rattle.provenance.specs.Hypergraph.{Hypergraph}
use Rattle.provenance.specs.Labelling.{offer_of}
use Rattle.provenance.specs.BestFirst.{earlier, offer}
use Rattle.provenance.specs.InOrder.{offer_to, first}
use Rattle.columns.specs.Columns.{Columns, tail_at, cell}
use Rattle.columns.specs.Acceptance.{most_vertices, most_edges}
use Rattle.tables.specs.Table.{hypergraph}
use Rattle.minima.specs.Minima.{none as no_key}
use Rattle.queue.specs.Keys.{Fitting, nothing, key_of}
use Rattle.offers.proofs.Laws.{struck_nothing}
use Rattle.queue.proofs.Packing.{key_earlier, fitting_earlier}
use Rattle.topological.specs.Walking.{end, Yields, Least, line, none, Linked, Linkable}
use Rattle.weights.specs.Offers.{Offer}
use Rattle.std.specs.Prelude.{None}

-- what holds from k + 1 on and at k
from : (P : ℕ → Type 0) (k e : ℕ) → (k + 1 ≤ e → P e) → P k → k ≤ e → P e
from P k e f p h = go (ℕ_discrete e k)
  where
    go : Dec (e ≡ k) → P e
    go (yes q) = subst P (sym q) p
    go (no n) = f (omega arith)

-- a line of another head, or a struck one, changes nothing
widen : {hs ms : List ℕ} {v k x : ℕ} → ¬ Yields hs ms v k → Least hs ms v (k + 1) x → Least hs ms v k x
widen {hs} {ms} {v} {k} n (line x a b q f) = line x (omega arith) b q (λ e h l. from (λ (y : ℕ). ¬ Yields hs ms v y) k e (λ i. f e i l) n h)
widen {hs} {ms} {v} {k} n (none f) = none (λ e h l. from (λ (y : ℕ). ¬ Yields hs ms v y) k e (λ i. f e i l) n h)

pub linked_none : {hs ms fs ns : List ℕ} → Linkable hs ms fs ns → Linked hs ms fs ns (length hs)
linked_none {hs} {ms} l = record {
  wide = l.wide;
  long = l.long;
  firsts = λ v h. subst (Least hs ms v (length hs)) (sym (l.empty v h)) (none (λ e i j. absurd (omega arith)));
  nexts = λ e h i s. absurd (omega arith);
}

-- the lines from k on are those after line k - 1
pub linked_after : {hs ms fs ns : List ℕ} {k : ℕ} → Linked hs ms fs ns k → 0 < k → Linked hs ms fs ns (k - 1 + 1)
linked_after {hs} {ms} {fs} {ns} {k} l h =
    let up : k ≡ k - 1 + 1 = omega arith in
    subst (Linked hs ms fs ns) up l

module _ {hs ms fs ns : List ℕ} (e : ℕ) (l : Linked hs ms fs ns (e + 1)) (h : e < length hs) where
  -- a struck line more
  pub linked-struck : is_struck_mark (cell ms e) ≡ true → Linked hs ms fs ns e
  linked-struck q = record {
    wide = l.wide;
    long = l.long;
    firsts = λ u k. widen {v = u} (λ y. true≢false (sym q ∙ y.stands)) (l.firsts u k);
    nexts = λ x a b s. next_on x a b s (ℕ_discrete x e);
  }
    where
      next_on : (x : ℕ) → e ≤ x → x < length hs → is_struck_mark (cell ms x) ≡ false → Dec (x ≡ e) → Least hs ms (cell hs x) (x + 1) (cell ns x)
      next_on x a b s (yes p) = absurd (true≢false (sym q ∙ ap (λ (y : ℕ). is_struck_mark (cell ms y)) (sym p) ∙ s))
      next_on x a b s (no n) = l.nexts x (omega arith) b s

  -- a line more that is not struck
  module _ (i : cell hs e < most_vertices) (stands : is_struck_mark (cell ms e) ≡ false) where
    abbrev v : ℕ
    v = cell hs e

    here : Least hs ms v e e
    here = line e (omega arith) h (record { head = refl; stands = stands }) (λ x a b. absurd (omega arith))

    first_on : (u : ℕ) → u < most_vertices → Least hs ms u e (cell (set fs v e) u)
    first_on u k = go (ℕ_discrete u v)
      where
        go : Dec (u ≡ v) → Least hs ms u e (cell (set fs v e) u)
        go (yes q) =
            let s : cell (set fs v e) v ≡ e = get_or-set_same fs v e 0 (omega (arith, l.wide)) in
            subst (λ (y : ℕ). Least hs ms y e (cell (set fs v e) y)) (sym q) (subst (Least hs ms v e) (sym s) here)
        go (no n) = subst (Least hs ms u e) (sym (get_or-set_other fs v u e 0 n)) (widen (λ y. n (sym y.head)) (l.firsts u k))

    next_on : (x : ℕ) → e ≤ x → x < length hs → is_struck_mark (cell ms x) ≡ false → Least hs ms (cell hs x) (x + 1) (cell (set ns e (cell fs v)) x)
    next_on x a b t = go (ℕ_discrete x e)
      where
        go : Dec (x ≡ e) → Least hs ms (cell hs x) (x + 1) (cell (set ns e (cell fs v)) x)
        go (yes q) =
            let s : cell (set ns e (cell fs v)) e ≡ cell fs v = get_or-set_same ns e (cell fs v) 0 (omega (arith, l.long)) in
            subst (λ (y : ℕ). Least hs ms (cell hs y) (y + 1) (cell (set ns e (cell fs v)) y)) (sym q) (subst (Least hs ms v (e + 1)) (sym s) (l.firsts v i))
        go (no n) = subst (Least hs ms (cell hs x) (x + 1)) (sym (get_or-set_other ns e x (cell fs v) 0 n)) (l.nexts x (omega arith) b t)

    pub linked_more : Linked hs ms (set fs v e) (set ns e (cell fs v)) e
    linked_more = record {
      wide = length-set fs v e ∙ l.wide;
      long = omega (arith, l.long, length-set ns e (cell fs v));
      firsts = first_on;
      nexts = next_on;
    }

-- Along a list

module _ (m : Measure) (c : Columns) (w d : ℕ → ℕ) (v : ℕ) where
  abbrev H : Hypergraph
  H = hypergraph c

  abbrev offer' : ℕ → Offer
  offer' = offer (algebra m) H (cell c.own) w d

  abbrev pub best : ℕ → Offer
  best = first (algebra m) H (cell c.own) w d v

  -- what line e offers if it is not struck
  abbrev standing : ℕ → Offer
  standing e = offer_of (algebra m) true (cell c.own e) (tail_at c e) w d e

  -- a line of another head, or a struck one, offers v nothing
  idle : (e : ℕ) → ¬ Yields c.heads c.strikes v e → offer_to (algebra m) H (cell c.own) w d v e ≡ None
  unfolding offer_to
  idle e n = go (ℕ_discrete (cell c.heads e) v)
    where
      struck : (b : Bool) → is_struck_mark (cell c.strikes e) ≡ b → cell c.heads e ≡ v → offer' e ≡ None
      struck true p q = sym (struck_nothing (algebra m) e (cell c.own e) (cell c.strikes e) w d (tail_at c e) p)
      struck false p q = absurd (n (record { head = q; stands = p }))

      go : Dec (cell c.heads e ≡ v) → pick (eqb (cell c.heads e) v) (offer' e) None ≡ None
      go (yes q) = rw (eq-eqb _ _ q) (struck (is_struck_mark (cell c.strikes e)) refl q)
      go (no k) = rw (ne_eqb _ _ k) refl

  skip : (k x : ℕ) → k ≤ x → ((e : ℕ) → k ≤ e → e < x → ¬ Yields c.heads c.strikes v e) → best x ≡ best k
  unfolding first
  skip k zero h f = let q : k ≡ 0 = omega arith in rw q
  skip k (suc x) h f = go (ℕ_discrete k (suc x)) (λ i. skip k x i (λ e a b. f e a (omega arith)))
    where
      go : Dec (k ≡ suc x) → (k ≤ x → best x ≡ best k) → best (suc x) ≡ best k
      go (yes q) g = ap best (sym q)
      go (no n) g = ap (earlier (algebra m) (best x)) (idle x (f x (omega arith) (omega arith))) ∙ g (omega arith)

  -- the list is walked up to l: of what the lines before offer, the first has this key
  pub record Along (l key : ℕ) : Type 0 where
    pub place : ℕ
    pub within : place ≤ length c.heads
    pub least : Least c.heads c.strikes v place l
    pub so_far : key ≡ key_of m (best place)

  -- l is a line of v, and none before it is left
  record At (k l : ℕ) : Type 0 where
    from_k : k ≤ l
    numbered : l < length c.heads
    yields : Yields c.heads c.strikes v l
    others : (e : ℕ) → k ≤ e → e < l → ¬ Yields c.heads c.strikes v e

  at_line : {k l : ℕ} → Least c.heads c.strikes v k l → l ≢ end → At k l
  at_line (line x a b q f) n = record { from_k = a; numbered = b; yields = q; others = f }
  at_line (none f) n = absurd (n refl)

  at_end : {k l : ℕ} → length c.heads ≤ most_edges → Least c.heads c.strikes v k l → l ≡ end → (e : ℕ) → k ≤ e → e < length c.heads → ¬ Yields c.heads c.strikes v e
  at_end h (line x a b q f) p = absurd (omega arith)
  at_end h (none f) p = f

  -- what every line offers has room in a key
  module _ (fits : (e : ℕ) → e < length c.heads → Fitting (offer' e)) where
    -- so has the first of it
    pub fitting_best : (k : ℕ) → k ≤ length c.heads → Fitting (best k)
    unfolding first offer_to
    fitting_best zero h = nothing
    fitting_best (suc k) h = fitting_earlier m (fitting_best k (omega arith)) (go (eqb (H.head k) v))
      where
        go : (b : Bool) → Fitting (pick b (offer' k) None)
        go true = fits k h
        go false = nothing

    -- a line of v more
    one_more : (l : ℕ) {key : ℕ} → l < length c.heads → Yields c.heads c.strikes v l → key ≡ key_of m (best l) → min key (key_of m (standing l)) ≡ key_of m (best (l + 1))
    unfolding first offer_to
    one_more l {key} h y p =
        ap (λ (b : Bool). min key (key_of m (offer_of (algebra m) (not b) (cell c.own l) (tail_at c l) w d l))) (sym y.stands)
        ∙ rw (add-one l, eq-eqb _ _ y.head, p) (sym (key_earlier m (fitting_best l (omega arith)) (fits l h)))

  module _ {l key : ℕ} (a : Along l key) where
    pub along_line : l ≢ end → l < length c.heads
    along_line n = (at_line a.least n).numbered

    pub along_end : length c.heads ≤ most_edges → l ≡ end → key ≡ key_of m (best (length c.heads))
    along_end h p = a.so_far ∙ ap (key_of m) (sym (skip a.place (length c.heads) a.within (at_end h a.least p)))

    module _ {fs ns : List ℕ} (linked : Linked c.heads c.strikes fs ns 0) (n : l ≢ end) where
      pub along_next : ((e : ℕ) → e < length c.heads → Fitting (offer' e)) → Along (cell ns l) (min key (key_of m (standing l)))
      along_next fits =
          let t = at_line a.least n in
          record {
            place = l + 1;
            within = omega (arith, t.numbered);
            least = subst (λ (y : ℕ). Least c.heads c.strikes y (l + 1) (cell ns l)) t.yields.head (linked.nexts l (omega arith) t.numbered t.yields.stands);
            so_far = one_more fits l t.numbered t.yields (a.so_far ∙ ap (key_of m) (sym (skip a.place l t.from_k t.others)));
          }

      pub along_further : length c.heads ≤ most_edges → l < cell ns l
      along_further few = (let t = at_line a.least n in further few (linked.nexts l (omega arith) t.numbered t.yields.stands))
        where
          further : {u x : ℕ} → length c.heads ≤ most_edges → Least c.heads c.strikes u (l + 1) x → l < x
          further few (line x b i q f) = omega arith
          further few (none f) = omega (arith, (at_line a.least n).numbered)

  pub along_first : {fs ns : List ℕ} → Linked c.heads c.strikes fs ns 0 → v < most_vertices → Along (cell fs v) no_key
  unfolding first
  along_first l h = record { place = 0; within = omega arith; least = l.firsts v h; so_far = refl }
