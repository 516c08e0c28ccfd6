-- The laws by which the events of a record are run, one after the other, and the opening counts are looked at. Assumes nothing.
use mathlib.Core.Path.{◌≡◌, refl, sym, ◌∙◌, ap, ap₂, subst}
use mathlib.Core.Bool.{Bool, true, false}
use mathlib.Core.List.{List, [], ◌∷◌, ◌++◌, append-nil, append_assoc}
use Prim.Native.Nat.{ℕ, zero, suc, ◌+◌, ◌-◌, ◌≤◌, ◌<◌}
use native.Mathlib.Numerals.{add-one}
use native.Mathlib.Omega.{arith}
use lib.ListN.{length, set, take, drop, length-set, drop_of_length-le}
use lib.Seq.{drop-cons, take_all}
use lib.Dec.{ltb, leb, eqb}
use Rattle.std.specs.Prelude.{Ok, Err}
use borrow.Author.Tests.{le-leb, lt-leb, le-ltb, lt-ltb, eq-eqb, ne_eqb}
use Rattle.weights.specs.Choice.{pick}
use Rattle.refusal.specs.declared.Refusal.{Refusal}
use Rattle.refusal.specs.declared.Refusal.TheVariants.{EventVertex, OpeningCount, ReceivedCount}
use Rattle.columns.specs.Columns.{cell}
use Rattle.inventory.specs.declared.Fulfilment.{Fulfilment}
use Rattle.inventory.specs.declared.Fulfilment.TheVariants.{Received, Issued, Built, Late}
use Rattle.columns.specs.Filled.{filled}
use Rattle.inventory.specs.Shelf.{most_stock, Low, Buildable, Replayable, Copied}
use Rattle.inventory.specs.Replaying.{
  outcome_number,
  suffices,
  consumed,
  fulfilled,
  build,
  fulfil,
  stepped,
  ordered,
  receive,
  apply_event,
  Run,
  finished,
  stopped,
  resumed,
  ran,
  concluded,
  replay_from,
  opening_acceptance,
}
use Rattle.inventory.proofs.Taking.{length-consumed}
use Rattle.refusal.specs.Answers.{Acceptance}

-- the opening counts from part i on: one that passes, one that is too large, and none left
module _ (stock : List ℕ) (i : ℕ) where
  pub opening_pass : i < length stock → cell stock i ≤ most_stock → opening_acceptance (i + 1) (drop (i + 1) stock) ≡ opening_acceptance i (drop i stock)
  unfolding opening_acceptance
  opening_pass h k = rw (add-one i, drop-cons stock i 0 h, le-leb _ _ k) (rw (add-one i))

  pub opening_stop : i < length stock → most_stock < cell stock i → Err (OpeningCount (record { 0 = i })) ≡ opening_acceptance i (drop i stock)
  unfolding opening_acceptance
  opening_stop h k = rw (drop-cons stock i 0 h, lt-leb _ _ k)

  pub opening_end : length stock ≤ i → (Ok tt) ≡ opening_acceptance i (drop i stock)
  unfolding opening_acceptance
  opening_end h = rw (drop_of_length-le stock h)

-- the code's ways through an order of a part that is not on the shelf
module _ (stock tail : List ℕ) where
  pub build_none : length tail ≡ 0 → fulfilled Late stock ≡ build stock tail
  unfolding build
  build_none z = rw (eq-eqb (length tail) 0 z)

  module _ (n : ¬ (length tail ≡ 0)) where
    pub build_short : suffices stock tail ≡ false → fulfilled Late stock ≡ build stock tail
    unfolding build
    build_short q = rw (ne_eqb (length tail) 0 n, q)

    pub build_made : suffices stock tail ≡ true → fulfilled Built (consumed stock tail) ≡ build stock tail
    unfolding build
    build_made q = rw (ne_eqb (length tail) 0 n, q)

  pub length-build : length (build stock tail).stock ≡ length stock
  unfolding build
  length-build = go (eqb (length tail) 0) (suffices stock tail)
    where
      go : (b d : Bool) → length (pick b (fulfilled Late stock) (pick d (fulfilled Built (consumed stock tail)) (fulfilled Late stock))).stock ≡ length stock
      go true d = refl
      go false true = length-consumed stock tail
      go false false = refl

-- through an order
module _ (lists : ℕ → List ℕ) (stock : List ℕ) (v : ℕ) where
  pub fulfil_issued : 0 < cell stock v → fulfilled Issued (set stock v (cell stock v - 1)) ≡ fulfil lists stock v
  unfolding fulfil
  fulfil_issued h = rw (lt-ltb 0 (cell stock v) h)

  module _ (z : cell stock v ≤ 0) where
    pub fulfil_built : build stock (lists v) ≡ fulfil lists stock v
    unfolding fulfil
    fulfil_built = rw (le-ltb 0 (cell stock v) z)

    pub fulfil_unmade : lists v ≡ [] → fulfilled Late stock ≡ fulfil lists stock v
    fulfil_unmade e = build_none stock (lists v) (ap length e) ∙ fulfil_built

  pub length-fulfil : length (fulfil lists stock v).stock ≡ length stock
  unfolding fulfil
  length-fulfil = go (ltb 0 (cell stock v))
    where
      go : (b : Bool) → length (pick b (fulfilled Issued (set stock v (cell stock v - 1))) (build stock (lists v))).stock ≡ length stock
      go true = length-set stock v (cell stock v - 1)
      go false = length-build stock (lists v)

pub length-receive : (i : ℕ) (stock : List ℕ) (v pieces : ℕ) → length (receive i stock v pieces).stock ≡ length stock
unfolding receive
length-receive i stock v pieces = go (leb (cell stock v + pieces) most_stock)
  where
    go : (b : Bool) → length (pick b (stepped (Ok Received) (set stock v (cell stock v + pieces))) (stepped (Err (ReceivedCount (record { 0 = i }))) stock)).stock ≡ length stock
    go true = length-set stock v (cell stock v + pieces)
    go false = refl

-- and through an event
module _ (lists : ℕ → List ℕ) (i v pieces : ℕ) (stock : List ℕ) where
  pub event_absent : length stock ≤ v → stepped (Err (EventVertex (record { 0 = i }))) stock ≡ apply_event lists i v pieces stock
  unfolding apply_event
  event_absent h = rw (le-ltb v (length stock) h)

  module _ (h : v < length stock) where
    pub event_received : 0 < pieces → receive i stock v pieces ≡ apply_event lists i v pieces stock
    unfolding apply_event
    event_received k = rw (lt-ltb v (length stock) h, lt-ltb 0 pieces k)

    pub event_ordered : pieces ≤ 0 → ordered (fulfil lists stock v) ≡ apply_event lists i v pieces stock
    unfolding apply_event
    event_ordered k = rw (lt-ltb v (length stock) h, le-ltb 0 pieces k)

  pub length_applied : length (apply_event lists i v pieces stock).stock ≡ length stock
  unfolding apply_event
  length_applied = go (ltb v (length stock)) (ltb 0 pieces)
    where
      go : (b d : Bool) → length (pick b (pick d (receive i stock v pieces) (ordered (fulfil lists stock v))) (stepped (Err (EventVertex (record { 0 = i }))) stock)).stock ≡ length stock
      go true true = length-receive i stock v pieces
      go true false = length-fulfil lists stock v
      go false d = refl

resumed_twice : (xs ys : List ℕ) (r : Run) → resumed xs (resumed ys r) ≡ resumed (xs ++ ys) r
resumed_twice xs ys (finished s os) = ap (finished s) (sym (append_assoc xs ys os))
resumed_twice xs ys (stopped r) = refl

pub resumed_none : (r : Run) → resumed [] r ≡ r
resumed_none (finished s os) = refl
resumed_none (stopped r) = refl

-- the outcome of event i is stored
stored : (os : List ℕ) (i x : ℕ) → i < length os → take (suc i) (set os i x) ≡ take i os ++ x ∷ []
stored [] i x h = absurd (omega arith)
stored (y ∷ os) zero x h = refl
stored (y ∷ os) (suc i) x h = ap (λ (z : List ℕ). y ∷ z) (stored os i x (omega arith))

-- the events from i on, where the outcomes before them are stored: an event that is done, one that is refused, and none left
module _ (lists : ℕ → List ℕ) (parts received stock outcomes : List ℕ) (i : ℕ) where
  abbrev here : Run
  here = resumed (take i outcomes) (replay_from lists i (drop i parts) (drop i received) stock)

  module _ (h : i < length parts) (k : i < length received) where
    pub events_step : (f : Fulfilment) (s : List ℕ) → i < length outcomes → apply_event lists i (cell parts i) (cell received i) stock ≡ stepped (Ok f) s
        → resumed (take (i + 1) (set outcomes i (outcome_number f))) (replay_from lists (i + 1) (drop (i + 1) parts) (drop (i + 1) received) s) ≡ here
    unfolding replay_from
    events_step f s l e =
        rw (add-one i, stored outcomes i (outcome_number f) l, drop-cons parts i 0 h, drop-cons received i 0 k, e)
        (rw (add-one i) (sym (resumed_twice (take i outcomes) (outcome_number f ∷ []) (replay_from lists (suc i) (drop (suc i) parts) (drop (suc i) received) s))))

    pub events_stop : (r : Refusal) (s : List ℕ) → apply_event lists i (cell parts i) (cell received i) stock ≡ stepped (Err r) s → stopped r ≡ here
    unfolding replay_from
    events_stop r s e = rw (drop-cons parts i 0 h, drop-cons received i 0 k, e)

  pub events_end : length parts ≤ i → length outcomes ≤ i → finished stock outcomes ≡ here
  unfolding replay_from
  events_end h l = rw (drop_of_length-le parts h, take_all i outcomes l, append-nil outcomes)

-- a column that is copied whole onto another of its length
pub filled-all : (new old : List ℕ) → length new ≡ length old → filled new old ≡ new
unfolding filled
filled-all new old e = ap (λ (z : List ℕ). new ++ z) (drop_of_length-le old {i = length new} (omega arith)) ∙ append-nil new

-- a record can be run over copies of the counts and the outcomes
pub copies_replayable : {ss ts ds es vs ks stock os counts numbers copy : List ℕ} → Replayable ss ts ds es vs ks stock os → Copied stock os counts numbers → copy ≡ stock
    → Replayable ss ts ds es vs ks copy numbers
copies_replayable {ss} {ts} {ds} {es} r c e = record {
  buildable = subst (λ (z : List ℕ). Buildable ss ts ds es (length z)) (sym e) r.buildable;
  low = subst Low (sym e) r.low;
  received = r.received;
  outcomes = c.numbers ∙ r.outcomes;
}

-- where the run over copies ended, the lent columns are left as they came, or are the copies
module _ (run : Run) (stock outcomes : List ℕ) where
  pub copies_left : (x : Acceptance) (s o : List ℕ) {r : Refusal} → ran x s o ≡ run → x ≡ Err r → record { result = Err r; stock = stock; outcomes = outcomes } ≡ concluded run stock outcomes
  copies_left x s o e q = ap (λ (z : Run). concluded z stock outcomes) (ap (λ (y : Acceptance). ran y s o) (sym q) ∙ e)

  pub copies_kept : (x : Acceptance) (s o : List ℕ) {s' o' : List ℕ} → ran x s o ≡ run → x ≡ Ok tt → s' ≡ s → o' ≡ o
      → record { result = Ok tt; stock = s'; outcomes = o' } ≡ concluded run stock outcomes
  copies_kept x s o e q f g =
      ap₂ (λ (y z : List ℕ). record { result = Ok tt; stock = y; outcomes = z }) f g
      ∙ ap (λ (z : Run). concluded z stock outcomes) (ap (λ (y : Acceptance). ran y s o) (sym q) ∙ e)
