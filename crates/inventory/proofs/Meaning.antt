-- What became of the events of a record is one of the request's four cases for each, and what stops a record is the first event that 25 or 26 is for. Assumes nothing.
use mathlib.Core.Path.{◌≡◌, refl, sym, ◌∙◌, ap, subst}
use mathlib.Core.Bool.{Bool, true, false}
use mathlib.Core.List.{List, [], ◌∷◌}
use Prim.Native.Nat.{ℕ, suc, ◌+◌, ◌-◌, ◌<◌}
use native.Mathlib.Decide.{ℕ_discrete}
use native.Mathlib.Omega.{arith}
use lib.ListN.{length, set, length-set}
use lib.Seq.{get_or-set_same, get_or-set_other}
use lib.Dec.{ltb, leb, eqb}
use borrow.Author.Tests.{ltb-true, ltb-false, leb-true, leb-false, eqb-true, eqb-false, eq-eqb, ne_eqb}
use Rattle.weights.specs.Choice.{pick}
use Rattle.refusal.specs.declared.Refusal.TheVariants.{EventVertex, ReceivedCount}
use Rattle.columns.specs.Columns.{Answers, Columns, cell, tail_of}
use Rattle.provenance.proofs.Counting.{once_same}
use Rattle.inventory.specs.declared.Fulfilment.{Fulfilment}
use Rattle.inventory.specs.declared.Fulfilment.TheVariants.{Received, Issued, Built, Late}
use Rattle.std.specs.Prelude.{Result, Ok, Err}
use Rattle.refusal.specs.declared.Refusal.{Refusal}
use Rattle.inventory.specs.Shelf.{most_stock, chosen_tail}
use Rattle.inventory.specs.Replaying.{outcome_number, suffices, consumed, Fulfilled, fulfilled, build, fulfil, stepped, ordered, receive, apply_event, Run, finished, stopped, resumed, after, replay_from, chosen_list}
use Rattle.inventory.specs.Record.{depth_of, list_of, Missing, Happens, Replays, Stops}
use Rattle.inventory.proofs.Taking.{suffices_enough, holds_short, taken, consumed_exact, length-consumed}

pub chosen_made : (spans tails depths edges : List ℕ) (v : ℕ) → ¬ (cell depths v ≡ 0) → chosen_tail spans tails depths edges v ≡ tail_of spans tails (cell edges v)
unfolding chosen_tail
chosen_made spans tails depths edges v n = rw (ne_eqb _ _ n)

pub chosen_unmade : (spans tails depths edges : List ℕ) (v : ℕ) → cell depths v ≡ 0 → chosen_tail spans tails depths edges v ≡ []
unfolding chosen_tail
chosen_unmade spans tails depths edges v q = rw (eq-eqb _ _ q)

module _ (c : Columns) (a : Answers) where
  -- an event that is done keeps the number of counts, and is one of the four cases
  abbrev Does : (v k : ℕ) (s : List ℕ) → Fulfilled → Type 0
  Does v k s f = (length f.stock ≡ length s) × Happens c a v k s (outcome_number f.outcome) f.stock

  module _ (v : ℕ) (s : List ℕ) where
    module _ (z : cell s v ≡ 0) where
      abbrev tail : List ℕ
      tail = list_of c a v

      made_does : 0 < depth_of a v → Does v 0 s (build s (list_of c a v))
      unfolding build
      made_does d = go (eqb (length tail) 0) refl (suffices s tail) refl
        where
          go : (b : Bool) → eqb (length tail) 0 ≡ b → (e : Bool) → suffices s tail ≡ e
              → Does v 0 s (pick b (fulfilled Late s) (pick e (fulfilled Built (consumed s tail)) (fulfilled Late s)))
          go true p e q = (refl, Happens.late refl z (Missing.bought d (eqb-true _ _ p)))
          go false p true q =
              let n : length tail ≡ 0 → ⊥ = eqb-false _ _ p in
              (length-consumed s tail, Happens.built refl z d (omega arith) (consumed_exact s tail (suffices_enough s tail q)))
          go false p false q = let w = holds_short s tail tail q in (refl, Happens.late refl z (Missing.short d w.which w.few))

      build_does : Does v 0 s (build s (chosen_list c a v))
      unfolding build
      build_does = go (ℕ_discrete (depth_of a v) 0)
        where
          go : Dec (depth_of a v ≡ 0) → Does v 0 s (build s (chosen_list c a v))
          go (yes q) =
              subst (λ (t : List ℕ). Does v 0 s (build s t)) (sym (chosen_unmade c.spans c.tails a.depths a.edges v q))
              (refl, Happens.late refl z (Missing.unmade q))
          go (no n) =
              subst (λ (t : List ℕ). Does v 0 s (build s t)) (sym (chosen_made c.spans c.tails a.depths a.edges v n)) (made_does (omega arith))

    order_does : Does v 0 s (fulfil (chosen_list c a) s v)
    unfolding fulfil
    order_does = go (ltb 0 (cell s v)) refl
      where
        go : (b : Bool) → ltb 0 (cell s v) ≡ b → Does v 0 s (pick b (fulfilled Issued (set s v (cell s v - 1))) (build s (chosen_list c a v)))
        go true p =
            let h = ltb-true 0 (cell s v) p in
            let e : cell s v ≡ cell (set s v (cell s v - 1)) v + 1 = omega (arith, taken s v h v, once_same {e = v} {x = v} refl) in (
              length-set s v (cell s v - 1),
              Happens.issued refl e (λ u n. get_or-set_other s v u (cell s v - 1) 0 n),
            )
        go false p = build_does (omega (arith, ltb-false 0 (cell s v) p))

  -- an event that is done, or the refusal of the record where it is the first event that is left
  abbrev pub Tells : (i v k : ℕ) (vs ks s : List ℕ) → Result Fulfilment Refusal → List ℕ → Type 0
  Tells i v k vs ks s (Ok f) t = (v < length s) × (length t ≡ length s) × Happens c a v k s (outcome_number f) t
  Tells i v k vs ks s (Err r) t = Stops c a i (v ∷ vs) (k ∷ ks) s r

  pub event_tells : (i v k : ℕ) (vs ks s : List ℕ) → let e = apply_event (chosen_list c a) i v k s in Tells i v k vs ks s e.result e.stock
  unfolding apply_event receive
  event_tells i v k vs ks s = go (ltb v (length s)) refl (ltb 0 k) refl (leb (cell s v + k) most_stock) refl
    where
      go : (b : Bool) → ltb v (length s) ≡ b → (d : Bool) → ltb 0 k ≡ d → (e : Bool) → leb (cell s v + k) most_stock ≡ e →
          let new = stepped (Ok Received) (set s v (cell s v + k)) in
          let full = stepped (Err (ReceivedCount (record { 0 = i }))) s in
          let x = pick b (pick d (pick e new full) (ordered (fulfil (chosen_list c a) s v))) (stepped (Err (EventVertex (record { 0 = i }))) s) in
          Tells i v k vs ks s x.result x.stock
      go false p d q e r = Stops.vertex (ltb-false _ _ p)
      go true p false q e r =
          let z : k ≡ 0 = omega (arith, ltb-false 0 k q) in
          let d = order_does v s in
          let f = fulfil (chosen_list c a) s v in
          (ltb-true _ _ p, d.0, subst (λ (n : ℕ). Happens c a v n s (outcome_number f.outcome) f.stock) (sym z) d.1)
      go true p true q true r =
          let h = ltb-true v (length s) p in
          let e = get_or-set_same s v (cell s v + k) 0 h in (
            h,
            length-set s v (cell s v + k),
            Happens.received {t = set s v (cell s v + k)} (ltb-true _ _ q) e (omega (arith, e, leb-true (cell s v + k) most_stock r)) (λ u n. get_or-set_other s v u (cell s v + k) 0 n),
          )
      go true p true q false r = Stops.receipt (ltb-true _ _ p) (ltb-true _ _ q) (leb-false _ _ r)

  -- so is a record from event i on
  abbrev pub RunTells : (i : ℕ) (vs ks s : List ℕ) → Run → Type 0
  RunTells i vs ks s (finished t os) = Replays c a vs ks s os t
  RunTells i vs ks s (stopped r) = Stops c a i vs ks s r

  pub run_tells : (i : ℕ) (vs ks s : List ℕ) → length ks ≡ length vs → RunTells i vs ks s (replay_from (chosen_list c a) i vs ks s)
  unfolding replay_from
  run_tells i [] [] s l = Replays.none
  run_tells i [] (k ∷ ks) s l = absurd (omega arith)
  run_tells i (v ∷ vs) [] s l = absurd (omega arith)
  run_tells i (v ∷ vs) (k ∷ ks) s l =
      let e = apply_event (chosen_list c a) i v k s in
      go e.result e.stock (replay_from (chosen_list c a) (i + 1) vs ks) (event_tells i v k vs ks s) (λ t. run_tells (i + 1) vs ks t (omega arith))
    where
      on : (f : Fulfilment) (t : List ℕ) (run : Run) → Tells i v k vs ks s (Ok f) t → RunTells (i + 1) vs ks t run
          → RunTells i (v ∷ vs) (k ∷ ks) s (resumed (outcome_number f ∷ []) run)
      on f t (finished u os) d m = Replays.more d.0 d.1 d.2 m
      on f t (stopped r) d m = Stops.later d.0 d.1 d.2 m

      go : (x : Result Fulfilment Refusal) (t : List ℕ) (rest : List ℕ → Run) → Tells i v k vs ks s x t → ((t : List ℕ) → RunTells (i + 1) vs ks t (rest t))
          → RunTells i (v ∷ vs) (k ∷ ks) s (after x t rest)
      go (Err r) t rest d m = d
      go (Ok f) t rest d m = on f t (rest t) d (m t)

  pub replays_sized : {vs ks s os t : List ℕ} → Replays c a vs ks s os t → (length t ≡ length s) × (length os ≡ length vs)
  replays_sized Replays.none = (refl, refl)
  replays_sized (Replays.more h l x rest) = let r = replays_sized rest in (r.0 ∙ l, ap suc r.1)
