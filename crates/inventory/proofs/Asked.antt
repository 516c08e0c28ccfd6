-- What a replay returns and leaves, for every input: demand 1 of the call. Assumes nothing.
use mathlib.Core.Path.{◌≡◌, refl, sym, ◌∙◌, ap, subst}
use mathlib.Core.Bool.{Bool, true, false}
use mathlib.Core.List.{List, [], ◌∷◌}
use Prim.Native.Nat.{ℕ, zero, suc, ◌+◌, ◌≤◌, ◌<◌}
use native.Mathlib.Nat.{zero-add}
use native.Mathlib.Omega.{arith}
use lib.ListN.{length}
use lib.Dec.{leb, eqb}
use borrow.Author.Tests.{leb-true, leb-false, eqb-true, eqb-false}
use Rattle.weights.specs.declared.Measure.{Measure}
use Rattle.weights.specs.Choice.{pick}
use Rattle.refusal.specs.declared.Refusal.{Refusal}
use Rattle.refusal.specs.declared.Refusal.TheVariants.{OpeningCount}
use Rattle.refusal.specs.Refusals.{place_of}
use Rattle.columns.specs.Columns.{Answers, Entries, Columns, cell}
use Rattle.columns.specs.Acceptance.{most_vertices, lent_acceptance}
use Rattle.columns.specs.Owed.{Owed}
use Rattle.columns.specs.Same.{same_entries}
use Rattle.columns.proofs.Accepted.{refused, test_passed}
use Rattle.columns.proofs.Exactly.{lent_exactly, lent_refused_exactly}
use Rattle.columns.proofs.Refuses.{Refuses, same_refusal, none_refuses, test_refuses, then_refuses}
use Rattle.settle.specs.Settling.{entries_of}
use Rattle.settle.specs.Checking.{answers_acceptance}
use Rattle.settle.proofs.Exactly.{same_exactly, same_fails}
use Rattle.inventory.specs.Shelf.{most_stock, most_events}
use Rattle.inventory.specs.Replaying.{Run, finished, stopped, replay_from, opening_acceptance, record_acceptance, open_acceptance, chosen_list, begun, run_of, concluded, replayed}
use Rattle.inventory.specs.Record.{Stops}
use Rattle.inventory.specs.Asked.{LevelRecord, FirstHigh, RightShelf, RightReplay, WrongReplay, ReplayOwes}
use Rattle.inventory.proofs.Opening.{record_accepted, open_accepted}
use Rattle.inventory.proofs.Replayed.{ended}
use Rattle.refusal.specs.Answers.{Acceptance}
use Rattle.std.specs.Prelude.{Ok, Err}

-- of counts that begin with part i's, the first that is above the limit
high_cons : (x : ℕ) (xs : List ℕ) (j : ℕ) → x ≤ most_stock → FirstHigh xs j → FirstHigh (x ∷ xs) (suc j)
high_cons x xs j h f = record { within = omega (arith, f.within); high = f.high; first = below }
  where
    below : (u : ℕ) → u < suc j → cell (x ∷ xs) u ≤ most_stock
    below zero l = h
    below (suc u) l = f.first u (omega arith)

opening-first : (i : ℕ) (xs : List ℕ) {r : Refusal} → opening_acceptance i xs ≡ Err r → (j : ℕ) × (r ≡ OpeningCount (record { 0 = i + j })) × FirstHigh xs j
unfolding opening_acceptance
opening-first i [] e = absurd (refused (sym e))
opening-first i (x ∷ xs) {r} e = go (leb x most_stock) refl e (opening-first (i + 1) xs)
  where
    go : (b : Bool) → leb x most_stock ≡ b → pick b (opening_acceptance (i + 1) xs) (Err (OpeningCount (record { 0 = i }))) ≡ Err r
        → (opening_acceptance (i + 1) xs ≡ Err r → (j : ℕ) × (r ≡ OpeningCount (record { 0 = i + 1 + j })) × FirstHigh xs j)
        → (j : ℕ) × (r ≡ OpeningCount (record { 0 = i + j })) × FirstHigh (x ∷ xs) j
    go true p q rest =
        let w = rest q in
        let k : i + 1 + w.0 ≡ i + suc w.0 = omega arith in
        (suc w.0, w.1 ∙ ap (λ (z : ℕ). OpeningCount (record { 0 = z })) k, high_cons x xs w.0 (leb-true _ _ p) w.2)
    go false p q rest =
        let k : i ≡ i + 0 = omega arith in
        (0, sym (same_refusal q) ∙ ap (λ (z : ℕ). OpeningCount (record { 0 = z })) k, record { within = omega arith; high = leb-false _ _ p; first = λ u l. absurd (omega arith) })

module _ (m : Measure) (c : Columns) (a : Entries) (vs ks stock os : List ℕ) where
  abbrev Wrong : Refusal → Type 0
  Wrong = WrongReplay m c a vs ks stock os

  record_wrong : Refuses Wrong (record_acceptance c.vertices vs ks os)
  unfolding record_acceptance
  record_wrong =
      let n = c.vertices in
      test_refuses (leb n most_vertices) _ _ (λ b. WrongReplay.many (λ f. omega (arith, leb-false n most_vertices b, f))) (λ b.
      let few = leb-true n most_vertices b in
      test_refuses (eqb (length ks) (length vs)) _ _ (λ e. WrongReplay.unlevel few (λ l. eqb-false _ _ e l.received)) (λ _.
      test_refuses (eqb (length os) (length vs)) _ _ (λ e. WrongReplay.unlevel few (λ l. eqb-false _ _ e l.outcomes)) (λ _.
      test_refuses (leb (length vs) most_events) _ _ (λ e. WrongReplay.unlevel few (λ l. omega (arith, leb-false (length vs) most_events e, l.events))) (λ _. none_refuses))))

  leveled : record_acceptance c.vertices vs ks os ≡ Ok tt → LevelRecord vs ks os
  leveled p = let r = record_accepted c.vertices vs ks os p in record { received = r.received; outcomes = r.outcomes; events = r.events }

  open_wrong : Refuses Wrong (open_acceptance m c a vs ks stock os)
  unfolding open_acceptance
  open_wrong =
      then_refuses (record_acceptance c.vertices vs ks os) _ record_wrong (λ p.
      let l = leveled p in
      then_refuses (lent_acceptance c a) _ (record { holds = λ q. WrongReplay.lent l ((lent_refused_exactly c a _).0 q) }) (λ q.
      let t = (lent_exactly c a).0 q in
      test_refuses (eqb (length stock) c.vertices) _ _ (λ b. WrongReplay.shelf l t (eqb-false _ _ b)) (λ b.
      let e = eqb-true (length stock) c.vertices b in
      then_refuses (answers_acceptance m c a) _ (test_refuses (same_entries a (entries_of m c)) _ _ (λ s. WrongReplay.answers l t e ((same_fails m c a q).0 s)) (λ _. none_refuses)) (λ s.
      let f = (same_exactly m c a q).0 (test_passed _ _ _ s).0 in
      record {
        holds = λ h.
            let w = opening-first 0 stock h in
            let r = w.1 ∙ ap (λ (z : ℕ). OpeningCount (record { 0 = z })) (zero-add w.0) in
            subst Wrong (sym r) (WrongReplay.opening l t e f w.0 w.2);
      }))))

  right_shelf : open_acceptance m c a vs ks stock os ≡ Ok tt → RightShelf m c a vs ks stock os
  right_shelf p =
      let o = open_accepted m c a vs ks stock os p in
      let r = o.recorded in
      record {
        level = record { received = r.received; outcomes = r.outcomes; events = r.events };
        lent = (lent_exactly c a).0 o.lent;
        counts = o.level;
        answers = (same_exactly m c a o.lent).0 o.same;
        low = o.low;
      }

  pub replay_owes : ReplayOwes m c a vs ks stock os (replayed m c a vs ks stock os)
  unfolding replayed run_of
  replay_owes = go (open_acceptance m c a vs ks stock os) refl (replay_from (chosen_list c a.labels) 0 vs ks stock) refl
    where
      go : (x : Acceptance) → open_acceptance m c a vs ks stock os ≡ x → (y : Run) → replay_from (chosen_list c a.labels) 0 vs ks stock ≡ y
          → ReplayOwes m c a vs ks stock os (concluded (begun x y) stock os)
      go (Ok _) e (finished s o) f =
          Owed.accepted (record { shelf = right_shelf e; final = s; outcomes = o; replays = ended m c a vs ks stock os (finished s o) f (open_accepted m c a vs ks stock os e) })
      go (Ok _) e (stopped r) f = Owed.refused (WrongReplay.event (right_shelf e) (ended m c a vs ks stock os (stopped r) f (open_accepted m c a vs ks stock os e)))
      go (Err r) e y f = Owed.refused (open_wrong.holds e)

-- a call that is refused was wrong
pub owed_wrong : (m : Measure) (c : Columns) (a : Entries) (vs ks stock os : List ℕ) {r : Refusal} → (replayed m c a vs ks stock os).result ≡ Err r
    → WrongReplay m c a vs ks stock os r
owed_wrong m c a vs ks stock os {r} p = go (replay_owes m c a vs ks stock os) p
  where
    go : {x : Acceptance} {l : List ℕ × List ℕ}
        → Owed {L = List ℕ × List ℕ} Err (stock, os) (RightReplay m c a vs ks stock os) (λ _. (Ok tt)) (λ q. (q.final, q.outcomes)) (WrongReplay m c a vs ks stock os) x l
        → x ≡ Err r → WrongReplay m c a vs ks stock os r
    go (Owed.accepted q) e = absurd (refused (sym e))
    go (Owed.refused w) e = subst (WrongReplay m c a vs ks stock os) (same_refusal e) w

-- the place of an event's refusal is its number
pub stops_place : (c : Columns) (a : Answers) {i : ℕ} {vs ks s : List ℕ} {r : Refusal} → Stops c a i vs ks s r → place_of r < i + length vs
stops_place c a (Stops.vertex h) = omega arith
stops_place c a (Stops.receipt h k l) = omega arith
stops_place c a (Stops.later h l x w) = omega (arith, stops_place c a w)
