-- A record comes to one end alone: what an event does, the counts and outcomes of a replay, and the refusal of one that stops are fixed. Assumes nothing.
use mathlib.Core.Path.{◌≡◌, refl, sym, ◌∙◌, ap, subst}
use mathlib.Core.Bool.{Bool, true, false}
use mathlib.Core.List.{List, [], ◌∷◌}
use Prim.Native.Nat.{ℕ, zero, suc, ◌+◌, ◌≤◌, ◌<◌}
use native.Mathlib.Decide.{ℕ_discrete}
use native.Mathlib.Nat.{zero-add}
use native.Mathlib.Omega.{arith}
use lib.ListN.{length}
use lib.Seq.{ext_get_or}
use lib.Dec.{leb, eqb}
use borrow.Author.Tests.{leb-true, leb-false, eqb-true, le-leb, lt-leb, eq-eqb, ne_eqb}
use Rattle.weights.specs.declared.Measure.{Measure}
use Rattle.refusal.specs.declared.Refusal.{Refusal}
use Rattle.refusal.specs.declared.Refusal.TheVariants.{TooManyVertices, Lengths, AnswerLength, WrongAnswers, OpeningCount}
use Rattle.columns.specs.Columns.{Answers, Entries, Columns, cell}
use Rattle.columns.specs.Acceptance.{most_vertices, test, lent_acceptance}
use Rattle.columns.specs.Right.{Few, WrongTable, WrongLent}
use Rattle.columns.proofs.Accepted.{refused}
use Rattle.columns.proofs.Exactly.{lent_exactly, lent_refused_exactly}
use Rattle.columns.proofs.Refuses.{same_refusal}
use Rattle.provenance.specs.Counting.{count}
use Rattle.settle.proofs.Exactly.{same_exactly, same_fails}
use Rattle.inventory.specs.Shelf.{most_stock, most_events}
use Rattle.inventory.specs.Replaying.{opening_acceptance, record_acceptance, open_acceptance}
use Rattle.inventory.specs.Record.{list_of, Elsewhere, Missing, Happens, Replays, Stops}
use Rattle.inventory.specs.Asked.{LevelRecord, FirstHigh, RightShelf, RightReplay, WrongReplay}
use Rattle.refusal.specs.Answers.{Acceptance}
use Rattle.std.specs.Prelude.{Ok, Err}

-- counts that agree at v, and elsewhere with the same counts, are the same
same_counts : (v : ℕ) (s t u : List ℕ) → length t ≡ length u → cell t v ≡ cell u v → Elsewhere v s t → Elsewhere v s u → t ≡ u
same_counts v s t u l p f g = ext_get_or 0 t u l (λ i h. go i (ℕ_discrete i v))
  where
    go : (i : ℕ) → Dec (i ≡ v) → cell t i ≡ cell u i
    go i (yes e) = ap (cell t) e ∙ p ∙ sym (ap (cell u) e)
    go i (no n) = f i n ∙ sym (g i n)

module _ (c : Columns) (a : Answers) where
  -- where parts are missing none is built
  not-built : {v : ℕ} {s : List ℕ} (t : List ℕ) → Missing c a v s → 0 < cell a.depths v → 0 < length (list_of c a v) → ((u : ℕ) → cell s u ≡ cell t u + count u (list_of c a v)) → ⊥
  not-built t (Missing.unmade z) d l f = omega (arith, z, d)
  not-built t (Missing.bought x z) d l f = omega (arith, z, l)
  not-built t (Missing.short x u z) d l f = omega (arith, z, f u)

  -- what an event does
  happens_once : {v k o p : ℕ} {s t u : List ℕ} → length t ≡ length s → length u ≡ length s → Happens c a v k s o t → Happens c a v k s p u → (o ≡ p) × (t ≡ u)
  happens_once {v} {s = s} {t = t} {u = u} lt lu (Happens.received k e l f) (Happens.received k' e' l' g) = (refl, same_counts v s t u (lt ∙ sym lu) (e ∙ sym e') f g)
  happens_once lt lu (Happens.received k e l f) (Happens.issued z e' g) = absurd (omega arith)
  happens_once lt lu (Happens.received k e l f) (Happens.built z e' d n g) = absurd (omega arith)
  happens_once lt lu (Happens.received k e l f) (Happens.late z e' m) = absurd (omega arith)
  happens_once lt lu (Happens.issued z e f) (Happens.received k e' l g) = absurd (omega arith)
  happens_once {v} {s = s} {t = t} {u = u} lt lu (Happens.issued z e f) (Happens.issued z' e' g) =
      let w : cell t v ≡ cell u v = omega (arith, e, e') in
      (refl, same_counts v s t u (lt ∙ sym lu) w f g)
  happens_once lt lu (Happens.issued z e f) (Happens.built z' e' d n g) = absurd (omega (arith, e, e'))
  happens_once lt lu (Happens.issued z e f) (Happens.late z' e' m) = absurd (omega (arith, e, e'))
  happens_once lt lu (Happens.built z e d n f) (Happens.received k e' l g) = absurd (omega arith)
  happens_once lt lu (Happens.built z e d n f) (Happens.issued z' e' g) = absurd (omega (arith, e, e'))
  happens_once {t = t} {u = u} lt lu (Happens.built z e d n f) (Happens.built z' e' d' n' g) = (refl, ext_get_or 0 t u (lt ∙ sym lu) (λ i h. omega (arith, f i, g i)))
  happens_once {t = t} lt lu (Happens.built z e d n f) (Happens.late z' e' m) = absurd (not-built t m d n f)
  happens_once lt lu (Happens.late z e m) (Happens.received k e' l g) = absurd (omega arith)
  happens_once lt lu (Happens.late z e m) (Happens.issued z' e' g) = absurd (omega (arith, e, e'))
  happens_once {u = u} lt lu (Happens.late z e m) (Happens.built z' e' d n f) = absurd (not-built u m d n f)
  happens_once lt lu (Happens.late z e m) (Happens.late z' e' m') = (refl, refl)

  -- the counts and the outcomes that a record leaves
  pub replays_once : {vs ks s os ps t u : List ℕ} → Replays c a vs ks s os t → Replays c a vs ks s ps u → (os ≡ ps) × (t ≡ u)
  replays_once Replays.none Replays.none = (refl, refl)
  replays_once {u = u} (Replays.more {vs = vs} {ks = ks} h l x r) (Replays.more {os = ps} h' l' x' r') =
      let e = happens_once l l' x x' in
      let w = replays_once {ps = ps} r (subst (λ (z : List ℕ). Replays c a vs ks z ps u) (sym e.1) r') in
      (λ i. e.0 i ∷ w.0 i, w.1)

  -- a record that ends does not stop, and one that stops has one refusal
  pub ends_or_stops : {i : ℕ} {vs ks s os t : List ℕ} {r : Refusal} → Replays c a vs ks s os t → Stops c a i vs ks s r → ⊥
  ends_or_stops Replays.none x = elim x [ ]
  ends_or_stops (Replays.more h l x r) (Stops.vertex n) = omega arith
  ends_or_stops (Replays.more h l (Happens.received k e m f) r) (Stops.receipt h' p n) = omega (arith, e, m, n)
  ends_or_stops (Replays.more h l (Happens.issued z e f) r) (Stops.receipt h' p n) = omega arith
  ends_or_stops (Replays.more h l (Happens.built z e d k f) r) (Stops.receipt h' p n) = omega arith
  ends_or_stops (Replays.more h l (Happens.late z e m) r) (Stops.receipt h' p n) = omega arith
  ends_or_stops {i} {r = q} (Replays.more {vs = vs} {ks = ks} h l x r) (Stops.later h' l' x' w) =
      ends_or_stops {i = i + 1} r (subst (λ (z : List ℕ). Stops c a (i + 1) vs ks z q) (sym (happens_once l l' x x').1) w)

  -- an event that happens is no receipt above the limit
  no_excess : {v k o : ℕ} {s t : List ℕ} → Happens c a v k s o t → 0 < k → most_stock < cell s v + k → ⊥
  no_excess (Happens.received k e m f) p n = omega (arith, e, m, n)
  no_excess (Happens.issued z e f) p n = omega arith
  no_excess (Happens.built z e d k f) p n = omega arith
  no_excess (Happens.late z e m) p n = omega arith

  pub stops_once : {i : ℕ} {vs ks s : List ℕ} {q r : Refusal} → Stops c a i vs ks s q → Stops c a i vs ks s r → q ≡ r
  stops_once (Stops.vertex n) (Stops.vertex m) = refl
  stops_once (Stops.vertex n) (Stops.receipt h p m) = absurd (omega arith)
  stops_once (Stops.vertex n) (Stops.later h l x w) = absurd (omega arith)
  stops_once (Stops.receipt h p m) (Stops.vertex n) = absurd (omega arith)
  stops_once (Stops.receipt h p m) (Stops.receipt h' p' m') = refl
  stops_once (Stops.receipt h p m) (Stops.later h' l x w) = absurd (no_excess x p m)
  stops_once (Stops.later h l x w) (Stops.vertex n) = absurd (omega arith)
  stops_once (Stops.later h l x w) (Stops.receipt h' p m) = absurd (no_excess x p m)
  stops_once {i} {r = r} (Stops.later {vs = vs} {ks = ks} h l x w) (Stops.later h' l' x' w') =
      stops_once w (subst (λ (z : List ℕ). Stops c a (i + 1) vs ks z r) (sym (happens_once l l' x x').1) w')

opening_low : (i : ℕ) (xs : List ℕ) → ((u : ℕ) → cell xs u ≤ most_stock) → opening_acceptance i xs ≡ Ok tt
unfolding opening_acceptance
opening_low i [] f = refl
opening_low i (x ∷ xs) f = rw (le-leb x most_stock (f 0)) (opening_low (i + 1) xs (λ u. f (suc u)))

opening_high : (i : ℕ) (xs : List ℕ) (j : ℕ) → FirstHigh xs j → opening_acceptance i xs ≡ Err (OpeningCount (record { 0 = i + j }))
unfolding opening_acceptance
opening_high i [] j h = absurd (omega (arith, h.within))
opening_high i (x ∷ xs) zero h =
    let k : i ≡ i + 0 = omega arith in
    rw (lt-leb x most_stock h.high) (ap (λ (z : ℕ). Err (OpeningCount (record { 0 = z }))) k)
opening_high i (x ∷ xs) (suc j) h =
    let k : i + 1 + j ≡ i + suc j = omega arith in
    let w = opening_high (i + 1) xs j (record { within = omega (arith, h.within); high = h.high; first = λ u l. h.first (suc u) (omega arith) }) in
    rw (le-leb x most_stock (h.first 0 (omega arith))) (w ∙ ap (λ (z : ℕ). Err (OpeningCount (record { 0 = z }))) k)

one_fails : (b : Bool) (r : Refusal) (x : Acceptance) → (b ≡ true → x ≡ Err r) → test b r x ≡ Err r
one_fails true r x f = f refl
one_fails false r x f = refl

module _ (m : Measure) (c : Columns) (a : Entries) (vs ks stock os : List ℕ) where
  abbrev opens : Acceptance
  opens = open_acceptance m c a vs ks stock os

  level_passes : Few c → LevelRecord vs ks os → record_acceptance c.vertices vs ks os ≡ Ok tt
  unfolding record_acceptance
  level_passes f l = rw (le-leb _ _ f, eq-eqb _ _ l.received, eq-eqb _ _ l.outcomes, le-leb _ _ l.events)

  many_fails : ¬ Few c → record_acceptance c.vertices vs ks os ≡ Err TooManyVertices
  unfolding record_acceptance
  many_fails n = rw (lt-leb c.vertices most_vertices (omega (arith, n)))

  unlevel_fails : Few c → ¬ LevelRecord vs ks os → record_acceptance c.vertices vs ks os ≡ Err Lengths
  unfolding record_acceptance
  unlevel_fails f n =
      rw (le-leb c.vertices most_vertices f)
      (one_fails (eqb (length ks) (length vs)) _ _ (λ r.
      one_fails (eqb (length os) (length vs)) _ _ (λ o.
      one_fails (leb (length vs) most_events) _ _ (λ e.
      absurd (n (record { received = eqb-true _ _ r; outcomes = eqb-true _ _ o; events = leb-true _ _ e }))))))

  -- refused before the events, or by one of them
  data Told : Refusal → Type 0 where
    early : {r : Refusal} → opens ≡ Err r → Told r
    event : {r : Refusal} → RightShelf m c a vs ks stock os → Stops c a.labels 0 vs ks stock r → Told r

  lent_told : {r : Refusal} → LevelRecord vs ks os → lent_acceptance c a ≡ Err r → Told r
  unfolding open_acceptance
  lent_told {r} l q = go (leb c.vertices most_vertices) refl
    where
      go : (b : Bool) → leb c.vertices most_vertices ≡ b → Told r
      go true p = early {r = r} (rw (level_passes (leb-true _ _ p) l, q))
      go false p =
          let n : ¬ Few c = λ f. omega (arith, leb-false c.vertices most_vertices p, f) in
          let e = same_refusal (sym ((lent_refused_exactly c a TooManyVertices).1 (WrongLent.table (WrongTable.many n))) ∙ q) in
          subst Told e (early {r = TooManyVertices} (rw (many_fails n)))

  told : {r : Refusal} → WrongReplay m c a vs ks stock os r → Told r
  unfolding open_acceptance
  told (WrongReplay.many n) = early {r = TooManyVertices} (rw (many_fails n))
  told (WrongReplay.unlevel f n) = early {r = Lengths} (rw (unlevel_fails f n))
  told (WrongReplay.lent l w) = lent_told l ((lent_refused_exactly c a _).1 w)
  told (WrongReplay.shelf l t n) = early {r = AnswerLength} (rw (level_passes t.table.few l, (lent_exactly c a).1 t, ne_eqb _ _ n))
  told (WrongReplay.answers l t e n) =
      let q = (lent_exactly c a).1 t in
      early {r = WrongAnswers} (rw (level_passes t.table.few l, q, eq-eqb _ _ e, (same_fails m c a q).1 n))
  told (WrongReplay.opening l t e f v h) =
      let q = (lent_exactly c a).1 t in
      let w = opening_high 0 stock v h ∙ ap (λ (z : ℕ). Err (OpeningCount (record { 0 = z }))) (zero-add v) in
      early {r = OpeningCount (record { 0 = v })} (rw (level_passes t.table.few l, q, eq-eqb _ _ e, (same_exactly m c a q).1 f) w)
  told (WrongReplay.event s w) = event s w

  shelf_opens : RightShelf m c a vs ks stock os → opens ≡ Ok tt
  unfolding open_acceptance
  shelf_opens s =
      let q = (lent_exactly c a).1 s.lent in
      rw (level_passes s.lent.table.few s.level, q, eq-eqb _ _ s.counts, (same_exactly m c a q).1 s.answers, opening_low 0 stock s.low)

  -- no replay is right and wrong, or wrong in two ways
  pub replay_never : {r : Refusal} → RightReplay m c a vs ks stock os → ¬ WrongReplay m c a vs ks stock os r
  replay_never {r} g w = go (told w)
    where
      go : Told r → ⊥
      go (early p) = refused (sym p ∙ shelf_opens g.shelf)
      go (event s x) = ends_or_stops c a.labels g.replays x

  pub replay_once : {q r : Refusal} → WrongReplay m c a vs ks stock os q → WrongReplay m c a vs ks stock os r → q ≡ r
  replay_once {q} {r} v w = go (told v) (told w)
    where
      go : Told q → Told r → q ≡ r
      go (early x) (early y) = same_refusal (sym x ∙ y)
      go (early x) (event s y) = absurd (refused (sym x ∙ shelf_opens s))
      go (event s x) (early y) = absurd (refused (sym y ∙ shelf_opens s))
      go (event s x) (event t y) = stops_once c a.labels x y
