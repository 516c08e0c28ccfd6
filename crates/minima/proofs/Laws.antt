-- The laws of a tree of least keys: a change moves one key and leaves every place with the least of those under it, and place 1 has the least key. Assumes nothing.
use Prim.Native.Nat.{ℕ, zero, suc, ◌+◌, ◌*◌, ◌/◌, ◌%◌, ◌≤◌, ◌<◌, min}
use mathlib.Core.Path.{◌≡◌, refl, sym, ◌∙◌, ap, ap₂, subst}
use mathlib.Core.Logic.{◌≢◌}
use mathlib.Core.List.{List, [], ◌∷◌}
use native.Mathlib.Omega.{arith}
use native.Mathlib.Decide.{ℕ_discrete}
use lib.ListN.{length, get_or, set, replicate, length-set, length-replicate}
use lib.Seq.{get_or-set_same, get_or-set_other, set-set}
use Rattle.minima.specs.Minima.{none, PowerOfFour, four, times, leaves, key_in, least_from, least_key, least_under, Grouped, lower_at, lower_up, lowered, again, again_up, raised}

pub least_at_most : (q : List ℕ) (at k : ℕ) → least_from q at k ≤ none
unfolding least_from
least_at_most q at zero = omega arith
least_at_most q at (suc k) = omega (arith, least_at_most q at k)

-- the least of some places is at most each of them, and at least what is at most all of them
pub least_lower : (q : List ℕ) (at k i : ℕ) → i < k → least_from q at k ≤ get_or q (at + i) 0
unfolding least_from
least_lower q at zero i h = absurd (omega arith)
least_lower q at (suc k) i h = go (least_lower q at k i) (ℕ_discrete i k)
  where
    go : (i < k → least_from q at k ≤ get_or q (at + i) 0) → Dec (i ≡ k) → least_from q at (suc k) ≤ get_or q (at + i) 0
    go r (yes e) = omega (arith, ap (λ (z : ℕ). get_or q (at + z) 0) e)
    go r (no n) = omega (arith, r (omega arith))

pub least_greatest : (q : List ℕ) (at k x : ℕ) → x ≤ none → ((i : ℕ) → i < k → x ≤ get_or q (at + i) 0) → x ≤ least_from q at k
unfolding least_from
least_greatest q at zero x h f = h
least_greatest q at (suc k) x h f = omega (arith, least_greatest q at k x h (λ i l. f i (omega arith)), f k (omega arith))

-- The least of all --------------------------------------------------------------------------------------------------------------------------------------

min_assoc : (a b c : ℕ) → min (min a b) c ≡ min a (min b c)
min_assoc a b c = omega arith

-- four places more
four_more : (q : List ℕ) (at k : ℕ) → least_from q (4 * at) (4 * suc k) ≡ min (least_from q (4 * at) (4 * k)) (least_under q (at + k))
unfolding least_from
four_more q at k =
    let e : 4 * suc k ≡ suc (suc (suc (suc (4 * k)))) = omega arith in
    let a : 4 * at + 4 * k ≡ 4 * (at + k) = omega arith in
    let b : 4 * at + suc (4 * k) ≡ 4 * (at + k) + 1 = omega arith in
    let c : 4 * at + suc (suc (4 * k)) ≡ 4 * (at + k) + 2 = omega arith in
    let d : 4 * at + suc (suc (suc (4 * k))) ≡ 4 * (at + k) + 3 = omega arith in
    let l = least_from q (4 * at) (4 * k) in
    ap (least_from q (4 * at)) e
    ∙ ap (λ (z : ℕ). min (min z (get_or q (4 * at + suc (suc (4 * k))) 0)) (get_or q (4 * at + suc (suc (suc (4 * k)))) 0)) (min_assoc l _ _)
    ∙ min_assoc _ _ _
    ∙ min_assoc l _ _
    ∙ ap (min l) (ap₂ min (ap₂ min (ap (λ (i : ℕ). get_or q i 0) a) (ap (λ (i : ℕ). get_or q i 0) b)) (ap₂ min (ap (λ (i : ℕ). get_or q i 0) c) (ap (λ (i : ℕ). get_or q i 0) d)))

-- the least of some places is the least of all places under them
under : (q : List ℕ) (at k : ℕ) → ((i : ℕ) → i < k → get_or q (at + i) 0 ≡ least_under q (at + i)) → least_from q at k ≡ least_from q (4 * at) (4 * k)
unfolding least_from
under q at zero f = refl
under q at (suc k) f = ap₂ min (under q at k (λ i h. f i (omega arith))) (f k (omega arith)) ∙ sym (four_more q at k)

root : (q : List ℕ) (l : ℕ) → ((i : ℕ) → 0 < i → 2 * i < l → get_or q i 0 ≡ least_under q i) → (k : ℕ) → PowerOfFour k → k ≤ l → least_from q 1 1 ≡ least_from q k k
root q l f k four h = under q 1 1 (λ i j. f (1 + i) (omega arith) (omega arith))
root q l f _ (times {k = k} p) h = root q l f k p (omega arith) ∙ under q k k (λ i j. f (k + i) (omega (arith, positive p)) (omega arith))
  where
    positive : {j : ℕ} → PowerOfFour j → 0 < j
    positive four = omega arith
    positive (times p) = omega (arith, positive p)

pub least_key_lem : {q : List ℕ} → Grouped q → get_or q 1 0 ≡ least_key q
unfolding least_from
least_key_lem {q} g = let r = root q (leaves q) g.least (leaves q) g.power (omega arith) in omega (arith, r, g.low 1)

-- One place changed -------------------------------------------------------------------------------------------------------------------------------------

set_self : (q : List ℕ) (i : ℕ) → set q i (get_or q i 0) ≡ q
set_self [] i = refl
set_self (x ∷ q) zero = refl
set_self (x ∷ q) (suc i) = ap (λ (z : List ℕ). x ∷ z) (set_self q i)

-- a place that is not under place j leaves the least of those under it
under_other : (q : List ℕ) (i x j : ℕ) → i / 4 ≢ j → least_under (set q i x) j ≡ least_under q j
under_other q i x j n =
    let a : get_or (set q i x) (4 * j) 0 ≡ get_or q (4 * j) 0 = get_or-set_other q i (4 * j) x 0 (λ e. n (omega arith)) in
    let b : get_or (set q i x) (4 * j + 1) 0 ≡ get_or q (4 * j + 1) 0 = get_or-set_other q i (4 * j + 1) x 0 (λ e. n (omega arith)) in
    let c : get_or (set q i x) (4 * j + 2) 0 ≡ get_or q (4 * j + 2) 0 = get_or-set_other q i (4 * j + 2) x 0 (λ e. n (omega arith)) in
    let d : get_or (set q i x) (4 * j + 3) 0 ≡ get_or q (4 * j + 3) 0 = get_or-set_other q i (4 * j + 3) x 0 (λ e. n (omega arith)) in
    ap₂ min (ap₂ min a b) (ap₂ min c d)

-- the least of four is at most each of them
under_lower : (q : List ℕ) (i : ℕ) → least_under q (i / 4) ≤ get_or q i 0
under_lower q i = go (i % 4) refl
  where
    at : (j : ℕ) → j ≡ i → get_or q j 0 ≡ get_or q i 0
    at j e = ap (λ (z : ℕ). get_or q z 0) e

    go : (r : ℕ) → i % 4 ≡ r → least_under q (i / 4) ≤ get_or q i 0
    go zero e = omega (arith, at (4 * (i / 4)) (omega arith))
    go (suc zero) e = omega (arith, at (4 * (i / 4) + 1) (omega arith))
    go (suc (suc zero)) e = omega (arith, at (4 * (i / 4) + 2) (omega arith))
    go (suc (suc (suc zero))) e = omega (arith, at (4 * (i / 4) + 3) (omega arith))
    go (suc (suc (suc (suc r)))) e = absurd (omega arith)

lower_first : (a b x : ℕ) → min (min a x) b ≡ min (min a b) x
lower_first a b x = omega arith

lower_last : (a b x : ℕ) → min a (min b x) ≡ min (min a b) x
lower_last a b x = omega arith

-- a place is lowered, and with it the least of the four that it is one of
under_same : (q : List ℕ) (i x : ℕ) → i < length q → least_under (lower_at q i x) (i / 4) ≡ min (least_under q (i / 4)) x
under_same q i x h = go (i % 4) refl
  where
    at : ℕ → ℕ
    at j = get_or q j 0

    hit : (j : ℕ) → j ≡ i → get_or (lower_at q i x) j 0 ≡ min (at j) x
    hit j e = ap (λ (z : ℕ). get_or (lower_at q i x) z 0) e ∙ get_or-set_same q i (min (at i) x) 0 h ∙ ap (λ (z : ℕ). min (at z) x) (sym e)

    miss : (j : ℕ) → j ≢ i → get_or (lower_at q i x) j 0 ≡ at j
    miss j n = get_or-set_other q i j (min (at i) x) 0 n

    p : ℕ
    p = i / 4

    go : (r : ℕ) → i % 4 ≡ r → least_under (lower_at q i x) (i / 4) ≡ min (least_under q (i / 4)) x
    go zero e =
        ap₂ min (ap₂ min (hit (4 * p) (omega arith)) (miss (4 * p + 1) (λ z. omega arith)) ∙ lower_first (at (4 * p)) (at (4 * p + 1)) x)
        (ap₂ min (miss (4 * p + 2) (λ z. omega arith)) (miss (4 * p + 3) (λ z. omega arith)))
        ∙ lower_first _ _ x
    go (suc zero) e =
        ap₂ min (ap₂ min (miss (4 * p) (λ z. omega arith)) (hit (4 * p + 1) (omega arith)) ∙ lower_last (at (4 * p)) (at (4 * p + 1)) x)
        (ap₂ min (miss (4 * p + 2) (λ z. omega arith)) (miss (4 * p + 3) (λ z. omega arith)))
        ∙ lower_first _ _ x
    go (suc (suc zero)) e =
        ap₂ min (ap₂ min (miss (4 * p) (λ z. omega arith)) (miss (4 * p + 1) (λ z. omega arith)))
        (ap₂ min (hit (4 * p + 2) (omega arith)) (miss (4 * p + 3) (λ z. omega arith)) ∙ lower_first (at (4 * p + 2)) (at (4 * p + 3)) x)
        ∙ lower_last _ _ x
    go (suc (suc (suc zero))) e =
        ap₂ min (ap₂ min (miss (4 * p) (λ z. omega arith)) (miss (4 * p + 1) (λ z. omega arith)))
        (ap₂ min (miss (4 * p + 2) (λ z. omega arith)) (hit (4 * p + 3) (omega arith)) ∙ lower_last (at (4 * p + 2)) (at (4 * p + 3)) x)
        ∙ lower_last _ _ x
    go (suc (suc (suc (suc r)))) e = absurd (omega arith)

-- Lowering a key ----------------------------------------------------------------------------------------------------------------------------------------

-- a tree with l keys in which every place but i has the least of those under it, and i has it once it is lowered to x
pub record Lowering (l : ℕ) (q : List ℕ) (i x : ℕ) : Type 0 where
  pub sized : length q ≡ 2 * l
  pub low : (j : ℕ) → get_or q j 0 ≤ none
  pub least : (j : ℕ) → 0 < j → 2 * j < l → j ≢ i → get_or q j 0 ≡ least_under q j
  pub here : 0 < i → 2 * i < l → least_under q i ≡ min (get_or q i 0) x

module _ {l : ℕ} {q : List ℕ} {i x : ℕ} (r : Lowering l q i x) (o : 0 < i) (h : i < 2 * l) where
  same : get_or (lower_at q i x) i 0 ≡ min (get_or q i 0) x
  same = get_or-set_same q i (min (get_or q i 0) x) 0 (omega (arith, r.sized))

  other : (j : ℕ) → j ≢ i → get_or (lower_at q i x) j 0 ≡ get_or q j 0
  other j n = get_or-set_other q i j (min (get_or q i 0) x) 0 n

  -- the next place above
  pub lowering_up : Lowering l (lower_at q i x) (i / 4) x
  lowering_up = record {
    sized = length-set q i (min (get_or q i 0) x) ∙ r.sized;
    low = λ j. low j (ℕ_discrete j i);
    least = λ j a b n. least j a b n (ℕ_discrete j i);
    here = λ a b. under_same q i x (omega (arith, r.sized)) ∙ ap (λ (z : ℕ). min z x) (sym (other (i / 4) (λ e. omega arith) ∙ r.least (i / 4) a b (λ e. omega arith)));
  }
    where
      low : (j : ℕ) → Dec (j ≡ i) → get_or (lower_at q i x) j 0 ≤ none
      low j (yes e) = omega (arith, ap (λ (z : ℕ). get_or (lower_at q i x) z 0) e, same, r.low i)
      low j (no n) = omega (arith, other j n, r.low j)

      least : (j : ℕ) → 0 < j → 2 * j < l → j ≢ i / 4 → Dec (j ≡ i) → get_or (lower_at q i x) j 0 ≡ least_under (lower_at q i x) j
      least j a b n (yes e) =
          ap (λ (z : ℕ). get_or (lower_at q i x) z 0) e ∙ same ∙ sym (r.here o (omega arith)) ∙ sym (under_other q i (min (get_or q i 0) x) i (λ f. omega arith)) ∙ ap (least_under (lower_at q i x)) (sym e)
      least j a b n (no m) = other j m ∙ r.least j a b m ∙ sym (under_other q i (min (get_or q i 0) x) j (λ f. n (sym f)))

-- the end of the way up
lower_none : (k : ℕ) (q : List ℕ) (x : ℕ) → lower_up k q 0 x ≡ q
unfolding lower_up
lower_none zero q x = refl
lower_none (suc k) q x = refl

lower_more : (k : ℕ) (q : List ℕ) (i x : ℕ) → 0 < i → lower_up (suc k) q i x ≡ lower_up k (lower_at q i x) (i / 4) x
unfolding lower_up
lower_more k q zero x h = absurd (omega arith)
lower_more k q (suc i) x h = refl

-- nothing changes from a place on that is not above x
idle : {l : ℕ} {q : List ℕ} {x : ℕ} → ((j : ℕ) → 0 < j → 2 * j < l → get_or q j 0 ≡ least_under q j) → (k i : ℕ) → i < 2 * l → (0 < i → get_or q i 0 ≤ x) → lower_up k q i x ≡ q
unfolding lower_up
idle {l} {q} {x} f zero i h s = refl
idle {l} {q} {x} f (suc k) zero h s = refl
idle {l} {q} {x} f (suc k) (suc i) h s =
    let b : get_or q (suc i) 0 ≤ x = s (omega arith) in
    let m : min (get_or q (suc i) 0) x ≡ get_or q (suc i) 0 = omega arith in
    let e : lower_at q (suc i) x ≡ q = ap (set q (suc i)) m ∙ set_self q (suc i) in
    ap (λ (z : List ℕ). lower_up k z (suc i / 4) x) e
    ∙ idle {l = l} {q = q} {x = x} f k (suc i / 4) (omega arith) (λ o. omega (arith, f (suc i / 4) o (omega arith), under_lower q (suc i), b))

lower_length : (k : ℕ) (q : List ℕ) (i x : ℕ) → length (lower_up k q i x) ≡ length q
unfolding lower_up
lower_length zero q i x = refl
lower_length (suc k) q zero x = refl
lower_length (suc k) q (suc i) x = lower_length k (lower_at q (suc i) x) (suc i / 4) x ∙ length-set q (suc i) (min (get_or q (suc i) 0) x)

-- places behind i stay
lower_behind : (k : ℕ) (q : List ℕ) (i x j : ℕ) → i < j → get_or (lower_up k q i x) j 0 ≡ get_or q j 0
unfolding lower_up
lower_behind zero q i x j h = refl
lower_behind (suc k) q zero x j h = refl
lower_behind (suc k) q (suc i) x j h =
    lower_behind k (lower_at q (suc i) x) (suc i / 4) x j (omega arith) ∙ get_or-set_other q (suc i) j (min (get_or q (suc i) 0) x) 0 (λ e. omega arith)

lower_up_lem : (l k : ℕ) (q : List ℕ) (i x : ℕ) → i ≤ k → i < 2 * l → Lowering l q i x → Lowering l (lower_up k q i x) 0 x
unfolding lower_up
lower_up_lem l zero q i x m h r = let z : i ≡ 0 = omega arith in subst (λ (j : ℕ). Lowering l q j x) z r
lower_up_lem l (suc k) q zero x m h r = r
lower_up_lem l (suc k) q (suc i) x m h r = lower_up_lem l k (lower_at q (suc i) x) (suc i / 4) x (omega arith) (omega arith) (lowering_up r (omega arith) h)

-- places between are told by the first step
lower_first_step : (k : ℕ) (q : List ℕ) (i x j : ℕ) → 0 < i → i ≤ k → i / 4 < j → get_or (lower_up k q i x) j 0 ≡ get_or (lower_at q i x) j 0
lower_first_step zero q i x j o m h = absurd (omega arith)
lower_first_step (suc k) q i x j o m h = ap (λ (z : List ℕ). get_or z j 0) (lower_more k q i x o) ∙ lower_behind k (lower_at q i x) (i / 4) x j h

pub power_some : {k : ℕ} → PowerOfFour k → 4 ≤ k
power_some four = omega arith
power_some (times p) = omega (arith, power_some p)

power_even : {k : ℕ} → PowerOfFour k → k % 2 ≡ 0
power_even four = refl
power_even (times p) = omega arith

module _ {q : List ℕ} (v x : ℕ) (g : Grouped q) (h : v < leaves q) where
  -- before the key is lowered
  pub lowering : Lowering (leaves q) q (leaves q + v) x
  lowering = record { sized = g.sized; low = g.low; least = λ j a b n. g.least j a b; here = λ a b. absurd (omega arith) }

  pub lowered-length : length (lowered q v x) ≡ length q
  unfolding lowered
  lowered-length = lower_length (length q) q (leaves q + v) x

  lowered-leaves : leaves (lowered q v x) ≡ leaves q
  lowered-leaves = ap (λ (z : ℕ). z / 2) lowered-length

  key_at : (u : ℕ) → u < leaves q → key_in (lowered q v x) u ≡ get_or (lower_at q (leaves q + v) x) (leaves q + u) 0
  unfolding lowered
  key_at u k =
      let e : leaves (lowered q v x) + u ≡ leaves q + u = ap (λ (z : ℕ). z + u) lowered-leaves in
      ap (λ (z : ℕ). get_or (lowered q v x) z 0) e ∙ lower_first_step (length q) q (leaves q + v) x (leaves q + u) (omega (arith, power_some g.power)) (omega (arith, g.sized)) (omega arith)

  pub lowered_other : (u : ℕ) → u < leaves q → u ≢ v → key_in (lowered q v x) u ≡ key_in q u
  lowered_other u k n = key_at u k ∙ get_or-set_other q (leaves q + v) (leaves q + u) (min (key_in q v) x) 0 (λ e. n (omega arith))

  pub lowered_same : key_in (lowered q v x) v ≡ min (key_in q v) x
  lowered_same = key_at v h ∙ get_or-set_same q (leaves q + v) (min (key_in q v) x) 0 (omega (arith, g.sized))

  pub lowered_grouped : Grouped (lowered q v x)
  unfolding lowered
  lowered_grouped =
      let r = lower_up_lem (leaves q) (length q) q (leaves q + v) x (omega (arith, g.sized)) (omega arith) lowering in
      let e = sym lowered-leaves in
      record {
        power = subst PowerOfFour e g.power;
        sized = r.sized ∙ ap (λ (z : ℕ). 2 * z) e;
        low = r.low;
        least = λ j a b. r.least j a (omega (arith, lowered-leaves)) (λ z. omega arith);
      }

-- the way up so far, and what is left of it
pub record Left (q : List ℕ) (v x : ℕ) (q' : List ℕ) (i : ℕ) : Type 0 where
  pub lowering : Lowering (leaves q) q' i x
  pub inside : i < 2 * leaves q
  pub steps : ℕ
  pub enough : i ≤ steps
  pub left : lower_up steps q' i x ≡ lowered q v x

pub left_all : {q : List ℕ} (v x : ℕ) → Grouped q → v < leaves q → Left q v x q (leaves q + v)
unfolding lowered
left_all {q} v x g h = record { lowering = lowering v x g h; inside = omega arith; steps = length q; enough = omega (arith, g.sized); left = refl }

module _ {q : List ℕ} {v x : ℕ} {q' : List ℕ} {i : ℕ} (t : Left q v x q' i) where
  pub left_inside : i < length q'
  left_inside = omega (arith, t.inside, t.lowering.sized)

  -- a place above x gets x
  pub left_up : 0 < i → x < get_or q' i 0 → Left q v x (set q' i x) (i / 4)
  left_up o b = go t.steps t.enough t.left
    where
      m : set q' i x ≡ lower_at q' i x
      m = let e : x ≡ min (get_or q' i 0) x = omega arith in ap (set q' i) e

      go : (k : ℕ) → i ≤ k → lower_up k q' i x ≡ lowered q v x → Left q v x (set q' i x) (i / 4)
      go zero a e = absurd (omega arith)
      go (suc k) a e = record {
        lowering = subst (λ (z : List ℕ). Lowering (leaves q) z (i / 4) x) (sym m) (lowering_up t.lowering o t.inside);
        inside = omega (arith, t.inside);
        steps = k;
        enough = omega arith;
        left = ap (λ (z : List ℕ). lower_up k z (i / 4) x) m ∙ sym (lower_more k q' i x o) ∙ e;
      }

  -- a place that is not above x: so is none above it
  pub left_idle : 0 < i → get_or q' i 0 ≤ x → q' ≡ lowered q v x
  left_idle o b = sym (idle {l = leaves q} {q = q'} {x = x} (λ j a c. all j a c (ℕ_discrete j i)) t.steps i t.inside (λ _. b)) ∙ t.left
    where
      all : (j : ℕ) → 0 < j → 2 * j < leaves q → Dec (j ≡ i) → get_or q' j 0 ≡ least_under q' j
      all j a c (yes e) =
          let n : min (get_or q' i 0) x ≡ get_or q' i 0 = omega arith in
          ap (λ (z : ℕ). get_or q' z 0) e ∙ sym n ∙ sym (t.lowering.here o (omega arith)) ∙ ap (least_under q') (sym e)
      all j a c (no n) = t.lowering.least j a c n

  -- the end
  pub left_none : i ≡ 0 → q' ≡ lowered q v x
  left_none e = sym (ap (λ (z : ℕ). lower_up t.steps q' z x) e ∙ lower_none t.steps q' x) ∙ t.left

-- Taking a key out --------------------------------------------------------------------------------------------------------------------------------------

-- a tree with l keys in which every place but i has the least of those under it
record Mending (l : ℕ) (q : List ℕ) (i : ℕ) : Type 0 where
  sized : length q ≡ 2 * l
  low : (j : ℕ) → get_or q j 0 ≤ none
  least : (j : ℕ) → 0 < j → 2 * j < l → j ≢ i → get_or q j 0 ≡ least_under q j

-- a place set is again that of a tree but for the place above it
mending_set : {l : ℕ} {q : List ℕ} {i x : ℕ} → Mending l q i → 0 < i → i < 2 * l → x ≤ none → (2 * i < l → x ≡ least_under q i) → Mending l (set q i x) (i / 4)
mending_set {l} {q} {i} {x} r o h n f = record { sized = length-set q i x ∙ r.sized; low = λ j. low j (ℕ_discrete j i); least = λ j a b m. least j a b m (ℕ_discrete j i) }
  where
    same : get_or (set q i x) i 0 ≡ x
    same = get_or-set_same q i x 0 (omega (arith, r.sized))

    low : (j : ℕ) → Dec (j ≡ i) → get_or (set q i x) j 0 ≤ none
    low j (yes e) = omega (arith, ap (λ (z : ℕ). get_or (set q i x) z 0) e, same)
    low j (no m) = omega (arith, get_or-set_other q i j x 0 m, r.low j)

    least : (j : ℕ) → 0 < j → 2 * j < l → j ≢ i / 4 → Dec (j ≡ i) → get_or (set q i x) j 0 ≡ least_under (set q i x) j
    least j a b m (yes e) =
        ap (λ (z : ℕ). get_or (set q i x) z 0) e ∙ same ∙ f (omega arith) ∙ sym (under_other q i x i (λ z. omega arith)) ∙ ap (least_under (set q i x)) (sym e)
    least j a b m (no d) = get_or-set_other q i j x 0 d ∙ r.least j a b d ∙ sym (under_other q i x j (λ z. m (sym z)))

again-none : (k : ℕ) (q : List ℕ) → again_up k q 0 ≡ q
unfolding again_up
again-none zero q = refl
again-none (suc k) q = refl

again_more : (k : ℕ) (q : List ℕ) (i : ℕ) → 0 < i → again_up (suc k) q i ≡ again_up k (again q i) (i / 4)
unfolding again_up
again_more k q zero h = absurd (omega arith)
again_more k q (suc i) h = refl

again-length : (k : ℕ) (q : List ℕ) (i : ℕ) → length (again_up k q i) ≡ length q
unfolding again_up
again-length zero q i = refl
again-length (suc k) q zero = refl
again-length (suc k) q (suc i) = again-length k (again q (suc i)) (suc i / 4) ∙ length-set q (suc i) (least_under q (suc i))

again_behind : (k : ℕ) (q : List ℕ) (i j : ℕ) → i < j → get_or (again_up k q i) j 0 ≡ get_or q j 0
unfolding again_up
again_behind zero q i j h = refl
again_behind (suc k) q zero j h = refl
again_behind (suc k) q (suc i) j h = again_behind k (again q (suc i)) (suc i / 4) j (omega arith) ∙ get_or-set_other q (suc i) j (least_under q (suc i)) 0 (λ e. omega arith)

again_up_lem : (l k : ℕ) (q : List ℕ) (i : ℕ) → i ≤ k → 2 * i < l → Mending l q i → Mending l (again_up k q i) 0
unfolding again_up
again_up_lem l zero q i m h r = let z : i ≡ 0 = omega arith in subst (Mending l q) z r
again_up_lem l (suc k) q zero m h r = r
again_up_lem l (suc k) q (suc i) m h r =
    again_up_lem l k (again q (suc i)) (suc i / 4) (omega arith) (omega arith)
    (mending_set r (omega arith) (omega arith) (omega (arith, r.low (4 * suc i))) (λ _. refl))

module _ (q : List ℕ) (v : ℕ) (g : Grouped q) (h : v < leaves q) where
  -- the key is gone, and nothing above it is mended
  mending_first : Mending (leaves q) (set q (leaves q + v) none) ((leaves q + v) / 4)
  mending_first =
      let p = power_some g.power in
      let b : Mending (leaves q) q (leaves q + v) = record { sized = g.sized; low = g.low; least = λ j a c n. g.least j a c } in
      mending_set {x = none} b (omega arith) (omega arith) (omega arith) (λ c. absurd (omega arith))

  pub raised-length : length (raised q v) ≡ length q
  unfolding raised
  raised-length = again-length (length q) (set q (leaves q + v) none) ((leaves q + v) / 4) ∙ length-set q (leaves q + v) none

  raised-leaves : leaves (raised q v) ≡ leaves q
  raised-leaves = ap (λ (z : ℕ). z / 2) raised-length

  raised_at : (u : ℕ) → u < leaves q → key_in (raised q v) u ≡ get_or (set q (leaves q + v) none) (leaves q + u) 0
  unfolding raised
  raised_at u k =
      let e : leaves (raised q v) + u ≡ leaves q + u = ap (λ (z : ℕ). z + u) raised-leaves in
      ap (λ (z : ℕ). get_or (raised q v) z 0) e ∙ again_behind (length q) (set q (leaves q + v) none) ((leaves q + v) / 4) (leaves q + u) (omega arith)

  pub raised_other : (u : ℕ) → u < leaves q → u ≢ v → key_in (raised q v) u ≡ key_in q u
  raised_other u k n = raised_at u k ∙ get_or-set_other q (leaves q + v) (leaves q + u) none 0 (λ e. n (omega arith))

  pub raised_same : key_in (raised q v) v ≡ none
  raised_same = raised_at v h ∙ get_or-set_same q (leaves q + v) none 0 (omega (arith, g.sized))

  pub raised_grouped : Grouped (raised q v)
  unfolding raised
  raised_grouped =
      let i = leaves q + v in
      let r = again_up_lem (leaves q) (length q) (set q i none) (i / 4) (omega (arith, g.sized)) (omega arith) mending_first in
      let e = sym raised-leaves in
      record {
        power = subst PowerOfFour e g.power;
        sized = r.sized ∙ ap (λ (z : ℕ). 2 * z) e;
        low = r.low;
        least = λ j a c. r.least j a (omega (arith, raised-leaves)) (λ z. omega arith);
      }

-- the way up from place i₀ so far, and what is left of it
pub record Rising (q : List ℕ) (i₀ : ℕ) (q' : List ℕ) (i : ℕ) : Type 0 where
  pub sized : length q' ≡ length q
  pub inside : 4 * i + 3 < length q
  pub steps : ℕ
  pub enough : i ≤ steps
  pub left : again_up steps q' i ≡ again_up (length q) q i₀

pub rising_all : (q : List ℕ) (v : ℕ) → Grouped q → v < leaves q → Rising (set q (leaves q + v) none) ((leaves q + v) / 4) (set q (leaves q + v) none) ((leaves q + v) / 4)
rising_all q v g h =
    let s = length-set q (leaves q + v) none in
    let e = power_even g.power in
    record { sized = refl; inside = omega (arith, s, g.sized, e); steps = length (set q (leaves q + v) none); enough = omega (arith, s, g.sized); left = refl }

pub rising_under : {q : List ℕ} {i₀ : ℕ} {q' : List ℕ} {i : ℕ} → Rising q i₀ q' i → 4 * i + 3 < length q'
rising_under t = omega (arith, t.inside, t.sized)

rising_up : {q : List ℕ} {i₀ : ℕ} {q' : List ℕ} {i : ℕ} → Rising q i₀ q' i → 0 < i → {x : ℕ} → x ≡ least_under q' i → Rising q i₀ (set q' i x) (i / 4)
rising_up {q} {i₀} {q'} {i} t o {x} y = go t.steps t.enough t.left
  where
    go : (k : ℕ) → i ≤ k → again_up k q' i ≡ again_up (length q) q i₀ → Rising q i₀ (set q' i x) (i / 4)
    go zero a e = absurd (omega arith)
    go (suc k) a e = record {
      sized = length-set q' i x ∙ t.sized;
      inside = omega (arith, t.inside);
      steps = k;
      enough = omega arith;
      left = ap (λ (z : ℕ). again_up k (set q' i z) (i / 4)) y ∙ sym (again_more k q' i o) ∙ e;
    }

rising_none : (q : List ℕ) (v : ℕ) {q' : List ℕ} {i : ℕ} → Rising (set q (leaves q + v) none) ((leaves q + v) / 4) q' i → i ≡ 0 → q' ≡ raised q v
unfolding raised
rising_none q v {q'} t e =
    sym (ap (again_up t.steps q') e ∙ again-none t.steps q') ∙ t.left
    ∙ ap (λ (z : ℕ). again_up z (set q (leaves q + v) none) ((leaves q + v) / 4)) (length-set q (leaves q + v) none)

-- a way up as in `Rising`, with what place i is to get carried and not stored yet
pub record Climbing (q : List ℕ) (i₀ : ℕ) (q' : List ℕ) (i least : ℕ) : Type 0 where
  pub some : 0 < i
  pub inside : i < length q'
  pub sized : length q' ≡ length q
  pub low : least ≤ none
  pub rising : Rising q i₀ (set q' i least) (i / 4)

min-low : (a b : ℕ) → a ≤ none → min a b ≤ none
min-low a b h = omega arith

under_low : (q : List ℕ) (i : ℕ) → get_or q (4 * i) 0 ≤ none → least_under q i ≤ none
under_low q i h = min-low _ _ (min-low _ _ h)

pub climbing_first : (q : List ℕ) (v : ℕ) → Grouped q → v < leaves q → {x : ℕ} → x ≡ least_under (set q (leaves q + v) none) ((leaves q + v) / 4)
    → Climbing (set q (leaves q + v) none) ((leaves q + v) / 4) (set q (leaves q + v) none) ((leaves q + v) / 4) x
climbing_first q v g h y =
    let o : 0 < (leaves q + v) / 4 = omega (arith, power_some g.power) in
    let s = length-set q (leaves q + v) none in
    let l = under_low (set q (leaves q + v) none) ((leaves q + v) / 4) ((mending_first q v g h).low _) in
    record { some = o; inside = omega (arith, s, g.sized); sized = refl; low = subst (λ (z : ℕ). z ≤ none) (sym y) l; rising = rising_up (rising_all q v g h) o y }

-- the least of four is the lesser of one of them and of their least with none in its place
least_of_others : (q : List ℕ) (i x : ℕ) → i < length q → x ≤ none → least_under (set q i x) (i / 4) ≡ min (least_under (set q i none) (i / 4)) x
least_of_others q i x h n =
    let e : min (get_or (set q i none) i 0) x ≡ x = ap (λ (z : ℕ). min z x) (get_or-set_same q i none 0 h) ∙ lesser in
    ap (λ (r : List ℕ). least_under r (i / 4)) (sym (ap (set (set q i none) i) e ∙ set-set q i none x))
    ∙ under_same (set q i none) i x (omega (arith, length-set q i none))
  where
    lesser : min none x ≡ x
    lesser = omega arith

module _ {q : List ℕ} {i₀ : ℕ} {q' : List ℕ} {i least : ℕ} (t : Climbing q i₀ q' i least) where
  pub climbing_under : 4 * (i / 4) + 3 < length (set q' i none)
  climbing_under = omega (arith, rising_under t.rising, length-set q' i least, length-set q' i none)

  pub climbing_up : 3 < i → {others x : ℕ} → others ≡ least_under (set q' i none) (i / 4) → x ≡ min least others → Climbing q i₀ (set (set q' i none) i least) (i / 4) x
  climbing_up o {others} {x} y m =
      let e = set-set q' i none least in
      let s = length-set q' i least in
      let n : x ≡ least_under (set q' i least) (i / 4) = m ∙ turned ∙ ap (λ (z : ℕ). min z least) y ∙ sym (least_of_others q' i least t.inside t.low) in
      subst (λ (r : List ℕ). Climbing q i₀ r (i / 4) x) (sym e) (record {
        some = omega arith;
        inside = omega (arith, t.inside, s);
        sized = s ∙ t.sized;
        low = subst (λ (z : ℕ). z ≤ none) (sym m) (min-low least others t.low);
        rising = rising_up t.rising (omega arith) n;
      })
    where
      turned : min least others ≡ min others least
      turned = omega arith

pub climbing_none : (q : List ℕ) (v : ℕ) {q' : List ℕ} {i least : ℕ} → Climbing (set q (leaves q + v) none) ((leaves q + v) / 4) q' i least → i ≤ 3 → set q' i least ≡ raised q v
climbing_none q v t h = rising_none q v t.rising (omega arith)

-- No key ------------------------------------------------------------------------------------------------------------------------------------------------

get_d_replicate : (n x i : ℕ) → i < n → get_or (replicate n x) i 0 ≡ x
get_d_replicate zero x i h = absurd (omega arith)
get_d_replicate (suc n) x zero h = refl
get_d_replicate (suc n) x (suc i) h = get_d_replicate n x i (omega arith)

get_or-low : (n i : ℕ) → get_or (replicate n none) i 0 ≤ none
get_or-low zero i = omega arith
get_or-low (suc n) zero = omega arith
get_or-low (suc n) (suc i) = get_or-low n i

module _ (n : ℕ) where
  blank_leaves : leaves (replicate (2 * n) none) ≡ n
  blank_leaves = let l = length-replicate (2 * n) none in omega (arith, l)

  pub no_keys : (v : ℕ) → v < n → key_in (replicate (2 * n) none) v ≡ none
  no_keys v h = get_d_replicate (2 * n) none (leaves (replicate (2 * n) none) + v) (omega (arith, blank_leaves))

  pub no_keys_grouped : PowerOfFour n → Grouped (replicate (2 * n) none)
  no_keys_grouped p = record {
    power = subst PowerOfFour (sym blank_leaves) p;
    sized = length-replicate (2 * n) none ∙ ap (λ (z : ℕ). 2 * z) (sym blank_leaves);
    low = get_or-low (2 * n);
    least = λ i a b. node i (omega (arith, blank_leaves));
  }
    where
      node : (i : ℕ) → 2 * i < n → get_or (replicate (2 * n) none) i 0 ≡ least_under (replicate (2 * n) none) i
      node i h =
          let e = power_even p in
          let at : (j : ℕ) → j < 2 * n → get_or (replicate (2 * n) none) j 0 ≡ none = get_d_replicate (2 * n) none in
          at i (omega arith)
          ∙ sym (ap₂ min (ap₂ min (at (4 * i) (omega arith)) (at (4 * i + 1) (omega arith))) (ap₂ min (at (4 * i + 2) (omega (arith, e))) (at (4 * i + 3) (omega (arith, e)))))
