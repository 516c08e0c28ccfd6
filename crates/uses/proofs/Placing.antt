-- Placing: the index while counts become offsets. Assumes nothing.
use mathlib.Core.Path.{◌≡◌, refl, sym, ◌∙◌, ap}
use mathlib.Core.List.{List}
use mathlib.Core.Logic.{⊎_elim}
use Prim.Native.Nat.{ℕ, zero, suc, ◌+◌, ◌*◌, ◌≤◌, ◌<◌}
use native.Mathlib.Numerals.{add-one}
use native.Mathlib.Nat.{eq-or-lt_of_le}
use native.Mathlib.Omega.{arith}
use lib.ListN.{length, get_or, set}
use lib.Dec.{ltb}
use borrow.Author.Tests.{ltb-true, ltb-false, lt-ltb, le-ltb}
use Rattle.weights.proofs.Lists.{true-or-false}
use Rattle.weights.specs.Choice.{pick}
use Rattle.uses.specs.Uses.{uses_below, use_list, pairs, use_offset, use_count}
use Rattle.uses.specs.Indexable.{mark_below, counted, running, placed}
use Rattle.uses.proofs.Pairs.{pairs_of, pairs_same, pairs_second, pair_set}
use Rattle.uses.proofs.Lists.{offset_next}

-- the pairs of the vertices below v are placed, and the others as they were
abbrev first : List ℕ → ℕ → ℕ → ℕ
first ix v u = pick (ltb u v) (running ix u) (get_or ix (2 * u) 0)

abbrev second : List ℕ → ℕ → ℕ → ℕ
second ix v u = pick (ltb u v) 0 (get_or ix (2 * u + 1) 0)

abbrev pub placed_to : List ℕ → ℕ → ℕ → List ℕ
placed_to ix v n = pairs (first ix v) (second ix v) n

pub place_none : (ix : List ℕ) (n : ℕ) → length ix ≡ 2 * n → ix ≡ placed_to ix 0 n
place_none ix n p =
    pairs_of n ix p
    ∙ pairs_same _ _ (first ix 0) (second ix 0) n (λ u h. rw (le-ltb u 0 (omega arith))) (λ u h. rw (le-ltb u 0 (omega arith)))

pub place_all : (ix : List ℕ) (n : ℕ) → placed_to ix n n ≡ placed ix n
place_all ix n = pairs_same (first ix n) (second ix n) (running ix) (λ v. 0) n (λ u h. rw (lt-ltb u n h)) (λ u h. rw (lt-ltb u n h))

pub running_mono : (ix : List ℕ) (v n : ℕ) → v ≤ n → running ix v ≤ running ix n
unfolding running
running_mono ix v zero h = let e : v ≡ 0 = omega arith in rw e (omega arith)
running_mono ix v (suc n) h = ⊎_elim (λ e. rw e (omega arith)) (λ l. let a = running_mono ix v n (omega arith) in omega arith) (eq-or-lt_of_le h)

pub running_next : (ix : List ℕ) (v : ℕ) → running ix (v + 1) ≡ running ix v + get_or ix (2 * v + 1) 0
unfolding running
running_next ix v = rw (add-one v)

module _ (ix : List ℕ) (v n : ℕ) (h : v < n) {now : List ℕ} (p : now ≡ placed_to ix v n) where
  pub place_count : get_or now (2 * v + 1) 0 ≡ get_or ix (2 * v + 1) 0
  place_count = rw p (pairs_second (first ix v) (second ix v) n v h ∙ rw (le-ltb v v (omega arith)))

  same : (u : ℕ) → (u ≡ v → ⊥) → ltb u v ≡ ltb u (v + 1)
  same u d = ⊎_elim
      (λ q. let l = ltb-true u v q in q ∙ sym (lt-ltb u (v + 1) (omega arith)))
      (λ q. let l = ltb-false u v q in q ∙ sym (le-ltb u (v + 1) (omega arith)))
      (true-or-false (ltb u v))

  pub place_more : (sum : ℕ) → sum ≡ running ix v → set (set now (2 * v) sum) (2 * v + 1) 0 ≡ placed_to ix (v + 1) n
  place_more sum q =
      ap (λ (z : List ℕ). set (set z (2 * v) sum) (2 * v + 1) 0) p
      ∙ pair_set (first ix v) (second ix v) n v h (first ix (v + 1)) (second ix (v + 1))
      (λ u d. rw (same u d))
      (λ u d. rw (same u d))
      sum 0
      (rw (lt-ltb v (v + 1) (omega arith)) q)
      (rw (lt-ltb v (v + 1) (omega arith)))

-- the sums of the counts are the offsets
pub running_offset : (tail : ℕ → List ℕ) (m n : ℕ) {ix : List ℕ} → ix ≡ counted tail m n → (v : ℕ) → v ≤ n → running ix v ≡ use_offset tail m v
unfolding running use_list
running_offset tail m n p zero h = refl
running_offset tail m n {ix} p (suc v) h =
    let c : get_or ix (2 * v + 1) 0 ≡ use_count tail m v = rw p (pairs_second (λ v. mark_below tail v m) (λ v. length (uses_below tail v m)) n v (omega arith)) in
    let r = running_offset tail m n p v (omega arith) in
    let o = offset_next tail m v in
    omega arith

pub placed_offsets : (tail : ℕ → List ℕ) (m n : ℕ) {ix : List ℕ} → ix ≡ counted tail m n → placed ix n ≡ pairs (use_offset tail m) (λ v. 0) n
placed_offsets tail m n {ix} p = pairs_same (running ix) (λ v. 0) (use_offset tail m) (λ v. 0) n (λ v h. running_offset tail m n p v (omega arith)) (λ v h. refl)
