-- Counting: the index while the vertices of a tail are passed. Assumes nothing.
use mathlib.Core.Path.{◌≡◌, refl, sym, ◌∙◌, ap, subst}
use mathlib.Core.List.{List, [], ◌∷◌, ◌++◌}
use mathlib.Core.Logic.{⊎_elim}
use mathlib.Core.Bool.{Bool, true, false}
use Prim.Native.Nat.{ℕ, zero, suc, ◌+◌, ◌*◌, ◌≤◌, ◌<◌}
use native.Mathlib.Numerals.{add-one}
use native.Mathlib.Omega.{arith}
use lib.ListN.{length, get_or, set, replicate, length-append, length-replicate, get_or-replicate}
use Rattle.weights.specs.Lists.{member}
use Rattle.weights.proofs.Lists.{true-or-false}
use Rattle.weights.specs.Choice.{pick}
use Rattle.columns.specs.Columns.{tail_of}
use Rattle.uses.specs.Uses.{uses_below, pairs, pairs_in}
use Rattle.uses.specs.Indexable.{Readable, Counting, mark_below, counted}
use Rattle.uses.proofs.Pairs.{pairs_ext, length_pairs, pairs_first, pairs_second, pair_set}
use Rattle.uses.proofs.Lists.{uses_few}
use Rattle.uses.proofs.Seen.{seen_in, uses_by, seen_now, seen_other, seen_again}

abbrev pub mark_by : (tail : ℕ → List ℕ) → ℕ → (ℕ → Bool) → ℕ → ℕ
mark_by tail e seen v = pick (seen v) (e + 1) (mark_below tail v e)

-- the index where the hyperedges below e are counted, and e for the vertices that were seen
abbrev pub counted_by : (tail : ℕ → List ℕ) → ℕ → (ℕ → Bool) → ℕ → List ℕ
counted_by tail e seen n = pairs (mark_by tail e seen) (λ v. length (uses_by tail e seen v)) n

mark_low : (tail : ℕ → List ℕ) (v k : ℕ) → mark_below tail v k ≤ k
unfolding mark_below
mark_low tail v zero = omega arith
mark_low tail v (suc k) = let l = mark_low tail v k in ⊎_elim (λ p. rw p (omega arith)) (λ p. rw p (omega arith)) (true-or-false (member v (tail k)))

-- nothing is counted before the first hyperedge
pub count_none : (tail : ℕ → List ℕ) (n k : ℕ) → k ≡ 2 * n → replicate k 0 ≡ counted tail 0 n
unfolding mark_below uses_below
count_none tail n k e =
    pairs_ext n (replicate k 0) (counted tail 0 n) (length-replicate k 0 ∙ e) (length_pairs (λ v. 0) (λ v. 0) n)
    (λ v h. get_or-replicate k (2 * v) 0 0 (omega arith) ∙ sym (pairs_first (λ v. 0) (λ v. 0) n v h))
    (λ v h. get_or-replicate k (2 * v + 1) 0 0 (omega arith) ∙ sym (pairs_second (λ v. 0) (λ v. 0) n v h))

-- no vertex is seen yet; every one is
pub count_first : (tail : ℕ → List ℕ) (e n : ℕ) → counted tail e n ≡ counted_by tail e (seen_in []) n
unfolding member
count_first tail e n = refl

pub count_last : (tail : ℕ → List ℕ) (e n : ℕ) → counted_by tail e (seen_in (tail e)) n ≡ counted tail (e + 1) n
unfolding uses_below mark_below
count_last tail e n = rw (add-one e)

-- a count fits
pub count_low : (tail : ℕ → List ℕ) (e : ℕ) (seen : ℕ → Bool) (v : ℕ) → length (uses_by tail e seen v) ≤ e + 1
count_low tail e seen v =
    let l = uses_few tail v e in
    ⊎_elim (λ p. rw p (simp length-append (omega arith))) (λ p. rw p (omega arith)) (true-or-false (seen v))

module _ (tail : ℕ → List ℕ) (e : ℕ) (vs : List ℕ) (w n : ℕ) (h : w < n) {ix : List ℕ} (p : ix ≡ counted_by tail e (seen_in vs) n) where
  mark_is : get_or ix (2 * w) 0 ≡ mark_by tail e (seen_in vs) w
  mark_is = rw p (pairs_first (mark_by tail e (seen_in vs)) (λ v. length (uses_by tail e (seen_in vs) v)) n w h)

  count_is : get_or ix (2 * w + 1) 0 ≡ length (uses_by tail e (seen_in vs) w)
  count_is = rw p (pairs_second (mark_by tail e (seen_in vs)) (λ v. length (uses_by tail e (seen_in vs) v)) n w h)

  pub count_fits : get_or ix (2 * w + 1) 0 ≤ e + 1
  count_fits = let c = count_is in let l = count_low tail e (seen_in vs) w in omega arith

  -- by its mark the vertex was seen, or it was not
  marked : get_or ix (2 * w) 0 ≡ e + 1 → member w vs ≡ true
  marked q = ⊎_elim (λ s. s) (λ s. absurd (let m : mark_below tail w e ≡ e + 1 = sym (rw s at mark_is) ∙ q in let l = mark_low tail w e in omega arith)) (true-or-false (member w vs))

  unmarked : (get_or ix (2 * w) 0 ≡ e + 1 → ⊥) → member w vs ≡ false
  unmarked d = ⊎_elim (λ s. absurd (d (rw s at mark_is))) (λ s. s) (true-or-false (member w vs))

  pub count_again : get_or ix (2 * w) 0 ≡ e + 1 → ix ≡ counted_by tail e (seen_in (vs ++ w ∷ [])) n
  count_again q = p ∙ ap (λ (s : ℕ → Bool). counted_by tail e s n) (sym (seen_again vs w (marked q)))

  pub count_new : (get_or ix (2 * w) 0 ≡ e + 1 → ⊥) → set (set ix (2 * w) (e + 1)) (2 * w + 1) (get_or ix (2 * w + 1) 0 + 1) ≡ counted_by tail e (seen_in (vs ++ w ∷ [])) n
  count_new d =
      let s = unmarked d in
      let c : get_or ix (2 * w + 1) 0 ≡ length (uses_below tail w e) = rw s at count_is in
      ap (λ (z : List ℕ). set (set z (2 * w) (e + 1)) (2 * w + 1) (get_or ix (2 * w + 1) 0 + 1)) p
      ∙ pair_set (mark_by tail e (seen_in vs)) (λ v. length (uses_by tail e (seen_in vs) v)) n w h (mark_by tail e (seen_in (vs ++ w ∷ []))) (λ v. length (uses_by tail e (seen_in (vs ++ w ∷ [])) v))
      (λ v o. rw (seen_other vs w v o))
      (λ v o. rw (seen_other vs w v o))
      (e + 1) (get_or ix (2 * w + 1) 0 + 1)
      (rw (seen_now vs w))
      (rw (seen_now vs w) (simp length-append (omega arith)))

-- what is asked of the columns, of the index as it is now
pub counting : {n i : ℕ} {spans tails index : List ℕ} → Readable n spans tails → i < pairs_in spans → pairs_in index ≡ n → index ≡ counted (tail_of spans tails) i n → Counting i spans tails index
counting {i = i} {spans} {tails} r h q p = record {
  readable = subst (λ (z : ℕ). Readable z spans tails) (sym q) r;
  numbered = h;
  counts = p ∙ ap (counted (tail_of spans tails) i) (sym q);
}
