-- The uses of a vertex as a list: exactly the hyperedges that list it, ascending; and where they stand in the list of all. Assumes nothing.
use mathlib.Core.Path.{◌≡◌, refl, sym, ◌∙◌, ap}
use mathlib.Core.List.{List, [], ◌∷◌, ◌++◌}
use mathlib.Core.Logic.{⊎_elim}
use mathlib.Core.Bool.{true, false}
use Prim.Native.Nat.{ℕ, zero, suc, ◌+◌, ◌≤◌, ◌<◌}
use native.Mathlib.Nat.{eq-or-lt_of_le}
use native.Mathlib.Omega.{arith}
use lib.ListN.{length, get_or, length-append, get_or-append}
use lib.Seq.{get_or_at, get_or-append-add}
use Rattle.weights.specs.Lists.{member}
use Rattle.weights.proofs.Lists.{true-or-false}
use Rattle.uses.proofs.Pairs.{last_or_below}
use Rattle.uses.specs.Uses.{uses_below, use_list, use_offset, use_count}

module _ (tail : ℕ → List ℕ) (v : ℕ) where
  -- one hyperedge more that lists v, or that does not
  pub uses_more : (k : ℕ) → member v (tail k) ≡ true → uses_below tail v (suc k) ≡ uses_below tail v k ++ k ∷ []
  unfolding uses_below
  uses_more k p = rw p

  pub uses_same : (k : ℕ) → member v (tail k) ≡ false → uses_below tail v (suc k) ≡ uses_below tail v k
  unfolding uses_below
  uses_same k p = rw p

  snoc_length : (k : ℕ) → length (uses_below tail v k ++ k ∷ []) ≡ length (uses_below tail v k) + 1
  snoc_length k = length-append (uses_below tail v k) (k ∷ [])

  pub more_length : (k : ℕ) → member v (tail k) ≡ true → length (uses_below tail v (suc k)) ≡ length (uses_below tail v k) + 1
  more_length k p = ap length (uses_more k p) ∙ snoc_length k

  pub uses_grow : (k : ℕ) → length (uses_below tail v k) ≤ length (uses_below tail v (suc k))
  uses_grow k = ⊎_elim (λ p. let l = more_length k p in omega arith) (λ p. let l = ap length (uses_same k p) in omega arith) (true-or-false (member v (tail k)))

  pub uses_mono : (k m : ℕ) → k ≤ m → length (uses_below tail v k) ≤ length (uses_below tail v m)
  uses_mono k zero h = let e : k ≡ 0 = omega arith in rw e (omega arith)
  uses_mono k (suc m) h = ⊎_elim (λ e. rw e (omega arith)) (λ l. let a = uses_mono k m (omega arith) in let b = uses_grow m in omega arith) (eq-or-lt_of_le h)

  pub uses_few : (k : ℕ) → length (uses_below tail v k) ≤ k
  unfolding uses_below
  uses_few zero = omega arith
  uses_few (suc k) = let a = uses_few k in ⊎_elim (λ p. let l = more_length k p in omega arith) (λ p. let l = ap length (uses_same k p) in omega arith) (true-or-false (member v (tail k)))

  -- each use is below k and lists v
  abbrev pub Sound : (k e : ℕ) → Type 0
  Sound k e = (e < k) × (member v (tail e) ≡ true)

  sound_more : (k i : ℕ) → (i < length (uses_below tail v k) → Sound k (get_or (uses_below tail v k) i 0)) → i < length (uses_below tail v (suc k)) → Sound (suc k) (get_or (uses_below tail v (suc k)) i 0)
  sound_more k i f h = ⊎_elim listing passing (true-or-false (member v (tail k)))
    where
      earlier : i < length (uses_below tail v k) → Sound (suc k) (get_or (uses_below tail v k) i 0)
      earlier l = let s = f l in (omega (arith, s.0), s.1)

      listing : member v (tail k) ≡ true → Sound (suc k) (get_or (uses_below tail v (suc k)) i 0)
      listing p =
          let n : i < suc (length (uses_below tail v k)) = let q = more_length k p in omega arith in
          rw (uses_more k p)
          (⊎_elim
          (λ e. rw (get_or_at (uses_below tail v k) k [] 0 i (sym e)) (omega arith, p))
          (λ l. rw (get_or-append (uses_below tail v k) (k ∷ []) 0 i l) (earlier l))
          (last_or_below n))

      passing : member v (tail k) ≡ false → Sound (suc k) (get_or (uses_below tail v (suc k)) i 0)
      passing p = rw (uses_same k p) (earlier (let q = ap length (uses_same k p) in omega arith))

  pub uses_sound : (k i : ℕ) → i < length (uses_below tail v k) → Sound k (get_or (uses_below tail v k) i 0)
  unfolding uses_below
  uses_sound zero i h = absurd (omega arith)
  uses_sound (suc k) i h = sound_more k i (uses_sound k i) h

  -- each hyperedge that lists v is a use
  Found : (k e : ℕ) → Type 0
  Found k e = (i : ℕ) × ((i < length (uses_below tail v k)) × (get_or (uses_below tail v k) i 0 ≡ e))

  found_more : (k e : ℕ) → Found k e → Found (suc k) e
  unfolding Found
  found_more k e f = ⊎_elim
      (λ p. (f.0, (let l = more_length k p in omega (arith, f.1.0), rw (uses_more k p) (get_or-append (uses_below tail v k) (k ∷ []) 0 f.0 f.1.0 ∙ f.1.1))))
      (λ p. (f.0, rw (uses_same k p) f.1))
      (true-or-false (member v (tail k)))

  pub uses_complete : (k e : ℕ) → e < k → member v (tail e) ≡ true → (i : ℕ) × ((i < length (uses_below tail v k)) × (get_or (uses_below tail v k) i 0 ≡ e))
  unfolding Found
  uses_complete zero e h p = absurd (omega arith)
  uses_complete (suc k) e h p = ⊎_elim
      (λ q.
      let p' : member v (tail k) ≡ true = rw q at p in
      (length (uses_below tail v k), (let l = more_length k p' in omega arith, rw (uses_more k p') (get_or_at (uses_below tail v k) k [] 0 (length (uses_below tail v k)) refl ∙ sym q))))
      (λ l. found_more k e (uses_complete k e l p))
      (last_or_below h)

  -- they ascend
  ascending_more : (k i j : ℕ) → (j < length (uses_below tail v k) → get_or (uses_below tail v k) i 0 < get_or (uses_below tail v k) j 0) → i < j
      → j < length (uses_below tail v (suc k)) → get_or (uses_below tail v (suc k)) i 0 < get_or (uses_below tail v (suc k)) j 0
  ascending_more k i j f h l = ⊎_elim listing passing (true-or-false (member v (tail k)))
    where
      listing : member v (tail k) ≡ true → get_or (uses_below tail v (suc k)) i 0 < get_or (uses_below tail v (suc k)) j 0
      listing p =
          let n : j < suc (length (uses_below tail v k)) = let q = more_length k p in omega arith in
          rw (uses_more k p, get_or-append (uses_below tail v k) (k ∷ []) 0 i (omega arith))
          (⊎_elim
          (λ e. rw (get_or_at (uses_below tail v k) k [] 0 j (sym e)) (uses_sound k i (omega arith)).0)
          (λ b. rw (get_or-append (uses_below tail v k) (k ∷ []) 0 j b) (f b))
          (last_or_below n))

      passing : member v (tail k) ≡ false → get_or (uses_below tail v (suc k)) i 0 < get_or (uses_below tail v (suc k)) j 0
      passing p = rw (uses_same k p) (f (let q = ap length (uses_same k p) in omega arith))

  pub uses_ascend : (k i j : ℕ) → i < j → j < length (uses_below tail v k) → get_or (uses_below tail v k) i 0 < get_or (uses_below tail v k) j 0
  unfolding uses_below
  uses_ascend zero i j h l = absurd (omega arith)
  uses_ascend (suc k) i j h l = ascending_more k i j (uses_ascend k i j h) h l

-- where the uses of a vertex stand in the list of all
module _ (tail : ℕ → List ℕ) (m : ℕ) where
  pub offset_next : (v : ℕ) → use_offset tail m (suc v) ≡ use_offset tail m v + use_count tail m v
  unfolding use_list
  offset_next v = length-append (use_list tail m v) (uses_below tail v m)

  pub offset_mono : (v w : ℕ) → v ≤ w → use_offset tail m v ≤ use_offset tail m w
  offset_mono v zero h = let e : v ≡ 0 = omega arith in rw e (omega arith)
  offset_mono v (suc w) h = ⊎_elim (λ e. rw e (omega arith)) (λ l. let a = offset_mono v w (omega arith) in let b = offset_next w in omega arith) (eq-or-lt_of_le h)

  -- those of one vertex end where those of the next begin
  pub offset_end : (v w : ℕ) → v < w → use_offset tail m v + use_count tail m v ≤ use_offset tail m w
  offset_end v w h = let a = offset_mono (suc v) w h in let b = offset_next v in omega arith

  pub uses_at : (n v i : ℕ) → v < n → i < use_count tail m v → get_or (use_list tail m n) (use_offset tail m v + i) 0 ≡ get_or (uses_below tail v m) i 0
  unfolding use_list
  uses_at zero v i h l = absurd (omega arith)
  uses_at (suc n) v i h l = ⊎_elim
      (λ e. rw e (get_or-append-add (use_list tail m n) (uses_below tail n m) i 0))
      (λ b. get_or-append (use_list tail m n) (uses_below tail n m) 0 (use_offset tail m v + i) (let q = offset_end v n b in omega arith) ∙ uses_at n v i b l)
      (last_or_below h)
