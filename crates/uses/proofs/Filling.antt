-- Filling: the index and the list while the vertices of a tail are passed. Assumes nothing.
use mathlib.Core.Path.{◌≡◌, refl, sym, ◌∙◌, ap, subst, fun_ext}
use mathlib.Core.List.{List, [], ◌∷◌, ◌++◌}
use mathlib.Core.Logic.{⊎_elim}
use mathlib.Core.Bool.{Bool, true, false}
use Prim.Native.Nat.{ℕ, zero, suc, ◌+◌, ◌-◌, ◌*◌, ◌≤◌, ◌<◌}
use native.Mathlib.Numerals.{add-one}
use native.Mathlib.Omega.{arith}
use lib.ListN.{length, get_or, set, drop, length-append, length-set, get_or-append}
use lib.Seq.{ext_get_or, get_or_at, get_or-append-add, get_or-drop, get_or-set_same, get_or-set_other}
use lib.Dec.{ltb}
use borrow.Author.Tests.{eq-eqb, ne_eqb, ltb-true, ltb-false}
use Rattle.weights.specs.Lists.{member}
use Rattle.weights.proofs.Lists.{true-or-false}
use Rattle.columns.specs.Columns.{tail_of}
use Rattle.columns.specs.Filled.{filled}
use Rattle.columns.proofs.Filled.{length-filled}
use Rattle.uses.specs.Uses.{uses_below, use_list, pairs, pairs_in, use_offset, use_count}
use Rattle.uses.specs.Indexable.{Readable, ends_in, Laid, FilledTo, Filling}
use Rattle.uses.proofs.Pairs.{same_or_not, last_or_below, pairs_first, pairs_second, second_set}
use Rattle.uses.proofs.Lists.{more_length, uses_grow, uses_mono, uses_sound, offset_next, offset_end}
use Rattle.uses.proofs.Seen.{seen_in, uses_by, seen_now, seen_other, seen_again}

-- the uses below e stand, and e for the vertices that were seen
pub record FilledBy (tail : ℕ → List ℕ) (m n e : ℕ) (seen : ℕ → Bool) (index list old : List ℕ) : Type 0 where
  pub lengths : index ≡ pairs (use_offset tail m) (λ v. length (uses_by tail e seen v)) n
  pub laid : Laid (use_offset tail m) (uses_by tail e seen) n list old

-- no vertex is seen yet; every one is
pub fill_first : (tail : ℕ → List ℕ) (m n e : ℕ) (index list old : List ℕ) → FilledTo tail m n e index list old → FilledBy tail m n e (seen_in []) index list old
unfolding member
fill_first tail m n e index list old f = record { lengths = f.lengths; laid = f.laid }

below_next : (tail : ℕ → List ℕ) (e v : ℕ) → uses_by tail e (seen_in (tail e)) v ≡ uses_below tail v (e + 1)
unfolding uses_below
below_next tail e v = rw (add-one e)

pub fill_last : (tail : ℕ → List ℕ) (m n e : ℕ) (index list old : List ℕ) → FilledBy tail m n e (seen_in (tail e)) index list old → FilledTo tail m n (e + 1) index list old
fill_last tail m n e index list old f = record {
  lengths = f.lengths ∙ ap (λ (u : ℕ → List ℕ). pairs (use_offset tail m) (λ v. length (u v)) n) (fun_ext (below_next tail e));
  laid = subst (λ (u : ℕ → List ℕ). Laid (use_offset tail m) u n list old) (fun_ext (below_next tail e)) f.laid;
}

-- a list that was laid twice, the second time with all that it held
pub laid_twice : {offset : ℕ → ℕ} {us us' : ℕ → List ℕ} {n : ℕ} {list list' old : List ℕ} → ((v : ℕ) → length (us v) ≤ length (us' v))
    → Laid offset us n list old → Laid offset us' n list' list → Laid offset us' n list' old
laid_twice g a b = record {
  level = b.level ∙ a.level;
  holds = b.holds;
  keeps = λ p none. b.keeps p none ∙ a.keeps p (λ v j h l. none v j h (omega (arith, g v)));
}

-- the next vertex of e's tail
module _ (tail : ℕ → List ℕ) (m n e : ℕ) (numbered : e < m) (vs : List ℕ) (w : ℕ) (h : w < n)
    (among : (v : ℕ) → member v vs ≡ true → member v (tail e) ≡ true) (listed : member w (tail e) ≡ true)
    {index list old : List ℕ} (f : FilledBy tail m n e (seen_in vs) index list old) where
  pub start_is : get_or index (2 * w) 0 ≡ use_offset tail m w
  start_is = rw f.lengths (pairs_first (use_offset tail m) (λ v. length (uses_by tail e (seen_in vs) v)) n w h)

  pub size_is : get_or index (2 * w + 1) 0 ≡ length (uses_by tail e (seen_in vs) w)
  size_is = rw f.lengths (pairs_second (use_offset tail m) (λ v. length (uses_by tail e (seen_in vs) v)) n w h)

  -- what stands of a vertex is within its uses
  inside : (v : ℕ) → length (uses_by tail e (seen_in vs) v) ≤ use_count tail m v
  inside v =
      let a = uses_grow tail v e in
      let b = uses_mono tail v (suc e) m numbered in
      ⊎_elim
      (λ s. rw s (simp length-append (let l = more_length tail v e (among v s) in omega arith)))
      (λ s. rw s (omega arith))
      (true-or-false (member v vs))

  pub end_within : use_offset tail m w + length (uses_by tail e (seen_in vs) w) ≤ use_offset tail m n
  end_within = let a = inside w in let b = offset_end tail m w n h in omega arith

  -- e is the last use of w exactly if w was seen
  pub ends_seen : ends_in list (use_offset tail m w) (length (uses_by tail e (seen_in vs) w)) e ≡ member w vs
  unfolding ends_in
  ends_seen = ⊎_elim seen unseen (true-or-false (member w vs))
    where
      seen : member w vs ≡ true → ends_in list (use_offset tail m w) (length (uses_by tail e (seen_in vs) w)) e ≡ member w vs
      seen s =
          let k = length (uses_below tail w e) in
          let l : length (uses_by tail e (seen_in vs) w) ≡ k + 1 = rw s (length-append (uses_below tail w e) (e ∷ [])) in
          let g : get_or list (use_offset tail m w + k) 0 ≡ e = f.laid.holds w k h (omega arith) ∙ rw s (get_or_at (uses_below tail w e) e [] 0 k refl) in
          let z : use_offset tail m w + (k + 1) - 1 ≡ use_offset tail m w + k = omega arith in
          rw (l, ne_eqb (k + 1) 0 (λ q. omega arith), z, g, eq-eqb e e refl, s)

      unseen : member w vs ≡ false → ends_in list (use_offset tail m w) (length (uses_by tail e (seen_in vs) w)) e ≡ member w vs
      unseen s =
          let k = length (uses_below tail w e) in
          let l : length (uses_by tail e (seen_in vs) w) ≡ k = rw s in
          ⊎_elim
          (λ q. rw (l, eq-eqb k 0 q, s))
          (λ d.
          let z : use_offset tail m w + k - 1 ≡ use_offset tail m w + (k - 1) = omega arith in
          let g : get_or list (use_offset tail m w + (k - 1)) 0 ≡ get_or (uses_below tail w e) (k - 1) 0 = f.laid.holds w (k - 1) h (omega arith) ∙ rw s in
          let u : get_or (uses_below tail w e) (k - 1) 0 < e = (uses_sound tail w e (k - 1) (omega arith)).0 in
          let o : (get_or list (use_offset tail m w + (k - 1)) 0 ≡ e → ⊥) = λ q. omega arith in
          rw (l, ne_eqb k 0 d, z, ne_eqb (get_or list (use_offset tail m w + (k - 1)) 0) e o, s))
          (same_or_not k 0)

  -- seen before: nothing changes
  pub fill_again : member w vs ≡ true → FilledBy tail m n e (seen_in (vs ++ w ∷ [])) index list old
  fill_again s = subst (λ (z : ℕ → Bool). FilledBy tail m n e z index list old) (sym (seen_again vs w s)) f

  -- there is a place for e
  pub place_free : member w vs ≡ false → use_offset tail m w + length (uses_by tail e (seen_in vs) w) < use_offset tail m n
  place_free s =
      let a = more_length tail w e listed in
      let b = uses_mono tail w (suc e) m numbered in
      let c = offset_end tail m w n h in
      let l : length (uses_by tail e (seen_in vs) w) ≡ length (uses_below tail w e) = rw s in
      omega arith

  -- not seen: e is stored behind the uses of w
  module _ (s : member w vs ≡ false) (room : use_offset tail m n ≤ length list) where
    now_is : uses_by tail e (seen_in (vs ++ w ∷ [])) w ≡ uses_below tail w e ++ e ∷ []
    now_is = rw (seen_now vs w)

    was : uses_by tail e (seen_in vs) w ≡ uses_below tail w e
    was = rw s

    other_is : (v : ℕ) → (v ≡ w → ⊥) → uses_by tail e (seen_in vs) v ≡ uses_by tail e (seen_in (vs ++ w ∷ [])) v
    other_is v d = rw (seen_other vs w v d)

    now_length : length (uses_by tail e (seen_in (vs ++ w ∷ [])) w) ≡ length (uses_below tail w e) + 1
    now_length = ap length now_is ∙ length-append (uses_below tail w e) (e ∷ [])

    grows : (v : ℕ) → length (uses_by tail e (seen_in vs) v) ≤ length (uses_by tail e (seen_in (vs ++ w ∷ [])) v)
    grows v = ⊎_elim (λ q. rw q (let a = now_length in let b = ap length was in omega arith)) (λ d. let a = ap length (other_is v d) in omega arith) (same_or_not v w)

    -- the place of e is no other vertex's
    apart_from : (v j : ℕ) → (v ≡ w → ⊥) → j < length (uses_by tail e (seen_in vs) v) → use_offset tail m v + j ≡ use_offset tail m w + length (uses_below tail w e) → ⊥
    apart_from v j d l q =
        let a = inside v in
        let b = uses_mono tail w (suc e) m numbered in
        let c = more_length tail w e listed in
        ⊎_elim
        (λ z. let x = offset_end tail m v w (ltb-true v w z) in omega arith)
        (λ z. let g = ltb-false v w z in let x = offset_end tail m w v (omega arith) in omega arith)
        (true-or-false (ltb v w))

    own : (j : ℕ) → j < length (uses_by tail e (seen_in (vs ++ w ∷ [])) w)
        → get_or (set list (use_offset tail m w + length (uses_below tail w e)) e) (use_offset tail m w + j) 0 ≡ get_or (uses_by tail e (seen_in (vs ++ w ∷ [])) w) j 0
    own j l =
        let k = length (uses_below tail w e) in
        let b : j < suc k = let a = now_length in omega arith in
        ⊎_elim
        (λ q.
        ap (λ (x : ℕ). get_or (set list (use_offset tail m w + k) e) (use_offset tail m w + x) 0) q
        ∙ get_or-set_same list (use_offset tail m w + k) e 0 (let z = place_free s in let y = ap length was in omega arith)
        ∙ sym (get_or_at (uses_below tail w e) e [] 0 k refl)
        ∙ sym (ap (λ (x : ℕ). get_or (uses_by tail e (seen_in (vs ++ w ∷ [])) w) x 0) q ∙ ap (λ (x : List ℕ). get_or x k 0) now_is))
        (λ z.
        get_or-set_other list (use_offset tail m w + k) (use_offset tail m w + j) e 0 (λ q. omega arith)
        ∙ f.laid.holds w j h (let y = ap length was in omega arith)
        ∙ ap (λ (x : List ℕ). get_or x j 0) was
        ∙ sym (ap (λ (x : List ℕ). get_or x j 0) now_is ∙ get_or-append (uses_below tail w e) (e ∷ []) 0 j z))
        (last_or_below b)

    other : (v j : ℕ) → (v ≡ w → ⊥) → v < n → j < length (uses_by tail e (seen_in (vs ++ w ∷ [])) v)
        → get_or (set list (use_offset tail m w + length (uses_below tail w e)) e) (use_offset tail m v + j) 0 ≡ get_or (uses_by tail e (seen_in (vs ++ w ∷ [])) v) j 0
    other v j d b l =
        let i : j < length (uses_by tail e (seen_in vs) v) = let y = ap length (other_is v d) in omega arith in
        get_or-set_other list (use_offset tail m w + length (uses_below tail w e)) (use_offset tail m v + j) e 0 (apart_from v j d i)
        ∙ f.laid.holds v j b i
        ∙ ap (λ (x : List ℕ). get_or x j 0) (other_is v d)

    laid_new : Laid (use_offset tail m) (uses_by tail e (seen_in (vs ++ w ∷ []))) n (set list (use_offset tail m w + length (uses_below tail w e)) e) old
    laid_new = record {
      level = length-set list (use_offset tail m w + length (uses_below tail w e)) e ∙ f.laid.level;
      holds = λ v j b l. ⊎_elim
          (λ q. subst
          (λ (x : ℕ). j < length (uses_by tail e (seen_in (vs ++ w ∷ [])) x)
          → get_or (set list (use_offset tail m w + length (uses_below tail w e)) e) (use_offset tail m x + j) 0 ≡ get_or (uses_by tail e (seen_in (vs ++ w ∷ [])) x) j 0)
          (sym q) (own j) l)
          (λ d. other v j d b l)
          (same_or_not v w);
      keeps = λ p none.
          get_or-set_other list (use_offset tail m w + length (uses_below tail w e)) p e 0 (λ q. none w (length (uses_below tail w e)) h (let a = now_length in omega arith) q)
          ∙ f.laid.keeps p (λ v j b l. none v j b (let g = grows v in omega arith));
    }

    pub fill_new : FilledBy tail m n e (seen_in (vs ++ w ∷ [])) (set index (2 * w + 1) (get_or index (2 * w + 1) 0 + 1)) (set list (get_or index (2 * w) 0 + get_or index (2 * w + 1) 0) e) old
    fill_new =
        let c : get_or index (2 * w + 1) 0 ≡ length (uses_below tail w e) = size_is ∙ ap length was in record {
          lengths =
              ap (λ (z : List ℕ). set z (2 * w + 1) (get_or index (2 * w + 1) 0 + 1)) f.lengths
              ∙ second_set (use_offset tail m) (λ v. length (uses_by tail e (seen_in vs) v)) n w h (use_offset tail m) (λ v. length (uses_by tail e (seen_in (vs ++ w ∷ [])) v))
              (λ v d. ap length (other_is v d))
              (λ v. refl)
              (get_or index (2 * w + 1) 0 + 1)
              (let a = now_length in omega arith);
          laid = rw (start_is, c) laid_new;
        }

-- nothing is laid before the first hyperedge
pub fill_none : (tail : ℕ → List ℕ) (m n : ℕ) (index list : List ℕ) → index ≡ pairs (use_offset tail m) (λ v. 0) n → FilledTo tail m n 0 index list list
unfolding uses_below
fill_none tail m n index list p = record { lengths = p; laid = record { level = refl; holds = λ v j b l. absurd (omega arith); keeps = λ p none. refl } }

-- what is asked of the columns, as they are now
pub filling : {n i : ℕ} {spans tails index list old : List ℕ} → Readable n spans tails → i < pairs_in spans → pairs_in index ≡ n
    → length (use_list (tail_of spans tails) (pairs_in spans) n) ≤ length old → FilledTo (tail_of spans tails) (pairs_in spans) n i index list old
    → Filling i spans tails index list
filling {i = i} {spans} {tails} {index} {list} {old} r h q room f = record {
  readable = subst (λ (z : ℕ). Readable z spans tails) (sym q) r;
  numbered = h;
  room = subst (λ (z : ℕ). length (use_list (tail_of spans tails) (pairs_in spans) z) ≤ length list) (sym q) (let l = f.laid.level in omega arith);
  so_far =
      subst (λ (z : ℕ). FilledTo (tail_of spans tails) (pairs_in spans) z i index list list) (sym q)
      (record { lengths = f.lengths; laid = record { level = refl; holds = f.laid.holds; keeps = λ p none. refl } });
}

-- one hyperedge more
pub fill_more : (tail : ℕ → List ℕ) (m n n' e : ℕ) {index list index' list' old : List ℕ} → n' ≡ n → FilledTo tail m n e index list old
    → FilledTo tail m n' (e + 1) index' list' list → FilledTo tail m n (e + 1) index' list' old
fill_more tail m n n' e {list = list} {index'} {list'} q f g =
    let g' = subst (λ (z : ℕ). FilledTo tail m z (e + 1) index' list' list) q g in
    record { lengths = g'.lengths; laid = laid_twice (λ v. rw (add-one e) (uses_grow tail v e)) f.laid g'.laid }

-- all is laid: the list of uses
module _ (tail : ℕ → List ℕ) (m n : ℕ) {list old : List ℕ} (g : Laid (use_offset tail m) (λ v. uses_below tail v m) n list old) where
  listed_at : (k i : ℕ) → k ≤ n → i < length (use_list tail m k) → get_or list i 0 ≡ get_or (use_list tail m k) i 0
  unfolding use_list
  listed_at zero i h l = absurd (omega arith)
  listed_at (suc k) i h l = ⊎_elim
      (λ z.
      let b = ltb-true i (length (use_list tail m k)) z in
      listed_at k i (omega arith) b ∙ sym (get_or-append (use_list tail m k) (uses_below tail k m) 0 i b))
      (λ z.
      let b = ltb-false i (length (use_list tail m k)) z in
      let o = offset_next tail m k in
      let j = i - length (use_list tail m k) in
      let q : i ≡ length (use_list tail m k) + j = omega arith in
      ap (λ (x : ℕ). get_or list x 0) q
      ∙ g.holds k j (omega arith) (omega arith)
      ∙ sym (get_or-append-add (use_list tail m k) (uses_below tail k m) j 0)
      ∙ ap (λ (x : ℕ). get_or (use_list tail m k ++ uses_below tail k m) x 0) (sym q))
      (true-or-false (ltb i (length (use_list tail m k))))

  pub filled-all : length (use_list tail m n) ≤ length old → list ≡ filled (use_list tail m n) old
  unfolding filled
  filled-all room =
      ext_get_or 0 list (filled (use_list tail m n) old) (g.level ∙ sym (length-filled (use_list tail m n) old room))
      (λ i h. ⊎_elim
      (λ z.
      let b = ltb-true i (length (use_list tail m n)) z in
      listed_at n i (omega arith) b ∙ sym (get_or-append (use_list tail m n) (drop (length (use_list tail m n)) old) 0 i b))
      (λ z.
      let b = ltb-false i (length (use_list tail m n)) z in
      let j = i - length (use_list tail m n) in
      let q : length (use_list tail m n) + j ≡ i = omega arith in
      g.keeps i (λ v j k l e. let x = offset_end tail m v n k in omega arith)
      ∙ ap (λ (x : ℕ). get_or old x 0) (sym q)
      ∙ sym (get_or-drop (length (use_list tail m n)) old j 0)
      ∙ sym (get_or-append-add (use_list tail m n) (drop (length (use_list tail m n)) old) j 0)
      ∙ ap (λ (x : ℕ). get_or (use_list tail m n ++ drop (length (use_list tail m n)) old) x 0) q)
      (true-or-false (ltb i (length (use_list tail m n)))))
