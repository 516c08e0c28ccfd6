-- The index of a table has the properties of `Told`, and nothing else has: so 19 turns away exactly what is no index of the table. Repricing, striking and restoring keep
-- it. Assumes nothing.
use mathlib.Core.Path.{◌≡◌, refl, sym, ◌∙◌, ap, subst, subst₂}
use mathlib.Core.Bool.{true}
use mathlib.Core.List.{List, [], ◌++◌, append-nil}
use mathlib.Core.Logic.{◌↔◌, ⊎_elim}
use Prim.Native.Nat.{ℕ, zero, suc, ◌+◌, ◌*◌, ◌-◌, ◌≤◌, ◌<◌}
use native.Mathlib.Nat.{eq-or-lt_of_le}
use native.Mathlib.Decide.{dec_le}
use native.Mathlib.Numerals.{add-one}
use native.Mathlib.Omega.{arith}
use lib.ListN.{length, get_or, take, length-take}
use lib.Seq.{drop-nil, take-length, take-take, ext_get_or}
use Rattle.weights.proofs.Choice.{both_true}
use Rattle.columns.specs.Columns.{Columns, tail_at, with_own, with_strike}
use Rattle.columns.specs.Acceptance.{acceptance}
use Rattle.columns.specs.Filled.{filled}
use Rattle.columns.specs.Same.{equal}
use Rattle.columns.proofs.Same.{equal_refl, equal-true}
use Rattle.uses.specs.Uses.{use_list, use_offset}
use Rattle.uses.proofs.Pairs.{pairs_ext, last_or_below}
use Rattle.uses.proofs.Lists.{offset_next}
use Rattle.uses.proofs.Laws.{Indexed, index-length, offset_is, length_is, offset_start, offset_gapless, use_sound, use_complete, use_ascend}
use Rattle.indextable.specs.Index.{index_of, begin_with, is_index}
use Rattle.indextable.specs.Told.{offset_in, length_in, entry_in, IsEntry, Needs, Told}
use Rattle.std.specs.Prelude.{Ok}

module _ (c : Columns) where
  whole : Indexed (tail_at c) (length c.heads) c.vertices [] (length (index_of c).list) (index_of c).pairs (index_of c).list
  unfolding filled
  whole = record {
    total_is = refl;
    index_is = refl;
    list_is = sym (ap (λ (z : List ℕ). (index_of c).list ++ z) (drop-nil (length (index_of c).list)) ∙ append-nil (index_of c).list);
  }

  ends : (v : ℕ) → v + 1 ≡ c.vertices → offset_in (index_of c).pairs v + length_in (index_of c).pairs v ≡ length (index_of c).list
  ends v e =
      let h : v < c.vertices = omega arith in
      let q : use_offset (tail_at c) (length c.heads) (suc v) ≡ length (index_of c).list = ap (use_offset (tail_at c) (length c.heads)) (sym (add-one v) ∙ e) in
      omega (arith, offset_is whole v h, length_is whole v h, offset_next (tail_at c) (length c.heads) v)

  none : c.vertices ≡ 0 → (index_of c).list ≡ []
  unfolding use_list
  none e = ap (use_list (tail_at c) (length c.heads)) e

  needed : (v e : ℕ) → v < c.vertices → IsEntry (index_of c).pairs (index_of c).list v e ↔ Needs c v e
  needed v e h = (
    λ f.
        let s = use_sound whole v f.0 h f.1.0 in
        subst (Needs c v) f.1.1 (record { numbered = s.0; lists = s.1 }),
    λ g. use_complete whole v e h g.numbered g.lists,
  )

  pub index_told : acceptance c ≡ Ok tt → Told c (index_of c).pairs (index_of c).list
  index_told p = record {
    places = index-length whole;
    start = offset_start whole;
    gapless = offset_gapless whole;
    last = ends;
    empty = none;
    ascends = use_ascend whole;
    exactly = needed;
  }

-- numbers that ascend strictly, a of them and b, of which each stands among the others: they are the same
module _ (f g : ℕ → ℕ) (a b : ℕ)
    (up : (i j : ℕ) → i < j → j < a → f i < f j)
    (up' : (i j : ℕ) → i < j → j < b → g i < g j)
    (to : (i : ℕ) → i < a → (k : ℕ) × ((k < b) × (g k ≡ f i)))
    (fro : (i : ℕ) → i < b → (k : ℕ) × ((k < a) × (f k ≡ g i)))
  where
    -- the first i are the same
    abbrev Alike : ℕ → Type 0
    Alike i = (j : ℕ) → j < i → f j ≡ g j

    behind : (i : ℕ) → Alike i → i < a → (k : ℕ) → g k ≡ f i → i ≤ k
    behind i s h k e = go (dec_le i k)
      where
        go : Dec (i ≤ k) → i ≤ k
        go (yes l) = l
        go (no n) = let l : k < i = omega arith in absurd (omega (arith, up k i l h, s k l))

    behind' : (i : ℕ) → Alike i → i < b → (k : ℕ) → f k ≡ g i → i ≤ k
    behind' i s h k e = go (dec_le i k)
      where
        go : Dec (i ≤ k) → i ≤ k
        go (yes l) = l
        go (no n) = let l : k < i = omega arith in absurd (omega (arith, up' k i l h, s k l))

    rises : (i k : ℕ) → i ≤ k → k < a → f i ≤ f k
    rises i k h l = ⊎_elim (λ e. rw e (omega arith)) (λ q. omega (arith, up i k q l)) (eq-or-lt_of_le h)

    rises' : (i k : ℕ) → i ≤ k → k < b → g i ≤ g k
    rises' i k h l = ⊎_elim (λ e. rw e (omega arith)) (λ q. omega (arith, up' i k q l)) (eq-or-lt_of_le h)

    here : (i : ℕ) → Alike i → i < a → i < b → f i ≡ g i
    here i s h l =
        let x = to i h in
        let y = fro i l in
        let m = rises' i x.0 (behind i s h x.0 x.1.1) x.1.0 in
        let k = rises i y.0 (behind' i s l y.0 y.1.1) y.1.0 in
        omega (arith, x.1.1, y.1.1)

    alike : (i : ℕ) → i ≤ a → i ≤ b → Alike i
    alike zero h l j q = absurd (omega arith)
    alike (suc i) h l j q = ⊎_elim
        (λ e. rw e (here i (alike i (omega arith) (omega arith)) h l))
        (λ k. alike i (omega arith) (omega arith) j k)
        (last_or_below q)

    reach : (i : ℕ) → i ≤ a → i ≤ b
    reach zero h = omega arith
    reach (suc i) h =
        let x = to i h in
        omega (arith, behind i (alike i (omega arith) (reach i (omega arith))) h x.0 x.1.1, x.1.0)

    reach' : (i : ℕ) → i ≤ b → i ≤ a
    reach' zero h = omega arith
    reach' (suc i) h =
        let x = fro i h in
        omega (arith, behind' i (alike i (reach' i (omega arith)) (omega arith)) h x.0 x.1.1, x.1.0)

    same_count : a ≡ b
    same_count = omega (arith, reach a (omega arith), reach' b (omega arith))

    same_at : (i : ℕ) → i < a → f i ≡ g i
    same_at i h = let e = same_count in here i (alike i (omega arith) (omega arith)) h (omega arith)

-- two indexes of one table
module _ (c : Columns) {p l p' l' : List ℕ} (t : Told c p l) (t' : Told c p' l') where
  module _ (v : ℕ) (h : v < c.vertices) where
    across : (i : ℕ) → i < length_in p v → IsEntry p' l' v (entry_in p l v i)
    across i k = (t'.exactly v _ h).1 ((t.exactly v _ h).0 (i, (k, refl)))

    across' : (i : ℕ) → i < length_in p' v → IsEntry p l v (entry_in p' l' v i)
    across' i k = (t.exactly v _ h).1 ((t'.exactly v _ h).0 (i, (k, refl)))

    lengths_same : length_in p v ≡ length_in p' v
    lengths_same = same_count (entry_in p l v) (entry_in p' l' v) _ _ (λ i j. t.ascends v i j h) (λ i j. t'.ascends v i j h) across across'

    entries_same : (i : ℕ) → i < length_in p v → entry_in p l v i ≡ entry_in p' l' v i
    entries_same = same_at (entry_in p l v) (entry_in p' l' v) _ _ (λ i j. t.ascends v i j h) (λ i j. t'.ascends v i j h) across across'

  offsets_same : (v : ℕ) → v < c.vertices → offset_in p v ≡ offset_in p' v
  offsets_same zero h = t.start h ∙ sym (t'.start h)
  offsets_same (suc v) h =
      let k : v < c.vertices = omega arith in
      let q : v + 1 < c.vertices = omega arith in
      let a : offset_in p (suc v) ≡ offset_in p v + length_in p v = rw (add-one v) at (t.gapless v q) in
      let b : offset_in p' (suc v) ≡ offset_in p' v + length_in p' v = rw (add-one v) at (t'.gapless v q) in
      omega (arith, offsets_same v k, lengths_same v k)

  pub same_pairs : p ≡ p'
  same_pairs = pairs_ext c.vertices p p' t.places t'.places offsets_same lengths_same

  -- whose entry stands at a place of the list
  abbrev Found : ℕ → Type 0
  Found i = (w : ℕ) × ((w < c.vertices) × ((offset_in p w ≤ i) × (i < offset_in p w + length_in p w)))

  found : (i v : ℕ) → v < c.vertices → i < offset_in p v + length_in p v → Found i
  found i zero h k = let s = t.start h in (0, (h, (omega arith, k)))
  found i (suc v) h k =
      let a : offset_in p (suc v) ≡ offset_in p v + length_in p v = rw (add-one v) at (t.gapless v (omega arith)) in
      go (dec_le (offset_in p (suc v)) i) (λ n. found i v (omega arith) (omega arith))
    where
      go : Dec (offset_in p (suc v) ≤ i) → (¬ (offset_in p (suc v) ≤ i) → Found i) → Found i
      go (yes l) f = (suc v, (h, (l, k)))
      go (no n) f = f n

  place_same : (i v : ℕ) → v < c.vertices → i < offset_in p v + length_in p v → get_or l i 0 ≡ get_or l' i 0
  place_same i v h k =
      let f = found i v h k in
      let w = f.0 in
      let low = f.1.1.0 in
      let e : offset_in p w + (i - offset_in p w) ≡ i = omega arith in
      let o = offsets_same w f.1.0 in
      ap (λ (z : ℕ). get_or l z 0) (sym e)
      ∙ entries_same w f.1.0 (i - offset_in p w) (omega (arith, f.1.1.1))
      ∙ ap (λ (z : ℕ). get_or l' (z + (i - offset_in p w)) 0) (sym o)
      ∙ ap (λ (z : ℕ). get_or l' z 0) e

  pub same_list : l ≡ l'
  same_list = go c.vertices refl
    where
      go : (n : ℕ) → c.vertices ≡ n → l ≡ l'
      go zero e = t.empty e ∙ sym (t'.empty e)
      go (suc v) e =
          let q : v + 1 ≡ c.vertices = omega arith in
          let h : v < c.vertices = omega arith in
          let a = t.last v q in
          ext_get_or 0 l l' (omega (arith, t'.last v q, offsets_same v h, lengths_same v h)) (λ i k. place_same i v h (omega arith))

module _ (c : Columns) (accepted : acceptance c ≡ Ok tt) where
  -- the index of a table is fixed by what is said of it
  pub index_fixed : (p l : List ℕ) → Told c p l → (p ≡ (index_of c).pairs) × (l ≡ (index_of c).list)
  index_fixed p l t = (same_pairs c t (index_told c accepted), same_list c t (index_told c accepted))

  -- the test of 19 passes exactly for columns that begin with an index of the table
  pub index_exactly : (index list : List ℕ) → (is_index c index list ≡ true) ↔ ((k : ℕ) × Told c (take (2 * c.vertices) index) (take k list))
  unfolding begin_with
  index_exactly index list = (
    λ e.
        let t = both_true {a = equal (take (2 * c.vertices) index) (index_of c).pairs} e in
        let a = equal-true _ _ t.0 in
        let b = equal-true _ _ t.1 in
        (length (index_of c).list, subst₂ (Told c) (sym a) (sym b) (index_told c accepted)),
    λ f.
        let q = index_fixed _ _ f.1 in
        let n : length (index_of c).list ≤ f.0 = omega (arith, ap length q.1, length-take f.0 list) in
        let b : take (length (index_of c).list) list ≡ (index_of c).list =
        sym (take-take (length (index_of c).list) f.0 list n)
        ∙ ap (take (length (index_of c).list)) q.1
        ∙ take-length (index_of c).list in
        rw (q.0, b, equal_refl (index_of c).pairs) (equal_refl (index_of c).list),
  )

-- own figures and strike marks are not looked at: repricing, striking and restoring keep the index
pub index_kept : (c : Columns) (e w : ℕ) → index_of (with_own c e w) ≡ index_of c
index_kept c e w = refl

pub index_kept_marked : (c : Columns) (e s : ℕ) → index_of (with_strike c e s) ≡ index_of c
index_kept_marked c e s = refl
