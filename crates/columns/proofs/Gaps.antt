-- "Gaps may stand between spans and their contents are never looked at": a table with other contents in its gaps is accepted or refused alike, and if it is
-- accepted holds the same hypergraph. Assumes nothing.
use mathlib.Core.Path.{◌≡◌, refl, sym, ◌∙◌, ap, ap₂}
use mathlib.Core.List.{List, []}
use Prim.Native.Nat.{ℕ, zero, suc, ◌+◌, ◌*◌, ◌≤◌, ◌<◌}
use native.Mathlib.Omega.{arith}
use native.Mathlib.Decide.{dec_le}
use lib.ListN.{length, get_or, drop, length-take, length-drop, get_or-eq_default}
use lib.Seq.{get_or-take, get_or-drop, ext_get_or}
use lib.Dec.{leb, ltb}
use Rattle.weights.specs.Figures.{greatest, struck_mark}
use Rattle.refusal.specs.declared.Refusal.TheVariants.{Head, Own, Span, Tail, StrikeMark}
use Rattle.columns.specs.Columns.{Entries, Columns, head_at, own_at, strike_at, offset_at, length_at, part, tail_of, tail_at}
use Rattle.columns.specs.Acceptance.{longest_tail, test, and_then, all_below, edge_acceptance, edge_at, edges_acceptance, acceptance, lent_acceptance}
use Rattle.columns.proofs.Accepted.{table_accepted}
use Rattle.columns.specs.Gaps.{Gapped, with_tails}
use Rattle.std.specs.Prelude.{Ok}

-- parts of two columns of one length that agree place for place
same_part : (offset size : ℕ) (xs ys : List ℕ) → length xs ≡ length ys → ((k : ℕ) → k < size → get_or xs (offset + k) 0 ≡ get_or ys (offset + k) 0) → part offset size xs ≡ part offset size ys
same_part offset size xs ys l f =
    let p = length-take size (drop offset xs) in
    let q = length-take size (drop offset ys) in
    let d = length-drop offset xs in
    let e = length-drop offset ys in
    ext_get_or 0 (part offset size xs) (part offset size ys) (omega arith) (λ k h.
    let i : k < size = omega arith in
    get_or-take size (drop offset xs) k 0 i ∙ get_or-drop offset xs k 0 ∙ f k i ∙ sym (get_or-take size (drop offset ys) k 0 i ∙ get_or-drop offset ys k 0))

module _ (c : Columns) (tails : List ℕ) (g : Gapped c tails) where
  abbrev c' : Columns
  c' = with_tails c tails

  tail_alike : (e : ℕ) → e < length c.heads → tail_at c e ≡ tail_at c' e
  tail_alike e h = same_part (offset_at c e) (length_at c e) c.tails tails g.level (g.spanned e h)

  edge_alike : (e end : ℕ) → e < length c.heads → edge_at c e end ≡ edge_at c' e end
  unfolding edge_acceptance
  edge_alike e end h =
      ap₂ (λ (k : ℕ) (xs : List ℕ).
      test (ltb (head_at c e) c.vertices) (Head (record { 0 = e }))
      (test (leb (own_at c e) greatest) (Own (record { 0 = e }))
      (test (leb (strike_at c e) struck_mark) (StrikeMark (record { 0 = e }))
      (test (leb end (offset_at c e)) (Span (record { 0 = e }))
      (test (leb (length_at c e) longest_tail) (Span (record { 0 = e }))
      (test (leb (offset_at c e + length_at c e) k) (Span (record { 0 = e }))
      (test (all_below c.vertices xs) (Tail (record { 0 = e }))
      (Ok tt))))))))
      g.level (tail_alike e h)

  edges_alike : (left e end : ℕ) → e + left ≤ length c.heads → edges_acceptance c left e end ≡ edges_acceptance c' left e end
  unfolding edges_acceptance
  edges_alike zero e end h = refl
  edges_alike (suc left) e end h = ap₂ and_then (edge_alike e end (omega arith)) (edges_alike left (e + 1) (offset_at c e + length_at c e) (omega arith))

  -- accepted or refused alike
  pub gaps_accepted : acceptance c ≡ acceptance c'
  unfolding acceptance
  gaps_accepted = rw (g.level, edges_alike (length c.heads) 0 0 (omega arith))

  pub gaps_lent : (a : Entries) → lent_acceptance c a ≡ lent_acceptance c' a
  unfolding lent_acceptance
  gaps_lent a = rw gaps_accepted

  -- beyond the last line no span is read
  beyond : (xs : List ℕ) → acceptance c ≡ Ok tt → (e : ℕ) → length c.heads ≤ e → tail_of c.spans xs e ≡ []
  beyond xs p e h =
      let s = (table_accepted c p).spans in
      let l = get_or-eq_default c.spans 0 {n = 2 * e + 1} (omega arith) in
      ap (λ (k : ℕ). part (offset_at c e) k xs) l

  pub all_tails_alike : acceptance c ≡ Ok tt → (e : ℕ) → tail_at c e ≡ tail_at c' e
  all_tails_alike p e = go (dec_le (length c.heads) e)
    where
      go : Dec (length c.heads ≤ e) → tail_at c e ≡ tail_at c' e
      go (yes h) = beyond c.tails p e h ∙ sym (beyond tails p e h)
      go (no h) = tail_alike e (omega arith)
