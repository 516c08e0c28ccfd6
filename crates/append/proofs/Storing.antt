-- The line in its places: the columns then begin with the longer table, and the counts returned are its own. Assumes nothing.
use mathlib.Core.Path.{◌≡◌, refl, sym, ◌∙◌, ap, ap₂, subst, subst₂}
use mathlib.Core.List.{List, [], ◌∷◌, ◌++◌, append_assoc, append-nil}
use Prim.Native.Nat.{ℕ, zero, suc, ◌+◌, ◌-◌, ◌*◌, ◌≤◌, ◌<◌}
use native.Mathlib.Numerals.{add-one}
use native.Mathlib.Omega.{arith}
use lib.ListN.{length, get_or, set, take, drop, length-append, take-append-drop}
use lib.Seq.{get_or-take, take-take, length-take-le, take-suc, take_all}
use Rattle.weights.specs.declared.Measure.{Measure}
use Rattle.refusal.specs.declared.Refusal.{Refusal}
use Rattle.refusal.specs.declared.Counts.{Counts}
use Rattle.columns.specs.Columns.{Entries, Columns, columns}
use Rattle.columns.specs.Acceptance.{acceptance}
use Rattle.columns.specs.Filled.{filled}
use Rattle.columns.specs.Longer.{NewLine, end_in, end_of, longer, in_use_of}
use Rattle.columns.proofs.Exactly.{accepted_exactly}
use Rattle.columns.proofs.Filled.{length-filled, take-filled, filled-set, filled_part}
use Rattle.columns.proofs.Longer.{end_within, longer-count, longer-listed, longer_accepted}
use Rattle.settle.specs.Settling.{entries_of}
use Rattle.indextable.specs.Index.{index_of}
use Rattle.append.specs.Appending.{new_end, new_counts, over, leaves, append_acceptance, appended}
use Rattle.append.specs.Growing.{Storable, Appendable, Renewable}
use Rattle.std.specs.Prelude.{Ok, Err}

-- a column is its start and what stands behind it
kept_start : (n : ℕ) (xs : List ℕ) → n ≤ length xs → filled (take n xs) xs ≡ xs
unfolding filled
kept_start n xs h = ap (λ (k : ℕ). take n xs ++ drop k xs) (length-take-le n xs h) ∙ take-append-drop n xs

-- a number behind the start; numbers from the start's end on
set_start : (n : ℕ) (xs : List ℕ) (v : ℕ) → n < length xs → set xs n v ≡ filled (take n xs ++ v ∷ []) xs
set_start n xs v h =
    ap (λ (z : List ℕ). set z n v) (sym (kept_start n xs (omega arith))) ∙ filled-set (take n xs) xs n v (length-take-le n xs (omega arith)) h

put_start : (n : ℕ) (xs ys : List ℕ) → n ≤ length xs → take n xs ++ filled ys (drop n xs) ≡ filled (take n xs ++ ys) xs
put_start n xs ys h =
    ap (λ (z : List ℕ). take n z ++ filled ys (drop n z)) (sym (kept_start n xs h)) ∙ filled_part (take n xs) ys xs n (length-take-le n xs h)

set_two : (n : ℕ) (xs : List ℕ) (v w : ℕ) → n + 2 ≤ length xs → set (set xs n v) (n + 1) w ≡ filled (take n xs ++ v ∷ w ∷ []) xs
set_two n xs v w h =
    ap (λ (z : List ℕ). set z (n + 1) w) (set_start n xs v (omega arith))
    ∙ filled-set (take n xs ++ v ∷ []) xs (n + 1) w (length-append (take n xs) (v ∷ []) ∙ ap (λ (k : ℕ). k + 1) (length-take-le n xs (omega arith))) (omega arith)
    ∙ ap (λ (z : List ℕ). filled z xs) (append_assoc (take n xs) (v ∷ []) (w ∷ []))

-- from place n on a column is filled by numbers one by one: by none, by one more, and by all
module _ (xs ys : List ℕ) (n : ℕ) (h : n + length ys ≤ length xs) where
  pub none_put : xs ≡ filled (take n xs ++ take 0 ys) xs
  none_put = sym (ap (λ (z : List ℕ). filled z xs) (append-nil (take n xs)) ∙ kept_start n xs (omega arith))

  pub one_put : (k : ℕ) → k < length ys → set (filled (take n xs ++ take k ys) xs) (n + k) (get_or ys k 0) ≡ filled (take n xs ++ take (k + 1) ys) xs
  one_put k l =
      filled-set (take n xs ++ take k ys) xs (n + k) (get_or ys k 0)
      (length-append (take n xs) (take k ys) ∙ ap₂ ◌+◌ (length-take-le n xs (omega arith)) (length-take-le k ys (omega arith))) (omega arith)
      ∙ ap (λ (z : List ℕ). filled z xs)
      (append_assoc (take n xs) (take k ys) (get_or ys k 0 ∷ []) ∙ ap (λ (z : List ℕ). take n xs ++ z) (sym (ap (λ (j : ℕ). take j ys) (add-one k) ∙ take-suc ys k 0 l)))

  pub all_put : (k : ℕ) → length ys ≤ k → filled (take n xs ++ take k ys) xs ≡ take n xs ++ filled ys (drop n xs)
  all_put k l = ap (λ (z : List ℕ). filled (take n xs ++ z) xs) (take_all k ys l) ∙ sym (put_start n xs ys (omega arith))

-- the end of the spans is that of their start
end_start : (spans : List ℕ) (m : ℕ) → end_in (take (2 * m) spans) m ≡ end_in spans m
end_start spans zero = refl
end_start spans (suc e) = ap₂ ◌+◌ (get_or-take (2 * suc e) spans (2 * e) 0 (omega arith)) (get_or-take (2 * suc e) spans (2 * e + 1) 0 (omega arith))

module _ (c : Columns) (k : Counts) (a : Entries) (l : NewLine) (g : Appendable c k a l) where
  abbrev held : Columns
  held = in_use_of c k

  abbrev next : Columns
  next = longer held l

  lines_held : length held.heads ≡ k.edges
  lines_held = length-take-le k.edges c.heads g.counted.heads

  end_held : end_of held ≡ new_end c k
  end_held = ap (end_in held.spans) lines_held ∙ end_start c.spans k.edges

  end_below : new_end c k ≤ k.listed
  end_below = omega (arith, end_held, end_within held ((accepted_exactly held).0 g.table), length-take-le k.listed c.tails g.counted.tails)

  pub next_accepted : acceptance next ≡ Ok tt
  next_accepted = longer_accepted held l g.table g.line (omega (arith, lines_held, g.counted.spanned.edges)) (omega (arith, end_held, g.counted.spanned.listed))

  -- the stores, column by column
  heads_stored : set c.heads k.edges l.head ≡ filled next.heads c.heads
  heads_stored = set_start k.edges c.heads l.head g.placed.heads

  own-stored : set c.own k.edges l.own ≡ filled next.own c.own
  own-stored = set_start k.edges c.own l.own g.placed.own

  strikes-stored : set c.strikes k.edges l.mark ≡ filled next.strikes c.strikes
  strikes-stored = set_start k.edges c.strikes l.mark g.placed.strikes

  spans_stored : set (set c.spans (2 * k.edges) (new_end c k)) (2 * k.edges + 1) (length l.tail) ≡ filled next.spans c.spans
  spans_stored =
      set_two (2 * k.edges) c.spans (new_end c k) (length l.tail) g.placed.spans
      ∙ ap (λ (z : ℕ). filled (held.spans ++ z ∷ length l.tail ∷ []) c.spans) (sym end_held)

  start_tails : take (new_end c k) c.tails ≡ take (end_of held) held.tails
  start_tails = sym (take-take (new_end c k) k.listed c.tails end_below) ∙ ap (λ (z : ℕ). take z held.tails) (sym end_held)

  tails_stored : take (new_end c k) c.tails ++ filled l.tail (drop (new_end c k) c.tails) ≡ filled next.tails c.tails
  tails_stored =
      put_start (new_end c k) c.tails l.tail (omega (arith, g.placed.tails))
      ∙ ap (λ (z : List ℕ). filled (z ++ l.tail) c.tails) start_tails

  pub stored : {hs os ks ss ts : List ℕ}
      → hs ≡ set c.heads k.edges l.head
      → os ≡ set c.own k.edges l.own
      → ks ≡ set c.strikes k.edges l.mark
      → ss ≡ set (set c.spans (2 * k.edges) (new_end c k)) (2 * k.edges + 1) (length l.tail)
      → ts ≡ take (new_end c k) c.tails ++ filled l.tail (drop (new_end c k) c.tails)
      → columns c.vertices hs os ks ss ts ≡ over next c
  stored p q s r t = rw (p ∙ heads_stored, q ∙ own-stored, s ∙ strikes-stored, r ∙ spans_stored, t ∙ tails_stored)

  -- by the end that was read
  module _ {end : ℕ} (e : end ≡ new_end c k) where
    pub storable : Storable c.heads c.own c.strikes c.spans c.tails k.edges end (length l.tail)
    storable = subst (λ (z : ℕ). Storable c.heads c.own c.strikes c.spans c.tails k.edges z (length l.tail)) (sym e) g.placed

    pub counts_are : record { edges = k.edges + 1; listed = end + length l.tail } ≡ new_counts c k l
    counts_are = λ i. record { edges = k.edges + 1; listed = e i + length l.tail }

    pub stored_at : {hs os ks ss ts : List ℕ}
        → (hs ≡ set c.heads k.edges l.head)
        × ((os ≡ set c.own k.edges l.own)
        × ((ks ≡ set c.strikes k.edges l.mark)
        × ((ss ≡ set (set c.spans (2 * k.edges) end) (2 * k.edges + 1) (length l.tail)) × (ts ≡ take end c.tails ++ filled l.tail (drop end c.tails)))))
        → columns c.vertices hs os ks ss ts ≡ over next c
    stored_at p =
        stored p.0 p.1.0 p.1.1.0
        (p.1.1.1.0 ∙ ap (λ (z : ℕ). set (set c.spans (2 * k.edges) z) (2 * k.edges + 1) (length l.tail)) e)
        (p.1.1.1.1 ∙ ap (λ (z : ℕ). take z c.tails ++ filled l.tail (drop z c.tails)) e)

  -- the lengths of the longer table are the new counts
  pub heads_next : length next.heads ≡ k.edges + 1
  heads_next = longer-count held l g.table ∙ ap (λ (z : ℕ). z + 1) lines_held

  pub own-next : length next.own ≡ k.edges + 1
  own-next = length-append held.own (l.own ∷ []) ∙ ap (λ (z : ℕ). z + 1) (length-take-le k.edges c.own g.counted.own)

  pub strikes-next : length next.strikes ≡ k.edges + 1
  strikes-next = length-append held.strikes (l.mark ∷ []) ∙ ap (λ (z : ℕ). z + 1) (length-take-le k.edges c.strikes g.counted.strikes)

  pub spans_next : length next.spans ≡ 2 * (k.edges + 1)
  spans_next = omega (arith, length-append held.spans (end_of held ∷ length l.tail ∷ []), length-take-le (2 * k.edges) c.spans g.counted.spanned.spans)

  pub tails_next : length next.tails ≡ new_end c k + length l.tail
  tails_next = longer-listed held l g.table ∙ ap (λ (z : ℕ). z + length l.tail) end_held

  pub cut_is : in_use_of (over next c) (new_counts c k l) ≡ next
  cut_is =
      rw (
        take-filled next.heads c.heads (k.edges + 1) heads_next,
        take-filled next.own c.own (k.edges + 1) own-next,
        take-filled next.strikes c.strikes (k.edges + 1) strikes-next,
        take-filled next.spans c.spans (2 * (k.edges + 1)) spans_next,
        take-filled next.tails c.tails (new_end c k + length l.tail) tails_next,
      )

  -- so index and answers can be renewed
  module _ {c' : Columns} (p : c' ≡ over next c) {k' : Counts} (q : k' ≡ new_counts c k l) (index list : List ℕ) where
    cut : in_use_of c' k' ≡ next
    cut = ap₂ in_use_of p q ∙ cut_is

    renewable_over : 2 * c.vertices ≤ length index → length (index_of next).list ≤ length list → Renewable (over next c) (new_counts c k l) a index list
    renewable_over h r =
        let s = g.placed in
        record {
          heads = omega (arith, length-filled next.heads c.heads (omega (arith, heads_next, s.heads)), s.heads);
          own = omega (arith, length-filled next.own c.own (omega (arith, own-next, s.own)), s.own);
          strikes = omega (arith, length-filled next.strikes c.strikes (omega (arith, strikes-next, s.strikes)), s.strikes);
          spans = omega (arith, length-filled next.spans c.spans (omega (arith, spans_next, s.spans)), s.spans);
          tails = omega (arith, length-filled next.tails c.tails (omega (arith, tails_next, s.tails)), s.tails);
          table = ap acceptance cut_is ∙ next_accepted;
          sized = g.sized;
          places = h;
          room = subst (λ (t : Columns). length (index_of t).list ≤ length list) (sym cut_is) r;
        }

    pub renewable : 2 * c.vertices ≤ length index → length (index_of next).list ≤ length list → Renewable c' k' a index list
    renewable h r = subst₂ (λ (x : Columns) (y : Counts). Renewable x y a index list) (sym p) (sym q) (renewable_over h r)

    pub all_grown : (m : Measure) {a' : Entries} {index' list' : List ℕ} → append_acceptance m c k a index list l ≡ Ok tt
        → a' ≡ entries_of m (in_use_of c' k') → index' ≡ filled (index_of (in_use_of c' k')).pairs index → list' ≡ filled (index_of (in_use_of c' k')).list list
        → leaves (Ok k') c' a' index' list' ≡ appended m c k a index list l
    unfolding appended
    all_grown m e u v w =
        let t = cut in
        let u' = u ∙ ap (entries_of m) t in
        let v' = v ∙ ap (λ (z : Columns). filled (index_of z).pairs index) t in
        let w' = w ∙ ap (λ (z : Columns). filled (index_of z).list list) t in
        rw e (λ i. leaves (Ok (q i)) (p i) (u' i) (v' i) (w' i))

-- a refusal leaves everything
pub refused_grown : (m : Measure) (c : Columns) (k : Counts) (a : Entries) (index list : List ℕ) (l : NewLine) {r : Refusal}
    → append_acceptance m c k a index list l ≡ Err r → leaves (Err r) c a index list ≡ appended m c k a index list l
unfolding appended
refused_grown m c k a index list l p = rw p
