-- The laws by which the walks of a bill go. Assumes nothing.
use Rattle.std.specs.Prelude.{Option, Some, None, SomeIff}
use mathlib.Core.Path.{◌≡◌, refl, sym, ◌∙◌, ap, subst}
use mathlib.Core.List.{List, [], ◌∷◌, ◌++◌, append_assoc, append-nil}
use Prim.Native.Nat.{ℕ, zero, suc, ◌+◌, ◌-◌, ◌*◌, ◌≤◌, ◌<◌}
use native.Mathlib.Nat.{sub-zero}
use native.Mathlib.Numerals.{add-one}
use native.Mathlib.Omega.{arith}
use native.Mathlib.Decide.{dec_le}
use lib.ListN.{length, get_or, take, drop, length-append, take-append-drop}
use lib.Seq.{take_all, take-suc}
use borrow.Author.Tests.{le-leb, lt-leb}
use Rattle.provenance.specs.Support.{bills, bill}
use Rattle.columns.specs.Columns.{cell, tail_of}
use Rattle.columns.specs.Lent.{Placed}
use Rattle.bill.specs.Walk.{vertex_bill, tail_bill, Each, Grounded, AllGrounded, spend}

-- what holds of every number of a list holds of the one at a place
pub each_at : (P : ℕ → Type 0) (xs : List ℕ) (i : ℕ) → i < length xs → Each P xs → P (get_or xs i 0)
unfolding Each
each_at P [] i h ps = absurd (omega arith)
each_at P (x ∷ xs) zero h ps = ps.0
each_at P (x ∷ xs) (suc i) h ps = each_at P xs i (omega arith) ps.1

-- the bills of two lists stand one behind the other
bills-append : (f : ℕ → List ℕ) (xs ys : List ℕ) → bills f (xs ++ ys) ≡ bills f xs ++ bills f ys
unfolding bills
bills-append f [] ys = refl
bills-append f (x ∷ xs) ys = ap (λ (zs : List ℕ). f x ++ zs) (bills-append f xs ys) ∙ sym (append_assoc (f x) (bills f xs) (bills f ys))

-- the bills of the parts of a list up to a place: of none, of one more, of all, and never longer than these
module _ (f : ℕ → List ℕ) (xs : List ℕ) where
  pub bills_none : bills f (take 0 xs) ≡ []
  unfolding bills
  bills_none = refl

  pub bills_next : {i : ℕ} → i < length xs → bills f (take (i + 1) xs) ≡ bills f (take i xs) ++ f (get_or xs i 0)
  unfolding bills
  bills_next {i} h =
      let one = ap (λ (z : ℕ). take z xs) (add-one i) ∙ take-suc xs i 0 h in
      ap (bills f) one ∙ bills-append f (take i xs) (get_or xs i 0 ∷ []) ∙ ap (λ (zs : List ℕ). bills f (take i xs) ++ zs) (append-nil (f (get_or xs i 0)))

  pub bills-all : {i : ℕ} → length xs ≤ i → bills f (take i xs) ≡ bills f xs
  bills-all {i} h = ap (bills f) (take_all i xs h)

  pub bills_within : (i : ℕ) → length (bills f (take i xs)) ≤ length (bills f xs)
  bills_within i =
      let parts = ap (bills f) (sym (take-append-drop i xs)) ∙ bills-append f (take i xs) (drop i xs) in
      omega (arith, ap length parts, length-append (bills f (take i xs)) (bills f (drop i xs)))

-- a part of the bill: its line, and the parts below it
module _ (spans tails edges : List ℕ) where
  pub record Below (depth v : ℕ) : Type 0 where
    pub deep : 0 < depth
    pub vertex : v < length edges
    pub placed : Placed spans tails (get_or edges v 0)
    pub below : AllGrounded spans tails edges (depth - 1) (tail_of spans tails (get_or edges v 0))
    pub lines : vertex_bill spans tails edges depth v ≡ get_or edges v 0 ∷ tail_bill spans tails edges (depth - 1) (tail_of spans tails (get_or edges v 0))

  pub grounded : (depth v : ℕ) → Grounded spans tails edges depth v → Below depth v
  unfolding Grounded bill
  grounded zero v g = absurd g
  grounded (suc depth) v g =
      let e : suc depth - 1 ≡ depth = omega arith in
      let tail = tail_of spans tails (get_or edges v 0) in
      record {
        deep = omega arith;
        vertex = g.0;
        placed = g.1;
        below = subst (λ (k : ℕ). AllGrounded spans tails edges k tail) (sym e) g.2;
        lines = ap (λ (k : ℕ). get_or edges v 0 ∷ tail_bill spans tails edges k tail) (sym e);
      }

  -- a bought part, whose line lists nothing: its bill is the line
  pub bought : {depth v : ℕ} → Below depth v → cell spans (2 * get_or edges v 0 + 1) ≡ 0 → vertex_bill spans tails edges depth v ≡ get_or edges v 0 ∷ []
  bought {depth} {v} b z =
      let f = vertex_bill spans tails edges (depth - 1) in
      let behind = drop (cell spans (2 * get_or edges v 0)) tails in
      b.lines ∙ ap (λ (n : ℕ). get_or edges v 0 ∷ bills f (take n behind)) z ∙ ap (λ (es : List ℕ). get_or edges v 0 ∷ es) (bills_none f behind)

-- a budget pays for n lines, or for fewer
module _ (b n : ℕ) where
  pub spend_paid : n ≤ b → spend b n ≡ Some (b - n)
  spend_paid h = rw (le-leb n b h)

  pub spend_short : b < n → spend b n ≡ None
  spend_short h = rw (lt-leb n b h)

  -- what a walk gave tells which
  pub is_spent : spend b n ≡ None → b < n
  is_spent e = go (dec_le n b)
    where
      go : Dec (n ≤ b) → b < n
      go (yes h) = let q = spend_paid h in let z : ◌≡◌ {A = ℕ} 0 1 = cc in absurd (omega arith)
      go (no k) = omega arith

  -- the subtraction of std that is `None` where it would go below 0
  pub spend_checked : (r : Option ℕ) → SomeIff r (n ≤ b) (b - n) → r ≡ spend b n
  spend_checked None h = sym (spend_short (omega (arith, h)))
  spend_checked (Some x) h = ap Some h.1 ∙ sym (spend_paid h.0)

  pub is_left : {r : ℕ} → spend b n ≡ Some r → (n ≤ b) × (r ≡ b - n)
  is_left {r} e = go (dec_le n b)
    where
      go : Dec (n ≤ b) → (n ≤ b) × (r ≡ b - n)
      go (yes h) = let q = spend_paid h in (h, cc)
      go (no k) = let q = spend_short (omega arith) in let z : ◌≡◌ {A = ℕ} 0 1 = cc in absurd (omega arith)

-- n lines, and then m more
spend_more : (b n m : ℕ) → n ≤ b → spend (b - n) m ≡ spend b (n + m)
spend_more b n m h = go (dec_le m (b - n))
  where
    go : Dec (m ≤ b - n) → spend (b - n) m ≡ spend b (n + m)
    go (yes k) =
        let e : b - n - m ≡ b - (n + m) = omega arith in
        spend_paid (b - n) m k ∙ ap Some e ∙ sym (spend_paid b (n + m) (omega arith))
    go (no k) = spend_short (b - n) m (omega arith) ∙ sym (spend_short b (n + m) (omega arith))

-- the root, and then its tail
module _ (b : ℕ) {e : ℕ} {es xs : List ℕ} (q : xs ≡ e ∷ es) where
  pub root_unpaid : b ≡ 0 → None ≡ spend b (length xs)
  root_unpaid h = rw (q, h) (sym (spend_short 0 (length (e ∷ es)) (omega arith)))

  pub root_paid : ¬ (b ≡ 0) → {r : Option ℕ} → r ≡ spend (b - 1) (length es) → r ≡ spend b (length xs)
  root_paid h {r} p =
      let k : 1 + length es ≡ length (e ∷ es) = omega arith in
      rw q (p ∙ spend_more b 1 (length es) (omega arith) ∙ ap (spend b) k)

-- a line alone
pub line_paid : (b : ℕ) {e : ℕ} {xs : List ℕ} → xs ≡ e ∷ [] → ¬ (b ≡ 0) → Some (b - 1) ≡ spend b (length xs)
line_paid b q h = rw q (sym (spend_paid b 1 (omega arith)))

-- a budget pays for the parts of a list up to a place: for none, for one more, for all
module _ (b : ℕ) (f : ℕ → List ℕ) (xs : List ℕ) where
  pub none_paid : Some b ≡ spend b (length (bills f (take 0 xs)))
  none_paid = rw (bills_none f xs) (sym (spend_paid b 0 (omega arith) ∙ ap Some (sub-zero b)))

  module _ {i l : ℕ} (p : Some l ≡ spend b (length (bills f (take i xs)))) where
    pub all_paid : length xs ≤ i → Some l ≡ spend b (length (bills f xs))
    all_paid h = p ∙ ap (λ (es : List ℕ). spend b (length es)) (bills-all f xs h)

    pub next_paid : i < length xs → {r : Option ℕ} → r ≡ spend l (length (f (get_or xs i 0))) → r ≡ spend b (length (bills f (take (i + 1) xs)))
    next_paid h q =
        let n = length (bills f (take i xs)) in
        let m = length (f (get_or xs i 0)) in
        let k = is_left b n (sym p) in
        let one = ap length (bills_next f xs h) ∙ length-append (bills f (take i xs)) (f (get_or xs i 0)) in
        q ∙ ap (λ (z : ℕ). spend z m) k.1 ∙ spend_more b n m k.0 ∙ ap (spend b) (sym one)

    pub next_unpaid : i < length xs → None ≡ spend l (length (f (get_or xs i 0))) → None ≡ spend b (length (bills f xs))
    next_unpaid h q =
        let n = is_spent b (length (bills f (take (i + 1) xs))) (sym (next_paid h q)) in
        sym (spend_short b (length (bills f xs)) (omega (arith, n, bills_within f xs (i + 1))))
