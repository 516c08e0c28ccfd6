-- What a tail needs and takes of a shelf: the laws by which `count`, `suffices` and `consume` go, and that a tail takes exactly what it lists. Assumes nothing.
use mathlib.Core.Path.{◌≡◌, refl, sym, ◌∙◌, subst}
use mathlib.Core.Bool.{Bool, true, false}
use mathlib.Core.List.{List, [], ◌∷◌}
use Prim.Native.Nat.{ℕ, suc, ◌+◌, ◌-◌, ◌≤◌, ◌<◌}
use native.Mathlib.Numerals.{add-one}
use native.Mathlib.Decide.{dec_le, dec_lt, ℕ_discrete}
use native.Mathlib.Omega.{arith}
use lib.ListN.{length, set, drop, length-set, drop_of_length-le, get_or-eq_default}
use lib.Seq.{drop-cons, get_or-set_same, get_or-set_other}
use lib.Dec.{leb}
use borrow.Author.Tests.{leb-true, leb-false, le-leb, lt-leb}
use Rattle.weights.specs.Choice.{pick}
use Rattle.weights.proofs.Choice.{apart, both_true}
use Rattle.columns.specs.Columns.{cell}
use Rattle.provenance.specs.Counting.{once, count}
use Rattle.provenance.proofs.Counting.{once_same, once_other}
use Rattle.inventory.specs.Replaying.{holds, suffices, consumed}

-- how often a number stands in what is left of a list
pub count_next : (v : ℕ) (xs : List ℕ) (k : ℕ) → k < length xs → count v (drop k xs) ≡ once v (cell xs k) + count v (drop (k + 1) xs)
unfolding count
count_next v xs k h = rw (add-one k, drop-cons xs k 0 h)

pub count_end : (v : ℕ) (xs : List ℕ) (k : ℕ) → length xs ≤ k → count v (drop k xs) ≡ 0
unfolding count
count_end v xs k h = rw (drop_of_length-le xs h)

-- the code's steps along a tail: a part of which there is enough, one of which there is not, and none left
module _ (stock tail : List ℕ) (k : ℕ) where
  pub holds_pass : k < length tail → count (cell tail k) tail ≤ cell stock (cell tail k) → holds stock tail (drop (k + 1) tail) ≡ holds stock tail (drop k tail)
  unfolding holds
  holds_pass h e = rw (add-one k, drop-cons tail k 0 h, le-leb _ _ e)

  pub holds_stop : k < length tail → cell stock (cell tail k) < count (cell tail k) tail → false ≡ holds stock tail (drop k tail)
  unfolding holds
  holds_stop h e = rw (drop-cons tail k 0 h, lt-leb _ _ e)

  pub holds_end : length tail ≤ k → true ≡ holds stock tail (drop k tail)
  unfolding holds
  holds_end h = rw (drop_of_length-le tail h)

  pub consumed_next : k < length tail → consumed (set stock (cell tail k) (cell stock (cell tail k) - 1)) (drop (k + 1) tail) ≡ consumed stock (drop k tail)
  unfolding consumed
  consumed_next h = rw (add-one k, drop-cons tail k 0 h)

  pub consumed_end : length tail ≤ k → stock ≡ consumed stock (drop k tail)
  unfolding consumed
  consumed_end h = rw (drop_of_length-le tail h)

-- of every part there are as many as a list has
abbrev pub Enough : (stock list : List ℕ) → Type 0
Enough stock list = (u : ℕ) → count u list ≤ cell stock u

holds_each : (stock tail us : List ℕ) → holds stock tail us ≡ true → (u : ℕ) → 0 < count u us → count u tail ≤ cell stock u
unfolding holds count
holds_each stock tail [] e u h = absurd (omega arith)
holds_each stock tail (x ∷ us) e u h =
    let t = both_true {a = leb (count x tail) (cell stock x)} {b = holds stock tail us} e in
    go (ℕ_discrete x u) (leb-true _ _ t.0) (holds_each stock tail us t.1 u)
  where
    go : Dec (x ≡ u) → count x tail ≤ cell stock x → (0 < count u us → count u tail ≤ cell stock u) → count u tail ≤ cell stock u
    go (yes q) here rest = subst (λ (z : ℕ). count z tail ≤ cell stock z) q here
    go (no n) here rest = rest (omega (arith, once_other {e = u} {x = x} n))

pub suffices_enough : (stock tail : List ℕ) → suffices stock tail ≡ true → Enough stock tail
suffices_enough stock tail e u = go (dec_le 1 (count u tail))
  where
    go : Dec (1 ≤ count u tail) → count u tail ≤ cell stock u
    go (yes h) = holds_each stock tail tail e u h
    go (no h) = omega arith

-- there are too few of a part
pub record Short (stock tail : List ℕ) : Type 0 where
  pub which : ℕ
  pub few : cell stock which < count which tail

pub holds_short : (stock tail us : List ℕ) → holds stock tail us ≡ false → Short stock tail
unfolding holds
holds_short stock tail [] e = apart (sym e)
holds_short stock tail (x ∷ us) e = go (leb (count x tail) (cell stock x)) refl e (holds_short stock tail us)
  where
    go : (b : Bool) → leb (count x tail) (cell stock x) ≡ b → pick b (holds stock tail us) false ≡ false → (holds stock tail us ≡ false → Short stock tail) → Short stock tail
    go true p q rest = rest q
    go false p q rest = record { which = x; few = leb-false _ _ p }

-- a count that is not 0 has its place
pub counted_placed : (stock : List ℕ) (u : ℕ) → 0 < cell stock u → u < length stock
counted_placed stock u h = go (dec_lt u (length stock))
  where
    go : Dec (u < length stock) → u < length stock
    go (yes p) = p
    go (no p) = absurd (omega (arith, get_or-eq_default stock 0 {n = u} (omega arith)))

-- one piece of u is taken
pub taken : (stock : List ℕ) (u : ℕ) → 0 < cell stock u → (w : ℕ) → cell stock w ≡ cell (set stock u (cell stock u - 1)) w + once w u
taken stock u h w = go (ℕ_discrete u w)
  where
    go : Dec (u ≡ w) → cell stock w ≡ cell (set stock u (cell stock u - 1)) w + once w u
    go (yes q) =
        subst (λ (z : ℕ). cell stock z ≡ cell (set stock u (cell stock u - 1)) z + once z u) q
        (omega (arith, once_same {e = u} {x = u} refl, get_or-set_same stock u (cell stock u - 1) 0 (counted_placed stock u h)))
    go (no n) = omega (arith, once_other {e = w} {x = u} n, get_or-set_other stock u w (cell stock u - 1) 0 (λ q. n (sym q)))

enough_first : (stock us : List ℕ) (u : ℕ) → Enough stock (u ∷ us) → 0 < cell stock u
unfolding count
enough_first stock us u e = omega (arith, e u, once_same {e = u} {x = u} refl)

enough_rest : (stock us : List ℕ) (u : ℕ) → Enough stock (u ∷ us) → Enough (set stock u (cell stock u - 1)) us
unfolding count
enough_rest stock us u e w = omega (arith, e w, taken stock u (enough_first stock us u e) w)

pub enough_held : (stock tail : List ℕ) (k : ℕ) → k < length tail → Enough stock (drop k tail) → 0 < cell stock (cell tail k)
enough_held stock tail k h e = enough_first stock (drop (suc k) tail) (cell tail k) (subst (Enough stock) (drop-cons tail k 0 h) e)

pub enough_next : (stock tail : List ℕ) (k : ℕ) → k < length tail → Enough stock (drop k tail)
    → Enough (set stock (cell tail k) (cell stock (cell tail k) - 1)) (drop (k + 1) tail)
enough_next stock tail k h e =
    subst (λ (z : ℕ). Enough (set stock (cell tail k) (cell stock (cell tail k) - 1)) (drop z tail)) (sym (add-one k))
    (enough_rest stock (drop (suc k) tail) (cell tail k) (subst (Enough stock) (drop-cons tail k 0 h) e))

-- where there is enough no count falls below 0, and each part loses as many pieces as the tail lists it
pub consumed_exact : (stock tail : List ℕ) → Enough stock tail → (u : ℕ) → cell stock u ≡ cell (consumed stock tail) u + count u tail
unfolding consumed count
consumed_exact stock [] e u = omega arith
consumed_exact stock (x ∷ us) e u =
    omega (arith, taken stock x (enough_first stock us x e) u, consumed_exact (set stock x (cell stock x - 1)) us (enough_rest stock us x e) u)

pub length-consumed : (stock tail : List ℕ) → length (consumed stock tail) ≡ length stock
unfolding consumed
length-consumed stock [] = refl
length-consumed stock (x ∷ us) = length-consumed (set stock x (cell stock x - 1)) us ∙ length-set stock x (cell stock x - 1)
