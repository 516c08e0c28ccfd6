-- Semirings (document 000, Definition 1), their natural order, sums of whole families (Definition 3), and the tropical semiring over ℕ (document 000, Example 6).
-- Assumes nothing: these are definitions.
use Rattle.std.specs.Prelude.{◌≡◌, List, [], ◌∷◌, ℕ, zero, suc, ◌+◌, min}

-- what a semiring consists of
pub record Operations : Type 1 where
  pub Carrier : Type 0
  pub plus : Carrier → Carrier → Carrier
  pub times : Carrier → Carrier → Carrier
  pub nought : Carrier
  pub one : Carrier

-- and its laws: commutative, and 0-closed, so idempotent
pub record Semiring (S : Operations) : Type 0 where
  pub plus_assoc : (a b c : S.Carrier) → S.plus (S.plus a b) c ≡ S.plus a (S.plus b c)
  pub plus_comm : (a b : S.Carrier) → S.plus a b ≡ S.plus b a
  pub plus_nought : (a : S.Carrier) → S.plus a S.nought ≡ a
  pub times_assoc : (a b c : S.Carrier) → S.times (S.times a b) c ≡ S.times a (S.times b c)
  pub times_comm : (a b : S.Carrier) → S.times a b ≡ S.times b a
  pub times-one : (a : S.Carrier) → S.times a S.one ≡ a
  pub distributes : (a b c : S.Carrier) → S.times a (S.plus b c) ≡ S.plus (S.times a b) (S.times a c)
  pub annihilates : (a : S.Carrier) → S.times a S.nought ≡ S.nought
  pub closed : (a : S.Carrier) → S.plus S.one a ≡ S.one

-- the natural order: a is below b
abbrev pub Below : (S : Operations) → S.Carrier → S.Carrier → Type 0
Below S a b = S.plus a b ≡ a

-- x is the sum of the family f: the greatest of what is below every member
pub record Sum (S : Operations) {I : Type 0} (f : I → S.Carrier) (x : S.Carrier) : Type 0 where
  pub lower : (i : I) → Below S x (f i)
  pub greatest : (y : S.Carrier) → ((i : I) → Below S y (f i)) → Below S y x

-- the product of a list
unfoldable pub product : (S : Operations) → List S.Carrier → S.Carrier
product S [] = S.one
product S (x ∷ xs) = S.times x (product S xs)

-- Definition 3 sums a sequence by the infimum of its partial sums: that is the same sum
unfoldable pub partial : (S : Operations) → (ℕ → S.Carrier) → ℕ → S.Carrier
partial S a zero = a zero
partial S a (suc n) = S.plus (partial S a n) (a (suc n))

-- ℕ with an element above all
pub data Extended : Type 0 where
  finite : ℕ → Extended
  infinite : Extended

abbrev pub least : Extended → Extended → Extended
least (finite a) (finite b) = finite (min a b)
least (finite a) infinite = finite a
least infinite b = b

-- an operation on ℕ where both are finite, else the element above all
abbrev pub extend : (ℕ → ℕ → ℕ) → Extended → Extended → Extended
extend f (finite a) (finite b) = finite (f a b)
extend f (finite a) infinite = infinite
extend f infinite b = infinite

-- (ℕ ∪ {∞}, min, +, ∞, 0)
abbrev pub tropical : Operations
tropical = record { Carrier = Extended; plus = least; times = extend ◌+◌; nought = infinite; one = finite 0 }
