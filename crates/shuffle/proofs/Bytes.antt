-- A number is its bytes, and bytes are the number's: for any count of bytes. Assumes nothing.
use Prim.Native.Nat.{ℕ, zero, suc, ◌+◌, ◌*◌, ◌/◌, ◌%◌, ◌^◌, ◌≤◌, ◌<◌}
use mathlib.Core.Path.{◌≡◌, refl, sym, ◌∙◌, ap, ap₂}
use mathlib.Core.List.{List, [], ◌∷◌}
use native.Mathlib.Nat.{pow-succ', div-div-eq-div-mul}
use native.Mathlib.Omega.{arith}
use lib.ListN.{length, get_or}
use mir.Syntax.{w64}
use Rattle.std.specs.Int.{to_le_bytes}
use Rattle.shuffle.specs.Bytes.{bytes_of, from_bytes, byte_at, EachBelow}

-- a number is its bytes
pub value_bytes : (k x : ℕ) → x < 256 ^ k → from_bytes (bytes_of k x) ≡ x
unfolding from_bytes bytes_of
value_bytes zero x h = omega arith
value_bytes (suc k) x h = let p = pow-succ' 256 k in let r = value_bytes k (x / 256) (omega arith) in omega arith

-- bytes are the number's
pub bytes_value : (bs : List ℕ) → EachBelow 256 bs → bytes_of (length bs) (from_bytes bs) ≡ bs
unfolding from_bytes bytes_of
bytes_value [] h = refl
bytes_value (b ∷ bs) h =
    let l : b < 256 = h 0 (omega arith) in
    let q : (b + 256 * from_bytes bs) % 256 ≡ b = omega arith in
    let r : (b + 256 * from_bytes bs) / 256 ≡ from_bytes bs = omega arith in
    ap₂ (λ (x : ℕ) (xs : List ℕ). x ∷ xs) q (ap (bytes_of (length bs)) r ∙ bytes_value bs (λ i k. h (suc i) (omega arith)))

pub length_bytes : (k x : ℕ) → length (bytes_of k x) ≡ k
unfolding bytes_of
length_bytes zero x = refl
length_bytes (suc k) x = ap suc (length_bytes k (x / 256))

-- a number below 256^q has no byte but 0 from place q on
pub byte_nought : (k q p x : ℕ) → x < 256 ^ q → q ≤ p → get_or (bytes_of k x) p 0 ≡ 0
unfolding bytes_of
byte_nought zero q p x h l = refl
byte_nought (suc k) zero zero x h l = omega arith
byte_nought (suc k) zero (suc p) x h l = byte_nought k zero p (x / 256) (omega arith) (omega arith)
byte_nought (suc k) (suc q) zero x h l = absurd (omega arith)
byte_nought (suc k) (suc q) (suc p) x h l = let e = pow-succ' 256 q in byte_nought k q p (x / 256) (omega arith) (omega arith)

-- the bytes of a quotient: one, and those of the next quotient, if these are bs
next_byte : (k x n : ℕ) {bs : List ℕ} → bytes_of k (x / (n * 256)) ≡ bs → bytes_of (suc k) (x / n) ≡ (x / n % 256) ∷ bs
unfolding bytes_of
next_byte k x n e = ap (λ (z : List ℕ). (x / n % 256) ∷ z) (ap (bytes_of k) (div-div-eq-div-mul x n 256) ∙ e)

-- the eight bytes, as std's `to_le_bytes` gives them
pub eight_bytes : (x : ℕ) → bytes_of 8 x ≡ to_le_bytes w64 x
unfolding bytes_of
eight_bytes x =
    ap (λ (z : List ℕ). (x % 256) ∷ z)
    (next_byte 6 x 256
    (next_byte 5 x 65536
    (next_byte 4 x 16777216
    (next_byte 3 x 4294967296
    (next_byte 2 x 1099511627776 (next_byte 1 x 281474976710656 (next_byte 0 x 72057594037927936 refl)))))))

-- the byte of place p, by one quotient and one remainder
byte_quotient : (k p x : ℕ) → p < k → get_or (bytes_of k x) p 0 ≡ x / 256 ^ p % 256
unfolding bytes_of
byte_quotient zero p x h = absurd (omega arith)
byte_quotient (suc k) zero x h = omega arith
byte_quotient (suc k) (suc p) x h =
    byte_quotient k p (x / 256) (omega arith)
    ∙ ap (λ (z : ℕ). z % 256) (div-div-eq-div-mul x 256 (256 ^ p) ∙ ap (λ (z : ℕ). x / z) (sym (pow-succ' 256 p)))

pub byte_is : (p x : ℕ) → p < 8 → byte_at p x ≡ x / 256 ^ p % 256
unfolding byte_at
byte_is p x h = byte_quotient 8 p x h
