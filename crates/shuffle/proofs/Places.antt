-- Places p × k + i of a list: two of different figures differ, and there are no others; bytes read and stored k apart. Assumes nothing.
use Prim.Native.Nat.{ℕ, zero, suc, ◌+◌, ◌*◌, ◌/◌, ◌%◌, ◌^◌, ◌≤◌, ◌<◌}
use mathlib.Core.Path.{◌≡◌, refl, sym, ◌∙◌, ap, subst}
use mathlib.Core.Logic.{◌≢◌}
use mathlib.Core.List.{List, [], ◌∷◌}
use native.Mathlib.Nat.{suc-mul, pow-succ', mul-le-mul_right, mod-lt, mod-eq_of_lt, div-add-mod', div-lt_iff_lt-mul, mul-add-mod_self_right}
use native.Mathlib.Omega.{arith}
use lib.ListN.{length, get_or, set, take, length-set}
use lib.Seq.{ext_get_or, get_or-set_same, get_or-set_other}
use mir.Syntax.{w64}
use Rattle.std.specs.Int.{from_le_bytes}
use Rattle.shuffle.specs.Bytes.{from_bytes}
use Rattle.shuffle.specs.Shuffled.{strided, gathered}
use Rattle.shuffle.specs.Places.{spread}

-- a place tells its figure
pub figure_of : {k i j : ℕ} → i < k → j < k → (p q : ℕ) → p * k + i ≡ q * k + j → i ≡ j
figure_of {k} h l p q e = sym (rest p h) ∙ ap (λ (z : ℕ). z % k) e ∙ rest q l
  where
    rest : (p : ℕ) {i : ℕ} → i < k → (p * k + i) % k ≡ i
    rest p {i} h = mul-add-mod_self_right p k i ∙ mod-eq_of_lt h

-- and is among n × k
pub place_below : {n k p i : ℕ} → p < n → i < k → p * k + i < n * k
place_below {n} {k} {p} {i} h l = let m : suc p * k ≤ n * k = mul-le-mul_right k h in omega (arith, suc-mul p k)

-- two lists of n × k are equal if they are at each place p × k + i
pub ext_places : (n k : ℕ) (xs ys : List ℕ) → length xs ≡ n * k → length ys ≡ n * k
    → ((p i : ℕ) → p < n → i < k → get_or xs (p * k + i) 0 ≡ get_or ys (p * k + i) 0) → xs ≡ ys
ext_places n zero xs ys l m f = ext_get_or 0 xs ys (l ∙ sym m) (λ j h. absurd (omega arith))
ext_places n (suc k) xs ys l m f =
    ext_get_or 0 xs ys (l ∙ sym m)
    (λ j h.
    let b : j < n * suc k = subst (λ (z : ℕ). j < z) l h in
    subst (λ (z : ℕ). get_or xs z 0 ≡ get_or ys z 0) (div-add-mod' j (suc k))
    (f (j / suc k) (j % suc k) ((div-lt_iff_lt-mul (omega arith)).1 b) (mod-lt j (omega arith))))

first : (k i : ℕ) → 0 * k + i ≡ i
first k i = omega arith

next : (p k i : ℕ) → suc p * k + i ≡ p * k + (i + k)
next p k i = omega (arith, suc-mul p k)

pub length-strided : (k i n : ℕ) (bs : List ℕ) → length (strided k i n bs) ≡ n
unfolding strided
length-strided k i zero bs = refl
length-strided k i (suc n) bs = ap suc (length-strided k (i + k) n bs)

pub strided_at : (k i n : ℕ) (bs : List ℕ) (p : ℕ) → p < n → get_or (strided k i n bs) p 0 ≡ get_or bs (p * k + i) 0
unfolding strided
strided_at k i zero bs p h = absurd (omega arith)
strided_at k i (suc n) bs zero h = ap (λ (z : ℕ). get_or bs z 0) (sym (first k i))
strided_at k i (suc n) bs (suc p) h = strided_at k (i + k) n bs p (omega arith) ∙ ap (λ (z : ℕ). get_or bs z 0) (sym (next p k i))

pub length-spread : (k i : ℕ) (bs room : List ℕ) → length (spread k i bs room) ≡ length room
unfolding spread
length-spread k i [] room = refl
length-spread k i (b ∷ bs) room = length-spread k (i + k) bs (set room i b) ∙ length-set room i b

-- a place that is none of these keeps its byte
pub spread_other : (k i : ℕ) (bs room : List ℕ) (m : ℕ) → ((p : ℕ) → p < length bs → m ≢ p * k + i) → get_or (spread k i bs room) m 0 ≡ get_or room m 0
unfolding spread
spread_other k i [] room m f = refl
spread_other k i (b ∷ bs) room m f =
    spread_other k (i + k) bs (set room i b) m (λ p h e. f (suc p) (omega arith) (e ∙ sym (next p k i)))
    ∙ get_or-set_other room i m b 0 (λ e. f 0 (omega arith) (e ∙ sym (first k i)))

pub spread_at : (k i : ℕ) (bs room : List ℕ) (p : ℕ) → 0 < k → p < length bs → p * k + i < length room → get_or (spread k i bs room) (p * k + i) 0 ≡ get_or bs p 0
unfolding spread
spread_at k i [] room p s h l = absurd (omega arith)
spread_at k i (b ∷ bs) room zero s h l =
    ap (λ (z : ℕ). get_or (spread k (i + k) bs (set room i b)) z 0) (first k i)
    ∙ spread_other k (i + k) bs (set room i b) i (λ p h e. omega arith)
    ∙ get_or-set_same room i b 0 (omega (arith, first k i))
spread_at k i (b ∷ bs) room (suc p) s h l =
    ap (λ (z : ℕ). get_or (spread k (i + k) bs (set room i b)) z 0) (next p k i)
    ∙ spread_at k (i + k) bs (set room i b) p s (omega arith) (omega (arith, next p k i, length-set room i b))

-- one byte more
pub spread_more : (k i : ℕ) (bs room : List ℕ) (p : ℕ) → p < length bs
    → set (spread k i (take p bs) room) (p * k + i) (get_or bs p 0) ≡ spread k i (take (suc p) bs) room
unfolding spread
spread_more k i [] room p h = absurd (omega arith)
spread_more k i (b ∷ bs) room zero h = ap (λ (z : ℕ). set room z b) (first k i)
spread_more k i (b ∷ bs) room (suc p) h =
    ap (λ (z : ℕ). set (spread k (i + k) (take p bs) (set room i b)) z (get_or bs p 0)) (next p k i)
    ∙ spread_more k (i + k) bs (set room i b) p (omega arith)

-- n bytes make a number below 256^n
pub strided_below : (bs : List ℕ) → ((j : ℕ) → get_or bs j 0 < 256) → (k i n : ℕ) → from_bytes (strided k i n bs) < 256 ^ n
unfolding from_bytes strided
strided_below bs f k i zero = omega arith
strided_below bs f k i (suc n) = omega (arith, pow-succ' 256 n, f i, strided_below bs f k (i + k) n)

-- eight bytes read k apart, as std's `from_le_bytes` takes them
value_le : (k i : ℕ) (bs : List ℕ) → from_le_bytes w64 (strided k i 8 bs) ≡ from_bytes (strided k i 8 bs)
unfolding from_bytes strided
value_le k i bs = omega arith

pub gathered_le : (k i : ℕ) (bs xs : List ℕ) → length xs ≡ 8 → ((q : ℕ) → q < length xs → get_or xs q 0 ≡ get_or bs (q * k + i) 0)
    → from_le_bytes w64 xs ≡ gathered k bs i
unfolding gathered
gathered_le k i bs xs l f =
    ap (from_le_bytes w64)
    (ext_get_or 0 xs (strided k i 8 bs) (l ∙ sym (length-strided k i 8 bs)) (λ q b. f q b ∙ sym (strided_at k i 8 bs q (omega arith))))
    ∙ value_le k i bs
