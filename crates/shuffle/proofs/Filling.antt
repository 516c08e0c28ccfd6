-- Which byte stands where in a shuffled column, and which figure in an unshuffled one; the loops that fill them. Assumes nothing.
use Prim.Native.Nat.{ℕ, zero, suc, ◌+◌, ◌*◌, ◌≤◌, ◌<◌}
use mathlib.Core.Path.{◌≡◌, refl, sym, ◌∙◌, ap}
use mathlib.Core.Logic.{⊎_elim}
use mathlib.Core.List.{List, [], ◌∷◌, ◌++◌}
use native.Mathlib.Nat.{suc-mul, eq-or-lt_of_le}
use native.Mathlib.Omega.{arith}
use lib.ListN.{length, get_or, set, length-append, length-set, get_or-append}
use lib.Seq.{ext_get_or, get_or-append-add, get_or-set_same, get_or-set_other}
use Rattle.shuffle.specs.Bytes.{bytes_of, byte_at}
use Rattle.shuffle.specs.Shuffled.{plane, planes, shuffled, gathered, gathered_from, unshuffled}
use Rattle.shuffle.specs.Places.{spread}
use Rattle.shuffle.proofs.Bytes.{length_bytes}
use Rattle.shuffle.proofs.Places.{figure_of, place_below, ext_places, length-spread, spread_other, spread_at}

pub length-plane : (p : ℕ) (xs : List ℕ) → length (plane p xs) ≡ length xs
unfolding plane
length-plane p [] = refl
length-plane p (x ∷ xs) = ap suc (length-plane p xs)

plane_at : (p : ℕ) (xs : List ℕ) (i : ℕ) → i < length xs → get_or (plane p xs) i 0 ≡ byte_at p (get_or xs i 0)
unfolding plane
plane_at p [] i h = absurd (omega arith)
plane_at p (x ∷ xs) zero h = refl
plane_at p (x ∷ xs) (suc i) h = plane_at p xs i (omega arith)

pub length-planes : (n p : ℕ) (xs : List ℕ) → length (planes n p xs) ≡ n * length xs
unfolding planes
length-planes zero p xs = omega arith
length-planes (suc n) p xs =
    length-append (plane p xs) (planes n (p + 1) xs)
    ∙ omega (arith, length-plane p xs, length-planes n (p + 1) xs, suc-mul n (length xs))

planes_at : (n p : ℕ) (xs : List ℕ) (q i : ℕ) → q < n → i < length xs → get_or (planes n p xs) (q * length xs + i) 0 ≡ byte_at (p + q) (get_or xs i 0)
unfolding planes
planes_at zero p xs q i h l = absurd (omega arith)
planes_at (suc n) p xs zero i h l =
    ap (λ (z : ℕ). get_or (plane p xs ++ planes n (p + 1) xs) z 0) (omega arith)
    ∙ get_or-append (plane p xs) (planes n (p + 1) xs) 0 i (omega (arith, length-plane p xs))
    ∙ plane_at p xs i l
    ∙ ap (λ (z : ℕ). byte_at z (get_or xs i 0)) (omega arith)
planes_at (suc n) p xs (suc q) i h l =
    ap (λ (z : ℕ). get_or (plane p xs ++ planes n (p + 1) xs) z 0) (omega (arith, suc-mul q (length xs), length-plane p xs))
    ∙ get_or-append-add (plane p xs) (planes n (p + 1) xs) (q * length xs + i) 0
    ∙ planes_at n (p + 1) xs q i (omega arith) l
    ∙ ap (λ (z : ℕ). byte_at z (get_or xs i 0)) (omega arith)

pub length-shuffled : (xs : List ℕ) → length (shuffled xs) ≡ 8 * length xs
unfolding shuffled
length-shuffled xs = length-planes 8 0 xs

-- the byte of place p of figure i stands at p × k + i
pub shuffled_at : (xs : List ℕ) (p i : ℕ) → p < 8 → i < length xs → get_or (shuffled xs) (p * length xs + i) 0 ≡ byte_at p (get_or xs i 0)
unfolding shuffled
shuffled_at xs p i h l = planes_at 8 0 xs p i h l ∙ ap (λ (z : ℕ). byte_at z (get_or xs i 0)) (omega arith)

length-gathered : (n i k : ℕ) (bs : List ℕ) → length (gathered_from n i k bs) ≡ n
unfolding gathered_from
length-gathered zero i k bs = refl
length-gathered (suc n) i k bs = ap suc (length-gathered n (i + 1) k bs)

gathered_at : (n i k : ℕ) (bs : List ℕ) (j : ℕ) → j < n → get_or (gathered_from n i k bs) j 0 ≡ gathered k bs (i + j)
unfolding gathered_from
gathered_at zero i k bs j h = absurd (omega arith)
gathered_at (suc n) i k bs zero h = ap (gathered k bs) (omega arith)
gathered_at (suc n) i k bs (suc j) h = gathered_at n (i + 1) k bs j (omega arith) ∙ ap (gathered k bs) (omega arith)

pub length-unshuffled : (k : ℕ) (bs : List ℕ) → length (unshuffled k bs) ≡ k
unfolding unshuffled
length-unshuffled k bs = length-gathered k 0 k bs

pub unshuffled_at : (k : ℕ) (bs : List ℕ) (i : ℕ) → i < k → get_or (unshuffled k bs) i 0 ≡ gathered k bs i
unfolding unshuffled
unshuffled_at k bs i h = gathered_at k 0 k bs i h ∙ ap (gathered k bs) (omega arith)

-- the bytes of the first i figures are in their places
pub record Laid (xs room : List ℕ) (i : ℕ) : Type 0 where
  pub size : length room ≡ 8 * length xs
  pub bytes : (p j : ℕ) → p < 8 → j < i → get_or room (p * length xs + j) 0 ≡ byte_at p (get_or xs j 0)

pub laid_none : (xs room : List ℕ) → length room ≡ 8 * length xs → Laid xs room 0
laid_none xs room h = record { size = h; bytes = λ p j k l. absurd (omega arith) }

pub laid_next : (xs room : List ℕ) (i : ℕ) → i < length xs → Laid xs room i → Laid xs (spread (length xs) i (bytes_of 8 (get_or xs i 0)) room) (i + 1)
unfolding byte_at
laid_next xs room i h l = record {
  size = length-spread (length xs) i (bytes_of 8 (get_or xs i 0)) room ∙ l.size;
  bytes = λ p j a b. ⊎_elim (λ e. rw e (here p a)) (λ c. before p j a c) (eq-or-lt_of_le {n = j} {m = i} (omega arith));
}
  where
    here : (p : ℕ) → p < 8 → get_or (spread (length xs) i (bytes_of 8 (get_or xs i 0)) room) (p * length xs + i) 0 ≡ byte_at p (get_or xs i 0)
    here p a =
        spread_at (length xs) i (bytes_of 8 (get_or xs i 0)) room p (omega arith) (omega (arith, length_bytes 8 (get_or xs i 0)))
        (let b : p * length xs + i < 8 * length xs = place_below a h in omega (arith, l.size))

    before : (p j : ℕ) → p < 8 → j < i → get_or (spread (length xs) i (bytes_of 8 (get_or xs i 0)) room) (p * length xs + j) 0 ≡ byte_at p (get_or xs j 0)
    before p j a c =
        spread_other (length xs) i (bytes_of 8 (get_or xs i 0)) room (p * length xs + j) (λ q b e. let s = figure_of {k = length xs} {i = j} {j = i} (omega arith) h p q e in omega arith)
        ∙ l.bytes p j a c

pub laid_all : (xs room : List ℕ) (i : ℕ) → length xs ≤ i → Laid xs room i → room ≡ shuffled xs
laid_all xs room i h l =
    ext_places 8 (length xs) room (shuffled xs) l.size (length-shuffled xs)
    (λ p j a b. l.bytes p j a (omega arith) ∙ sym (shuffled_at xs p j a b))

-- the first i figures are gathered from the bytes
pub record LaidBack (k : ℕ) (bs own : List ℕ) (i : ℕ) : Type 0 where
  pub size : length own ≡ k
  pub figures : (j : ℕ) → j < i → get_or own j 0 ≡ gathered k bs j

pub back_none : (k : ℕ) (bs own : List ℕ) → length own ≡ k → LaidBack k bs own 0
back_none k bs own h = record { size = h; figures = λ j l. absurd (omega arith) }

pub back_next : (k : ℕ) (bs own : List ℕ) (i : ℕ) → i < k → LaidBack k bs own i → LaidBack k bs (set own i (gathered k bs i)) (i + 1)
back_next k bs own i h l = record {
  size = length-set own i (gathered k bs i) ∙ l.size;
  figures = λ j b. ⊎_elim
      (λ e. rw e (get_or-set_same own i (gathered k bs i) 0 (omega (arith, l.size))))
      (λ c. get_or-set_other own i j (gathered k bs i) 0 (λ e. omega arith) ∙ l.figures j c)
      (eq-or-lt_of_le {n = j} {m = i} (omega arith));
}

pub back_all : (k : ℕ) (bs own : List ℕ) (i : ℕ) → k ≤ i → LaidBack k bs own i → own ≡ unshuffled k bs
back_all k bs own i h l =
    ext_get_or 0 own (unshuffled k bs) (l.size ∙ sym (length-unshuffled k bs))
    (λ j b. l.figures j (omega (arith, l.size)) ∙ sym (unshuffled_at k bs j (omega (arith, l.size))))
