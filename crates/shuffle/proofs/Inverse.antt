-- Shuffling and unshuffling undo each other, whichever comes first; the planes of small figures. Document 02, 2026-13. Assumes nothing.
use Prim.Native.Nat.{ℕ, ◌+◌, ◌*◌, ◌<◌}
use mathlib.Core.Path.{◌≡◌, sym, ◌∙◌, ap, subst}
use mathlib.Core.Logic.{◌≢◌}
use mathlib.Core.List.{List}
use native.Mathlib.Nat.{add-mul}
use native.Mathlib.Omega.{arith}
use lib.ListN.{length, get_or, drop, replicate, length-drop, length-replicate, get_or-replicate}
use lib.Seq.{ext_get_or, get_or-drop}
use borrow.Author.Tests.{eq-eqb, ne_eqb}
use Rattle.refusal.specs.declared.Refusal.TheVariants.{ByteRoom}
use Rattle.shuffle.specs.Bytes.{bytes_of, from_bytes, byte_at, EachBelow}
use Rattle.shuffle.specs.Shuffled.{shuffled, strided, gathered, unshuffled, Outcome, outcome, shuffle_outcome, unshuffle_outcome}
use Rattle.shuffle.proofs.Bytes.{value_bytes, bytes_value, length_bytes, byte_nought}
use Rattle.shuffle.proofs.Places.{place_below, ext_places, length-strided, strided_at}
use Rattle.shuffle.proofs.Filling.{length-shuffled, shuffled_at, length-unshuffled, unshuffled_at}
use Rattle.std.specs.Prelude.{Ok, Err}

-- the bytes of a figure, gathered from its places, are its own
strided-shuffled : (xs : List ℕ) (i : ℕ) → i < length xs → strided (length xs) i 8 (shuffled xs) ≡ bytes_of 8 (get_or xs i 0)
unfolding byte_at
strided-shuffled xs i h =
    ext_get_or 0 (strided (length xs) i 8 (shuffled xs)) (bytes_of 8 (get_or xs i 0))
    (length-strided (length xs) i 8 (shuffled xs) ∙ sym (length_bytes 8 (get_or xs i 0)))
    (λ p l.
    let l8 : p < 8 = omega (arith, length-strided (length xs) i 8 (shuffled xs)) in
    strided_at (length xs) i 8 (shuffled xs) p l8 ∙ shuffled_at xs p i l8 h)

-- "The inverse must give every column back, an empty one and figures outside the table's limits included"
pub unshuffle_shuffle : (xs : List ℕ) → EachBelow 18_446_744_073_709_551_616 xs → unshuffled (length xs) (shuffled xs) ≡ xs
unfolding gathered
unshuffle_shuffle xs b =
    ext_get_or 0 (unshuffled (length xs) (shuffled xs)) xs (length-unshuffled (length xs) (shuffled xs))
    (λ i h.
    let l : i < length xs = omega (arith, length-unshuffled (length xs) (shuffled xs)) in
    unshuffled_at (length xs) (shuffled xs) i l ∙ whole i l)
  where
    whole : (i : ℕ) → i < length xs → gathered (length xs) (shuffled xs) i ≡ get_or xs i 0
    whole i l = ap from_bytes (strided-shuffled xs i l) ∙ value_bytes 8 (get_or xs i 0) (b i l)

-- "and the two must undo each other whichever comes first"
pub shuffle_unshuffle : (k : ℕ) (bs : List ℕ) → length bs ≡ 8 * k → EachBelow 256 bs → shuffled (unshuffled k bs) ≡ bs
unfolding byte_at gathered
shuffle_unshuffle k bs n b =
    ext_places 8 k (shuffled (unshuffled k bs)) bs (length-shuffled (unshuffled k bs) ∙ ap (λ (z : ℕ). 8 * z) (length-unshuffled k bs)) n
    (λ p i h l. ap (λ (z : ℕ). get_or (shuffled (unshuffled k bs)) (p * z + i) 0) (sym (length-unshuffled k bs))
    ∙ shuffled_at (unshuffled k bs) p i h (omega (arith, length-unshuffled k bs))
    ∙ ap (byte_at p) (unshuffled_at k bs i l)
    ∙ bytes_at p i h l)
  where
    small : (i : ℕ) → i < k → EachBelow 256 (strided k i 8 bs)
    small i l p h =
        let l8 : p < 8 = omega (arith, length-strided k i 8 bs) in
        subst (λ (z : ℕ). z < 256) (sym (strided_at k i 8 bs p l8)) (b (p * k + i) (let s : p * k + i < 8 * k = place_below l8 l in omega arith))

    bytes_at : (p i : ℕ) → p < 8 → i < k → byte_at p (gathered k bs i) ≡ get_or bs (p * k + i) 0
    bytes_at p i h l =
        ap (λ (z : ℕ). get_or (bytes_of z (from_bytes (strided k i 8 bs))) p 0) (sym (length-strided k i 8 bs))
        ∙ ap (λ (zs : List ℕ). get_or zs p 0) (bytes_value (strided k i 8 bs) (small i l))
        ∙ strided_at k i 8 bs p h

-- a room of eight bytes for each figure is accepted
pub shuffle_accepted : (own room : List ℕ) → length room ≡ 8 * length own → shuffle_outcome own room ≡ outcome (Ok tt) (shuffled own)
unfolding shuffle_outcome
shuffle_accepted own room h = rw (eq-eqb _ _ h)

pub unshuffle_accepted : (bytes own : List ℕ) → length bytes ≡ 8 * length own → unshuffle_outcome bytes own ≡ outcome (Ok tt) (unshuffled (length own) bytes)
unfolding unshuffle_outcome
unshuffle_accepted bytes own h = rw (eq-eqb _ _ h)

-- and any other is refused, with nothing written
pub shuffle_refused : (own room : List ℕ) → length room ≢ 8 * length own → shuffle_outcome own room ≡ outcome (Err ByteRoom) room
unfolding shuffle_outcome
shuffle_refused own room h = rw (ne_eqb _ _ h)

pub unshuffle_refused : (bytes own : List ℕ) → length bytes ≢ 8 * length own → unshuffle_outcome bytes own ≡ outcome (Err ByteRoom) own
unfolding unshuffle_outcome
unshuffle_refused bytes own h = rw (ne_eqb _ _ h)

-- what shuffling left, unshuffled: the column, whatever the second column held
pub shuffle_then_unshuffle : (own room other : List ℕ) → EachBelow 18_446_744_073_709_551_616 own → length room ≡ 8 * length own → length other ≡ length own
    → unshuffle_outcome (shuffle_outcome own room).left other ≡ outcome (Ok tt) own
shuffle_then_unshuffle own room other b h l =
    ap (λ (z : Outcome). unshuffle_outcome z.left other) (shuffle_accepted own room h)
    ∙ unshuffle_accepted (shuffled own) other (length-shuffled own ∙ ap (λ (z : ℕ). 8 * z) (sym l))
    ∙ ap (outcome (Ok tt)) (ap (λ (z : ℕ). unshuffled z (shuffled own)) l ∙ unshuffle_shuffle own b)

-- what unshuffling left, shuffled: the bytes, whatever the room held
pub unshuffle_then_shuffle : (bytes own room : List ℕ) → EachBelow 256 bytes → length bytes ≡ 8 * length own → length room ≡ length bytes
    → shuffle_outcome (unshuffle_outcome bytes own).left room ≡ outcome (Ok tt) bytes
unshuffle_then_shuffle bytes own room b h l =
    ap (λ (z : Outcome). shuffle_outcome z.left room) (unshuffle_accepted bytes own h)
    ∙ shuffle_accepted (unshuffled (length own) bytes) room (l ∙ h ∙ ap (λ (z : ℕ). 8 * z) (sym (length-unshuffled (length own) bytes)))
    ∙ ap (outcome (Ok tt)) (shuffle_unshuffle (length own) bytes h b)

-- "the upper four bytes of our figures are always 0": the last half, of figures below 2^32
pub upper_nought : (xs : List ℕ) → EachBelow 4_294_967_296 xs → drop (4 * length xs) (shuffled xs) ≡ replicate {A = ℕ} (4 * length xs) 0
unfolding byte_at
upper_nought xs b =
    ext_places 4 (length xs) (drop (4 * length xs) (shuffled xs)) (replicate {A = ℕ} (4 * length xs) 0)
    (length-drop (4 * length xs) (shuffled xs) ∙ omega (arith, length-shuffled xs)) (length-replicate (4 * length xs) 0)
    (λ p i h l. get_or-drop (4 * length xs) (shuffled xs) (p * length xs + i) 0
    ∙ ap (λ (z : ℕ). get_or (shuffled xs) z 0) (omega (arith, add-mul 4 p (length xs)))
    ∙ shuffled_at xs (4 + p) i (omega arith) l
    ∙ nought p i l
    ∙ sym (get_or-replicate (4 * length xs) (p * length xs + i) 0 0 (place_below h l)))
  where
    nought : (p i : ℕ) → i < length xs → byte_at (4 + p) (get_or xs i 0) ≡ 0
    nought p i l = byte_nought 8 4 (4 + p) (get_or xs i 0) (b i l) (omega arith)
