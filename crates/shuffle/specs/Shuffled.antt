-- A column laid out by the places of its bytes, and laid back: document 02, 2026-13. Assumes nothing: these are definitions.
use Rattle.std.specs.Prelude.{ℕ, zero, suc, ◌+◌, ◌*◌, List, [], ◌∷◌, ◌++◌, map, length, get_or, eqb, Ok, Err}
use Rattle.weights.specs.Choice.{pick}
use Rattle.refusal.specs.declared.Refusal.TheVariants.{ByteRoom}
use Rattle.shuffle.specs.Bytes.{from_bytes, byte_at}
use Rattle.refusal.specs.Answers.{Acceptance}

-- the byte of place p of each figure, "each time in the column's order"
unfoldable pub plane : (p : ℕ) → List ℕ → List ℕ
plane p xs = map (byte_at p) xs

-- n planes from place p on, one behind the other
unfoldable pub planes : (n p : ℕ) → List ℕ → List ℕ
planes zero p xs = []
planes (suc n) p xs = plane p xs ++ planes n (p + 1) xs

-- "all lowest bytes first, then all second bytes, up to the eighth"
unfoldable pub shuffled : List ℕ → List ℕ
shuffled xs = planes 8 0 xs

-- n bytes, each k behind the one before, the first at i
unfoldable pub strided : (k i n : ℕ) → List ℕ → List ℕ
strided k i zero bs = []
strided k i (suc n) bs = get_or bs i 0 ∷ strided k (i + k) n bs

-- figure i of k: the number of the bytes at i, k + i, and so on to 7 × k + i
unfoldable pub gathered : (k : ℕ) → List ℕ → (i : ℕ) → ℕ
gathered k bs i = from_bytes (strided k i 8 bs)

-- n of k figures, from figure i on
unfoldable pub gathered_from : (n i k : ℕ) → List ℕ → List ℕ
gathered_from zero i k bs = []
gathered_from (suc n) i k bs = gathered k bs i ∷ gathered_from n (i + 1) k bs

-- the column of k figures of which bs are the bytes, place by place
unfoldable pub unshuffled : (k : ℕ) → List ℕ → List ℕ
unshuffled k bs = gathered_from k 0 k bs

-- the answer, and the written column at exit
pub record Outcome : Type 0 where
  pub answer : Acceptance
  pub left : List ℕ

abbrev pub outcome : Acceptance → List ℕ → Outcome
outcome r xs = record { answer = r; left = xs }

-- "only 27 if the byte room isn't exactly eight times the column's length": the room when shuffling, the lent bytes when unshuffling
unfoldable pub shuffle_outcome : (own room : List ℕ) → Outcome
shuffle_outcome own room = pick (eqb (length room) (8 * length own)) (outcome (Ok tt) (shuffled own)) (outcome (Err ByteRoom) room)

unfoldable pub unshuffle_outcome : (bytes own : List ℕ) → Outcome
unshuffle_outcome bytes own = pick (eqb (length bytes) (8 * length own)) (outcome (Ok tt) (unshuffled (length own) bytes)) (outcome (Err ByteRoom) own)
