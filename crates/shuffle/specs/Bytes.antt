-- The bytes of a number, and the number of bytes. Document 02, 2026-13: "eight-byte numbers". Assumes nothing: these are definitions.
use Rattle.std.specs.Prelude.{ℕ, zero, suc, ◌+◌, ◌*◌, ◌/◌, ◌%◌, ◌<◌, List, [], ◌∷◌, length, get_or}

-- the k lowest bytes of x, the lowest first
unfoldable pub bytes_of : (k x : ℕ) → List ℕ
bytes_of zero x = []
bytes_of (suc k) x = (x % 256) ∷ bytes_of k (x / 256)

-- each byte, and 256 times what those behind it make
unfoldable pub from_bytes : List ℕ → ℕ
from_bytes [] = 0
from_bytes (b ∷ bs) = b + 256 * from_bytes bs

-- "all lowest bytes first, then all second bytes, up to the eighth": the byte of place p, from 0, the lowest, to 7
unfoldable pub byte_at : (p x : ℕ) → ℕ
byte_at p x = get_or (bytes_of 8 x) p 0

-- each number of a list is below m: 256 for bytes, 2^64 for numbers of eight
abbrev pub EachBelow : ℕ → List ℕ → Type 0
EachBelow m xs = (i : ℕ) → i < length xs → get_or xs i 0 < m
