-- When the reading of a program's input is at its end. `last` is the last answer of `read`: how many bytes came, 0 at the end of the input, below 0 where the
-- reading failed. Assumes nothing: these are definitions.
use Rattle.std.specs.Prelude.{ℕ, ◌+◌, ◌≡◌, ◌≤◌, ◌⊎◌, ℤ, pos, negsuc, List, length, take}
use Rattle.report.specs.Report.{most_input}

-- so many bytes are at the buffer's start. The second part follows from the first, and spares a caller's `&buf[..n]` a proof file.
abbrev pub IsPrefixLen : ℕ → List ℕ → Type 0
IsPrefixLen n xs = (n ≤ length xs) × (n ≡ length (take n xs))

-- the buffer has one byte more than an input may have, so that a full one is an input too long
abbrev pub buffer_length : ℕ
buffer_length = most_input + 1

-- after so many bytes nothing more is read: a short read alone is not the end
abbrev pub Ended : ℕ → ℤ → Type 0
Ended count (pos k) = (k ≡ 0) ⊎ (count ≡ buffer_length)
Ended count (negsuc k) = Unit {0}
