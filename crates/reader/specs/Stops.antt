-- Where the reading of a number stops, found or not: at the first byte that can't go on with the digits of a number below the limit, or at the text's end.
-- Document 02, 2026-06: "The reading of one number must also report where it began and where it stopped". Assumes nothing: these are definitions.
use Rattle.std.specs.Prelude.{ℕ, suc, ◌-◌, ◌≤◌, ◌<◌, ◌≡◌, List, ◌⊎◌, length, take, drop}
use Rattle.text.specs.Render.{digits}

-- the bytes of a text from one place up to another, without that at the latter
abbrev pub bytes_between : List ℕ → (from to : ℕ) → List ℕ
bytes_between s from to = take (to - from) (drop from s)

-- bytes are the digits of a number below the limit
pub record NumberBelow (limit : ℕ) (bytes : List ℕ) : Type 0 where
  pub value : ℕ
  pub below : value < limit
  pub bytes_are : bytes ≡ digits value

-- from `start` to `stop` stand the digits of a number below the limit, or nothing; with the byte at `stop` they are no such digits, or the text ends there
pub record StopsAt (s : List ℕ) (limit start stop : ℕ) : Type 0 where
  pub behind : start ≤ stop
  pub inside : start ≤ length s → stop ≤ length s
  pub outside : length s ≤ start → stop ≡ start
  pub read : (stop ≡ start) ⊎ NumberBelow limit (bytes_between s start stop)
  pub no_more : stop < length s → NumberBelow limit (bytes_between s start (suc stop)) → ⊥
