-- What stands at a place of a text, in bytes. Assumes nothing: this is a definition.
use Rattle.std.specs.Prelude.{◌≡◌, List, ◌++◌, ℕ, ◌+◌, ◌≤◌, length, get_or, drop}

-- from `at` to `stop` stand these bytes, and no digit (48 to 57) follows them
pub record Reads (s : List ℕ) (at stop : ℕ) (bytes : List ℕ) : Type 0 where
  pub place : stop ≡ at + length bytes
  pub text : drop at s ≡ bytes ++ drop stop s
  pub ended : ¬ ((48 ≤ get_or s stop 0) × (get_or s stop 0 ≤ 57))
