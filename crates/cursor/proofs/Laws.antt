-- The laws of the definitions of specs/ by which the loops go. Assumes nothing.
use mathlib.Core.Path.{◌≡◌}
use mathlib.Core.List.{List}
use Prim.Native.Nat.{ℕ, ◌+◌, ◌*◌, ◌≤◌, ◌<◌}
use native.Mathlib.Numerals.{add-one}
use native.Mathlib.Omega.{arith}
use lib.ListN.{length, get_or, drop, drop_of_length-le}
use lib.Seq.{drop-cons}
use borrow.Author.Tests.{lt-ltb, le-ltb, le-leb, lt-leb, eq-eqb, ne_eqb, ltb-true, ltb-false}
use Rattle.text.specs.Machine.{digit_of}
use Rattle.cursor.specs.Cursor.{token, digits_from, number_of, number_at}
use Rattle.std.specs.Prelude.{Some, None}

-- a test of a definition, from the fact that a branch gives: `search tests` at a return
pub ruleset tests = (lt-ltb, le-ltb, le-leb, lt-leb, eq-eqb, ne_eqb)

-- nothing is left of the text
pub digits_end : (s : List ℕ) (start i limit v : ℕ) → length s ≤ i → token start i (Some v) ≡ digits_from (drop i s) start i limit v
unfolding digits_from
digits_end s start i limit v h = rw (drop_of_length-le s h)

pub number_end : (s : List ℕ) (at limit : ℕ) → length s ≤ at → token at at None ≡ number_at s at limit
unfolding number_at number_of
number_end s at limit h = rw (drop_of_length-le s h)

-- d is the digit at the place
module _ (s : List ℕ) (i limit d : ℕ) (h : i < length s) (e : d ≡ digit_of (get_or s i 0)) where
  pub number_none : 10 ≤ d → token i i None ≡ number_at s i limit
  unfolding number_at number_of
  number_none l = rw (drop-cons s i 0 h, ← e, le-ltb d 10 l)

  pub number_over : d < 10 → limit ≤ d → token i i None ≡ number_at s i limit
  unfolding number_at number_of
  number_over l m = rw (drop-cons s i 0 h, ← e, lt-ltb d 10 l, le-ltb d limit m)

  pub number_first : d < 10 → d < limit → digits_from (drop (i + 1) s) i (i + 1) limit d ≡ number_at s i limit
  unfolding number_at number_of
  number_first l m = rw (drop-cons s i 0 h, ← e, lt-ltb d 10 l, lt-ltb d limit m, add-one)

  module _ (start v : ℕ) where
    pub digits_stop : 10 ≤ d → token start i (Some v) ≡ digits_from (drop i s) start i limit v
    unfolding digits_from
    digits_stop l = rw (drop-cons s i 0 h, ← e, le-ltb d 10 l)

    pub digits_zero : d < 10 → v ≡ 0 → token start i None ≡ digits_from (drop i s) start i limit v
    unfolding digits_from
    digits_zero l z = rw (drop-cons s i 0 h, ← e, lt-ltb d 10 l, le-ltb 0 v (omega arith))

    pub digits_over : d < 10 → 0 < v → limit ≤ 10 * v + d → token start i None ≡ digits_from (drop i s) start i limit v
    unfolding digits_from
    digits_over l z m = rw (drop-cons s i 0 h, ← e, lt-ltb d 10 l, lt-ltb 0 v z, le-ltb (10 * v + d) limit m)

    pub digits_next : d < 10 → 0 < v → 10 * v + d < limit → digits_from (drop (i + 1) s) start (i + 1) limit (10 * v + d) ≡ digits_from (drop i s) start i limit v
    unfolding digits_from
    digits_next l z m = rw (drop-cons s i 0 h, ← e, lt-ltb d 10 l, lt-ltb 0 v z, lt-ltb (10 * v + d) limit m, add-one)

pub ruleset number_steps = (number_end, number_none, number_over, number_first, digits_end, digits_stop, digits_zero, digits_over, digits_next)
