-- What stands at a line's start, by the tests that tell it. Assumes nothing.
use mathlib.Core.Path.{◌≡◌, sym, ◌∙◌, ap}
use mathlib.Core.List.{List}
use Prim.Native.Nat.{ℕ, ◌+◌, ◌≤◌, ◌<◌}
use lib.ListN.{length, get_or}
use borrow.Author.Tests.{le-leb, lt-leb, eq-eqb, ne_eqb}
use Rattle.cursor.specs.declared.Token.{Token}
use Rattle.cursor.specs.Cursor.{number_at}
use Rattle.sample.specs.declared.Next.TheVariants.{Number, Wrong, End}
use Rattle.sample.specs.Sample.{number_limit, on_found, result_at}
use Rattle.std.specs.Prelude.{Some, None}

module _ (s : List ℕ) (at : ℕ) where
  pub result_end : length s ≤ at → End ≡ result_at s at
  unfolding result_at
  result_end h = rw (le-leb (length s) at h)

  module _ (t : Token) where
    by_token : at < length s → t ≡ number_at s at number_limit → on_found s t.stop t.found ≡ result_at s at
    unfolding result_at
    by_token h e = ap (λ (z : Token). on_found s z.stop z.found) e ∙ rw (lt-leb (length s) at h)

    pub result_none : at < length s → t ≡ number_at s at number_limit → t.found ≡ None → Wrong t.stop ≡ result_at s at
    result_none h e f = ap (on_found s t.stop) (sym f) ∙ by_token h e

    module _ (v : ℕ) (h : at < length s) (e : t ≡ number_at s at number_limit) (f : t.found ≡ Some v) where
      found_is : on_found s t.stop (Some v) ≡ result_at s at
      found_is = ap (on_found s t.stop) (sym f) ∙ by_token h e

      pub result_number : get_or s t.stop 0 ≡ 10 → Number v (t.stop + 1) ≡ result_at s at
      result_number q = number_line ∙ found_is
        where
          number_line : Number v (t.stop + 1) ≡ on_found s t.stop (Some v)
          number_line = rw (eq-eqb (get_or s t.stop 0) 10 q)

      pub result_other : (get_or s t.stop 0 ≡ 10 → ⊥) → Wrong t.stop ≡ result_at s at
      result_other q = other_line ∙ found_is
        where
          other_line : Wrong t.stop ≡ on_found s t.stop (Some v)
          other_line = rw (ne_eqb (get_or s t.stop 0) 10 q)
