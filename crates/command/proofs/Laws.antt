-- The laws by which the numbers of a line are gathered one after the other. Assumes nothing.
use mathlib.Core.Path.{◌≡◌, sym, ◌∙◌, ap}
use mathlib.Core.List.{List}
use mathlib.Core.Bool.{true, false}
use Prim.Native.Nat.{ℕ, zero, suc, ◌+◌, ◌-◌, ◌<◌}
use native.Mathlib.Omega.{arith}
use lib.ListN.{length, get_or, set, length-set}
use Rattle.command.specs.declared.Name.{Name}
use Rattle.command.specs.declared.Named.{Named}
use Rattle.command.specs.declared.Command.{Command}
use Rattle.command.specs.declared.Command.TheVariants.{Misuse}
use Rattle.command.specs.declared.Line.{Line}
use Rattle.std.specs.Prelude.{Option, Some, None}
use Rattle.command.specs.declared.Next.{Next}
use Rattle.command.specs.declared.Next.TheVariants.{Number, End, Neither}
use Rattle.command.specs.Command.{Gathered, gathered, next_at, on_next, numbers_from, takes, as_command, line, line_with, line_of, name_in, command_in}

module _ (s : List ℕ) (at i : ℕ) (c : List ℕ) where
  pub at_end : (left : ℕ) → next_at s at ≡ End → numbers_from left s at i c ≡ gathered (Some i) c
  unfolding numbers_from
  at_end zero e = ap (λ (x : Next). on_next x i c (λ v stop. gathered None c)) e
  at_end (suc left) e = ap (λ (x : Next). on_next x i c (λ v stop. numbers_from left s stop (i + 1) (set c i v))) e

  pub at_neither : (left : ℕ) → next_at s at ≡ Neither → numbers_from left s at i c ≡ gathered None c
  unfolding numbers_from
  at_neither zero e = ap (λ (x : Next). on_next x i c (λ v stop. gathered None c)) e
  at_neither (suc left) e = ap (λ (x : Next). on_next x i c (λ v stop. numbers_from left s stop (i + 1) (set c i v))) e

  -- there is no room for one number more
  pub at_many : (left v stop : ℕ) → left ≡ 0 → next_at s at ≡ Number v stop → numbers_from left s at i c ≡ gathered None c
  unfolding numbers_from
  at_many zero v stop z e = ap (λ (x : Next). on_next x i c (λ v stop. gathered None c)) e
  at_many (suc left) v stop z e = absurd (omega (arith, z))

  at_next : (left rest v stop : ℕ) → left ≡ suc rest → next_at s at ≡ Number v stop → numbers_from left s at i c ≡ numbers_from rest s stop (i + 1) (set c i v)
  unfolding numbers_from
  at_next left rest v stop q e =
      ap (λ (k : ℕ). numbers_from k s at i c) q ∙ ap (λ (x : Next). on_next x i c (λ v stop. numbers_from rest s stop (i + 1) (set c i v))) e

  pub at_number : (v stop : ℕ) → i < length c → next_at s at ≡ Number v stop
      → numbers_from (length (set c i v) - (i + 1)) s stop (i + 1) (set c i v) ≡ numbers_from (length c - i) s at i c
  at_number v stop h e =
      let q = length-set c i v in
      ap (λ (k : ℕ). numbers_from (k - (i + 1)) s stop (i + 1) (set c i v)) q ∙ sym (at_next (length c - i) (length c - (i + 1)) v stop (omega arith) e)

-- by whether a name takes so many numbers
module _ (x : Name) (k : ℕ) (c : List ℕ) where
  pub with_misuse : takes x k ≡ false → line Misuse 0 ≡ line_with x k c
  with_misuse e = rw e

  pub with_command : (y : Command) → takes x k ≡ true → y ≡ as_command x (get_or c 0 0) (get_or c 1 0) → line y k ≡ line_with x k c
  with_command y t e = rw (t, e)

-- by what was gathered behind the name
module _ (s old : List ℕ) (w : Named) (n : Option ℕ) (c : List ℕ) (named : w ≡ name_in s) (came : gathered n c ≡ numbers_from (length old) s w.stop 0 old) where
  command_is : (l : Line) → l ≡ line_of w.name n c → record { line = l; numbers = c } ≡ command_in s old
  unfolding command_in
  command_is l e =
      ap (λ (z : Line). record { line = z; numbers = c }) e
      ∙ ap (λ (g : Gathered). record { line = line_of w.name g.numbers g.column; numbers = g.column }) came
      ∙ ap (λ (z : Named). let g = numbers_from (length old) s z.stop 0 old in record { line = line_of z.name g.numbers g.column; numbers = g.column }) named

  pub command_wrong : n ≡ None → record { line = line Misuse 0; numbers = c } ≡ command_in s old
  command_wrong e = command_is (line Misuse 0) (ap (λ (x : Option ℕ). line_of w.name x c) (sym e))

  pub command_with : (k : ℕ) (l : Line) → n ≡ Some k → l ≡ line_with w.name k c → record { line = l; numbers = c } ≡ command_in s old
  command_with k l e q = command_is l (q ∙ ap (λ (x : Option ℕ). line_of w.name x c) (sym e))
