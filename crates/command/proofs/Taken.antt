-- How many numbers a command has: no more than the column has places, and two or more where a line is appended. Assumes nothing.
use mathlib.Core.Path.{◌≡◌, refl, sym, ◌∙◌, subst}
use mathlib.Core.List.{List}
use mathlib.Core.Bool.{true}
use Prim.Native.Nat.{ℕ, zero, suc, ◌+◌, ◌≤◌}
use native.Mathlib.Omega.{arith}
use lib.ListN.{length, get_or, set, length-set}
use borrow.Author.Tests.{leb-true}
use Rattle.weights.specs.declared.Vertex.{Vertex}
use Rattle.weights.specs.declared.Weight.{Weight}
use Rattle.text.proofs.Digits.{pick_by}
use Rattle.command.specs.declared.Name.{Name}
use Rattle.command.specs.declared.Name.TheVariants as name
use Rattle.command.specs.declared.Next.{Next}
use Rattle.command.specs.declared.Next.TheVariants.{Number, End, Neither}
use Rattle.std.specs.Prelude.{Option, Some, None}
use Rattle.command.specs.declared.Command.{Command}
use Rattle.command.specs.declared.Command.TheVariants.{Ask, Append, Mean, Misuse}
use Rattle.command.specs.declared.Line.{Line}
use Rattle.command.specs.Command.{Gathered, gathered, next_at, on_next, numbers_from, name_in, takes, as_command, line, line_with, line_of, command_in}

-- at most so many numbers were gathered
abbrev Most : ℕ → Option ℕ → Type 0
Most n (Some k) = k ≤ n
Most n None = Unit {0}

next_most : (n : ℕ) (x : Next) (i : ℕ) (c : List ℕ) (more : (v stop : ℕ) → Gathered) → i ≤ n → ((v stop : ℕ) → Most n (more v stop).numbers) → Most n (on_next x i c more).numbers
next_most n End i c more h f = h
next_most n Neither i c more h f = tt
next_most n (Number v stop) i c more h f = f v stop

gathered_most : (left : ℕ) (s : List ℕ) (at i : ℕ) (c : List ℕ) (n : ℕ) → i + left ≤ n → Most n (numbers_from left s at i c).numbers
unfolding numbers_from
gathered_most zero s at i c n h = next_most n (next_at s at) i c (λ v stop. gathered None c) (omega arith) (λ v stop. tt)
gathered_most (suc left) s at i c n h =
    next_most n (next_at s at) i c (λ v stop. numbers_from left s stop (i + 1) (set c i v)) (omega arith)
    (λ v stop. gathered_most left s stop (i + 1) (set c i v) n (omega arith))

-- the column keeps its length
next_kept : (n : ℕ) (x : Next) (i : ℕ) (c : List ℕ) (more : (v stop : ℕ) → Gathered) → length c ≡ n → ((v stop : ℕ) → length (more v stop).column ≡ n) → length (on_next x i c more).column ≡ n
next_kept n End i c more h f = h
next_kept n Neither i c more h f = h
next_kept n (Number v stop) i c more h f = f v stop

gathered_kept : (left : ℕ) (s : List ℕ) (at i : ℕ) (c : List ℕ) (n : ℕ) → length c ≡ n → length (numbers_from left s at i c).column ≡ n
unfolding numbers_from
gathered_kept zero s at i c n h = next_kept n (next_at s at) i c (λ v stop. gathered None c) h (λ v stop. h)
gathered_kept (suc left) s at i c n h =
    next_kept n (next_at s at) i c (λ v stop. numbers_from left s stop (i + 1) (set c i v)) h
    (λ v stop. gathered_kept left s stop (i + 1) (set c i v) n (length-set c i v ∙ h))

pub column_kept : (s old : List ℕ) → length (command_in s old).numbers ≡ length old
unfolding command_in
column_kept s old = gathered_kept (length old) s (name_in s).stop 0 old (length old) refl

-- what is known of a line: its numbers fit, and a line that is appended has a head and a figure
pub record Taken (n : ℕ) (l : Line) : Type 0 where
  pub most : l.count ≤ n
  pub least : (h : Vertex) (w : Weight) → l.command ≡ Append h w → 2 ≤ l.count

-- no other command is an appending
abbrev Appends : Command → Type 0
Appends (Append h w) = Unit {0}
Appends (Ask q) = ⊥
Appends Mean = ⊥
Appends Misuse = ⊥

misuse_taken : (n : ℕ) → Taken n (line Misuse 0)
misuse_taken n = record { most = omega arith; least = λ h w e. absurd (subst Appends (sym e) tt) }

appended_takes : (x : Name) (a b k : ℕ) → takes x k ≡ true → Appends (as_command x a b) → 2 ≤ k
appended_takes name.Price a b k t h = absurd h
appended_takes name.Bill a b k t h = absurd h
appended_takes name.Uses a b k t h = absurd h
appended_takes name.Reprice a b k t h = absurd h
appended_takes name.Strike a b k t h = absurd h
appended_takes name.Restore a b k t h = absurd h
appended_takes name.Append a b k t h = leb-true 2 k t
appended_takes name.Check a b k t h = absurd h
appended_takes name.CheckOrder a b k t h = absurd h
appended_takes name.Mean a b k t h = absurd h
appended_takes name.Compare a b k t h = absurd h
appended_takes name.Replay a b k t h = absurd h
appended_takes name.Unknown a b k t h = absurd h

with_taken : (n : ℕ) (x : Name) (k : ℕ) (c : List ℕ) → k ≤ n → Taken n (line_with x k c)
with_taken n x k c h =
    pick_by (Taken n) (takes x k)
    (λ t. record { most = h; least = λ v w e. appended_takes x (get_or c 0 0) (get_or c 1 0) k t (subst Appends (sym e) tt) })
    (λ _. misuse_taken n)

line_taken : (n : ℕ) (x : Name) (m : Option ℕ) (c : List ℕ) → Most n m → Taken n (line_of x m c)
line_taken n x (Some k) c h = with_taken n x k c h
line_taken n x None c h = misuse_taken n

pub command_taken : (s old : List ℕ) → Taken (length old) (command_in s old).line
unfolding command_in
command_taken s old =
    let g = numbers_from (length old) s (name_in s).stop 0 old in
    line_taken (length old) (name_in s).name g.numbers g.column (gathered_most (length old) s (name_in s).stop 0 old (length old) (omega arith))
