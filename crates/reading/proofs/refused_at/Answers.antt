-- `reading::refused_at` meets its contract. Assumes nothing.
use mathlib.Core.Path.{refl}
use native.Mathlib.Omega.{arith}
use Rattle.reading.proofs.refused_at.Goals as goal

pub overflow_sub-column : goal.overflow_sub-column
overflow_sub-column c = c.requires.behind_start

pub overflow_add-column : goal.overflow_add-column
overflow_add-column c = let h = c.requires.near in omega arith

pub returns : goal.returns
returns c = refl
