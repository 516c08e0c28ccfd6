-- Which bytes begin a permitted text: those with which reading has not failed, and no others. So the first byte with which it fails is the first that can't
-- stand where it stands. Assumes nothing: these are definitions.
use Rattle.std.specs.Prelude.{ℕ, List, ◌++◌}
use Rattle.text.specs.Render.{Permitted}
use Rattle.text.specs.Machine.{State, Spelling, Naming, First, Within, Failed}

-- some permitted text begins with p
pub record Begins (p : List ℕ) : Type 0 where
  pub rest : List ℕ
  pub whole : Permitted (p ++ rest)

abbrev pub NotFailed : State → Type 0
NotFailed (Spelling ws p) = Unit {0}
NotFailed (Naming n) = Unit {0}
NotFailed (First p) = Unit {0}
NotFailed (Within p v) = Unit {0}
NotFailed (Failed l) = ⊥
