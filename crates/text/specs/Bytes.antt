-- The place of refusal 14, line and column: that of the first byte such that no permitted text begins with the bytes up to and including it, or one past the
-- last byte where the text merely ends too early. Document 02, 2026-06. Assumes nothing: these are definitions.
use Rattle.std.specs.Prelude.{ℕ, suc, ◌≤◌, ◌<◌, ◌≡◌, Bool, true, false, List, [], ◌∷◌, length, take, eqb}
use Rattle.weights.specs.Choice.{pick}
use Rattle.text.specs.Render.{Permitted}
use Rattle.text.specs.Machine.{State, Spelling, Naming, First, Within, Failed, step, begin}
use Rattle.text.specs.Prefixes.{Begins}

abbrev pub is_failed : State → Bool
is_failed (Spelling ws p) = false
is_failed (Naming n) = false
is_failed (First p) = false
is_failed (Within p v) = false
is_failed (Failed l) = true

-- how many bytes are read before the first that fails; all, if none does
unfoldable pub survived : State → List ℕ → ℕ
survived σ [] = 0
survived σ (b ∷ bs) = pick (is_failed (step σ b)) 0 (suc (survived (step σ b) bs))

abbrev pub failing_at : List ℕ → ℕ
failing_at s = survived begin s

-- the line and the column behind bytes, from 1: "An LF counts as a byte of the line it ends"
unfoldable pub line_from : ℕ → List ℕ → ℕ
line_from l [] = l
line_from l (b ∷ bs) = line_from (pick (eqb b 10) (suc l) l) bs

unfoldable pub column_from : ℕ → List ℕ → ℕ
column_from c [] = c
column_from c (b ∷ bs) = column_from (pick (eqb b 10) 1 (suc c)) bs

abbrev pub line_after : List ℕ → ℕ
line_after s = line_from 1 s

abbrev pub column_after : List ℕ → ℕ
column_after s = column_from 1 s

-- the column that a text is refused with
unfoldable pub column_of : List ℕ → ℕ
column_of s = column_after (take (failing_at s) s)

-- the place in the request's words, with no word of the machine: `at` bytes begin a permitted text, and with one more none does, or no more are there
pub record FirstByte (s : List ℕ) (line column : ℕ) : Type 0 where
  pub at : ℕ
  pub inside : at ≤ length s
  pub begins : Begins (take at s)
  pub stops : at < length s → Begins (take (suc at) s) → ⊥
  pub unfinished : at ≡ length s → Permitted s → ⊥
  pub line_is : line ≡ line_after (take at s)
  pub column_is : column ≡ column_after (take at s)
