-- The place of refusal 14 in a text of any form: that of the first byte such that no permitted text begins with the bytes up to and including it, or one past the last byte
-- if the text just ends too early. Document 02, 2026-06, of other texts than a table's. Assumes nothing: these are definitions.
use Rattle.std.specs.Prelude.{ℕ, suc, ◌≤◌, ◌<◌, ◌≡◌, List, ◌++◌, length, take}
use Rattle.text.specs.Bytes.{line_after, column_after}

-- some text of the form begins with p
pub record BeginsOf (Form : List ℕ → Type 0) (p : List ℕ) : Type 0 where
  pub rest : List ℕ
  pub whole : Form (p ++ rest)

pub record FirstByteOf (Form : List ℕ → Type 0) (s : List ℕ) (line column : ℕ) : Type 0 where
  pub at : ℕ
  pub inside : at ≤ length s
  pub begins : BeginsOf Form (take at s)
  pub stops : at < length s → ¬ BeginsOf Form (take (suc at) s)
  pub unfinished : at ≡ length s → ¬ Form s
  pub line_is : line ≡ line_after (take at s)
  pub column_is : column ≡ column_after (take at s)
