-- What is told of the lines that need a part: which they are, and what is printed of them. Assumes nothing: these are definitions.
use Rattle.std.specs.Prelude.{◌≡◌, List, [], ◌∷◌, ◌++◌, ℕ, suc, ◌≤◌, ◌<◌, length, Ok}
use Rattle.refusal.specs.declared.Refusal.TheVariants.{NoSuchVertex}
use Rattle.columns.specs.Columns.{Columns, cell, tail_at}
use Rattle.columns.specs.Acceptance.{acceptance}
use Rattle.reply.specs.Reply.{most_reply, answered, refused_by}
use Rattle.whereused.specs.WhereUsed.{use_rows, uses_said}

-- of the lines below k those that list v, struck ones too: ascending, and each once however often it lists v
pub data Needing (c : Columns) (v : ℕ) : (k : ℕ) → List ℕ → Type 0 where
  none : Needing c v 0 []
  lists : {k : ℕ} {es : List ℕ} → Needing c v k es → (i : ℕ) → i < length (tail_at c k) → cell (tail_at c k) i ≡ v → Needing c v (suc k) (es ++ k ∷ [])
  passes : {k : ℕ} {es : List ℕ} → Needing c v k es → ((i : ℕ) → i < length (tail_at c k) → ¬ (cell (tail_at c k) i ≡ v)) → Needing c v (suc k) es

-- "the rows of the table that need the part, as they stand in the text, each behind its line number"; 11 where there is no such part
pub record UsesTold (c : Columns) (v : ℕ) : Type 0 where
  pub lines : List ℕ
  pub needing : Needing c v (length c.heads) lines
  pub printed : v < c.vertices → uses_said c v ≡ answered (use_rows c lines)
  pub absent : c.vertices ≤ v → uses_said c v ≡ refused_by NoSuchVertex
  pub fits : acceptance c ≡ Ok tt → length (uses_said c v).bytes ≤ most_reply
