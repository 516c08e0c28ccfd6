-- What the functions for one figure do and ask for. Assumes nothing: these are definitions.
use Rattle.std.specs.Prelude.{ℕ, ◌+◌, ◌*◌, ◌<◌, ◌≡◌, List, [], ◌∷◌, set}

-- bytes stored each k behind the one before, the first at i
unfoldable pub spread : (k i : ℕ) → List ℕ → List ℕ → List ℕ
spread k i [] room = room
spread k i (b ∷ bs) room = spread k (i + k) bs (set room i b)

-- figure i of k has its eight places among n
pub record Slot (i k n : ℕ) : Type 0 where
  pub within : i < k
  pub places : n ≡ 8 * k
