-- Which texts are a record's. Assumes nothing: these are definitions.
use Rattle.std.specs.Prelude.{◌≡◌, List, ℕ}
use Rattle.ledger.specs.Replayed.{record_text, Writable}

-- a text is permitted if it is the rendering of a record that can be written
pub record PermittedRecord (s : List ℕ) : Type 0 where
  pub shelf : List ℕ
  pub parts : List ℕ
  pub received : List ℕ
  pub writable : Writable shelf parts received
  pub same : s ≡ record_text shelf parts received
