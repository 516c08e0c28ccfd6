-- Which texts are a sample's. Assumes nothing: these are definitions.
use Rattle.std.specs.Prelude.{◌≡◌, ◌⊎◌, List, [], ◌++◌, ℕ, ◌<◌, length}
use Rattle.sample.specs.Sample.{most_read}
use Rattle.sample.specs.Told.{sample_text, Readable}

-- a result on each line up to the text's end; after 1,001 results, one more than a sample may have, anything may follow
pub record PermittedSample (s : List ℕ) : Type 0 where
  pub results : List ℕ
  pub unread : List ℕ
  pub readable : Readable results
  pub same : s ≡ sample_text results ++ unread
  pub end : ((length results < most_read) × (unread ≡ [])) ⊎ (length results ≡ most_read)
