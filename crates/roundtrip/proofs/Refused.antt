-- A permitted text is read; what is not permitted is refused by 14, at the first byte that can't stand where it stands. The paper's "What is turned away", of what the
-- contract of `read_table` says. Assumes nothing.
use Prim.Native.Nat.{ℕ}
use mathlib.Core.Path.{◌≡◌}
use mathlib.Core.List.{List}
use Rattle.text.specs.Tables.{table_of, closed}
use Rattle.text.specs.Render.{Permitted}
use Rattle.text.proofs.Permitted.{permitted_read}
use Rattle.text.specs.Permitted.{FirstWrong}
use Rattle.text.specs.Bytes.{column_of, FirstByte}
use Rattle.text.proofs.Bytes.{first_byte}
use Rattle.readtable.specs.Read.{read_into, read_table}
use Rattle.roundtrip.specs.RoundTrip.{Room, filled_with}
use Rattle.roundtrip.proofs.RoundTrip.{read_table_lem}
use Rattle.roundtrip.specs.Refused.{refused_at}

-- a permitted text is read into columns that have room for its table
pub permitted_is_read : (text h o ms s t : List ℕ) (p : Permitted text) → Room (closed p.table) h o ms s t → read_table text h o ms s t ≡ filled_with (closed p.table) p.measure h o ms s t
permitted_is_read text h o ms s t p r = read_table_lem text (table_of p.measure p.table) h o ms s t (permitted_read text p) r

pub unpermitted_is_refused : (text h o ms s t : List ℕ) → (Permitted text → ⊥)
    → (k c : ℕ) × (read_table text h o ms s t ≡ refused_at k c h o ms s t) × FirstWrong text k × FirstByte text k c
unfolding read_into
unpermitted_is_refused text h o ms s t n = let u = first_byte text n in (u.0, column_of text, rw u.1, u.2, u.3)
