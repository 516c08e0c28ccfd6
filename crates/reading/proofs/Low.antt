-- The text line of a refusal is no further than the one behind the last that may stand. Assumes nothing.
use Prim.Native.Nat.{ℕ, zero, suc, ◌+◌, ◌≤◌}
use mathlib.Core.Path.{◌≡◌, ◌∙◌, subst}
use mathlib.Core.List.{List, [], ◌∷◌}
use native.Mathlib.Omega.{arith}
use lib.ListN.{length, length-append}
use lib.Dec.{ltb}
use Rattle.columns.specs.Acceptance.{most_edges}
use Rattle.text.specs.Tables.{Edge, Table}
use Rattle.text.specs.Machine.{begun, with_edge, may_list, Parse, Whole, Wrong, parse}
use Rattle.text.proofs.Digits.{pick_by}
use Rattle.reading.specs.Lines.{Opening, Opens, Unopened, first_line, Row, Holds, Fails, row_at, on_row, scan_from, on_first, scan}
use Rattle.reading.proofs.Scanned.{scan_is_parse}

-- the text line of a refusal is the first, one of a hyperedge, or the one behind the last that may stand
abbrev PlacedLow : Parse → Type 0
PlacedLow (Whole t) = Unit {0}
PlacedLow (Wrong l) = l ≤ most_edges + 2

row_low : (t : Table) (R : Row) (rest : Table → ℕ → Parse) → length t.edges ≤ most_edges → ((e : Edge) (next : ℕ) → PlacedLow (rest (with_edge t e) next)) → PlacedLow (on_row t R rest)
row_low t (Holds e next) rest h k = k e next
row_low t (Fails xs place) rest h k = omega arith

scan_low : (left : ℕ) (s : List ℕ) (at : ℕ) (t : Table) → length t.edges + left ≤ most_edges → PlacedLow (scan_from left s at t)
unfolding scan_from
scan_low zero s at t h = pick_by PlacedLow (ltb at (length s)) (λ _. omega arith) (λ _. tt)
scan_low (suc left) s at t h =
    let rest : Table → ℕ → Parse = λ u next. scan_from left s next u in
    pick_by PlacedLow (ltb at (length s))
    (λ _. row_low t (row_at s t.vertices (may_list t) at) rest (omega arith) (λ e next. scan_low left s next (with_edge t e) (let l = length-append t.edges (e ∷ []) in omega arith)))
    (λ _. tt)

first_low : (s : List ℕ) (F : Opening) → PlacedLow (on_first s F)
first_low s (Opens n m start) = scan_low most_edges s start (begun n m) (omega arith)
first_low s (Unopened place) = omega arith

pub wrong_low : (s : List ℕ) (l : ℕ) → parse s ≡ Wrong l → l ≤ most_edges + 2
unfolding scan
wrong_low s l e = subst PlacedLow (scan_is_parse s ∙ e) (first_low s (first_line s))
