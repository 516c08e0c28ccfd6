-- A table that is lent in columns with places to spare, and a table with a line more. Document 02, 2026-01: "its span begins where the last one ends (at 0 in an empty
-- table), and the needed parts in use then end with it"; "the counts in use (lines, needed parts), which stand for the lengths in 2 and the column's end in 5". 2026-02:
-- "Appending takes a strike mark too". Assumes nothing: these are definitions.
use Rattle.std.specs.Prelude.{◌≡◌, List, [], ◌∷◌, ◌++◌, ℕ, zero, suc, ◌+◌, ◌*◌, ◌≤◌, ◌<◌, length, get_or, take}
use Rattle.weights.specs.Figures.{greatest, struck_mark}
use Rattle.refusal.specs.declared.Counts.{Counts}
use Rattle.columns.specs.Columns.{Columns, columns, head_at, own_at, strike_at, tail_at}
use Rattle.columns.specs.Acceptance.{longest_tail}

-- a line to be appended
pub record NewLine : Type 0 where
  pub head : ℕ
  pub own : ℕ
  pub mark : ℕ
  pub tail : List ℕ

abbrev pub new_line : (head own mark : ℕ) → List ℕ → NewLine
new_line head own mark tail = record { head = head; own = own; mark = mark; tail = tail }

-- where the span before line e ends; for the first, 0
abbrev pub end_in : (spans : List ℕ) → ℕ → ℕ
end_in spans zero = 0
end_in spans (suc e) = get_or spans (2 * e) 0 + get_or spans (2 * e + 1) 0

-- where the last span ends
abbrev pub end_of : Columns → ℕ
end_of c = end_in c.spans (length c.heads)

-- the table with the line behind its lines, and its needed parts where the last span ends
abbrev pub longer : Columns → NewLine → Columns
longer c l =
    columns c.vertices (c.heads ++ l.head ∷ []) (c.own ++ l.own ∷ []) (c.strikes ++ l.mark ∷ [])
    (c.spans ++ end_of c ∷ length l.tail ∷ []) (take (end_of c) c.tails ++ l.tail)

-- the table of the lines and needed parts that are in use
abbrev pub in_use_of : Columns → Counts → Columns
in_use_of c k =
    columns c.vertices (take k.edges c.heads) (take k.edges c.own) (take k.edges c.strikes)
    (take (2 * k.edges) c.spans) (take k.listed c.tails)

-- none of 3, 4, 21, 5 and 6 applies to a line that is to be appended, of whose span 5 asks only that it is short
pub record RightLine (n : ℕ) (l : NewLine) : Type 0 where
  pub head : l.head < n
  pub own : l.own ≤ greatest
  pub mark : l.mark ≤ struck_mark
  pub short : length l.tail ≤ longest_tail
  pub listed : (k : ℕ) → k < length l.tail → get_or l.tail k 0 < n

-- c' has the lines of c, and l behind them
pub record OneMore (c : Columns) (l : NewLine) (c' : Columns) : Type 0 where
  pub vertices : c'.vertices ≡ c.vertices
  pub count : length c'.heads ≡ length c.heads + 1
  pub heads : (e : ℕ) → e < length c.heads → head_at c' e ≡ head_at c e
  pub own : (e : ℕ) → e < length c.heads → own_at c' e ≡ own_at c e
  pub strikes : (e : ℕ) → e < length c.heads → strike_at c' e ≡ strike_at c e
  pub tails : (e : ℕ) → e < length c.heads → tail_at c' e ≡ tail_at c e
  pub new_head : head_at c' (length c.heads) ≡ l.head
  pub new_own : own_at c' (length c.heads) ≡ l.own
  pub new_mark : strike_at c' (length c.heads) ≡ l.mark
  pub new_tail : tail_at c' (length c.heads) ≡ l.tail
