-- What the functions that append a line ask of their callers: columns that were checked. Assumes nothing: these are definitions.
use Rattle.std.specs.Prelude.{◌≡◌, true, List, ℕ, ◌+◌, ◌*◌, ◌≤◌, ◌<◌, length, Ok}
use Rattle.refusal.specs.declared.Counts.{Counts}
use Rattle.columns.specs.Columns.{Entries, Columns, SizedEntries}
use Rattle.columns.specs.Acceptance.{most_vertices, most_edges, most_listed, longest_tail, all_below, acceptance}
use Rattle.columns.specs.Longer.{NewLine, end_in, longer, in_use_of, RightLine}
use Rattle.columns.proofs.Accepted.{AcceptedColumns}
use Rattle.indextable.specs.Index.{index_of}

-- the spans in use can be read, and their end is within the limit, with so many needed parts behind it
pub record Spanned (ss : List ℕ) (m size : ℕ) : Type 0 where
  pub spans : 2 * m ≤ length ss
  pub edges : m < most_edges
  pub listed : end_in ss m + size ≤ most_listed

-- 1 and 2 passed
pub record Counted (c : Columns) (k : Counts) (size : ℕ) : Type 0 where
  pub few : c.vertices ≤ most_vertices
  pub heads : k.edges ≤ length c.heads
  pub own : k.edges ≤ length c.own
  pub strikes : k.edges ≤ length c.strikes
  pub tails : k.listed ≤ length c.tails
  pub listed : k.listed ≤ most_listed
  pub spanned : Spanned c.spans k.edges size

-- the places that the line goes into
pub record Storable (hs os ks ss ts : List ℕ) (m end size : ℕ) : Type 0 where
  pub heads : m < length hs
  pub own : m < length os
  pub strikes : m < length ks
  pub spans : 2 * m + 2 ≤ length ss
  pub tails : end + size ≤ length ts

-- 1 to 7 and 21 passed, and 18 of the table's columns
pub record Appendable (c : Columns) (k : Counts) (a : Entries) (l : NewLine) : Type 0 where
  pub counted : Counted c k (length l.tail)
  pub table : acceptance (in_use_of c k) ≡ Ok tt
  pub line : RightLine c.vertices l
  pub sized : SizedEntries c.vertices a
  pub placed : Storable c.heads c.own c.strikes c.spans c.tails k.edges (end_in c.spans k.edges) (length l.tail)

-- and the index has the places of the longer table's
pub record Growable (c : Columns) (k : Counts) (a : Entries) (l : NewLine) (index list : List ℕ) : Type 0 where
  pub appendable : Appendable c k a l
  pub places : 2 * c.vertices ≤ length index
  pub room : length (index_of (longer (in_use_of c k) l)).list ≤ length list

-- an accepted table with answer columns of its length, and a list of parts
pub record Holding (c : Columns) (a : Entries) (tail : List ℕ) : Type 0 where
  pub accepted : AcceptedColumns c a
  pub short : length tail ≤ longest_tail
  pub listed : all_below c.vertices tail ≡ true

-- the table in use is accepted, and answers and index have their places
pub record Renewable (c : Columns) (k : Counts) (a : Entries) (index list : List ℕ) : Type 0 where
  pub heads : k.edges ≤ length c.heads
  pub own : k.edges ≤ length c.own
  pub strikes : k.edges ≤ length c.strikes
  pub spans : 2 * k.edges ≤ length c.spans
  pub tails : k.listed ≤ length c.tails
  pub table : acceptance (in_use_of c k) ≡ Ok tt
  pub sized : SizedEntries c.vertices a
  pub places : 2 * c.vertices ≤ length index
  pub room : length (index_of (in_use_of c k)).list ≤ length list
