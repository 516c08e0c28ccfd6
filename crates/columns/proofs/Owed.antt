-- Demand 1 of the calls of this crate, which are lent nothing to be written. Assumes nothing.
use mathlib.Core.Path.{◌≡◌, refl}
use Rattle.columns.specs.Columns.{Entries, Columns}
use Rattle.columns.specs.Acceptance.{acceptance, lent_acceptance}
use Rattle.columns.specs.Owed.{Owed}
use Rattle.columns.specs.Right.{RightTable, WrongTable, RightLent, WrongLent}
use Rattle.columns.proofs.Exactly.{accepted_exactly, refused_exactly, lent_exactly, lent_refused_exactly}
use Rattle.refusal.specs.Answers.{Acceptance}
use Rattle.std.specs.Prelude.{Ok, Err}

-- check a table
pub check_table_owes : (c : Columns) → Owed Err (tt {0}) (RightTable c) (λ _. (Ok tt)) (λ _. tt {0}) (WrongTable c) (acceptance c) (tt {0})
check_table_owes c = go (acceptance c) refl
  where
    go : (x : Acceptance) → acceptance c ≡ x → Owed Err (tt {0}) (RightTable c) (λ _. (Ok tt)) (λ _. tt {0}) (WrongTable c) x (tt {0})
    go (Ok _) p = Owed.accepted ((accepted_exactly c).0 p)
    go (Err r) p = Owed.refused ((refused_exactly c r).0 p)

-- check the lent answer columns with it
pub check_lent_owes : (c : Columns) (a : Entries) → Owed Err (tt {0}) (RightLent c a) (λ _. (Ok tt)) (λ _. tt {0}) (WrongLent c a) (lent_acceptance c a) (tt {0})
check_lent_owes c a = go (lent_acceptance c a) refl
  where
    go : (x : Acceptance) → lent_acceptance c a ≡ x → Owed Err (tt {0}) (RightLent c a) (λ _. (Ok tt)) (λ _. tt {0}) (WrongLent c a) x (tt {0})
    go (Ok _) p = Owed.accepted ((lent_exactly c a).0 p)
    go (Err r) p = Owed.refused ((lent_refused_exactly c a r).0 p)
