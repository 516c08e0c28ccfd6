-- Demand 1, of any call: "For every input, refused ones too, a call's promise fixes its result and the content of each lent column". Assumes nothing: these are
-- definitions.
use Rattle.refusal.specs.declared.Refusal.{Refusal}

-- what a call returns, and what it leaves of what was lent to be written
pub record Outcome (R L : Type 0) : Type 0 where
  pub result : R
  pub left : L

-- what a call returns and what it leaves of all that was lent to be written. It is accepted where `Right` holds, and then returns `done` and leaves `new`; it is
-- refused by r where `Wrong r` holds, and then leaves everything as at entry
pub data Owed {R L : Type 0} (refuse : Refusal → R) (entry : L) (Right : Type 0) (done : Right → R) (new : Right → L) (Wrong : Refusal → Type 0) : R → L → Type 0 where
  accepted : (p : Right) → Owed refuse entry Right done new Wrong (done p) (new p)
  refused : {r : Refusal} → Wrong r → Owed refuse entry Right done new Wrong (refuse r) entry
