-- Demand 1 of writing. Assumes nothing.
use mathlib.Core.Path.{◌≡◌, refl}
use mathlib.Core.Bool.{Bool, true, false}
use mathlib.Core.List.{List}
use Prim.Native.Nat.{ℕ}
use native.Mathlib.Omega.{arith}
use lib.ListN.{length}
use lib.Dec.{leb}
use borrow.Author.Tests.{leb-true, leb-false}
use Rattle.weights.specs.declared.Measure.{Measure}
use Rattle.weights.specs.Choice.{pick}
use Rattle.refusal.specs.declared.Refusal.TheVariants.{TextRoom}
use Rattle.columns.specs.Columns.{Columns}
use Rattle.columns.specs.Acceptance.{acceptance}
use Rattle.columns.specs.Filled.{filled}
use Rattle.columns.specs.Owed.{Owed}
use Rattle.columns.specs.Right.{RightTable}
use Rattle.columns.proofs.Exactly.{accepted_exactly, refused_exactly}
use Rattle.text.specs.Render.{render}
use Rattle.writetable.specs.Write.{write_outcome, write_text, write_as, write_table}
use Rattle.writetable.specs.Asked.{WrongWrite, WriteOwes}
use Rattle.refusal.specs.Answers.{Acceptance}
use Rattle.std.specs.Prelude.{Ok, Err}

module _ (m : Measure) (c : Columns) (room : List ℕ) where
  abbrev text : List ℕ
  text = render m c

  by_room : RightTable c → (b : Bool) → leb (length text) (length room) ≡ b
      → WriteOwes m c room (pick b (write_outcome (Ok (length text)) (filled text room)) (write_outcome (Err TextRoom) room))
  by_room t true e = Owed.accepted (record { table = t; room = leb-true (length text) (length room) e })
  by_room t false e = Owed.refused (WrongWrite.room t (λ h. omega (arith, leb-false (length text) (length room) e, h)))

  by_table : (x : Acceptance) → acceptance c ≡ x → WriteOwes m c room (write_as x text room)
  unfolding write_text
  by_table (Ok _) p = by_room ((accepted_exactly c).0 p) (leb (length text) (length room)) refl
  by_table (Err r) p = Owed.refused (WrongWrite.table ((refused_exactly c r).0 p))

  pub write_owes : WriteOwes m c room (write_table m c room)
  write_owes = by_table (acceptance c) refl
