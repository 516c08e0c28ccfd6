-- `desk::blank_room` meets its contract. Assumes nothing.
use mathlib.Core.Path.{sym}
use Prim.Native.Nat.{ℕ}
use lib.ListN.{length-replicate}
use Rattle.reply.specs.Reply.{most_reply}
use Rattle.desk.proofs.blank_room.Goals as goal

pub returns : goal.returns
returns c = sym (length-replicate {A = ℕ} most_reply 0)
