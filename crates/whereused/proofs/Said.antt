-- What is said of a part's uses, by whether there is such a part. Assumes nothing.
use mathlib.Core.Path.{◌≡◌, refl, ap}
use mathlib.Core.List.{List}
use Prim.Native.Nat.{ℕ, ◌≤◌, ◌<◌}
use native.Mathlib.Omega.{arith}
use lib.ListN.{length}
use lib.Dec.{ltb}
use borrow.Author.Tests.{lt-ltb, le-ltb}
use Rattle.refusal.specs.declared.Refusal.TheVariants.{NoSuchVertex}
use Rattle.columns.specs.Columns.{Columns}
use Rattle.columns.specs.Acceptance.{acceptance}
use Rattle.text.proofs.Digits.{pick_by}
use Rattle.report.proofs.Bounds.{refused_most}
use Rattle.writing.specs.Written.{Written}
use Rattle.writing.proofs.Written.{written_as}
use Rattle.reply.specs.declared.Status.TheVariants.{Answered}
use Rattle.reply.specs.declared.Reply.{Reply}
use Rattle.reply.specs.Reply.{most_reply, Said, answered, refused_by, Replied}
use Rattle.whereused.specs.WhereUsed.{use_rows, uses_of, uses_said}
use Rattle.whereused.proofs.Rows.{below, rows_fit}
use Rattle.std.specs.Prelude.{Ok}

module _ (c : Columns) (v : ℕ) (old : List ℕ) where
  pub reply_absent : c.vertices ≤ v → (y : Reply) (room : List ℕ) → Replied (refused_by NoSuchVertex) old y room → Replied (uses_said c v) old y room
  unfolding uses_said
  reply_absent h y room w = rw (le-ltb v c.vertices h) w

  pub reply_rows : v < c.vertices → (i at : ℕ) (room : List ℕ) → i ≤ length c.heads → length c.heads ≤ i → Written (below c v i) old at room
      → Replied (uses_said c v) old (record { width = at; status = Answered }) room
  unfolding uses_said
  reply_rows h i at room f g w =
      let e : i ≡ length c.heads = omega arith in
      let p : Replied (answered (use_rows c (uses_of c v))) old (record { width = at; status = Answered }) room = record { status = refl; written = written_as old at room (ap (below c v) e) w } in
      rw (lt-ltb v c.vertices h) p

-- what is said fits the room of a reply
pub uses_fit : (c : Columns) (v : ℕ) → acceptance c ≡ Ok tt → length (uses_said c v).bytes ≤ most_reply
unfolding uses_said
uses_fit c v p =
    let w = refused_most NoSuchVertex (omega arith) (omega arith) in
    pick_by (λ (s : Said). length s.bytes ≤ most_reply) (ltb v c.vertices) (λ _. rows_fit c v p) (λ _. omega arith)
