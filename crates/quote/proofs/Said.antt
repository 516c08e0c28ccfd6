-- What is said of a bill, by what printing it returned. Assumes nothing.
use mathlib.Core.Path.{◌≡◌, refl, sym, ◌∙◌, ap, ap₂, subst}
use mathlib.Core.List.{List, [], ◌++◌}
use Prim.Native.Nat.{ℕ, ◌≤◌}
use native.Mathlib.Omega.{arith}
use lib.ListN.{length, take, drop, replicate, length-append, length-replicate}
use Rattle.weights.specs.declared.Measure.{Measure}
use Rattle.weights.specs.declared.Entry.{Entry}
use Rattle.refusal.specs.declared.Refusal.{Refusal}
use Rattle.columns.specs.Columns.{Entries, Columns, columns}
use Rattle.settle.specs.Settling.{entry_at}
use Rattle.columns.specs.Owed.{Outcome}
use Rattle.bill.specs.Billing.{bill_of, bill_acceptance, outcome, billed}
use Rattle.bill.proofs.Bills.{bill_printed}
use Rattle.bill.proofs.Asked.{bill_exactly}
use Rattle.writing.specs.Written.{Written}
use Rattle.writing.proofs.Written.{written_as}
use Rattle.reply.specs.declared.Status.TheVariants.{Answered}
use Rattle.reply.specs.declared.Reply.{Reply}
use Rattle.reply.specs.Reply.{Said, answered, refused_by, on_extent, Replied}
use Rattle.quote.specs.Quote.{most_lines, rows, last, sheet, said_of, bill_said}
use Rattle.quote.proofs.Rows.{rows_read}
use Rattle.refusal.specs.Answers.{Acceptance, Extent}
use Rattle.std.specs.Prelude.{Ok, Err}

-- a bill that is printed is no longer than the room
size_within : (m : Measure) (c : Columns) (a : Entries) (v : ℕ) (room : List ℕ) (size : ℕ) → (billed m c a v room).result ≡ Ok size → size ≤ length room
unfolding billed
size_within m c a v room size e = go (bill_acceptance m c a v (length room)) refl e
  where
    go : (x : Acceptance) → bill_acceptance m c a v (length room) ≡ x → (outcome x (bill_of c a.labels v) room).result ≡ Ok size → size ≤ length room
    go (Err r) p q = let z : ◌≡◌ {A = ℕ} 0 1 = cc in absurd (omega arith)
    go (Ok _) p q = let h : size ≡ length (bill_of c a.labels v) = cc in let r = ((bill_exactly m c a v (length room)).0 p).room in omega arith

module _ (m : Measure) (c : Columns) (a : Entries) (v : ℕ) (x : Extent) (lines : List ℕ) (q : record { result = x; left = lines } ≡ billed m c a v (replicate most_lines 0)) where
  said : bill_said m c a v ≡ on_extent x (λ k. answered (sheet c a v (take k lines)))
  unfolding bill_said
  said = ap (said_of c a v) (sym q)

  -- it is refused
  pub reply_refused : (r : Refusal) → x ≡ Err r → (old : List ℕ) (y : Reply) (room : List ℕ) → Replied (refused_by r) old y room → Replied (bill_said m c a v) old y room
  unfolding on_extent
  reply_refused r e old y room w =
      let p = said ∙ ap (λ (z : Extent). on_extent z (λ k. answered (sheet c a v (take k lines)))) e in
      subst (λ (z : Said). Replied z old y room) (sym p) w

  -- it has k lines
  module _ (k : ℕ) (e : x ≡ Ok k) where
    result_is : (billed m c a v (replicate most_lines 0)).result ≡ Ok k
    result_is = sym (ap (λ (o : Outcome Extent (List ℕ)). o.result) q) ∙ e

    pub lines_few : k ≤ most_lines
    lines_few = let h = size_within m c a v (replicate most_lines 0) k result_is in let l = length-replicate {A = ℕ} most_lines 0 in omega arith

    pub lines_within : k ≤ length lines
    lines_within =
        let p = bill_printed m c a v (replicate most_lines 0) k result_is in
        let g = ap length (ap (λ (o : Outcome Extent (List ℕ)). o.left) q ∙ p.holds) in
        let l = length-append (bill_of c a.labels v) (drop k (replicate most_lines 0)) in
        let n = p.counted in
        omega arith

    pub reply_lines : (y : Entry) → y ≡ entry_at a v → (old : List ℕ) (n : ℕ) (room : List ℕ)
        → Written (rows (columns 0 c.heads c.own [] [] []) (take k lines) ++ last v y) old n room → Replied (bill_said m c a v) old (record { width = n; status = Answered }) room
    unfolding on_extent sheet
    reply_lines y g old n room w =
        let p : bill_said m c a v ≡ answered (sheet c a v (take k lines)) = said ∙ ap (λ (z : Extent). on_extent z (λ k. answered (sheet c a v (take k lines)))) e in
        let b = ap₂ (λ (z : List ℕ) (t : Entry). z ++ last v t) (rows_read c (take k lines)) g in
        subst (λ (z : Said). Replied z old (record { width = n; status = Answered }) room) (sym p) (record { status = refl; written = written_as old n room b w })
