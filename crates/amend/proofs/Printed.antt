-- What is printed of an accepted change. Assumes nothing.
use mathlib.Core.Path.{◌≡◌, refl, sym, ◌∙◌, ap, subst}
use mathlib.Core.Logic.{inl, inr}
use mathlib.Core.List.{List}
use Prim.Native.Nat.{ℕ}
use native.Mathlib.Omega.{arith}
use lib.ListN.{length, replicate, length-replicate}
use Rattle.weights.specs.declared.Measure.{Measure}
use Rattle.weights.specs.Figures.{standing, struck_mark}
use Rattle.refusal.specs.declared.Counts.{Counts}
use Rattle.columns.specs.Columns.{Entries, Columns, with_own, with_strike}
use Rattle.columns.specs.Acceptance.{acceptance}
use Rattle.columns.specs.Longer.{NewLine, in_use_of, longer}
use Rattle.columns.specs.Owed.{Owed}
use Rattle.columns.proofs.Accepted.{refused}
use Rattle.columns.proofs.Exactly.{refused_exactly}
use Rattle.reprice.specs.Restoring.{with_strikes}
use Rattle.reprice.proofs.Changes.{reprice_leaves, strike_leaves, restore_leaves}
use Rattle.append.specs.Changes.{with_figures}
use Rattle.append.proofs.Appended.{appended-longer}
use Rattle.text.specs.Render.{render}
use Rattle.writetable.specs.Write.{write_outcome}
use Rattle.writetable.specs.Asked.{WrongWrite, WriteOwes}
use Rattle.writetable.proofs.Asked.{write_owes}
use Rattle.report.specs.Report.{most_input}
use Rattle.reply.specs.declared.Status.TheVariants as status
use Rattle.reply.specs.Reply.{Said, answered, on_extent}
use Rattle.amend.specs.Amend.{text_said}
use Rattle.amend.specs.Printed.{Printed, Reprices, Strikes, Restores, Appends}
use Rattle.amend.proofs.Laws.{repriced_refused, repriced-accepted, stricken_refused, stricken-accepted, restored_refused, restored-accepted, appended-refused, appended-counts}
use Rattle.refusal.specs.Answers.{Extent}
use Rattle.std.specs.Prelude.{Ok}

no_answer : {A : Type 0} → status.Refused ≡ status.Answered → A
no_answer e = let z : ◌≡◌ {A = ℕ} 0 1 = cc in absurd (omega arith)

module _ (m : Measure) (t : Columns) (p : acceptance t ≡ Ok tt) where
  -- by what writing returned
  printed_by : (room : List ℕ) → length room ≡ most_input → {x : Extent} {new : List ℕ} → WriteOwes m t room (write_outcome x new) → Printed m t (on_extent x (λ _. answered (render m t)))
  unfolding on_extent
  printed_by room h (Owed.accepted w) =
      record { fits = λ _. refl; long = λ n. absurd (n (omega (arith, w.room, h))); text = λ _. refl; either = inl refl }
  printed_by room h (Owed.refused (WrongWrite.table w)) = absurd (refused (sym ((refused_exactly t _).1 w) ∙ p))
  printed_by room h (Owed.refused (WrongWrite.room w n)) =
      record { fits = λ f. absurd (n (omega (arith, f, h))); long = λ _. refl; text = λ e. no_answer e; either = inr refl }

  pub text_printed : Printed m t (text_said m t)
  unfolding text_said
  text_printed = printed_by (replicate most_input 0) (length-replicate {A = ℕ} most_input 0) (write_owes m t (replicate most_input 0))

-- the text of a table that is t
printed_as : (m : Measure) (c t : Columns) {s : Said} → s ≡ text_said m c → c ≡ t → acceptance t ≡ Ok tt → Printed m t s
printed_as m c t e f p = subst (λ (z : Said). Printed m t z) (sym (e ∙ ap (text_said m) f)) (text_printed m t p)

module _ (m : Measure) (c : Columns) (a : Entries) (e : ℕ) where
  pub reprices : (w : ℕ) → Reprices m c a e w
  reprices w = record {
    done = λ p. let g = reprice_leaves m c a e w p in
        printed_as m _ (with_own c e w) (repriced-accepted m c a e w _ _ _ refl p) (ap (with_figures c) g.stored) g.accepted;
    turned = repriced_refused m c a e w _ _ _ refl;
  }

  pub strikes : Strikes m c a e
  strikes = record {
    done = λ p. let g = strike_leaves m c a e p in
        printed_as m _ (with_strike c e struck_mark) (stricken-accepted m c a e _ _ _ refl p) (ap (with_strikes c) g.stored) g.accepted;
    turned = stricken_refused m c a e _ _ _ refl;
  }

  pub restores : Restores m c a e
  restores = record {
    done = λ p. let g = restore_leaves m c a e p in
        printed_as m _ (with_strike c e standing) (restored-accepted m c a e _ _ _ refl p) (ap (with_strikes c) g.stored) g.accepted;
    turned = restored_refused m c a e _ _ _ refl;
  }

pub appends : (m : Measure) (c : Columns) (k : Counts) (a : Entries) (index list : List ℕ) (l : NewLine) → Appends m c k a index list l
appends m c k a index list l = record {
  done = λ k' p. let g = appended-longer m c k a index list l k' p in
      printed_as m _ (longer (in_use_of c k) l) (appended-counts m c k a index list l _ _ _ _ _ refl k' p) g.table g.accepted;
  turned = appended-refused m c k a index list l _ _ _ _ _ refl;
}
