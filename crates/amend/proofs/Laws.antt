-- What is said, by what the calls returned; and the room behind a text. Assumes nothing.
use mathlib.Core.Path.{◌≡◌, refl, sym, ◌∙◌, ap, subst, subst₂}
use mathlib.Core.Bool.{Bool, true, false}
use mathlib.Core.List.{List, [], ◌∷◌, ◌++◌, append_assoc}
use Prim.Native.Nat.{ℕ, zero, suc, ◌≤◌}
use native.Mathlib.Omega.{arith}
use lib.ListN.{length, take, drop, replicate, length-replicate, take-append-drop}
use lib.Seq.{length-take-le}
use lib.Dec.{leb}
use Rattle.weights.specs.declared.Measure.{Measure}
use Rattle.weights.specs.Choice.{pick}
use Rattle.refusal.specs.declared.Refusal.{Refusal}
use Rattle.refusal.specs.declared.Refusal.TheVariants.{TextRoom}
use Rattle.refusal.specs.declared.Counts.{Counts}
use Rattle.columns.specs.Columns.{Entries, Columns}
use Rattle.columns.specs.Acceptance.{acceptance}
use Rattle.columns.specs.Filled.{filled}
use Rattle.columns.specs.Longer.{NewLine, in_use_of, longer}
use Rattle.columns.specs.Owed.{Owed}
use Rattle.columns.proofs.Filled.{length-filled}
use Rattle.reprice.specs.Repricing.{ChangeOutcome, MarkOutcome, repriced, stricken, restored}
use Rattle.reprice.specs.Restoring.{with_strikes}
use Rattle.append.specs.Appending.{over, Grown, leaves, grown, append_acceptance, appended}
use Rattle.append.specs.Changes.{with_figures}
use Rattle.append.proofs.Checks.{append_passed}
use Rattle.append.proofs.Storing.{renewable}
use Rattle.append.proofs.Appended.{appended-longer, appended_result}
use Rattle.text.specs.Render.{render}
use Rattle.writetable.specs.Write.{WriteOutcome, write_outcome, write_text, write_as, write_table}
use Rattle.writetable.specs.Asked.{WriteOwes}
use Rattle.writetable.proofs.Asked.{write_owes}
use Rattle.report.specs.Report.{most_input}
use Rattle.reply.specs.declared.Reply.{Reply}
use Rattle.reply.specs.declared.Status.TheVariants.{Answered}
use Rattle.reply.specs.Reply.{Said, answered, refused_by, on_acceptance, on_extent, Replied}
use Rattle.amend.specs.Amend.{text_said, repriced_said, stricken_said, restored_said, on_appending, appended_said, Placed}
use Rattle.refusal.specs.Answers.{Acceptance, Extent, Appending}
use Rattle.std.specs.Prelude.{Ok, Err}

-- the same is said, and the room was the same
pub replied_as : {s s' : Said} {old old' : List ℕ} {r : Reply} {room : List ℕ} → s' ≡ s → old ≡ old' → Replied s old r room → Replied s' old' r room
replied_as {r} {room} e f p = subst₂ (λ (x : Said) (y : List ℕ). Replied x y r room) (sym e) f p

-- The text -----------------------------------------------------------------------------------------------------------------------------------------

-- what a part of the room keeps behind a text, and the room behind the part
behind : (n k : ℕ) (xs : List ℕ) → n ≤ k → drop n (take k xs) ++ drop k xs ≡ drop n xs
behind zero k xs h = take-append-drop k xs
behind (suc n) zero xs h = absurd (omega arith)
behind (suc n) (suc k) [] h = refl
behind (suc n) (suc k) (x ∷ xs) h = behind n k xs (omega arith)

filled_back : (text : List ℕ) (k : ℕ) (room : List ℕ) → length text ≤ k → filled text (take k room) ++ drop k room ≡ filled text room
unfolding filled
filled_back text k room h = append_assoc text (drop (length text) (take k room)) (drop k room) ∙ ap (λ (z : List ℕ). text ++ z) (behind (length text) k room h)

-- the answer of writing asks only for the length of the room
answer_by : (b : Bool) (n : ℕ) (x y : List ℕ)
    → (pick b (write_outcome (Ok n) x) (write_outcome (Err TextRoom) y)).answer ≡ pick b (Ok n) (Err TextRoom)
answer_by true n x y = refl
answer_by false n x y = refl

same_answer : (a : Acceptance) (text x y : List ℕ) → length x ≡ length y → (write_as a text x).answer ≡ (write_as a text y).answer
unfolding write_text
same_answer (Ok _) text x y e =
    answer_by (leb (length text) (length x)) (length text) (filled text x) x
    ∙ ap (λ (n : ℕ). pick (leb (length text) n) (Ok (length text)) (Err TextRoom)) e
    ∙ sym (answer_by (leb (length text) (length y)) (length text) (filled text y) y)
same_answer (Err r) text x y e = refl

said_by : (m : Measure) (c : Columns) (room : List ℕ) → length room ≡ most_input → text_said m c ≡ on_extent (write_table m c room).answer (λ _. answered (render m c))
unfolding text_said
said_by m c room e =
    ap (λ (z : Extent). on_extent z (λ _. answered (render m c)))
    (same_answer (acceptance c) (render m c) (replicate most_input 0) room (length-replicate {A = ℕ} most_input 0 ∙ sym e))

-- a refusal has altered nothing; a length is that of the text, which is written
no_refusal : {n : ℕ} {r : Refusal} {A : Type 0} → ◌≡◌ {A = Extent} (Ok n) (Err r) → A
no_refusal e = let z : ◌≡◌ {A = ℕ} 0 1 = cc in absurd (omega arith)

same_length : {n k : ℕ} → ◌≡◌ {A = Extent} (Ok n) (Ok k) → k ≡ n
same_length e = cc

record Whole (text room : List ℕ) (n : ℕ) (new : List ℕ) : Type 0 where
  pub count : n ≡ length text
  pub fits : length text ≤ length room
  pub room_is : new ≡ filled text room

module _ (m : Measure) (c : Columns) (room : List ℕ) where
  kept_by : {x : Extent} {new : List ℕ} (r : Refusal) → WriteOwes m c room (write_outcome x new) → x ≡ Err r → new ≡ room
  kept_by r (Owed.accepted p) e = no_refusal e
  kept_by r (Owed.refused w) e = refl

  whole_by : {x : Extent} {new : List ℕ} (n : ℕ) → WriteOwes m c room (write_outcome x new) → x ≡ Ok n → Whole (render m c) room n new
  whole_by n (Owed.accepted p) e = record { count = same_length e; fits = p.room; room_is = refl }
  whole_by n (Owed.refused w) e = no_refusal (sym e)

-- the text is written into the start of the room
module _ (m : Measure) (c : Columns) (room : List ℕ) (large : most_input ≤ length room) (x : Extent) (new : List ℕ) (q : write_outcome x new ≡ write_table m c (take most_input room)) where
  part_long : length (take most_input room) ≡ most_input
  part_long = length-take-le most_input room large

  owes : WriteOwes m c (take most_input room) (write_outcome x new)
  owes = subst (λ (o : WriteOutcome). WriteOwes m c (take most_input room) o) (sym q) (write_owes m c (take most_input room))

  said : text_said m c ≡ on_extent x (λ _. answered (render m c))
  said = said_by m c (take most_input room) part_long ∙ ap (λ (o : WriteOutcome). on_extent o.answer (λ _. answered (render m c))) (sym q)

  module _ (r : Refusal) (e : x ≡ Err r) where
    pub text_refused : text_said m c ≡ refused_by r
    unfolding on_extent
    text_refused = said ∙ ap (λ (z : Extent). on_extent z (λ _. answered (render m c))) e

    pub room_kept : new ++ drop most_input room ≡ room
    room_kept = ap (λ (z : List ℕ). z ++ drop most_input room) (kept_by m c (take most_input room) r owes e) ∙ take-append-drop most_input room

  module _ (n : ℕ) (e : x ≡ Ok n) where
    text_answered : text_said m c ≡ answered (render m c)
    unfolding on_extent
    text_answered = said ∙ ap (λ (z : Extent). on_extent z (λ _. answered (render m c))) e

    whole : Whole (render m c) (take most_input room) n new
    whole = whole_by m c (take most_input room) n owes e

    put_back : new ++ drop most_input room ≡ filled (render m c) room
    put_back =
        ap (λ (z : List ℕ). z ++ drop most_input room) whole.room_is
        ∙ filled_back (render m c) most_input room (omega (arith, whole.fits, part_long))

    pub text_replied : Replied (text_said m c) room (record { width = n; status = Answered }) (new ++ drop most_input room)
    text_replied =
        replied_as text_answered refl
        (record {
          status = refl;
          written = record {
            count = whole.count;
            room_is = put_back;
            long = ap length put_back ∙ length-filled (render m c) room (omega (arith, whole.fits, part_long, large));
          };
        })

-- The changes --------------------------------------------------------------------------------------------------------------------------------------

module _ (m : Measure) (c : Columns) (a : Entries) (e w : ℕ) (x : Acceptance) (own : List ℕ) (b : Entries) (q : record { result = x; own = own; left = b } ≡ repriced m c a e w) where
  pub repriced_by : repriced_said m c a e w ≡ on_acceptance x (text_said m (with_figures c own))
  unfolding repriced_said
  repriced_by = ap (λ (o : ChangeOutcome Acceptance). on_acceptance o.result (text_said m (with_figures c o.own))) (sym q)

  pub repriced_refused : (r : Refusal) → x ≡ Err r → repriced_said m c a e w ≡ refused_by r
  unfolding on_acceptance
  repriced_refused r p = repriced_by ∙ ap (λ (z : Acceptance). on_acceptance z (text_said m (with_figures c own))) p

  pub repriced-accepted : x ≡ Ok tt → repriced_said m c a e w ≡ text_said m (with_figures c own)
  unfolding on_acceptance
  repriced-accepted p = repriced_by ∙ ap (λ (z : Acceptance). on_acceptance z (text_said m (with_figures c own))) p

module _ (m : Measure) (c : Columns) (a : Entries) (e : ℕ) (x : Acceptance) (marks : List ℕ) (b : Entries) where
  module _ (q : record { result = x; strikes = marks; left = b } ≡ stricken m c a e) where
    pub stricken_by : stricken_said m c a e ≡ on_acceptance x (text_said m (with_strikes c marks))
    unfolding stricken_said
    stricken_by = ap (λ (o : MarkOutcome Acceptance). on_acceptance o.result (text_said m (with_strikes c o.strikes))) (sym q)

    pub stricken_refused : (r : Refusal) → x ≡ Err r → stricken_said m c a e ≡ refused_by r
    unfolding on_acceptance
    stricken_refused r p = stricken_by ∙ ap (λ (z : Acceptance). on_acceptance z (text_said m (with_strikes c marks))) p

    pub stricken-accepted : x ≡ Ok tt → stricken_said m c a e ≡ text_said m (with_strikes c marks)
    unfolding on_acceptance
    stricken-accepted p = stricken_by ∙ ap (λ (z : Acceptance). on_acceptance z (text_said m (with_strikes c marks))) p

  module _ (q : record { result = x; strikes = marks; left = b } ≡ restored m c a e) where
    pub restored_by : restored_said m c a e ≡ on_acceptance x (text_said m (with_strikes c marks))
    unfolding restored_said
    restored_by = ap (λ (o : MarkOutcome Acceptance). on_acceptance o.result (text_said m (with_strikes c o.strikes))) (sym q)

    pub restored_refused : (r : Refusal) → x ≡ Err r → restored_said m c a e ≡ refused_by r
    unfolding on_acceptance
    restored_refused r p = restored_by ∙ ap (λ (z : Acceptance). on_acceptance z (text_said m (with_strikes c marks))) p

    pub restored-accepted : x ≡ Ok tt → restored_said m c a e ≡ text_said m (with_strikes c marks)
    unfolding on_acceptance
    restored-accepted p = restored_by ∙ ap (λ (z : Acceptance). on_acceptance z (text_said m (with_strikes c marks))) p

-- Appending ----------------------------------------------------------------------------------------------------------------------------------------

no_counts : {r : Refusal} {k : Counts} {A : Type 0} → ◌≡◌ {A = Appending} (Err r) (Ok k) → A
no_counts e = let z : ◌≡◌ {A = ℕ} 0 1 = cc in absurd (omega arith)

-- counts are returned where every check passed
module _ (m : Measure) (c : Columns) (k : Counts) (a : Entries) (index list : List ℕ) (l : NewLine) where
  passed : {k' : Counts} (x : Acceptance) → append_acceptance m c k a index list l ≡ x → (appended m c k a index list l).result ≡ Ok k' → x ≡ Ok tt
  passed (Ok _) p e = refl
  passed (Err r) p e = no_counts (sym (appended_result m c k a index list l r p) ∙ e)

  table_is : append_acceptance m c k a index list l ≡ Ok tt → (appended m c k a index list l).table ≡ over (longer (in_use_of c k) l) c
  unfolding appended
  table_is p = ap (λ (x : Acceptance). (grown m c k a index list l x).table) p

module _ (m : Measure) (c : Columns) (k : Counts) (a : Entries) (index list : List ℕ) (l : NewLine) (x : Appending) (c' : Columns) (a' : Entries) (index' list' : List ℕ)
    (q : leaves x c' a' index' list' ≡ appended m c k a index list l) where
  appended_by : appended_said m c k a index list l ≡ on_appending x (λ k'. text_said m (in_use_of c' k'))
  unfolding appended_said
  appended_by = ap (λ (o : Grown). on_appending o.result (λ k'. text_said m (in_use_of o.table k'))) (sym q)

  pub appended-refused : (r : Refusal) → x ≡ Err r → appended_said m c k a index list l ≡ refused_by r
  unfolding on_appending
  appended-refused r p = appended_by ∙ ap (λ (z : Appending). on_appending z (λ k'. text_said m (in_use_of c' k'))) p

  module _ (k' : Counts) (p : x ≡ Ok k') where
    pub appended-counts : appended_said m c k a index list l ≡ text_said m (in_use_of c' k')
    unfolding on_appending
    appended-counts = appended_by ∙ ap (λ (z : Appending). on_appending z (λ k''. text_said m (in_use_of c' k''))) p

    -- the new counts pass no column
    pub counts_placed : Placed c' k'
    counts_placed =
        let e : (appended m c k a index list l).result ≡ Ok k' = sym (ap (λ (o : Grown). o.result) q) ∙ p in
        let h = passed m c k a index list l (append_acceptance m c k a index list l) refl e in
        let g = append_passed m c k a index list l h in
        let t = ap (λ (o : Grown). o.table) q ∙ table_is m c k a index list l h in
        let r = renewable c k a l g.appendable t (appended-longer m c k a index list l k' e).counts index list g.places g.room in
        record { heads = r.heads; own = r.own; strikes = r.strikes; spans = r.spans; tails = r.tails }
