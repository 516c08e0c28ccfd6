-- The laws by which what stands before a place is copied behind it: nothing is copied yet, one place more, all of them. Assumes nothing.
use mathlib.Core.Path.{◌≡◌, refl, sym, ◌∙◌, ap, subst}
use mathlib.Core.List.{List, [], ◌∷◌, ◌++◌}
use Prim.Native.Nat.{ℕ, ◌+◌, ◌-◌, ◌≤◌, ◌<◌}
use native.Mathlib.Numerals.{add-one}
use native.Mathlib.Omega.{arith}
use lib.ListN.{length, get_or, take, drop, set, length-take, length-drop, get_or-append}
use lib.Seq.{take_all, take-suc, get_or-drop}
use Rattle.columns.specs.Filled.{filled}
use Rattle.bill.specs.Walk.{WrittenFrom, Repeatable, Copied, standing}
use Rattle.bill.proofs.Rooms.{written_length, write_none, write_line, write_on}

module _ {at size : ℕ} {room : List ℕ} (r : Repeatable at size room) where
  standing-length : length (standing at size room) ≡ size
  standing-length = simp (length-drop, length-take) (omega (arith, r.stand, r.fits))

  pub none_copied : Copied at size room 0 room
  none_copied =
      let e : at ≡ at + 0 = omega arith in
      record { within = omega arith; written = subst (λ (to : ℕ). WrittenFrom at [] room to room) e (write_none at [] room refl) }

  module _ {k : ℕ} {now : List ℕ} (w : Copied at size room k now) where
    copied_within : at + length (take k (standing at size room)) ≤ length room
    copied_within = omega (arith, r.fits, length-take k (standing at size room), standing-length)

    pub copy_kept : length now ≡ length room
    copy_kept = written_length w.written copied_within

    pub all_copied : size ≤ k → WrittenFrom at (standing at size room) room (at + size) now
    all_copied h =
        let e : k ≡ size = omega (arith, w.within) in
        let all = subst (λ (n : ℕ). WrittenFrom at (take n (standing at size room)) room (at + n) now) e w.written in
        subst (λ (es : List ℕ). WrittenFrom at es room (at + size) now) (take_all size (standing at size room) (omega (arith, standing-length))) all

    module _ (h : k < size) where
      -- the place that is read stands before those that were written
      read : get_or now (at - size + k) 0 ≡ get_or (standing at size room) k 0
      unfolding filled
      read =
          let j = at - size + k in
          let behind = filled (take k (standing at size room)) (drop at room) in
          ap (λ (xs : List ℕ). get_or xs j 0) w.written.content
          ∙ get_or-append (take at room) behind 0 j (simp length-take (omega (arith, r.stand, r.fits)))
          ∙ sym (get_or-drop (at - size) (take at room) k 0)

      pub one_copied : Copied at size room (k + 1) (set now (at + k) (get_or now (at - size + k) 0))
      one_copied =
          let es = standing at size room in
          let x = get_or now (at - size + k) 0 in
          let e : at + k + 1 ≡ at + (k + 1) = omega arith in
          let next = take-suc es k 0 (omega (arith, standing-length)) ∙ ap (λ (y : ℕ). take k es ++ (y ∷ [])) (sym read) in
          let more = write_on copied_within w.written (write_line now (at + k) x (omega (arith, r.fits, copy_kept))) in
          let reached = subst (λ (to : ℕ). WrittenFrom at (take k es ++ (x ∷ [])) room to (set now (at + k) x)) e more in
          let longer = sym (ap (λ (n : ℕ). take n es) (add-one k) ∙ next) in
          record { within = omega arith; written = subst (λ (zs : List ℕ). WrittenFrom at zs room (at + (k + 1)) (set now (at + k) x)) longer reached }
