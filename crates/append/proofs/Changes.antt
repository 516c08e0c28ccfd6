-- A line that no change names keeps its own figure and its strike mark, and the answers are those of the table as it then is. Assumes nothing.
use mathlib.Core.Path.{◌≡◌, refl, sym, ◌∙◌, ap, subst}
use Prim.Native.Nat.{ℕ, ◌<◌}
use native.Mathlib.Omega.{arith}
use lib.ListN.{length}
use Rattle.weights.specs.declared.Measure.{Measure}
use Rattle.weights.specs.Figures.{standing, struck_mark}
use Rattle.columns.specs.Columns.{Entries, Columns, own_at, strike_at, with_own, with_strike}
use Rattle.columns.specs.Longer.{in_use_of}
use Rattle.columns.proofs.Repriced.{own_elsewhere, strike_elsewhere}
use Rattle.settle.specs.Defined.{Defined}
use Rattle.settle.proofs.Exactly.{yes_exactly}
use Rattle.reprice.specs.Restoring.{with_strikes}
use Rattle.reprice.proofs.Changes.{reprice_leaves, strike_leaves, restore_leaves}
use Rattle.reprice.proofs.Restoring.{leaves_defined, reprice-struck, restored_then}
use Rattle.append.specs.Changes.{Priced, priced, with_figures, Change, Changes, Holds, Kept, KeptStruck}
use Rattle.append.proofs.Appended.{appended-longer}

module _ (m : Measure) (e : ℕ) where
  -- a table that is t, with the answers of t
  kept_by : (s : Priced) (c : Columns) (a : Entries) (t : Columns) → c ≡ t → Defined m t a → e < length t.heads
      → own_at t e ≡ own_at s.table e → strike_at t e ≡ strike_at s.table e → Kept m e s (priced c a)
  kept_by s c a t p d n o k =
      subst (λ (z : Columns). Kept m e s (priced z a)) (sym p) (record { holds = record { answers = d; numbered = n }; own = o; mark = k })

  -- one change
  module _ (s : Priced) (n : e < length s.table.heads) where
    kept_once : {s' : Priced} → Change m e s s' → Kept m e s s'
    kept_once (Change.reprice x w d r) =
        let c = s.table in
        let g = reprice_leaves m c s.answers x w r in
        kept_by s _ _ (with_own c x w) (ap (with_figures c) g.stored) (leaves_defined g) n (own_elsewhere c x w e d) refl
    kept_once (Change.strike x d r) =
        let c = s.table in
        let g = strike_leaves m c s.answers x r in
        kept_by s _ _ (with_strike c x struck_mark) (ap (with_strikes c) g.stored) (leaves_defined g) n refl (strike_elsewhere c x struck_mark e d)
    kept_once (Change.restore x d r) =
        let c = s.table in
        let g = restore_leaves m c s.answers x r in
        kept_by s _ _ (with_strike c x standing) (ap (with_strikes c) g.stored) (leaves_defined g) n refl (strike_elsewhere c x standing e d)
    kept_once (Change.append c k index list l k' p r) =
        let g = appended-longer m c k s.answers index list l k' r in
        let h : e < length (in_use_of c k).heads = subst (λ (z : Columns). e < length z.heads) (sym p) n in
        kept_by s _ _ _ g.table ((yes_exactly m _ _).0 g.checks) (omega (arith, g.lines.count))
        (g.lines.own e h ∙ ap (λ (z : Columns). own_at z e) p) (g.lines.strikes e h ∙ ap (λ (z : Columns). strike_at z e) p)

  -- any number of changes
  module _ (s : Priced) (h : Holds m e s) where
    pub kept_figure : {s' : Priced} → Changes m e s s' → Kept m e s s'
    kept_figure Changes.none = record { holds = h; own = refl; mark = refl }
    kept_figure (Changes.further {t} p x) =
        let g = kept_figure p in
        let k = kept_once t g.holds.numbered x in
        record { holds = k.holds; own = k.own ∙ g.own; mark = k.mark ∙ g.mark }

    pub kept-struck : {s' : Priced} → strike_at s.table e ≡ struck_mark → Changes m e s s' → KeptStruck m e s s'
    kept-struck {s'} struck x =
        let k = kept_figure x in
        let q = k.mark ∙ struck in
        let d = k.holds.answers in
        record {
          kept = k;
          unpriced = λ w. reprice-struck m s'.table s'.answers d.accepted e w q;
          restores = restored_then m s'.table s'.answers e d (record { numbered = k.holds.numbered; struck = q });
        }
