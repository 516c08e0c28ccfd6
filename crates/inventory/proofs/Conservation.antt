-- For every part of every replayed record: opening count and receipts are the final count, the pieces issued and the pieces used. Outcome 0 is that of receipts, and no
-- final count is above the limit. Assumes nothing.
use mathlib.Core.Path.{◌≡◌, refl, sym, subst}
use mathlib.Core.Logic.{◌↔◌}
use mathlib.Core.List.{List, []}
use Prim.Native.Nat.{ℕ, zero, suc, ◌+◌, ◌≤◌, ◌<◌}
use native.Mathlib.Decide.{ℕ_discrete}
use native.Mathlib.Omega.{arith}
use lib.ListN.{length}
use lib.Dec.{eqb}
use borrow.Author.Tests.{eq-eqb, ne_eqb}
use Rattle.weights.specs.Choice.{pick}
use Rattle.columns.specs.Columns.{Answers, Columns, columns, answers, cell}
use Rattle.provenance.specs.Counting.{once, count}
use Rattle.inventory.specs.declared.Fulfilment.{Fulfilment}
use Rattle.std.specs.Prelude.{Ok}
use Rattle.inventory.specs.Shelf.{most_stock, chosen_tail, Low}
use Rattle.inventory.specs.Replaying.{Stepped, stepped, apply_event}
use Rattle.inventory.specs.Record.{list_of, Happens, Replays, receipts, issues, uses}
use Rattle.inventory.proofs.Meaning.{Tells, event_tells}

module _ (c : Columns) (a : Answers) where
  -- of one event of part p
  abbrev Balanced : (p k o : ℕ) (s t : List ℕ) (v : ℕ) → Type 0
  Balanced p k o s t v =
      cell s v + pick (eqb p v) (pick (eqb o 0) k 0) 0
      ≡ cell t v + pick (eqb p v) (once 1 o) 0 + pick (eqb o 2) (count v (list_of c a p)) 0

  event_balanced : {p k o : ℕ} {s t : List ℕ} → Happens c a p k s o t → (v : ℕ) → Balanced p k o s t v
  event_balanced {p} {k} {o} {s} {t} x v = go x (ℕ_discrete p v)
    where
      go : {o : ℕ} {t : List ℕ} → Happens c a p k s o t → Dec (p ≡ v) → Balanced p k o s t v
      go {t = t} (Happens.received h e l f) (yes q) = let g = subst (λ (z : ℕ). cell t z ≡ cell s z + k) q e in rw (eq-eqb p v q) (omega (arith, g))
      go (Happens.received h e l f) (no n) = rw (ne_eqb p v n) (omega (arith, f v (λ q. n (sym q))))
      go {t = t} (Happens.issued z e f) (yes q) = let g = subst (λ (z : ℕ). cell s z ≡ cell t z + 1) q e in rw (eq-eqb p v q) (omega (arith, g))
      go (Happens.issued z e f) (no n) = rw (ne_eqb p v n) (omega (arith, f v (λ q. n (sym q))))
      go (Happens.built z e d l f) (yes q) = rw (eq-eqb p v q) (omega (arith, f v))
      go (Happens.built z e d l f) (no n) = rw (ne_eqb p v n) (omega (arith, f v))
      go (Happens.late z e m) (yes q) = rw (eq-eqb p v q) (omega arith)
      go (Happens.late z e m) (no n) = rw (ne_eqb p v n) (omega arith)

  pub balanced : {ps ks s os t : List ℕ} → Replays c a ps ks s os t → (v : ℕ)
      → cell s v + receipts v ps ks os ≡ cell t v + issues v ps os + uses (list_of c a) v ps os
  unfolding receipts issues uses
  balanced Replays.none v = omega arith
  balanced (Replays.more h l x rest) v = omega (arith, event_balanced x v, balanced rest v)

  pub received_nought : {ps ks s os t : List ℕ} → Replays c a ps ks s os t → (i : ℕ) → i < length ps → (cell os i ≡ 0) ↔ (0 < cell ks i)
  received_nought Replays.none i h = absurd (omega arith)
  received_nought (Replays.more h l x rest) zero b = go x
    where
      go : {v k o : ℕ} {s t : List ℕ} → Happens c a v k s o t → (o ≡ 0) ↔ (0 < k)
      go (Happens.received h e l f) = (λ _. h, λ _. refl)
      go (Happens.issued z e f) = (λ q. absurd (omega arith), λ q. absurd (omega arith))
      go (Happens.built z e d l f) = (λ q. absurd (omega arith), λ q. absurd (omega arith))
      go (Happens.late z e m) = (λ q. absurd (omega arith), λ q. absurd (omega arith))
  received_nought (Replays.more h l x rest) (suc i) b = received_nought rest i (omega arith)

  pub happens_low : {v k o : ℕ} {s t : List ℕ} → Happens c a v k s o t → Low s → Low t
  happens_low {v} {k} {o} {s} {t} x low u = go x (ℕ_discrete u v)
    where
      go : {o : ℕ} {t : List ℕ} → Happens c a v k s o t → Dec (u ≡ v) → cell t u ≤ most_stock
      go {t = t} (Happens.received h e l f) (yes q) = subst (λ (z : ℕ). cell t z ≤ most_stock) (sym q) l
      go {t = t} (Happens.received h e l f) (no n) = omega (arith, f u n, low u)
      go {t = t} (Happens.issued z e f) (yes q) = subst (λ (z : ℕ). cell t z ≤ most_stock) (sym q) (omega (arith, low v))
      go {t = t} (Happens.issued z e f) (no n) = omega (arith, f u n, low u)
      go {t = t} (Happens.built z e d l f) dec = omega (arith, f u, low u)
      go {t = t} (Happens.late z e m) dec = low u

  pub replays_low : {ps ks s os t : List ℕ} → Replays c a ps ks s os t → Low s → Low t
  replays_low Replays.none low = low
  replays_low (Replays.more h l x rest) low = replays_low rest (happens_low x low)

-- an event that is done leaves no count above the limit
pub event_low : (spans tails depths edges : List ℕ) (i v k : ℕ) (s : List ℕ) {f : Fulfilment} {t : List ℕ}
    → apply_event (chosen_tail spans tails depths edges) i v k s ≡ stepped (Ok f) t → Low s → Low t
event_low spans tails depths edges i v k s e low =
    let c = columns 0 [] [] [] spans tails in
    let a = answers [] depths edges in
    let told = subst (λ (x : Stepped). Tells c a i v k [] [] s x.result x.stock) e (event_tells c a i v k [] [] s) in
    happens_low c a told.2 low
