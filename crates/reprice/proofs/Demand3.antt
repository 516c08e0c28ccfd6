-- Demand 3 holds: the two tables have one hypergraph, so what is proved of fixpoints whose own weights differ in one place holds of their answers.
-- Assumes nothing.
use mathlib.Core.Path.{◌≡◌, sym, ◌∙◌, ap, subst}
use mathlib.Core.Bool.{false}
use Prim.Native.Nat.{ℕ, ◌+◌, ◌≤◌, ◌<◌}
use lib.ListN.{length, set}
use lib.Seq.{set-set, set-get_or}
use borrow.Author.Tests.{lt-ltb, le-leb}
use Rattle.weights.specs.declared.Measure.{Measure}
use Rattle.weights.specs.declared.Measure.TheVariants.{Cost, Days, Grade}
use Rattle.weights.specs.declared.Label.{Label}
use Rattle.weights.specs.Figures.{greatest, is_struck_mark}
use Rattle.weights.specs.Measures.{algebra}
use Rattle.provenance.specs.Hypergraph.{Hypergraph, Derivation, listing}
use Rattle.provenance.specs.Labelling.{Fixpoint}
use Rattle.provenance.specs.Means.{Follows}
use Rattle.columns.specs.Columns.{Entries, Columns, columns, own_at, strike_at, with_own}
use Rattle.provenance.specs.Counting.{count, Raised}
use Rattle.provenance.proofs.Sensitivity.{cost_rise, days_rise, grade_rise}
use Rattle.provenance.specs.Sensitivity.{MadeWithin}
use Rattle.tables.specs.Table.{hypergraph}
use Rattle.columns.specs.Acceptance.{acceptance}
use Rattle.columns.proofs.Accepted.{table_accepted, columns_accept}
use Rattle.columns.proofs.Same.{entries_refl}
use Rattle.settle.specs.Settling.{entries_of, settled}
use Rattle.settle.proofs.Demands.{entries_sized, entries_mean, settled_left, settled_result_lem}
use Rattle.reprice.specs.Demand3.{labels_of, Pair, Rise, Carries, Demand3}
use Rattle.reprice.proofs.Revision.{made_within, old_fixpoint, new_fixpoint, unmade_both, raised_here, line_raised}
use Rattle.reprice.specs.Repricing.{line_acceptance, reprice_acceptance, repriced}
use Rattle.std.specs.Prelude.{Ok}

-- repricing a settled table
module _ (m : Measure) (c : Columns) (e w : ℕ) (p : acceptance c ≡ Ok tt) (n : e < length c.heads) (u : is_struck_mark (strike_at c e) ≡ false) (h : w ≤ greatest) where
  accepted-reprice : reprice_acceptance m c (entries_of m c) e w ≡ Ok tt
  unfolding reprice_acceptance line_acceptance
  accepted-reprice = rw (columns_accept c (entries_of m c) p (entries_sized m c p), lt-ltb _ _ n, u, le-leb _ _ h, entries_refl (entries_of m c))

  reprice-settled : repriced m c (entries_of m c) e w ≡ record { result = Ok tt; own = set c.own e w; left = entries_of m (with_own c e w) }
  unfolding repriced
  reprice-settled = rw accepted-reprice

-- what settling left
left_is : (m : Measure) (c : Columns) (a : Entries) → (settled m c a).result ≡ Ok tt → (settled m c a).left ≡ entries_of m c
left_is m c a q = settled_left m c a (sym (settled_result_lem m c a) ∙ q)

-- the rise of one part, over one hypergraph
rise_of : (m : Measure) {H : Hypergraph} {own own' : ℕ → ℕ} {ls ls' : ℕ → Label} {e d : ℕ} → Fixpoint (algebra m) H own ls → Fixpoint (algebra m) H own' ls' → Raised own own' e d
    → (v : ℕ) → MadeWithin (ls v) → MadeWithin (ls' v) → (t : Derivation H v) → Follows ls t → (t' : Derivation H v) → Follows ls' t'
    → Rise m d (ls v).weight.0 (ls' v).weight.0 (count e (listing t)) (count e (listing t'))
rise_of Cost fix fix' r v k k' t f t' f' = cost_rise fix fix' k k' t t' f f' r
rise_of Days fix fix' r v k k' t f t' f' = days_rise r fix fix' v k k'
rise_of Grade fix fix' r v k k' t f t' f' = grade_rise r fix fix' v k.made

module _ (m : Measure) (c : Columns) (e d : ℕ) (p : Pair c (with_own c e (own_at c e + d)) e d) where
  abbrev new : Columns
  new = with_own c e (own_at c e + d)

  here : own_at new e ≡ own_at c e + d
  here = raised_here c e d p.accepted p.numbered

  -- the old table is the new one with the line put back
  back : set new.own e (own_at c e) ≡ c.own
  back = set-set c.own e (own_at c e + d) (own_at c e) ∙ set-get_or c.own e 0

  old_again : with_own new e (own_at c e) ≡ c
  old_again = λ i. columns c.vertices c.heads (back i) c.strikes c.spans c.tails

  fix : Fixpoint (algebra m) (hypergraph c) (own_at c) (labels_of m c)
  fix = old_fixpoint m c new.own p.accepted p.accepted'

  fix' : Fixpoint (algebra m) (hypergraph c) (own_at new) (labels_of m new)
  fix' = new_fixpoint m c new.own p.accepted p.accepted'

  -- an own figure of an accepted table
  own_low : (c : Columns) → acceptance c ≡ Ok tt → (x : ℕ) → x < length c.heads → own_at c x ≤ greatest
  own_low c q x h = ((table_accepted c q).each x h).1.own

  upward : (a a' : Entries) → (settled m c a).result ≡ Ok tt → (settled m new a').result ≡ Ok tt
      → repriced m c (settled m c a).left e (own_at new e) ≡ record { result = Ok tt; own = new.own; left = (settled m new a').left }
  upward a a' q q' =
      ap (λ (b : Entries). repriced m c b e (own_at new e)) (left_is m c a q)
      ∙ ap (repriced m c (entries_of m c) e) here
      ∙ reprice-settled m c e (own_at c e + d) p.accepted p.numbered p.unstruck (subst (λ (x : ℕ). x ≤ greatest) here (own_low new p.accepted' e p.numbered))
      ∙ ap (λ (b : Entries). record { result = Ok tt; own = new.own; left = b }) (sym (left_is m new a' q'))

  downward : (a a' : Entries) → (settled m c a).result ≡ Ok tt → (settled m new a').result ≡ Ok tt
      → repriced m new (settled m new a').left e (own_at c e) ≡ record { result = Ok tt; own = c.own; left = (settled m c a).left }
  downward a a' q q' =
      ap (λ (b : Entries). repriced m new b e (own_at c e)) (left_is m new a' q')
      ∙ reprice-settled m new e (own_at c e) p.accepted' p.numbered p.unstruck (own_low c p.accepted e p.numbered)
      ∙ (λ i. record { result = Ok tt; own = back i; left = (ap (entries_of m) old_again ∙ sym (left_is m c a q)) i })

  carries : Carries m c new e
  carries = record {
    up = upward;
    down = downward;
    unmade = unmade_both m c new.own p.accepted p.accepted';
  }

  demand : Demand3 m c new e d
  demand = record {
    carries = carries;
    means = entries_mean m c p.accepted;
    means' = entries_mean m new p.accepted';
    rises = λ v k k'. rise_of m fix fix' (line_raised c e d p.accepted p.numbered) v (made_within m fix v k) (made_within m fix' v k');
  }

-- demand 3
pub demand_3 : (m : Measure) (c c' : Columns) (e d : ℕ) → Pair c c' e d → Demand3 m c c' e d
demand_3 m c c' e d p =
    subst (λ (x : Columns). Demand3 m c x e d) (sym p.raised) (demand m c e d (subst (λ (x : Columns). Pair c x e d) p.raised p))
