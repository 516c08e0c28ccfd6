-- Sensitivity: what becomes of the labels where own figures change. The same parts are unmade. In cost each part within the ceiling keeps to the bounds that its two
-- bills set, the sums over all lines of figure × count; for one line raised by d, it rises by at least d × its count in the new bill and at most d × its count
-- in the old. In days it rises by 0 to d, since a line stands at most once on a downward path, and in grade, since the least of some figures does. Demand 3. Assumes nothing.
use mathlib.Core.Path.{◌≡◌, refl, sym, ◌∙◌, ap, subst}
use mathlib.Core.List.{List, [], ◌∷◌}
use Prim.Native.Nat.{ℕ, ◌+◌, ◌*◌, ◌≤◌}
use native.Mathlib.Omega.{arith}
use native.Mathlib.Nat.{mul-zero, mul-one}
use native.Mathlib.Decide.{ℕ_discrete}
use lib.IntN.{ℤ, pos, sub_ℕ}
use lib.Signed.{◌≤ℤ◌}
use Rattle.weights.specs.declared.Label.{Label}
use Rattle.weights.specs.Figures.{capped}
use Rattle.weights.specs.Measures.{Algebra, cost, days, grade, fold, weigh}
use Rattle.weights.specs.Laws.{NoWorse, Lawful}
use Rattle.weights.proofs.Laws.{least, at_most, turn, unturn, cost_lawful, days_lawful, grade_lawful}
use Rattle.weights.proofs.Weighing.{no_worse_eq, Pointwise, weigh_mono}
use Rattle.provenance.specs.Hypergraph.{Hypergraph, Derivation, Derivations, node, none, more, weight, weights, listing, listings}
use Rattle.provenance.specs.Labelling.{Made, Fixpoint}
use Rattle.provenance.specs.Means.{Follows}
use Rattle.provenance.proofs.LowerBound.{bound}
use Rattle.provenance.proofs.Support.{chosen, supports}
use Rattle.provenance.specs.Semirings.{long_days}
use Rattle.provenance.proofs.Semirings.{long_cost, cost_weighs, days_weighs}
use Rattle.provenance.proofs.Exact.{weight_capped}
use Rattle.provenance.specs.Paths.{Greatest}
use Rattle.provenance.proofs.Paths.{line-once, days_path}
use Rattle.provenance.specs.Counting.{count, charge, total, Raised}
use Rattle.provenance.proofs.Counting.{total-charge, total_append, AllBelow, below_append, raised_more, raised_most, raised_total, bill_change_lem, raised_change}
use Rattle.provenance.proofs.Integers.{sub_order, above_number, below_number}
use Rattle.provenance.specs.Sensitivity.{MadeWithin, Exchange, CostChange, CostRise, DaysRise}

-- whether a part is made does not look at figures
pub same_made : {A : Algebra} {H : Hypergraph} {own own' : ℕ → ℕ} {ls ls' : ℕ → Label} → Lawful A → Fixpoint A H own ls → Fixpoint A H own' ls' → (v : ℕ) → Made (ls v) → Made (ls' v)
same_made L fix fix' v a = (bound L fix' (chosen L fix v a).tree).made

module _ {H : Hypergraph} where
  mutual
    unfolding listing

    pub listing_below : {v : ℕ} (t : Derivation H v) → AllBelow H.edges (listing t)
    listing_below (node e s h ds) = AllBelow.more s.numbered (listings_below ds)

    listings_below : {vs : List ℕ} (ds : Derivations H vs) → AllBelow H.edges (listings ds)
    listings_below none = AllBelow.none
    listings_below (more d ds) = below_append (listing_below d) (listings_below ds)

-- an exact cost is the total along the listing
fold-total : (a : ℕ) (ws : List ℕ) → fold ◌+◌ a ws ≡ a + total (λ w. w) ws
unfolding fold total
fold-total a [] = omega arith
fold-total a (w ∷ ws) = omega (arith, fold-total (a + w) ws)

module _ {H : Hypergraph} (own : ℕ → ℕ) where
  mutual
    unfolding weight listing total weigh

    exact_total : {v : ℕ} (t : Derivation H v) → weight long_cost own t ≡ total own (listing t)
    exact_total (node e s h ds) = omega (arith, fold-total 0 (weights long_cost own ds), exact_totals ds)

    exact_totals : {vs : List ℕ} (ds : Derivations H vs) → total (λ w. w) (weights long_cost own ds) ≡ total own (listings ds)
    exact_totals none = refl
    exact_totals (more d ds) = omega (arith, exact_total d, exact_totals ds, total_append own (listing d) (listings ds))

  -- a cost is what its bill costs, capped
  pub cost-total : {v : ℕ} (t : Derivation H v) → weight cost own t ≡ capped (total own (listing t))
  cost-total t = weight_capped cost_weighs H own t ∙ ap capped (exact_total t)

module _ {H : Hypergraph} {own : ℕ → ℕ} {ls : ℕ → Label} (fix : Fixpoint cost H own ls) {v : ℕ} where
  -- a figure within the ceiling is what the bill costs
  bill_cost : MadeWithin (ls v) → (t : Derivation H v) → Follows ls t → (ls v).weight.0 ≡ total own (listing t)
  bill_cost a t f = omega (arith, a.low, (supports cost_lawful fix t f).weighs, cost-total own t)

  -- and no make-up costs less
  bill_least : (t : Derivation H v) → (ls v).weight.0 ≤ total own (listing t)
  bill_least t = omega (arith, at_most (bound cost_lawful fix t).low, cost-total own t)

module _ {H : Hypergraph} {own own' : ℕ → ℕ} {ls ls' : ℕ → Label} (fix : Fixpoint cost H own ls) (fix' : Fixpoint cost H own' ls') {v : ℕ}
    (a : MadeWithin (ls v)) (a' : MadeWithin (ls' v)) (t t' : Derivation H v) (f : Follows ls t) (f' : Follows ls' t') where
  -- each new figure against the old, whichever lines changed
  pub exchange : Exchange own own' H.edges (ls v).weight.0 (ls' v).weight.0 (listing t) (listing t')
  exchange = record {
    old = bill_cost fix a t f ∙ total-charge own (listing_below t);
    new = bill_cost fix' a' t' f' ∙ total-charge own' (listing_below t');
    least = omega (arith, bill_least fix t', total-charge own (listing_below t'));
    most = omega (arith, bill_least fix' t, total-charge own' (listing_below t));
  }

  -- the change of a part keeps to what the lines' changes come to in its two bills
  pub cost_change : CostChange own own' H.edges (ls v).weight.0 (ls' v).weight.0 (listing t) (listing t')
  cost_change =
      let w = (ls v).weight.0 in
      let w' = (ls' v).weight.0 in
      let n = H.edges in
      let x = exchange in
      record {
        least = subst (λ (z : ℤ). z ≤ℤ sub_ℕ w' w) (sym (bill_change_lem own own' n (listing t')))
            ((sub_order (charge own' n (listing t')) (charge own n (listing t')) w' w).1 (omega (arith, x.new, x.least)));
        most = subst (λ (z : ℤ). sub_ℕ w' w ≤ℤ z) (sym (bill_change_lem own own' n (listing t)))
            ((sub_order w' w (charge own' n (listing t)) (charge own n (listing t))).1 (omega (arith, x.old, x.most)));
      }

  -- the case of one line: the change of either bill is its raise, times its count there
  pub cost_rise : {e d : ℕ} → Raised own own' e d → CostRise d (ls v).weight.0 (ls' v).weight.0 (count e (listing t)) (count e (listing t'))
  cost_rise {e} {d} r =
      let w = (ls v).weight.0 in
      let w' = (ls' v).weight.0 in
      let new = d * count e (listing t') in
      let old = d * count e (listing t) in
      let least : pos new ≤ℤ sub_ℕ w' w = subst (λ (z : ℤ). z ≤ℤ sub_ℕ w' w) (raised_change r (listing_below t')) cost_change.least in
      let most : sub_ℕ w' w ≤ℤ pos old = subst (λ (z : ℤ). sub_ℕ w' w ≤ℤ z) (raised_change r (listing_below t)) cost_change.most in
      record {
        least = omega (arith, (above_number new w' w).0 least);
        most = omega (arith, (below_number w' w old).0 most);
      }

-- a worse own figure makes no weight better
module _ {A : Algebra} (L : Lawful A) {H : Hypergraph} (own own' : ℕ → ℕ) (worse : (e : ℕ) → NoWorse A.leq (own e) (own' e)) where
  mutual
    unfolding weight

    weight_mono : {v : ℕ} (t : Derivation H v) → NoWorse A.leq (weight A own t) (weight A own' t)
    weight_mono (node e s h ds) = weigh_mono L (worse e) (weights_mono ds)

    weights_mono : {vs : List ℕ} (ds : Derivations H vs) → Pointwise A (weights A own ds) (weights A own' ds)
    weights_mono none = Pointwise.none
    weights_mono (more d ds) = Pointwise.more (weight_mono d) (weights_mono ds)

  pub label_mono : {ls ls' : ℕ → Label} → Fixpoint A H own ls → Fixpoint A H own' ls' → (v : ℕ) → Made (ls' v) → NoWorse A.leq (ls v).weight.0 (ls' v).weight.0
  label_mono fix fix' v a =
      let t = chosen L fix' v a in
      L.ordered.transitive (bound L fix t.tree).low (L.ordered.transitive (weight_mono t.tree) (no_worse_eq L (supports L fix' t.tree t.follows).weighs))

-- a figure in days is the exact one, capped
pub days-total : {H : Hypergraph} (own : ℕ → ℕ) {v : ℕ} (t : Derivation H v) → weight days own t ≡ capped (weight long_days own t)
days-total {H} own t = weight_capped days_weighs H own t

-- and so the greatest that the own figures along a path come to, capped
pub days_along : {H : Hypergraph} (own : ℕ → ℕ) {v : ℕ} (t : Derivation H v) → Greatest (λ es. capped (total own es)) t (weight days own t)
days_along own t =
    let p = days_path own t in
    let e = days-total own t in
    record { lines = p.lines; path = p.path; reached = omega (arith, p.reached, e); most = λ es q. omega (arith, p.most es q, e) }

times_once : (d k : ℕ) → k ≤ 1 → d * k ≤ d
times_once d k h = go (ℕ_discrete k 0)
  where
    go : Dec (k ≡ 0) → d * k ≤ d
    go (yes z) = omega (arith, ap (λ (x : ℕ). d * x) z ∙ mul-zero d)
    go (no n) = let z : k ≡ 1 = omega arith in omega (arith, ap (λ (x : ℕ). d * x) z ∙ mul-one d)

module _ {H : Hypergraph} {own own' : ℕ → ℕ} {e d : ℕ} (r : Raised own own' e d) where
  -- in days a make-up rises along each path by d for each time that the line stands there: at most once in a chosen one
  days_most : {ls : ℕ → Label} → Fixpoint days H own ls → {v : ℕ} (t : Derivation H v) → Follows ls t → weight long_days own' t ≤ weight long_days own t + d
  days_most fix t f =
      let p = days_path own' t in
      let c = line-once days_lawful fix t f p.lines p.path e in
      omega (arith, p.reached, (days_path own t).most p.lines p.path, raised_total r p.lines, times_once d (count e p.lines) c)

  pub days_rise : {ls ls' : ℕ → Label} → Fixpoint days H own ls → Fixpoint days H own' ls' → (v : ℕ) → MadeWithin (ls v) → MadeWithin (ls' v)
      → DaysRise d (ls v).weight.0 (ls' v).weight.0
  days_rise {ls} {ls'} fix fix' v a a' =
      let t = chosen days_lawful fix v a.made in
      let s = (supports days_lawful fix t.tree t.follows).weighs in
      let b = (bound days_lawful fix' t.tree).low in
      record {
        least = at_most (label_mono days_lawful own own' (λ x. least (raised_more r x)) fix fix' v a'.made);
        most = omega (arith, a.low, s, at_most b, days_most fix t.tree t.follows, days-total own t.tree, days-total own' t.tree);
      }

-- where joining and finishing rise by at most d when what they take does, so does every make-up
record Slow (A : Algebra) (d : ℕ) : Type 0 where
  pub joins : (a a' b b' : ℕ) → a' ≤ a + d → b' ≤ b + d → A.join a' b' ≤ A.join a b + d
  pub finishes : (a a' b b' : ℕ) → a' ≤ a + d → b' ≤ b + d → A.finish a' b' ≤ A.finish a b + d

module _ {A : Algebra} {d : ℕ} (slow : Slow A d) {H : Hypergraph} (own own' : ℕ → ℕ) (most : (x : ℕ) → own' x ≤ own x + d) where
  mutual
    unfolding weight weigh fold

    weight_slow : {v : ℕ} (t : Derivation H v) → weight A own' t ≤ weight A own t + d
    weight_slow (node e s h ds) = slow.finishes (own e) (own' e) _ _ (most e) (fold_slow A.unit A.unit (omega arith) ds)

    fold_slow : (a a' : ℕ) → a' ≤ a + d → {vs : List ℕ} (ds : Derivations H vs) → fold A.join a' (weights A own' ds) ≤ fold A.join a (weights A own ds) + d
    fold_slow a a' h none = h
    fold_slow a a' h (more t ds) = fold_slow _ _ (slow.joins a a' (weight A own t) (weight A own' t) h (weight_slow t)) ds

grade_slow : (d : ℕ) → Slow grade d
grade_slow d = record { joins = λ a a' b b' p q. omega arith; finishes = λ a a' b b' p q. omega arith }

-- in grade a raise makes no part worse, and the new chosen make-up, weighed with the old figures, is at most d below
pub grade_rise : {H : Hypergraph} {own own' : ℕ → ℕ} {e d : ℕ} → Raised own own' e d → {ls ls' : ℕ → Label} → Fixpoint grade H own ls → Fixpoint grade H own' ls'
    → (v : ℕ) → Made (ls v) → DaysRise d (ls v).weight.0 (ls' v).weight.0
grade_rise {H} {own} {own'} {e} {d} r {ls} {ls'} fix fix' v a =
    let t = chosen grade_lawful fix' v (same_made grade_lawful fix fix' v a) in
    let b = (bound grade_lawful fix t.tree).low in
    let s = (supports grade_lawful fix' t.tree t.follows).weighs in
    record {
      least = at_most (unturn (label_mono grade_lawful own' own (λ x. turn (least (raised_more r x))) fix' fix v a));
      most = omega (arith, at_most (unturn b), weight_slow (grade_slow d) own own' (raised_most r) t.tree, s);
    }
