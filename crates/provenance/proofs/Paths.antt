-- Downward paths of a make-up. At a fixpoint a line stands at most once on any downward path of a chosen make-up, since each node further down has a vertex of
-- lesser depth, and a line has one head. And the days of a make-up, without the ceiling, are the greatest sum along a path. Assumes nothing.
use mathlib.Core.Path.{◌≡◌, refl, sym, ◌∙◌, ap}
use mathlib.Core.Logic.{◌⊎◌, inl, inr}
use mathlib.Core.List.{List, [], ◌∷◌}
use Prim.Native.Nat.{ℕ, ◌+◌, ◌≤◌, ◌<◌, max}
use native.Mathlib.Omega.{arith}
use native.Mathlib.Decide.{ℕ_discrete, dec_le}
use Rattle.weights.specs.declared.Label.{Label}
use Rattle.weights.specs.Measures.{Algebra, fold, weigh}
use Rattle.weights.specs.Laws.{Lawful}
use Rattle.provenance.specs.Hypergraph.{Hypergraph, Stands, Derivation, Derivations, node, none, more, weight, weights, depth}
use Rattle.provenance.specs.Hypergraph
use Rattle.provenance.specs.Labelling.{greatest_depth as greatest_of, Fixpoint}
use Rattle.provenance.specs.Means.{Follows, AllFollow}
use Rattle.provenance.proofs.Support.{supports}
use Rattle.provenance.specs.Semirings.{long_days}
use Rattle.provenance.specs.Counting.{count, once, total}
use Rattle.provenance.proofs.Counting.{once_same, once_other}
use Rattle.provenance.specs.Paths.{Begins, Ends, Path, Onward, Greatest}

-- A line stands at most once on a path -----------------------------------------------------------------------------------------------------------

-- the head of each line of a list is at most n deep
data Shallow (H : Hypergraph) (ls : ℕ → Label) (n : ℕ) : List ℕ → Type 0 where
  blank : Shallow H ls n []
  line : {x : ℕ} {xs : List ℕ} → (ls (H.head x)).depth ≤ n → Shallow H ls n xs → Shallow H ls n (x ∷ xs)

module _ {H : Hypergraph} {ls : ℕ → Label} where
  wider : {m n : ℕ} {xs : List ℕ} → m ≤ n → Shallow H ls m xs → Shallow H ls n xs
  wider h Shallow.blank = Shallow.blank
  wider {m} {n} h (Shallow.line {x = x} l s) = Shallow.line {x = x} (omega arith) (wider h s)

  -- a line whose head is deeper stands nowhere in it
  absent : {n : ℕ} {xs : List ℕ} (e : ℕ) → n < (ls (H.head e)).depth → Shallow H ls n xs → count e xs ≡ 0
  unfolding count
  absent e h Shallow.blank = refl
  absent {n} e h (Shallow.line {x = x} {xs = xs} l s) = go (ℕ_discrete x e) (absent e h s)
    where
      go : Dec (x ≡ e) → count e xs ≡ 0 → once e x + count e xs ≡ 0
      go (yes q) r = absurd (omega (arith, ap (λ (y : ℕ). (ls (H.head y)).depth) q))
      go (no k) r = omega (arith, once_other {e = e} {x = x} k)

  ended : {n : ℕ} (es : List ℕ) → Ends es → Shallow H ls n es
  ended [] p = Shallow.blank
  ended (x ∷ xs) p = absurd p

  begun : {n : ℕ} (k e : ℕ) (P : List ℕ → Type 0) (es : List ℕ) → Begins e P es
      → (ls (H.head e)).depth ≤ n → k ≤ n → ((xs : List ℕ) → P xs → Shallow H ls k xs) → Shallow H ls n es
  begun k e P [] p h l f = absurd p
  begun k e P (x ∷ xs) p h l f = Shallow.line {x = x} (omega (arith, ap (λ (y : ℕ). (ls (H.head y)).depth) p.0)) (wider l (f xs p.1))

  either : {P Q : Type 0} {j k n : ℕ} {es : List ℕ} → j ≤ n → k ≤ n → P ⊎ Q → (P → Shallow H ls j es) → (Q → Shallow H ls k es) → Shallow H ls n es
  either h l (inl p) f g = wider h (f p)
  either h l (inr q) f g = wider l (g q)

  -- the head of the first line is deeper than those of the rest, where it stands no more
  first_once : (k e : ℕ) (P : List ℕ → Type 0) (es : List ℕ) → Begins e P es → k < (ls (H.head e)).depth → ((xs : List ℕ) → P xs → Shallow H ls k xs)
      → (f : ℕ) → ((xs : List ℕ) → P xs → count f xs ≤ 1) → count f es ≤ 1
  unfolding count
  first_once k e P [] p h s f r = absurd p
  first_once k e P (x ∷ xs) p h s f r = go (ℕ_discrete x f)
    where
      go : Dec (x ≡ f) → once f x + count f xs ≤ 1
      go (yes z) = omega (arith, once_same {e = f} {x = x} z, absent f (omega (arith, ap (λ (y : ℕ). (ls (H.head y)).depth) (sym z ∙ p.0))) (s xs p.1))
      go (no n) = omega (arith, once_other {e = f} {x = x} n, r xs p.1)

none-once : (es : List ℕ) → Ends es → (f : ℕ) → count f es ≤ 1
unfolding count
none-once [] p f = omega arith
none-once (x ∷ xs) p f = absurd p

either_once : {P Q : Type 0} {n : ℕ} → P ⊎ Q → (P → n ≤ 1) → (Q → n ≤ 1) → n ≤ 1
either_once (inl p) f g = f p
either_once (inr q) f g = g q

module _ {A : Algebra} {H : Hypergraph} {own : ℕ → ℕ} {ls : ℕ → Label} (L : Lawful A) (fix : Fixpoint A H own ls) where
  -- the head of a chosen line is as deep as its make-up
  root_deep : {v : ℕ} (e : ℕ) (s : Stands H e) (h : H.head e ≡ v) (ds : Derivations H (H.tail e)) → Follows ls (node {v = v} e s h ds)
      → (ls (H.head e)).depth ≡ Hypergraph.deepest ds + 1
  unfolding depth
  root_deep {v} e s h ds f = ap (λ (u : ℕ). (ls u).depth) h ∙ sym (supports L fix (node {v = v} e s h ds) f).deep

  mutual
    unfolding Path Follows depth Hypergraph.deepest

    path_shallow : {v : ℕ} (d : Derivation H v) → Follows ls d → (es : List ℕ) → Path d es → Shallow H ls (depth d) es
    path_shallow (node e s h ds) f es p =
        begun (Hypergraph.deepest ds) e (λ xs. Onward ds xs) es p (omega (arith, root_deep e s h ds f)) (omega arith) (λ xs q. onward_shallow ds f.1 xs q)

    onward_shallow : {vs : List ℕ} (ds : Derivations H vs) → AllFollow ls ds → (es : List ℕ) → Onward ds es → Shallow H ls (Hypergraph.deepest ds) es
    onward_shallow none f es p = ended es p
    onward_shallow (more d ds) f es p = either (omega arith) (omega arith) p (λ q. path_shallow d f.0 es q) (λ q. onward_shallow ds f.1 es q)

  mutual
    unfolding Path Follows

    path_once : {v : ℕ} (t : Derivation H v) → Follows ls t → (es : List ℕ) → Path t es → (e : ℕ) → count e es ≤ 1
    path_once (node e s h ds) f es p k =
        first_once (Hypergraph.deepest ds) e (λ xs. Onward ds xs) es p (omega (arith, root_deep e s h ds f)) (λ xs q. onward_shallow ds f.1 xs q)
        k (λ xs q. onward_once ds f.1 xs q k)

    onward_once : {vs : List ℕ} (ds : Derivations H vs) → AllFollow ls ds → (es : List ℕ) → Onward ds es → (e : ℕ) → count e es ≤ 1
    onward_once none f es p k = none-once es p k
    onward_once (more d ds) f es p k = either_once p (λ q. path_once d f.0 es q k) (λ q. onward_once ds f.1 es q k)

  -- a line stands at most once on any downward path of a chosen make-up, whatever its figure
  pub line-once : {v : ℕ} (t : Derivation H v) → Follows ls t → (es : List ℕ) → Path t es → (e : ℕ) → count e es ≤ 1
  line-once t f es p e = path_once t f es p e

-- The greatest sum along a path ------------------------------------------------------------------------------------------------------------------

pub fold_greatest : (a : ℕ) (xs : List ℕ) → fold max a xs ≡ max a (greatest_of (λ x. x) xs)
unfolding fold greatest_of
fold_greatest a [] = omega arith
fold_greatest a (x ∷ xs) = omega (arith, fold_greatest (max a x) xs)

begun_most : (own : ℕ → ℕ) (e k : ℕ) (P : List ℕ → Type 0) (es : List ℕ) → Begins e P es → ((xs : List ℕ) → P xs → total own xs ≤ k) → total own es ≤ own e + k
unfolding total
begun_most own e k P [] p f = absurd p
begun_most own e k P (x ∷ xs) p f = omega (arith, ap own p.0, f xs p.1)

ended_most : (own : ℕ → ℕ) (es : List ℕ) → Ends es → total own es ≡ 0
unfolding total
ended_most own [] p = refl
ended_most own (x ∷ xs) p = absurd p

either_most : {P Q : Type 0} (n j k : ℕ) → P ⊎ Q → (P → n ≤ j) → (Q → n ≤ k) → n ≤ max j k
either_most n j k (inl p) f g = omega (arith, f p)
either_most n j k (inr q) f g = omega (arith, g q)

module _ {H : Hypergraph} (own : ℕ → ℕ) where
  mutual
    unfolding Path weight weigh greatest_of

    -- no path has a greater sum
    path_most : {v : ℕ} (d : Derivation H v) (es : List ℕ) → Path d es → total own es ≤ weight long_days own d
    path_most (node e s h ds) es p =
        let k = greatest_of (λ x. x) (weights long_days own ds) in
        omega (arith, begun_most own e k (λ xs. Onward ds xs) es p (λ xs q. onward_most ds xs q), fold_greatest 0 (weights long_days own ds))

    onward_most : {vs : List ℕ} (ds : Derivations H vs) (es : List ℕ) → Onward ds es → total own es ≤ greatest_of (λ x. x) (weights long_days own ds)
    onward_most none es p = omega (arith, ended_most own es p)
    onward_most (more d ds) es p = either_most _ _ _ p (λ q. path_most d es q) (λ q. onward_most ds es q)

  -- and one has this
  record Reached {v : ℕ} (d : Derivation H v) : Type 0 where
    lines : List ℕ
    path : Path d lines
    sums : total own lines ≡ weight long_days own d

  record ReachedOn {vs : List ℕ} (ds : Derivations H vs) : Type 0 where
    lines : List ℕ
    path : Onward ds lines
    sums : total own lines ≡ greatest_of (λ x. x) (weights long_days own ds)

  node_reached : {v : ℕ} (e : ℕ) (s : Stands H e) (h : H.head e ≡ v) (ds : Derivations H (H.tail e)) → ReachedOn ds → Reached (node {v = v} e s h ds)
  unfolding Path weight weigh total
  node_reached e s h ds o = record { lines = e ∷ o.lines; path = (refl, o.path); sums = omega (arith, o.sums, fold_greatest 0 (weights long_days own ds)) }

  none_reached : ReachedOn none
  unfolding Path weight greatest_of total
  none_reached = record { lines = []; path = tt; sums = refl }

  more_reached : {v : ℕ} {vs : List ℕ} (d : Derivation H v) (ds : Derivations H vs) → Reached d → ReachedOn ds → ReachedOn (more d ds)
  unfolding Path weight greatest_of
  more_reached d ds a b = go (dec_le (greatest_of (λ x. x) (weights long_days own ds)) (weight long_days own d))
    where
      go : Dec (greatest_of (λ x. x) (weights long_days own ds) ≤ weight long_days own d) → ReachedOn (more d ds)
      go (yes h) = record { lines = a.lines; path = inl a.path; sums = omega (arith, a.sums) }
      go (no n) = record { lines = b.lines; path = inr b.path; sums = omega (arith, b.sums) }

  mutual
    reach : {v : ℕ} (d : Derivation H v) → Reached d
    reach (node e s h ds) = node_reached e s h ds (reach_on ds)

    reach_on : {vs : List ℕ} (ds : Derivations H vs) → ReachedOn ds
    reach_on none = none_reached
    reach_on (more d ds) = more_reached d ds (reach d) (reach_on ds)

  -- the exact days of a make-up are the greatest sum of own figures along a path
  pub days_path : {v : ℕ} (t : Derivation H v) → Greatest (total own) t (weight long_days own t)
  days_path t = let r = reach t in record { lines = r.lines; path = r.path; reached = r.sums; most = path_most t }
