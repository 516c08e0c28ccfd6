-- The annotated Datalog program that a table is (document 000, before Definition 5): each line is a rule, from its own figure and the parts that it lists. The
-- paper's "There, facts carry the weight; here a line's own figure stands for one more fact that only this line uses". And that the program's trees are the
-- derivations, with the own figures along the listing at their leaves. Assumes nothing.
use mathlib.Core.Path.{◌≡◌, refl, sym, ◌∙◌, ap, ap₂, subst}
use mathlib.Core.List.{List, [], ◌∷◌, ◌++◌, map, map-append}
use Prim.Native.Nat.{ℕ}
use native.Mathlib.Omega.{arith}
use Rattle.semiring.specs.Datalog.{Proof, Proofs, fact, rule, leaves, all-leaves}
use Rattle.provenance.specs.Hypergraph.{Hypergraph, Stands, Derivation, Derivations, node, none, more, listing, listings}
use Rattle.provenance.specs.Semirings.{Valuation}
use Rattle.provenance.specs.Program.{Atom, part, figure, Fact, program}

part_injective : {v w : ℕ} → part v ≡ part w → v ≡ w
part_injective p = cc

figure_injective : {e f : ℕ} → figure e ≡ figure f → e ≡ f
figure_injective p = cc

figure-not-part : {e v : ℕ} → figure e ≡ part v → ⊥
figure-not-part p = let z : ◌≡◌ {A = ℕ} 0 1 = cc in omega arith

head_same : {t t' : Atom} {ts ts' : List Atom} → t ∷ ts ≡ t' ∷ ts' → t ≡ t'
head_same p = cc

tail_same : {t t' : Atom} {ts ts' : List Atom} → t ∷ ts ≡ t' ∷ ts' → ts ≡ ts'
tail_same p = cc

not_empty : {t : Atom} {ts : List Atom} → [] ≡ t ∷ ts → ⊥
not_empty p = let z : ◌≡◌ {A = ℕ} 0 1 = cc in omega arith

module _ (U : Valuation) (H : Hypergraph) (own : ℕ → ℕ) where
  -- the annotations of the leaves, and the own weights of a listing
  abbrev Annotations : List (Fact H) → List U.semiring.Carrier
  Annotations fs = map (λ (f : Fact H). U.element (own f.edge)) fs

  abbrev pub Owns : List ℕ → List U.semiring.Carrier
  Owns es = map (λ (e : ℕ). U.element (own e)) es

  both : (fs gs : List (Fact H)) (es es' : List ℕ) → Annotations fs ≡ Owns es → Annotations gs ≡ Owns es' → Annotations (fs ++ gs) ≡ Owns (es ++ es')
  both fs gs es es' p q = map-append _ fs gs ∙ ap₂ ◌++◌ p q ∙ sym (map-append _ es es')

  -- a derivation as a tree of the program, with the listing's own weights at its leaves
  pub record Drawn {v : ℕ} (d : Derivation H v) : Type 0 where
    pub tree : Proof (program U H own) (part v)
    pub same : Annotations (leaves tree) ≡ Owns (listing d)

  record AllDrawn {vs : List ℕ} (ds : Derivations H vs) : Type 0 where
    trees : Proofs (program U H own) (map part vs)
    same : Annotations (all-leaves trees) ≡ Owns (listings ds)

  draw_node : {v : ℕ} (e : ℕ) (s : Stands H e) (h : H.head e ≡ v) (ds : Derivations H (H.tail e)) → AllDrawn ds → Drawn (node {v = v} e s h ds)
  unfolding leaves listing
  draw_node e s h ds a = record {
    tree = rule (record { edge = e; numbered = s.numbered }) (ap part h) (Proofs.more (fact (record { edge = e; stands = s }) refl) a.trees);
    same = ap (λ (xs : List U.semiring.Carrier). U.element (own e) ∷ xs) a.same;
  }

  mutual
    unfolding leaves listing

    pub draw : {v : ℕ} (d : Derivation H v) → Drawn d
    draw (node e s h ds) = draw_node e s h ds (draw_all ds)

    draw_all : {vs : List ℕ} (ds : Derivations H vs) → AllDrawn ds
    draw_all none = record { trees = Proofs.none; same = refl }
    draw_all (more d ds) =
        let t = draw d in
        let ts = draw_all ds in
        record { trees = Proofs.more t.tree ts.trees; same = both (leaves t.tree) (all-leaves ts.trees) (listing d) (listings ds) t.same ts.same }

  -- a tree of the program as a derivation, with its leaves' annotations along the listing
  pub record Read (v : ℕ) (fs : List (Fact H)) : Type 0 where
    pub derivation : Derivation H v
    pub same : Annotations fs ≡ Owns (listing derivation)

  record AllRead (vs : List ℕ) (fs : List (Fact H)) : Type 0 where
    derivations : Derivations H vs
    same : Annotations fs ≡ Owns (listings derivations)

  -- the tree of a line's own figure, and those of its whole body
  record Figure (e : ℕ) (fs : List (Fact H)) : Type 0 where
    stands : Stands H e
    same : Annotations fs ≡ Owns (e ∷ [])

  record Body (e : ℕ) (fs : List (Fact H)) : Type 0 where
    stands : Stands H e
    derivations : Derivations H (H.tail e)
    same : Annotations fs ≡ Owns (e ∷ listings derivations)

  read-rule : {v : ℕ} (e : ℕ) (fs : List (Fact H)) → H.head e ≡ v → Body e fs → Read v fs
  unfolding listing
  read-rule e fs h b = record { derivation = node e b.stands h b.derivations; same = b.same }

  read-fact : (f : Fact H) (e : ℕ) → f.edge ≡ e → Figure e (f ∷ [])
  read-fact f e p = record { stands = subst (Stands H) p f.stands; same = ap (λ (x : ℕ). U.element (own x) ∷ []) p }

  mutual
    unfolding leaves listing

    pub read : {t : Atom} (τ : Proof (program U H own) t) (v : ℕ) → t ≡ part v → Read v (leaves τ)
    read (rule r h τs) v p = read-rule r.edge (all-leaves τs) (part_injective (h ∙ p)) (read_body τs r.edge refl)
    read (fact f h) v p = absurd (figure-not-part (h ∙ p))

    read-figure : {t : Atom} (τ : Proof (program U H own) t) (e : ℕ) → t ≡ figure e → Figure e (leaves τ)
    read-figure (rule r h τs) e p = absurd (figure-not-part (sym (h ∙ p)))
    read-figure (fact f h) e p = read-fact f e (figure_injective (h ∙ p))

    read_body : {ts : List Atom} (τs : Proofs (program U H own) ts) (e : ℕ) → ts ≡ figure e ∷ map part (H.tail e) → Body e (all-leaves τs)
    read_body Proofs.none e p = absurd (not_empty p)
    read_body (Proofs.more τ τs) e p =
        let a = read-figure τ e (head_same p) in
        let b = read-tail τs (H.tail e) (tail_same p) in
        record { stands = a.stands; derivations = b.derivations; same = both (leaves τ) (all-leaves τs) (e ∷ []) (listings b.derivations) a.same b.same }

    read-tail : {ts : List Atom} (τs : Proofs (program U H own) ts) (vs : List ℕ) → ts ≡ map part vs → AllRead vs (all-leaves τs)
    read-tail Proofs.none [] p = record { derivations = none; same = refl }
    read-tail Proofs.none (v ∷ vs) p = absurd (not_empty p)
    read-tail (Proofs.more τ τs) [] p = absurd (not_empty (sym p))
    read-tail (Proofs.more τ τs) (v ∷ vs) p =
        let a = read τ v (head_same p) in
        let b = read-tail τs vs (tail_same p) in
        record { derivations = more a.derivation b.derivations; same = both (leaves τ) (all-leaves τs) (listing a.derivation) (listings b.derivations) a.same b.same }
