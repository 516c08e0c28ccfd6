-- What a turn finds and leaves: the least key tells what is next, and after its head is labelled what waited for it is still to be looked at. Assumes nothing.
use mathlib.Core.Path.{◌≡◌, refl, sym, ◌∙◌, ap, subst}
use mathlib.Core.Logic.{◌≢◌}
use mathlib.Core.List.{List}
use Prim.Native.Nat.{ℕ, ◌*◌, ◌+◌, ◌≤◌, ◌<◌}
use native.Mathlib.Omega.{arith}
use native.Mathlib.Decide.{ℕ_discrete}
use lib.ListN.{length, set, length-set}
use lib.Seq.{get_or-set_same, get_or-set_other}
use Rattle.weights.specs.declared.Measure.{Measure}
use Rattle.weights.specs.declared.Label.{Label}
use Rattle.weights.specs.Measures.{Algebra, algebra}
use Rattle.weights.proofs.Laws.{lawful}
use Rattle.provenance.specs.Hypergraph.{Hypergraph}
use Rattle.provenance.specs.Labelling.{greatest_depth, candidate}
use Rattle.columns.specs.Columns.{Answers, Columns, cell}
use Rattle.provenance.specs.BestFirst.{labels, put, place, next, turn}
use Rattle.provenance.proofs.BestFirst.{Next, next_is}
use Rattle.provenance.proofs.Existence.{greatest_at_most}
use Rattle.tables.specs.Table.{hypergraph}
use Rattle.columns.specs.Acceptance.{acceptance}
use Rattle.columns.proofs.Accepted.{table_accepted}
use Rattle.columns.proofs.Usable.{same_table}
use Rattle.minima.specs.Minima.{none, leaves, least_key, Grouped, raised}
use Rattle.queue.specs.Keys.{heavy, unpacked, Fitting, key_of}
use Rattle.queue.proofs.Laws.{least_next, fitting_next, told_nothing, told_found}
use Rattle.waiting.specs.Lines.{Lines, room_of, Offerable, Waking, Woken, Rested}
use Rattle.bestfirst.specs.Turns.{Placeable, Waits, Underway}
use Rattle.waiting.proofs.Steps.{head_key, edge_fits_lem, found_fits}
use Rattle.waiting.proofs.Queueing.{queued, woken, woken_chain, relabelled, woken_raisable, key_out}
use Rattle.weights.specs.Offers.{Offer}
use Rattle.std.specs.Prelude.{Ok, Some}

-- what is found is the candidate of a hyperedge of the table, whose head is unmade
pub record Told (H : Hypergraph) (d : ℕ → ℕ) (k : ℕ) (l : Label) : Type 0 where
  pub numbered : l.edge.0 < H.edges
  pub fresh : d (H.head l.edge.0) ≡ 0
  pub deep : 0 < l.depth
  pub shallow : l.depth ≤ k + 1

told_next : {A : Algebra} {H : Hypergraph} {own : ℕ → ℕ} (a : Answers) {j k : ℕ} {o : Offer} {l : Label} → ((v : ℕ) → cell a.depths v ≤ k)
    → Next A H own (labels a) j o → Some l ≡ o → Told H (cell a.depths) k l
told_next a f (Next.stuck n) p = absurd (let z : ◌≡◌ {A = ℕ} 0 1 = cc in omega arith)
told_next {A} {H} {own} a {k = k} {l = l} f (Next.found e o b) p =
    let q : l ≡ candidate A H own (labels a) e = cc in
    let e' : l.edge.0 ≡ e = ap (λ (x : Label). x.edge.0) q in
    let d : l.depth ≡ greatest_depth (cell a.depths) (H.tail e) + 1 = ap (λ (x : Label). x.depth) q in
    record {
      numbered = omega (arith, e', o.ready.stands.numbered);
      fresh = ap (λ (x : ℕ). cell a.depths (H.head x)) e' ∙ o.fresh;
      deep = omega arith;
      shallow = omega (arith, greatest_at_most (cell a.depths) k f (H.tail e));
    }

module _ {m : Measure} {c : Columns} {a : Answers} {s : Lines} {q : List ℕ} (u : Underway m c a s q) where
  abbrev own : ℕ → ℕ
  own = cell c.own

  abbrev H : Hypergraph
  H = hypergraph c

  abbrev w : ℕ → ℕ
  w = cell a.weights

  abbrev d : ℕ → ℕ
  d = cell a.depths

  abbrev pub here : Offer
  here = next (algebra m) H own w d H.edges

  pub offerable : Offerable c a.weights a.depths q
  offerable = record {
    usable = u.turning.usable;
    fitted = record { weight = u.waits.light; depth = λ v. omega (arith, u.turning.usable.shallow v) };
    grouped = u.waits.rested.waiting.grouped;
    sized = u.waits.rested.waiting.sized;
  }

  fitting : Fitting here
  fitting = fitting_next m H own w d (λ e h. edge_fits_lem offerable e h m) H.edges (omega arith)

  key_is : least_key q ≡ key_of m here
  key_is =
      least_next m H own w d (λ e h. edge_fits_lem offerable e h m) q (λ e h. omega (arith, head_key offerable e h, offerable.sized))
      (queued m c w d u.waits.rested.waiting u.waits.rested.taken)

  pub stuck : (k : ℕ) → k ≡ least_key q → k ≡ none → a ≡ turn (algebra m) H own a
  unfolding turn
  stuck k p z = ap (place (algebra m) H own a) (told_nothing m k fitting (p ∙ key_is) z)

  pub found : {l : Label} (k : ℕ) → k ≡ least_key q → k ≢ none → l ≡ unpacked m k → Some l ≡ here
  found k p n e = ap Some e ∙ told_found m k fitting (p ∙ key_is) n

  module _ {l : Label} (f : Some l ≡ here) where
    turned : put a (H.head l.edge.0) l ≡ turn (algebra m) H own a
    unfolding turn
    turned = ap (place (algebra m) H own a) f

    told : Told H d u.taken l
    told = told_next a u.shallow (next_is (algebra m) H own (labels a) (lawful m) H.edges (omega arith)) f

    abbrev v : ℕ
    v = H.head l.edge.0

    head_below : v < c.vertices
    head_below = ((table_accepted c u.turning.usable.accepted).each l.edge.0 told.numbered).1.head

    few : v < (room_of c).vertices
    few = head_key offerable l.edge.0 told.numbered

    pub placeable : Placeable l c.heads a
    placeable = record {
      numbered = told.numbered;
      weights = omega (arith, head_below, u.turning.usable.vertices, u.turning.usable.level);
      depths = omega (arith, head_below, u.turning.usable.vertices);
      edges = omega (arith, head_below, u.turning.usable.vertices, u.turning.edges);
    }

    abbrev ws : List ℕ
    ws = set a.weights v l.weight.0

    abbrev ds : List ℕ
    ds = set a.depths v l.depth

    shallow : (x : ℕ) → cell ds x ≤ u.taken + 1
    shallow x = go (ℕ_discrete x v)
      where
        go : Dec (x ≡ v) → cell ds x ≤ u.taken + 1
        go (yes e) = omega (arith, ap (cell ds) e, get_or-set_same a.depths v l.depth 0 placeable.depths, told.shallow)
        go (no n) = omega (arith, get_or-set_other a.depths v x l.depth 0 n, u.shallow x)

    light : (x : ℕ) → cell ws x < heavy
    light x = go (ℕ_discrete x v)
      where
        go : Dec (x ≡ v) → cell ws x < heavy
        go (yes e) = omega (arith, ap (cell ws) e, get_or-set_same a.weights v l.weight.0 0 placeable.weights, (found_fits fitting f).weight)
        go (no n) = omega (arith, get_or-set_other a.weights v x l.weight.0 0 n, u.waits.light x)

    low : u.taken + 1 ≤ 1024
    low = omega (arith, u.more, (table_accepted c u.turning.usable.accepted).few)

    -- the columns with the label have as many places
    same_vertices : c.vertices ≡ length ds
    same_vertices = sym u.turning.usable.vertices ∙ sym (length-set a.depths v l.depth)

    offerable_after : (q' : List ℕ) → Grouped q' → length q' ≡ 2 * (room_of c).vertices → Offerable (same_table c (length ds)) ws ds q'
    offerable_after q' g z = record {
      usable = record {
        accepted = subst (λ (n : ℕ). acceptance (same_table c n) ≡ Ok tt) same_vertices u.turning.usable.accepted;
        level = length-set a.weights v l.weight.0 ∙ u.turning.usable.level ∙ sym (length-set a.depths v l.depth);
        vertices = refl;
        shallow = λ x. omega (arith, shallow x, low);
      };
      fitted = record { weight = light; depth = λ x. omega (arith, shallow x, low) };
      grouped = g;
      sized = subst (λ (n : ℕ). length q' ≡ 2 * (room_of (same_table c n)).vertices) same_vertices z;
    }

    weights_same : (x : ℕ) → x ≢ v → cell ws x ≡ w x
    weights_same x n = get_or-set_other a.weights v x l.weight.0 0 n

    depths_same : (x : ℕ) → x ≢ v → cell ds x ≡ d x
    depths_same x n = get_or-set_other a.depths v x l.depth 0 n

    made : cell ds v ≢ 0
    made z = omega (arith, get_or-set_same a.depths v l.depth 0 placeable.depths, told.deep)

    -- what waited for the new vertex is still to be looked at
    waking : Waking m c ws ds s q v (cell s.first v)
    waking = record {
      sizes = u.waits.rested.sizes;
      made = made;
      left = woken m c w d (cell ws) (cell ds) v weights_same depths_same told.fresh made head_below u.waits.rested.waiting;
      chain = woken_chain m c w d (cell ws) (cell ds) v weights_same depths_same told.fresh made head_below u.waits.rested.waiting;
      waiting = relabelled m c w d (cell ws) (cell ds) v weights_same depths_same told.fresh made head_below u.waits.rested.waiting;
      taken = λ x l n k. u.waits.rested.taken x l (λ z. n (depths_same x k ∙ z));
    }

    -- the same from the columns in which the label was stored, and the vertex that got it
    module _ {b : Answers} {x : ℕ} (p : b ≡ put a v l) (h : x ≡ v) where
      pub stored_turn : b ≡ turn (algebra m) H own a
      stored_turn = p ∙ turned

      abbrev table : Columns
      table = same_table c (length b.depths)

      same_table_again : length b.depths ≡ c.vertices
      same_table_again = ap (λ (z : Answers). length z.depths) p ∙ sym same_vertices

      pub waking_after : Offerable table b.weights b.depths q × ((x < length b.depths) × Waking m table b.weights b.depths s q x (cell s.first x))
      waking_after = (
        subst (λ (z : Answers). Offerable (same_table c (length z.depths)) z.weights z.depths q) (sym p) (offerable_after q offerable.grouped offerable.sized),
        (
          omega (arith, same_table_again, head_below),
          subst (λ (z : Answers). Waking m (same_table c (length z.depths)) z.weights z.depths s q x (cell s.first x)) (sym p)
              (subst (λ (z : ℕ). Waking m (same_table c (length ds)) ws ds s q z (cell s.first z)) (sym h)
              (subst (λ (n : ℕ). Waking m (same_table c n) ws ds s q v (cell s.first v)) same_vertices waking)),
        ),
      )

      -- what is left, when what waited has gone on
      module _ {s' : Lines} {q' : List ℕ} (r : Woken m table b.weights b.depths s' q' x) where
        woken_here : Woken m c b.weights b.depths s' q' x
        woken_here = subst (λ (n : ℕ). Woken m (same_table c n) b.weights b.depths s' q' x) same_table_again r

        few_here : x < (room_of c).vertices
        few_here = omega (arith, few)

        pub raisable : (Grouped q') × (x < leaves q')
        raisable = woken_raisable (head_key offerable) few_here woken_here

        pub waits_after : {q'' : List ℕ} → q'' ≡ raised q' x → Waits m c b.weights b.depths s' q''
        waits_after e = record {
          light = λ y. omega (arith, ap (λ (z : Answers). cell z.weights y) p, light y);
          rested = subst (λ (z : List ℕ). Rested m c b.weights b.depths s' z) (sym e) (key_out (head_key offerable) few_here woken_here);
        }
