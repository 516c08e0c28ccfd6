-- Before the first turn: nothing waits at first, and one hyperedge after another waits or is offered. Assumes nothing.
use Prim.Native.Nat.{ℕ, ◌+◌, ◌*◌, ◌≤◌, ◌<◌}
use mathlib.Core.Path.{◌≡◌, refl, sym, ◌∙◌, ap, subst}
use mathlib.Core.Logic.{◌⊎◌, inl, inr, ◌≢◌}
use mathlib.Core.Bool.{true, false}
use mathlib.Core.List.Memᴰ
use mathlib.Core.List.{List, []}
use native.Mathlib.Omega.{arith}
use native.Mathlib.Decide.{ℕ_discrete}
use lib.ListN.{length, length-replicate, set}
use lib.Seq.{get_or-set_other, set-get_or}
use Rattle.weights.specs.declared.Measure.{Measure}
use Rattle.weights.proofs.Choice.{apart}
use Rattle.weights.specs.Labels.{label}
use Rattle.weights.specs.Figures.{is_struck_mark}
use Rattle.queue.specs.Queue.{offered}
use Rattle.weights.specs.Measures.{Algebra, algebra}
use Rattle.columns.specs.Columns.{Columns, head_at, own_at, strike_at, offset_at, length_at, tail_at, cell}
use Rattle.minima.specs.Minima.{none, key_in, Grouped}
use Rattle.minima.proofs.Laws.{no_keys, no_keys_grouped}
use Rattle.offers.specs.Passing.{Carried}
use Rattle.offers.proofs.Passing.{alone, carried_none}
use Rattle.waiting.specs.Lines.{Lines, lines, room_of, pushed, Linkable, Linked, Queueable, Untouched, Gone, ended, kept, Moved, stays, waits, Went, Offerable, Going, Starting, Rested, Empty}
use Rattle.waiting.proofs.Keeping.{pushed_sizes, went_stays, went_waits}
use Rattle.waiting.proofs.Steps.{room_power, enough, own_low, arriving, arrived, edge-room, head_key, tail_length, tail_at_lem, tail_below, edge_fits_lem, went_on, linkable, pushable}
use Rattle.waiting.proofs.Walking.{waiting_on}
use Rattle.std.specs.Prelude.{Some}

pub nothing-waits : {m : Measure} {c : Columns} {ws ds : List ℕ} {s : Lines} {q : List ℕ} → Empty m c ds s q → Starting m c ws ds s q 0
nothing-waits {c = c} x = record {
  sizes = x.sizes;
  unmade = x.unmade;
  untouched = λ e h l. x.untouched e l;
  waiting = record {
    lists = λ v. [];
    chained = λ v h z. ended (x.empty v h);
    covered = λ e h u z. kept (omega arith);
    apart = λ v e h z i b. Memᴰ.not-nil i;
    grouped = subst Grouped (sym x.nothing) (no_keys_grouped (room_of c).vertices (room_power c.vertices (length c.heads)));
    sized = ap length x.nothing ∙ length-replicate (2 * (room_of c).vertices) none;
    offers = λ u h z. inl (ap (λ (z : List ℕ). key_in z u) x.nothing ∙ no_keys (room_of c).vertices u h);
  };
}

-- the columns start with what a hyperedge has passed that waits for the first vertex of its tail, so the lists alone tell the two apart
linked_pushed : {A : Algebra} (s : Lines) (v e : ℕ) {first next : List ℕ} → Untouched A s e → Linked s.first s.next v e first next
    → lines first next s.at s.joined s.deepest ≡ pushed s v e 0 A.unit 0
linked_pushed s v e u l = λ i. record { first = l.first i; next = l.next i; at = same s.at u.at i; joined = same s.joined u.joined i; deepest = same s.deepest u.deepest i }
  where
    same : (xs : List ℕ) {x : ℕ} → cell xs e ≡ x → xs ≡ set xs e x
    same xs z = sym (set-get_or xs e 0) ∙ ap (set xs e) z

-- another hyperedge that waits stores nothing of it
pushed_untouched : {A : Algebra} (s : Lines) (v e i j g x : ℕ) → x ≢ e → Untouched A s x → Untouched A (pushed s v e i j g) x
pushed_untouched s v e i j g x n u = record {
  at = get_or-set_other s.at e x i 0 n ∙ u.at;
  joined = get_or-set_other s.joined e x j 0 n ∙ u.joined;
  deepest = get_or-set_other s.deepest e x g 0 n ∙ u.deepest;
}

next-or : (i x : ℕ) → i ≤ x → (x ≡ i) ⊎ (i + 1 ≤ x)
next-or i x h = go (ℕ_discrete x i)
  where
    go : Dec (x ≡ i) → (x ≡ i) ⊎ (i + 1 ≤ x)
    go (yes e) = inl e
    go (no n) = inr (omega arith)

module _ {m : Measure} {c : Columns} {ws ds : List ℕ} {s : Lines} {q : List ℕ} {i : ℕ} (x : Starting m c ws ds s q i) where
  -- a struck hyperedge is passed over
  pub struck_next : is_struck_mark (strike_at c i) ≡ true → Starting m c ws ds s q (i + 1)
  struck_next t = record {
    sizes = x.sizes;
    unmade = x.unmade;
    untouched = λ e h l. x.untouched e (omega arith) l;
    waiting = waiting_on (λ e h u b. go e u (next-or i e b)) (λ e b. omega arith) x.waiting;
  }
    where
      go : (e : ℕ) → is_struck_mark (strike_at c e) ≡ false → (e ≡ i) ⊎ (i + 1 ≤ e) → i + 1 ≤ e
      go e u (inl p) = apart (sym u ∙ ap (λ (z : ℕ). is_struck_mark (strike_at c z)) p ∙ t)
      go e u (inr h) = h

  -- any other goes on from the start of its tail
  module _ (o : Offerable c ws ds q) (h : i < length c.heads) (u : is_struck_mark (strike_at c i) ≡ false) where
    pub going : {j : ℕ} → j ≡ (algebra m).unit → Going m c ws ds s i 0 j 0
    going {j} p = record {
      sizes = x.sizes;
      numbered = h;
      unstruck = u;
      fresh = x.unmade (head_at c i);
      passed = subst (λ (z : ℕ). Carried (algebra m) (cell ws) (cell ds) (tail_at c i) 0 z 0) (sym p) (carried_none (algebra m) (cell ws) (cell ds) (tail_at c i));
    }

    -- nothing of the tail is passed, as no vertex is made
    pub gone_none : {j : ℕ} → j ≡ (algebra m).unit → Gone (algebra m) (cell ws) (cell ds) (tail_at c i) 0 j 0
    gone_none p = record { passed = (going p).passed; stopped = λ h. x.unmade (cell (tail_at c i) 0) }

    pub tail_first : length_at c i ≢ 0 → (0 < length (tail_at c i)) × (cell (tail_at c i) 0 ≡ cell c.tails (offset_at c i))
    tail_first n =
        let z : offset_at c i + 0 ≡ offset_at c i = omega arith in
        (omega (arith, tail_length o i h), tail_at_lem o i h 0 (omega arith) ∙ ap (cell c.tails) z)

    -- so it waits for the first vertex of its tail, and nothing is to be stored of what it passed
    pub first_linkable : length_at c i ≢ 0 → Linkable s.first s.next (cell c.tails (offset_at c i)) i
    first_linkable n = linkable (pushable o (going refl) (cell c.tails (offset_at c i)) 0 (algebra m).unit 0 (gone_none refl) (tail_first n).0 (tail_first n).1)

    pub first-waits : {first next : List ℕ} → length_at c i ≢ 0 → Linked s.first s.next (cell c.tails (offset_at c i)) i first next
        → Went m c (cell ws) (cell ds) i s (lines first next s.at s.joined s.deepest) q q
    first-waits n y =
        let v = cell c.tails (offset_at c i) in
        went_on m c (cell ws) (cell ds) i q v 0 (algebra m).unit 0 (gone_none refl) (tail_first n).0 (tail_first n).1 (linked_pushed s v i (x.untouched i (omega arith) h) y)

    -- with no vertex listed it is past the end of its tail, and offers its own weight
    module _ (n : length_at c i ≡ 0) where
      past : length (tail_at c i) ≤ 0
      past = omega (arith, tail_length o i h)

      its_own : (algebra m).finish (own_at c i) (algebra m).unit ≡ own_at c i
      its_own = alone m (own_at c i) (own_low o i h)

      pub own_queueable : Queueable (label (own_at c i) 1 i) c.heads q
      own_queueable = subst (λ (z : ℕ). Queueable (label z 1 i) c.heads q) its_own (arriving o (going refl) (gone_none refl) past).queueable

      pub own_offered : {q' : List ℕ} → q' ≡ offered m q (head_at c i) (Some (label (own_at c i) 1 i)) → Went m c (cell ws) (cell ds) i s s q q'
      own_offered e = arrived o (going refl) (gone_none refl) past (e ∙ ap (λ (z : ℕ). offered m q (head_at c i) (Some (label z 1 i))) (sym its_own))

    pub went_next : {s' : Lines} {q' : List ℕ} → Went m c (cell ws) (cell ds) i s s' q q' → Starting m c ws ds s' q' (i + 1)
    went_next {s'} {q'} y = go y.moved
      where
        go : Moved (algebra m) c (cell ws) (cell ds) i s s' → Starting m c ws ds s' q' (i + 1)
        go (stays z b) =
            subst (λ (a : Lines). Starting m c ws ds a q' (i + 1)) (sym z) (record {
              sizes = x.sizes;
              unmade = x.unmade;
              untouched = λ e l k. x.untouched e (omega arith) k;
              waiting = went_stays m c (cell ws) (cell ds) (head_key o) (λ e k. edge_fits_lem o e k m) x.waiting i h y.heard (next-or i) (λ e b. omega arith) b;
            })
        go (waits k j g b z a r) =
            subst (λ (a : Lines). Starting m c ws ds a q' (i + 1)) (sym r) (record {
              sizes = pushed_sizes (algebra m) c (cell ws) (cell ds) s (cell (tail_at c i) k) i k j g x.sizes (edge-room o i h) (omega (arith, (enough o).vertices, tail_below o i h k b));
              unmade = x.unmade;
              untouched = λ e l f. pushed_untouched s (cell (tail_at c i) k) i k j g e (λ p. omega arith) (x.untouched e (omega arith) f);
              waiting = went_waits m c (cell ws) (cell ds) (head_key o) (λ e k. edge_fits_lem o e k m) x.waiting i h y.heard (next-or i) (λ e b. omega arith)
                  k j g x.sizes (edge-room o i h) (tail_below o i h) (enough o).vertices (omega arith) (λ b. omega arith) u b z a;
            })

  pub all_started : length c.heads ≤ i → Rested m c ws ds s q
  all_started h = record {
    sizes = x.sizes;
    waiting = waiting_on (λ e k u b. omega arith) (λ e z. absurd z) x.waiting;
    taken = λ u l n. absurd (n (x.unmade u));
  }
