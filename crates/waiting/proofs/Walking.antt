-- Walking along the list of a vertex that is made: each hyperedge goes on, and the others keep what holds of them. Assumes nothing.
use Prim.Native.Nat.{ℕ, ◌<◌}
use mathlib.Core.Path.{◌≡◌, refl, sym, subst}
use mathlib.Core.Logic.{◌≢◌}
use mathlib.Core.Bool.{false}
use mathlib.Core.List.Memᴰ
use mathlib.Core.List.{List, ◌∷◌, Memᴰ}
use native.Mathlib.Omega.{arith}
use lib.ListN.{length}
use Rattle.weights.specs.declared.Measure.{Measure}
use Rattle.weights.specs.Figures.{is_struck_mark}
use Rattle.weights.specs.Measures.{algebra}
use Rattle.columns.specs.Columns.{Columns, strike_at, tail_at, cell}
use Rattle.minima.specs.Minima.{none, key_in}
use Rattle.waiting.specs.Lines.{end, Lines, room_of, pushed, Chain, ended, linked, Waiter, Placed, kept, waits, heard, Waiting, Moved, stays, Went, Offerable, Waking, Woken, Wakeful}
use Rattle.waiting.proofs.Keeping.{chain_other, pushed_sizes, taken_still, went_stays, went_waits}
use Rattle.waiting.proofs.Steps.{enough, edge_few, edge-room, head_key, tail_below, edge_fits_lem}
use Rattle.waiting.proofs.Short.{chain_short, steps, chain_steps}

placed_on : {m : Measure} {c : Columns} {w d : ℕ → ℕ} {lists : ℕ → List ℕ} {q : List ℕ} {busy busy' : ℕ → Type 0} {e : ℕ} → (busy e → busy' e)
    → Placed m c w d lists q busy e → Placed m c w d lists q busy' e
placed_on f (kept b) = kept (f b)
placed_on f (waits v l z i) = waits v l z i
placed_on f (heard r b) = heard r b

pub waiting_on : {m : Measure} {c : Columns} {w d : ℕ → ℕ} {s : Lines} {q : List ℕ} {busy busy' : ℕ → Type 0}
    → ((e : ℕ) → e < length c.heads → is_struck_mark (strike_at c e) ≡ false → busy e → busy' e) → ((e : ℕ) → busy' e → busy e) → Waiting m c w d s q busy
    → Waiting m c w d s q busy'
waiting_on f g W =
    record {
      lists =
          W.lists;
      chained =
          W.chained;
      covered = λ e h u z. placed_on (f e h u) (W.covered e h u z);
      apart = λ v e h z i b. W.apart v e h z i (g e b);
      grouped = W.grouped;
      sized = W.sized;
      offers = W.offers;
    }

-- o tells of the queue as it was when the walk began
module _ {m : Measure} {c : Columns} {ws ds : List ℕ} {s : Lines} {q q₀ : List ℕ} {v l : ℕ} (o : Offerable c ws ds q₀) (x : Waking m c ws ds s q v l) where
  abbrev W : Lines → List ℕ → List ℕ → Type 0
  W s' q' es = Waiting m c (cell ws) (cell ds) s' q' (λ e. Memᴰ e es)

  abbrev C : Lines → ℕ → List ℕ → Type 0
  C s' f es = Chain (Waiter (algebra m) c (cell ws) (cell ds) s' v) s'.next f es

  bounded : {s' : Lines} (e : ℕ) → Waiter (algebra m) c (cell ws) (cell ds) s' v e → e < 4096
  bounded e k = edge_few o e k.numbered

  -- the first of the list
  module _ (n : l ≢ end) where
    first_of : {es : List ℕ} → C s l es → Waiter (algebra m) c (cell ws) (cell ds) s v l
    first_of (ended p) = absurd (n p)
    first_of (linked p k r) = p

    pub wakeful : Wakeful m c ws ds s l
    wakeful = record { sizes = x.sizes; vertex = v; waiter = first_of x.chain }

    pub below : l < 4096
    below = bounded {s' = s} l (first_of x.chain)

    pub placed : l < (room_of c).edges
    placed = edge-room o l (first_of x.chain).numbered

    -- what is left after it
    pub record Walked (s' : Lines) (q' : List ℕ) : Type 0 where
      pub on : Waking m c ws ds s' q' v (cell s.next l)
      pub fewer : steps s'.next 4096 (cell s.next l) < steps s.next 4096 l

    counted : {s' : Lines} {es : List ℕ} → C s l (l ∷ es) → C s' (cell s.next l) es → steps s'.next 4096 (cell s.next l) < steps s.next 4096 l
    counted {s'} k r =
        omega (
          arith,
          chain_steps 4096 (λ e y. bounded {s' = s} e y) k (chain_short 4096 (λ e y. bounded {s' = s} e y) k),
          chain_steps 4096 (λ e y. bounded {s' = s'} e y) r (chain_short 4096 (λ e y. bounded {s' = s'} e y) r),
        )

    pub walked : {s' : Lines} {q' : List ℕ} → Went m c (cell ws) (cell ds) l s s' q q' → Walked s' q'
    walked {s'} {q'} y = go x.chain x.waiting y.moved
      where
        still : {es : List ℕ} → W s q es → l < length c.heads → (u : ℕ) → u < (room_of c).vertices → cell ds u ≢ 0 → u ≢ v → key_in q' u ≡ none
        still t h u f b k = taken_still m c (cell ws) (cell ds) (head_key o) (λ e h. edge_fits_lem o e h m) t l h y.heard u f b (x.taken u f b k)

        go : {es : List ℕ} → C s l es → W s q es → Moved (algebra m) c (cell ws) (cell ds) l s s' → Walked s' q'
        go (ended p) t k = absurd (n p)
        go (linked {es = es} p k r) t (stays z b) =
            subst (λ (a : Lines). Walked a q') (sym z) (record {
              on = record {
                sizes = x.sizes;
                made = x.made;
                left = es;
                chain = r;
                waiting = went_stays m c (cell ws) (cell ds) (head_key o) (λ e h. edge_fits_lem o e h m) t l p.numbered y.heard (λ e i. Memᴰ.cases_cons i) (λ e i. Memᴰ.tail i) b;
                taken = still t p.numbered;
              };
              fewer = counted {s' = s} (linked p k r) r;
            })
        go (linked {es = es} p k r) t (waits i j g b z a u) =
            let r' = chain_other (algebra m) c (cell ws) (cell ds) s (cell (tail_at c l) i) l i j g v (cell s.next l) k r in
            subst (λ (a : Lines). Walked a q') (sym u) (record {
              on = record {
                sizes =
                    pushed_sizes (algebra m) c (cell ws) (cell ds) s (cell (tail_at c l) i) l i j g x.sizes (edge-room o l p.numbered)
                    (omega (arith, (enough o).vertices, tail_below o l p.numbered i b));
                made = x.made;
                left = es;
                chain = r';
                waiting = went_waits m c (cell ws) (cell ds) (head_key o) (λ e h. edge_fits_lem o e h m) t l p.numbered y.heard (λ e i. Memᴰ.cases_cons i) (λ e i. Memᴰ.tail i)
                    i j g x.sizes (edge-room o l p.numbered) (tail_below o l p.numbered) (enough o).vertices
                    (Memᴰ.head refl) k
                    p.unstruck b z a;
                taken = still t p.numbered;
              };
              fewer = counted {s' = pushed s (cell (tail_at c l) i) l i j g} (linked p k r) r';
            })

  -- the end of the list
  pub all_woken : l ≡ end → Woken m c ws ds s q v
  all_woken z = go x.chain x.waiting
    where
      go : {es : List ℕ} → C s l es → W s q es → Woken m c ws ds s q v
      go (ended p) t = record { sizes = x.sizes; made = x.made; waiting = waiting_on (λ e h u i. Memᴰ.not-nil i) (λ e z. absurd z) t; taken = x.taken }
      go (linked p k r) t = absurd (omega (arith, edge_few o l p.numbered))
