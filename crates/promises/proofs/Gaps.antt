-- No call looks at what gaps hold: with another column of needed parts that is the same at every place of every span, each has the same outcome. Assumes nothing.
use mathlib.Core.Path.{◌≡◌, refl, sym, ◌∙◌, ap, ap₂, subst, fun_ext}
use mathlib.Core.Logic.{⊎_elim}
use mathlib.Core.List.{List, []}
use Prim.Native.Nat.{ℕ, zero, suc, ◌+◌, ◌≤◌, ◌<◌}
use native.Mathlib.Nat.{eq-or-lt_of_le}
use native.Mathlib.Omega.{arith}
use lib.ListN.{length, get_or, set, take, drop, length-take, length-drop}
use lib.Seq.{ext_get_or}
use lib.Dec.{ltb, leb, eqb}
use Rattle.weights.specs.declared.Measure.{Measure}
use Rattle.weights.specs.Choice.{pick}
use Rattle.weights.specs.Figures.{greatest, standing, struck_mark, is_struck_mark}
use Rattle.refusal.specs.declared.Refusal.{Refusal}
use Rattle.refusal.specs.declared.Refusal.TheVariants.{AnswerLength, NoSuchVertex, WrongAnswers, WrongIndex, Underivable, NoSuchEdge, NewWeight, NotStruck}
use Rattle.refusal.specs.declared.Counts.{Counts}
use Rattle.columns.specs.Columns.{Entries, Columns, cell, strike_at, offset_at, length_at, tail_at, with_own, with_strike}
use Rattle.columns.specs.Acceptance.{test, and_then, edge_acceptance, sizes_acceptance, acceptance, lent_acceptance}
use Rattle.columns.specs.Filled.{filled}
use Rattle.columns.specs.Gaps.{Gapped, with_tails}
use Rattle.columns.specs.Longer.{NewLine, in_use_of, longer}
use Rattle.columns.specs.Same.{same_entries}
use Rattle.columns.proofs.Accepted.{both_accepted, part_at, columns_accepted}
use Rattle.columns.proofs.Exactly.{accepted_exactly}
use Rattle.columns.proofs.Longer.{longer-count, longer_lines, longer-listed}
use Rattle.columns.proofs.Gaps.{gaps_accepted, gaps_lent, all_tails_alike}
use Rattle.provenance.specs.Hypergraph.{Hypergraph}
use Rattle.provenance.specs.BestFirst.{labels}
use Rattle.provenance.specs.Support.{bill}
use Rattle.tables.proofs.Gaps.{gaps_hypergraph}
use Rattle.settle.specs.Settling.{entries_of}
use Rattle.settle.proofs.Gaps.{gaps_entries, gaps_settled}
use Rattle.topological.specs.Ordering.{ordered_edge, ordered_edge_at, ordered_edges_acceptance, ordered_acceptance, ordered_lent_acceptance, settled_in_order}
use Rattle.topological.proofs.Settled.{same_columns, ordered_refused_left}
use Rattle.reprice.specs.Repricing.{stands, line_acceptance, reprice_acceptance, strike_acceptance, numbered_acceptance, struck_acceptance, restore_acceptance}
use Rattle.reprice.specs.Repricing.{changed, marked, repriced, stricken, restored}
use Rattle.reprice.proofs.Changes.{repriced_result_lem, stricken_result, restored_result, reprice_leaves, strike_leaves, restore_leaves}
use Rattle.bill.specs.Billing.{bill_of, part_acceptance, room_acceptance as bill_room, bill_acceptance, outcome, billed}
use Rattle.indextable.specs.Index.{TableIndex, index_by, index_of, begin_with, index_room, index_acceptance, index_outcome, table_indexed}
use Rattle.append.specs.Appending.{counts_acceptance, new_line_acceptance, sized_acceptance, room_acceptance, append_acceptance, leaves, new_counts, over, grown, appended}
use Rattle.text.specs.Tables.{edges_from}
use Rattle.text.specs.Render.{table_text}
use Rattle.writetable.specs.Write.{write_as, write_table}
use Rattle.inventory.specs.Shelf.{chosen_tail}
use Rattle.inventory.specs.Replaying.{record_acceptance, open_acceptance, opening_acceptance, chosen_list, Run, begun, replay_from, run_of, concluded, replayed}
use Rattle.promises.proofs.Appends.{counts_right, line_right, longer_right}
use Rattle.refusal.specs.Answers.{Acceptance}
use Rattle.std.specs.Prelude.{Ok, Err}

-- an outcome that looks at what is worked out of a table only where the tests before it pass
pub alike : {B D : Type 0} {x x' : Acceptance} {d d' : D} → x ≡ x' → (x ≡ Ok tt → d ≡ d') → (f : Acceptance → D → B) → ((r : Refusal) (y z : D) → f (Err r) y ≡ f (Err r) z)
    → f x d ≡ f x' d'
alike {B} {D} {x} {x'} {d} {d'} e h f k = go x refl
  where
    go : (y : Acceptance) → x ≡ y → f x d ≡ f x' d'
    go (Ok _) p = ap₂ f e (h p)
    go (Err r) p = ap (λ (z : Acceptance). f z d) p ∙ k r d d' ∙ sym (ap (λ (z : Acceptance). f z d') (sym e ∙ p))

module _ (c : Columns) (tails : List ℕ) (g : Gapped c tails) where
  abbrev c' : Columns
  c' = with_tails c tails

  tails_alike : acceptance c ≡ Ok tt → tail_at c ≡ tail_at c'
  tails_alike p = fun_ext (all_tails_alike c tails g p)

  -- of a line, whether or not the table is accepted
  tail_alike : (e : ℕ) → e < length c.heads → tail_at c e ≡ tail_at c' e
  tail_alike e h =
      let off = offset_at c e in
      let len = length_at c e in
      let p = length-take len (drop off c.tails) in
      let q = length-take len (drop off tails) in
      ext_get_or 0 (tail_at c e) (tail_at c' e) (omega (arith, p, q, length-drop off c.tails, length-drop off tails, g.level)) (λ k i.
      let l : k < len = omega (arith, p) in
      part_at off len c.tails k l ∙ g.spanned e h k l ∙ sym (part_at off len tails k l))

  line_alike : (e end : ℕ) → e < length c.heads → ordered_edge_at c e end ≡ ordered_edge_at c' e end
  unfolding ordered_edge edge_acceptance
  line_alike e end h = rw (g.level, tail_alike e h)

  lines_alike : (left e end : ℕ) → e + left ≤ length c.heads → ordered_edges_acceptance c left e end ≡ ordered_edges_acceptance c' left e end
  unfolding ordered_edges_acceptance
  lines_alike zero e end h = refl
  lines_alike (suc left) e end h = ap₂ and_then (line_alike e end (omega arith)) (lines_alike left (e + 1) (offset_at c e + length_at c e) (omega arith))

  pub order_gaps : ordered_acceptance c ≡ ordered_acceptance c'
  unfolding ordered_acceptance sizes_acceptance
  order_gaps = rw (g.level, lines_alike (length c.heads) 0 0 (omega arith))

  pub settle_ordered_gaps : (m : Measure) (a : Entries) → settled_in_order m c a ≡ settled_in_order m c' a
  unfolding ordered_lent_acceptance
  settle_ordered_gaps m a = go (ordered_acceptance c) refl
    where
      refuses : (b : Columns) {r : Refusal} → ordered_acceptance b ≡ Err r → ordered_lent_acceptance b a ≡ Err r
      refuses b p = rw p

      go : (x : Acceptance) → ordered_acceptance c ≡ x → settled_in_order m c a ≡ settled_in_order m c' a
      go (Ok _) p = same_columns m c a p ∙ gaps_settled m c tails g a ∙ sym (same_columns m c' a (sym order_gaps ∙ p))
      go (Err r) p = sym (ordered_refused_left m c a r (refuses c p)) ∙ ordered_refused_left m c' a r (refuses c' (sym order_gaps ∙ p))

  -- the text, the index and the bills of an accepted table
  edges_alike : acceptance c ≡ Ok tt → (left e : ℕ) → edges_from c left e ≡ edges_from c' left e
  unfolding edges_from
  edges_alike p zero e = refl
  edges_alike p (suc left) e = rw (all_tails_alike c tails g p e, edges_alike p left (e + 1))

  pub write_gaps : (m : Measure) (room : List ℕ) → write_table m c room ≡ write_table m c' room
  write_gaps m room =
      alike (gaps_accepted c tails g) (λ p. ap (table_text c.vertices m) (edges_alike p (length c.heads) 0)) (λ x text. write_as x text room) (λ r y z. refl)

  pub index_alike : acceptance c ≡ Ok tt → index_of c ≡ index_of c'
  index_alike p = ap (λ (t : ℕ → List ℕ). index_by t (length c.heads) c.vertices) (tails_alike p)

  pub index_gaps : (index list : List ℕ) → table_indexed c index list ≡ table_indexed c' index list
  unfolding table_indexed index_acceptance
  index_gaps index list =
      alike (gaps_accepted c tails g) index_alike
      (λ x (i : TableIndex). index_outcome i index list (and_then x (index_room c.vertices (length i.list) index list))) (λ r y z. refl)

  module _ (m : Measure) (a : Entries) where
    entries_alike : lent_acceptance c a ≡ Ok tt → entries_of m c ≡ entries_of m c'
    entries_alike p = gaps_entries m c tails g (columns_accepted c a p).table

    bills_alike : (v : ℕ) → lent_acceptance c a ≡ Ok tt → bill_of c a.labels v ≡ bill_of c' a.labels v
    unfolding bill_of
    bills_alike v p =
        ap (λ (H : Hypergraph). bill H (labels a.labels) (labels a.labels v).depth v) (gaps_hypergraph c tails g (columns_accepted c a p).table)

    pub bill_gaps : (v : ℕ) (room : List ℕ) → billed m c a v room ≡ billed m c' a v room
    unfolding billed bill_acceptance part_acceptance
    bill_gaps v room =
        alike {D = Entries × List ℕ} (gaps_lent c tails g a) (λ p i. (entries_alike p i, bills_alike v p i))
        (λ x d. outcome
        (and_then
        (and_then x (test (ltb v c.vertices) NoSuchVertex (test (same_entries a d.0) WrongAnswers (test (ltb 0 (labels a.labels v).depth) Underivable (Ok tt)))))
        (bill_room d.1 (length room)))
        d.1 room)
        (λ r y z. refl)

    -- a change of line e: its tests, and the table as it then is
    module _ (e : ℕ) where
      changed_gaps : (w : ℕ) (x : Acceptance) → (x ≡ Ok tt → entries_of m (with_own c e w) ≡ entries_of m (with_own c' e w)) → changed m c a e w x ≡ changed m c' a e w x
      changed_gaps w (Ok _) h = ap (λ (b : Entries). record { result = Ok tt; own = set c.own e w; left = b }) (h refl)
      changed_gaps w (Err r) h = refl

      marked_gaps : (s : ℕ) (x : Acceptance) → (x ≡ Ok tt → entries_of m (with_strike c e s) ≡ entries_of m (with_strike c' e s)) → marked m c a e s x ≡ marked m c' a e s x
      marked_gaps s (Ok _) h = ap (λ (b : Entries). record { result = Ok tt; strikes = set c.strikes e s; left = b }) (h refl)
      marked_gaps s (Err r) h = refl

      repriced_alike : (w : ℕ) → reprice_acceptance m c a e w ≡ reprice_acceptance m c' a e w
      unfolding reprice_acceptance line_acceptance
      repriced_alike w =
          alike (gaps_lent c tails g a) entries_alike
          (λ x b. and_then (and_then x (test (stands c e) NoSuchEdge (Ok tt))) (test (leb w greatest) NewWeight (test (same_entries a b) WrongAnswers (Ok tt)))) (λ r y z. refl)

      stricken_alike : strike_acceptance m c a e ≡ strike_acceptance m c' a e
      unfolding strike_acceptance line_acceptance
      stricken_alike =
          alike (gaps_lent c tails g a) entries_alike
          (λ x b. and_then (and_then x (test (stands c e) NoSuchEdge (Ok tt))) (test (same_entries a b) WrongAnswers (Ok tt))) (λ r y z. refl)

      restored_alike : restore_acceptance m c a e ≡ restore_acceptance m c' a e
      unfolding restore_acceptance struck_acceptance numbered_acceptance
      restored_alike =
          alike (gaps_lent c tails g a) entries_alike
          (λ x b.
          and_then
          (and_then (and_then x (test (ltb e (length c.heads)) NoSuchEdge (Ok tt))) (test (is_struck_mark (strike_at c e)) NotStruck (Ok tt)))
          (test (same_entries a b) WrongAnswers (Ok tt)))
          (λ r y z. refl)

      pub reprice_gaps : (w : ℕ) → repriced m c a e w ≡ repriced m c' a e w
      unfolding repriced
      reprice_gaps w =
          changed_gaps w (reprice_acceptance m c a e w) (λ p.
          gaps_entries m (with_own c e w) tails (record { level = g.level; spanned = g.spanned }) (reprice_leaves m c a e w (repriced_result_lem m c a e w ∙ p)).accepted)
          ∙ ap (changed m c' a e w) (repriced_alike w)

      pub strike_gaps : stricken m c a e ≡ stricken m c' a e
      unfolding stricken
      strike_gaps =
          marked_gaps struck_mark (strike_acceptance m c a e) (λ p.
          gaps_entries m (with_strike c e struck_mark) tails (record { level = g.level; spanned = g.spanned }) (strike_leaves m c a e (stricken_result m c a e ∙ p)).accepted)
          ∙ ap (marked m c' a e struck_mark) stricken_alike

      pub restore_gaps : restored m c a e ≡ restored m c' a e
      unfolding restored
      restore_gaps =
          marked_gaps standing (restore_acceptance m c a e) (λ p.
          gaps_entries m (with_strike c e standing) tails (record { level = g.level; spanned = g.spanned }) (restore_leaves m c a e (restored_result m c a e ∙ p)).accepted)
          ∙ ap (marked m c' a e standing) restored_alike

    -- the lists of the chosen lines
    chosen_alike : lent_acceptance c a ≡ Ok tt → chosen_list c a.labels ≡ chosen_list c' a.labels
    unfolding chosen_tail
    chosen_alike p =
        let edge = cell a.labels.edges in
        let t = all_tails_alike c tails g (columns_accepted c a p).table in
        fun_ext (λ v. ap (λ (us : List ℕ). pick (eqb (cell a.labels.depths v) 0) [] us) (t (edge v)))

    -- nothing before the table's own tests looks at it
    unlooked : (x : Acceptance) (r : Refusal) (y z : Run) (stock outcomes : List ℕ) → concluded (begun (and_then x (Err r)) y) stock outcomes ≡ concluded (begun (and_then x (Err r)) z) stock outcomes
    unlooked (Ok _) r y z stock outcomes = refl
    unlooked (Err q) r y z stock outcomes = refl

    pub replay_gaps : (parts received stock outcomes : List ℕ) → replayed m c a parts received stock outcomes ≡ replayed m c' a parts received stock outcomes
    unfolding replayed run_of open_acceptance
    replay_gaps parts received stock outcomes =
        let first = record_acceptance c.vertices parts received outcomes in
        alike {D = Entries × (ℕ → List ℕ)} (gaps_lent c tails g a) (λ p i. (entries_alike p i, chosen_alike p i))
        (λ x d. concluded
        (begun
        (and_then first
        (and_then x
        (test (eqb (length stock) c.vertices) AnswerLength (and_then (test (same_entries a d.0) WrongAnswers (Ok tt)) (opening_acceptance 0 stock)))))
        (replay_from d.1 0 parts received stock))
        stock outcomes)
        (λ r y z. unlooked first r _ _ stock outcomes)

-- three answers before a fourth
flat : (x y z w : Acceptance) → and_then (and_then x (and_then y z)) w ≡ and_then x (and_then y (and_then z w))
flat (Err r) y z w = refl
flat (Ok _) (Err r) z w = refl
flat (Ok _) (Ok _) z w = refl

-- appending, where a gap is a place that no span in use has
module _ (m : Measure) (c : Columns) (k : Counts) (a : Entries) (index list : List ℕ) (l : NewLine) (tails : List ℕ) (level : length c.tails ≡ length tails)
    (g : Gapped (in_use_of c k) (take k.listed tails)) where
  abbrev t : Columns
  t = in_use_of c k

  abbrev t' : Columns
  t' = in_use_of (with_tails c tails) k

  -- the longer table, whose counts passed
  module _ (p : acceptance t ≡ Ok tt) where
    p' : acceptance t' ≡ Ok tt
    p' = sym (gaps_accepted t (take k.listed tails) g) ∙ p

    longer_alike : (e : ℕ) → e < length (longer t l).heads → tail_at (longer t l) e ≡ tail_at (longer t' l) e
    longer_alike e h = ⊎_elim
        (λ q. subst (λ (x : ℕ). tail_at (longer t l) x ≡ tail_at (longer t' l) x) (sym q) ((longer_lines t l p).new_tail ∙ sym (longer_lines t' l p').new_tail))
        (λ q. (longer_lines t l p).tails e q ∙ tail_alike t (take k.listed tails) g e q ∙ sym ((longer_lines t' l p').tails e q))
        (eq-or-lt_of_le (omega (arith, longer-count t l p)))

    longer_gapped : Gapped (longer t l) (longer t' l).tails
    longer_gapped = record {
      level = longer-listed t l p ∙ sym (longer-listed t' l p');
      spanned = λ e h i q.
          let off = offset_at (longer t l) e in
          let len = length_at (longer t l) e in
          sym (part_at off len (longer t l).tails i q) ∙ ap (λ (xs : List ℕ). get_or xs i 0) (longer_alike e h) ∙ part_at off len (longer t' l).tails i q;
    }

  abbrev front : Columns → Acceptance
  front b = and_then (counts_acceptance b k (length l.tail)) (and_then (acceptance (in_use_of b k)) (new_line_acceptance b.vertices (record { 0 = k.edges }) l))

  module _ (f : front c ≡ Ok tt) where
    passed : acceptance t ≡ Ok tt
    passed = (both_accepted (acceptance t) _ (both_accepted (counts_acceptance c k (length l.tail)) _ f).1).0

    grown-accepted : acceptance (longer t l) ≡ Ok tt
    grown-accepted =
        let q = both_accepted (counts_acceptance c k (length l.tail)) _ f in
        let u = (counts_right c k (length l.tail) q.0).1 in
        (accepted_exactly (longer t l)).1
        (longer_right c k l u ((accepted_exactly t).0 passed) (line_right c.vertices k.edges l (both_accepted (acceptance t) _ q.1).1))

  counts_alike : counts_acceptance c k (length l.tail) ≡ counts_acceptance (with_tails c tails) k (length l.tail)
  unfolding counts_acceptance
  counts_alike = rw level

  places_alike : room_acceptance c.heads c.own c.strikes c.spans c.tails k.edges (length l.tail)
      ≡ room_acceptance c.heads c.own c.strikes c.spans tails k.edges (length l.tail)
  unfolding room_acceptance
  places_alike = rw level

  front_alike : front c ≡ front (with_tails c tails)
  front_alike = rw (counts_alike, gaps_accepted t (take k.listed tails) g)

  -- what the tests behind the new line look at
  abbrev Behind : Type 0
  Behind = TableIndex × (TableIndex × Entries)

  abbrev looked : Columns → Behind
  looked b = (index_of (longer (in_use_of b k) l), (index_of (in_use_of b k), entries_of m (in_use_of b k)))

  looked_alike : front c ≡ Ok tt → looked c ≡ looked (with_tails c tails)
  looked_alike f =
      let p = passed f in
      let x = index_alike (longer t l) (longer t' l).tails (longer_gapped p) (grown-accepted f) in
      let y = index_alike t (take k.listed tails) g p in
      let z = gaps_entries m t (take k.listed tails) g p in
      λ i. (x i, (y i, z i))

  abbrev rest : Acceptance → Behind → Acceptance
  rest places d =
      and_then (sized_acceptance c.vertices a)
      (and_then places
      (and_then (index_room c.vertices (length d.0.list) index list)
      (test (begin_with c.vertices d.1.0 index list) WrongIndex (test (same_entries a d.1.1) WrongAnswers (Ok tt)))))

  abbrev places : Columns → Acceptance
  places b = room_acceptance b.heads b.own b.strikes b.spans b.tails k.edges (length l.tail)

  accepted_alike : append_acceptance m c k a index list l ≡ append_acceptance m (with_tails c tails) k a index list l
  unfolding append_acceptance
  accepted_alike =
      sym (flat (counts_acceptance c k (length l.tail)) (acceptance t) (new_line_acceptance c.vertices (record { 0 = k.edges }) l) (rest (places c) (looked c)))
      ∙ alike front_alike looked_alike (λ x d. and_then x (rest (places c) d)) (λ r y z. refl)
      ∙ ap (λ (x : Acceptance). and_then (front (with_tails c tails)) (rest x (looked (with_tails c tails)))) places_alike
      ∙ flat (counts_acceptance (with_tails c tails) k (length l.tail)) (acceptance t') (new_line_acceptance c.vertices (record { 0 = k.edges }) l) (rest (places (with_tails c tails)) (looked (with_tails c tails)))

  left_alike : (x : Acceptance) → (x ≡ Ok tt → front c ≡ Ok tt) → let o = grown m c k a index list l x in let o' = grown m (with_tails c tails) k a index list l x in
      o' ≡ leaves o.result (with_tails o.table o'.table.tails) o.answers o.index o.list
  left_alike (Ok _) h =
      let q = grown-accepted (h refl) in
      let s = longer_gapped (passed (h refl)) in
      let x = index_alike (longer t l) (longer t' l).tails s q in
      let y = gaps_entries m (longer t l) (longer t' l).tails s q in
      sym (λ i. leaves (Ok (new_counts c k l)) (over (longer t' l) (with_tails c tails)) (y i) (filled (x i).pairs index) (filled (x i).list list))
  left_alike (Err r) h = refl

  front_passed : append_acceptance m c k a index list l ≡ Ok tt → front c ≡ Ok tt
  unfolding append_acceptance
  front_passed p =
      (both_accepted (front c) (rest (places c) (looked c))
      (flat (counts_acceptance c k (length l.tail)) (acceptance t) (new_line_acceptance c.vertices (record { 0 = k.edges }) l) (rest (places c) (looked c)) ∙ p)).0

  pub append_gaps : let o = appended m c k a index list l in let o' = appended m (with_tails c tails) k a index list l in
      o' ≡ leaves o.result (with_tails o.table o'.table.tails) o.answers o.index o.list
  unfolding appended
  append_gaps =
      subst
      (λ (x : Acceptance). let o = grown m c k a index list l (append_acceptance m c k a index list l) in let o' = grown m (with_tails c tails) k a index list l x in
      o' ≡ leaves o.result (with_tails o.table o'.table.tails) o.answers o.index o.list)
      accepted_alike (left_alike (append_acceptance m c k a index list l) front_passed)
