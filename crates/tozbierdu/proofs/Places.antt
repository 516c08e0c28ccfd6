-- The place of each refusal that the archive's calls return, and each length, fits the result in C. The paper's "What is turned away". Assumes nothing.
use mathlib.Core.Path.{◌≡◌, refl, sym, ◌∙◌, subst}
use mathlib.Core.Bool.{Bool, true, false}
use mathlib.Core.List.{List}
use Prim.Native.Nat.{ℕ, ◌+◌, ◌*◌, ◌≤◌}
use native.Mathlib.Omega.{arith}
use lib.ListN.{length}
use lib.Dec.{ltb, leb, eqb}
use Rattle.weights.specs.declared.Measure.{Measure}
use Rattle.weights.specs.declared.Hyperedge.{Hyperedge}
use Rattle.weights.specs.Figures.{greatest, struck_mark}
use Rattle.refusal.specs.declared.Refusal.{Refusal}
use Rattle.refusal.specs.declared.Refusal.TheVariants.{
  TooManyVertices,
  Lengths,
  Head,
  Own,
  Span,
  Tail,
  AnswerLength,
  WrongAnswers,
  ColumnRoom,
  WrongIndex,
  StrikeMark,
}
use Rattle.refusal.specs.declared.Counts.{Counts}
use Rattle.refusal.specs.Refusals.{place_of, last_place}
use Rattle.columns.specs.Columns.{Entries, Columns}
use Rattle.columns.specs.Acceptance.{most_vertices, most_edges, most_listed, longest_tail, test, all_below, acceptance, lent_acceptance}
use Rattle.columns.specs.Longer.{NewLine, end_in, longer, in_use_of}
use Rattle.columns.specs.Same.{same_entries}
use Rattle.columns.specs.Owed.{Owed}
use Rattle.columns.proofs.Accepted.{both_accepted, refused, table_accepted}
use Rattle.columns.proofs.Exactly.{refused_exactly}
use Rattle.columns.proofs.Refuses.{Refuses, same_refusal, none_refuses, test_refuses, then_refuses}
use Rattle.uses.proofs.Room.{list_fits}
use Rattle.indextable.specs.Index.{index_of, is_index, index_room, index_acceptance, index_outcome, table_indexed}
use Rattle.settle.specs.Settling.{entries_of}
use Rattle.settle.specs.Checking.{verdict, checked}
use Rattle.topological.specs.Ordering.{ordered_acceptance, settled_in_order}
use Rattle.topological.specs.Right.{WrongOrdered, RightOrderedLent, WrongOrderedLent}
use Rattle.topological.proofs.Exactly.{ordered_refused_exactly, settle_ordered_owes}
use Rattle.reprice.specs.Repricing.{stricken, restored}
use Rattle.reprice.proofs.Changes.{stricken_result, restored_result, strike_refused_exactly, restore_refused_exactly}
use Rattle.append.specs.Appending.{new_end, counts_acceptance, new_line_acceptance, sized_acceptance, room_acceptance, append_acceptance, grown, appended}
use Rattle.append.proofs.Checks.{counts_passed}
use Rattle.inventory.specs.Replaying.{replayed}
use Rattle.inventory.specs.Asked.{WrongReplay}
use Rattle.inventory.proofs.Asked.{stops_place, owed_wrong}
use Rattle.text.specs.Machine.{Parse, Whole, Wrong, parse}
use Rattle.text.specs.Render.{render}
use Rattle.text.proofs.Digits.{pick_by}
use Rattle.reading.specs.Lines.{header_of}
use Rattle.reading.proofs.Low.{wrong_low}
use Rattle.readtable.specs.Read.{ReadOutcome, room_for, read_into, read_table}
use Rattle.writetable.specs.Write.{WriteOutcome, write_text, write_as, write_table}
use Rattle.writetable.proofs.Laws.{render_most}
use Rattle.statistics.specs.Samples.{Sampled, Summary}
use Rattle.statistics.specs.Summaries.{summary_of}
use Rattle.statistics.proofs.Summarized.{refused_sample}
use Rattle.shuffle.specs.Shuffled.{Outcome, shuffle_outcome, unshuffle_outcome}
use Rattle.counter.specs.Decoded.{extent_of}
use Rattle.counter.proofs.Decoded.{reach}
use Rattle.counter.proofs.Places.{edge_place, table_place, wrong_place, lent_place, change_place}
use Rattle.tozbierdu.specs.Decoded.{verdict_extent, reading_extent, appending_extent, summary_extent}
use Rattle.refusal.specs.Answers.{Acceptance}
use Rattle.std.specs.Prelude.{Ok, Err}

abbrev pub Placed : Refusal → Type 0
Placed r = place_of r ≤ last_place

-- of acceptance alone
pub accepted_reach : (x : Acceptance) → Refuses Placed x → reach (extent_of x) ≤ last_place
accepted_reach (Ok _) f = omega arith
accepted_reach (Err r) f = f.holds refl

-- Tables -----------------------------------------------------------------------------------------------------------------------------------------

pub table_places : (c : Columns) → Refuses Placed (acceptance c)
table_places c = record { holds = λ {s} p. table_place ((refused_exactly c s).0 p) }

ordered_place : {c : Columns} {r : Refusal} → WrongOrdered c r → Placed r
ordered_place (WrongOrdered.many n) = omega arith
ordered_place (WrongOrdered.unlevel f n) = omega arith
ordered_place (WrongOrdered.edge f l e w o) = edge_place w.wrong (omega (arith, w.numbered, l.edges))
ordered_place (WrongOrdered.order f l e h b o n) = omega (arith, h, l.edges)

pub order_places : (c : Columns) → Refuses Placed (ordered_acceptance c)
order_places c = record { holds = λ {s} p. ordered_place ((ordered_refused_exactly c s).0 p) }

module _ (m : Measure) (c : Columns) (a : Entries) where
  pub ordered_places : Refuses Placed (settled_in_order m c a).result
  ordered_places = record { holds = λ p. go (settle_ordered_owes c a m) p }
    where
      lent : {r : Refusal} → WrongOrderedLent c a r → Placed r
      lent (WrongOrderedLent.table w) = ordered_place w
      lent (WrongOrderedLent.answers t n) = omega arith

      go : {x : Acceptance} {b : Entries} {s : Refusal}
          → Owed Err a (RightOrderedLent c a) (λ _. Ok tt) (λ _. entries_of m c) (WrongOrderedLent c a) x b → x ≡ Err s → Placed s
      go (Owed.accepted q) e = absurd (refused (sym e))
      go (Owed.refused w) e = subst Placed (same_refusal e) (lent w)

  pub checked_reach : reach (verdict_extent (checked m c a)) ≤ last_place
  unfolding checked
  checked_reach = go (lent_acceptance c a) (same_entries a (entries_of m c)) refl
    where
      go : (x : Acceptance) (b : Bool) → lent_acceptance c a ≡ x → reach (verdict_extent (verdict x b)) ≤ last_place
      go (Ok _) true p = omega arith
      go (Ok _) false p = omega arith
      go (Err r) b p = lent_place c a p

  -- Changes --------------------------------------------------------------------------------------------------------------------------------------

  pub stricken_places : (e : ℕ) → Refuses Placed (stricken m c a e).result
  stricken_places e = record { holds = λ {s} p. change_place (omega arith) ((strike_refused_exactly m c a e s).0 (sym (stricken_result m c a e) ∙ p)) }

  pub restored_places : (e : ℕ) → Refuses Placed (restored m c a e).result
  restored_places e = record { holds = λ {s} p. change_place (omega arith) ((restore_refused_exactly m c a e s).0 (sym (restored_result m c a e) ∙ p)) }

-- a test whose refusal's place fits
one : (b : Bool) (r : Refusal) {a : Acceptance} → Placed r → Refuses Placed a → Refuses Placed (test b r a)
one b r {a} h f = test_refuses b r a (λ _. h) (λ _. f)

-- a refusal that names nothing
abbrev nought : 0 ≤ last_place
nought = omega arith

room_places : (n k : ℕ) (index list : List ℕ) → Refuses Placed (index_room n k index list)
unfolding index_room
room_places n k index list = one (leb (2 * n) (length index)) ColumnRoom nought (one (leb k (length list)) ColumnRoom nought none_refuses)

-- a list is no longer than the needed parts
module _ (c : Columns) (index list : List ℕ) where
  pub index_reach : reach (table_indexed c index list).result ≤ last_place
  unfolding table_indexed index_acceptance
  index_reach = go (index_acceptance c index list) refl
    where
      places : Refuses Placed (index_acceptance c index list)
      places = then_refuses (acceptance c) _ (table_places c) (λ _. room_places c.vertices (length (index_of c).list) index list)

      go : (x : Acceptance) → index_acceptance c index list ≡ x → reach (index_outcome (index_of c) index list x).result ≤ last_place
      go (Ok _) p =
          let q = (both_accepted (acceptance c) _ p).0 in
          let f = list_fits c c.vertices q in
          let t = (table_accepted c q).tails in
          omega arith
      go (Err r) p = places.holds p

module _ (m : Measure) (c : Columns) (k : Counts) (a : Entries) (index list : List ℕ) (l : NewLine) where
  counts_places : (size : ℕ) → Refuses Placed (counts_acceptance c k size)
  unfolding counts_acceptance
  counts_places size =
      one (leb c.vertices most_vertices) TooManyVertices nought
      (one (leb k.edges (length c.heads)) Lengths nought
      (one (leb k.edges (length c.own)) Lengths nought
      (one (leb k.edges (length c.strikes)) Lengths nought
      (one (ltb k.edges most_edges) Lengths nought
      (one (leb (2 * k.edges) (length c.spans)) Lengths nought
      (one (leb k.listed (length c.tails)) Lengths nought
      (one (leb k.listed most_listed) Lengths nought
      (one (leb (new_end c k + size) most_listed) Lengths nought
      none_refuses))))))))

  line_places : (e : Hyperedge) → e.0 ≤ last_place → Refuses Placed (new_line_acceptance c.vertices e l)
  unfolding new_line_acceptance
  line_places e h =
      one (ltb l.head c.vertices) (Head e) h
      (one (leb l.own greatest) (Own e) h
      (one (leb l.mark struck_mark) (StrikeMark e) h
      (one (leb (length l.tail) longest_tail) (Span e) h
      (one (all_below c.vertices l.tail) (Tail e) h
      none_refuses))))

  sized_places : (n : ℕ) → Refuses Placed (sized_acceptance n a)
  unfolding sized_acceptance
  sized_places n =
      one (eqb (length a.labels.weights) n) AnswerLength nought
      (one (eqb (length a.labels.depths) n) AnswerLength nought
      (one (eqb (length a.labels.edges) n) AnswerLength nought
      (one (eqb (length a.pieces) n) AnswerLength nought
      none_refuses)))

  columns_places : (size : ℕ) → Refuses Placed (room_acceptance c.heads c.own c.strikes c.spans c.tails k.edges size)
  unfolding room_acceptance
  columns_places size =
      one (ltb k.edges (length c.heads)) ColumnRoom nought
      (one (ltb k.edges (length c.own)) ColumnRoom nought
      (one (ltb k.edges (length c.strikes)) ColumnRoom nought
      (one (leb (2 * k.edges + 2) (length c.spans)) ColumnRoom nought
      (one (leb (end_in c.spans k.edges + size) (length c.tails)) ColumnRoom nought
      none_refuses))))

  append_places : Refuses Placed (append_acceptance m c k a index list l)
  unfolding append_acceptance
  append_places =
      let size = length l.tail in
      then_refuses (counts_acceptance c k size) _ (counts_places size)
      (λ p. then_refuses (acceptance (in_use_of c k)) _ (table_places (in_use_of c k))
      (λ _. then_refuses (new_line_acceptance c.vertices (record { 0 = k.edges }) l) _
      (line_places (record { 0 = k.edges }) (omega (arith, (counts_passed c k size p).spanned.edges)))
      (λ _. then_refuses (sized_acceptance c.vertices a) _ (sized_places c.vertices)
      (λ _. then_refuses (room_acceptance c.heads c.own c.strikes c.spans c.tails k.edges size) _ (columns_places size)
      (λ _. then_refuses (index_room c.vertices (length (index_of (longer (in_use_of c k) l)).list) index list) _ (room_places _ _ index list)
      (λ _. one (is_index (in_use_of c k) index list) WrongIndex nought
      (one (same_entries a (entries_of m (in_use_of c k))) WrongAnswers nought none_refuses)))))))

  pub append_reach : reach (appending_extent (appended m c k a index list l).result) ≤ last_place
  unfolding appended
  append_reach = go (append_acceptance m c k a index list l) refl
    where
      go : (x : Acceptance) → append_acceptance m c k a index list l ≡ x → reach (appending_extent (grown m c k a index list l x).result) ≤ last_place
      go (Ok _) p = omega arith
      go (Err r) p = append_places.holds p

-- a part or an event
module _ (m : Measure) (c : Columns) (a : Entries) (parts received stock outcomes : List ℕ) where
  pub replayed_places : Refuses Placed (replayed m c a parts received stock outcomes).result
  replayed_places = record { holds = λ p. go (owed_wrong m c a parts received stock outcomes p) }
    where
      go : {r : Refusal} → WrongReplay m c a parts received stock outcomes r → Placed r
      go (WrongReplay.many n) = omega arith
      go (WrongReplay.unlevel f n) = omega arith
      go (WrongReplay.lent l w) = wrong_place w
      go (WrongReplay.shelf l t n) = omega arith
      go (WrongReplay.answers l t e n) = omega arith
      go (WrongReplay.opening l t e f v h) = omega (arith, h.within, e, t.table.few)
      go (WrongReplay.event s w) = omega (arith, stops_place c a.labels w, s.level.events)

-- Texts ------------------------------------------------------------------------------------------------------------------------------------------

pub read_reach : (text h o ms s t : List ℕ) → reach (reading_extent (read_table text h o ms s t).answer) ≤ last_place
unfolding read_into
read_reach text h o ms s t = go (parse text) refl
  where
    go : (P : Parse) → parse text ≡ P → reach (reading_extent (read_into text P h o ms s t).answer) ≤ last_place
    go (Wrong l) e = let w = wrong_low text l e in omega arith
    go (Whole u) e =
        pick_by (λ (x : ReadOutcome). reach (reading_extent x.answer) ≤ last_place) (room_for (header_of u) (length h) (length o) (length ms) (length s) (length t))
        (λ _. omega arith) (λ _. omega arith)

pub write_reach : (m : Measure) (c : Columns) (room : List ℕ) → reach (write_table m c room).answer ≤ last_place
unfolding write_text
write_reach m c room = go (acceptance c) refl
  where
    go : (x : Acceptance) → acceptance c ≡ x → reach (write_as x (render m c) room).answer ≤ last_place
    go (Ok _) p =
        pick_by (λ (x : WriteOutcome). reach x.answer ≤ last_place) (leb (length (render m c)) (length room)) (λ _. render_most m c p) (λ _. omega arith)
    go (Err r) p = (table_places c).holds p

-- Columns of figures -------------------------------------------------------------------------------------------------------------------------------

pub summary_reach : (xs : List ℕ) → reach (summary_extent (summary_of xs)) ≤ last_place
summary_reach xs = go (summary_of xs) refl
  where
    placed : {x : Acceptance} {r : Refusal} → Sampled xs x → x ≡ Err r → Placed r
    placed (Sampled.accepted s) e = absurd (refused (sym e))
    placed (Sampled.sized h) e = subst Placed (same_refusal e) (omega arith)
    placed (Sampled.large h k i t) e = subst Placed (same_refusal e) (omega (arith, t.within))

    go : (x : Summary) → summary_of xs ≡ x → reach (summary_extent x) ≤ last_place
    go (Ok m) e = omega arith
    go (Err r) e = placed (refused_sample xs r e) refl

pub shuffle_reach : (own room : List ℕ) → reach (extent_of (shuffle_outcome own room).answer) ≤ last_place
unfolding shuffle_outcome
shuffle_reach own room = pick_by (λ (x : Outcome). reach (extent_of x.answer) ≤ last_place) (eqb (length room) (8 * length own)) (λ _. omega arith) (λ _. omega arith)

pub unshuffle_reach : (bytes own : List ℕ) → reach (extent_of (unshuffle_outcome bytes own).answer) ≤ last_place
unfolding unshuffle_outcome
unshuffle_reach bytes own = pick_by (λ (x : Outcome). reach (extent_of x.answer) ≤ last_place) (eqb (length bytes) (8 * length own)) (λ _. omega arith) (λ _. omega arith)
