-- Document 02, change request 2026-08. Assumes nothing.
use mathlib.Core.Path.{◌≡◌, refl}
use mathlib.Core.Logic.{◌↔◌}
use mathlib.Core.List.{List}
use Prim.Native.Nat.{ℕ, ◌<◌}
use native.Mathlib.Omega.{arith}
use lib.ListN.{length}
use Rattle.weights.specs.declared.Hyperedge.{Hyperedge}
use Rattle.weights.specs.declared.Measure.{Measure}
use Rattle.weights.specs.Measures.{Algebra}
use Rattle.weights.specs.Laws.{Lawful}
use Rattle.refusal.specs.declared.Refusal.{Refusal}
use Rattle.refusal.specs.declared.Refusal.TheVariants.{Order}
use Rattle.refusal.specs.declared.Counts.{Counts}
use Rattle.refusal.specs.Refusals.{number_of, code, code_of}
use Rattle.columns.specs.Columns.{Entries, Columns}
use Rattle.columns.specs.Acceptance.{acceptance, lent_acceptance}
use Rattle.columns.specs.Gaps.{Gapped, with_tails}
use Rattle.columns.specs.Longer.{NewLine}
use Rattle.columns.specs.Owed.{Owed}
use Rattle.columns.proofs.Owed.{check_lent_owes}
use Rattle.provenance.specs.Hypergraph.{Hypergraph, WellFormed}
use Rattle.provenance.specs.BestFirst.{best_first}
use Rattle.provenance.specs.InOrder.{InOrder, in_order}
use Rattle.provenance.proofs.InOrder.{in_order-best_first}
use Rattle.settle.specs.Settling.{entries_of, settled}
use Rattle.settle.specs.Checking.{checked}
use Rattle.settle.specs.Demands.{Demand2}
use Rattle.settle.proofs.Owed.{settle_owes}
use Rattle.reprice.specs.Repricing.{repriced, stricken, restored}
use Rattle.reprice.proofs.Changes.{reprice_owes, strike_owes, restore_owes}
use Rattle.bill.specs.Billing.{billed}
use Rattle.bill.proofs.Asked.{bill_owes}
use Rattle.indextable.specs.Index.{table_indexed}
use Rattle.append.specs.Appending.{appended}
use Rattle.inventory.specs.Replaying.{replayed}
use Rattle.inventory.proofs.Asked.{replay_owes}
use Rattle.readtable.specs.Read.{read_table}
use Rattle.roundtrip.proofs.Texts.{reads}
use Rattle.writetable.specs.Write.{write_table}
use Rattle.writetable.proofs.Asked.{write_owes}
use Rattle.statistics.specs.Summaries.{summary_of}
use Rattle.statistics.proofs.Summarized.{refused_sample}
use Rattle.shuffle.specs.Shuffled.{shuffle_outcome, unshuffle_outcome}
use Rattle.topological.specs.Ordering.{ordered_acceptance, ordered_lent_acceptance, settled_in_order}
use Rattle.topological.specs.Right.{RightOrder, RightOrdered, WrongOrdered, RightOrderedLent, WrongOrderedLent}
use Rattle.topological.proofs.Ordered.{ordered_accepted, never_order}
use Rattle.topological.proofs.Exactly.{ordered_exactly, ordered_refused_exactly, ordered_lent_exactly, ordered_lent_refused_exactly, check_order_owes, settle_ordered_owes}
use Rattle.topological.proofs.Settled.{same_columns, ordered_demand_2}
use Rattle.promises.specs.Fixed.{Fixed}
use Rattle.promises.proofs.Fixed.{fixed}
use Rattle.promises.proofs.Indexing.{index_owes}
use Rattle.promises.proofs.Appends.{append_owes}
use Rattle.promises.proofs.Gaps.{order_gaps, settle_ordered_gaps}
use Rattle.promises.proofs.Elsewhere.{of_acceptance, of_extent, of_reading, of_appending, lent_other, checked_other, change_other, bill_other, read_other, write_other, index_other, append_other, replay_other, sample_other, shuffle_other, unshuffle_other}
use Rattle.std.specs.Prelude.{Ok, Err}

-- 2026-08: a small catalogue for dealers ------------------------------------------------------------------------------------------------------------------------------

-- "Dealers get tables in which every line lists only parts with numbers below its head. Give them a check for the rule"; "A struck line is held to the rule too"
pub rule_checked : (c : Columns) → (ordered_acceptance c ≡ Ok tt) ↔ ((acceptance c ≡ Ok tt) × ((e : ℕ) → e < length c.heads → RightOrder c e))
rule_checked = ordered_accepted

-- "Over every table within the rule, and all measures together, show that both ways of settling leave the same columns"; the same result too
pub both_ways : (m : Measure) (c : Columns) (a : Entries) → ordered_acceptance c ≡ Ok tt → settled_in_order m c a ≡ settled m c a
both_ways = same_columns

-- for every algebra with its laws: "by one walk up the part numbers" a hypergraph in order gets the labels of best-first
pub one_walk : {A : Algebra} → Lawful A → {H : Hypergraph} (own : ℕ → ℕ) → WellFormed H → InOrder H → in_order A H own ≡ best_first A H own
one_walk = in_order-best_first

-- so what it leaves means what demand 2 says
pub ordered_means : (m : Measure) (c : Columns) (a : Entries) → (settled_in_order m c a).result ≡ Ok tt → (v : ℕ) → Demand2 m c (settled_in_order m c a).left v
ordered_means = ordered_demand_2

-- "Turned away, in these two calls only: 24 for a line that lists its head or a higher part, after 6 in that line, with the line as place": what the check returns, for every table
module _ (c : Columns) where
  pub check_order : Owed Err (tt {0}) (RightOrdered c) (λ _. Ok tt) (λ _. tt {0}) (WrongOrdered c) (ordered_acceptance c) (tt {0})
  check_order = check_order_owes c

  pub check_order_fixed : Fixed (RightOrdered c) (WrongOrdered c)
  check_order_fixed = fixed (ordered_acceptance c) (ordered_exactly c) (ordered_refused_exactly c)

-- what settling in order returns and leaves: what settle leaves, or after a refusal what it was lent; 7 behind the table's own refusals, 24 with them
module _ (c : Columns) (a : Entries) where
  pub settle_ordered : (m : Measure) → Owed Err a (RightOrderedLent c a) (λ _. Ok tt) (λ _. entries_of m c) (WrongOrderedLent c a) (settled_in_order m c a).result (settled_in_order m c a).left
  settle_ordered = settle_ordered_owes c a

  pub settle_ordered_fixed : Fixed (RightOrderedLent c a) (WrongOrderedLent c a)
  settle_ordered_fixed = fixed (ordered_lent_acceptance c a) (ordered_lent_exactly c a) (ordered_lent_refused_exactly c a)

-- neither call looks at what gaps hold
module _ (c : Columns) (tails : List ℕ) (g : Gapped c tails) where
  pub check_order_over_gaps : ordered_acceptance c ≡ ordered_acceptance (with_tails c tails)
  check_order_over_gaps = order_gaps c tails g

  pub settle_ordered_over_gaps : (m : Measure) (a : Entries) → settled_in_order m c a ≡ settled_in_order m (with_tails c tails) a
  settle_ordered_over_gaps = settle_ordered_gaps c tails g

pub order_is : (e : Hyperedge) → code_of (Order e) ≡ code 24 e.0
order_is e = refl

-- "in these two calls only": the check of a table never returns 24
pub in_these_only : (c : Columns) (r : Refusal) → acceptance c ≡ Err r → number_of r < 24
in_these_only = never_order

-- nor does any other call, whatever its input
pub check_lent_not_24 : (c : Columns) (a : Entries) (r : Refusal) → lent_acceptance c a ≡ Err r → ¬ (number_of r ≡ 24)
check_lent_not_24 c a r p = lent_other (of_acceptance (check_lent_owes c a) p)

module _ (m : Measure) (c : Columns) (a : Entries) (r : Refusal) where
  pub settle_not_24 : (settled m c a).result ≡ Err r → ¬ (number_of r ≡ 24)
  settle_not_24 p = lent_other (of_acceptance (settle_owes m c a) p)

  pub check_answers_not_24 : checked m c a ≡ Err r → ¬ (number_of r ≡ 24)
  check_answers_not_24 = checked_other m c a

  module _ (e : ℕ) where
    pub reprice_not_24 : (w : ℕ) → (repriced m c a e w).result ≡ Err r → ¬ (number_of r ≡ 24)
    reprice_not_24 w p = change_other (λ q. omega arith) (of_acceptance (reprice_owes m c a e w) p)

    pub strike_not_24 : (stricken m c a e).result ≡ Err r → ¬ (number_of r ≡ 24)
    strike_not_24 p = change_other (λ q. omega arith) (of_acceptance (strike_owes m c a e) p)

    pub restore_not_24 : (restored m c a e).result ≡ Err r → ¬ (number_of r ≡ 24)
    restore_not_24 p = change_other (λ q. omega arith) (of_acceptance (restore_owes m c a e) p)

  pub bill_not_24 : (v : ℕ) (room : List ℕ) → (billed m c a v room).result ≡ Err r → ¬ (number_of r ≡ 24)
  bill_not_24 v room p = bill_other (of_extent (bill_owes m c a v room) p)

  pub append_not_24 : (k : Counts) (index list : List ℕ) (l : NewLine) → (appended m c k a index list l).result ≡ Err r → ¬ (number_of r ≡ 24)
  append_not_24 k index list l p = append_other (of_appending (append_owes m c k a index list l) p)

  pub replay_not_24 : (parts received stock outcomes : List ℕ) → (replayed m c a parts received stock outcomes).result ≡ Err r → ¬ (number_of r ≡ 24)
  replay_not_24 parts received stock outcomes p = replay_other (of_acceptance (replay_owes m c a parts received stock outcomes) p)

module _ (r : Refusal) where
  pub index_not_24 : (c : Columns) (index list : List ℕ) → (table_indexed c index list).result ≡ Err r → ¬ (number_of r ≡ 24)
  index_not_24 c index list p = index_other (of_extent (index_owes c index list) p)

  pub read_not_24 : (text h o ms s t : List ℕ) → (read_table text h o ms s t).answer ≡ Err r → ¬ (number_of r ≡ 24)
  read_not_24 text h o ms s t p = read_other (of_reading (reads text h o ms s t) p)

  pub write_not_24 : (m : Measure) (c : Columns) (room : List ℕ) → (write_table m c room).answer ≡ Err r → ¬ (number_of r ≡ 24)
  write_not_24 m c room p = write_other (of_extent (write_owes m c room) p)

  pub summarize_not_24 : (xs : List ℕ) → summary_of xs ≡ Err r → ¬ (number_of r ≡ 24)
  summarize_not_24 xs p = sample_other (refused_sample xs r p)

  pub shuffle_not_24 : (own room : List ℕ) → (shuffle_outcome own room).answer ≡ Err r → ¬ (number_of r ≡ 24)
  shuffle_not_24 own room p = shuffle_other own room p

  pub unshuffle_not_24 : (bytes own : List ℕ) → (unshuffle_outcome bytes own).answer ≡ Err r → ¬ (number_of r ≡ 24)
  unshuffle_not_24 bytes own p = unshuffle_other bytes own p
