-- What appending leaves: the longer table with its index and its answers, and behind them what stood there; on a refusal everything. Assumes nothing.
use mathlib.Core.Path.{◌≡◌, refl, sym, ◌∙◌, ap, subst₂}
use mathlib.Core.List.{List}
use Prim.Native.Nat.{ℕ, ◌+◌, ◌*◌}
use native.Mathlib.Omega.{arith}
use lib.ListN.{length, drop}
use lib.Seq.{drop_at}
use Rattle.weights.specs.declared.Measure.{Measure}
use Rattle.refusal.specs.declared.Refusal.{Refusal}
use Rattle.refusal.specs.declared.Counts.{Counts}
use Rattle.columns.specs.Columns.{Entries, Columns}
use Rattle.columns.specs.Filled.{filled}
use Rattle.columns.specs.Longer.{NewLine, in_use_of, longer}
use Rattle.columns.proofs.Accepted.{columns_accept}
use Rattle.columns.proofs.Filled.{take-filled}
use Rattle.columns.proofs.Longer.{longer_lines}
use Rattle.settle.specs.Settling.{entries_of}
use Rattle.settle.proofs.Demands.{entries_mean, entries_sized}
use Rattle.settle.proofs.Exactly.{yes_exactly, demand_entry}
use Rattle.settle.proofs.States.{answers_state}
use Rattle.uses.proofs.Pairs.{length_pairs}
use Rattle.indextable.specs.Index.{index_of}
use Rattle.indextable.specs.Told.{Told}
use Rattle.indextable.proofs.Told.{index_told}
use Rattle.append.specs.Appending.{new_counts, Grown, grown, append_acceptance, appended}
use Rattle.append.specs.Leaves.{Extended, Behind}
use Rattle.append.proofs.Checks.{append_passed}
use Rattle.append.proofs.Storing.{next_accepted, heads_next, own-next, strikes-next, spans_next, tails_next, cut_is}
use Rattle.refusal.specs.Answers.{Acceptance, Appending}
use Rattle.std.specs.Prelude.{Ok, Err}

-- what was not filled
kept_behind : (new old : List ℕ) (n : ℕ) → length new ≡ n → drop n (filled new old) ≡ drop n old
unfolding filled
kept_behind new old n e = drop_at new (drop (length new) old) n e ∙ ap (λ (z : ℕ). drop z old) e

same_counts : {x y : Counts} → ◌≡◌ {A = Appending} (Ok x) (Ok y) → x ≡ y
same_counts e = cc

no_counts : {r : Refusal} {x : Counts} {A : Type 0} → ◌≡◌ {A = Appending} (Err r) (Ok x) → A
no_counts e = let z : ◌≡◌ {A = ℕ} 0 1 = cc in absurd (omega arith)

module _ (m : Measure) (c : Columns) (k : Counts) (a : Entries) (index list : List ℕ) (l : NewLine) where
  abbrev t : Columns
  t = longer (in_use_of c k) l

  abbrev left : Grown
  left = appended m c k a index list l

  module _ (p : append_acceptance m c k a index list l ≡ Ok tt) where
    left_is : left ≡ grown m c k a index list l (Ok tt)
    unfolding appended
    left_is = ap (grown m c k a index list l) p

    extended_by : Extended m c k l (new_counts c k l) (grown m c k a index list l (Ok tt)) t
    extended_by =
        let g = append_passed m c k a index list l p in
        let h = g.appendable in
        let q = next_accepted c k a l h in
        let s = columns_accept t (entries_of m t) q (entries_sized m t q) in
        let n : length (index_of t).pairs ≡ 2 * t.vertices = length_pairs _ _ t.vertices in
        let ps = take-filled (index_of t).pairs index (2 * t.vertices) n in
        let ls = take-filled (index_of t).list list (length (index_of t).list) refl in
        record {
          counts = refl;
          table = cut_is c k a l h;
          longer_is = refl;
          lines = longer_lines (in_use_of c k) l h.table;
          accepted = q;
          pairs = ps;
          list = ls;
          told = subst₂ (Told t) (sym ps) (sym ls) (index_told t q);
          answers = refl;
          means = entries_mean m t q;
          states = answers_state m t q;
          checks = (yes_exactly m t (entries_of m t)).1 (record { accepted = s; means = λ v _. demand_entry (entries_mean m t q v) });
        }

    behind_by : Behind c index list (new_counts c k l) (grown m c k a index list l (Ok tt)) t
    behind_by =
        let h = (append_passed m c k a index list l p).appendable in
        let n : length (index_of t).pairs ≡ 2 * t.vertices = length_pairs _ _ t.vertices in
        record {
          heads = kept_behind t.heads c.heads (k.edges + 1) (heads_next c k a l h);
          own = kept_behind t.own c.own (k.edges + 1) (own-next c k a l h);
          strikes = kept_behind t.strikes c.strikes (k.edges + 1) (strikes-next c k a l h);
          spans = kept_behind t.spans c.spans (2 * (k.edges + 1)) (spans_next c k a l h);
          tails = kept_behind t.tails c.tails _ (tails_next c k a l h);
          pairs = kept_behind (index_of t).pairs index (2 * t.vertices) n;
          list_behind = kept_behind (index_of t).list list (length (index_of t).list) refl;
        }

  -- by the result that was returned
  told_accepted : (x : Acceptance) {k' : Counts} → append_acceptance m c k a index list l ≡ x
      → (grown m c k a index list l x).result ≡ Ok k' → (append_acceptance m c k a index list l ≡ Ok tt) × (new_counts c k l ≡ k')
  told_accepted (Ok _) p e = (p, same_counts e)
  told_accepted (Err r) p e = no_counts e

  module _ (k' : Counts) (e : left.result ≡ Ok k') where
    accepted : (append_acceptance m c k a index list l ≡ Ok tt) × (new_counts c k l ≡ k')
    unfolding appended
    accepted = told_accepted (append_acceptance m c k a index list l) refl e

    -- table, index and answers are those of the longer table
    pub appended-longer : Extended m c k l k' left t
    appended-longer = subst₂ (λ (x : Counts) (o : Grown). Extended m c k l x o t) accepted.1 (sym (left_is accepted.0)) (extended_by accepted.0)

    -- every place behind them keeps its bytes
    pub appended_behind : Behind c index list k' left t
    appended_behind = subst₂ (λ (x : Counts) (o : Grown). Behind c index list x o t) accepted.1 (sym (left_is accepted.0)) (behind_by accepted.0)

  -- the result is what the checks say
  pub appended_result : (r : Refusal) → append_acceptance m c k a index list l ≡ Err r → left.result ≡ Err r
  unfolding appended
  appended_result r p = rw p

  -- a refusal leaves everything
  pub appended_keeps : (r : Refusal) → left.result ≡ Err r → (left.table ≡ c) × ((left.answers ≡ a) × ((left.index ≡ index) × (left.list ≡ list)))
  unfolding appended
  appended_keeps r e = go (append_acceptance m c k a index list l) e
    where
      go : (x : Acceptance) → (grown m c k a index list l x).result ≡ Err r → let o = grown m c k a index list l x in
          (o.table ≡ c) × ((o.answers ≡ a) × ((o.index ≡ index) × (o.list ≡ list)))
      go (Ok _) e = no_counts (sym e)
      go (Err s) e = (refl, (refl, (refl, refl)))
