-- "Gaps may stand between spans and their contents are never looked at": a table with other contents in its gaps has the same answers, and settling and the
-- answer check have the same outcome, accepted or refused. Assumes nothing.
use mathlib.Core.Path.{◌≡◌, refl, sym, ◌∙◌, ap, ap₂}
use mathlib.Core.List.{List}
use Prim.Native.Nat.{ℕ}
use Rattle.weights.specs.declared.Measure.{Measure}
use Rattle.weights.specs.Measures.{algebra}
use Rattle.refusal.specs.declared.Refusal.{Refusal}
use Rattle.provenance.specs.Hypergraph.{Hypergraph}
use Rattle.columns.specs.Columns.{Entries, Columns, own_at}
use Rattle.provenance.specs.BestFirst.{labels, best_first}
use Rattle.provenance.specs.Pieces.{piece_column}
use Rattle.columns.specs.Acceptance.{acceptance, lent_acceptance}
use Rattle.columns.proofs.Accepted.{columns_accepted}
use Rattle.columns.specs.Same.{same_entries}
use Rattle.columns.specs.Gaps.{Gapped, with_tails}
use Rattle.columns.proofs.Gaps.{gaps_lent}
use Rattle.tables.proofs.Gaps.{gaps_hypergraph}
use Rattle.settle.specs.Settling.{answers_of, entries_of, outcome, settled}
use Rattle.settle.specs.Checking.{verdict, checked}
use Rattle.refusal.specs.Answers.{Acceptance}
use Rattle.std.specs.Prelude.{Ok, Err}

module _ (m : Measure) (c : Columns) (tails : List ℕ) (g : Gapped c tails) where
  abbrev c' : Columns
  c' = with_tails c tails

  pub gaps_answers : acceptance c ≡ Ok tt → answers_of m c ≡ answers_of m c'
  unfolding answers_of
  gaps_answers p = ap (λ (H : Hypergraph). best_first (algebra m) H (own_at c)) (gaps_hypergraph c tails g p)

  pub gaps_entries : acceptance c ≡ Ok tt → entries_of m c ≡ entries_of m c'
  unfolding entries_of
  gaps_entries p =
      let H = gaps_hypergraph c tails g p in
      let a = gaps_answers p in
      λ i. record { labels = a i; pieces = piece_column (H i) (labels (a i)) c.vertices }

  -- an outcome that looks at the answers of an accepted table alone
  alike : {B : Type 0} (f : Acceptance → Entries → B) (a : Entries) → ((r : Refusal) (x y : Entries) → f (Err r) x ≡ f (Err r) y)
      → f (lent_acceptance c a) (entries_of m c) ≡ f (lent_acceptance c' a) (entries_of m c')
  alike f a k = go (lent_acceptance c a) refl
    where
      go : (x : Acceptance) → lent_acceptance c a ≡ x → f (lent_acceptance c a) (entries_of m c) ≡ f (lent_acceptance c' a) (entries_of m c')
      go (Ok _) p = ap₂ f (gaps_lent c tails g a) (gaps_entries (columns_accepted c a p).table)
      go (Err r) p =
          ap (λ (x : Acceptance). f x (entries_of m c)) p
          ∙ k r (entries_of m c) (entries_of m c')
          ∙ sym (ap (λ (x : Acceptance). f x (entries_of m c')) (sym (gaps_lent c tails g a) ∙ p))

  pub gaps_settled : (a : Entries) → settled m c a ≡ settled m c' a
  unfolding settled
  gaps_settled a = alike (λ x b. outcome x b a) a (λ r x y. refl)

  pub gaps_checked : (a : Entries) → checked m c a ≡ checked m c' a
  unfolding checked
  gaps_checked a = alike (λ x b. verdict x (same_entries a b)) a (λ r x y. refl)
