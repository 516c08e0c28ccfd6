-- A table is indexed, and refused, exactly where request 2026-01 says. Assumes nothing.
use mathlib.Core.Path.{◌≡◌, refl, sym, ◌∙◌, ap, subst}
use mathlib.Core.List.{List}
use mathlib.Core.Logic.{◌↔◌}
use Prim.Native.Nat.{ℕ, ◌*◌}
use lib.ListN.{length}
use lib.Dec.{leb}
use borrow.Author.Tests.{leb-true, le-leb}
use Rattle.refusal.specs.declared.Refusal.{Refusal}
use Rattle.refusal.specs.declared.Refusal.TheVariants.{ColumnRoom}
use Rattle.columns.specs.Columns.{Columns}
use Rattle.columns.specs.Acceptance.{acceptance}
use Rattle.columns.specs.Filled.{filled}
use Rattle.columns.specs.Owed.{Owed}
use Rattle.columns.proofs.Accepted.{refused, test_passed, both_accepted}
use Rattle.columns.proofs.Exactly.{accepted_exactly, refused_exactly}
use Rattle.columns.proofs.Refuses.{Refuses, none_refuses, test_refuses, then_refuses}
use Rattle.indextable.specs.Index.{index_of, index_room, index_acceptance, index_outcome, table_indexed}
use Rattle.indextable.specs.Asked.{IndexFits, RightIndexing, WrongIndexing}
use Rattle.refusal.specs.Answers.{Acceptance}
use Rattle.std.specs.Prelude.{Ok, Err}

-- what does not pass is refused, where there is one refusal alone
pub failed : (x : Acceptance) (r : Refusal) → Refuses (λ s. s ≡ r) x → ¬ (x ≡ Ok tt) → x ≡ Err r
failed (Ok _) r u n = absurd (n refl)
failed (Err s) r u n = ap Err (u.holds refl)

module _ (c : Columns) (index list : List ℕ) where
  abbrev pub room : Acceptance
  room = index_room c.vertices (length (index_of c).list) index list

  -- 18 alone
  pub room_alone : Refuses (λ s. s ≡ ColumnRoom) room
  unfolding index_room
  room_alone = test_refuses (leb (2 * c.vertices) (length index)) _ _ (λ _. refl) (λ _. test_refuses (leb (length (index_of c).list) (length list)) _ _ (λ _. refl) (λ _. none_refuses))

  pub room_exactly : (room ≡ Ok tt) ↔ IndexFits c index list
  unfolding index_room
  room_exactly = (
    λ p.
        let t1 = test_passed (leb (2 * c.vertices) (length index)) _ _ p in
        let t2 = test_passed (leb (length (index_of c).list) (length list)) _ _ t1.1 in
        record { pairs = leb-true _ _ t1.0; entries = leb-true _ _ t2.0 },
    λ f. rw (le-leb _ _ f.pairs, le-leb _ _ f.entries),
  )

  pub index_exactly : (index_acceptance c index list ≡ Ok tt) ↔ RightIndexing c index list
  unfolding index_acceptance
  index_exactly = (
    λ p. let t = both_accepted (acceptance c) room p in record { table = (accepted_exactly c).0 t.0; room = room_exactly.0 t.1 },
    λ g. rw ((accepted_exactly c).1 g.table, room_exactly.1 g.room),
  )

  wrong : Refuses (WrongIndexing c index list) (index_acceptance c index list)
  unfolding index_acceptance
  wrong =
      then_refuses (acceptance c) room (record { holds = λ q. WrongIndexing.table ((refused_exactly c _).0 q) }) (λ p. record {
        holds = λ {s} q.
            subst (WrongIndexing c index list) (sym (room_alone.holds q)) (WrongIndexing.room ((accepted_exactly c).0 p) (λ f. refused (sym q ∙ room_exactly.1 f)));
      })

  refuses : {r : Refusal} → WrongIndexing c index list r → index_acceptance c index list ≡ Err r
  unfolding index_acceptance
  refuses (WrongIndexing.table w) = let q = (refused_exactly c _).1 w in rw q
  refuses (WrongIndexing.room t n) = rw ((accepted_exactly c).1 t, failed room ColumnRoom room_alone (λ p. n (room_exactly.0 p)))

  pub index_refused_exactly : (r : Refusal) → (index_acceptance c index list ≡ Err r) ↔ WrongIndexing c index list r
  index_refused_exactly r = (wrong.holds, refuses)

  pub index_owes : Owed {L = List ℕ × List ℕ} Err (index, list) (RightIndexing c index list) (λ _. Ok (length (index_of c).list))
      (λ _. (filled (index_of c).pairs index, filled (index_of c).list list)) (WrongIndexing c index list)
      (table_indexed c index list).result ((table_indexed c index list).index, (table_indexed c index list).list)
  unfolding table_indexed
  index_owes = go (index_acceptance c index list) refl
    where
      go : (x : Acceptance) → index_acceptance c index list ≡ x → let o = index_outcome (index_of c) index list x in
          Owed {L = List ℕ × List ℕ} Err (index, list) (RightIndexing c index list) (λ _. Ok (length (index_of c).list))
          (λ _. (filled (index_of c).pairs index, filled (index_of c).list list)) (WrongIndexing c index list) o.result (o.index, o.list)
      go (Ok _) p = Owed.accepted (index_exactly.0 p)
      go (Err r) p = Owed.refused ((index_refused_exactly r).0 p)
