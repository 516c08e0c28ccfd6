-- Which bytes begin a permitted text: those with which reading has not failed, and no others. So the first byte with which it fails is the first that can't
-- stand where it stands. Assumes nothing.
use Prim.Native.Nat.{ℕ, ◌<◌}
use mathlib.Core.Path.{◌≡◌, refl, sym, ◌∙◌, ap}
use mathlib.Core.List.{List, [], ◌∷◌, ◌++◌}
use native.Mathlib.Omega.{arith}
use borrow.Author.Tests.{lt-ltb}
use Rattle.weights.specs.Figures.{standing}
use Rattle.text.specs.Tables.{edge, Table, listed_in_all}
use Rattle.weights.specs.declared.Measure.TheVariants.{Cost, Days}
use Rattle.text.specs.Render.{letters}
use Rattle.text.specs.Machine.{Place, Vertices, Head, Own, Listed, State, Spelling, Naming, First, Within, Failed, begun, with_edge}
use Rattle.text.specs.Machine.{limit, digit_of, grown, after, spell, named, ended, step, run, finish, begin, parse}
use Rattle.text.proofs.Sound.{Spells, Reached, begin_reached, run_reached}
use Rattle.text.proofs.Complete.{run-append, run-word}
use Rattle.text.proofs.Places.{run_failed}
use Rattle.text.proofs.Permitted.{read_permitted, wrong_unpermitted}
use Rattle.text.specs.Prefixes.{Begins, NotFailed}

pub failed_begins_none : (p : List ℕ) (l : ℕ) → run begin p ≡ Failed l → Begins p → ⊥
unfolding parse finish
failed_begins_none p l e b = wrong_unpermitted (p ++ b.rest) l (ap finish (run-append begin p b.rest ∙ ap (λ (σ : State). run σ b.rest) e ∙ run_failed l b.rest)) b.whole

-- bytes that bring a state to the end of a line
record Ends (σ : State) : Type 0 where
  rest : List ℕ
  table : Table
  there : run σ rest ≡ First (Head table)

first_ends : (p : Place) (s : List ℕ) → Reached (First p) s → Ends (First p)
unfolding run step digit_of grown limit ended after listed_in_all
first_ends Vertices s r = record { rest = 48 ∷ 10 ∷ []; table = begun 0 Days; there = refl }
first_ends (Head t) s r = record { rest = []; table = t; there = refl }
first_ends (Own t h k) s r = record { rest = 48 ∷ 10 ∷ []; table = with_edge t (edge h 0 k []); there = refl }
first_ends (Listed t h o k xs) s r =
    let l : h < t.vertices = r.1.0.one_more.head in
    let l' : 0 < t.vertices = omega arith in
    record { rest = 48 ∷ 10 ∷ []; table = with_edge t (edge h o k (xs ++ 0 ∷ [])); there = rw (lt-ltb _ _ l') }

spelled : (ws : List ℕ) (p : Place) → Spells ws p → run (Spelling ws p) ws ≡ First p
spelled [] p s = absurd s
spelled (w ∷ ws) p s = run-word w ws p

ends : (σ : State) (s : List ℕ) → Reached σ s → NotFailed σ → Ends σ
unfolding run step digit_of ended after listed_in_all
ends (Spelling ws p) s r g =
    let e = first_ends p (s ++ ws) (sym r.0, r.1) in
    record { rest = ws ++ e.rest; table = e.table; there = run-append (Spelling ws p) ws e.rest ∙ ap (λ (σ : State). run σ e.rest) (spelled ws p r.2) ∙ e.there }
ends (Naming n) s r g = record { rest = letters Cost ++ 10 ∷ []; table = begun n Cost; there = unfold named spell in refl }
ends (First p) s r g = first_ends p s r
ends (Within Vertices v) s r g = record { rest = 10 ∷ []; table = begun v Days; there = refl }
ends (Within (Head t) v) s r g = record { rest = 32 ∷ 48 ∷ 10 ∷ []; table = with_edge t (edge v 0 standing []); there = unfold grown limit in refl }
ends (Within (Own t h k) v) s r g = record { rest = 10 ∷ []; table = with_edge t (edge h v k []); there = refl }
ends (Within (Listed t h o k xs) v) s r g = record { rest = 10 ∷ []; table = with_edge t (edge h o k (xs ++ v ∷ [])); there = refl }
ends (Failed l) s r g = absurd g

pub others_begin_one : (p : List ℕ) → NotFailed (run begin p) → Begins p
unfolding parse finish
others_begin_one p g =
    let e = ends (run begin p) p (run_reached begin [] p begin_reached) g in
    record { rest = e.rest; whole = read_permitted (p ++ e.rest) e.table (ap finish (run-append begin p e.rest ∙ e.there)) }
