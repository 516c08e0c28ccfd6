-- A permitted text is read, and what is not permitted is refused at the first line that breaks a rule. The paper's "The text", and 14 of "What is turned
-- away". Assumes nothing.
use Prim.Native.Nat.{ℕ}
use mathlib.Core.Path.{◌≡◌, refl, sym, ◌∙◌, ap}
use mathlib.Core.List.{List}
use Rattle.text.specs.Tables.{Edge, Table, table_of, columns_of}
use Rattle.text.specs.Render.{text_of, Permitted}
use Rattle.text.specs.Machine.{Parse, Whole, Wrong, parse}
use Rattle.text.specs.Rows.{WithinLimits}
use Rattle.text.proofs.Rows.{edges_of-columns, accepted_fits, fits_accepted}
use Rattle.text.proofs.Sound.{sound, never}
use Rattle.text.proofs.Complete.{complete}
use Rattle.text.specs.Places.{first_lines}
use Rattle.text.proofs.Places.{first_unread}
use Rattle.text.specs.Permitted.{FirstWrong}

pub table_permitted : (s : List ℕ) (t : Table) → WithinLimits t → s ≡ text_of t → Permitted s
table_permitted s t f e = record {
  measure = t.measure;
  table = columns_of t.vertices t.edges;
  accepted = fits_accepted t f;
  same = e ∙ ap (λ (es : List Edge). text_of (record { vertices = t.vertices; measure = t.measure; edges = es })) (sym (edges_of-columns t.vertices t.edges));
}

pub permitted_read : (s : List ℕ) (p : Permitted s) → parse s ≡ Whole (table_of p.measure p.table)
permitted_read s p = ap parse p.same ∙ complete (table_of p.measure p.table) (accepted_fits p.measure p.table p.accepted)

pub read_permitted : (s : List ℕ) (t : Table) → parse s ≡ Whole t → Permitted s
read_permitted s t e = let r = sound s t e in table_permitted s t r.0 r.1

pub wrong_unpermitted : (s : List ℕ) (k : ℕ) → parse s ≡ Wrong k → Permitted s → ⊥
wrong_unpermitted s k e p = never (sym e ∙ permitted_read s p)

pub wrong_place : (s : List ℕ) (k : ℕ) → parse s ≡ Wrong k → FirstWrong s k
wrong_place s k e =
    let f = first_unread s k e in
    record {
      counted = f.counted;
      wrong = λ p. f.wrong _ (permitted_read (first_lines s k) p);
      right = λ j l m. read_permitted (first_lines s j) (f.right j l m).0 (f.right j l m).1;
    }

-- what is not permitted is refused, at that line
pub unpermitted_wrong : (s : List ℕ) → (Permitted s → ⊥) → (k : ℕ) × (parse s ≡ Wrong k) × FirstWrong s k
unpermitted_wrong s n = go (parse s) refl
  where
    go : (a : Parse) → parse s ≡ a → (k : ℕ) × (parse s ≡ Wrong k) × FirstWrong s k
    go (Whole t) e = absurd (n (read_permitted s t e))
    go (Wrong k) e = (k, e, wrong_place s k e)
