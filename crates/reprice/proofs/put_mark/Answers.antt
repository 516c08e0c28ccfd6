-- `reprice::put_mark` meets its contract: the answers are refused, or the mark is stored, the table is still accepted, and `renew` leaves its answers. Assumes
-- nothing.
use mathlib.Core.Path.{◌≡◌, sym, ◌∙◌}
use mathlib.Core.Bool.{true, false}
use Rattle.columns.specs.Columns.{Entries, Columns, columns, entries}
use Rattle.columns.specs.Same.{same_entries}
use Rattle.settle.specs.Settling.{entries_of}
use Rattle.reprice.proofs.Laws.{mark_made, mark_refused, mark_renewable}
use Rattle.reprice.proofs.put_mark.Goals as goal

pub returns-then-not-answers_right : goal.returns-then-not-answers_right
returns-then-not-answers_right c =
    let came : Entries = let a = c.args in entries a.weights.now a.depths.now a.edges.now a.pieces.now in
    let table_of : Columns = let a = c.args in columns a.n a.heads.now a.own.now a.strikes.now a.spans.now a.tails.now in
    let wrong : same_entries came (entries_of c.args.measure table_of) ≡ false = sym c.answers_right.ensures ∙ c.if-not-answers_right.true in
    mark_refused table_of came c.args.line.0 c.args.mark.0 c.requires c.args.measure wrong

pub renew-requires : goal.renew-requires
renew-requires c =
    let came : Entries = let a = c.args in entries a.weights.now a.depths.now a.edges.now a.pieces.now in
    let table_of : Columns = let a = c.args in columns a.n a.heads.now a.own.now a.strikes.now a.spans.now a.tails.now in
    let right : same_entries came (entries_of c.args.measure table_of) ≡ true = sym c.answers_right.ensures ∙ c.if-not-answers_right.false in
    mark_renewable table_of came c.args.line.0 c.args.mark.0 c.requires c.args.measure right

pub returns : goal.returns
returns c =
    let came : Entries = let a = c.args in entries a.weights.now a.depths.now a.edges.now a.pieces.now in
    let table_of : Columns = let a = c.args in columns a.n a.heads.now a.own.now a.strikes.now a.spans.now a.tails.now in
    let right : same_entries came (entries_of c.args.measure table_of) ≡ true = sym c.answers_right.ensures ∙ c.if-not-answers_right.false in
    mark_made table_of came c.args.line.0 c.args.mark.0 c.requires c.args.measure right c.renew.ensures
