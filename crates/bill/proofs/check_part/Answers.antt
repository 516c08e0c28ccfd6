-- `bill::check_part` meets its contract: the tests that led to a return say which is the first to fail. Assumes nothing.
use mathlib.Core.Path.{◌≡◌, sym, ◌∙◌}
use mathlib.Core.Bool.{true}
use native.Mathlib.Omega.{arith}
use Rattle.columns.specs.Columns.{Entries, Columns, columns, entries}
use Rattle.columns.specs.Acceptance.{lent_acceptance}
use Rattle.columns.proofs.Accepted.{columns_accepted, table_accepted}
use Rattle.columns.specs.Same.{same_entries}
use Rattle.settle.specs.Settling.{entries_of}
use Rattle.bill.proofs.Admitted.{part_refused, part_absent, part_wrong, part_placed, part_underivable, part_accepted}
use Rattle.refusal.proofs.Passed.{passed_on}
use Rattle.bill.proofs.check_part.Goals as goal
use Rattle.std.specs.Prelude.{Ok}

pub returns-in_err-check_lent : goal.returns-in_err-check_lent
returns-in_err-check_lent c = rw (passed_on _ c.from_residual.ensures.1) (part_refused _ _ _ _ (sym c.check_lent.ensures ∙ c.in_err-check_lent.was))

pub returns-then-part-n : goal.returns-then-part-n
returns-then-part-n c =
    let came : Entries = let a = c.args in entries a.entries.now.weights.now a.entries.now.depths.now a.entries.now.edges.now a.entries.now.pieces.now in
    let table_of : Columns = let a = c.args in columns a.table.now.vertices a.table.now.heads.now a.table.now.own.now a.table.now.strikes.now a.table.now.spans.now a.table.now.tails.now in
    let accepted : lent_acceptance table_of came ≡ (Ok tt) = sym c.check_lent.ensures ∙ c.in_ok-check_lent.was in
    part_absent _ _ _ _ accepted c.if-part-n.true

pub answers_right-requires : goal.answers_right-requires
answers_right-requires c =
    let came : Entries = let a = c.args in entries a.entries.now.weights.now a.entries.now.depths.now a.entries.now.edges.now a.entries.now.pieces.now in
    let table_of : Columns = let a = c.args in columns a.table.now.vertices a.table.now.heads.now a.table.now.own.now a.table.now.strikes.now a.table.now.spans.now a.table.now.tails.now in
    let accepted : lent_acceptance table_of came ≡ (Ok tt) = sym c.check_lent.ensures ∙ c.in_ok-check_lent.was in
    columns_accepted _ _ accepted

pub returns-then-not-answers_right : goal.returns-then-not-answers_right
returns-then-not-answers_right c =
    let came : Entries = let a = c.args in entries a.entries.now.weights.now a.entries.now.depths.now a.entries.now.edges.now a.entries.now.pieces.now in
    let table_of : Columns = let a = c.args in columns a.table.now.vertices a.table.now.heads.now a.table.now.own.now a.table.now.strikes.now a.table.now.spans.now a.table.now.tails.now in
    let accepted : lent_acceptance table_of came ≡ (Ok tt) = sym c.check_lent.ensures ∙ c.in_ok-check_lent.was in
    part_wrong _ _ _ _ accepted c.if-part-n.false (sym c.answers_right.ensures ∙ c.if-not-answers_right.true)

pub offset_bounds-depths-i : goal.offset_bounds-depths-i
offset_bounds-depths-i c =
    let came : Entries = let a = c.args in entries a.entries.now.weights.now a.entries.now.depths.now a.entries.now.edges.now a.entries.now.pieces.now in
    let table_of : Columns = let a = c.args in columns a.table.now.vertices a.table.now.heads.now a.table.now.own.now a.table.now.strikes.now a.table.now.spans.now a.table.now.tails.now in
    let accepted : lent_acceptance table_of came ≡ (Ok tt) = sym c.check_lent.ensures ∙ c.in_ok-check_lent.was in
    omega (arith, c.if-part-n.false, (table_accepted table_of (columns_accepted table_of came accepted).table).few)

pub bounds-depths-i : goal.bounds-depths-i
bounds-depths-i c =
    let came : Entries = let a = c.args in entries a.entries.now.weights.now a.entries.now.depths.now a.entries.now.edges.now a.entries.now.pieces.now in
    let table_of : Columns = let a = c.args in columns a.table.now.vertices a.table.now.heads.now a.table.now.own.now a.table.now.strikes.now a.table.now.spans.now a.table.now.tails.now in
    let accepted : lent_acceptance table_of came ≡ (Ok tt) = sym c.check_lent.ensures ∙ c.in_ok-check_lent.was in
    part_placed c.args.measure table_of came _ accepted c.if-part-n.false

pub returns-then-depths-i-eq0 : goal.returns-then-depths-i-eq0
returns-then-depths-i-eq0 c =
    let came : Entries = let a = c.args in entries a.entries.now.weights.now a.entries.now.depths.now a.entries.now.edges.now a.entries.now.pieces.now in
    let table_of : Columns = let a = c.args in columns a.table.now.vertices a.table.now.heads.now a.table.now.own.now a.table.now.strikes.now a.table.now.spans.now a.table.now.tails.now in
    let accepted : lent_acceptance table_of came ≡ (Ok tt) = sym c.check_lent.ensures ∙ c.in_ok-check_lent.was in
    let right : same_entries came (entries_of c.args.measure table_of) ≡ true = sym c.answers_right.ensures ∙ c.if-not-answers_right.false in
    part_underivable _ _ _ _ accepted c.if-part-n.false right c.if-depths-i-eq0.true

pub returns : goal.returns
returns c =
    let came : Entries = let a = c.args in entries a.entries.now.weights.now a.entries.now.depths.now a.entries.now.edges.now a.entries.now.pieces.now in
    let table_of : Columns = let a = c.args in columns a.table.now.vertices a.table.now.heads.now a.table.now.own.now a.table.now.strikes.now a.table.now.spans.now a.table.now.tails.now in
    let accepted : lent_acceptance table_of came ≡ (Ok tt) = sym c.check_lent.ensures ∙ c.in_ok-check_lent.was in
    let right : same_entries came (entries_of c.args.measure table_of) ≡ true = sym c.answers_right.ensures ∙ c.if-not-answers_right.false in
    part_accepted _ _ _ _ accepted c.if-part-n.false right c.if-depths-i-eq0.false
