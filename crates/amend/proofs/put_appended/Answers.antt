-- `amend::put_appended` meets its contract, by what appending returned. Assumes nothing.
use mathlib.Core.Path.{refl}
use native.Mathlib.Omega.{arith}
use Rattle.weights.specs.Figures.{standing}
use Rattle.columns.specs.Columns.{Entries, Columns, columns, entries}
use Rattle.columns.specs.Longer.{NewLine, new_line}
use Rattle.amend.proofs.Laws.{replied_as, appended-refused, appended-counts, counts_placed}
use Rattle.amend.proofs.put_appended.Goals as goal

pub put_refusal-requires : goal.put_refusal-requires
put_refusal-requires c = omega (arith, c.requires)

-- what could be left to find is given: filled in, each would be a path counted out
pub returns-in-Err : goal.returns-in-Err
returns-in-Err c =
    let came : Entries = let a = c.args in entries a.weights.now a.depths.now a.edges.now a.pieces.now in
    let grown : Columns = columns c.args.n c.append-answer.new.heads c.append-answer.new.own c.append-answer.new.strikes c.append-answer.new.spans c.append-answer.new.tails in
    let left : Entries = entries c.append-answer.new.weights c.append-answer.new.depths c.append-answer.new.edges c.append-answer.new.pieces in
    let line : NewLine = new_line c.args.head.0 c.args.figure.0 standing c.args.needed.now in
    let table_of : Columns = let a = c.args in columns a.n a.heads.now a.own.now a.strikes.now a.spans.now a.tails.now in
    replied_as (appended-refused c.args.measure table_of c.args.in_use came c.args.index.now c.args.list.now line c.append-answer.result grown left
    c.append-answer.new.index c.append-answer.new.list c.append-answer.ensures
    c.in-Err.r c.in-Err.is) refl c.put_refusal.ensures

pub put_in_use-requires : goal.put_in_use-requires
put_in_use-requires c =
    let came : Entries = let a = c.args in entries a.weights.now a.depths.now a.edges.now a.pieces.now in
    let grown : Columns = columns c.args.n c.append-answer.new.heads c.append-answer.new.own c.append-answer.new.strikes c.append-answer.new.spans c.append-answer.new.tails in
    let left : Entries = entries c.append-answer.new.weights c.append-answer.new.depths c.append-answer.new.edges c.append-answer.new.pieces in
    let line : NewLine = new_line c.args.head.0 c.args.figure.0 standing c.args.needed.now in
    let table_of : Columns = let a = c.args in columns a.n a.heads.now a.own.now a.strikes.now a.spans.now a.tails.now in
    record {
      most_reply_in_bounds = c.requires;
      placed = counts_placed c.args.measure table_of c.args.in_use came c.args.index.now c.args.list.now line c.append-answer.result grown left
          c.append-answer.new.index c.append-answer.new.list c.append-answer.ensures c.in-Ok.counts c.in-Ok.is;
    }

pub returns-in-Ok : goal.returns-in-Ok
returns-in-Ok c =
    let came : Entries = let a = c.args in entries a.weights.now a.depths.now a.edges.now a.pieces.now in
    let grown : Columns = columns c.args.n c.append-answer.new.heads c.append-answer.new.own c.append-answer.new.strikes c.append-answer.new.spans c.append-answer.new.tails in
    let left : Entries = entries c.append-answer.new.weights c.append-answer.new.depths c.append-answer.new.edges c.append-answer.new.pieces in
    let line : NewLine = new_line c.args.head.0 c.args.figure.0 standing c.args.needed.now in
    let table_of : Columns = let a = c.args in columns a.n a.heads.now a.own.now a.strikes.now a.spans.now a.tails.now in
    replied_as (appended-counts c.args.measure table_of c.args.in_use came c.args.index.now c.args.list.now line c.append-answer.result grown left
    c.append-answer.new.index c.append-answer.new.list c.append-answer.ensures
    c.in-Ok.counts c.in-Ok.is) refl c.put_in_use.ensures
