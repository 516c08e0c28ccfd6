use mathlib.Core.Path.{sym, ◌∙◌}
use Rattle.columns.specs.Columns.{Entries, Columns, columns, entries}
use Rattle.columns.specs.Longer.{NewLine, new_line}
use Rattle.tozbierdu.specs.Results.{used_counts}
use Rattle.tozbierdu.proofs.Laws.{append_measure, append_refused, append_counts}
use Rattle.tozbierdu.proofs.tozbierdu_append.Goals as goal

pub returns-in-Err : goal.returns-in-Err
returns-in-Err c =
    let came : Entries = let a = c.args in entries a.weights.now a.depths.now a.edges.now a.pieces.now in
    let line_of : NewLine = let a = c.args in new_line a.head a.figure a.mark a.needed.now in
    let table_of : Columns = let a = c.args in columns a.n a.heads.now a.own.now a.strikes.now a.spans.now a.tails.now in
    let a = c.args in
    append_measure table_of (used_counts a.lines a.listed) came a.index.now a.list.now line_of a.counts.now
    (sym c.measure_numbered-choice.ensures ∙ c.in-Err.is) c.result.ensures

pub returns-in-Err-a : goal.returns-in-Err-a
returns-in-Err-a c =
    let came : Entries = let a = c.args in entries a.weights.now a.depths.now a.edges.now a.pieces.now in
    let line_of : NewLine = let a = c.args in new_line a.head a.figure a.mark a.needed.now in
    let table_of : Columns = let a = c.args in columns a.n a.heads.now a.own.now a.strikes.now a.spans.now a.tails.now in
    let a = c.args in
    let measured = sym c.measure_numbered-choice.ensures ∙ c.in-Ok.is in
    append_refused table_of (used_counts a.lines a.listed) came a.index.now a.list.now line_of a.counts.now measured
    c.append-a.ensures c.in-Err-a.is c.result-in-Err-a.ensures

pub returns-in-Ok-a : goal.returns-in-Ok-a
returns-in-Ok-a c =
    let came : Entries = let a = c.args in entries a.weights.now a.depths.now a.edges.now a.pieces.now in
    let line_of : NewLine = let a = c.args in new_line a.head a.figure a.mark a.needed.now in
    let table_of : Columns = let a = c.args in columns a.n a.heads.now a.own.now a.strikes.now a.spans.now a.tails.now in
    let a = c.args in
    let measured = sym c.measure_numbered-choice.ensures ∙ c.in-Ok.is in
    append_counts table_of (used_counts a.lines a.listed) came a.index.now a.list.now line_of a.counts.now measured
    c.append-a.ensures c.in-Ok-a.is c.write_counts.ensures
