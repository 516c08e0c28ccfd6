-- `desk::put_append` meets its contract, by what settling the table returned. Assumes nothing.
use mathlib.Core.Path.{◌≡◌, sym, ◌∙◌, ap}
use mathlib.Core.List.{List, ◌++◌}
use Prim.Native.Nat.{ℕ, ◌*◌}
use lib.ListN.{take, drop, replicate}
use lib.Seq.{length-take-le}
use Rattle.weights.specs.Figures.{standing}
use Rattle.columns.specs.Columns.{Entries, entries}
use Rattle.columns.specs.Acceptance.{most_vertices, most_listed}
use Rattle.columns.specs.Longer.{NewLine, new_line}
use Rattle.readtable.specs.Read.{ReadOutcome, read_outcome}
use Rattle.report.proofs.Laws.{zeros_long}
use Rattle.reply.specs.Reply.{Said, refused_by}
use Rattle.desk.specs.Desk.{indexed_said, append_said}
use Rattle.desk.proofs.Laws.{replied_as}
use Rattle.desk.proofs.Appending.{append_refused, append_accepted, start_room, start_back, start_long, entries_back}
use Rattle.desk.proofs.put_append.Goals as goal
use Rattle.std.specs.Prelude.{Ok}

pub slice_bounds-settle-end-2 : goal.slice_bounds-settle-end-2
slice_bounds-settle-end-2 c = sym (length-take-le c.args.header.edges c.args.heads.now c.requires.stands.heads)

pub slice_bounds-settle-end-4 : goal.slice_bounds-settle-end-4
slice_bounds-settle-end-4 c = sym (length-take-le c.args.header.edges c.args.own.now c.requires.stands.own)

pub slice_bounds-settle-end-6 : goal.slice_bounds-settle-end-6
slice_bounds-settle-end-6 c = sym (length-take-le c.args.header.edges c.args.strikes.now c.requires.stands.strikes)

pub slice_bounds-settle-end-8 : goal.slice_bounds-settle-end-8
slice_bounds-settle-end-8 c = sym (length-take-le (2 * c.args.header.edges) c.args.spans.now c.requires.stands.spans)

pub slice_bounds-settle-end-10 : goal.slice_bounds-settle-end-10
slice_bounds-settle-end-10 c = sym (length-take-le c.args.header.listed c.args.tails.now c.requires.stands.tails)

pub slice_bounds-settle-end-11 : goal.slice_bounds-settle-end-11
slice_bounds-settle-end-11 c = zeros_long c.args.header.vertices c.requires.stands.few

pub slice_bounds-settle-end-12 : goal.slice_bounds-settle-end-12
slice_bounds-settle-end-12 c = zeros_long c.args.header.vertices c.requires.stands.few

pub slice_bounds-settle-end-13 : goal.slice_bounds-settle-end-13
slice_bounds-settle-end-13 c = zeros_long c.args.header.vertices c.requires.stands.few

pub slice_bounds-settle-end-14 : goal.slice_bounds-settle-end-14
slice_bounds-settle-end-14 c = zeros_long c.args.header.vertices c.requires.stands.few

pub returns-in-Err : goal.returns-in-Err
returns-in-Err c =
    let left : Entries = entries c.settle-answer.new.weights c.settle-answer.new.depths c.settle-answer.new.edges c.settle-answer.new.pieces in
    let lent : ReadOutcome = read_outcome (Ok c.args.header) c.args.heads.now c.args.own.now c.args.strikes.now c.args.spans.now c.args.tails.now in
    let line : NewLine = new_line c.args.head.0 c.args.figure.0 standing c.args.needed.now in
    let said : Said = append_said c.args.header lent line in
    let refused : said ≡ refused_by c.in-Err.r = append_refused c.args.header lent line c.requires.stands.few _ left c.settle-answer.ensures _ c.in-Err.is in
    replied_as _ _ _ (sym refused) c.put_refusal.ensures

pub slice_bounds-weights-end-2 : goal.slice_bounds-weights-end-2
slice_bounds-weights-end-2 c =
    let rest : List ℕ = drop c.args.header.vertices (replicate most_vertices 0) in
    start_room c.args.header.vertices c.requires.stands.few c.settle-answer.new.weights rest c.settle-answer.auto.weights

pub slice_bounds-put_indexed-end : goal.slice_bounds-put_indexed-end
slice_bounds-put_indexed-end c =
    let rest : List ℕ = drop c.args.header.vertices (replicate most_vertices 0) in
    start_long c.args.header.vertices c.requires.stands.few c.settle-answer.new.weights rest c.settle-answer.auto.weights

pub slice_bounds-depths-end-2 : goal.slice_bounds-depths-end-2
slice_bounds-depths-end-2 c =
    let rest : List ℕ = drop c.args.header.vertices (replicate most_vertices 0) in
    start_room c.args.header.vertices c.requires.stands.few c.settle-answer.new.depths rest c.settle-answer.auto.depths

pub slice_bounds-put_indexed-end-2 : goal.slice_bounds-put_indexed-end-2
slice_bounds-put_indexed-end-2 c =
    let rest : List ℕ = drop c.args.header.vertices (replicate most_vertices 0) in
    start_long c.args.header.vertices c.requires.stands.few c.settle-answer.new.depths rest c.settle-answer.auto.depths

pub slice_bounds-edges-end-2 : goal.slice_bounds-edges-end-2
slice_bounds-edges-end-2 c =
    let rest : List ℕ = drop c.args.header.vertices (replicate most_vertices 0) in
    start_room c.args.header.vertices c.requires.stands.few c.settle-answer.new.edges rest c.settle-answer.auto.edges

pub slice_bounds-put_indexed-end-3 : goal.slice_bounds-put_indexed-end-3
slice_bounds-put_indexed-end-3 c =
    let rest : List ℕ = drop c.args.header.vertices (replicate most_vertices 0) in
    start_long c.args.header.vertices c.requires.stands.few c.settle-answer.new.edges rest c.settle-answer.auto.edges

pub slice_bounds-pieces-end-2 : goal.slice_bounds-pieces-end-2
slice_bounds-pieces-end-2 c =
    let rest : List ℕ = drop c.args.header.vertices (replicate most_vertices 0) in
    start_room c.args.header.vertices c.requires.stands.few c.settle-answer.new.pieces rest c.settle-answer.auto.pieces

pub slice_bounds-put_indexed-end-4 : goal.slice_bounds-put_indexed-end-4
slice_bounds-put_indexed-end-4 c =
    let rest : List ℕ = drop c.args.header.vertices (replicate most_vertices 0) in
    start_long c.args.header.vertices c.requires.stands.few c.settle-answer.new.pieces rest c.settle-answer.auto.pieces

pub returns : goal.returns
returns c =
    let left : Entries = entries c.settle-answer.new.weights c.settle-answer.new.depths c.settle-answer.new.edges c.settle-answer.new.pieces in
    let lent : ReadOutcome = read_outcome (Ok c.args.header) c.args.heads.now c.args.own.now c.args.strikes.now c.args.spans.now c.args.tails.now in
    let line : NewLine = new_line c.args.head.0 c.args.figure.0 standing c.args.needed.now in
    let said : Said = append_said c.args.header lent line in
    let accepted : said ≡ indexed_said c.args.header lent left (replicate (2 * most_vertices) 0) (replicate most_listed 0) line = append_accepted c.args.header lent line c.requires.stands.few _ left c.settle-answer.ensures c.in-Ok.is in
    let rest : List ℕ = drop c.args.header.vertices (replicate most_vertices 0) in
    let passed : let n = c.args.header.vertices in entries (take n (c.settle-answer.new.weights ++ rest)) (take n (c.settle-answer.new.depths ++ rest)) (take n (c.settle-answer.new.edges ++ rest)) (take n (c.settle-answer.new.pieces ++ rest)) ≡ left = let n = c.args.header.vertices in let h = c.requires.stands.few in entries_back (start_back n h c.settle-answer.new.weights rest c.settle-answer.auto.weights) (start_back n h c.settle-answer.new.depths rest c.settle-answer.auto.depths) (start_back n h c.settle-answer.new.edges rest c.settle-answer.auto.edges) (start_back n h c.settle-answer.new.pieces rest c.settle-answer.auto.pieces) in
    replied_as c.args.room.now _ c.put_indexed.new.room
    (ap (λ (z : Entries). indexed_said c.args.header lent z (replicate (2 * most_vertices) 0) (replicate most_listed 0) line) passed ∙ sym accepted)
    c.put_indexed.ensures
