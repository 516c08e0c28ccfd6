-- `pieces::count_vertex` meets its contract: unmade, or by the tail of its chosen line. Assumes nothing.
use mathlib.Core.Path.{sym, ◌∙◌, ap, subst}
use mathlib.Core.List.{List}
use Prim.Native.Nat.{ℕ, ◌<◌}
use native.Mathlib.Omega.{arith}
use Rattle.provenance.specs.Pieces.{piece_count}
use Rattle.columns.specs.Columns.{cell}
use Rattle.pieces.specs.Counting.{Summable}
use Rattle.pieces.proofs.Stages.{tail_summable}
use Rattle.pieces.proofs.Whole.{local_unmade, local_made}
use Rattle.pieces.proofs.count_vertex.Goals as goal

pub returns-then-depth-eq0 : goal.returns-then-depth-eq0
returns-then-depth-eq0 c = local_unmade _ _ _ _ _ c.if-depth-eq0.true

pub tail_of-tail-requires : goal.tail_of-tail-requires
tail_of-tail-requires c =
    let made : 0 < cell c.args.depths.now c.args.v.0 = let n = c.if-depth-eq0.false in omega arith in
    c.requires.0.placed c.args.v.0 made

pub count_tail-requires : goal.count_tail-requires
count_tail-requires c =
    let made : 0 < cell c.args.depths.now c.args.v.0 = let n = c.if-depth-eq0.false in omega arith in
    subst (λ (t : List ℕ). Summable t c.args.pieces.now) (sym c.tail_of-tail.ensures) (tail_summable c.requires.0 c.requires.1 c.args.v.0 made)

pub returns : goal.returns
returns c =
    let p = cell c.args.pieces.now in
    c.count_tail.ensures ∙ ap (piece_count p) c.tail_of-tail.ensures ∙ local_made _ _ _ _ _ c.if-depth-eq0.false
