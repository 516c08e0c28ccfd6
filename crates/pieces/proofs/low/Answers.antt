-- `pieces::low` meets its contract: all are low, or one is not. Assumes nothing.
use Prim.Native.Nat.{◌≤◌, ◌<◌}
use borrow.Author.Tests.{tests}
use Rattle.std.proofs.Common.{rules}
use Rattle.std.proofs.lemmas.Iterator.{cases_from_all, YieldsList-from_slice}
use Rattle.provenance.specs.Pieces.{most_pieces}
use Rattle.pieces.proofs.Sums.{low_cases}
use Rattle.pieces.proofs.low.Goals as goal

pub returns : goal.returns
returns c =
    low_cases _ _ (cases_from_all _ _ _ (λ p. p ≤ most_pieces) (λ p. most_pieces < p) c.all.ensures.ran (YieldsList-from_slice c.args.pieces.now cc) (λ x q k. search (rules, tests)) (λ x q k. search (rules, tests)))
