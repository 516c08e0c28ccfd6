-- `waiting::wait` meets its contract: three stores, and the two of `link`. Assumes nothing.
use lib.ListN.{set}
use Rattle.waiting.proofs.wait.Goals as goal

pub returns : goal.returns
returns c =
    let a = c.args in
    let l = c.link.ensures in λ i.
    record {
      first = l.first i;
      next = l.next i;
      at = set a.at.now a.e.0 a.to.at;
      joined = set a.joined.now a.e.0 a.to.joined.0;
      deepest = set a.deepest.now a.e.0 a.to.deepest;
    }
