-- `columns::all_below` meets its contract: the loop is a fold. Assumes nothing.
use mathlib.Core.Path.{◌≡◌, ◌∙◌}
use mathlib.Core.Bool.{true, ◌&&◌}
use native.Mathlib.Omega.{arith}
use lib.Dec.{ltb}
use Rattle.std.specs.List.{fold}
use Rattle.std.proofs.lemmas.Grind.{common_steps}
use Rattle.columns.proofs.Laws.{below_fold}
use Rattle.columns.proofs.all_below.Goals as goal

pub returns : goal.returns
returns c =
    let e : c.fold.result ≡ fold (λ b v. b && ltb v c.args.n) true c.args.list.now = grind (arith, common_steps) in
    e ∙ below_fold _ _ true
