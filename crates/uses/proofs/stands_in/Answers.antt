-- `uses::stands_in` meets its contract: a place holds v, or none does. Assumes nothing.
use lib.Dec.{eqb}
use Rattle.std.proofs.lemmas.Bool.Decides.{Decides-eqb}
use Rattle.std.proofs.lemmas.List.Elements.{contains_decides}
use Rattle.uses.proofs.Hits.{member_decides}
use Rattle.uses.proofs.stands_in.Goals as goal

pub returns : goal.returns
returns c = member_decides _ _ _ (contains_decides eqb Decides-eqb c.args.list.now c.args.v.0 c.contains.result c.contains.ensures.cases)
