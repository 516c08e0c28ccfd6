-- What a line offers its head: a label, where there is one. Assumes nothing: this is a definition.
use Rattle.std.specs.Prelude.{Option}
use Rattle.weights.specs.declared.Label.{Label}

abbrev pub Offer : Type 0
Offer = Option Label
