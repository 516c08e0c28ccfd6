-- `settle::right_in` meets its contract: the columns hold the values and heights of the lines before anything is compared from them. Assumes nothing.
use mathlib.Core.Path.{sym, ◌∙◌}
use Rattle.settle.proofs.Comparing.{valuable, comparable, wrong_fit, right_fit}
use Rattle.settle.proofs.right_in.Goals as goal

pub line_values-requires : goal.line_values-requires
line_values-requires c = valuable c.requires

pub vertices_right-requires : goal.vertices_right-requires
vertices_right-requires c = comparable c.args.measure c.requires c.line_values.ensures

pub returns-then-not-vertices_right : goal.returns-then-not-vertices_right
returns-then-not-vertices_right c =
    wrong_fit c.args.measure c.requires c.line_values.ensures (sym c.vertices_right.ensures ∙ c.if-not-vertices_right.true)

pub edges_right-requires : goal.edges_right-requires
edges_right-requires c = comparable c.args.measure c.requires c.line_values.ensures

pub returns : goal.returns
returns c =
    c.edges_right.ensures
    ∙ right_fit c.args.measure c.requires c.line_values.ensures (sym c.vertices_right.ensures ∙ c.if-not-vertices_right.false)
