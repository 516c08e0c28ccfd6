-- `settle::answers_right` meets its contract: the labels decide where they are wrong, and the piece counts where they are right. Assumes nothing.
use mathlib.Core.Path.{sym, ◌∙◌}
use Rattle.columns.proofs.Accepted.{labels_accepted}
use Rattle.settle.proofs.Checked.{labels_wrong, right_counts, pieces_decide}
use Rattle.settle.proofs.answers_right.Goals as goal

pub labels_right-requires : goal.labels_right-requires
labels_right-requires c = labels_accepted c.requires

pub returns-then-not-labels_right : goal.returns-then-not-labels_right
returns-then-not-labels_right c =
    labels_wrong c.args.measure _ _ c.requires (sym c.labels_right.ensures ∙ c.if-not-labels_right.true)

pub pieces_right-requires : goal.pieces_right-requires
pieces_right-requires c =
    right_counts c.args.measure _ _ c.requires (sym c.labels_right.ensures ∙ c.if-not-labels_right.false)

pub returns : goal.returns
returns c =
    pieces_decide c.args.measure _ _ c.requires (sym c.labels_right.ensures ∙ c.if-not-labels_right.false) c.pieces_right.ensures
