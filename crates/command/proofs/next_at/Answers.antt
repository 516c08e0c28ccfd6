-- `command::next_at` meets its contract, by the separator. Assumes nothing.
use mathlib.Core.Path.{sym, ◌∙◌, ap}
use mathlib.Core.Bool.{Bool}
use borrow.Author.Tests.{le-leb, lt-leb}
use Rattle.weights.specs.Choice.{pick}
use Rattle.command.specs.declared.Next.TheVariants.{End, Neither}
use Rattle.command.specs.Command.{on_separator, next_at}
use Rattle.command.proofs.next_at.Goals as goal

pub returns-then-next-words : goal.returns-then-next-words
unfolding next_at
returns-then-next-words c =
    let s = c.args.words.now in
    ap (λ (b : Bool). pick b End Neither) (sym (le-leb _ _ c.if-next-words.true)) ∙ ap (on_separator s) (sym c.in-LineEnd.is ∙ c.separator_at-separator.ensures)

pub returns-in-Space : goal.returns-in-Space
unfolding next_at
returns-in-Space c =
    let s = c.args.words.now in
    c.found_at.ensures ∙ ap (on_separator s) (sym c.in-Space.is ∙ c.separator_at-separator.ensures)

pub returns-else-next-words : goal.returns-else-next-words
unfolding next_at
returns-else-next-words c =
    let s = c.args.words.now in
    ap (λ (b : Bool). pick b End Neither) (sym (lt-leb _ _ c.if-next-words.false)) ∙ ap (on_separator s) (sym c.in-LineEnd.is ∙ c.separator_at-separator.ensures)

pub returns-in-Neither : goal.returns-in-Neither
unfolding next_at
returns-in-Neither c =
    let s = c.args.words.now in
    ap (on_separator s) (sym c.in-Neither.is ∙ c.separator_at-separator.ensures)
