-- What the new line of a call holds, as data. Assumes nothing: these are definitions.
use Rattle.append.specs.declared.NewLine as lent
use Rattle.columns.specs.Longer.{NewLine, new_line}

-- the line that is lent
abbrev pub new_line_of : lent.NewLine → NewLine
new_line_of l = new_line l.head.0 l.own.0 l.mark.0 l.tail.now
