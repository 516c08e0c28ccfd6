-- `report::put_numbers` meets its contract: the word, and the numbers in the room behind it. Assumes nothing.
use Rattle.std.proofs.Common.{ℕ, List, [], ◌∷◌, ◌++◌, arith, rules}
use Rattle.text.specs.Render.{tail_text}
use Rattle.writing.proofs.Written.{lent-room, within, written_part, first_fits}
use Rattle.report.specs.Report.{refused_word, refused_with}
use Rattle.report.proofs.put_numbers.Goals as goal

-- the piece behind the word
abbrev back : List ℕ → List ℕ
back numbers = tail_text numbers ++ 10 ∷ []

pub put_bytes-at-requires : goal.put_bytes-at-requires
unfolding refused_with refused_word
put_bytes-at-requires c = first_fits refused_word (back c.args.numbers.now) c.args.room.now c.requires

pub slice_bounds-put_tail-count : goal.slice_bounds-put_tail-count
unfolding refused_with refused_word
slice_bounds-put_tail-count c = within refused_word _ _ _ c.put_bytes-at.ensures (back c.args.numbers.now) c.requires

pub slice_bounds-put_tail-start : goal.slice_bounds-put_tail-start
unfolding refused_with refused_word
slice_bounds-put_tail-start c = let r = within refused_word _ _ _ c.put_bytes-at.ensures (back c.args.numbers.now) c.requires in search (rules, r)

pub put_tail-width-requires : goal.put_tail-width-requires
unfolding refused_with refused_word
put_tail-width-requires c = lent-room refused_word _ _ _ c.put_bytes-at.ensures (back c.args.numbers.now) c.requires

pub overflow_add-result : goal.overflow_add-result
unfolding refused_with refused_word
overflow_add-result c =
    let n = (written_part refused_word _ _ _ c.put_bytes-at.ensures (back c.args.numbers.now) _ _ c.requires c.put_tail-width.ensures).count in
    let w = c.requires in
    omega (arith, c.well_formed)

pub returns : goal.returns
unfolding refused_with refused_word
returns c = written_part refused_word _ _ _ c.put_bytes-at.ensures (back c.args.numbers.now) _ _ c.requires c.put_tail-width.ensures
