-- `writing::put_header` meets its contract: one piece, and another in the room behind it. Assumes nothing.
use Rattle.std.proofs.Common.{◌++◌, arith, rules}
use Rattle.text.specs.Render.{digits, first_word, measure_text, header}
use Rattle.writing.proofs.Written.{lent-room, within, written_part, written_as, first_fits}
use Rattle.writing.proofs.put_header.Goals as goal

pub put_led-at-requires : goal.put_led-at-requires
unfolding header first_word
put_led-at-requires c = first_fits (first_word ++ digits c.args.n) (measure_text c.args.measure) c.args.room.now c.requires

pub slice_bounds-put_bytes-count : goal.slice_bounds-put_bytes-count
unfolding header first_word
slice_bounds-put_bytes-count c = within (first_word ++ digits c.args.n) _ _ _ c.put_led-at.ensures (measure_text c.args.measure) c.requires

pub slice_bounds-put_bytes-start : goal.slice_bounds-put_bytes-start
unfolding header first_word
slice_bounds-put_bytes-start c =
    let r = within (first_word ++ digits c.args.n) _ _ _ c.put_led-at.ensures (measure_text c.args.measure) c.requires in search (rules, r)

pub put_bytes-width-requires : goal.put_bytes-width-requires
unfolding header first_word
put_bytes-width-requires c = rw c.word.ensures (lent-room (first_word ++ digits c.args.n) _ _ _ c.put_led-at.ensures (measure_text c.args.measure) c.requires)

pub overflow_add-result : goal.overflow_add-result
unfolding header first_word
overflow_add-result c =
    let n = (written_part (first_word ++ digits c.args.n) _ _ _ c.put_led-at.ensures (measure_text c.args.measure) _ _ c.requires (written_as _ _ _ c.word.ensures c.put_bytes-width.ensures)).count in
    let w = c.requires in
    omega (arith, c.well_formed)

pub returns : goal.returns
unfolding header first_word
returns c = written_part (first_word ++ digits c.args.n) _ _ _ c.put_led-at.ensures (measure_text c.args.measure) _ _ c.requires (written_as _ _ _ c.word.ensures c.put_bytes-width.ensures)
