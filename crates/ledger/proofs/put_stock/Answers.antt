-- `ledger::put_stock` meets its contract: the word, and the counts in the room behind it. Assumes nothing.
use mathlib.Core.List.{List, [], ◌∷◌, ◌++◌}
use Prim.Native.Nat.{ℕ, ◌^◌, ◌≤◌, ◌<◌}
use native.Mathlib.Omega.{arith}
use lib.ListN.{length, get_or}
use Rattle.text.specs.Render.{tail_text}
use Rattle.writing.proofs.Written.{lent-room, written_part}
use Rattle.ledger.specs.Record.{stock_word, most_shelf}
use Rattle.ledger.specs.Ledger.{most_stock_line, stock_line}
use Rattle.ledger.proofs.Rows.{counts_most}
use Rattle.ledger.proofs.put_stock.Goals as goal

-- both the word and the counts have room
short : (stock : List ℕ) → ((j : ℕ) → get_or stock j 0 < 2 ^ 64) → length stock ≤ most_shelf → length (stock_word ++ (tail_text stock ++ 10 ∷ [])) ≤ most_stock_line
short stock small few = counts_most stock small few

pub put_tail-width-requires : goal.put_tail-width-requires
put_tail-width-requires c =
    let stock : List ℕ = c.args.stock.now in
    let small : (j : ℕ) → get_or stock j 0 < 2 ^ 64 = λ j. omega (arith, c.type_inv.stock j) in
    let s : length (stock_word ++ (tail_text stock ++ 10 ∷ [])) ≤ most_stock_line = short stock small c.requires.0 in
    lent-room stock_word _ _ _ c.put_bytes-at.ensures (tail_text stock ++ 10 ∷ []) (let p = c.requires.1 in omega arith)

pub returns : goal.returns
unfolding stock_line
returns c =
    let stock : List ℕ = c.args.stock.now in
    let small : (j : ℕ) → get_or stock j 0 < 2 ^ 64 = λ j. omega (arith, c.type_inv.stock j) in
    let s : length (stock_word ++ (tail_text stock ++ 10 ∷ [])) ≤ most_stock_line = short stock small c.requires.0 in
    let w = written_part stock_word _ _ _ c.put_bytes-at.ensures (tail_text stock ++ 10 ∷ []) _ _ (let p = c.requires.1 in omega arith) c.put_tail-width.ensures in
    record { written = w; upper_bound = let n = w.count in omega arith }

pub overflow_add-result : goal.overflow_add-result
overflow_add-result c = let n = (returns c).upper_bound in omega arith
