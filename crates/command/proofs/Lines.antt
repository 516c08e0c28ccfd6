-- What some lines of words are. Assumes nothing.
use mathlib.Core.Path.{◌≡◌, refl}
use mathlib.Core.Bool.{true, false}
use mathlib.Core.List.{[], ◌∷◌, ◌++◌}
use lib.ListN.{replicate}
use Rattle.text.specs.Machine.{digit_of}
use Rattle.cursor.specs.Cursor.{digits_from, number_of, number_at, separator_at}
use Rattle.reading.specs.Lines.{agreeing}
use Rattle.command.specs.declared.Question.TheVariants.{Price, Reprice, Compare, Replay}
use Rattle.command.specs.declared.Query.TheVariants.{Settled}
use Rattle.command.specs.declared.Command.TheVariants.{Ask, Misuse}
use Rattle.command.specs.Command.{most_numbers, price_word, reprice_word, check_word, compare_word, replay_word, line, found_number, next_at, numbers_from, command_in, takes_second}

-- `price`
pub price_line : command_in (price_word ++ 10 ∷ []) (replicate most_numbers 0) ≡ record { line = line (Ask (Settled Price)) 0; numbers = replicate most_numbers 0 }
unfolding command_in numbers_from next_at separator_at agreeing
price_line = refl

-- `compare`, `replay`
pub compare_line_lem : (command_in (compare_word ++ 10 ∷ []) (replicate most_numbers 0)).line ≡ line (Ask (Settled Compare)) 0
unfolding command_in numbers_from next_at separator_at agreeing
compare_line_lem = refl

pub replay_line_lem : (command_in (replay_word ++ 10 ∷ []) (replicate most_numbers 0)).line ≡ line (Ask (Settled Replay)) 0
unfolding command_in numbers_from next_at separator_at agreeing
replay_line_lem = refl

-- `reprice 1 350`
pub reprice_line : (command_in (reprice_word ++ 32 ∷ 49 ∷ 32 ∷ 51 ∷ 53 ∷ 48 ∷ 10 ∷ []) (replicate most_numbers 0)).line ≡ line (Ask (Settled (Reprice (record { 0 = 1 }) (record { 0 = 350 })))) 2
unfolding command_in numbers_from next_at found_number number_at number_of digits_from digit_of separator_at agreeing
reprice_line = refl

-- `check-x` begins as `check` does, and is no command
pub check_line : (command_in (check_word ++ 45 ∷ 120 ∷ 10 ∷ []) (replicate most_numbers 0)).line ≡ line Misuse 0
unfolding command_in numbers_from next_at separator_at agreeing
check_line = refl

-- `compare` and `replay` have a second input, `price` has none
pub compare_second : takes_second (compare_word ++ 10 ∷ []) ≡ true
unfolding takes_second command_in numbers_from next_at separator_at agreeing
compare_second = refl

pub replay_second : takes_second (replay_word ++ 10 ∷ []) ≡ true
unfolding takes_second command_in numbers_from next_at separator_at agreeing
replay_second = refl

pub price_second : takes_second (price_word ++ 10 ∷ []) ≡ false
unfolding takes_second command_in numbers_from next_at separator_at agreeing
price_second = refl
