-- A command as it is typed: its word, then its numbers with a single space before each, and an LF. Assumes nothing: these are definitions.
use Rattle.std.specs.Prelude.{◌≡◌, List, [], ◌∷◌, ◌++◌, ℕ, ◌≤◌, ◌<◌, length, get_or, take, replicate}
use Rattle.text.specs.Render.{tail_text}
use Rattle.command.specs.declared.Command.{Command}
use Rattle.command.specs.declared.Question.TheVariants.{Price, Bill, Reprice, Strike, Restore, Compare, Replay}
use Rattle.command.specs.declared.Query.TheVariants.{Settled, Uses, Check, CheckOrder}
use Rattle.command.specs.declared.Command.TheVariants.{Ask, Append, Mean, Misuse}
use Rattle.command.specs.Command.{
  most_numbers,
  number_limit,
  price_word,
  bill_word,
  uses_word,
  reprice_word,
  strike_word,
  restore_word,
  append_word,
  check_order_word,
  check_word,
  mean_word,
  compare_word,
  replay_word,
  CommandLine,
  command_in,
}

unfoldable pub word_of : Command → List ℕ
word_of (Ask (Settled Price)) = price_word
word_of (Ask (Settled (Bill v))) = bill_word
word_of (Ask (Settled (Reprice e w))) = reprice_word
word_of (Ask (Settled (Strike e))) = strike_word
word_of (Ask (Settled (Restore e))) = restore_word
word_of (Ask (Settled Compare)) = compare_word
word_of (Ask (Settled Replay)) = replay_word
word_of (Ask (Uses v)) = uses_word
word_of (Ask Check) = check_word
word_of (Ask CheckOrder) = check_order_word
word_of (Append h w) = append_word
word_of Mean = mean_word
word_of Misuse = []

-- `needed` are the parts that an appended line lists; other commands have none
unfoldable pub numbers_of : Command → (needed : List ℕ) → List ℕ
numbers_of (Ask (Settled Price)) needed = []
numbers_of (Ask (Settled (Bill v))) needed = v.0 ∷ []
numbers_of (Ask (Settled (Reprice e w))) needed = e.0 ∷ w.0 ∷ []
numbers_of (Ask (Settled (Strike e))) needed = e.0 ∷ []
numbers_of (Ask (Settled (Restore e))) needed = e.0 ∷ []
numbers_of (Ask (Settled Compare)) needed = []
numbers_of (Ask (Settled Replay)) needed = []
numbers_of (Ask (Uses v)) needed = v.0 ∷ []
numbers_of (Ask Check) needed = []
numbers_of (Ask CheckOrder) needed = []
numbers_of (Append h w) needed = h.0 ∷ w.0 ∷ needed
numbers_of Mean needed = []
numbers_of Misuse needed = []

unfoldable pub words_of : Command → (needed : List ℕ) → List ℕ
words_of k needed = word_of k ++ (tail_text (numbers_of k needed) ++ 10 ∷ [])

-- it is a command, with at most eighteen numbers, none of more than eighteen digits
pub record Typable (k : Command) (needed : List ℕ) : Type 0 where
  pub command : ¬ (k ≡ Misuse)
  pub few : length (numbers_of k needed) ≤ most_numbers
  pub below : (i : ℕ) → i < length (numbers_of k needed) → get_or (numbers_of k needed) i 0 < number_limit

-- the command that a line of words is, with the column that its numbers are read into
abbrev pub typed : (words : List ℕ) → CommandLine
typed words = command_in words (replicate most_numbers 0)

-- the words are read as this command with these numbers
pub record ReadAs (words : List ℕ) (k : Command) (numbers : List ℕ) : Type 0 where
  pub command : (typed words).line.command ≡ k
  pub count : (typed words).line.count ≡ length numbers
  pub column : take (length numbers) (typed words).numbers ≡ numbers
