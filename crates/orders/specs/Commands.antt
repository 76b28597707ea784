-- What a line asks for. A line is checked in this order: its first word is known, as many words follow as that word takes, each of them
-- is a number, and it comes in turn, which is that an opening comes before one was accepted and any other command after. The first check
-- that fails refuses the line; where none does, the line is a command.
use Rattle.std.specs.Prelude.{ℕ, ◌+◌, Bool, cond, not, List, [], ◌∷◌, map, length, Some, None, Ok, Err, Option, Result, ◌==◌, slice_index}
use Rattle.orders.specs.declared.commands.Command.{Command}
use Rattle.orders.specs.declared.commands.Command.TheVariants as command
use Rattle.orders.specs.declared.refusals.LineRefusal.{LineRefusal}
use Rattle.orders.specs.declared.refusals.LineRefusal.TheVariants as refusal
use Rattle.orders.specs.declared.vocabulary.FirstWord.{FirstWord}
use Rattle.orders.specs.declared.vocabulary.FirstWord.TheVariants as word
use Rattle.words.specs.declared.split.Place.{Place}
use Rattle.words.specs.Numbers.{value, is_number}
use Rattle.words.specs.Tokens.{word_at}
use Rattle.orders.specs.Vocabulary.{numbers_after, begins_book, named_by}

-- the word that a line with the command begins with
abbrev pub first_word_of : Command → FirstWord
first_word_of (command.Open k n) = word.Open k
first_word_of (command.Redraw numbers) = word.Redraw
first_word_of command.Clear = word.Clear
first_word_of command.Root = word.Root
first_word_of (command.Look f t) = word.Look
first_word_of command.List = word.List

-- the command of a first word and the numbers after it
abbrev pub command_of : FirstWord → List ℕ → Command
command_of (word.Open k) ns = command.Open k (slice_index ns 0)
command_of word.Redraw ns = command.Redraw (record { from = slice_index ns 0; to = slice_index ns 1; minutes = slice_index ns 2; grade = slice_index ns 3 })
command_of word.Clear ns = command.Clear
command_of word.Root ns = command.Root
command_of word.Look ns = command.Look (slice_index ns 0) (slice_index ns 1)
command_of word.List ns = command.List

-- the first of the words that is no number, where the first of them is the line's word n
abbrev pub faulty_from : List ℕ → ℕ → List Place → Option ℕ
faulty_from line n [] = None
faulty_from line n (p ∷ ps) = cond (is_number (word_at line p)) (faulty_from line (n + 1) ps) (Some n)

-- the numbers that the words write
abbrev pub numbers_of : List ℕ → List Place → List ℕ
numbers_of line places = map (λ p. value (word_at line p)) places

-- whether a line comes out of turn: an opening after one was accepted, or any other before
abbrev pub out_of_turn : Bool → FirstWord → Bool
out_of_turn opened w = cond opened (begins_book w) (not (begins_book w))

-- the line with its numbers looked at: faulty, out of turn, or a command
abbrev pub read_numbers : List ℕ → List Place → Bool → FirstWord → Option ℕ → Result Command LineRefusal
read_numbers line rest opened w (Some n) = Err (refusal.Number n)
read_numbers line rest opened w None = cond (out_of_turn opened w) (Err refusal.Opening) (Ok (command_of w (numbers_of line rest)))

-- the line with its first word looked up: unknown, with another number of words, or with numbers to look at
abbrev pub read_rest : List ℕ → List Place → Bool → Option FirstWord → Result Command LineRefusal
read_rest line rest opened None = Err refusal.FirstWord
read_rest line rest opened (Some w) =
    cond (length rest == numbers_after w) (read_numbers line rest opened w (faulty_from line 1 rest)) (Err refusal.WordCount)

-- the line whose words are at the places
abbrev pub read_as : List ℕ → List Place → Bool → Result Command LineRefusal
read_as line [] opened = Err refusal.FirstWord
read_as line (first ∷ rest) opened = read_rest line rest opened (named_by (word_at line first))

-- the number that is the line's word n, at the place, or the refusal of a word that is none
abbrev pub number_or_fault : List ℕ → ℕ → Place → Result ℕ LineRefusal
number_or_fault line n p = cond (is_number (word_at line p)) (Ok (value (word_at line p))) (Err (refusal.Number n))

-- what the words that follow a first word make with it, whatever its turn: a command, or the refusal of their count or of the first of
-- them that is no number
abbrev pub command_with : List ℕ → FirstWord → List Place → Option ℕ → Result Command LineRefusal
command_with line w rest (Some n) = Err (refusal.Number n)
command_with line w rest None = Ok (command_of w (numbers_of line rest))

abbrev pub command_at : List ℕ → FirstWord → List Place → Result Command LineRefusal
command_at line w rest = cond (length rest == numbers_after w) (command_with line w rest (faulty_from line 1 rest)) (Err refusal.WordCount)
