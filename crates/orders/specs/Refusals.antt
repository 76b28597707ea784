-- What a line is refused for before the book is asked. A refusal has its number, and it names the first faulty word of the line, counted
-- from 0 with the first word as word 0.
use Rattle.std.specs.Prelude.{ℕ}
use Rattle.orders.specs.declared.refusals.LineRefusal.{LineRefusal}
use Rattle.orders.specs.declared.refusals.LineRefusal.TheVariants.{FirstWord, WordCount, Number, Opening}

-- a refusal's number
abbrev pub refusal_number : LineRefusal → ℕ
refusal_number FirstWord = 21
refusal_number WordCount = 22
refusal_number (Number w) = 23
refusal_number Opening = 24

-- the faulty word that a refusal names: the line's first unless a number is at fault
abbrev pub faulty_word : LineRefusal → ℕ
faulty_word FirstWord = 0
faulty_word WordCount = 0
faulty_word (Number w) = w
faulty_word Opening = 0
