-- Why a call is turned away, each with its number, and what a builder says of the book.
use Rattle.std.specs.Prelude.{ℕ}
use Rattle.theory.specs.declared.Refusal.{Refusal}
use Rattle.theory.specs.declared.Refusal.TheVariants.{SheetCount, RegisterPlaces, TablePlaces, SparePlaces, WorkPlaces, UnknownSheet, SameSheet, Minutes, Grade, RegisterFull, OtherBuilder, AlreadyFinished, WantOfPlaces, NotFinished}

-- the number of a refusal
abbrev pub refusal_number : Refusal → ℕ
refusal_number SheetCount = 1
refusal_number RegisterPlaces = 2
refusal_number TablePlaces = 3
refusal_number SparePlaces = 4
refusal_number WorkPlaces = 5
refusal_number UnknownSheet = 6
refusal_number SameSheet = 7
refusal_number Minutes = 8
refusal_number Grade = 9
refusal_number RegisterFull = 10
refusal_number OtherBuilder = 11
refusal_number AlreadyFinished = 12
refusal_number WantOfPlaces = 13
refusal_number NotFinished = 14
