-- The lines that are printed. A line is made of words with one space (byte 32) between them, and ends with byte 10. An accepted line is
-- answered by its first word and its answer, a refused one by the word refused, the number of the line, the layer that refuses it, its
-- first faulty word and the number of the refusal. Numbers are written in base ten without leading zeros.
use Rattle.std.specs.Prelude.{ℕ, List, [], ◌∷◌, ◌++◌, codes, decimal}
use Rattle.answers.specs.declared.Layer.{Layer}
use Rattle.answers.specs.declared.Layer.TheVariants.{Line, Book}
use Rattle.theory.specs.declared.Progress.{Progress}
use Rattle.theory.specs.declared.Progress.TheVariants.{Open, Finished}
use Rattle.orders.specs.declared.vocabulary.Kind.{Kind}
use Rattle.orders.specs.declared.vocabulary.FirstWord.TheVariants as word
use Rattle.orders.specs.Vocabulary.{spelling}

-- the words of a line, with spaces between and byte 10 at the end
abbrev pub line_of : List (List ℕ) → List ℕ
line_of [] = 10 ∷ []
line_of (w ∷ []) = w ++ (10 ∷ [])
line_of (w ∷ v ∷ ws) = w ++ (32 ∷ line_of (v ∷ ws))

-- a layer as it is printed
abbrev pub layer_text : Layer → List ℕ
layer_text Line = codes "line"
layer_text Book = codes "book"

-- how far a book is built, as it is printed
abbrev pub progress_text : Progress → List ℕ
progress_text Open = codes "open"
progress_text Finished = codes "finished"

-- a refusal: the line's number, the layer, the first faulty word and the refusal's number
abbrev pub refused_line : ℕ → Layer → ℕ → ℕ → List ℕ
refused_line line layer word number = line_of (codes "refused" ∷ decimal line ∷ layer_text layer ∷ decimal word ∷ decimal number ∷ [])

-- an opening, with the number of sheets
abbrev pub opening_line : Kind → ℕ → List ℕ
opening_line kind sheets = line_of (spelling (word.Open kind) ∷ decimal sheets ∷ [])

-- a redraw, with the number of redraws held
abbrev pub redraw_line : ℕ → List ℕ
redraw_line held = line_of (spelling word.Redraw ∷ decimal held ∷ [])

-- a clear
abbrev pub clear_line : List ℕ
clear_line = line_of (spelling word.Clear ∷ [])

-- a root, with the builder's number and how far the book is built
abbrev pub root_line : ℕ → Progress → List ℕ
root_line builder progress = line_of (spelling word.Root ∷ decimal builder ∷ progress_text progress ∷ [])

-- a look, with the value's text
abbrev pub look_line : List ℕ → List ℕ
look_line value = line_of (spelling word.Look ∷ value ∷ [])

-- an entry of the table, with the value's text
abbrev pub entry_line : ℕ → ℕ → List ℕ → List ℕ
entry_line from to value = line_of (codes "entry" ∷ decimal from ∷ decimal to ∷ value ∷ [])
