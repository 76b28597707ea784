-- The words that a line may begin with. Each is spelled in small letters and takes so many numbers. Three of them open a book, one for
-- each measure. Any other first word is unknown.
use Rattle.std.specs.Prelude.{ℕ, Bool, true, false, cond, List, [], ◌∷◌, Some, None, codes, Option}
use Rattle.std.specs.Str.{bytes_eq}
use Rattle.orders.specs.declared.vocabulary.Kind.TheVariants.{Minutes, Chain, Weakest}
use Rattle.orders.specs.declared.vocabulary.FirstWord.{FirstWord}
use Rattle.orders.specs.declared.vocabulary.FirstWord.TheVariants as word

-- how a word is spelled
abbrev pub spelling : FirstWord → List ℕ
spelling (word.Open Minutes) = codes "minutes"
spelling (word.Open Chain) = codes "chain"
spelling (word.Open Weakest) = codes "weakest"
spelling word.Redraw = codes "redraw"
spelling word.Clear = codes "clear"
spelling word.Root = codes "root"
spelling word.Look = codes "look"
spelling word.List = codes "list"

-- how many numbers follow a word
abbrev pub numbers_after : FirstWord → ℕ
numbers_after (word.Open k) = 1
numbers_after word.Redraw = 4
numbers_after word.Clear = 0
numbers_after word.Root = 0
numbers_after word.Look = 2
numbers_after word.List = 0

-- whether a word opens a book
abbrev pub begins_book : FirstWord → Bool
begins_book (word.Open k) = true
begins_book word.Redraw = false
begins_book word.Clear = false
begins_book word.Root = false
begins_book word.Look = false
begins_book word.List = false

-- all first words
abbrev pub first_words : List FirstWord
first_words =
    word.Open Minutes ∷ word.Open Chain ∷ word.Open Weakest ∷ word.Redraw ∷ word.Clear ∷ word.Root ∷ word.Look ∷ word.List ∷ []

-- the first of the words listed that is spelled so
abbrev pub spelled_so : List ℕ → List FirstWord → Option FirstWord
spelled_so name [] = None
spelled_so name (w ∷ ws) = cond (bytes_eq name (spelling w)) (Some w) (spelled_so name ws)

-- the first word that is spelled so
abbrev pub named_by : List ℕ → Option FirstWord
named_by name = spelled_so name first_words
