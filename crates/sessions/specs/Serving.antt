-- A session, line by line. A line without words asks for nothing and is not answered. Any other line is read as a command, which is
-- carried out on the book, or as a refusal, which is printed with the layer line. Before a book is open, lines are read up to the
-- first that is an opening.
use Rattle.std.specs.Prelude.{◌≡◌, ℕ, ◌+◌, Bool, true, false, List, [], ◌∷◌, ◌++◌, Some, None, Ok, Err, Option, Result}
use Rattle.theory.specs.Measures.{Meaning}
use Rattle.theory.specs.Books.{View}
use Rattle.words.specs.declared.split.Place.{Place}
use Rattle.words.specs.Words.{WordsOf, Only}
use Rattle.orders.specs.declared.commands.Command.{Command}
use Rattle.orders.specs.declared.commands.Command.TheVariants as command
use Rattle.orders.specs.declared.refusals.LineRefusal.{LineRefusal}
use Rattle.orders.specs.Commands.{read_as}
use Rattle.orders.specs.Refusals.{refusal_number, faulty_word}
use Rattle.answers.specs.declared.Layer.TheVariants as layers
use Rattle.answers.specs.Printed.{refused_line}
use Rattle.sessions.specs.declared.serve.Opening.{Opening}
use Rattle.sessions.specs.Attending.{ToldAs, printed, attended}

-- what a line is read as: nothing, a command or a refusal
abbrev pub Reading : Type 0
Reading = Option (Result Command LineRefusal)

-- the reading of a line whose words are at the places
abbrev pub reading_of : List ℕ → List Place → Bool → Reading
reading_of line [] opened = None
reading_of line (p ∷ ps) opened = Some (read_as line (p ∷ ps) opened)

-- the line is read so: its words stand at the places, and no other list of places is that of its words
pub record ReadAs (line : List ℕ) (opened : Bool) (reading : Reading) : Type 0 where
  pub places : List Place
  pub words : WordsOf line places
  pub only : Only line places
  pub is : reading ≡ reading_of line places opened

-- a refusal of the line language as it is printed
abbrev pub refusal_text : ℕ → LineRefusal → List ℕ
refusal_text number e = refused_line number layers.Line (faulty_word e) (refusal_number e)

-- what is printed of a line with this number
abbrev pub line_text : {V : Type 0} → Meaning V → (V → List ℕ) → ℕ → View V → Reading → List ℕ
line_text m text number v None = []
line_text m text number v (Some (Ok c)) = printed m text number v c
line_text m text number v (Some (Err e)) = refusal_text number e

-- the book after a line
abbrev pub line_view : {V : Type 0} → Meaning V → View V → Reading → View V
line_view m v None = v
line_view m v (Some (Ok c)) = attended m v c
line_view m v (Some (Err e)) = v

-- one line is read, carried out and answered
pub record LineServed {V : Type 0} (m : Meaning V) (shown : V → Option (List ℕ)) (number : ℕ) (line : List ℕ) (v w : View V) (before after : List ℕ) : Type 0 where
  pub reading : Reading
  pub read : ReadAs line true reading
  pub leaves : w ≡ line_view m v reading
  pub tells : ToldAs shown before (λ text. line_text m text number v reading) after

-- each line is read as listed
abbrev pub AllRead : Bool → List (List ℕ) → List Reading → Type 0
AllRead opened [] [] = Unit {0}
AllRead opened [] (r ∷ rs) = ⊥
AllRead opened (l ∷ ls) [] = ⊥
AllRead opened (l ∷ ls) (r ∷ rs) = ReadAs l opened r × AllRead opened ls rs

-- what is printed of the lines that follow the one with this number
abbrev pub session_text : {V : Type 0} → Meaning V → (V → List ℕ) → ℕ → View V → List Reading → List ℕ
session_text m text number v [] = []
session_text m text number v (r ∷ rs) = line_text m text (number + 1) v r ++ session_text m text (number + 1) (line_view m v r) rs

-- the book after the lines
abbrev pub session_view : {V : Type 0} → Meaning V → View V → List Reading → View V
session_view m v [] = v
session_view m v (r ∷ rs) = session_view m (line_view m v r) rs

-- all lines are read, carried out and answered, one after another
pub record Served {V : Type 0} (m : Meaning V) (shown : V → Option (List ℕ)) (number : ℕ) (lines : List (List ℕ)) (v w : View V) (before after : List ℕ) : Type 0 where
  pub readings : List Reading
  pub read : AllRead true lines readings
  pub leaves : w ≡ session_view m v readings
  pub tells : ToldAs shown before (λ text. session_text m text number v readings) after

-- the opening that a line with this number is, if it is one
abbrev pub opening_of : ℕ → Reading → Option Opening
opening_of number None = None
opening_of number (Some (Ok (command.Open kind sheets))) = Some (record { number = number; kind = kind; sheets = sheets })
opening_of number (Some (Ok (command.Redraw asked))) = None
opening_of number (Some (Ok command.Clear)) = None
opening_of number (Some (Ok command.Root)) = None
opening_of number (Some (Ok (command.Look f t))) = None
opening_of number (Some (Ok command.List)) = None
opening_of number (Some (Err e)) = None

-- what is printed of a line with this number before a book is open; an opening is answered once the book has checked it
abbrev pub waiting_text : ℕ → Reading → List ℕ
waiting_text number None = []
waiting_text number (Some (Ok (command.Open kind sheets))) = []
waiting_text number (Some (Ok (command.Redraw asked))) = []
waiting_text number (Some (Ok command.Clear)) = []
waiting_text number (Some (Ok command.Root)) = []
waiting_text number (Some (Ok (command.Look f t))) = []
waiting_text number (Some (Ok command.List)) = []
waiting_text number (Some (Err e)) = refusal_text number e

-- one line is read before a book is open, and answered
pub record LineAwaited (number : ℕ) (line : List ℕ) (found : Option Opening) (before after : List ℕ) : Type 0 where
  pub reading : Reading
  pub read : ReadAs line false reading
  pub is : found ≡ opening_of number reading
  pub tells : after ≡ before ++ waiting_text number reading

-- after a line: it is the opening and the reading ends, or it is none and the reading goes on
abbrev pub AwaitedBy : Option Opening → ℕ → List (List ℕ) → List ℕ → (List ℕ → Type 0) → Option Opening → List (List ℕ) → ℕ → List ℕ → Type 0
AwaitedBy (Some opening) number ls here onward found rest last told = (found ≡ Some opening) × (rest ≡ ls) × (last ≡ number) × (told ≡ here)
AwaitedBy None number ls here onward found rest last told = (more : List ℕ) × (told ≡ here ++ more) × onward more

-- the lines that follow the one with this number are read and answered up to the first opening: what is found, the lines left then,
-- the number of the last line read, and what is printed
abbrev pub Awaited : ℕ → List (List ℕ) → Option Opening → List (List ℕ) → ℕ → List ℕ → Type 0
Awaited number [] found rest last told = (found ≡ None) × (rest ≡ []) × (last ≡ number) × (told ≡ [])
Awaited number (l ∷ ls) found rest last told =
    (reading : Reading) × ReadAs l false reading
    × AwaitedBy (opening_of (number + 1) reading) (number + 1) ls (waiting_text (number + 1) reading) (λ more. Awaited (number + 1) ls found rest last more) found rest last told

-- the same with the text before and after it
pub record OpeningAwaited (number : ℕ) (lines : List (List ℕ)) (found : Option Opening) (rest : List (List ℕ)) (last : ℕ) (before after : List ℕ) : Type 0 where
  pub told : List ℕ
  pub awaited : Awaited number lines found rest last told
  pub tells : after ≡ before ++ told
