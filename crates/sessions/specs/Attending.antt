-- What a command does to a book, and what is printed of it. A command is a call of the book; the answer is printed as a line of its
-- own, a list of entries as a line each, and a refusal as a line with the layer book, word 0 and the refusal's number.
use Rattle.std.specs.Prelude.{◌≡◌, ℕ, List, [], ◌∷◌, ◌++◌, Some, None, Option, Result, OnOk, string_bytes}
use Rattle.theory.specs.declared.Entry.{Entry}
use Rattle.theory.specs.Measures.{Meaning}
use Rattle.theory.specs.Books.{View, Call, Answer, enter, clear, root, look, list, refused, entered, cleared, built, looked, entries_are, answered, moved}
use Rattle.theory.specs.Refusals.{refusal_number}
use Rattle.orders.specs.declared.commands.Command.{Command}
use Rattle.orders.specs.declared.commands.Command.TheVariants as command
use Rattle.answers.specs.declared.Layer.TheVariants.{Book}
use Rattle.answers.specs.Printed.{refused_line, redraw_line, clear_line, root_line, look_line, entry_line}
use Rattle.sessions.specs.declared.attend.Session.{Session}

-- the call that a command asks for; an opening asks for none
abbrev pub call_of : Command → Option Call
call_of (command.Open k n) = None
call_of (command.Redraw asked) = Some (enter asked.from asked.to asked.minutes asked.grade)
call_of command.Clear = Some clear
call_of command.Root = Some root
call_of (command.Look f t) = Some (look f t)
call_of command.List = Some list

-- the entries as they are printed, a line each
abbrev pub entries_text : {V : Type 0} → (V → List ℕ) → List (Entry V) → List ℕ
entries_text text [] = []
entries_text text (e ∷ es) = entry_line e.from e.to (text e.value) ++ entries_text text es

-- an answer to the line with this number as it is printed
abbrev pub answer_text : {V : Type 0} → (V → List ℕ) → ℕ → Answer V → List ℕ
answer_text text number (refused e) = refused_line number Book 0 (refusal_number e)
answer_text text number (entered held) = redraw_line held
answer_text text number cleared = clear_line
answer_text text number (built builder progress) = root_line builder progress
answer_text text number (looked a) = look_line (text a)
answer_text text number (entries_are es) = entries_text text es

-- what is printed of a call, if there is one
abbrev pub call_text : {V : Type 0} → Meaning V → (V → List ℕ) → ℕ → View V → Option Call → List ℕ
call_text m text number v None = []
call_text m text number v (Some c) = answer_text text number (answered m v c)

-- the book after a call, if there is one
abbrev pub call_view : {V : Type 0} → Meaning V → View V → Option Call → View V
call_view m v None = v
call_view m v (Some c) = moved m v c

-- what is printed of a command, by how values are printed, the line's number and the book
abbrev pub printed : {V : Type 0} → Meaning V → (V → List ℕ) → ℕ → View V → Command → List ℕ
printed m text number v c = call_text m text number v (call_of c)

-- the book after a command
abbrev pub attended : {V : Type 0} → Meaning V → View V → Command → View V
attended m v c = call_view m v (call_of c)

-- every value is printed as the text says
abbrev pub PrintedAs : {V : Type 0} → (V → Option (List ℕ)) → (V → List ℕ) → Type 0
PrintedAs {V} shown text = (a : V) → shown a ≡ Some (text a)

-- the text is the one before, and after it what is told, where values are printed as they are shown
abbrev pub ToldAs : {V : Type 0} → (V → Option (List ℕ)) → List ℕ → ((V → List ℕ) → List ℕ) → List ℕ → Type 0
ToldAs {V} shown before told after = (text : V → List ℕ) → PrintedAs shown text → after ≡ before ++ told text

-- the session holds the same book and the same text as before
pub record Keeps {B : Type 0} (before after : Session B) : Type 0 where
  pub same_book : after.book.ghost_name ≡ before.book.ghost_name
  pub same_out : after.out.ghost_name ≡ before.out.ghost_name

-- a call, if there is one, was carried out by the session for the line with this number: the book moved by it, and its answer was
-- printed unless memory ran out
pub record Answered {B V X Y : Type 0} (view : B → View V) (m : Meaning V) (shown : V → Option (List ℕ)) (number : ℕ) (call : Option Call) (before after : Session B) (r : Result X Y) : Type 0 where
  pub moves : view after.book.now ≡ call_view m (view before.book.now) call
  pub tells : OnOk r (ToldAs shown (string_bytes before.out.now) (λ text. call_text m text number (view before.book.now) call) (string_bytes after.out.now))
