-- A book of redraws as it is seen from outside, what is kept true of it, and what every call of it promises.
-- A book holds five lent strips. What is seen of it is the sheets, the places, the redraws and entries in use, and the phase;
-- every other place of the strips is blank between calls.
use Rattle.std.specs.Prelude.{◌≡◌, ◌≤◌, length, take, Option, Result}
use Rattle.std.specs.Result.{result_err}
use Rattle.theory.specs.declared.Refusal.{Refusal}
use Rattle.theory.specs.Measures.{Meaning}
use Rattle.theory.specs.Books.{View, Strips, Call, Answer, laid_out, Sound, Stepped}
use Rattle.book.specs.declared.book.Book.{Book}

-- what is seen of a book
abbrev pub view : {M : Type 0} → Book M → View M
view b = record {
  sheets = b.sheets;
  register_places = length b.register.cells.now;
  table_places = length b.table.cells.now;
  redraws = take b.register.count b.register.cells.now;
  entries = take b.table.count b.table.cells.now;
  phase = b.phase;
}

-- every place of its strips
abbrev pub strips_of : {M : Type 0} → Book M → Strips M
strips_of b = record {
  register = b.register.cells.now;
  table = b.table.cells.now;
  spare = b.spare.cells.now;
  work = b.work.cells.now;
  marks = b.marks.cells.now;
}

-- what is true of every book that was made and called: counts within the places, strips laid out as its view says, and a sound view
pub record Kept {M : Type 0} (m : Meaning M) (b : Book M) : Type 0 where
  pub redraws_counted : b.register.count ≤ length b.register.cells.now
  pub entries_counted : b.table.count ≤ length b.table.cells.now
  pub strips_laid_out : strips_of b ≡ laid_out m (view b)
  pub sound : Sound m (view b)

-- what every call promises: of a kept book it answers and leaves what the rules name, and the book is kept
abbrev pub Called : {M : Type 0} → Meaning M → Book M → Call → Answer M → Book M → Type 0
Called m entry call answer exit = Kept m entry → Stepped m (view entry) call answer (view exit) × Kept m exit

-- the book holds the very slices that it held
pub record SameSlices {M : Type 0} (entry exit : Book M) : Type 0 where
  pub register_same : exit.register.cells.ghost_name ≡ entry.register.cells.ghost_name
  pub table_same : exit.table.cells.ghost_name ≡ entry.table.cells.ghost_name
  pub spare_same : exit.spare.cells.ghost_name ≡ entry.spare.cells.ghost_name
  pub work_same : exit.work.cells.ghost_name ≡ entry.work.cells.ghost_name
  pub marks_same : exit.marks.cells.ghost_name ≡ entry.marks.cells.ghost_name

-- the refusal in a result, if it has one
abbrev pub refusal_in : {X : Type 0} → Result X Refusal → Option Refusal
refusal_in r = result_err r
