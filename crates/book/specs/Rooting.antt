-- The turn of the root builder: which root comes next, the book once its entries are put in, and the book once the phase has moved on.
use Rattle.std.specs.Prelude.{◌≡◌, ℕ, suc, ◌<◌, ◌≤◌, length}
use Rattle.theory.specs.Measures.{Meaning}
use Rattle.theory.specs.Books.{View, laid_out, changed, root_entries, root_refusal, places_refusal, roots_done}
use Rattle.book.specs.declared.book.Book.{Book}
use Rattle.book.specs.Views.{view, strips_of, Kept}

-- the next root of the book is r: it stands after r roots, and only want of places can refuse it
pub record NextRoot {V : Type 0} (m : Meaning V) (v : View V) (r : ℕ) : Type 0 where
  pub below : r < v.sheets
  pub roots_are : roots_done v.phase ≡ r
  pub entries_are : v.entries ≡ root_entries m v r
  pub only_places : root_refusal m v v.phase ≡ places_refusal v (length (root_entries m v (suc r)))

-- the entries of the root r are put in, and the phase has not moved on yet
pub record PutIn {V : Type 0} (m : Meaning V) (v : View V) (r : ℕ) (b : Book V) : Type 0 where
  pub seen : view b ≡ changed v v.redraws (root_entries m v (suc r)) v.phase
  pub enough : length (root_entries m v (suc r)) ≤ v.table_places
  pub redraws_counted : b.register.count ≤ length b.register.cells.now
  pub entries_counted : b.table.count ≤ length b.table.cells.now
  pub strips_laid_out : strips_of b ≡ laid_out m (view b)

-- the entries of the root r do not fit, and the book is as it was
pub record LeftOut {V : Type 0} (m : Meaning V) (v : View V) (r : ℕ) (b : Book V) : Type 0 where
  pub wanting : v.table_places < length (root_entries m v (suc r))
  pub seen : view b ≡ v
  pub kept : Kept m b
