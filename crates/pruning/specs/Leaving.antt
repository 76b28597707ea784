-- The second half of a round: the generated table is pruned, judged as a whole; what is left goes into the table strip, and it is said
-- whether that is what stood there before.
use Rattle.std.specs.Prelude.{◌≡◌, ℕ, ◌≤◌, Bool, true, List, length}
use Rattle.theory.specs.declared.Entry.{Entry}
use Rattle.theory.specs.Measures.{Meaning}
use Rattle.theory.specs.Tables.{Table, listed}
use Rattle.theory.specs.Order.{blank_entry}
use Rattle.theory.specs.Rounds.{pruned}
use Rattle.theory.specs.Books.{padded, same_entries}
use Rattle.strips.specs.declared.Strip.{Strip}

-- the generated table g was laid, and the table strip holds the entries es, the rest of it blank; there are places for all of g
pub record Prunable {V : Type 0} (m : Meaning V) (n : ℕ) (g : Table V) (laid es : List (Entry V)) (table : Strip (Entry V)) : Type 0 where
  pub small : n ≤ 65536
  pub values : (u v : ℕ) → m.valid (g u v) ≡ true
  pub laid_is : laid ≡ listed m n g
  pub fits : length (listed m n g) ≤ length table.cells.now
  pub count_is : table.count ≡ length es
  pub count_within : table.count ≤ length table.cells.now
  pub table_is : table.cells.now ≡ padded (blank_entry m) (length table.cells.now) es

-- the entries of g that are left are those of the table strip, the rest of it blank; and whether they are what stood there before
pub record PrunedInto {V : Type 0} (m : Meaning V) (n : ℕ) (g : Table V) (es : List (Entry V)) (places : ℕ) (same : Bool) (table' : Strip (Entry V)) : Type 0 where
  pub entries_are : table'.count ≡ length (listed m n (pruned m g))
  pub within : table'.count ≤ places
  pub table_is : table'.cells.now ≡ padded (blank_entry m) places (listed m n (pruned m g))
  pub same_are : same ≡ same_entries m (listed m n (pruned m g)) es
