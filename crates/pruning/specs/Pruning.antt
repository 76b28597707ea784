-- Pruning, entry by entry: which entries of the laid table are left, and whether they are those that stood in the table before.
use Rattle.std.specs.Prelude.{◌≡◌, ℕ, ◌≤◌, Bool, true, cond, not, ◌&&◌, List, [], ◌∷◌, ◌++◌, length, take, drop, ◌==◌, nat_lt, slice_index_or}
use Rattle.theory.specs.declared.Entry.{Entry}
use Rattle.theory.specs.Measures.{Meaning, same as same_values}
use Rattle.theory.specs.Tables.{held}
use Rattle.theory.specs.Order.{Sorted}
use Rattle.theory.specs.Books.{same_entries}
use Rattle.tables.specs.Walks.{over_seniors}

-- the entry is covered: a sheet senior to both ends has two laid entries whose join is not worse
abbrev pub covered_by : {V : Type 0} → Meaning V → List (Entry V) → Entry V → Bool
covered_by m laid e = not (m.better e.value (over_seniors m (held m laid) e.from e.to))

-- the entries of a list that are not covered
abbrev pub uncovered : {V : Type 0} → Meaning V → List (Entry V) → List (Entry V) → List (Entry V)
uncovered m laid [] = []
uncovered m laid (e ∷ es) = cond (covered_by m laid e) (uncovered m laid es) (e ∷ uncovered m laid es)

-- two entries are the same
abbrev pub same_entry : {V : Type 0} → Meaning V → Entry V → Entry V → Bool
same_entry m e f = (e.from == f.from && e.to == f.to) && same_values m e.value f.value

-- the entry stands at the place of the table, among the first so many
abbrev pub stands_at : {V : Type 0} → Meaning V → List (Entry V) → ℕ → ℕ → Entry V → Bool
stands_at m table count place e = nat_lt place count && same_entry m e (slice_index_or table place e)

-- the first i laid entries are pruned: the first `left` places of the table hold those that are left, and it is as before from there on;
-- what is found of them, with what will be found of the rest, says whether all are what stood there before
pub record PrunedUpTo {V : Type 0} (m : Meaning V) (laid before : List (Entry V)) (count i : ℕ) (table : List (Entry V)) (left : ℕ) (same : Bool) : Type 0 where
  pub left_within : left ≤ i
  pub written : take left table ++ uncovered m laid (drop i laid) ≡ uncovered m laid laid
  pub untouched : drop left table ≡ drop left before
  pub compared : (same && same_entries m (uncovered m laid (drop i laid)) (drop left (take count before))) ≡ same_entries m (uncovered m laid laid) (take count before)
  pub same_within : same ≡ true → left ≤ count

-- a table can be pruned into a strip: its entries stand in order and find places, and those that stood there before are within
pub record Prepared {V : Type 0} (m : Meaning V) (laid before : List (Entry V)) (count : ℕ) : Type 0 where
  pub sheets : ℕ
  pub small : sheets ≤ 65536
  pub in_order : Sorted m sheets laid
  pub fits : length laid ≤ length before
  pub count_within : count ≤ length before
