-- A strip is memory that a caller lends: a list of cells and a count. The first
-- `count` cells are in use, and every cell after them holds a given blank record.
-- The rules are over the list of cells and the count, so that the cells can be
-- lent to other code while the rules are kept.

use Rattle.std.specs.Prelude.{◌≡◌, ℕ, ◌+◌, ◌-◌, ◌<◌, ◌≤◌, List, ◌++◌, length, take, drop, replicate, Some, None, Option, Ok, Err, Result}
use Rattle.std.proofs.Math.Seq.{paste}
use Rattle.strips.specs.declared.Strip.{Strip}

-- the cells in use
abbrev pub used : {T : Type 0} → List T → ℕ → List T
used cells count = take count cells

-- the count is within the cells, and each cell past it is blank
abbrev pub Held : {T : Type 0} → T → List T → ℕ → Type 0
Held blank cells count = (count ≤ length cells) × (drop count cells ≡ replicate (length cells - count) blank)

-- the cells with each one from a place on made blank
abbrev pub wiped : {T : Type 0} → List T → ℕ → T → List T
wiped cells from blank = take from cells ++ replicate (length cells - from) blank

-- the records es written into xs from a place on: the place after them, or nothing if they do not fit
abbrev pub Added : {X : Type 0} → List X → ℕ → List X → Option ℕ → List X → Type 0
Added xs place es None ys = length xs < place + length es
Added xs place es (Some end) ys = (end ≡ place + length es) × (end ≤ length xs) × (ys ≡ paste xs place es (length es))

-- the strip is over the same slice as before, with as many places
abbrev pub SameSlice : {T : Type 0} → Strip T → Strip T → Type 0
SameSlice entry exit = (exit.cells.ghost_name ≡ entry.cells.ghost_name) × (length exit.cells.now ≡ length entry.cells.now)

-- the strip after records were put behind those in use: the slice is the same, and each place that is not in use stays blank
pub record Lengthened {T : Type 0} (entry exit : Strip T) : Type 0 where
  pub same : exit.cells.ghost_name ≡ entry.cells.ghost_name
  pub places : length exit.cells.now ≡ length entry.cells.now
  pub held : (b : T) → Held b entry.cells.now entry.count → Held b exit.cells.now exit.count

-- how many records are in use after a call that puts some in: nothing where it found too few places
abbrev pub count_after : {T X E : Type 0} → Result X E → Strip T → Option ℕ
count_after (Ok x) exit = Some exit.count
count_after (Err e) exit = None
