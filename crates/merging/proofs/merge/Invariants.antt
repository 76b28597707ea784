-- What holds at each turn of the merge, and why it ends.
use Rattle.std.proofs.Common.{◌≡◌, ◌+◌, length, take}
use Rattle.merging.proofs.Halfway.{Halfway}
use Rattle.merging.proofs.merge.Given as goal

-- what is written and what is still to come; the run that is left is the front of the whole; the count and the slice
abbrev pub invariant-loop-run : goal.invariant-loop-run
invariant-loop-run g l =
    Halfway l.fn.table.cells.now l.fn.table.count l.fn.run l.left (length l.run) l.table.cells.now
    × (l.run ≡ take (length l.run) l.fn.run)
    × ((l.table.count ≡ l.fn.table.count + length l.fn.run) × (l.table.cells.ghost_name ≡ l.fn.table.cells.ghost_name))

-- each turn takes one entry, of the table or of the run
abbrev pub decreases-loop-run : goal.decreases-loop-run
decreases-loop-run g l = l.left + length l.run
