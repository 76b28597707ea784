use Rattle.std.proofs.Common.{◌≤◌, length, Some}
use Rattle.theory.specs.Searches.{fresh_below}
use Rattle.strips.specs.Strips.{Added, Lengthened}
use Rattle.roots.proofs.search.Search.collect.Given as goal

-- the entries of the sheets so far are put in
abbrev pub invariant-loop-sheet : goal.invariant-loop-sheet
invariant-loop-sheet g l =
    Lengthened l.initial.spare l.spare
    × (l.initial.spare.count ≤ length l.initial.spare.cells.now → Added l.initial.spare.cells.now l.initial.spare.count (fresh_below g.M.Measure.meaning l.self.way l.self.root l.work l.marks l.sheet) (Some l.spare.count) l.spare.cells.now)
