use Rattle.std.proofs.Common.{◌≡◌}
use Rattle.theory.specs.Searches.{nearest_below}
use Rattle.roots.proofs.search.Search.nearest.Given as goal

-- the sheet found is the nearest of those below
abbrev pub invariant-loop-sheet : goal.invariant-loop-sheet
invariant-loop-sheet g l = l.found ≡ nearest_below g.M.Measure.meaning l.work l.marks l.sheet
