use Rattle.std.proofs.Common.{true}
use Rattle.strips.specs.Strips.{Lengthened}
use Rattle.generation.specs.Putting.{Put}
use Rattle.generation.specs.Rows.{row_below}
use Rattle.generation.proofs.ways.Row.collect.Given as goal

-- the entries of the seniors so far are put
abbrev pub invariant-loop-senior : goal.invariant-loop-senior
invariant-loop-senior g l = Lengthened l.fn.spare l.spare × Put l.fn.spare (row_below g.M.Measure.meaning l.self.way l.self.junior l.work l.senior) true l.spare
