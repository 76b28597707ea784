-- what the walk gives of the entries still ahead, it gives of the lists as they were passed
use Rattle.std.proofs.Common.{◌+◌, length}
use Rattle.tables.proofs.Walking.{GoesOn}
use Rattle.tables.proofs.lookups.walk.Given as goal

abbrev pub invariant-loop-outs : goal.invariant-loop-outs
invariant-loop-outs g l = GoesOn g.M.Measure.meaning l.fn.outs l.fn.ins l.fn.start l.outs l.ins l.best

abbrev pub decreases-loop-outs : goal.decreases-loop-outs
decreases-loop-outs g l = length l.outs + length l.ins
