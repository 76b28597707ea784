use Rattle.std.proofs.Common.{◌-◌, length, vec_items}
use Rattle.words.proofs.Splitting.{Sofar, Ends}
use Rattle.words.proofs.split.words.Given as goal

-- the words before start are found, and where none is left they are all
abbrev pub invariant-loop-start : goal.invariant-loop-start
invariant-loop-start l = Sofar l.line (vec_items l.found) l.start × Ends l.line (vec_items l.found) l.start

abbrev pub decreases-loop-start : goal.decreases-loop-start
decreases-loop-start l = length l.line - l.start
