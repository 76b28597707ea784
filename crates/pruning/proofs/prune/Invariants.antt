use Rattle.std.proofs.Common.{◌≡◌, length}
use Rattle.pruning.specs.Pruning.{PrunedUpTo, Prepared}
use Rattle.pruning.proofs.prune.Given as goal

-- the laid entries so far are pruned
abbrev pub invariant-loop-next : goal.invariant-loop-next
invariant-loop-next g l =
    (length l.table.cells.now ≡ length l.fn.table.cells.now)
    × (l.table.cells.ghost_name ≡ l.fn.table.cells.ghost_name)
    × (Prepared g.M.Measure.meaning l.laid l.fn.table.cells.now l.before → PrunedUpTo g.M.Measure.meaning l.laid l.fn.table.cells.now l.before l.next-index l.table.cells.now l.table.count l.same)
