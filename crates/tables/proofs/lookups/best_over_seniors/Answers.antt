-- the walk over the out entries of s and the in entries of t
use Rattle.tables.proofs.Seniors.{walk_over_seniors}
use Rattle.tables.proofs.lookups.best_over_seniors.Goals as goal

pub returns : goal.returns
returns g c n few sorted =
    walk_over_seniors g.met.M.Measure.lawful c.args.table.now n few sorted c.args.s c.args.t c.list_of.result.now c.list_of-2.result.now
    (c.list_of.ensures sorted.rises) (c.list_of-2.ensures sorted.rises) c.none.result c.walk.result c.none.ensures c.walk.ensures
