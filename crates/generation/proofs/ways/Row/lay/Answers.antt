use Rattle.std.proofs.Common.{is_ok, subst}
use Rattle.generation.specs.Laying.{next_generated}
use Rattle.generation.specs.Putting.{Put}
use Rattle.generation.proofs.Generated.{relaxable, row_values}
use Rattle.generation.proofs.LaidRows.{row_is}
use Rattle.generation.proofs.ways.Row.lay.Goals as goal

pub returns-clause-laid : goal.returns-clause-laid
returns-clause-laid g c = λ L n R.
    let m = g.M.Measure.meaning in
    let values = row_values m L n R.small c.args.self.way c.args.self.junior R.junior_below c.args.source R.takeable c.relax.new.work c.args.work.now R.work_blank (c.relax.ensures (relaxable m n c.args.source R.takeable)) in
    subst (λ es. Put c.args.spare.now es (is_ok c.collect-laid.result) c.collect-laid.new.spare) (row_is m (next_generated m n c.args.source) c.args.self.way c.args.self.junior c.relax.new.work values) c.collect-laid.ensures.put
