use Rattle.generation.proofs.LaidRows.{row_put}
use Rattle.generation.proofs.ways.Row.add.Goals as goal

pub returns-in_ok-push-clause-put : goal.returns-in_ok-push-clause-put
returns-in_ok-push-clause-put g c =
    row_put g.M.Measure.meaning c.args.self.way c.args.self.junior c.args.senior c.args.work.now c.at-value.result c.none.result c.none-2.result c.at-value.ensures c.none.ensures c.none-2.ensures c.args.spare.now c.push.new.self c.entry_between.result
    c.better.result c.better.ensures c.if-better.true c.entry_between.ensures c.in_ok-push.ensures.answer c.in_ok-push.ensures.cells c.in_ok-push.ensures.count
