use Rattle.rounds.specs.Laying.{next_round}
use Rattle.rounds.proofs.Turning.{layable, prunable}
use Rattle.rounds.proofs.turn.Goals as goal

pub returns-clause-laid : goal.returns-clause-laid
returns-clause-laid g c = λ L es R.
    let m = g.M.Measure.meaning in
    let Y = layable m c.args.sheets c.args.register es c.args.table.now c.args.spare.now c.args.work.now R c.items.result.now c.items.ensures c.source.result (c.source.ensures.takeable c.args.sheets) in
    let (fits, P) = prunable m c.args.sheets c.args.register es c.args.table.now c.args.spare.now c.args.work.now R c.items.result.now c.items.ensures c.source.result L (c.source.ensures.table c.args.sheets)
    c.generate.new.spare (c.in_ok-generate.ensures.laid L Y) c.items-2.result.now c.items-2.ensures in
    (fits, c.prune.ensures.pruned L c.args.sheets (next_round m c.args.sheets c.args.register es) es P)
