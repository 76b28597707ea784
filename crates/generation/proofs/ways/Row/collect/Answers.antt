use Rattle.std.proofs.Common.{suc, true, false, sym, subst, add-one}
use Rattle.generation.specs.Putting.{Put}
use Rattle.generation.specs.Rows.{row_at, row_below}
use Rattle.generation.proofs.LaidRows.{row_longer}
use Rattle.strips.proofs.Adding.{lengthened_more}
use Rattle.generation.proofs.Putting.{put_both, put_stop}
use Rattle.generation.proofs.ways.Row.collect.Goals as goal

pub returns-in_err-add-clause-put : goal.returns-in_err-add-clause-put
returns-in_err-add-clause-put g c =
    let below = row_below g.M.Measure.meaning c.args.self.way c.args.self.junior c.args.work.now in
    let k = c.loop-senior.senior in
    put_stop c.args.spare.now c.add.new.spare c.add.new.spare (below (suc k)) (below c.args.self.junior)
    (row_longer g.M.Measure.meaning c.args.self.way c.args.self.junior c.args.work.now (suc k) c.args.self.junior c.loop-senior-test.true)
    (put_both c.args.spare.now c.loop-senior.spare c.add.new.spare (below k) (row_at g.M.Measure.meaning c.args.self.way c.args.self.junior c.args.work.now k) c.loop-senior.invariant.0 false c.loop-senior.invariant.1 c.in_err-add.ensures.put)
    c.from_residual.result c.from_residual.ensures.0

pub loop-senior-preserved : goal.loop-senior-preserved
loop-senior-preserved g c =
    let below = row_below g.M.Measure.meaning c.args.self.way c.args.self.junior c.args.work.now in
    let k = c.loop-senior.senior in (
      lengthened_more _ _ _ c.loop-senior.invariant.0 c.add.ensures.kept,
      subst (λ x. Put c.args.spare.now (below x) true c.add.new.spare) (sym (add-one k))
          (put_both c.args.spare.now c.loop-senior.spare c.add.new.spare (below k) (row_at g.M.Measure.meaning c.args.self.way c.args.self.junior c.args.work.now k) c.loop-senior.invariant.0 true c.loop-senior.invariant.1 c.in_ok-add.ensures.put),
    )
