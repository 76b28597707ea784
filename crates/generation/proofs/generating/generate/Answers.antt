use Rattle.std.proofs.Common.{◌≡◌, true, is_ok, sym, subst, add-one, rules, arith}
use Rattle.theory.specs.Tables.{listed}
use Rattle.generation.specs.Laying.{next_generated}
use Rattle.generation.specs.Putting.{Put}
use Rattle.generation.proofs.LaidRows.{rows_more, rows_stop, laid_all, layable_row}
use Rattle.strips.proofs.Adding.{lengthened_more}
use Rattle.generation.proofs.generating.generate.Goals as goal

pub returns-in_err-lay_rows-clause-laid : goal.returns-in_err-lay_rows-clause-laid
returns-in_err-lay_rows-clause-laid g c = λ L Y.
    let m = g.M.Measure.meaning in
    let t = next_generated m c.args.sheets c.args.source in
    let R = layable_row m c.args.sheets c.loop-junior.work c.loop-junior.junior Y c.loop-junior.invariant.1 c.loop-junior-test.true in
    laid_all m c.args.sheets c.args.spare.now c.lay_rows.new.spare t Y (is_ok c.from_residual.result)
    (rows_stop m t c.loop-junior.junior c.args.spare.now c.loop-junior.spare c.lay_rows.new.spare c.loop-junior.invariant.0 (c.loop-junior.invariant.2 L Y) c.args.sheets c.loop-junior-test.true
    (c.in_err-lay_rows.ensures.laid L c.args.sheets R) c.from_residual.result c.from_residual.ensures.0)

pub loop-junior-preserved : goal.loop-junior-preserved
loop-junior-preserved g c =
    let m = g.M.Measure.meaning in (
      lengthened_more _ _ _ c.loop-junior.invariant.0 c.lay_rows.ensures.kept,
      search rules,
      λ L Y.
          let t = next_generated m c.args.sheets c.args.source in
          let R = layable_row m c.args.sheets c.loop-junior.work c.loop-junior.junior Y c.loop-junior.invariant.1 c.loop-junior-test.true in
          subst (λ j. Put c.args.spare.now (listed m j t) true c.lay_rows.new.spare) (sym (add-one c.loop-junior.junior))
          (rows_more m t c.loop-junior.junior c.args.spare.now c.loop-junior.spare c.lay_rows.new.spare c.loop-junior.invariant.0 (c.loop-junior.invariant.2 L Y) true
          (c.in_ok-lay_rows.ensures.laid L c.args.sheets R)),
    )

pub returns-clause-laid : goal.returns-clause-laid
returns-clause-laid g c = λ L Y.
    let m = g.M.Measure.meaning in
    let t = next_generated m c.args.sheets c.args.source in
    let all : c.loop-junior.junior ≡ c.args.sheets = omega arith in
    laid_all m c.args.sheets c.args.spare.now c.loop-junior.spare t Y true
    (subst (λ j. Put c.args.spare.now (listed m j t) true c.loop-junior.spare) all (c.loop-junior.invariant.2 L Y))
