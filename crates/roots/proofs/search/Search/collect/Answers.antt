use Rattle.std.proofs.Common.{suc, ◌≡◌, length, Some, sym, subst, add-one, arith}
use Rattle.std.proofs.lemmas.Result.{err_from_is_err_and}
use Rattle.theory.specs.Searches.{fresh_at, fresh_below}
use Rattle.strips.specs.Strips.{Added}
use Rattle.strips.proofs.Adding.{added_nothing, added_more, added_stop, lengthened_none, lengthened_more}
use Rattle.roots.proofs.Steps.{fresh_longer}
use Rattle.roots.proofs.search.Search.collect.Goals as goal

pub loop-sheet-init : goal.loop-sheet-init
loop-sheet-init g c = (lengthened_none c.args.spare.now, λ l. added_nothing c.args.spare.now.cells.now c.args.spare.now.count l)

pub returns-in_err-add-clause-cases : goal.returns-in_err-add-clause-cases
returns-in_err-add-clause-cases g c l =
    let m = g.M.Measure.meaning in
    let s = c.args.self.now in
    let k = c.loop-sheet.sheet in
    let p = err_from_is_err_and c.from_residual.result c.from_residual.ensures.1 in
    let so_far = c.loop-sheet.invariant.1 l in
    let long : length c.loop-sheet.spare.cells.now ≡ length c.args.spare.now.cells.now = c.loop-sheet.invariant.0.places in
    let stop = added_stop c.args.spare.now.cells.now c.loop-sheet.spare.cells.now c.add.new.spare.cells.now c.args.spare.now.count c.loop-sheet.spare.count
    (fresh_below m s.way s.root c.args.work.now c.args.marks.now k) (fresh_at m s.way s.root c.args.work.now c.args.marks.now k) so_far long (c.in_err-add.ensures.cases (omega (arith, so_far.1))) in
    let more = fresh_longer m s.way s.root c.args.work.now c.args.marks.now (suc k) s.sheets c.loop-sheet-test.true in
    rw p.1 (omega (arith, stop, more))

pub loop-sheet-preserved : goal.loop-sheet-preserved
loop-sheet-preserved g c =
    let m = g.M.Measure.meaning in
    let s = c.args.self.now in
    let k = c.loop-sheet.sheet in (
      lengthened_more c.args.spare.now c.loop-sheet.spare c.add.new.spare c.loop-sheet.invariant.0 c.add.ensures.strip,
      λ l.
          let so_far = c.loop-sheet.invariant.1 l in
          subst (λ x. Added c.args.spare.now.cells.now c.args.spare.now.count (fresh_below m s.way s.root c.args.work.now c.args.marks.now x) (Some c.add.new.spare.count) c.add.new.spare.cells.now) (sym (add-one k))
          (added_more c.args.spare.now.cells.now c.loop-sheet.spare.cells.now c.add.new.spare.cells.now c.args.spare.now.count c.loop-sheet.spare.count c.add.new.spare.count
          (fresh_below m s.way s.root c.args.work.now c.args.marks.now k) (fresh_at m s.way s.root c.args.work.now c.args.marks.now k) so_far (c.in_ok-add.ensures.cases (omega (arith, so_far.1, c.loop-sheet.invariant.0.places)))),
    )
