use Rattle.std.proofs.Common.{arith}
use Rattle.std.proofs.lemmas.Result.{err_from_is_err_and}
use Rattle.roots.proofs.Runs.{blank_again, first_stops, second_stops, both_fit}
use Rattle.roots.proofs.gathering.gather_both.Goals as goal

pub returns-in_err-gather-clause-found : goal.returns-in_err-gather-clause-found
returns-in_err-gather-clause-found g c L R ew em z =
    let p = err_from_is_err_and c.from_residual.result c.from_residual.ensures.1 in
    rw p.1 (first_stops g.M.Measure.meaning L c.args.sheets c.args.register.now c.args.table.now c.args.root R c.args.spare.now c.gather.new.spare z (c.in_err-gather.ensures.found L R ew em (omega arith)))

pub returns-in_err-gather-2-clause-found : goal.returns-in_err-gather-2-clause-found
returns-in_err-gather-2-clause-found g c L R ew em z =
    let m = g.M.Measure.meaning in
    let p = err_from_is_err_and c.from_residual-in_err-gather-2.result c.from_residual-in_err-gather-2.ensures.1 in
    let o = c.in_ok-gather.ensures.found L R ew em (omega arith) in
    let i = c.in_err-gather-2.ensures.found L R (blank_again c.args.work.now c.gather.new.work c.args.sheets m.none ew c.gather.ensures.work) (blank_again c.args.marks.now c.gather.new.marks c.args.sheets 0 em c.gather.ensures.marks) (omega (arith, o.2.1, c.gather.ensures.strip.places)) in
    rw p.1 (second_stops m L c.args.sheets c.args.register.now c.args.table.now c.args.root R c.args.spare.now c.gather.new.spare c.gather-2.new.spare z c.gather.ensures.strip o i)

pub returns-clause-found : goal.returns-clause-found
returns-clause-found g c L R ew em z =
    let m = g.M.Measure.meaning in
    let o = c.in_ok-gather.ensures.found L R ew em (omega arith) in
    let i = c.in_ok-gather-2.ensures.found L R (blank_again c.args.work.now c.gather.new.work c.args.sheets m.none ew c.gather.ensures.work) (blank_again c.args.marks.now c.gather.new.marks c.args.sheets 0 em c.gather.ensures.marks) (omega (arith, o.2.1, c.gather.ensures.strip.places)) in
    both_fit m L c.args.sheets c.args.register.now c.args.table.now c.args.root R c.args.spare.now c.gather.new.spare c.gather-2.new.spare z o i
