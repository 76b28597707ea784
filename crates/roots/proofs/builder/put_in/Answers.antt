use Rattle.std.proofs.Common.{◌≤◌, length, arith}
use Rattle.std.proofs.lemmas.Result.{err_from_is_err_and}
use Rattle.roots.proofs.Putting.{ready, too_long, too_many, middle_within, put_in}
use Rattle.roots.proofs.builder.put_in.Goals as goal

pub returns-in_err-middle-clause-built : goal.returns-in_err-middle-clause-built
returns-in_err-middle-clause-built g c L B z =
    let p = err_from_is_err_and c.from_residual.result c.from_residual.ensures.1 in
    let R = ready _ L _ _ _ c.args.table.now _ _ _ B c.items.result.now c.items.ensures in
    let (outs, ins, ro, ri, long) = c.in_err-middle.ensures.found L R B.work_blank B.marks_zero z in
    rw p.1 (too_long _ L _ _ _ c.args.table.now _ _ _ B outs ins ro ri long)

pub returns-then-saturating_sub-found-clause-built : goal.returns-then-saturating_sub-found-clause-built
returns-then-saturating_sub-found-clause-built g c L B z =
    let R = ready _ L _ _ _ c.args.table.now _ _ _ B c.items.result.now c.items.ensures in
    let (outs, ins, ro, ri, both) = c.in_ok-middle.ensures.found L R B.work_blank B.marks_zero z in
    too_many _ L _ _ _ c.args.table.now _ _ _ B outs ins ro ri c.in_ok-middle.middle c.gather_both.new.spare both c.items-found.result.now c.items-found.ensures (omega arith)

pub returns-clause-built : goal.returns-clause-built
returns-clause-built g c L B z =
    let R = ready _ L _ _ _ c.args.table.now _ _ _ B c.items.result.now c.items.ensures in
    let (outs, ins, ro, ri, both) = c.in_ok-middle.ensures.found L R B.work_blank B.marks_zero z in
    let found = c.items-found.result.now in
    let w : c.in_ok-middle.middle ≤ length c.items-found.result.now = middle_within _ L _ _ _ c.args.table.now _ _ _ B outs ins ro ri c.in_ok-middle.middle c.gather_both.new.spare both found c.items-found.ensures in
    put_in _ L _ _ _ c.args.table.now _ _ _ B outs ins ro ri c.in_ok-middle.middle c.gather_both.new.spare both found c.items-found.ensures (omega arith)
    c.part.result.now c.part-2.result.now (c.part.ensures.there (omega arith) w) (c.part-2.ensures.there w (omega arith))
    c.merge.new.table c.merge-2.new.table c.merge.ensures.slice.1 c.merge.ensures.count c.merge.ensures.rest c.merge.ensures.merged c.merge-2.ensures.count c.merge-2.ensures.rest c.merge-2.ensures.merged
