use Rattle.std.proofs.Common.{◌++◌, is_ok, length, sym, ap, ◌∙◌, subst, arith}
use Rattle.std.proofs.lemmas.List.{length-append}
use Rattle.theory.specs.Tables.{outs, ins, entries_at}
use Rattle.generation.specs.Laying.{next_generated}
use Rattle.generation.specs.Putting.{Put}
use Rattle.generation.proofs.LaidRows.{entries_append, rowable_again}
use Rattle.generation.proofs.Putting.{put_both, put_stop}
use Rattle.generation.proofs.generating.lay_rows.Goals as goal

pub returns-in_err-lay-clause-laid : goal.returns-in_err-lay-clause-laid
returns-in_err-lay-clause-laid g c = λ L n R.
    let m = g.M.Measure.meaning in
    let j = c.args.junior in
    let t = next_generated m n c.args.source in
    let long = ap length (entries_append m t (outs j j) (ins j j)) ∙ length-append (entries_at m t (outs j j)) (entries_at m t (ins j j)) in
    put_stop c.args.spare.now c.lay.new.spare c.lay.new.spare (entries_at m t (outs j j)) (entries_at m t (outs j j ++ ins j j)) (omega (arith, long))
    (c.in_err-lay.ensures.laid L n R) c.from_residual.result c.from_residual.ensures.0

pub returns-clause-laid : goal.returns-clause-laid
returns-clause-laid g c = λ L n R.
    let m = g.M.Measure.meaning in
    let j = c.args.junior in
    let t = next_generated m n c.args.source in
    let ins-laid = c.lay-2.ensures.laid L n (rowable_again m n c.lay.new.work R c.lay.ensures.work) in
    subst (λ es. Put c.args.spare.now es (is_ok c.lay-2.result) c.lay-2.new.spare) (sym (entries_append m t (outs j j) (ins j j)))
    (put_both c.args.spare.now c.lay.new.spare c.lay-2.new.spare (entries_at m t (outs j j)) (entries_at m t (ins j j)) c.lay.ensures.kept (is_ok c.lay-2.result) (c.in_ok-lay.ensures.laid L n R) ins-laid)
