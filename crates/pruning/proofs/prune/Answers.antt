use Rattle.std.proofs.Common.{sym, refl, ◌∙◌}
use Rattle.pruning.proofs.Keeping.{passed, kept_on, prepared, pruned_into}
use Rattle.pruning.proofs.prune.Goals.{then-not-goes, else-not-goes}
use Rattle.pruning.proofs.prune.Goals as goal

pub loop-next-preserved : goal.loop-next-preserved
loop-next-preserved g c =
    elim c.if-not-goes.branch [
      | then-not-goes w ↦ rw (w.table-is, w.same-is) (
        w.keep-same.ensures.slice.1 ∙ c.loop-next.invariant.0,
        w.keep-same.ensures.slice.0 ∙ c.loop-next.invariant.1,
        λ P.
            kept_on g.M.Measure.meaning c.args.laid.now c.args.table.now.cells.now c.args.table.now.count P c.loop-next.next-index c.loop-next.table.cells.now c.loop-next.table.count c.loop-next.same c.next-item.result
            (c.loop-next.invariant.2 P) c.loop-next.invariant.0 c.loop-next-test.true c.next-item.is (sym (c.covered-goes.ensures P.sheets P.small P.in_order) ∙ w.if-not-goes.true)
            w.keep-same.result w.keep-same.ensures.answer w.keep-same.new.table.cells.now w.keep-same.ensures.cells w.keep-same.new.table.count w.keep-same.ensures.count,
      )
      | else-not-goes w ↦ rw (w.table-is, w.same-is) (
        c.loop-next.invariant.0,
        c.loop-next.invariant.1,
        λ P.
            passed g.M.Measure.meaning c.args.laid.now c.args.table.now.cells.now c.args.table.now.count P c.loop-next.next-index c.loop-next.table.cells.now c.loop-next.table.count c.loop-next.same c.next-item.result
            (c.loop-next.invariant.2 P) c.loop-next.invariant.0 c.loop-next-test.true c.next-item.is (sym (c.covered-goes.ensures P.sheets P.small P.in_order) ∙ w.if-not-goes.false),
      )
    ]

pub returns-then-same-clause-pruned : goal.returns-then-same-clause-pruned
returns-then-same-clause-pruned g c = λ L n t es Q.
    pruned_into g.M.Measure.meaning L n t c.args.laid.now es c.args.table.now Q c.loop-next.next-index c.loop-next.table.cells.now c.loop-next.table.count c.loop-next.same
    (c.loop-next.invariant.2 (prepared g.M.Measure.meaning L n t c.args.laid.now es c.args.table.now Q)) c.loop-next.invariant.0 c.loop-next-test.false c.loop-next.auto.next-index-end
    c.blank_entry.result c.blank_entry.ensures c.wipe.ensures refl (rw c.if-same.true)

pub returns-else-same-clause-pruned : goal.returns-else-same-clause-pruned
returns-else-same-clause-pruned g c = λ L n t es Q.
    pruned_into g.M.Measure.meaning L n t c.args.laid.now es c.args.table.now Q c.loop-next.next-index c.loop-next.table.cells.now c.loop-next.table.count c.loop-next.same
    (c.loop-next.invariant.2 (prepared g.M.Measure.meaning L n t c.args.laid.now es c.args.table.now Q)) c.loop-next.invariant.0 c.loop-next-test.false c.loop-next.auto.next-index-end
    c.blank_entry.result c.blank_entry.ensures c.wipe.ensures refl (rw c.if-same.false)
