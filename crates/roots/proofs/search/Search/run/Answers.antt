use Rattle.std.proofs.Common.{◌<◌, get_or, sym, ap, ◌∙◌, subst}
use Rattle.theory.specs.Searches.{facing, facing_table, answers_as_well}
use Rattle.theory.specs.Tables.{held}
use Rattle.theory.proofs.Searching.{unsettled_count}
use Rattle.roots.proofs.Turning.{turn, turn_ends}
use Rattle.roots.proofs.search.Search.run.Goals as goal

pub loop-sheet-smaller : goal.loop-sheet-smaller
loop-sheet-smaller g c =
    subst (λ x. unsettled_count x < unsettled_count c.loop-sheet.marks) (sym c.settle.ensures.marks)
    (turn_ends g.M.Measure.meaning c.loop-sheet.work c.loop-sheet.marks c.args.self.now.sheets c.in-Some.sheet c.answered-pruned.result (sym c.nearest.ensures ∙ c.in-Some.is))

pub loop-sheet-preserved : goal.loop-sheet-preserved
loop-sheet-preserved g c L R U =
    turn g.M.Measure.meaning L c.args.self.now.way c.args.self.now.sheets c.args.self.now.register.now c.args.self.now.table.now c.args.self.now.root R c.loop-sheet.work c.loop-sheet.marks (c.loop-sheet.invariant L R U) c.in-Some.sheet
    (sym c.nearest.ensures ∙ c.in-Some.is) c.answered-pruned.result
    (λ k l S. c.answered-pruned.ensures k l S ∙ ap (answers_as_well (facing c.args.self.now.way g.M.Measure.meaning) (facing_table c.args.self.now.way (held g.M.Measure.meaning c.args.self.now.table.now)) c.args.self.now.root c.in-Some.sheet) (c.at-value.ensures ∙ ap (get_or c.loop-sheet.work c.in-Some.sheet) c.none.ensures))
    c.settle.new.work c.settle.ensures.work c.settle.new.marks c.settle.ensures.marks
