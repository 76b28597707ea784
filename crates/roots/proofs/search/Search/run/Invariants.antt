use Rattle.theory.specs.Measures.{Lawful}
use Rattle.theory.specs.Searches.{facing, facing_redraws, Underway}
use Rattle.theory.proofs.Searching.{unsettled_count}
use Rattle.roots.specs.Turns.{Ready}
use Rattle.roots.proofs.search.Search.run.Given as goal

-- the search is still under way
abbrev pub invariant-loop-sheet : goal.invariant-loop-sheet
invariant-loop-sheet g l =
    Lawful g.M.Measure.meaning → Ready g.M.Measure.meaning l.self.sheets l.self.register.now l.self.table.now l.self.root
    → Underway (facing l.self.way g.M.Measure.meaning) l.self.sheets (facing_redraws l.self.way l.self.register.now) l.self.root l.initial.work l.initial.marks
    → Underway (facing l.self.way g.M.Measure.meaning) l.self.sheets (facing_redraws l.self.way l.self.register.now) l.self.root l.work l.marks

-- each turn settles one sheet
abbrev pub decreases-loop-sheet : goal.decreases-loop-sheet
decreases-loop-sheet g l = unsettled_count l.marks
