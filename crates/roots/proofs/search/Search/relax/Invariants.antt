use Rattle.std.proofs.Common.{◌≡◌, drop}
use Rattle.theory.specs.Searches.{facing, facing_redraws, relaxed}
use Rattle.roots.proofs.search.Search.relax.Given as goal

-- what is left of the register, relaxed from here, gives what the whole gives from the start
abbrev pub invariant-loop-redraw : goal.invariant-loop-redraw
invariant-loop-redraw g l =
    relaxed (facing l.self.way g.M.Measure.meaning) l.sheet l.value (facing_redraws l.self.way (drop l.redraw-index l.self.register.now)) l.work
    ≡ relaxed (facing l.self.way g.M.Measure.meaning) l.sheet l.value (facing_redraws l.self.way l.self.register.now) l.initial.work
