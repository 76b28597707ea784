use Rattle.std.proofs.Common.{take}
use Rattle.generation.specs.Offers.{Relaxed, AnyOffers, EntryOffers, redraw_entry}
use Rattle.generation.proofs.ways.Row.relax_redraws.Given as goal

-- the redraws so far are relaxed
abbrev pub invariant-loop-redraw : goal.invariant-loop-redraw
invariant-loop-redraw g l = Relaxed g.M.Measure.meaning (AnyOffers (λ r. EntryOffers l.self.way l.self.junior (redraw_entry g.M.Measure.meaning r)) (take l.redraw-index l.register)) l.initial.work l.work
