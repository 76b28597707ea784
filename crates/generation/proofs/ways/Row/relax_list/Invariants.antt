use Rattle.std.proofs.Common.{take}
use Rattle.generation.specs.Offers.{Relaxed, AnyOffers, JoinOffers}
use Rattle.generation.proofs.ways.Row.relax_list.Given as goal

-- the entries so far are relaxed
abbrev pub invariant-loop-item : goal.invariant-loop-item
invariant-loop-item g l = Relaxed g.M.Measure.meaning (AnyOffers (JoinOffers g.M.Measure.meaning l.self.way l.self.junior l.value) (take l.item-index l.list)) l.initial.work l.work
