use Rattle.std.proofs.Common.{take}
use Rattle.theory.specs.Order.{key_of}
use Rattle.tables.specs.Places.{Rising}
use Rattle.generation.specs.Offers.{Relaxed, AnyOffers, PresentOffers}
use Rattle.generation.proofs.ways.Row.relax_table.Given as goal

-- the entries so far are relaxed
abbrev pub invariant-loop-item : goal.invariant-loop-item
invariant-loop-item g l = Rising key_of l.table → Relaxed g.M.Measure.meaning (AnyOffers (PresentOffers g.M.Measure.meaning l.self.way l.self.junior l.table) (take l.item-index l.table)) l.initial.work l.work
