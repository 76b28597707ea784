use Rattle.generation.specs.Offers.{PresentOffers}
use Rattle.generation.proofs.Offering.{any_more_read, any_all}
use Rattle.generation.proofs.ways.Row.relax_table.Goals as goal

pub loop-item-preserved : goal.loop-item-preserved
loop-item-preserved g c = λ rises.
    let m = g.M.Measure.meaning in
    any_more_read m (PresentOffers m c.args.self.way c.args.self.junior c.args.table.now) c.args.table.now c.loop-item.item-index c.item-item.result c.args.work.now c.loop-item.work c.relax_present.new.work c.loop-item-test.true c.item-item.is (c.loop-item.invariant rises) (c.relax_present.ensures rises)

pub returns : goal.returns
returns g c = λ rises.
    let m = g.M.Measure.meaning in
    any_all m (PresentOffers m c.args.self.way c.args.self.junior c.args.table.now) c.args.table.now c.loop-item.item-index c.args.work.now c.loop-item.work c.loop-item-test.false (c.loop-item.invariant rises)
