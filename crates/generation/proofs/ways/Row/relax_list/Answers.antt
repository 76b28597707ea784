use Rattle.generation.specs.Offers.{JoinOffers}
use Rattle.generation.proofs.Offering.{joins_more, any_all}
use Rattle.generation.proofs.ways.Row.relax_list.Goals as goal

pub loop-item-preserved : goal.loop-item-preserved
loop-item-preserved g c = joins_more g.M.Measure.meaning c.args.self.way c.args.self.junior c.args.value c.args.list.now c.loop-item.item-index c.item-item.result c.args.work.now c.loop-item.work c.relax_join.new.work c.loop-item-test.true c.item-item.is c.relax_join.ensures c.loop-item.invariant

pub returns : goal.returns
returns g c =
    let m = g.M.Measure.meaning in
    any_all m (JoinOffers m c.args.self.way c.args.self.junior c.args.value) c.args.list.now c.loop-item.item-index c.args.work.now c.loop-item.work c.loop-item-test.false c.loop-item.invariant
