use Rattle.theory.specs.declared.Redraw.{Redraw}
use Rattle.generation.specs.Offers.{EntryOffers, redraw_entry}
use Rattle.generation.proofs.Offering.{redraws_more, any_all}
use Rattle.generation.proofs.ways.Row.relax_redraws.Goals as goal

pub loop-redraw-preserved : goal.loop-redraw-preserved
loop-redraw-preserved g c =
    let d : Redraw = record { from = 0; to = 0; minutes = 0; grade = 0 } in
    redraws_more g.M.Measure.meaning c.args.self.way c.args.self.junior c.args.register.now c.loop-redraw.redraw-index d c.as_entry.result c.args.work.now c.loop-redraw.work c.relax_entry.new.work c.loop-redraw-test.true c.as_entry.ensures c.relax_entry.ensures c.loop-redraw.invariant

pub returns : goal.returns
returns g c =
    let m = g.M.Measure.meaning in
    any_all m (λ (r : Redraw). EntryOffers c.args.self.way c.args.self.junior (redraw_entry m r)) c.args.register.now c.loop-redraw.redraw-index c.args.work.now c.loop-redraw.work c.loop-redraw-test.false c.loop-redraw.invariant
