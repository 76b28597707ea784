use Rattle.std.proofs.Common.{sym, ◌∙◌, subst}
use Rattle.tables.specs.SheetLists.{list_begin, list_end}
use Rattle.tables.specs.Places.{Part}
use Rattle.generation.proofs.Offering.{present_of}
use Rattle.generation.proofs.ways.Row.relax_present.Goals as goal

pub returns-then-near-self : goal.returns-then-near-self
returns-then-near-self g c = λ rises.
    present_of g.M.Measure.meaning c.args.self.way c.args.self.junior c.args.table.now c.list_of.result.now c.args.entry c.args.work.now c.relax_entry.new.work c.relax_list.new.work (sym c.near.ensures ∙ c.if-near-self.true)
    (subst (λ w. Part c.args.table.now (list_begin c.args.self.way w) (list_end c.args.self.way w) c.list_of.result.now) c.far.ensures (c.list_of.ensures rises))
    c.relax_entry.ensures c.relax_list.ensures
