use Rattle.theory.specs.Searches.{fresh_below}
use Rattle.roots.proofs.Turning.{started, run}
use Rattle.roots.proofs.gathering.gather.Goals as goal

pub returns-clause-found : goal.returns-clause-found
returns-clause-found g c L R ew em l =
    let m = g.M.Measure.meaning in
    let s = c.args.search.now in
    let U = c.run.ensures.goes L R (started m L s.way s.sheets s.register.now s.table.now s.root R c.args.work.now c.args.marks.now ew em c.empty.result c.empty.ensures c.put.new.xs c.put.ensures) in (
      fresh_below m s.way s.root c.run.new.work c.run.new.marks s.sheets,
      run m L s.way s.sheets s.register.now s.table.now s.root R c.run.new.work c.run.new.marks U c.run.ensures.ends,
      c.collect-gathered.ensures.cases l,
    )
