use Rattle.std.proofs.Common.{◌+◌, eqb, ap, rules}
use Rattle.book.proofs.NextRoots.{concluded}
use Rattle.book.proofs.book.Book.conclude.Goals as goal

pub returns : goal.returns
returns g c = record {
  concluded = λ v S N P. concluded g.M.Measure.meaning g.met.M.Measure.lawful v S c.args.root N c.args.self.now _ P
      _ (ap (λ k. k + 1) c.from-number.ensures) _ (ap (eqb (c.from-number.result + 1)) c.from.ensures) _ c.progress_of-progress.ensures c.advance.ensures;
  slices = search rules;
}
