-- a sound book that is finished guarantees what every finished book does
use Rattle.theory.proofs.Guarantees.{guarantee}
use Rattle.book.specs.Views.{view}
use Rattle.book.proofs.book.Book.list.Goals as goal

pub returns-in-Finished-clause-guarantee : goal.returns-in-Finished-clause-guarantee
returns-in-Finished-clause-guarantee g c kept = guarantee g.M.Measure.meaning g.met.M.Measure.lawful (view c.args.self.now) kept.sound c.in-Finished.is
