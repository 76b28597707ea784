-- the entries of the book are sorted where it is finished
use Rattle.theory.specs.Chains.{BestOver}
use Rattle.theory.specs.Books.{Stepped, look, looked}
use Rattle.book.specs.Views.{view, Kept}
use Rattle.book.proofs.Lookups.{looked_up}
use Rattle.book.proofs.book.Book.look.Goals as goal

pub returns : goal.returns
returns g c =
    let m = g.M.Measure.meaning in
    let v = view c.args.self.now in
    let found : Kept m c.args.self.now → Stepped m v (look c.args.from c.args.to) (looked c.answer.result) v × BestOver m v.redraws c.args.from c.args.to c.answer.result = λ kept. looked_up m g.met.M.Measure.lawful v kept.sound (c.in_ok-entries.ensures.guarantee kept) c.in_ok-entries.entries.now (c.in_ok-entries.ensures.called kept).0.answers
    c.args.from c.args.to c.in_ok-from.from c.in_ok-from.to c.in_ok-from.ensures.0 c.in_ok-from.ensures.1 c.in_ok-from.ensures.2 c.answer.result c.answer.ensures in
    record {
      called = λ kept. ((found kept).0, kept);
      best = λ kept. (found kept).1;
    }
