use Rattle.std.proofs.Common.{◌≡◌, Some}
use Rattle.std.proofs.lemmas.Result.{err_from_is_err_and}
use Rattle.theory.specs.Books.{root_refusal}
use Rattle.theory.proofs.Guarantees.{nothing_fits}
use Rattle.book.specs.Views.{view}
use Rattle.book.proofs.NextRoots.{root_taken, wanting}
use Rattle.book.proofs.book.Book.root.Goals as goal

pub returns-in_err-root-clause-wanting : goal.returns-in_err-root-clause-wanting
returns-in_err-root-clause-wanting g c e K =
    let m = g.M.Measure.meaning in
    let v = view c.args.self.now in
    let p = err_from_is_err_and c.from_residual.result c.from_residual.ensures.1 in
    let why : root_refusal m v v.phase ≡ Some p.0 = cc (c.in_err-root.ensures, p.2) in
    wanting m g.met.M.Measure.lawful v K.sound v.phase (cc (why, p.1))

pub returns-in_err-put_in-clause-wanting : goal.returns-in_err-put_in-clause-wanting
returns-in_err-put_in-clause-wanting g c _ K =
    let O = c.in_err-put_in.ensures.answer.1 K (c.in_ok-root.ensures K) in
    nothing_fits g.M.Measure.meaning g.met.M.Measure.lawful (view c.args.self.now) K.sound _ O.wanting

pub returns-clause-called : goal.returns-clause-called
returns-clause-called g c K =
    let m = g.M.Measure.meaning in
    let v = view c.args.self.now in
    let N = c.in_ok-root.ensures K in
    let P = c.in_ok-put_in.ensures.answer K N in
    let o = c.conclude.ensures.concluded v K.sound N P in
    (root_taken m g.met.M.Measure.lawful v K.sound c.in_ok-root.root N _ (view c.conclude.new.self) P.enough o.0 o.1, o.2)
