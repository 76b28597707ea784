use Rattle.std.proofs.Common.{sym, subst, ap, ◌∙◌, arith}
use Rattle.std.specs.Result.{result_unwrap_or}
use Rattle.std.proofs.lemmas.Result.{Ok-from_Ok_iff}
use Rattle.book.specs.Views.{view}
use Rattle.book.specs.Rooting.{NextRoot}
use Rattle.book.proofs.NextRoots.{next_open, next_after}
use Rattle.book.proofs.book.Book.next_root.Goals as goal

pub returns-in-Open : goal.returns-in-Open
returns-in-Open g c kept = next_open g.M.Measure.meaning g.met.M.Measure.lawful (view c.args.self.now) kept.sound c.in-Open.is

pub returns-in-Roots : goal.returns-in-Roots
returns-in-Roots g c kept =
    let v = view c.args.self.now in
    let N = next_after g.M.Measure.meaning g.met.M.Measure.lawful v kept.sound c.in-Roots.done c.in-Roots.is in
    let few = kept.sound.sheets_bound in
    let below = N.below in
    let fits = Ok-from_Ok_iff c.try_from.result _ _ c.try_from.ensures (omega arith) in
    subst (NextRoot g.M.Measure.meaning v) (sym (c.unwrap_or.ensures ∙ ap (λ r. result_unwrap_or r 65535) fits)) N
