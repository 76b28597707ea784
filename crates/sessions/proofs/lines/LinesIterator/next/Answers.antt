use Rattle.std.proofs.Common.{refl}
use Rattle.sessions.proofs.Cutting.{next_line}
use Rattle.sessions.proofs.lines.LinesIterator.next.Goals as goal

pub returns-clause-steps : goal.returns-clause-steps
returns-clause-steps c = (refl, next_line c.if-start-input.false c.next_line-end.ensures c.behind-self.ensures _ refl refl)
