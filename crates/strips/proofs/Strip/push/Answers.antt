use Rattle.std.proofs.Common.{arith}
use Rattle.strips.proofs.Blanks.{held-push}
use Rattle.strips.proofs.Strip.push.Goals as goal

pub returns-clause-held : goal.returns-clause-held
returns-clause-held g c = λ b h. held-push c.args.self.now.cells.now c.args.self.now.count c.args.x b (omega arith) h
