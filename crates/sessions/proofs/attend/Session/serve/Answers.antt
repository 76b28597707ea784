use Rattle.std.proofs.Common.{◌∙◌}
use Rattle.sessions.specs.InputLines.{ahead}
use Rattle.sessions.proofs.Serving.{serves_more}
use Rattle.sessions.proofs.attend.Session.serve.Goals as goal

pub loop-line-preserved : goal.loop-line-preserved
loop-line-preserved g c =
    let gives = c.in-Some.ensures.steps in
    let before = c.loop-line.invariant in
    let now = c.in_ok-serve_line.ensures in
    record {
      same_input = gives.0 ∙ before.same_input;
      keeps = record { same_book = now.keeps.same_book ∙ before.keeps.same_book; same_out = now.keeps.same_out ∙ before.keeps.same_out };
      serves = serves_more gives.0 gives.1 {ls₀ = ahead c.args.lines.now.input.now c.args.lines.now.place} before.serves now.served;
    }
