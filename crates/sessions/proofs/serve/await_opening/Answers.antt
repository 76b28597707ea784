use Rattle.std.proofs.Common.{◌∙◌}
use Rattle.sessions.proofs.Serving.{awaits_more}
use Rattle.sessions.proofs.serve.await_opening.Goals as goal

pub loop-line-preserved : goal.loop-line-preserved
loop-line-preserved c =
    let gives = c.in-Some.ensures.steps in
    record {
      same_input = gives.0 ∙ c.loop-line.invariant.same_input;
      awaits = awaits_more gives.0 gives.1 c.loop-line.invariant.awaits (rw c.in_default-2.is at c.in_ok-opening.ensures);
    }
