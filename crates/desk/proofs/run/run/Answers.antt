use Rattle.std.proofs.Common.{ap, arith}
use Rattle.sessions.specs.declared.lines.Lines.{Lines}
use Rattle.sessions.specs.InputLines.{ahead}
use Rattle.desk.proofs.Sessions.{where_ok, where_err, session_none, session_served, session_on, session_shorter}
use Rattle.desk.proofs.run.run.Goals as goal

pub returns-in-Ok : goal.returns-in-Ok
returns-in-Ok c = c.loop-out.invariant _ (session_served _ _ c.in_ok-opening.field-0 _ _ _ _ c.in_ok-opening.ensures.awaited c.in-Some.opening c.in-Some.is _ (where_ok _ _ _ _ c.in-Ok.is c.in_ok-open.ensures))

pub loop-out-smaller : goal.loop-out-smaller
loop-out-smaller c =
    let tried = where_err _ _ _ _ c.in-Err.is c.in_ok-open.ensures in
    session_shorter _ _ c.in_ok-opening.field-0 _ _ _ _ c.in_ok-opening.ensures.awaited c.in-Some.opening c.in-Some.is _ (ap (λ (x : Lines). ahead x.input.now x.place) tried.1)

pub loop-out-preserved : goal.loop-out-preserved
loop-out-preserved c after S =
    let tried = where_err _ _ _ _ c.in-Err.is c.in_ok-open.ensures in
    c.loop-out.invariant after (session_on _ _ c.in_ok-opening.field-0 _ _ _ _ c.in_ok-opening.ensures.awaited c.in-Some.opening c.in-Some.is c.in-Err.refusal tried.0
    _ (grind (arith, c.in_ok-refused-in-Err.ensures, tried.2, c.into.ensures))
    _ _ (ap (λ (x : Lines). x.number) tried.1) (ap (λ (x : Lines). ahead x.input.now x.place) tried.1) after S)

pub returns : goal.returns
returns c = c.loop-out.invariant _ (session_none _ _ c.in_ok-opening.field-0 _ _ _ _ c.in_ok-opening.ensures.awaited c.in_default.is)
