use Rattle.std.proofs.Common.{◌≡◌, string_bytes}
use Rattle.sessions.specs.InputLines.{ahead}
use Rattle.sessions.proofs.Serving.{AwaitsAll}
use Rattle.sessions.proofs.serve.await_opening.Given as goal

-- what is found in the lines that are left is found in all
abbrev pub invariant-loop-line : goal.invariant-loop-line
invariant-loop-line l = record {
  same_input : l.lines.input.now ≡ l.initial.lines.input.now;
  awaits : AwaitsAll
      l.initial.lines.number (ahead l.initial.lines.input.now l.initial.lines.place) (string_bytes l.initial.out)
      l.lines.number (ahead l.lines.input.now l.lines.place) (string_bytes l.out);
}
