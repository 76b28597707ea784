use Rattle.std.proofs.Common.{ℕ, List, [], length, string_bytes}
use Rattle.sessions.specs.InputLines.{ahead}
use Rattle.desk.specs.Desk.{Session}
use Rattle.desk.proofs.run.run.Given as goal

-- what the further lines give is what the whole sheet gives
abbrev pub invariant-loop-out : goal.invariant-loop-out
invariant-loop-out l = (after : List ℕ) → Session l.lines.number (ahead l.lines.input.now l.lines.place) (string_bytes l.out) after → Session 0 (ahead l.input 0) [] after

-- every opening takes a line
abbrev pub decreases-loop-out : goal.decreases-loop-out
decreases-loop-out l = length (ahead l.lines.input.now l.lines.place)
