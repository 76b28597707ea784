use Rattle.std.proofs.Common.{◌≡◌, string_bytes}
use Rattle.sessions.specs.Attending.{Keeps}
use Rattle.sessions.specs.InputLines.{ahead}
use Rattle.sessions.proofs.Serving.{ServesAll}
use Rattle.sessions.proofs.attend.Session.serve.Given as goal

-- what serves the lines that are left serves all
abbrev pub invariant-loop-line : goal.invariant-loop-line
invariant-loop-line g l = record {
  same_input : l.lines.input.now ≡ l.initial.lines.input.now;
  keeps : Keeps l.initial.self l.self;
  serves : ServesAll g.B.Value.Measure.meaning g.B.Value.Display.output
      l.initial.lines.number (ahead l.initial.lines.input.now l.initial.lines.place) (g.B.PricedBook.view l.initial.self.book.now) (string_bytes l.initial.self.out.now)
      l.lines.number (ahead l.lines.input.now l.lines.place) (g.B.PricedBook.view l.self.book.now) (string_bytes l.self.out.now);
}
