use Rattle.std.proofs.Common.{string_bytes}
use Rattle.sessions.proofs.Listing.{Left}
use Rattle.sessions.proofs.attend.print_entries.Given as goal

-- what is printed so far, with the entries that are left
abbrev pub invariant-loop-entry : goal.invariant-loop-entry
invariant-loop-entry g l = Left g.V.Display.output (string_bytes l.initial.out) l.entries l.entry-index (string_bytes l.out)
