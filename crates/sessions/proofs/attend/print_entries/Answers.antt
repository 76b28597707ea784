use Rattle.sessions.proofs.Listing.{left_more}
use Rattle.sessions.proofs.attend.print_entries.Goals as goal

pub loop-entry-preserved : goal.loop-entry-preserved
loop-entry-preserved g c = left_more c.loop-entry-test.true c.entry-item.is c.loop-entry.invariant c.in_ok-print_entry.ensures
