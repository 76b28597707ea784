use Rattle.tables.specs.Places.{Rising}
use Rattle.theory.specs.Order.{key_of}
use Rattle.generation.proofs.ways.Row.relax.Goals as goal

pub returns-in-Entries : goal.returns-in-Entries
returns-in-Entries g c = λ t.
    let S : Rising key_of c.in-Entries.table.now = rw c.in-Entries.is at t in
    rw c.in-Entries.is (c.relax_table.ensures S)

pub returns-in-Redraws : goal.returns-in-Redraws
returns-in-Redraws g c = λ t. rw c.in-Redraws.is c.relax_redraws.ensures
