-- what was read at the place of the key decides what is held
use Rattle.std.proofs.Common.{sym, ◌∙◌, ap₂, arith}
use Rattle.theory.specs.Tables.{held}
use Rattle.tables.proofs.Held.{held_by_place, held_nowhere}
use Rattle.tables.proofs.lookups.find.Goals as goal
use Rattle.tables.proofs.lookups.find.Goals.{in_default-via-in-Some+then-entry-from+else-entry-to, in_default-via-in-Some+else-entry-from, in_default-via-in_default}

pub returns-in-Some : goal.returns-in-Some
returns-in-Some g c rises =
    let read = c.in-Some.ensures.lookup.3 in
    held_by_place g.M.Measure.meaning c.args.table.now rises c.in-Some.entry.now c.first_at-place.result read.0 read.1
    ∙ ap₂ (held g.M.Measure.meaning c.args.table.now) c.if-entry-from.true c.if-entry-to.true

pub returns-in_default : goal.returns-in_default
returns-in_default g c rises =
    c.none.ensures ∙ sym (held_nowhere g.M.Measure.meaning c.args.table.now rises c.args.from c.args.to c.key.result c.first_at-place.result c.key.ensures (c.first_at-place.ensures.first rises)
    (λ e h read p q. elim c.in_default.branch [
      | in_default-via-in-Some+then-entry-from+else-entry-to w ↦ let here = w.in-Some.ensures.lookup.3.1 e in w.if-entry-to.false cc
      | in_default-via-in-Some+else-entry-from w ↦ let here = w.in-Some.ensures.lookup.3.1 e in w.if-entry-from.false cc
      | in_default-via-in_default w ↦ omega (arith, w.in_default.ensures.lookup.3)
    ]))
