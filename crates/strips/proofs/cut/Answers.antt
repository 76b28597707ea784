use Rattle.std.proofs.Common.{sym, subst, arith}
use Rattle.strips.specs.Strips.{Held}
use Rattle.strips.proofs.Blanks.{front-wiped, front_kept, held_wiped}
use Rattle.strips.proofs.cut.Goals as goal

pub returns-then-to-cells : goal.returns-then-to-cells
returns-then-to-cells g c = record {
  cells = λ le held. front-wiped c.args.cells.now c.wipe.new.xs c.args.from c.args.to c.args.blank le c.wipe.ensures held;
  items = front_kept c.args.cells.now c.wipe.new.xs c.args.from c.args.to c.args.blank c.if-from-to.true c.if-to-cells.true c.wipe.ensures;
  held = λ le held.
      subst (λ xs. Held c.args.blank xs c.args.from) (sym (front-wiped c.args.cells.now c.wipe.new.xs c.args.from c.args.to c.args.blank le c.wipe.ensures held))
      (held_wiped c.args.cells.now c.args.from c.args.blank (omega (arith, le, held.0)));
}
