use Rattle.std.proofs.Common.{rules}
use Rattle.strips.proofs.Filling.{filled, end_wiped}
use Rattle.strips.proofs.wipe.Goals as goal

-- the places from there on are what the calls answered
pub returns-then-from-xs : goal.returns-then-from-xs
returns-then-from-xs g c =
    end_wiped c.args.xs.now c.fill_with.new.self c.args.from c.args.blank c.fill_with.ensures.len
    (filled _ _ c.args.blank (λ x q k. search rules) _ _ c.fill_with.ensures.ran.1)
