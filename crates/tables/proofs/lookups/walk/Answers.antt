-- each turn passes the front that is behind the other, or both where they meet
use Rattle.std.proofs.Common.{refl, inl, inr, arith}
use Rattle.tables.proofs.Walking.{on_and_on, front_and_rest, turn, walked_none}
use Rattle.tables.proofs.lookups.walk.Goals as goal

pub loop-outs-preserved-then-front-back : goal.loop-outs-preserved-then-front-back
loop-outs-preserved-then-front-back g c =
    on_and_on c.loop-outs.invariant
    (turn g.met.M.Measure.lawful (front_and_rest _ _ (omega arith) c.front-item.is) (front_and_rest _ _ (omega arith) c.back-item.is) c.loop-outs.best c.loop-outs.best _ _
    (inr (λ e. omega (arith, e), refl))
    (inl (omega arith, refl))
    (inr (c.if-front-back.true, refl)))

pub loop-outs-preserved-then-back-front : goal.loop-outs-preserved-then-back-front
loop-outs-preserved-then-back-front g c =
    on_and_on c.loop-outs.invariant
    (turn g.met.M.Measure.lawful (front_and_rest _ _ (omega arith) c.front-item.is) (front_and_rest _ _ (omega arith) c.back-item.is) c.loop-outs.best c.loop-outs.best _ _
    (inr (λ e. omega (arith, e), refl))
    (inr (c.if-back-front.true, refl))
    (inl (omega arith, refl)))

pub loop-outs-preserved : goal.loop-outs-preserved
loop-outs-preserved g c =
    on_and_on c.loop-outs.invariant
    (turn g.met.M.Measure.lawful (front_and_rest _ _ (omega arith) c.front-item.is) (front_and_rest _ _ (omega arith) c.back-item.is) c.loop-outs.best c.improved-best.result _ _
    (inl (omega arith, c.improved-best.ensures))
    (inl (omega arith, refl))
    (inl (omega arith, refl)))

pub returns-in_default-ins : goal.returns-in_default-ins
returns-in_default-ins g c can = c.loop-outs.invariant.gives can _ (walked_none g.met.M.Measure.lawful _ _ _ (inr (omega arith)) (c.loop-outs.invariant.can can))

pub returns : goal.returns
returns g c can = c.loop-outs.invariant.gives can _ (walked_none g.met.M.Measure.lawful _ _ _ (inl (omega arith)) (c.loop-outs.invariant.can can))
