use Rattle.std.proofs.Common.{refl, true, false}
use Rattle.std.specs.Fn.{FnReturnsAt}
use Rattle.std.proofs.lemmas.Fn.{says_at}
use Rattle.std.proofs.lemmas.Iterator.{YieldsList-from_slice, IsFirst-from_position}
use Rattle.words.proofs.Searching.{FirstHit, before_hit, at_hit}
use Rattle.words.proofs.bytes.next.Goals as goal

-- what `position` found in the rest of the bytes
found : (g : _) (c : goal.After-unwrap_or g) → FirstHit (FnReturnsAt g.P.Fn c.args.stop) c.in-Some.rest.now c.position.result
found g c =
    IsFirst-from_position _ _ _ (λ x. FnReturnsAt g.P.Fn c.args.stop x true) (λ x. FnReturnsAt g.P.Fn c.args.stop x false) c.position.ensures.ran
    (YieldsList-from_slice c.in-Some.rest.now c.iter.ensures.rest)
    (λ x q k. says_at g.P.Fn ((g.met.P.FnMut.1.post_iff _ _ _).1 (q, record { met = k.met })) refl)
    (λ x q k. (g.met.P.Fn.1.step_stays _ _ _ _ (record { met = k.met }), says_at g.P.Fn ((g.met.P.FnMut.1.post_iff _ _ _).1 (q, record { met = k.met })) refl))

pub returns-clause-before : goal.returns-clause-before
returns-clause-before g c =
    before_hit (FnReturnsAt g.P.Fn c.args.stop) c.args.bytes.now c.args.from c.in-Some.ensures.lookup.0.0 c.in-Some.rest.now c.in-Some.ensures.lookup.0.2 c.position.result _ c.unwrap_or.ensures (found g c)

pub returns-clause-there : goal.returns-clause-there
returns-clause-there g c =
    at_hit (FnReturnsAt g.P.Fn c.args.stop) c.args.bytes.now c.args.from c.in-Some.ensures.lookup.0.0 c.in-Some.rest.now c.in-Some.ensures.lookup.0.2 c.position.result _ c.unwrap_or.ensures (found g c)
