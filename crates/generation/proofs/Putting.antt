-- Records put after those in use of a strip, step by step.
use Rattle.std.proofs.Common.{◌≡◌, ◌+◌, ◌<◌, ◌≤◌, Bool, true, false, List, [], ◌++◌, length, Ok, Err, Result, is_ok, IsErr, sym, refl, subst, arith}
use Rattle.std.proofs.lemmas.List.Edits.{paste_none}
use Rattle.strips.specs.declared.Strip.{Strip}
use Rattle.strips.specs.Strips.{Lengthened}
use Rattle.strips.proofs.Adding.{added_more, added_stop}
use Rattle.generation.specs.Putting.{Put}

pub put_none : {X : Type 0} (a : Strip X) → Put a [] true a
put_none a l = (omega arith, l, paste_none a.cells.now a.count [])

refused_is : {A E : Type 0} (r : Result A E) → IsErr r → is_ok r ≡ false
refused_is (Ok x) h = sym h
refused_is (Err e) h = refl

module _ {X : Type 0} (a b c : Strip X) (es fs : List X) where
  -- records, and others after them, or not
  pub put_both : Lengthened a b → (so : Bool) → Put a es true b → Put b fs so c → Put a (es ++ fs) so c
  put_both K true p q l =
      let h = p l in
      let long = K.places in
      added_more a.cells.now b.cells.now c.cells.now a.count b.count c.count es fs h (q (omega (arith, h.1)))
  put_both K false p q l =
      let h = p l in
      let long = K.places in
      added_stop a.cells.now b.cells.now c.cells.now a.count b.count es fs h long (q (omega (arith, h.1)))

  -- records that do not fit, nor do as many or more
  pub put_stop : {A E : Type 0} → length es ≤ length fs → Put a es false b → (r : Result A E) → IsErr r → Put a fs (is_ok r) c
  put_stop more p r refused = subst (λ so. Put a fs so c) (sym (refused_is r refused)) (λ l. let h : length a.cells.now < a.count + length es = p l in omega arith)
