-- Every step keeps a book sound, and with fewer rounds than sheets while it is in rounds, whichever call it is, taken or refused.
use Rattle.std.proofs.Common.{◌≡◌, Bool, true, false, suc, Some, None, Option, sym, refl, subst}
use Rattle.theory.specs.declared.Phase as phases
use Rattle.theory.specs.declared.Refusal.{Refusal}
use Rattle.theory.specs.Measures.{Meaning, Lawful}
use Rattle.theory.specs.Books.{View, Call, Answer, enter, clear, round, root, look, list, Sound, Callable, Stepped, refusal, unless, taken_view, root_ends, roots_done, phase_after}
use Rattle.runs.specs.Turns.{FewRounds}
use Rattle.runs.proofs.Opening as opening
use Rattle.runs.proofs.Rooting as rooting
use Rattle.runs.proofs.Rounding as rounding

module _ {V : Type 0} (m : Meaning V) (L : Lawful m) where
  -- a root leaves no book in rounds
  rooted_few : (v : View V) (d : Bool) → FewRounds v.sheets (phase_after d (phases.TheVariants.Roots (suc (roots_done v.phase))))
  rooted_few v true = tt
  rooted_few v false = tt

  moved_sound : (v : View V) → Sound m v → FewRounds v.sheets v.phase → (c : Call) → Callable m c → (o : Option Refusal) → refusal m v c ≡ o
      → let w : View V = unless o (λ _. v) (taken_view m v c) in Sound m w × FewRounds w.sheets w.phase
  moved_sound v S few c callable (Some e) h = (S, few)
  moved_sound v S few (enter from to minutes grade) callable None h = (opening.entered_sound m v S from to minutes grade h, tt)
  moved_sound v S few clear callable None h = (opening.cleared_sound m v S, tt)
  moved_sound v S few round callable None h = rounding.round_sound m L v S callable few v.phase refl h
  moved_sound v S few root callable None h = (rooting.root_sound m L v S v.phase refl h, rooted_few v (root_ends v))
  moved_sound v S few (look s t) callable None h = (S, few)
  moved_sound v S few list callable None h = (S, few)

  -- a step keeps a book sound
  pub stepped_sound : (v w : View V) (c : Call) (a : Answer V) → Sound m v → FewRounds v.sheets v.phase → Stepped m v c a w → Sound m w × FewRounds w.sheets w.phase
  stepped_sound v w c a S few T = subst (λ x. Sound m x × FewRounds x.sheets x.phase) (sym T.leaves) (moved_sound v S few c T.callable (refusal m v c) refl)
