-- Both runs in the spare strip, one after the other, or too long for it.
use Rattle.std.proofs.Common.{◌≡◌, ℕ, ◌+◌, ◌<◌, ◌≤◌, List, ◌++◌, length, take, drop, replicate, Some, None, sym, ap, ◌∙◌, subst, ap₂, arith}
use Rattle.std.proofs.lemmas.List.{length-append, length-replicate, take_all}
use Rattle.std.proofs.lemmas.List.Edits.{take-paste, drop-paste}
use Rattle.theory.specs.declared.Redraw.{Redraw}
use Rattle.theory.specs.declared.Entry.{Entry}
use Rattle.theory.specs.declared.Way.TheVariants.{Out, In}
use Rattle.theory.specs.Measures.{Meaning, Lawful}
use Rattle.theory.proofs.Growing as growing
use Rattle.roots.specs.Turns.{Ready, Gathered, BothGathered}
use Rattle.strips.specs.declared.Strip.{Strip}
use Rattle.strips.specs.Strips.{Added, Lengthened}
use Rattle.strips.proofs.Adding.{added_more}

-- blank again, and as long as before
pub blank_again : {X : Type 0} (xs ys : List X) (n : ℕ) (b : X) → xs ≡ replicate n b → ys ≡ replicate (length xs) b → ys ≡ replicate n b
blank_again xs ys n b e h = h ∙ ap (λ k. replicate k b) (ap length e ∙ length-replicate n b)

module _ {V : Type 0} (m : Meaning V) (L : Lawful m) (n : ℕ) (rs : List Redraw) (es : List (Entry V)) (r : ℕ) (R : Ready m n rs es r) where
  -- the first run does not fit
  pub first_stops : (s t : Strip (Entry V)) → s.count ≡ 0 → Gathered m n rs r Out s.cells.now s.count None t.cells.now → BothGathered m n rs r s.cells.now None t.cells.now
  first_stops s t z o =
      let i = growing.run_exists m L n R.small rs R.register r R.root_below In in
      let l : length s.cells.now < s.count + length o.0 = o.2 in
      (o.0, i.0, o.1, i.1, omega arith)

  -- the second does not
  pub second_stops : (s t u : Strip (Entry V)) → s.count ≡ 0 → Lengthened s t → Gathered m n rs r Out s.cells.now s.count (Some t.count) t.cells.now → Gathered m n rs r In t.cells.now t.count None u.cells.now → BothGathered m n rs r s.cells.now None u.cells.now
  second_stops s t u z p o i =
      let a : t.count ≡ s.count + length o.0 = o.2.0 in
      let l : length t.cells.now < t.count + length i.0 = i.2 in
      (o.0, i.0, o.1, i.1, omega (arith, p.places))

  -- both fit
  pub both_fit : (s t u : Strip (Entry V)) → s.count ≡ 0 → Gathered m n rs r Out s.cells.now s.count (Some t.count) t.cells.now → Gathered m n rs r In t.cells.now t.count (Some u.count) u.cells.now → BothGathered m n rs r s.cells.now (Some (t.count, u.count)) u.cells.now
  both_fit s t u z o i =
      let both = o.0 ++ i.0 in
      let cells = s.cells.now in
      let all : Added s.cells.now 0 (o.0 ++ i.0) (Some u.count) u.cells.now =
      subst (λ k. Added s.cells.now k (o.0 ++ i.0) (Some u.count) u.cells.now) z (added_more s.cells.now t.cells.now u.cells.now s.count t.count u.count o.0 i.0 o.2 i.2) in
      let a : t.count ≡ s.count + length o.0 = o.2.0 in
      let j : length (o.0 ++ i.0) ≡ length o.0 + length i.0 = length-append o.0 i.0 in
      let e : u.count ≡ 0 + length (o.0 ++ i.0) = all.0 in
      let w : u.count ≤ length s.cells.now = all.1 in (
        o.0,
        i.0,
        o.1,
        i.1,
        (
          omega arith,
          omega arith,
          w,
          ap₂ take e all.2 ∙ take-paste cells 0 both (length both) (omega arith) (omega arith) ∙ take_all (length both) both (omega arith),
          ap₂ drop e all.2 ∙ drop-paste cells 0 both (length both) (omega arith) (omega arith) ∙ ap (λ x. drop x cells) (sym e),
        ),
      )
