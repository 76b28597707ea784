-- The next root of a sound book, and the sound book that an accepted root leaves.
use Rattle.std.proofs.Common.{◌≡◌, ℕ, suc, ◌<◌, ◌≤◌, Bool, true, false, eqb, ltb, List, [], ◌∷◌, length, Some, None, Option, sym, refl, ap, ◌∙◌, subst, ⊎_elim, arith}
use Rattle.std.proofs.lemmas.Bool.{cases_Bool, cond-false, ltb-true, ltb-false, eqb-true, eqb-false}
use Rattle.theory.specs.declared.Phase as phases
use Rattle.theory.specs.declared.Phase.{Phase}
use Rattle.theory.specs.declared.Refusal.{Refusal}
use Rattle.theory.specs.declared.Refusal.TheVariants.{WantOfPlaces}
use Rattle.theory.specs.Measures.{Meaning, Lawful, some}
use Rattle.theory.specs.Chains.{best}
use Rattle.theory.specs.Tables.{Table, rooted, listed, pairs, entries_at}
use Rattle.theory.specs.Books.{View, Sound, Stands, changed, root_entries, root_refusal, places_refusal, roots_done, phase_after, taken_view, root, NothingFits}
use Rattle.theory.proofs.Orders as orders
use Rattle.theory.proofs.Roots as roots
use Rattle.theory.proofs.Guarantees as guarantees
use Rattle.runs.specs.Turns.{NextRoot}
use Rattle.runs.proofs.Opening.{passed}

-- so many entries are not refused for want of places exactly if they fit
pub places_enough : {V : Type 0} (v : View V) (size : ℕ) → places_refusal v size ≡ None → size ≤ v.table_places
places_enough v size h = ltb-false v.table_places size (passed (ltb v.table_places size) WantOfPlaces None h).0

pub places_wanting : {V : Type 0} (v : View V) (size : ℕ) → places_refusal v size ≡ Some WantOfPlaces → v.table_places < size
places_wanting v size h = ⊎_elim
    (λ (t : ltb v.table_places size ≡ true). ltb-true v.table_places size t)
    (λ (f : ltb v.table_places size ≡ false). absurd (none_some (sym (cond-false (ltb v.table_places size) (Some WantOfPlaces) None f) ∙ h)))
    (cases_Bool (ltb v.table_places size))
  where
    none_some : ◌≡◌ {A = Option Refusal} None (Some WantOfPlaces) → ⊥
    none_some e = let z : ◌≡◌ {A = ℕ} 0 1 = cc in omega arith

module _ {V : Type 0} (m : Meaning V) (L : Lawful m) where
  nothing_at : (f : Table V) (ps : List (ℕ × ℕ)) → ((u v : ℕ) → f u v ≡ m.none) → entries_at m f ps ≡ []
  nothing_at f [] h = refl
  nothing_at f (p ∷ ps) h = cond-false (some m (f p.0 p.1)) _ _ (ap (some m) (h p.0 p.1) ∙ orders.none_not_some m L) ∙ nothing_at f ps h

  -- before the first root there are no entries
  no_roots : (n : ℕ) (b : Table V) → listed m n (rooted m 0 b) ≡ []
  no_roots n b = nothing_at (rooted m 0 b) (pairs n) (λ u v. roots.rooted_out m L 0 b u v (omega arith))

  module _ (v : View V) (S : Sound m v) where
    -- the next root, by the phase
    pub next_root_open : v.phase ≡ phases.TheVariants.Open → NextRoot m v 0
    next_root_open e =
        let s : 1 ≤ v.sheets = S.some_sheets in
        record {
          below = omega arith;
          roots_are = ap roots_done e;
          entries_are = subst (Stands m v.sheets v.redraws v.entries) e S.stands ∙ sym (no_roots v.sheets (best m v.sheets v.redraws));
          only_places = ap (root_refusal m v) e;
        }

    pub next_root_after : (r : ℕ) → v.phase ≡ phases.TheVariants.Roots r → NextRoot m v r
    next_root_after r e =
        let h = subst (Stands m v.sheets v.redraws v.entries) e S.stands in
        record { below = h.1; roots_are = ap roots_done e; entries_are = h.2; only_places = ap (root_refusal m v) e }

    module _ (r : ℕ) (N : NextRoot m v r) where
      stands_then : (d : Bool) → eqb (suc r) v.sheets ≡ d → Stands m v.sheets v.redraws (root_entries m v (suc r)) (phase_after d (phases.TheVariants.Roots (suc r)))
      stands_then true e = ap (λ k. listed m v.sheets (rooted m k (best m v.sheets v.redraws))) (eqb-true (suc r) v.sheets e) ∙ guarantees.rooted_all m L v.sheets v.redraws S.redraws_fit
      stands_then false e =
          let l : r < v.sheets = N.below in
          let ne = eqb-false (suc r) v.sheets e in
          (omega arith, omega arith, refl)

      -- the book after the root is sound
      pub rooted_sound : length (root_entries m v (suc r)) ≤ v.table_places → Sound m (taken_view m v root)
      rooted_sound enough =
          subst (λ k. Sound m (changed v v.redraws (root_entries m v k) (phase_after (eqb k v.sheets) (phases.TheVariants.Roots k)))) (sym (ap suc N.roots_are)) (record {
            some_sheets = S.some_sheets;
            sheets_bound = S.sheets_bound;
            register_bound = S.register_bound;
            table_bound = S.table_bound;
            redraws_within = S.redraws_within;
            entries_within = enough;
            redraws_fit = S.redraws_fit;
            stands = stands_then (eqb (suc r) v.sheets) refl;
          })

    -- the same by the phase, where the root is not refused
    pub root_sound : (p : Phase) → v.phase ≡ p → root_refusal m v p ≡ None → Sound m (taken_view m v root)
    root_sound phases.TheVariants.Open e h = rooted_sound 0 (next_root_open e) (places_enough v (length (root_entries m v 1)) h)
    root_sound (phases.TheVariants.Rounds k) e h = let z : ◌≡◌ {A = ℕ} 0 1 = cc in absurd (omega arith)
    root_sound (phases.TheVariants.Roots r) e h = rooted_sound r (next_root_after r e) (places_enough v (length (root_entries m v (suc r))) h)
    root_sound phases.TheVariants.Finished e h = let z : ◌≡◌ {A = ℕ} 0 1 = cc in absurd (omega arith)

    -- a root is refused for want of places only if no honest, right table fits
    pub wanting : (p : Phase) → root_refusal m v p ≡ Some WantOfPlaces → NothingFits m v
    wanting phases.TheVariants.Open h = guarantees.nothing_fits m L v S 1 (places_wanting v (length (root_entries m v 1)) h)
    wanting (phases.TheVariants.Rounds k) h = let z : ◌≡◌ {A = ℕ} 0 1 = cc in absurd (omega arith)
    wanting (phases.TheVariants.Roots r) h = guarantees.nothing_fits m L v S (suc r) (places_wanting v (length (root_entries m v (suc r))) h)
    wanting phases.TheVariants.Finished h = let z : ◌≡◌ {A = ℕ} 0 1 = cc in absurd (omega arith)
