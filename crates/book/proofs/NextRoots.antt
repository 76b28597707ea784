-- Root steps of a book: the next root of a sound book, and the book after the root.
use Rattle.std.proofs.Common.{◌≡◌, ℕ, suc, ◌+◌, ◌<◌, ◌≤◌, Bool, true, false, cond, eqb, List, [], ◌∷◌, length, Some, None, sym, refl, ap, ◌∙◌, subst, ap₂, arith}
use Rattle.std.proofs.lemmas.Bool.{cond-false, le-ltb, ltb-true, eqb-true, eqb-false}
use Rattle.theory.specs.declared.Phase as phases
use Rattle.theory.specs.declared.Phase.{Phase}
use Rattle.theory.specs.declared.Progress.{Progress}
use Rattle.theory.specs.declared.Refusal.TheVariants.{WantOfPlaces}
use Rattle.theory.specs.Measures.{Meaning, Lawful, some}
use Rattle.theory.specs.Chains.{best}
use Rattle.theory.specs.Tables.{Table, rooted, finished, listed, entries_at}
use Rattle.theory.specs.Books.{View, Answer, Sound, Stands, Stepped, changed, root_entries, root_refusal, roots_done, root_ends, progress, phase_after, taken_answer, taken_view, built, root, NothingFits}
use Rattle.theory.proofs.Orders as orders
use Rattle.theory.proofs.Roots as roots
use Rattle.theory.proofs.Guarantees as guarantees
use Rattle.book.specs.declared.book.Book.{Book}
use Rattle.book.specs.Views.{view, Kept}
use Rattle.book.specs.Rooting.{NextRoot, PutIn}
use Rattle.book.specs.Phases.{one_more, advanced}
use Rattle.book.specs.declared.phase.Taken.TheVariants as taken

module _ {V : Type 0} (m : Meaning V) (L : Lawful m) where
  nothing_at : (f : Table V) (ps : List (ℕ × ℕ)) → ((u v : ℕ) → f u v ≡ m.none) → entries_at m f ps ≡ []
  nothing_at f [] h = refl
  nothing_at f (p ∷ ps) h = cond-false (some m (f p.0 p.1)) _ _ (ap (some m) (h p.0 p.1) ∙ orders.none_not_some m L) ∙ nothing_at f ps h

  -- before the first root there are no entries
  pub no_roots : (n : ℕ) (b : Table V) → listed m n (rooted m 0 b) ≡ []
  no_roots n b = nothing_at (rooted m 0 b) (Rattle.theory.specs.Tables.pairs n) (λ u v. roots.rooted_out m L 0 b u v (omega arith))

  -- the next root, by the phase
  pub next_open : (v : View V) → Sound m v → v.phase ≡ phases.TheVariants.Open → NextRoot m v 0
  next_open v S e =
      record {
        below = S.some_sheets;
        roots_are = ap roots_done e;
        entries_are = subst (Stands m v.sheets v.redraws v.entries) e S.stands ∙ sym (no_roots v.sheets (best m v.sheets v.redraws));
        only_places = ap (root_refusal m v) e;
      }

  pub next_after : (v : View V) → Sound m v → (r : ℕ) → v.phase ≡ phases.TheVariants.Roots r → NextRoot m v r
  next_after v S r e =
      let h = subst (Stands m v.sheets v.redraws v.entries) e S.stands in
      record {
        below = h.1;
        roots_are = ap roots_done e;
        entries_are = h.2;
        only_places = ap (root_refusal m v) e;
      }

  -- where a root leaves the phase, by whether it was the last
  advanced_root : (p : Phase) (last : Bool) → advanced p (taken.Root (progress last)) ≡ phase_after last (phases.TheVariants.Roots (one_more (roots_done p)))
  advanced_root p true = refl
  advanced_root p false = refl

  -- once the phase has moved on the book is sound again, and says so
  module _ (v : View V) (S : Sound m v) (r : ℕ) (N : NextRoot m v r) where
    stands_then : (d : Bool) → eqb (suc r) v.sheets ≡ d → Stands m v.sheets v.redraws (root_entries m v (suc r)) (phase_after d (phases.TheVariants.Roots (suc r)))
    stands_then true e = ap (λ k. listed m v.sheets (rooted m k (best m v.sheets v.redraws))) (eqb-true (suc r) v.sheets e) ∙ guarantees.rooted_all m L v.sheets v.redraws S.redraws_fit
    stands_then false e =
        let l : r < v.sheets = N.below in
        let ne = eqb-false (suc r) v.sheets e in
        (omega arith, omega arith, refl)

    done_is : suc (roots_done v.phase) ≡ suc r
    done_is = ap suc N.roots_are

    pub root_sound : length (root_entries m v (suc r)) ≤ v.table_places → Sound m (taken_view m v root)
    root_sound enough =
        let n : ℕ = v.sheets in
        subst (λ k. Sound m (changed v v.redraws (root_entries m v k) (phase_after (eqb k v.sheets) (phases.TheVariants.Roots k)))) (sym done_is) (record {
          some_sheets = S.some_sheets;
          sheets_bound = S.sheets_bound;
          register_bound = S.register_bound;
          table_bound = S.table_bound;
          redraws_within = S.redraws_within;
          entries_within = enough;
          redraws_fit = S.redraws_fit;
          stands = stands_then (eqb (suc r) v.sheets) refl;
        })

    pub concluded : (b : Book V) (p : Phase) → PutIn m v r b → (number : ℕ) → number ≡ r + 1 → (last : Bool) → last ≡ eqb number b.sheets → (says : Progress) → says ≡ progress last → p ≡ advanced b.phase (taken.Root says)
        → (built number says ≡ taken_answer m v root) × (view (record b { phase = p }) ≡ taken_view m v root) × Kept m (record b { phase = p })
    concluded b p P number en last el says eq ep =
        let few : v.sheets ≤ 1024 = S.sheets_bound in
        let below : r < v.sheets = N.below in
        let d : roots_done v.phase ≡ r = N.roots_are in
        let one : number ≡ suc (roots_done v.phase) = omega arith in
        let ends : last ≡ root_ends v = el ∙ ap₂ eqb one (ap (λ x. x.sheets) P.seen) in
        let same : roots_done b.phase ≡ r = ap (λ x. roots_done x.phase) P.seen ∙ d in
        let more : one_more (roots_done b.phase) ≡ suc (roots_done v.phase) = omega arith in
        let phase_then : p ≡ phase_after (root_ends v) (phases.TheVariants.Roots (suc (roots_done v.phase))) = ep ∙ ap (λ s. advanced b.phase (taken.Root s)) eq ∙ advanced_root b.phase last ∙ ap₂ (λ (e : Bool) (k : ℕ). phase_after e (phases.TheVariants.Roots k)) ends more in
        let seen : view (record b { phase = p }) ≡ taken_view m v root = ap (λ x. changed x x.redraws x.entries p) P.seen ∙ ap₂ (λ k q. changed v v.redraws (root_entries m v k) q) (sym done_is) phase_then in (
          ap₂ (λ k q. built k q) one (eq ∙ ap progress ends),
          seen,
          record { redraws_counted = P.redraws_counted; entries_counted = P.entries_counted; strips_laid_out = P.strips_laid_out; sound = subst (Sound m) (sym seen) (root_sound P.enough) },
        )

    -- the step of an accepted root
    pub root_taken : (a : Answer V) (x : View V) → length (root_entries m v (suc r)) ≤ v.table_places → a ≡ taken_answer m v root → x ≡ taken_view m v root → Stepped m v root a x
    root_taken a x enough ea ex =
        let free : root_refusal m v v.phase ≡ None = N.only_places ∙ rw (le-ltb v.table_places (length (root_entries m v (suc r))) enough) refl in
        record { callable = tt; answers = rw free ea; leaves = rw free ex }

  -- a root is refused for want of places only if no honest, right table fits
  wants : (b : Bool) → cond b (Some WantOfPlaces) None ≡ Some WantOfPlaces → b ≡ true
  wants true h = refl
  wants false h = cc

  pub wanting : (v : View V) → Sound m v → (p : Phase) → root_refusal m v p ≡ Some WantOfPlaces → NothingFits m v
  wanting v S phases.TheVariants.Open h = guarantees.nothing_fits m L v S 1 (ltb-true _ _ (wants _ h))
  wanting v S (phases.TheVariants.Rounds k) h = absurd (cc)
  wanting v S (phases.TheVariants.Roots r) h = guarantees.nothing_fits m L v S (suc r) (ltb-true _ _ (wants _ h))
  wanting v S phases.TheVariants.Finished h = absurd (cc)
