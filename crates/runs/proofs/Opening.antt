-- Enter and clear leave a sound book, open and without entries.
use Rattle.std.proofs.Common.{◌≡◌, ℕ, ◌<◌, ◌≤◌, Bool, true, false, cond, not, ◌&&◌, eqb, ltb, leb, List, [], ◌∷◌, ◌++◌, length, Some, None, Option, refl, arith}
use Rattle.std.proofs.lemmas.Bool.{not-false, not_from_false, and_from, leb-false}
use Rattle.std.proofs.lemmas.List.{length-append}
use Rattle.std.proofs.ByRecursion.{All-push}
use Rattle.theory.specs.declared.Redraw.{Redraw}
use Rattle.theory.specs.declared.Phase as phases
use Rattle.theory.specs.declared.Refusal.{Refusal}
use Rattle.theory.specs.declared.Refusal.TheVariants.{UnknownSheet, SameSheet, Minutes, Grade, RegisterFull}
use Rattle.theory.specs.Measures.{Meaning}
use Rattle.theory.specs.Chains.{Register, fits}
use Rattle.theory.specs.Books.{View, Sound, changed, redraw, enter_refusal}

-- a test that would refuse has failed where nothing is refused
pub passed : (b : Bool) (e : Refusal) (o : Option Refusal) → cond b (Some e) o ≡ None → (b ≡ false) × (o ≡ None)
passed true e o h = let z : ◌≡◌ {A = ℕ} 0 1 = cc in absurd (omega arith)
passed false e o h = (refl, h)

module _ {V : Type 0} (m : Meaning V) (v : View V) (S : Sound m v) where
  -- an open book without entries
  pub opened_sound : (rs : List Redraw) → length rs ≤ v.register_places → Register v.sheets rs → Sound m (changed v rs [] phases.TheVariants.Open)
  opened_sound rs within fit = record {
    some_sheets = S.some_sheets;
    sheets_bound = S.sheets_bound;
    register_bound = S.register_bound;
    table_bound = S.table_bound;
    redraws_within = within;
    entries_within = omega arith;
    redraws_fit = fit;
    stands = refl;
  }

  pub cleared_sound : Sound m (changed v v.redraws [] phases.TheVariants.Open)
  cleared_sound = opened_sound v.redraws S.redraws_within S.redraws_fit

  -- a redraw that is not refused fits, and has a place
  pub entered_sound : (from to minutes grade : ℕ) → enter_refusal v from to minutes grade ≡ None → Sound m (changed v (v.redraws ++ redraw from to minutes grade ∷ []) [] phases.TheVariants.Open)
  entered_sound from to minutes grade h =
      let a = passed (not (ltb from v.sheets && ltb to v.sheets)) UnknownSheet _ h in
      let b = passed (eqb from to) SameSheet _ a.1 in
      let c = passed (not (leb 1 minutes && leb minutes 65535)) Minutes _ b.1 in
      let d = passed (not (leb 1 grade && leb grade 5)) Grade _ c.1 in
      let e = passed (leb v.register_places (length v.redraws)) RegisterFull None d.1 in
      let room : length v.redraws < v.register_places = leb-false v.register_places (length v.redraws) e.0 in
      let long = length-append v.redraws (redraw from to minutes grade ∷ []) in
      let fit : fits v.sheets (redraw from to minutes grade) ≡ true =
      and_from ((leb 1 minutes && leb minutes 65535) && (leb 1 grade && leb grade 5)) ((ltb from v.sheets && ltb to v.sheets) && not (eqb from to))
      (and_from (leb 1 minutes && leb minutes 65535) (leb 1 grade && leb grade 5) (not-false (leb 1 minutes && leb minutes 65535) c.0) (not-false (leb 1 grade && leb grade 5) d.0))
      (and_from (ltb from v.sheets && ltb to v.sheets) (not (eqb from to)) (not-false (ltb from v.sheets && ltb to v.sheets) a.0) (not_from_false (eqb from to) b.0)) in
      opened_sound (v.redraws ++ redraw from to minutes grade ∷ []) (omega arith) (All-push (λ r. fits v.sheets r ≡ true) v.redraws (redraw from to minutes grade) S.redraws_fit fit)
