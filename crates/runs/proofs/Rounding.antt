-- The next round of a sound book under a strict measure, and the sound book that an accepted round leaves.
use Rattle.std.proofs.Common.{◌≡◌, ℕ, zero, suc, ◌<◌, ◌≤◌, Bool, true, false, [], length, None, sym, refl, ap, ◌∙◌, subst, ap₂, ⊎_elim, arith}
use Rattle.std.proofs.lemmas.Bool.{both_ways, cases_lt, cond_both}
use Rattle.theory.specs.declared.Entry.{Entry}
use Rattle.theory.specs.declared.Phase as phases
use Rattle.theory.specs.declared.Phase.{Phase}
use Rattle.theory.specs.Measures.{Meaning, Lawful, Strict, Value, some}
use Rattle.theory.specs.Chains.{Among}
use Rattle.theory.specs.Tables.{Table, listed}
use Rattle.theory.specs.Rounds.{after_rounds, generated_after, pruned}
use Rattle.theory.specs.Books.{View, Sound, Stands, round_entries, round_refusal, generated_size, rounds_done, round_ends, same_entries, phase_after, taken_view, round}
use Rattle.theory.proofs.Orders as orders
use Rattle.theory.proofs.Listings as listings
use Rattle.theory.proofs.SortedTables.{listed_sorted}
use Rattle.theory.specs.Order.{Sorted}
use Rattle.round_theory.proofs.Rounds as rounds
use Rattle.round_theory.proofs.Arrival as arrival
use Rattle.round_theory.proofs.SameEntries.{same_entries_true, same_entries_refl}
use Rattle.runs.specs.Turns.{NextRound, FewRounds}
use Rattle.runs.proofs.Rooting.{places_enough}

module _ {V : Type 0} (m : Meaning V) (L : Lawful m) where
  -- pruning leaves no more than was generated
  pruned_fewer : (n : ℕ) (g : Table V) → length (listed m n (pruned m g)) ≤ length (listed m n g)
  pruned_fewer n g = listings.listed_length_le m n (pruned m g) g (λ u v _ _ _. cond_both _ m.none (g u v) (λ x. some m x ≡ true → some m (g u v) ≡ true) (λ _ s. absurd (orders.some_not_none m L m.none s refl)) (λ _ s. s))

  module _ (v : View V) (S : Sound m v) where
    -- the next round, by the phase
    pub next_round_open : v.phase ≡ phases.TheVariants.Open → NextRound m v 0
    next_round_open e =
        let s : 1 ≤ v.sheets = S.some_sheets in
        record {
          below = omega arith;
          rounds_are = ap rounds_done e;
          entries_are = subst (Stands m v.sheets v.redraws v.entries) e S.stands;
          only_places = ap (round_refusal m v) e;
        }

    pub next_round_after : FewRounds v.sheets v.phase → (k : ℕ) → v.phase ≡ phases.TheVariants.Rounds k → NextRound m v k
    next_round_after few k e =
        let h = subst (Stands m v.sheets v.redraws v.entries) e S.stands in
        record { below = subst (FewRounds v.sheets) e few; rounds_are = ap rounds_done e; entries_are = h.1; only_places = ap (round_refusal m v) e }

    values_after : (k : ℕ) (e : Entry V) → Among e (after_rounds m v.sheets v.redraws k) → Value m e.value
    values_after zero e w = absurd w
    values_after (suc k) e w =
        let g : Table V = generated_after m v.sheets v.redraws k (after_rounds m v.sheets v.redraws k) in
        let p = listings.listed_among m v.sheets (pruned m g) e w in
        subst (Value m) (sym p.3) (cond_both _ m.none (g e.from e.to) (Value m) (λ _. L.none_is_value) (λ _. rounds.generated_values m L v.sheets v.redraws S.redraws_fit k e.from e.to))

    sorted_after : (k : ℕ) → Sorted m v.sheets (after_rounds m v.sheets v.redraws k)
    sorted_after zero = record { each = λ i d l. absurd (omega arith); rises = λ i j d l h. absurd (omega arith) }
    sorted_after (suc k) =
        let few : v.sheets ≤ 1024 = S.sheets_bound in
        let g : Table V = generated_after m v.sheets v.redraws k (after_rounds m v.sheets v.redraws k) in
        listed_sorted m v.sheets (pruned m g) (omega arith) (λ x y. cond_both _ m.none (g x y) (Value m) (λ _. L.none_is_value) (λ _. rounds.generated_values m L v.sheets v.redraws S.redraws_fit k x y))

    -- the entries before the round stand in order
    pub round_in_order : (k : ℕ) → NextRound m v k → Sorted m v.sheets v.entries
    round_in_order k N = subst (Sorted m v.sheets) (sym N.entries_are) (sorted_after k)

    module _ (strict : Strict m) (k : ℕ) (N : NextRound m v k) where
      -- the entries that the round leaves are those after one round more
      pub round_leaves : round_entries m v ≡ after_rounds m v.sheets v.redraws (suc k)
      round_leaves = ap₂ (λ j es. listed m v.sheets (pruned m (generated_after m v.sheets v.redraws j es))) N.rounds_are N.entries_are

      -- the round ends the building exactly if it changes nothing
      ended_same : round_ends m v ≡ true → after_rounds m v.sheets v.redraws (suc k) ≡ after_rounds m v.sheets v.redraws k
      ended_same h = same_entries_true m L (after_rounds m v.sheets v.redraws (suc k)) (after_rounds m v.sheets v.redraws k) (values_after (suc k)) (values_after k)
          (sym (ap₂ (same_entries m) round_leaves N.entries_are) ∙ h)

      same_ended : after_rounds m v.sheets v.redraws (suc k) ≡ after_rounds m v.sheets v.redraws k → round_ends m v ≡ true
      same_ended e = ap₂ (same_entries m) (round_leaves ∙ e) N.entries_are ∙ same_entries_refl m L (after_rounds m v.sheets v.redraws k) (values_after k)

      -- as many rounds as sheets: the last of them changes nothing
      nothing_new : (j : ℕ) → v.sheets ≤ suc j → after_rounds m v.sheets v.redraws (suc j) ≡ after_rounds m v.sheets v.redraws j
      nothing_new zero l =
          let s : 1 ≤ v.sheets = S.some_sheets in
          let one : v.sheets ≡ 1 = omega arith in
          ap (λ n. listed m n (pruned m (generated_after m v.sheets v.redraws 0 []))) one
      nothing_new (suc j) l = arrival.rounds_arrive m L v.sheets v.redraws S.redraws_fit strict (suc (suc j)) (omega arith) (omega arith) ∙ sym (arrival.rounds_arrive m L v.sheets v.redraws S.redraws_fit strict (suc j) (omega arith) l)

      stands_then : (d : Bool) → round_ends m v ≡ d → Stands m v.sheets v.redraws (round_entries m v) (phase_after d (phases.TheVariants.Rounds (suc k)))
      stands_then true e = round_leaves ∙ arrival.rounds_stop m L v.sheets v.redraws S.redraws_fit strict k (ended_same e)
      stands_then false e = (omega arith, round_leaves)

      few_then : (d : Bool) → round_ends m v ≡ d → FewRounds v.sheets (phase_after d (phases.TheVariants.Rounds (suc k)))
      few_then true e = tt
      few_then false e = ⊎_elim (λ (l : suc k < v.sheets). l) (λ (l : v.sheets ≤ suc k). absurd (both_ways (round_ends m v) e (same_ended (nothing_new k l)))) (cases_lt (suc k) v.sheets)

      -- the book after the round is sound
      pub rounded_sound : generated_size m v k ≤ v.table_places → Sound m (taken_view m v round)
      rounded_sound enough =
          let fewer : length (round_entries m v) ≤ generated_size m v (rounds_done v.phase) = pruned_fewer v.sheets (generated_after m v.sheets v.redraws (rounds_done v.phase) v.entries) in
          let size : generated_size m v (rounds_done v.phase) ≡ generated_size m v k = ap (generated_size m v) N.rounds_are in
          record {
            some_sheets = S.some_sheets;
            sheets_bound = S.sheets_bound;
            register_bound = S.register_bound;
            table_bound = S.table_bound;
            redraws_within = S.redraws_within;
            entries_within = omega arith;
            redraws_fit = S.redraws_fit;
            stands = subst (λ j. Stands m v.sheets v.redraws (round_entries m v) (phase_after (round_ends m v) (phases.TheVariants.Rounds (suc j)))) (sym N.rounds_are) (stands_then (round_ends m v) refl);
          }

      -- and has had fewer rounds than sheets, if it is still in rounds
      pub rounded_few : FewRounds v.sheets (taken_view m v round).phase
      rounded_few = subst (λ j. FewRounds v.sheets (phase_after (round_ends m v) (phases.TheVariants.Rounds (suc j)))) (sym N.rounds_are) (few_then (round_ends m v) refl)

    -- the same by the phase, where the round is not refused
    pub round_sound : Strict m → FewRounds v.sheets v.phase → (p : Phase) → v.phase ≡ p → round_refusal m v p ≡ None → Sound m (taken_view m v round) × FewRounds v.sheets (taken_view m v round).phase
    round_sound strict few phases.TheVariants.Open e h = (rounded_sound strict 0 (next_round_open e) (places_enough v (generated_size m v 0) h), rounded_few strict 0 (next_round_open e))
    round_sound strict few (phases.TheVariants.Rounds k) e h = (rounded_sound strict k (next_round_after few k e) (places_enough v (generated_size m v k) h), rounded_few strict k (next_round_after few k e))
    round_sound strict few (phases.TheVariants.Roots r) e h = let z : ◌≡◌ {A = ℕ} 0 1 = cc in absurd (omega arith)
    round_sound strict few phases.TheVariants.Finished e h = let z : ◌≡◌ {A = ℕ} 0 1 = cc in absurd (omega arith)
