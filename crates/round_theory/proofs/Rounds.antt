-- What every round leaves: values, none better than the best measure of its pair; and a finished entry, once it has its right value, keeps it.
use Rattle.std.proofs.Common.{◌≡◌, ℕ, zero, suc, ◌<◌, ◌≤◌, true, eqb, ◌⊎◌, List, sym, ◌∙◌, subst, ⊎_elim}
use Rattle.std.proofs.lemmas.Bool.{cond_both, cond-false, ne_eqb}
use Rattle.theory.specs.declared.Redraw.{Redraw}
use Rattle.theory.specs.Measures.{Meaning, Lawful, Value, NoWorse, some}
use Rattle.theory.specs.Chains.{Among, Register, direct, best}
use Rattle.theory.specs.Tables.{Table, entry, finished, listed, held, Honest}
use Rattle.theory.specs.Rounds.{first_generated, pruned, generated_after, after_rounds}
use Rattle.theory.proofs.Orders as orders
use Rattle.theory.proofs.Best as bests
use Rattle.theory.proofs.Finished as fin
use Rattle.theory.proofs.Listings as listings
use Rattle.round_theory.proofs.OneRound as one

module _ {V : Type 0} (m : Meaning V) (L : Lawful m) where
  -- the listing of a table of values holds values
  pub listed_values : (n : ℕ) (f : Table V) → fin.Values m L f → fin.Values m L (held m (listed m n f))
  listed_values n f vf u v = ⊎_elim
      (λ (z : held m (listed m n f) u v ≡ m.none). subst (Value m) (sym z) L.none_is_value)
      (λ (a : Among (entry u v (held m (listed m n f) u v)) (listed m n f)). subst (Value m) (sym (listings.listed_among m n f (entry u v (held m (listed m n f) u v)) a).3) (vf u v))
      (listings.held_among m (listed m n f) u v)

  module _ (n : ℕ) (rs : List Redraw) (reg : Register n rs) where
    -- both are values, and the first is not worse
    infix 40 ◌≼◌
    abbrev ◌≼◌ : V → V → Type 0
    a ≼ b = NoWorse m a b

    -- the best measures are values
    vb : fin.Values m L (best m n rs)
    vb = bests.best_value m L n rs reg

    -- from a sheet to itself the empty chain is best
    self : (s : ℕ) → best m n rs s s ≡ m.empty
    self = bests.best_self m L n rs reg

    -- no detour over a sheet of the book is better
    tri : (s w t : ℕ) → w < n → best m n rs s t ≼ m.join (best m n rs s w) (best m n rs w t)
    tri = bests.triangle m L n rs reg

    -- what the first round generates are values
    pub first_value : fin.Values m L (first_generated m rs)
    first_value u v = cond_both (eqb u v) m.none (direct m rs u v) (Value m) (λ _. L.none_is_value) (λ _. bests.direct_value m L n rs reg u v)

    -- for different sheets it generates the best redraw
    pub first_is : (u v : ℕ) → (u ≡ v → ⊥) → first_generated m rs u v ≡ direct m rs u v
    first_is u v ne = cond-false (eqb u v) m.none (direct m rs u v) (ne_eqb u v ne)

    -- which is no better than the best measure
    pub first_honest : (u v : ℕ) → u < n → v < n → (u ≡ v → ⊥) → best m n rs u v ≼ first_generated m rs u v
    first_honest u v lu lv ne = subst (λ x. best m n rs u v ≼ x) (cond-false (eqb u v) m.empty (direct m rs u v) (ne_eqb u v ne) ∙ sym (first_is u v ne)) (bests.reach_first m L n rs reg n u v)

    -- what the next round generates after k rounds
    abbrev laid : ℕ → Table V
    laid k = generated_after m n rs k (after_rounds m n rs k)

    -- what one round leaves of generated values are values
    left_values : (g : Table V) → fin.Values m L g → fin.Values m L (held m (listed m n (pruned m g)))
    left_values g vg = listed_values n (pruned m g) (one.pruned_value m L g vg)

    -- each round generates values
    pub generated_values : (k u v : ℕ) → Value m (generated_after m n rs k (after_rounds m n rs k) u v)
    generated_values zero u v = first_value u v
    generated_values (suc k) u v = one.generated_value m L n (held m (after_rounds m n rs (suc k))) (left_values (laid k) (generated_values k)) u v

    -- and leaves values
    pub rounds_values : (k : ℕ) (u v : ℕ) → Value m (held m (after_rounds m n rs k) u v)
    rounds_values zero u v = L.none_is_value
    rounds_values (suc k) u v = left_values (laid k) (generated_values k) u v

    -- for different sheets of the book a round leaves what pruning leaves of what it generated
    pub round_leaves : (k u v : ℕ) → u < n → v < n → (u ≡ v → ⊥) → held m (after_rounds m n rs (suc k)) u v ≡ pruned m (generated_after m n rs k (after_rounds m n rs k)) u v
    round_leaves k u v lu lv ne = listings.held_listed m L n (pruned m (laid k)) u v (one.pruned_value m L (laid k) (generated_values k)) lu lv ne

    -- and nothing for other pairs
    pub round_leaves_off : (k u v : ℕ) → (u ≡ v) ⊎ ((n ≤ u) ⊎ (n ≤ v)) → held m (after_rounds m n rs (suc k)) u v ≡ m.none
    round_leaves_off k u v off = listings.held_listed_off m n (pruned m (laid k)) u v off

    -- what one round leaves of an honest table is honest
    left_honest : (g : Table V) → fin.Values m L g → ((u v : ℕ) → u < n → v < n → (u ≡ v → ⊥) → best m n rs u v ≼ g u v) → (u v : ℕ) → u < n → v < n → (u ≡ v → ⊥) → best m n rs u v ≼ held m (listed m n (pruned m g)) u v
    left_honest g vg h u v lu lv ne = subst (λ x. best m n rs u v ≼ x) (sym (listings.held_listed m L n (pruned m g) u v (one.pruned_value m L g vg) lu lv ne)) (one.pruned_honest m L n (best m n rs) vb self tri g h u v lu lv ne)

    -- each round generates nothing better than the best measures
    pub generated_no_better : (k u v : ℕ) → u < n → v < n → (u ≡ v → ⊥) → best m n rs u v ≼ generated_after m n rs k (after_rounds m n rs k) u v
    generated_no_better zero u v lu lv ne = first_honest u v lu lv ne
    generated_no_better (suc k) u v lu lv ne = one.generated_honest m L n (best m n rs) vb self tri (held m (after_rounds m n rs (suc k))) (rounds_values (suc k)) (left_honest (laid k) (generated_values k) (generated_no_better k)) u v lu lv ne

    -- and leaves nothing better
    pub rounds_no_better : (k u v : ℕ) → u < n → v < n → (u ≡ v → ⊥) → best m n rs u v ≼ held m (after_rounds m n rs k) u v
    rounds_no_better zero u v lu lv ne = orders.le_none m L (best m n rs u v) (vb u v)
    rounds_no_better (suc k) u v lu lv ne = left_honest (laid k) (generated_values k) (generated_no_better k) u v lu lv ne

    -- the table of every round is honest
    pub rounds_honest : (k : ℕ) → Honest m n (best m n rs) (held m (after_rounds m n rs k))
    rounds_honest k u v lu lv ne = (rounds_no_better k u v lu lv ne).order

    -- a finished entry that a round generates no worse than the best measure is left with its right value
    pub finished_left : (k u v : ℕ) → u < n → v < n → (u ≡ v → ⊥) → some m (finished m (best m n rs) u v) ≡ true → generated_after m n rs k (after_rounds m n rs k) u v ≼ best m n rs u v → held m (after_rounds m n rs (suc k)) u v ≡ finished m (best m n rs) u v
    finished_left k u v lu lv ne s p =
        let is : finished m (best m n rs) u v ≡ best m n rs u v = (fin.finished_some m L n (best m n rs) vb self tri u v s).0 in
        round_leaves k u v lu lv ne
        ∙ one.finished_kept m L n (best m n rs) vb self tri (laid k) (generated_values k) (generated_no_better k) u v lu lv s (orders.antisym m L p (generated_no_better k u v lu lv ne) ∙ sym is)

    -- a finished entry, once it has its right value, keeps it in the next round
    pub finished_stays : (k u v : ℕ) → u < n → v < n → (u ≡ v → ⊥) → some m (finished m (best m n rs) u v) ≡ true → held m (after_rounds m n rs (suc k)) u v ≡ finished m (best m n rs) u v → held m (after_rounds m n rs (suc (suc k))) u v ≡ finished m (best m n rs) u v
    finished_stays k u v lu lv ne s e =
        let is : finished m (best m n rs) u v ≡ best m n rs u v = (fin.finished_some m L n (best m n rs) vb self tri u v s).0 in
        finished_left (suc k) u v lu lv ne s (subst (λ x. laid (suc k) u v ≼ x) (e ∙ is) (one.generated_keeps m L n (held m (after_rounds m n rs (suc k))) (rounds_values (suc k)) u v ne))

    -- so it keeps the value that the first round gave it
    pub finished_stays_from_first : (k u v : ℕ) → u < n → v < n → (u ≡ v → ⊥) → some m (finished m (best m n rs) u v) ≡ true → held m (after_rounds m n rs 1) u v ≡ finished m (best m n rs) u v → held m (after_rounds m n rs (suc k)) u v ≡ finished m (best m n rs) u v
    finished_stays_from_first zero u v lu lv ne s e = e
    finished_stays_from_first (suc k) u v lu lv ne s e = finished_stays k u v lu lv ne s (finished_stays_from_first k u v lu lv ne s e)

    -- a round that leaves every finished entry with its right value leaves the finished table
    pub round_finished : (k : ℕ) → ((u v : ℕ) → u < n → v < n → (u ≡ v → ⊥) → some m (finished m (best m n rs) u v) ≡ true → held m (after_rounds m n rs (suc k)) u v ≡ finished m (best m n rs) u v) → after_rounds m n rs (suc k) ≡ listed m n (finished m (best m n rs))
    round_finished k has = listings.listed_same m n (pruned m (laid k)) (finished m (best m n rs)) (one.pruned_finished m L n (best m n rs) vb self tri (laid k) (generated_values k) (generated_no_better k) was_there)
      where
        was_there : (u v : ℕ) → u < n → v < n → (u ≡ v → ⊥) → some m (finished m (best m n rs) u v) ≡ true → generated_after m n rs k (after_rounds m n rs k) u v ≡ finished m (best m n rs) u v
        was_there u v lu lv ne s =
            let left : pruned m (laid k) u v ≡ finished m (best m n rs) u v = sym (round_leaves k u v lu lv ne) ∙ has u v lu lv ne s in
            ⊎_elim
            (λ (z : pruned m (laid k) u v ≡ m.none). absurd (orders.some_not_none m L (finished m (best m n rs) u v) s (sym left ∙ z)))
            (λ (e : pruned m (laid k) u v ≡ laid k u v). sym e ∙ left)
            (one.pruned_either m L (laid k) u v)
