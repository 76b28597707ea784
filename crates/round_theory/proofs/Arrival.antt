-- Under a strict measure rounds arrive at the finished table: after as many rounds as sheets less one, and at least one,
-- and whenever a round has changed nothing.
use Rattle.std.proofs.Common.{◌≡◌, ℕ, zero, suc, ◌+◌, ◌<◌, ◌≤◌, min, true, eqb, ◌⊎◌, List, [], ◌∷◌, sym, refl, ap, ◌∙◌, subst, ap₂, inl, inr, ⊎_elim, arith}
use Rattle.std.proofs.lemmas.Bool.{cond_both, cond-false, cases_eq, cases_lt}
use Rattle.theory.specs.declared.Redraw.{Redraw}
use Rattle.theory.specs.declared.Entry.{Entry}
use Rattle.theory.specs.Measures.{Meaning, Lawful, NoWorse, Strict, some, pick, best_below}
use Rattle.theory.specs.Chains.{Register, direct, best}
use Rattle.theory.specs.Tables.{Table, entry, between, entries_at, pairs, finished, listed, held}
use Rattle.theory.specs.Rounds.{generated, pruned, after_rounds}
use Rattle.theory.proofs.Orders as orders
use Rattle.theory.proofs.Best as bests
use Rattle.theory.proofs.Finished as fin
use Rattle.round_theory.proofs.Counts.{count, count_positive}
use Rattle.round_theory.proofs.OneRound as one
use Rattle.round_theory.proofs.FirstRedraw as firsts
use Rattle.round_theory.proofs.StrictBetween as strict
use Rattle.round_theory.proofs.Rounds as rounds

module _ {V : Type 0} (m : Meaning V) (L : Lawful m) where
  -- a table with no entries has no entries at any pairs
  empty_entries : (f : Table V) → ((u v : ℕ) → f u v ≡ m.none) → (ps : List (ℕ × ℕ)) → entries_at m f ps ≡ []
  empty_entries f z [] = refl
  empty_entries f z (p ∷ ps) = cond-false (some m (f p.0 p.1)) (entry p.0 p.1 (f p.0 p.1) ∷ entries_at m f ps) (entries_at m f ps) (ap (some m) (z p.0 p.1) ∙ orders.none_not_some m L) ∙ empty_entries f z ps

  -- from a table with no entries nothing is offered
  empty_offer : (f : Table V) → ((u v : ℕ) → f u v ≡ m.none) → (u v w : ℕ) → one.offer m L f u v w ≡ m.none
  empty_offer f z u v w = cond_both (one.joinable m L u v w) (m.join (f u w) (f w v)) m.none (λ x. x ≡ m.none) (λ _. ap₂ m.join (z u w) (z w v) ∙ L.none_in_front m.none L.none_is_value) (λ _. refl)

  -- so nothing is generated
  empty_generated : (n : ℕ) (f : Table V) → ((u v : ℕ) → f u v ≡ m.none) → (u v : ℕ) → generated m n f u v ≡ m.none
  empty_generated n f z u v = cond_both (eqb u v) m.none (pick m (f u v) (best_below m n (one.offer m L f u v))) (λ x. x ≡ m.none) (λ _. refl) (λ _. ⊎_elim
      (λ (e : pick m (f u v) (best_below m n (one.offer m L f u v)) ≡ f u v). e ∙ z u v)
      (λ (e : pick m (f u v) (best_below m n (one.offer m L f u v)) ≡ best_below m n (one.offer m L f u v)). e ∙ ⊎_elim
      (λ (q : best_below m n (one.offer m L f u v) ≡ m.none). q)
      (λ (w : (i : ℕ) × (i < n) × (best_below m n (one.offer m L f u v) ≡ one.offer m L f u v i)). w.2 ∙ empty_offer f z u v w.0)
      (orders.best_below_one m L n (one.offer m L f u v)))
      (orders.pick_either m L (f u v) (best_below m n (one.offer m L f u v))))

  -- and nothing is left
  empty_pruned : (g : Table V) → ((u v : ℕ) → g u v ≡ m.none) → (u v : ℕ) → pruned m g u v ≡ m.none
  empty_pruned g z u v = ⊎_elim (λ (e : pruned m g u v ≡ m.none). e) (λ (e : pruned m g u v ≡ g u v). e ∙ z u v) (one.pruned_either m L g u v)

  -- the entries that a round after the first leaves of the entries es
  abbrev pub next_round : ℕ → List (Entry V) → List (Entry V)
  next_round n es = listed m n (pruned m (generated m n (held m es)))

  -- of no entries it leaves none
  pub empty_round : (n : ℕ) → next_round n [] ≡ []
  empty_round n = empty_entries (pruned m (generated m n (held m []))) (empty_pruned (generated m n (held m [])) (empty_generated n (held m []) (λ u v. refl))) (pairs n)

  module _ (n : ℕ) (rs : List Redraw) (reg : Register n rs) where
    -- both are values, and the first is not worse
    infix 40 ◌≼◌
    abbrev ◌≼◌ : V → V → Type 0
    a ≼ b = NoWorse m a b

    -- the best measures are values
    vb : fin.Values m L (best m n rs)
    vb = bests.best_value m L n rs reg

    -- from a sheet to itself the empty chain is best
    self : (s : ℕ) → best m n rs s s ≡ m.empty
    self = bests.best_self m L n rs reg

    -- no detour over a sheet of the book is better
    tri : (s w t : ℕ) → w < n → best m n rs s t ≼ m.join (best m n rs s w) (best m n rs w t)
    tri = bests.triangle m L n rs reg

    -- entries that a round does not change are those of every later round
    unchanged : (k i : ℕ) → suc k ≤ i → next_round n (after_rounds m n rs (suc k)) ≡ after_rounds m n rs (suc k) → after_rounds m n rs i ≡ after_rounds m n rs (suc k)
    unchanged k zero l e = absurd (omega arith)
    unchanged k (suc zero) l e = let z : 0 ≡ k = omega arith in ap (λ x. after_rounds m n rs (suc x)) z
    unchanged k (suc (suc i)) l e = ⊎_elim
        (λ (q : suc i ≡ k). ap (λ x. after_rounds m n rs (suc x)) q)
        (λ (ne : suc i ≡ k → ⊥). ap (next_round n) (unchanged k (suc i) (omega arith) e) ∙ e)
        (cases_eq (suc i) k)

    -- a finished entry whose first redraw leads all the way is there from the first round on
    first_arrives : (k u v : ℕ) → u < n → v < n → (u ≡ v → ⊥) → some m (finished m (best m n rs) u v) ≡ true → direct m rs u v ≼ best m n rs u v → held m (after_rounds m n rs (suc k)) u v ≡ finished m (best m n rs) u v
    first_arrives k u v lu lv ne s p = rounds.finished_stays_from_first m L n rs reg k u v lu lv ne s (rounds.finished_left m L n rs reg 0 u v lu lv ne s (subst (λ x. x ≼ best m n rs u v) (sym (rounds.first_is m L n rs reg u v ne)) p))

    -- a round joins the two parts of a way over a sheet that may be joined over
    join_arrives : (k u w v : ℕ) → u < n → w < n → v < n → (u ≡ v → ⊥) → (w ≡ u → ⊥) → (w ≡ v → ⊥) → min u v < w → some m (finished m (best m n rs) u v) ≡ true
        → m.join (held m (after_rounds m n rs (suc k)) u w) (held m (after_rounds m n rs (suc k)) w v) ≡ best m n rs u v
        → held m (after_rounds m n rs (suc (suc k))) u v ≡ finished m (best m n rs) u v
    join_arrives k u w v lu lw lv ne nu nv l s e = rounds.finished_left m L n rs reg (suc k) u v lu lv ne s
        (subst (λ x. generated m n (held m (after_rounds m n rs (suc k))) u v ≼ x) e (one.generated_joins m L n (held m (after_rounds m n rs (suc k))) (rounds.rounds_values m L n rs reg (suc k)) u v w ne lw nu nv l))

    module _ (S : Strict m) where
      -- every finished entry with at most k sheets inside has its right value after one round more than k
      abbrev pub Arrived : ℕ → Type 0
      Arrived k = (u v : ℕ) → u < n → v < n → (u ≡ v → ⊥) → some m (finished m (best m n rs) u v) ≡ true → count n (strict.inside m L (best m n rs) u v) ≤ k → held m (after_rounds m n rs (suc k)) u v ≡ finished m (best m n rs) u v

      -- a finished entry is there from the first round on, or it splits into two over a sheet inside
      direct_or_split : (u v : ℕ) → u < n → v < n → (u ≡ v → ⊥) → some m (finished m (best m n rs) u v) ≡ true → ((k : ℕ) → held m (after_rounds m n rs (suc k)) u v ≡ finished m (best m n rs) u v) ⊎ strict.Split m L n rs reg S u v
      direct_or_split u v lu lv ne s = begins (firsts.first_redraw m L n rs reg u v ne (subst (λ x. some m x ≡ true) (fin.finished_some m L n (best m n rs) vb self tri u v s).0 s))
        where
          begins : firsts.First m L n rs reg u v → ((k : ℕ) → held m (after_rounds m n rs (suc k)) u v ≡ finished m (best m n rs) u v) ⊎ strict.Split m L n rs reg S u v
          begins f = ⊎_elim
              (λ (e : f.redraw.to ≡ v). inl (λ k. first_arrives k u v lu lv ne s (firsts.first_is_direct m L n rs reg u v f e)))
              (λ (nv : f.redraw.to ≡ v → ⊥). inr (strict.split m L n rs reg S u v f.redraw.to f.to_below (strict.inside_from m L (best m n rs) u v f.redraw.to f.lies f.to_other nv)))
              (cases_eq f.redraw.to v)

      -- an entry that splits arrives one round after its parts
      split_arrives : (k : ℕ) → Arrived k → (u v : ℕ) → u < n → v < n → (u ≡ v → ⊥) → some m (finished m (best m n rs) u v) ≡ true → count n (strict.inside m L (best m n rs) u v) ≤ suc k → strict.Split m L n rs reg S u v → held m (after_rounds m n rs (suc (suc k))) u v ≡ finished m (best m n rs) u v
      split_arrives k arrived u v lu lv ne s c w =
          let x : ℕ = w.over in
          let lx : x < n = w.over_below in
          let a = strict.inside_parts m L (best m n rs) u v x w.is_inside in
          let fewer : count n (strict.inside m L (best m n rs) u x) < count n (strict.inside m L (best m n rs) u v) = strict.fewer_in_front m L n rs reg S u x v lx w.is_inside in
          let fewer_back : count n (strict.inside m L (best m n rs) x v) < count n (strict.inside m L (best m n rs) u v) = strict.fewer_at_back m L n rs reg S u x v lx w.is_inside in
          let front = arrived u x lu lx (λ e. a.not_first (sym e)) w.front_some (omega arith) in
          let back = arrived x v lx lv a.not_last w.back_some (omega arith) in
          join_arrives k u x v lu lx lv ne a.not_first a.not_last (junior x a.passes a.not_first a.not_last) s
          (ap₂ m.join (front ∙ w.front_best) (back ∙ w.back_best) ∙ (strict.parts m L n rs reg u x v a.passes).1)
        where
          -- no sheet between is senior to both ends
          junior : (x : ℕ) → between m (best m n rs) u x v ≡ true → (x ≡ u → ⊥) → (x ≡ v → ⊥) → min u v < x
          junior x p nu nv = ⊎_elim
              (λ (l : x < min u v). absurd ((fin.finished_some m L n (best m n rs) vb self tri u v s).1 x l p))
              (λ (l : min u v ≤ x). omega arith)
              (cases_lt x (min u v))

      -- every finished entry with at most k sheets inside has its right value after one round more than k
      pub entry_arrives : (k : ℕ) → Arrived k
      entry_arrives zero u v lu lv ne s c = ⊎_elim
          (λ (h : (k : ℕ) → held m (after_rounds m n rs (suc k)) u v ≡ finished m (best m n rs) u v). h 0)
          (λ (w : strict.Split m L n rs reg S u v). let l = count_positive n (strict.inside m L (best m n rs) u v) w.over w.over_below w.is_inside in absurd (omega arith))
          (direct_or_split u v lu lv ne s)
      entry_arrives (suc k) u v lu lv ne s c = ⊎_elim
          (λ (h : (k : ℕ) → held m (after_rounds m n rs (suc k)) u v ≡ finished m (best m n rs) u v). h (suc k))
          (λ (w : strict.Split m L n rs reg S u v). split_arrives k (entry_arrives k) u v lu lv ne s c w)
          (direct_or_split u v lu lv ne s)

      -- after as many rounds as sheets less one, and at least one, the table is the finished one
      pub rounds_arrive : (k : ℕ) → 1 ≤ k → n ≤ suc k → after_rounds m n rs k ≡ listed m n (finished m (best m n rs))
      rounds_arrive zero l e = absurd (omega arith)
      rounds_arrive (suc k) l e = rounds.round_finished m L n rs reg k (λ u v lu lv ne s.
          let fits : count n (strict.inside m L (best m n rs) u v) + 2 ≤ n = strict.inside_count m L n (best m n rs) u v lu lv ne in
          entry_arrives k u v lu lv ne s (omega arith))

      -- entries that a later round would not change are the finished table
      pub unchanged_finished : (k : ℕ) → next_round n (after_rounds m n rs (suc k)) ≡ after_rounds m n rs (suc k) → after_rounds m n rs (suc k) ≡ listed m n (finished m (best m n rs))
      unchanged_finished k e = sym (unchanged k (suc k + n) (omega arith) e) ∙ rounds_arrive (suc k + n) (omega arith) (omega arith)

      -- a round that changes nothing has the finished table, the first round among them
      pub rounds_stop : (k : ℕ) → after_rounds m n rs (suc k) ≡ after_rounds m n rs k → after_rounds m n rs (suc k) ≡ listed m n (finished m (best m n rs))
      rounds_stop zero e = unchanged_finished 0 (ap (next_round n) e ∙ empty_round n ∙ sym e)
      rounds_stop (suc k) e = e ∙ unchanged_finished k e
