-- One round over any table: what is generated and what pruning leaves are values, no better than the best measures;
-- pruning keeps a finished entry that has its right value, and leaves the finished table once every finished entry has it.
use Rattle.std.proofs.Common.{◌≡◌, ℕ, ◌<◌, ◌≤◌, min, Bool, true, cond, not, ◌&&◌, eqb, ltb, ◌⊎◌, sym, refl, ap, ◌∙◌, subst, ap₂, inl, inr, ⊎_elim, arith}
use Rattle.std.proofs.lemmas.Bool.{cond_both, cond-true, cond-false, and_parts, and_from, eqb-false, ne_eqb, lt-ltb, not-true, not_from_false, cases_eq}
use Rattle.theory.specs.Measures.{Meaning, Lawful, Value, NoWorse, some, pick, best_below, any_below}
use Rattle.theory.specs.Tables.{Table, finished}
use Rattle.theory.specs.Rounds.{generated, pruned}
use Rattle.theory.proofs.Orders as orders
use Rattle.theory.proofs.Finished as fin

module _ {V : Type 0} (m : Meaning V) (L : Lawful m) where
  -- both are values, and the first is not worse
  infix 40 ◌≼◌
  abbrev ◌≼◌ : V → V → Type 0
  a ≼ b = NoWorse m a b

  -- a sheet may be joined over: it is neither end, and junior to at least one
  abbrev pub joinable : ℕ → ℕ → ℕ → Bool
  joinable u v w = (not (eqb w u) && not (eqb w v)) && ltb (min u v) w

  -- what the sheet w offers to the pair u → v
  abbrev pub offer : Table V → ℕ → ℕ → ℕ → V
  offer f u v w = cond (joinable u v w) (m.join (f u w) (f w v)) m.none

  -- an offer of a table of values is a value
  pub offer_value : (f : Table V) → fin.Values m L f → (u v w : ℕ) → Value m (offer f u v w)
  offer_value f vf u v w = cond_both (joinable u v w) (m.join (f u w) (f w v)) m.none (Value m) (λ _. orders.join_value m L (vf u w) (vf w v)) (λ _. L.none_is_value)

  -- so is the best of the offers
  pub offers_value : (n : ℕ) (f : Table V) → fin.Values m L f → (u v : ℕ) → Value m (best_below m n (offer f u v))
  offers_value n f vf u v = orders.best_below_value m L n (offer f u v) (offer_value f vf u v)

  -- what is generated from a table of values are values
  pub generated_value : (n : ℕ) (f : Table V) → fin.Values m L f → fin.Values m L (generated m n f)
  generated_value n f vf u v = cond_both (eqb u v) m.none (pick m (f u v) (best_below m n (offer f u v))) (Value m) (λ _. L.none_is_value) (λ _. orders.pick_value m L (f u v) (best_below m n (offer f u v)) (vf u v) (offers_value n f vf u v))

  -- what pruning leaves of a table of values are values
  pub pruned_value : (g : Table V) → fin.Values m L g → fin.Values m L (pruned m g)
  pruned_value g vg u v = cond_both (any_below (min u v) (λ w. not (m.better (g u v) (m.join (g u w) (g w v))))) m.none (g u v) (Value m) (λ _. L.none_is_value) (λ _. vg u v)

  -- for different sheets, what is generated is the better of the entry and the best offer
  pub generated_is : (n : ℕ) (f : Table V) (u v : ℕ) → (u ≡ v → ⊥) → generated m n f u v ≡ pick m (f u v) (best_below m n (offer f u v))
  generated_is n f u v ne = cond-false (eqb u v) m.none (pick m (f u v) (best_below m n (offer f u v))) (ne_eqb u v ne)

  -- it is not worse than the entry
  pub generated_keeps : (n : ℕ) (f : Table V) → fin.Values m L f → (u v : ℕ) → (u ≡ v → ⊥) → generated m n f u v ≼ f u v
  generated_keeps n f vf u v ne = subst (λ x. x ≼ f u v) (sym (generated_is n f u v ne)) (orders.pick_left m L (f u v) (best_below m n (offer f u v)) (vf u v) (offers_value n f vf u v))

  -- it is not worse than any join over a sheet that may be joined over
  pub generated_joins : (n : ℕ) (f : Table V) → fin.Values m L f → (u v w : ℕ) → (u ≡ v → ⊥) → w < n → (w ≡ u → ⊥) → (w ≡ v → ⊥) → min u v < w → generated m n f u v ≼ m.join (f u w) (f w v)
  generated_joins n f vf u v w ne lw nu nv l =
      let test : joinable u v w ≡ true = and_from (not (eqb w u) && not (eqb w v)) (ltb (min u v) w) (and_from (not (eqb w u)) (not (eqb w v)) (not_from_false (eqb w u) (ne_eqb w u nu)) (not_from_false (eqb w v) (ne_eqb w v nv))) (lt-ltb (min u v) w l) in
      let below : best_below m n (offer f u v) ≼ m.join (f u w) (f w v) = subst (λ x. best_below m n (offer f u v) ≼ x) (cond-true (joinable u v w) (m.join (f u w) (f w v)) m.none test) (orders.best_below_le m L n (offer f u v) (offer_value f vf u v) w lw) in
      subst (λ x. x ≼ m.join (f u w) (f w v)) (sym (generated_is n f u v ne)) (orders.trans m L (orders.pick_right m L (f u v) (best_below m n (offer f u v)) (vf u v) (offers_value n f vf u v)) below)

  -- pruning takes an entry away or leaves it as it is
  pub pruned_either : (g : Table V) (u v : ℕ) → (pruned m g u v ≡ m.none) ⊎ (pruned m g u v ≡ g u v)
  pruned_either g u v = cond_both (any_below (min u v) (λ w. not (m.better (g u v) (m.join (g u w) (g w v))))) m.none (g u v) (λ x. (x ≡ m.none) ⊎ (x ≡ g u v)) (λ _. inl refl) (λ _. inr refl)

  -- pruning leaves an entry that no join over a senior sheet equals or betters
  pub pruned_stays : (g : Table V) → fin.Values m L g → (u v : ℕ) → ((w : ℕ) → w < min u v → m.join (g u w) (g w v) ≼ g u v → ⊥) → pruned m g u v ≡ g u v
  pruned_stays g vg u v h = cond-false (any_below (min u v) (λ w. not (m.better (g u v) (m.join (g u w) (g w v))))) m.none (g u v)
      (fin.any_none (λ w. not (m.better (g u v) (m.join (g u w) (g w v)))) (min u v) (λ w lw t. h w lw (record { left = orders.join_value m L (vg u w) (vg w v); right = vg u v; order = not-true (m.better (g u v) (m.join (g u w) (g w v))) t })))

  -- pruning takes away an entry that some join over a senior sheet equals or betters
  pub pruned_goes : (g : Table V) (u v w : ℕ) → w < min u v → m.join (g u w) (g w v) ≼ g u v → pruned m g u v ≡ m.none
  pruned_goes g u v w lw p = cond-true (any_below (min u v) (λ x. not (m.better (g u v) (m.join (g u x) (g x v))))) m.none (g u v)
      ((fin.any_decides (λ x. not (m.better (g u v) (m.join (g u x) (g x v)))) (min u v)).1 (w, lw, not_from_false (m.better (g u v) (m.join (g u w) (g w v))) p.order))

  module _ (n : ℕ) (b : Table V) (vb : fin.Values m L b) (self : (s : ℕ) → b s s ≡ m.empty) (tri : (s w t : ℕ) → w < n → b s t ≼ m.join (b s w) (b w t)) where
    -- no value of the table is better than the best measure of its pair
    abbrev pub NoBetter : Table V → Type 0
    NoBetter f = (u v : ℕ) → u < n → v < n → (u ≡ v → ⊥) → b u v ≼ f u v

    -- an honest offer is no better than the best measure
    offer_honest : (f : Table V) → NoBetter f → (u v : ℕ) → u < n → v < n → (w : ℕ) → w < n → b u v ≼ offer f u v w
    offer_honest f h u v lu lv w lw = cond_both (joinable u v w) (m.join (f u w) (f w v)) m.none (λ x. b u v ≼ x)
        (λ t. let p = parts t in orders.trans m L (tri u w v lw) (orders.monotone m L (h u w lu lw (λ e. p.0 (sym e))) (h w v lw lv p.1)))
        (λ _. orders.le_none m L (b u v) (vb u v))
      where
        parts : joinable u v w ≡ true → (w ≡ u → ⊥) × (w ≡ v → ⊥)
        parts t =
            let p = and_parts (not (eqb w u) && not (eqb w v)) (ltb (min u v) w) t in
            let q = and_parts (not (eqb w u)) (not (eqb w v)) p.0 in
            (eqb-false w u (not-true (eqb w u) q.0), eqb-false w v (not-true (eqb w v) q.1))

    -- what is generated from an honest table is honest
    pub generated_honest : (f : Table V) → fin.Values m L f → NoBetter f → NoBetter (generated m n f)
    generated_honest f vf h u v lu lv ne = subst (λ x. b u v ≼ x) (sym (generated_is n f u v ne)) (orders.pick_bound m L (h u v lu lv ne)
        (⊎_elim
        (λ (z : best_below m n (offer f u v) ≡ m.none). subst (λ x. b u v ≼ x) (sym z) (orders.le_none m L (b u v) (vb u v)))
        (λ (w : (i : ℕ) × (i < n) × (best_below m n (offer f u v) ≡ offer f u v i)). subst (λ x. b u v ≼ x) (sym w.2) (offer_honest f h u v lu lv w.0 w.1))
        (orders.best_below_one m L n (offer f u v))))

    -- what pruning leaves of an honest table is honest
    pub pruned_honest : (g : Table V) → NoBetter g → NoBetter (pruned m g)
    pruned_honest g h u v lu lv ne = ⊎_elim
        (λ (z : pruned m g u v ≡ m.none). subst (λ x. b u v ≼ x) (sym z) (orders.le_none m L (b u v) (vb u v)))
        (λ (e : pruned m g u v ≡ g u v). subst (λ x. b u v ≼ x) (sym e) (h u v lu lv ne))
        (pruned_either g u v)

    -- a finished entry that an honest table has with its right value is kept
    pub finished_kept : (g : Table V) → fin.Values m L g → NoBetter g → (u v : ℕ) → u < n → v < n → some m (finished m b u v) ≡ true → g u v ≡ finished m b u v → pruned m g u v ≡ finished m b u v
    finished_kept g vg h u v lu lv s e =
        let p = fin.finished_some m L n b vb self tri u v s in
        let is : g u v ≡ b u v = e ∙ p.0 in
        let sb : some m (b u v) ≡ true = subst (λ x. some m x ≡ true) p.0 s in
        pruned_stays g vg u v (λ w lw j. p.1 w lw (fin.between_from m L n b vb self tri u w v (omega arith) sb
        (orders.trans m L (orders.monotone m L (h u w lu (omega arith) (λ q. omega arith)) (h w v (omega arith) lv (λ q. omega arith))) (subst (λ x. m.join (g u w) (g w v) ≼ x) is j)))) ∙ e

    -- the table has every finished entry with its right value
    abbrev pub HasFinished : Table V → Type 0
    HasFinished f = (u v : ℕ) → u < n → v < n → (u ≡ v → ⊥) → some m (finished m b u v) ≡ true → f u v ≡ finished m b u v

    -- an entry that is not a finished one goes, if every finished entry is there with its right value
    others_go : (g : Table V) → NoBetter g → HasFinished g → (u v : ℕ) → u < n → v < n → (u ≡ v → ⊥) → finished m b u v ≡ m.none → some m (b u v) ≡ true → pruned m g u v ≡ m.none
    others_go g h has u v lu lv ne z sb = over (fin.most_senior m L n b vb self tri u v lu lv sb)
      where
        over : fin.Senior m L n b vb self tri u v → pruned m g u v ≡ m.none
        over w =
            let c : ℕ = w.hub in
            let lc : c ≤ min u v = w.within in
            let whole : m.join (b u c) (b c v) ≡ b u v = (fin.between_parts m L n b vb self tri u c v w.lies).1 in
            ⊎_elim
            (λ (e : c ≡ min u v). absurd (orders.some_not_none m L (b u v) sb
            (sym whole ∙ sym (ap₂ m.join w.front w.back) ∙ ap (fin.via m L (finished m b) u v) e ∙ fin.via_last m L (finished m b) (fin.finished_value m L n b vb self tri) u v ne ∙ z)))
            (λ (nc : c ≡ min u v → ⊥).
            let l : c < min u v = omega arith in
            let nuc : u ≡ c → ⊥ = λ e. omega arith in
            let ncv : c ≡ v → ⊥ = λ e. omega arith in
            let front : finished m b u c ≡ b u c = sym (fin.full_other m L (finished m b) u c nuc) ∙ w.front in
            let back : finished m b c v ≡ b c v = sym (fin.full_other m L (finished m b) c v ncv) ∙ w.back in
            let sj : some m (m.join (b u c) (b c v)) ≡ true = subst (λ x. some m x ≡ true) (sym whole) sb in
            let sf : some m (finished m b u c) ≡ true = subst (λ x. some m x ≡ true) (sym front) (orders.join_some_left m L (b u c) (b c v) (vb u c) (vb c v) sj) in
            let st : some m (finished m b c v) ≡ true = subst (λ x. some m x ≡ true) (sym back) (orders.join_some_right m L (b u c) (b c v) (vb u c) (vb c v) sj) in
            let joined : m.join (g u c) (g c v) ≡ b u v = ap₂ m.join (has u c lu (omega arith) nuc sf ∙ front) (has c v (omega arith) lv ncv st ∙ back) ∙ whole in
            pruned_goes g u v c l (subst (λ x. x ≼ g u v) (sym joined) (h u v lu lv ne)))
            (cases_eq c (min u v))

    -- once an honest table has every finished entry with its right value, pruning leaves the finished table
    pub pruned_finished : (g : Table V) → fin.Values m L g → NoBetter g → HasFinished g → (u v : ℕ) → u < n → v < n → (u ≡ v → ⊥) → pruned m g u v ≡ finished m b u v
    pruned_finished g vg h has u v lu lv ne = ⊎_elim
        (λ (s : some m (finished m b u v) ≡ true). finished_kept g vg h u v lu lv s (has u v lu lv ne s))
        (λ (z : finished m b u v ≡ m.none). ⊎_elim
        (λ (s : some m (b u v) ≡ true). others_go g h has u v lu lv ne z s ∙ sym z)
        (λ (q : b u v ≡ m.none). absent (no_entry q) ∙ sym z)
        (orders.some_or_none m L (b u v) (vb u v)))
        (orders.some_or_none m L (finished m b u v) (fin.finished_value m L n b vb self tri u v))
      where
        no_entry : b u v ≡ m.none → g u v ≡ m.none
        no_entry q = ⊎_elim
            (λ (s : some m (g u v) ≡ true). absurd (orders.some_not_none m L (b u v) (orders.some_le m L (h u v lu lv ne) s) q))
            (λ (z : g u v ≡ m.none). z)
            (orders.some_or_none m L (g u v) (vg u v))

        absent : g u v ≡ m.none → pruned m g u v ≡ m.none
        absent z = ⊎_elim (λ p. p) (λ (p : pruned m g u v ≡ g u v). p ∙ z) (pruned_either g u v)
