-- The finished table of best measures: it answers every pair rightly, and every honest table that answers rightly holds each of its entries.
-- All is said of any b with the triangle: b s s is the empty chain, and no detour over a sheet below n is better.
use Rattle.std.proofs.Common.{◌≡◌, ℕ, zero, suc, ◌<◌, ◌≤◌, min, Bool, true, false, cond, ◌&&◌, ◌||◌, eqb, ◌⊎◌, Decides, sym, refl, ap, ◌∙◌, subst, ap₂, inl, inr, ⊎_elim, arith}
use Rattle.std.proofs.lemmas.Bool.{cases_Bool, both_ways, cond_both, cond-true, cond-false, and_parts, and_from, or_from, or_right, eqb-true, eqb-false, eq-eqb, ne_eqb, cases_eq, cases_lt}
use Rattle.std.proofs.lemmas.Bool.Decides.{Decides-below_or}
use Rattle.theory.specs.Measures.{Meaning, Lawful, Value, NoWorse, some, same, pick, best_below, any_below}
use Rattle.theory.specs.Tables.{Table, answer, between, covered, finished, Honest, Right}
use Rattle.theory.proofs.Orders as orders

-- a test below k: it finds one, or none passes
pub any_decides : (p : ℕ → Bool) (k : ℕ) → Decides (any_below k p) ((i : ℕ) × (i < k) × (p i ≡ true))
any_decides p k = Decides-below_or p (λ i. p i ≡ true) (λ j. any_below j p) (λ i. (λ h. h, λ h. h)) refl (λ _. refl) k

pub any_none : (p : ℕ → Bool) (k : ℕ) → ((i : ℕ) → i < k → p i ≡ true → ⊥) → any_below k p ≡ false
any_none p k h = ⊎_elim (λ (t : any_below k p ≡ true). let w = (any_decides p k).0 t in absurd (h w.0 w.1 w.2)) (λ f. f) (cases_Bool (any_below k p))

pub any_same : (p q : ℕ → Bool) (k : ℕ) → ((i : ℕ) → i < k → p i ≡ q i) → any_below k p ≡ any_below k q
any_same p q zero h = refl
any_same p q (suc k) h = ap₂ ◌||◌ (h k (omega arith)) (any_same p q k (λ i l. h i (omega arith)))

-- the least number that passes, no greater than one that does
pub record Least (p : ℕ → Bool) (k : ℕ) : Type 0 where
  pub at : ℕ
  pub within : at ≤ k
  pub passes : p at ≡ true
  pub first : (i : ℕ) → i < at → p i ≡ true → ⊥

pub least : (p : ℕ → Bool) (k : ℕ) → p k ≡ true → Least p k
least p zero h = record { at = 0; within = omega arith; passes = h; first = λ i l _. absurd (omega arith) }
least p (suc k) h = ⊎_elim
    (λ (t : any_below (suc k) p ≡ true).
    let w = (any_decides p (suc k)).0 t in
    let l = below k p w.0 w.1 w.2 in
    record { at = l.at; within = (let a : l.at ≤ k = l.within in omega arith); passes = l.passes; first = l.first })
    (λ (f : any_below (suc k) p ≡ false). record { at = suc k; within = omega arith; passes = h; first = λ i l e. both_ways (any_below (suc k) p) f ((any_decides p (suc k)).1 (i, l, e)) })
    (cases_Bool (any_below (suc k) p))
  where
    none_before : (p : ℕ → Bool) (i : ℕ) → any_below i p ≡ false → (j : ℕ) → j < i → p j ≡ true → ⊥
    none_before p i f j l e = both_ways (any_below i p) f ((any_decides p i).1 (j, l, e))

    below : (k : ℕ) (p : ℕ → Bool) (i : ℕ) → i < suc k → p i ≡ true → Least p k
    below zero p i l e =
        let z : i ≡ 0 = omega arith in
        record { at = 0; within = omega arith; passes = subst (λ x. p x ≡ true) z e; first = λ j lj _. absurd (omega arith) }
    below (suc k) p i l e = ⊎_elim
        (λ (t : any_below (suc k) p ≡ true).
        let w = (any_decides p (suc k)).0 t in
        let r = below k p w.0 w.1 w.2 in
        record { at = r.at; within = (let a : r.at ≤ k = r.within in omega arith); passes = r.passes; first = r.first })
        (λ (f : any_below (suc k) p ≡ false). ⊎_elim
        (λ (q : i ≡ suc k). record { at = suc k; within = omega arith; passes = subst (λ x. p x ≡ true) q e; first = none_before p (suc k) f })
        (λ (nq : i ≡ suc k → ⊥). absurd (none_before p (suc k) f i (omega arith) e))
        (cases_eq i (suc k)))
        (cases_Bool (any_below (suc k) p))

module _ {V : Type 0} (m : Meaning V) (L : Lawful m) where
  infix 40 ◌≼◌
  abbrev ◌≼◌ : V → V → Type 0
  a ≼ b = NoWorse m a b

  -- every element of the table is a value
  abbrev pub Values : Table V → Type 0
  Values f = (u v : ℕ) → Value m (f u v)

  -- a table with the empty chain from each sheet to itself
  abbrev pub full : Table V → Table V
  full f u v = cond (eqb u v) m.empty (f u v)

  pub full_value : (f : Table V) → Values f → Values (full f)
  full_value f vf u v = cond_both (eqb u v) m.empty (f u v) (Value m) (λ _. L.empty_is_value) (λ _. vf u v)

  pub full_self : (f : Table V) (u : ℕ) → full f u u ≡ m.empty
  full_self f u = cond-true (eqb u u) m.empty (f u u) (eq-eqb u u refl)

  pub full_other : (f : Table V) (u v : ℕ) → (u ≡ v → ⊥) → full f u v ≡ f u v
  full_other f u v h = cond-false (eqb u v) m.empty (f u v) (ne_eqb u v h)

  abbrev pub via : Table V → ℕ → ℕ → ℕ → V
  via f s t w = m.join (full f s w) (full f w t)

  pub via_value : (f : Table V) → Values f → (s t w : ℕ) → Value m (via f s t w)
  via_value f vf s t w = orders.join_value m L (full_value f vf s w) (full_value f vf w t)

  -- the last term is the entry itself
  pub via_last : (f : Table V) → Values f → (s t : ℕ) → (s ≡ t → ⊥) → via f s t (min s t) ≡ f s t
  via_last f vf s t ne = ⊎_elim
      (λ (l : s < t). let e : min s t ≡ s = omega arith in
      ap (via f s t) e ∙ ap₂ m.join (full_self f s) (full_other f s t ne) ∙ L.empty_in_front (f s t) (vf s t))
      (λ (l : t ≤ s). let e : min s t ≡ t = omega arith in
      ap (via f s t) e ∙ ap₂ m.join (full_other f s t ne) (full_self f t) ∙ L.empty_at_end (f s t) (vf s t))
      (cases_lt s t)

  pub via_inner : (f : Table V) (s t w : ℕ) → w < min s t → via f s t w ≡ m.join (f s w) (f w t)
  via_inner f s t w l = ap₂ m.join (full_other f s w (λ e. omega arith)) (full_other f w t (λ e. omega arith))

  pub answer_value : (f : Table V) → Values f → (s t : ℕ) → Value m (answer m f s t)
  answer_value f vf s t = cond_both (eqb s t) m.empty (pick m (f s t) (best_below m (min s t) (λ w. m.join (f s w) (f w t)))) (Value m) (λ _. L.empty_is_value)
      (λ _. orders.pick_value m L (f s t) (best_below m (min s t) (λ w. m.join (f s w) (f w t))) (vf s t) (orders.best_below_value m L (min s t) (λ w. m.join (f s w) (f w t)) (λ w. orders.join_value m L (vf s w) (vf w t))))

  -- the answer is not worse than any term
  pub answer_le : (f : Table V) → Values f → (s t w : ℕ) → w ≤ min s t → answer m f s t ≼ via f s t w
  answer_le f vf s t w l = cond_both (eqb s t) m.empty (pick m (f s t) B) (λ x. x ≼ via f s t w)
      (λ _. orders.empty_le m L (via f s t w) (via_value f vf s t w))
      (λ ne. ⊎_elim
      (λ (e : w ≡ min s t). subst (λ x. pick m (f s t) B ≼ x) (sym (ap (via f s t) e ∙ via_last f vf s t (eqb-false s t ne))) (orders.pick_left m L (f s t) B (vf s t) vB))
      (λ (nw : w ≡ min s t → ⊥). let l' : w < min s t = omega arith in
      subst (λ x. pick m (f s t) B ≼ x) (sym (via_inner f s t w l')) (orders.trans m L (orders.pick_right m L (f s t) B (vf s t) vB) (orders.best_below_le m L (min s t) (λ x. m.join (f s x) (f x t)) vj w l')))
      (cases_eq w (min s t)))
    where
      vj : (x : ℕ) → Value m (m.join (f s x) (f x t))
      vj x = orders.join_value m L (vf s x) (vf x t)

      B : V
      B = best_below m (min s t) (λ x. m.join (f s x) (f x t))

      vB : Value m B
      vB = orders.best_below_value m L (min s t) (λ x. m.join (f s x) (f x t)) vj

  -- the answer is none or one of the terms
  pub answer_one : (f : Table V) → Values f → (s t : ℕ) → (answer m f s t ≡ m.none) ⊎ ((w : ℕ) × (w ≤ min s t) × (answer m f s t ≡ via f s t w))
  answer_one f vf s t = cond_both (eqb s t) m.empty (pick m (f s t) B) (λ x. (x ≡ m.none) ⊎ ((w : ℕ) × (w ≤ min s t) × (x ≡ via f s t w)))
      (λ e. let q : s ≡ t = eqb-true s t e in inr (s, omega arith, sym (ap₂ m.join (full_self f s) (subst (λ x. full f s x ≡ m.empty) q (full_self f s)) ∙ L.empty_in_front m.empty L.empty_is_value)))
      (λ ne. ⊎_elim
      (λ (e : pick m (f s t) B ≡ f s t). inr (min s t, omega arith, e ∙ sym (via_last f vf s t (eqb-false s t ne))))
      (λ (e : pick m (f s t) B ≡ B). ⊎_elim
      (λ (z : B ≡ m.none). inl (e ∙ z))
      (λ (w : (i : ℕ) × (i < min s t) × (B ≡ m.join (f s i) (f i t))). let l : w.0 < min s t = w.1 in inr (w.0, omega arith, e ∙ w.2 ∙ sym (via_inner f s t w.0 w.1)))
      (orders.best_below_one m L (min s t) (λ x. m.join (f s x) (f x t))))
      (orders.pick_either m L (f s t) B))
    where
      B : V
      B = best_below m (min s t) (λ x. m.join (f s x) (f x t))

  -- the answer consults only entries between different sheets that the two sheets bound
  pub best_below_same : (k : ℕ) (f g : ℕ → V) → ((i : ℕ) → i < k → f i ≡ g i) → best_below m k f ≡ best_below m k g
  best_below_same zero f g h = refl
  best_below_same (suc k) f g h = ap₂ (pick m) (best_below_same k f g (λ i l. h i (omega arith))) (h k (omega arith))

  pub answer_same : (f g : Table V) (s t : ℕ) → ((s ≡ t → ⊥) → f s t ≡ g s t) → ((w : ℕ) → w < min s t → f s w ≡ g s w) → ((w : ℕ) → w < min s t → f w t ≡ g w t) → answer m f s t ≡ answer m g s t
  answer_same f g s t h out «in» = ⊎_elim
      (λ (e : s ≡ t). let b = eq-eqb s t e in cond-true (eqb s t) m.empty _ b ∙ sym (cond-true (eqb s t) m.empty _ b))
      (λ (ne : s ≡ t → ⊥). ap (cond (eqb s t) m.empty) (ap₂ (pick m) (h ne) (best_below_same (min s t) (λ w. m.join (f s w) (f w t)) (λ w. m.join (g s w) (g w t)) (λ w l. ap₂ m.join (out w l) («in» w l)))))
      (cases_eq s t)

  module _ (n : ℕ) (b : Table V) (vb : Values b) (self : (s : ℕ) → b s s ≡ m.empty) (tri : (s w t : ℕ) → w < n → b s t ≼ m.join (b s w) (b w t)) where
    pub between_parts : (u w v : ℕ) → between m b u w v ≡ true → (some m (b u v) ≡ true) × (m.join (b u w) (b w v) ≡ b u v)
    between_parts u w v h =
        let p = and_parts (some m (b u v)) (same m (m.join (b u w) (b w v)) (b u v)) h in
        (p.0, orders.same_eq m L (m.join (b u w) (b w v)) (b u v) (orders.join_value m L (vb u w) (vb w v)) (vb u v) p.1)

    pub between_from : (u w v : ℕ) → w < n → some m (b u v) ≡ true → m.join (b u w) (b w v) ≼ b u v → between m b u w v ≡ true
    between_from u w v l h p = and_from (some m (b u v)) (same m (m.join (b u w) (b w v)) (b u v)) h (orders.eq_same m L (m.join (b u w) (b w v)) (b u v) p.left (orders.antisym m L p (tri u w v l)))

    between_eq : (u w v : ℕ) → some m (b u v) ≡ true → m.join (b u w) (b w v) ≡ b u v → between m b u w v ≡ true
    between_eq u w v h e = and_from (some m (b u v)) (same m (m.join (b u w) (b w v)) (b u v)) h (orders.eq_same m L (m.join (b u w) (b w v)) (b u v) (orders.join_value m L (vb u w) (vb w v)) e)

    -- both ends lie between
    pub between_first : (u v : ℕ) → some m (b u v) ≡ true → between m b u u v ≡ true
    between_first u v h = between_eq u u v h (ap (λ x. m.join x (b u v)) (self u) ∙ L.empty_in_front (b u v) (vb u v))

    pub between_last : (u v : ℕ) → some m (b u v) ≡ true → between m b u v v ≡ true
    between_last u v h = between_eq u v v h (ap (m.join (b u v)) (self v) ∙ L.empty_at_end (b u v) (vb u v))

    -- a detour over x that is as good up to w, or from w on, is as good for the whole
    pub detour_front : (u x w v : ℕ) → w < n → m.join (b u x) (b x w) ≡ b u w → m.join (b u x) (b x v) ≼ m.join (b u w) (b w v)
    detour_front u x w v lw e =
        subst (λ z. m.join (b u x) (b x v) ≼ z) (sym (L.join_associative (b u x) (b x w) (b w v) (vb u x) (vb x w) (vb w v)) ∙ ap (λ y. m.join y (b w v)) e)
        (orders.monotone m L (orders.reflexive m L (b u x) (vb u x)) (tri x w v lw))

    pub detour_back : (u w x v : ℕ) → w < n → m.join (b w x) (b x v) ≡ b w v → m.join (b u x) (b x v) ≼ m.join (b u w) (b w v)
    detour_back u w x v lw e =
        subst (λ z. m.join (b u x) (b x v) ≼ z) (L.join_associative (b u w) (b w x) (b x v) (vb u w) (vb w x) (vb x v) ∙ ap (m.join (b u w)) e)
        (orders.monotone m L (tri u w x lw) (orders.reflexive m L (b x v) (vb x v)))

    pub between_front : (u x w v : ℕ) → w < n → x < n → between m b u w v ≡ true → between m b u x w ≡ true → between m b u x v ≡ true
    between_front u x w v lw lx p q =
        let a = between_parts u w v p in
        between_from u x v lx a.0 (subst (λ z. m.join (b u x) (b x v) ≼ z) a.1 (detour_front u x w v lw (between_parts u x w q).1))

    pub between_back : (u w x v : ℕ) → w < n → x < n → between m b u w v ≡ true → between m b w x v ≡ true → between m b u x v ≡ true
    between_back u w x v lw lx p q =
        let a = between_parts u w v p in
        between_from u x v lx a.0 (subst (λ z. m.join (b u x) (b x v) ≼ z) a.1 (detour_back u w x v lw (between_parts w x v q).1))

    pub finished_value : Values (finished m b)
    finished_value u v = cond_both (eqb u v || covered m b u v) m.none (b u v) (Value m) (λ _. L.none_is_value) (λ _. vb u v)

    -- an entry with no senior sheet between is there
    pub finished_is : (u v : ℕ) → (u ≡ v → ⊥) → ((x : ℕ) → x < min u v → between m b u x v ≡ true → ⊥) → finished m b u v ≡ b u v
    finished_is u v ne h = cond-false (eqb u v || covered m b u v) m.none (b u v) (or_from (eqb u v) (covered m b u v) (ne_eqb u v ne) (any_none (λ w. between m b u w v) (min u v) h))

    pub full_finished : (u v : ℕ) → ((x : ℕ) → x < min u v → between m b u x v ≡ true → ⊥) → full (finished m b) u v ≡ b u v
    full_finished u v h = ⊎_elim
        (λ (e : u ≡ v). subst (λ x. full (finished m b) u x ≡ b u x) e (full_self (finished m b) u ∙ sym (self u)))
        (λ (ne : u ≡ v → ⊥). full_other (finished m b) u v ne ∙ finished_is u v ne h)
        (cases_eq u v)

    -- what is there is the best measure, and no senior sheet lies between
    pub finished_some : (u v : ℕ) → some m (finished m b u v) ≡ true → (finished m b u v ≡ b u v) × ((x : ℕ) → x < min u v → between m b u x v ≡ true → ⊥)
    finished_some u v h = ⊎_elim
        (λ (t : (eqb u v || covered m b u v) ≡ true). absurd (orders.some_not_none m L (finished m b u v) h (cond-true (eqb u v || covered m b u v) m.none (b u v) t)))
        (λ (f : (eqb u v || covered m b u v) ≡ false). (
          cond-false (eqb u v || covered m b u v) m.none (b u v) f,
          λ x l e. both_ways (eqb u v || covered m b u v) f (or_right (eqb u v) (covered m b u v) ((any_decides (λ w. between m b u w v) (min u v)).1 (x, l, e))),
        ))
        (cases_Bool (eqb u v || covered m b u v))

    pub finished_covered : (u x v : ℕ) → x < min u v → between m b u x v ≡ true → finished m b u v ≡ m.none
    finished_covered u x v l e = cond-true (eqb u v || covered m b u v) m.none (b u v) (or_right (eqb u v) (covered m b u v) ((any_decides (λ w. between m b u w v) (min u v)).1 (x, l, e)))

    pub finished_none : (u v : ℕ) → b u v ≡ m.none → finished m b u v ≡ m.none
    finished_none u v z = cond_both (eqb u v || covered m b u v) m.none (b u v) (λ x. x ≡ m.none) (λ _. refl) (λ _. z)

    -- finished entries are honest
    pub finished_honest : (u v : ℕ) → b u v ≼ finished m b u v
    finished_honest u v = cond_both (eqb u v || covered m b u v) m.none (b u v) (λ x. b u v ≼ x) (λ _. orders.le_none m L (b u v) (vb u v)) (λ _. orders.reflexive m L (b u v) (vb u v))

    pub full_honest : (f : Table V) → ((u v : ℕ) → u < n → v < n → (u ≡ v → ⊥) → b u v ≼ f u v) → (u v : ℕ) → u < n → v < n → b u v ≼ full f u v
    full_honest f h u v lu lv = ⊎_elim
        (λ (e : u ≡ v). subst (λ x. b u x ≼ full f u x) e (orders.from_eq m L (b u u) (full f u u) (vb u u) (self u ∙ sym (full_self f u))))
        (λ (ne : u ≡ v → ⊥). subst (λ x. b u v ≼ x) (sym (full_other f u v ne)) (h u v lu lv ne))
        (cases_eq u v)

    -- an honest table never answers better than the best measure
    pub honest_answer : (f : Table V) → Values f → ((u v : ℕ) → u < n → v < n → (u ≡ v → ⊥) → b u v ≼ f u v) → (s t : ℕ) → s < n → t < n → b s t ≼ answer m f s t
    honest_answer f vf h s t ls lt = ⊎_elim
        (λ (z : answer m f s t ≡ m.none). subst (λ x. b s t ≼ x) (sym z) (orders.le_none m L (b s t) (vb s t)))
        (λ (w : (w : ℕ) × (w ≤ min s t) × (answer m f s t ≡ via f s t w)).
        let l : w.0 ≤ min s t = w.1 in
        let lw : w.0 < n = omega arith in
        subst (λ x. b s t ≼ x) (sym w.2) (orders.trans m L (tri s w.0 t lw) (orders.monotone m L (full_honest f h s w.0 ls lw) (full_honest f h w.0 t lw lt))))
        (answer_one f vf s t)

    -- the most senior sheet between u and v: the finished table holds both parts
    pub record Senior (u v : ℕ) : Type 0 where
      pub hub : ℕ
      pub within : hub ≤ min u v
      pub lies : between m b u hub v ≡ true
      pub front : full (finished m b) u hub ≡ b u hub
      pub back : full (finished m b) hub v ≡ b hub v

    pub most_senior : (u v : ℕ) → u < n → v < n → some m (b u v) ≡ true → Senior u v
    most_senior u v lu lv h = from_least (least (λ w. between m b u w v) (min u v) at_min)
      where
        at_min : between m b u (min u v) v ≡ true
        at_min = ⊎_elim
            (λ (l : u < v). let e : min u v ≡ u = omega arith in subst (λ x. between m b u x v ≡ true) (sym e) (between_first u v h))
            (λ (l : v ≤ u). let e : min u v ≡ v = omega arith in subst (λ x. between m b u x v ≡ true) (sym e) (between_last u v h))
            (cases_lt u v)

        from_least : Least (λ w. between m b u w v) (min u v) → Senior u v
        from_least l =
            let c : ℕ = l.at in
            let lc : c ≤ min u v = l.within in
            record {
              hub = c;
              within = lc;
              lies = l.passes;
              front = full_finished u c (λ x lx e. l.first x (omega arith) (between_front u x c v (omega arith) (omega arith) l.passes e));
              back = full_finished c v (λ x lx e. l.first x (omega arith) (between_back u c x v (omega arith) (omega arith) l.passes e));
            }

    -- the finished table answers every pair rightly
    pub finished_right : Right m n b (finished m b)
    finished_right s t ls lt = orders.antisym m L
        (⊎_elim
        (λ (h : some m (b s t) ≡ true).
        let w = most_senior s t ls lt h in
        subst (λ x. answer m (finished m b) s t ≼ x) (ap₂ m.join w.front w.back ∙ (between_parts s w.hub t w.lies).1) (answer_le (finished m b) finished_value s t w.hub w.within))
        (λ (z : b s t ≡ m.none). subst (λ x. answer m (finished m b) s t ≼ x) (sym z) (orders.le_none m L (answer m (finished m b) s t) (answer_value (finished m b) finished_value s t)))
        (orders.some_or_none m L (b s t) (vb s t)))
        (honest_answer (finished m b) finished_value (λ u v _ _ _. finished_honest u v) s t ls lt)

    -- every honest table that answers rightly holds each finished entry
    pub finished_least : (f : Table V) → Values f → Honest m n b f → Right m n b f → (u v : ℕ) → u < n → v < n → (u ≡ v → ⊥) → some m (finished m b u v) ≡ true → f u v ≡ finished m b u v
    finished_least f vf hon right u v lu lv ne h =
        let p = finished_some u v h in
        let hon' : (u v : ℕ) → u < n → v < n → (u ≡ v → ⊥) → b u v ≼ f u v = λ x y lx ly nxy. record { left = vb x y; right = vf x y; order = hon x y lx ly nxy } in
        let is : answer m f u v ≡ b u v = right u v lu lv in
        let sb : some m (b u v) ≡ true = subst (λ x. some m x ≡ true) p.0 h in
        ⊎_elim
        (λ (z : answer m f u v ≡ m.none). absurd (orders.some_not_none m L (b u v) sb (sym is ∙ z)))
        (λ (w : (w : ℕ) × (w ≤ min u v) × (answer m f u v ≡ via f u v w)).
        let l : w.0 ≤ min u v = w.1 in
        let lw : w.0 < n = omega arith in
        ⊎_elim
        (λ (e : w.0 ≡ min u v). sym (via_last f vf u v ne) ∙ ap (via f u v) (sym e) ∙ sym w.2 ∙ is ∙ sym p.0)
        (λ (nw : w.0 ≡ min u v → ⊥). absurd (p.1 w.0 (omega arith) (between_from u w.0 v lw sb
        (subst (λ x. m.join (b u w.0) (b w.0 v) ≼ x) (sym w.2 ∙ is) (orders.monotone m L (full_honest f hon' u w.0 lu lw) (full_honest f hon' w.0 v lw lv))))))
        (cases_eq w.0 (min u v)))
        (answer_one f vf u v)

  -- the finished table depends on the best measures below n alone
  pub finished_same : (n : ℕ) (b c : Table V) → ((s t : ℕ) → s < n → t < n → b s t ≡ c s t) → (u v : ℕ) → u < n → v < n → finished m b u v ≡ finished m c u v
  finished_same n b c h u v lu lv =
      let k : covered m b u v ≡ covered m c u v = any_same (λ w. between m b u w v) (λ w. between m c u w v) (min u v) (λ w l.
      let e = h u v lu lv in
      let j : m.join (b u w) (b w v) ≡ m.join (c u w) (c w v) = ap₂ m.join (h u w lu (omega arith)) (h w v (omega arith) lv) in
      ap₂ ◌&&◌ (ap (some m) e) (ap₂ (same m) j e)) in
      ap₂ (λ (x : Bool) y. cond (eqb u v || x) m.none y) k (h u v lu lv)
