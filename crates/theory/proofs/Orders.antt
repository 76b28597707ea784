-- What the laws of a lawful measure give: an order on its values, the better of two, the best of many.
use Rattle.std.proofs.Common.{◌≡◌, ℕ, zero, suc, ◌<◌, true, false, not, ◌⊎◌, sym, refl, ◌∙◌, subst, inl, inr, ⊎_elim, arith}
use Rattle.std.proofs.lemmas.Bool.{cases_Bool, both_ways, cond_both, and_parts, and_from, not-true, not_from_false, cases_eq}
use Rattle.theory.specs.Measures.{Meaning, Lawful, Value, NoWorse, some, same, pick, best_below}

module _ {V : Type 0} (m : Meaning V) (L : Lawful m) where
  infix 40 ◌≼◌
  abbrev ◌≼◌ : V → V → Type 0
  a ≼ b = NoWorse m a b

  pub reflexive : (a : V) → Value m a → a ≼ a
  reflexive a va = record { left = va; right = va; order = ⊎_elim (λ t. absurd (both_ways (m.better a a) (L.never_both_better a a va va t) t)) (λ f. f) (cases_Bool (m.better a a)) }

  pub trans : {a b c : V} → a ≼ b → b ≼ c → a ≼ c
  trans {a} {b} {c} p q = record { left = p.left; right = q.right; order = L.not_worse_carries a b c p.left p.right q.right p.order q.order }

  pub antisym : {a b : V} → a ≼ b → b ≼ a → a ≡ b
  antisym {a} {b} p q = L.tie_is_same a b p.left p.right p.order q.order

  -- a better value is not worse
  pub better_le : (a b : V) → Value m a → Value m b → m.better a b ≡ true → a ≼ b
  better_le a b va vb h = record { left = va; right = vb; order = L.never_both_better a b va vb h }

  -- of two values one is not worse than the other
  pub total : (a b : V) → Value m a → Value m b → (a ≼ b) ⊎ (m.better b a ≡ true)
  total a b va vb = ⊎_elim inr (λ f. inl (record { left = va; right = vb; order = f })) (cases_Bool (m.better b a))

  pub from_eq : (a b : V) → Value m a → a ≡ b → a ≼ b
  from_eq a b va e = subst (λ x. a ≼ x) e (reflexive a va)

  pub join_value : {a b : V} → Value m a → Value m b → Value m (m.join a b)
  join_value {a} {b} va vb = L.join_is_value a b va vb

  pub monotone : {a b c d : V} → a ≼ b → c ≼ d → m.join a c ≼ m.join b d
  monotone {a} {b} {c} {d} p q =
      trans {b = m.join b c}
      (record { left = L.join_is_value a c p.left q.left; right = L.join_is_value b c p.right q.left; order = L.join_keeps_order a b c p.left p.right q.left p.order })
      (record { left = L.join_is_value b c p.right q.left; right = L.join_is_value b d p.right q.right; order = L.join_keeps_order_in_front c d b q.left q.right p.right q.order })

  pub empty_le : (a : V) → Value m a → m.empty ≼ a
  empty_le a va = record { left = L.empty_is_value; right = va; order = L.empty_is_best a va }

  pub le_none : (a : V) → Value m a → a ≼ m.none
  le_none a va = record { left = va; right = L.none_is_value; order = L.none_is_worst a va }

  -- joining never improves
  pub join_after : (a b : V) → Value m a → Value m b → a ≼ m.join a b
  join_after a b va vb = subst (λ x. x ≼ m.join a b) (L.empty_at_end a va) (monotone (reflexive a va) (empty_le b vb))

  pub join_before : (a b : V) → Value m a → Value m b → b ≼ m.join a b
  join_before a b va vb = subst (λ x. x ≼ m.join a b) (L.empty_in_front b vb) (monotone (empty_le a va) (reflexive b vb))

  -- some and none
  pub not_some_none : (a : V) → Value m a → some m a ≡ false → a ≡ m.none
  not_some_none a va h = L.tie_is_same a m.none va L.none_is_value (L.none_is_worst a va) h

  pub none_not_some : some m m.none ≡ false
  none_not_some = (reflexive m.none L.none_is_value).order

  pub some_not_none : (a : V) → some m a ≡ true → a ≡ m.none → ⊥
  some_not_none a h e = both_ways (some m m.none) none_not_some (subst (λ x. some m x ≡ true) e h)

  pub not_none_some : (a : V) → Value m a → (a ≡ m.none → ⊥) → some m a ≡ true
  not_none_some a va h = ⊎_elim (λ t. t) (λ f. absurd (h (not_some_none a va f))) (cases_Bool (some m a))

  pub some_or_none : (a : V) → Value m a → (some m a ≡ true) ⊎ (a ≡ m.none)
  some_or_none a va = ⊎_elim inl (λ f. inr (not_some_none a va f)) (cases_Bool (some m a))

  -- what is not worse than something is something
  pub some_le : {a b : V} → a ≼ b → some m b ≡ true → some m a ≡ true
  some_le {a} {b} p h = not_none_some a p.left (λ e. both_ways (some m b) (p' e) h)
    where
      p' : a ≡ m.none → some m b ≡ false
      p' e = subst (λ x. m.better b x ≡ false) e p.order

  -- a join that is something has two parts that are something
  pub join_some_left : (a b : V) → Value m a → Value m b → some m (m.join a b) ≡ true → some m a ≡ true
  join_some_left a b va vb h = some_le (join_after a b va vb) h

  pub join_some_right : (a b : V) → Value m a → Value m b → some m (m.join a b) ≡ true → some m b ≡ true
  join_some_right a b va vb h = some_le (join_before a b va vb) h

  -- values that tie are the same
  pub same_eq : (a b : V) → Value m a → Value m b → same m a b ≡ true → a ≡ b
  same_eq a b va vb h =
      let p = and_parts (not (m.better a b)) (not (m.better b a)) h in
      L.tie_is_same a b va vb (not-true (m.better b a) p.1) (not-true (m.better a b) p.0)

  pub eq_same : (a b : V) → Value m a → a ≡ b → same m a b ≡ true
  eq_same a b va e = subst (λ x. same m a x ≡ true) e (and_from (not (m.better a a)) (not (m.better a a)) (not_from_false (m.better a a) (reflexive a va).order) (not_from_false (m.better a a) (reflexive a va).order))

  -- the better of two
  pub pick_value : (a b : V) → Value m a → Value m b → Value m (pick m a b)
  pick_value a b va vb = cond_both (m.better b a) b a (Value m) (λ _. vb) (λ _. va)

  pub pick_left : (a b : V) → Value m a → Value m b → pick m a b ≼ a
  pick_left a b va vb = cond_both (m.better b a) b a (λ x. x ≼ a) (λ t. better_le b a vb va t) (λ _. reflexive a va)

  pub pick_right : (a b : V) → Value m a → Value m b → pick m a b ≼ b
  pick_right a b va vb = cond_both (m.better b a) b a (λ x. x ≼ b) (λ _. reflexive b vb) (λ f. record { left = va; right = vb; order = f })

  pub pick_either : (a b : V) → (pick m a b ≡ a) ⊎ (pick m a b ≡ b)
  pick_either a b = cond_both (m.better b a) b a (λ x. (x ≡ a) ⊎ (x ≡ b)) (λ _. inr refl) (λ _. inl refl)

  pub pick_bound : {a b c : V} → c ≼ a → c ≼ b → c ≼ pick m a b
  pick_bound {a} {b} {c} p q = cond_both (m.better b a) b a (λ x. c ≼ x) (λ _. q) (λ _. p)

  -- the best of many
  pub best_below_value : (k : ℕ) (f : ℕ → V) → ((i : ℕ) → Value m (f i)) → Value m (best_below m k f)
  best_below_value zero f vf = L.none_is_value
  best_below_value (suc k) f vf = pick_value (best_below m k f) (f k) (best_below_value k f vf) (vf k)

  pub best_below_le : (k : ℕ) (f : ℕ → V) → ((i : ℕ) → Value m (f i)) → (i : ℕ) → i < k → best_below m k f ≼ f i
  best_below_le zero f vf i h = absurd (omega arith)
  best_below_le (suc k) f vf i h = ⊎_elim
      (λ (e : i ≡ k). subst (λ x. best_below m (suc k) f ≼ f x) (sym e) (pick_right (best_below m k f) (f k) (best_below_value k f vf) (vf k)))
      (λ (ne : i ≡ k → ⊥). trans (pick_left (best_below m k f) (f k) (best_below_value k f vf) (vf k)) (best_below_le k f vf i (omega arith)))
      (cases_eq i k)

  pub best_below_one : (k : ℕ) (f : ℕ → V) → (best_below m k f ≡ m.none) ⊎ ((i : ℕ) × (i < k) × (best_below m k f ≡ f i))
  best_below_one zero f = inl refl
  best_below_one (suc k) f = ⊎_elim
      (λ (e : best_below m (suc k) f ≡ best_below m k f). ⊎_elim (λ (z : best_below m k f ≡ m.none). inl (e ∙ z)) (λ (w : (i : ℕ) × (i < k) × (best_below m k f ≡ f i)). inr (w.0, (let h : w.0 < k = w.1 in omega arith), e ∙ w.2)) (best_below_one k f))
      (λ (e : best_below m (suc k) f ≡ f k). inr (k, omega arith, e))
      (pick_either (best_below m k f) (f k))

  -- a value that is not worse than each and is none or one of them is the best
  pub best_below_is : (k : ℕ) (f : ℕ → V) → ((i : ℕ) → Value m (f i)) → (a : V) → Value m a → ((i : ℕ) → i < k → a ≼ f i) → (a ≡ m.none) ⊎ ((i : ℕ) × (i < k) × (a ≡ f i)) → a ≡ best_below m k f
  best_below_is k f vf a va le one = antisym
      (⊎_elim (λ (z : best_below m k f ≡ m.none). subst (λ x. a ≼ x) (sym z) (le_none a va)) (λ (w : (i : ℕ) × (i < k) × (best_below m k f ≡ f i)). subst (λ x. a ≼ x) (sym w.2) (le w.0 w.1)) (best_below_one k f))
      (⊎_elim (λ (z : a ≡ m.none). subst (λ x. best_below m k f ≼ x) (sym z) (le_none (best_below m k f) (best_below_value k f vf))) (λ (w : (i : ℕ) × (i < k) × (a ≡ f i)). subst (λ x. best_below m k f ≼ x) (sym w.2) (best_below_le k f vf w.0 w.1)) one)
