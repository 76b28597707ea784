-- What is left of a listing: the entries that no sheet senior to both ends covers are the listing of the pruned table.
use Rattle.std.proofs.Common.{◌≡◌, ℕ, zero, suc, ◌<◌, min, Bool, true, false, cond, not, ◌||◌, List, [], ◌∷◌, sym, refl, ap, ◌∙◌, ap₂, inl, inr, ⊎_elim, arith}
use Rattle.std.proofs.lemmas.Bool.{cases_Bool, both_ways, cond_both, cond-true, cond-false, or_left, or_right, not_from_false}
use Rattle.theory.specs.declared.Entry.{Entry}
use Rattle.theory.specs.Measures.{Meaning, Lawful, Value, NoWorse, some, pick, best_below, any_below}
use Rattle.theory.specs.Chains.{Among}
use Rattle.theory.specs.Tables.{Table, entry, pairs, entries_at, listed, held}
use Rattle.theory.specs.Rounds.{pruned}
use Rattle.theory.proofs.Orders as orders
use Rattle.theory.proofs.Finished.{best_below_same}
use Rattle.theory.proofs.Listings.{pairs_among, held_listed}
use Rattle.pruning.specs.Pruning.{covered_by, uncovered}

module _ {V : Type 0} (m : Meaning V) (L : Lawful m) where
  -- what is better than a value is better than one that is not better than it
  better_than_worse : (a b c : V) → Value m a → m.better a b ≡ true → NoWorse m b c → m.better a c ≡ true
  better_than_worse a b c va t le = ⊎_elim (λ h. h)
      (λ (f : m.better a c ≡ false). absurd (both_ways (m.better a b) (orders.trans m L le (record { left = le.right; right = va; order = f })).order t))
      (cases_Bool (m.better a c))

  -- not better than the better of two: not better than one of them
  not_better_pick : (a b c : V) → Value m a → Value m b → Value m c → not (m.better a (pick m b c)) ≡ (not (m.better a c) || not (m.better a b))
  not_better_pick a b c va vb vc = ⊎_elim
      (λ (t : m.better a (pick m b c) ≡ true). ap not t ∙ sym (ap₂ (λ x y. not x || not y)
      (better_than_worse a (pick m b c) c va t (orders.pick_right m L b c vb vc))
      (better_than_worse a (pick m b c) b va t (orders.pick_left m L b c vb vc))))
      (λ (f : m.better a (pick m b c) ≡ false). ap not f ∙ sym (⊎_elim
      (λ (e : pick m b c ≡ b). or_right (not (m.better a c)) (not (m.better a b)) (not_from_false (m.better a b) (ap (m.better a) (sym e) ∙ f)))
      (λ (e : pick m b c ≡ c). or_left (not (m.better a c)) (not (m.better a b)) (not_from_false (m.better a c) (ap (m.better a) (sym e) ∙ f)))
      (orders.pick_either m L b c)))
      (cases_Bool (m.better a (pick m b c)))

  -- a value that is some is not better than the best of many if it is not better than one of them
  not_better_best : (k : ℕ) (f : ℕ → V) → ((i : ℕ) → Value m (f i)) → (a : V) → Value m a → some m a ≡ true → not (m.better a (best_below m k f)) ≡ any_below k (λ w. not (m.better a (f w)))
  not_better_best zero f vf a va s = ap not s
  not_better_best (suc k) f vf a va s =
      not_better_pick a (best_below m k f) (f k) va (orders.best_below_value m L k f vf) (vf k)
      ∙ ap (λ x. not (m.better a (f k)) || x) (not_better_best k f vf a va s)

  module _ (n : ℕ) (g : Table V) (values : (u v : ℕ) → Value m (g u v)) where
    -- a sheet senior to both ends has two entries whose join is not worse
    abbrev goes : ℕ → ℕ → Bool
    goes u v = any_below (min u v) (λ w. not (m.better (g u v) (m.join (g u w) (g w v))))

    -- an entry of the listing is covered just where the pruned table has none
    covered_listed : (u v : ℕ) → u < n → v < n → some m (g u v) ≡ true → covered_by m (listed m n g) (entry u v (g u v)) ≡ goes u v
    covered_listed u v lu lv s =
        ap (λ x. not (m.better (g u v) x))
        (best_below_same m L (min u v) (λ w. m.join (held m (listed m n g) u w) (held m (listed m n g) w v)) (λ w. m.join (g u w) (g w v))
        (λ w l. ap₂ m.join (held_listed m L n g u w values lu (omega arith) (λ e. omega arith)) (held_listed m L n g w v values (omega arith) lv (λ e. omega arith))))
        ∙ not_better_best (min u v) (λ w. m.join (g u w) (g w v)) (λ w. orders.join_value m L (values u w) (values w v)) (g u v) (values u v) s

    -- one pair more, if its value is none
    without : (u v : ℕ) (us rs : List (Entry V)) → us ≡ rs → some m (g u v) ≡ false → us ≡ cond (some m (pruned m g u v)) (entry u v (pruned m g u v) ∷ rs) rs
    without u v us rs e s = e ∙ sym (cond-false (some m (pruned m g u v)) (entry u v (pruned m g u v) ∷ rs) rs
        (cond_both (goes u v) m.none (g u v) (λ x. some m x ≡ false) (λ _. orders.none_not_some m L) (λ _. s)))

    -- and if it is some
    within : (u v : ℕ) (us rs : List (Entry V)) → us ≡ rs → some m (g u v) ≡ true → (c : Bool) → c ≡ goes u v → cond c us (entry u v (g u v) ∷ us) ≡ cond (some m (pruned m g u v)) (entry u v (pruned m g u v) ∷ rs) rs
    within u v us rs e s c is = ⊎_elim
        (λ (t : goes u v ≡ true). cond-true c us (entry u v (g u v) ∷ us) (is ∙ t) ∙ e
        ∙ sym (cond-false (some m (pruned m g u v)) (entry u v (pruned m g u v) ∷ rs) rs (ap (some m) (cond-true (goes u v) m.none (g u v) t) ∙ orders.none_not_some m L)))
        (λ (f : goes u v ≡ false). cond-false c us (entry u v (g u v) ∷ us) (is ∙ f) ∙ ap (λ xs. entry u v (g u v) ∷ xs) e
        ∙ sym (ap (λ x. cond (some m x) (entry u v x ∷ rs) rs) (cond-false (goes u v) m.none (g u v) f) ∙ cond-true (some m (g u v)) (entry u v (g u v) ∷ rs) rs s))
        (cases_Bool (goes u v))

    uncovered_entries : (ps : List (ℕ × ℕ)) → ((p : ℕ × ℕ) → Among p ps → (p.0 < n) × (p.1 < n)) → uncovered m (listed m n g) (entries_at m g ps) ≡ entries_at m (pruned m g) ps
    uncovered_entries [] h = refl
    uncovered_entries (p ∷ ps) h =
        let u : ℕ = p.0 in
        let v : ℕ = p.1 in
        let rest : uncovered m (listed m n g) (entries_at m g ps) ≡ entries_at m (pruned m g) ps = uncovered_entries ps (λ q a. h q (inr a)) in
        ⊎_elim
        (λ (t : some m (g u v) ≡ true). ap (uncovered m (listed m n g)) (cond-true (some m (g u v)) (entry u v (g u v) ∷ entries_at m g ps) (entries_at m g ps) t)
        ∙ within u v (uncovered m (listed m n g) (entries_at m g ps)) (entries_at m (pruned m g) ps) rest t (covered_by m (listed m n g) (entry u v (g u v))) (covered_listed u v (h p (inl refl)).0 (h p (inl refl)).1 t))
        (λ (f : some m (g u v) ≡ false). ap (uncovered m (listed m n g)) (cond-false (some m (g u v)) (entry u v (g u v) ∷ entries_at m g ps) (entries_at m g ps) f)
        ∙ without u v (uncovered m (listed m n g) (entries_at m g ps)) (entries_at m (pruned m g) ps) rest f)
        (cases_Bool (some m (g u v)))

    -- the entries of a listing that are left are the listing of the pruned table
    pub uncovered_listed : uncovered m (listed m n g) (listed m n g) ≡ listed m n (pruned m g)
    uncovered_listed = uncovered_entries (pairs n) (λ p a. let s = pairs_among n p a in (s.0, s.1))
