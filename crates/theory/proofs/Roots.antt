-- The root step: after r roots the table, by its own answer, decides which entries of sheet r come next,
-- and a search from r that is pruned by that answer finds their values.
use Rattle.std.proofs.Common.{◌≡◌, ℕ, ◌<◌, ◌≤◌, min, true, false, cond, not, ◌||◌, eqb, ltb, ◌⊎◌, List, [], ◌∷◌, sym, refl, ap, ◌∙◌, subst, ap₂, inl, inr, ⊎_elim, arith}
use Rattle.std.proofs.lemmas.Bool.{both_ways, cond_both, cond-true, cond-false, eqb-true, eq-eqb, ne_eqb, lt-ltb, le-ltb, cases_eq, cases_lt, not_from_false, not-true}
use Rattle.theory.specs.declared.Redraw.{Redraw}
use Rattle.theory.specs.Measures.{Meaning, Lawful, Value, NoWorse, some, pick}
use Rattle.theory.specs.Chains.{Among, fits, Register, Reached, Chain, value, best}
use Rattle.theory.specs.Tables.{Table, answer, covered, finished, rooted}
use Rattle.theory.proofs.Orders as orders
use Rattle.theory.proofs.Best as bests
use Rattle.theory.proofs.Finished as fin
use Rattle.theory.proofs.Finished.{Least, least}

module _ {V : Type 0} (m : Meaning V) (L : Lawful m) where
  infix 40 ◌≼◌
  abbrev ◌≼◌ : V → V → Type 0
  a ≼ b = NoWorse m a b

  -- the empty chain is not none, since some redraw is worth something
  pub empty_some : some m m.empty ≡ true
  empty_some =
      let r : Redraw = record { from = 0; to = 1; minutes = 1; grade = 1 } in
      let v = L.redraw_is_value r refl in
      orders.some_le m L (orders.empty_le m L (m.worth r) v) (orders.not_none_some m L (m.worth r) v (L.redraw_is_some r refl))

  -- the cut table
  pub rooted_value : (r : ℕ) (b : Table V) → fin.Values m L b → fin.Values m L (rooted m r b)
  rooted_value r b vb u v = cond_both (ltb (min u v) r) (finished m b u v) m.none (Value m)
      (λ _. cond_both (eqb u v || covered m b u v) m.none (b u v) (Value m) (λ _. L.none_is_value) (λ _. vb u v)) (λ _. L.none_is_value)

  pub rooted_in : (r : ℕ) (b : Table V) (u v : ℕ) → min u v < r → rooted m r b u v ≡ finished m b u v
  rooted_in r b u v l = cond-true (ltb (min u v) r) (finished m b u v) m.none (lt-ltb (min u v) r l)

  pub rooted_out : (r : ℕ) (b : Table V) (u v : ℕ) → r ≤ min u v → rooted m r b u v ≡ m.none
  rooted_out r b u v l = cond-false (ltb (min u v) r) (finished m b u v) m.none (le-ltb (min u v) r l)

  module _ (n : ℕ) (b : Table V) (vb : fin.Values m L b) (self : (s : ℕ) → b s s ≡ m.empty) (tri : (s w t : ℕ) → w < n → b s t ≼ m.join (b s w) (b w t)) (r : ℕ) (lr : r < n) where
    T : Table V
    T = rooted m r b

    vT : fin.Values m L (rooted m r b)
    vT = rooted_value r b vb

    rooted_honest : (u v : ℕ) → u < n → v < n → (u ≡ v → ⊥) → b u v ≼ rooted m r b u v
    rooted_honest u v _ _ _ = cond_both (ltb (min u v) r) (finished m b u v) m.none (λ x. b u v ≼ x) (λ _. fin.finished_honest m L n b vb self tri u v) (λ _. orders.le_none m L (b u v) (vb u v))

    -- through the seniors: the cut table answers at least as well as any detour over a sheet senior to r
    pub through_seniors : (s t w : ℕ) → r ≤ s → r ≤ t → w < r → s < n → t < n → answer m (rooted m r b) s t ≼ m.join (b s w) (b w t)
    through_seniors s t w rs rt lw ls lt = from_least (least (λ x. not (m.better X (via x))) w (not_from_false (m.better X X) (orders.reflexive m L X vX).order))
      where
        via : ℕ → V
        via x = m.join (b s x) (b x t)

        X : V
        X = via w

        vX : Value m X
        vX = orders.join_value m L (vb s w) (vb w t)

        from_least : Least (λ x. not (m.better X (via x))) w → answer m (rooted m r b) s t ≼ m.join (b s w) (b w t)
        from_least l =
            let c : ℕ = l.at in
            let lc : c ≤ w = l.within in
            let le : via c ≼ X = record { left = orders.join_value m L (vb s c) (vb c t); right = vX; order = not-true (m.better X (via c)) l.passes } in
            let again : (x : ℕ) → x < c → via x ≼ via c → ⊥ = λ x lx p. l.first x lx (not_from_false (m.better X (via x)) (orders.trans m L p le).order) in
            let nsc : s ≡ c → ⊥ = λ e. omega arith in
            let nct : c ≡ t → ⊥ = λ e. omega arith in
            let front : rooted m r b s c ≡ b s c = rooted_in r b s c (omega arith) ∙ fin.finished_is m L n b vb self tri s c nsc (λ x lx e. again x (omega arith) (fin.detour_front m L n b vb self tri s x c t (omega arith) (fin.between_parts m L n b vb self tri s x c e).1)) in
            let back : rooted m r b c t ≡ b c t = rooted_in r b c t (omega arith) ∙ fin.finished_is m L n b vb self tri c t nct (λ x lx e. again x (omega arith) (fin.detour_back m L n b vb self tri s c x t (omega arith) (fin.between_parts m L n b vb self tri c x t e).1)) in
            let lin : c < min s t = omega arith in
            orders.trans m L (subst (λ x. answer m (rooted m r b) s t ≼ x) (fin.via_inner m L (rooted m r b) s t c lin ∙ ap₂ m.join front back) (fin.answer_le m L (rooted m r b) vT s t c (omega arith))) le

    -- a pair with a sheet senior to r is answered as the finished table answers it
    pub seniors_right : (s t : ℕ) → s < n → t < n → min s t < r → answer m (rooted m r b) s t ≡ b s t
    seniors_right s t ls lt l =
        fin.answer_same m L (rooted m r b) (finished m b) s t (λ _. rooted_in r b s t l) (λ w lw. rooted_in r b s w (omega arith)) (λ w lw. rooted_in r b w t (omega arith))
        ∙ fin.finished_right m L n b vb self tri s t ls lt

    -- an answer about r itself: none, or a join over a sheet senior to r that is no better than the detour
    pub rooted_answer_one : (t : ℕ) → r < t → t < n → (answer m (rooted m r b) r t ≡ m.none) ⊎ ((w : ℕ) × (w < r) × (m.join (b r w) (b w t) ≼ answer m (rooted m r b) r t))
    rooted_answer_one t l lt = ⊎_elim
        inl
        (λ (w : (w : ℕ) × (w ≤ min r t) × (answer m (rooted m r b) r t ≡ fin.via m L (rooted m r b) r t w)).
        let lw : w.0 ≤ min r t = w.1 in
        ⊎_elim
        (λ (e : w.0 ≡ min r t). inl (w.2 ∙ ap (fin.via m L (rooted m r b) r t) e ∙ fin.via_last m L (rooted m r b) vT r t (λ q. omega arith) ∙ rooted_out r b r t (omega arith)))
        (λ (ne : w.0 ≡ min r t → ⊥). inr (
          w.0,
          omega arith,
          subst (λ x. m.join (b r w.0) (b w.0 t) ≼ x) (sym w.2)
              (orders.monotone m L (fin.full_honest m L n b vb self tri (rooted m r b) rooted_honest r w.0 lr (omega arith)) (fin.full_honest m L n b vb self tri (rooted m r b) rooted_honest w.0 t (omega arith) lt)),
        ))
        (cases_eq w.0 (min r t)))
        (fin.answer_one m L (rooted m r b) vT r t)

    -- which entries the next root adds: those whose best measure is better than the present answer
    pub root_adds : (t : ℕ) → r < t → t < n → m.better (b r t) (answer m (rooted m r b) r t) ≡ true → finished m b r t ≡ b r t
    root_adds t l lt h = fin.finished_is m L n b vb self tri r t (λ e. omega arith) (λ w lw e.
        both_ways (m.better (b r t) (answer m (rooted m r b) r t))
        (subst (λ x. answer m (rooted m r b) r t ≼ x) (fin.between_parts m L n b vb self tri r w t e).1 (through_seniors r t w (omega arith) (omega arith) (omega arith) lr lt)).order h)

    pub root_leaves : (t : ℕ) → r < t → t < n → answer m (rooted m r b) r t ≼ b r t → finished m b r t ≡ m.none
    root_leaves t l lt p = ⊎_elim
        (λ (h : some m (b r t) ≡ true). ⊎_elim
        (λ (z : answer m (rooted m r b) r t ≡ m.none). absurd (orders.some_not_none m L (answer m (rooted m r b) r t) (orders.some_le m L p h) z))
        (λ (w : (w : ℕ) × (w < r) × (m.join (b r w) (b w t) ≼ answer m (rooted m r b) r t)).
        let lw : w.0 < r = w.1 in
        fin.finished_covered m L n b vb self tri r w.0 t (omega arith) (fin.between_from m L n b vb self tri r w.0 t (omega arith) h (orders.trans m L w.2 p)))
        (rooted_answer_one t l lt))
        (λ (z : b r t ≡ m.none). fin.finished_none m L n b vb self tri r t z)
        (orders.some_or_none m L (b r t) (vb r t))

  module _ (n : ℕ) (rs : List Redraw) (reg : Register n rs) where
    -- a certificate for one source: values that no redraw improves, and that are none or some chain's, are the best measures
    pub certificate : (r : ℕ) (y : ℕ → V) → ((t : ℕ) → Value m (y t)) → y r ≡ m.empty
        → ((c : Redraw) → Among c rs → y c.to ≼ m.join (y c.from) (m.worth c)) → ((t : ℕ) → Reached m rs r t (y t))
        → (t : ℕ) → y t ≡ best m n rs r t
    certificate r y vy start relaxed reached t = orders.antisym m L
        (⊎_elim
        (λ (z : best m n rs r t ≡ m.none). subst (λ x. y t ≼ x) (sym z) (orders.le_none m L (y t) (vy t)))
        (λ (w : (p : List Redraw) × Chain rs r t p × (value m p ≡ best m n rs r t)). subst (λ x. y t ≼ x) (ap (λ x. m.join x (value m w.0)) start ∙ L.empty_in_front (value m w.0) (bests.value_value m L n rs w.0 reg w.1.0) ∙ w.2) (along w.0 r t w.1))
        (bests.reach_reached m L n rs reg n r t))
        (⊎_elim
        (λ (z : y t ≡ m.none). subst (λ x. best m n rs r t ≼ x) (sym z) (orders.le_none m L (best m n rs r t) (bests.best_value m L n rs reg r t)))
        (λ (w : (p : List Redraw) × Chain rs r t p × (value m p ≡ y t)). subst (λ x. best m n rs r t ≼ x) w.2 (bests.best_bound m L n rs reg w.0 r t w.1))
        (reached t))
      where
        along : (p : List Redraw) (x t : ℕ) → Chain rs x t p → y t ≼ m.join (y x) (value m p)
        along [] x t c = subst (λ z. y t ≼ m.join (y z) m.empty) (sym c.1) (orders.join_after m L (y t) m.empty (vy t) L.empty_is_value)
        along (c ∷ p) x t h =
            let w : Among c rs = h.0.0 in
            let vc = bests.worth_value m L n c (bests.all_among (λ q. fits n q ≡ true) c rs reg w) in
            let vp = bests.value_value m L n rs p reg h.0.1 in
            subst (λ z. y t ≼ m.join (y z) (value m (c ∷ p))) h.1.0
            (subst (λ z. y t ≼ z) (L.join_associative (y c.from) (m.worth c) (value m p) (vy c.from) vc vp)
            (orders.trans m L (along p c.to t (h.0.1, h.1.1)) (orders.monotone m L (relaxed c w) (orders.reflexive m L (value m p) vp))))

    -- what a pruned search from r has come to: each redraw was relaxed, or the table answers its start as well
    pub record Searched (r : ℕ) (y : ℕ → V) : Type 0 where
      pub values : (t : ℕ) → Value m (y t)
      pub start : y r ≡ m.empty
      pub reached : (t : ℕ) → Reached m rs r t (y t)
      pub settled : (c : Redraw) → Among c rs
          → ((((c.from ≡ r) ⊎ (m.better (y c.from) (answer m (rooted m r (best m n rs)) r c.from) ≡ true)) × (y c.to ≼ m.join (y c.from) (m.worth c)))
          ⊎ ((c.from ≡ r → ⊥) × (answer m (rooted m r (best m n rs)) r c.from ≼ y c.from)))

    module _ (r : ℕ) (lr : r < n) (y : ℕ → V) (S : Searched r y) where
      b : Table V
      b = best m n rs

      vb : fin.Values m L (best m n rs)
      vb = bests.best_value m L n rs reg

      self : (s : ℕ) → best m n rs s s ≡ m.empty
      self = bests.best_self m L n rs reg

      tri : (s w t : ℕ) → w < n → best m n rs s t ≼ m.join (best m n rs s w) (best m n rs w t)
      tri = bests.triangle m L n rs reg

      ans : ℕ → V
      ans t = answer m (rooted m r (best m n rs)) r t

      vans : (t : ℕ) → Value m (answer m (rooted m r (best m n rs)) r t)
      vans t = fin.answer_value m L (rooted m r (best m n rs)) (rooted_value r (best m n rs) vb) r t

      z : ℕ → V
      z t = cond (eqb r t) m.empty (pick m (y t) (answer m (rooted m r (best m n rs)) r t))

      z_value : (t : ℕ) → Value m (z t)
      unfolding z
      z_value t = cond_both (eqb r t) m.empty (pick m (y t) (answer m (rooted m r (best m n rs)) r t)) (Value m) (λ _. L.empty_is_value) (λ _. orders.pick_value m L (y t) (answer m (rooted m r (best m n rs)) r t) (S.values t) (vans t))

      z_start : z r ≡ m.empty
      unfolding z
      z_start = cond-true (eqb r r) m.empty (pick m (y r) (answer m (rooted m r (best m n rs)) r r)) (eq-eqb r r refl)

      z_other : (t : ℕ) → (t ≡ r → ⊥) → z t ≡ pick m (y t) (answer m (rooted m r (best m n rs)) r t)
      unfolding z
      z_other t ne = cond-false (eqb r t) m.empty (pick m (y t) (answer m (rooted m r (best m n rs)) r t)) (ne_eqb r t (λ e. ne (sym e)))

      -- z is not worse than y, nor than the answer
      z_y : (t : ℕ) → z t ≼ y t
      z_y t = ⊎_elim
          (λ (e : t ≡ r). subst (λ x. z x ≼ y x) (sym e) (subst (λ x. x ≼ y r) (sym z_start) (orders.empty_le m L (y r) (S.values r))))
          (λ (ne : t ≡ r → ⊥). subst (λ x. x ≼ y t) (sym (z_other t ne)) (orders.pick_left m L (y t) (answer m (rooted m r (best m n rs)) r t) (S.values t) (vans t)))
          (cases_eq t r)

      z_ans : (t : ℕ) → z t ≼ answer m (rooted m r (best m n rs)) r t
      z_ans t = ⊎_elim
          (λ (e : t ≡ r). subst (λ x. z x ≼ answer m (rooted m r (best m n rs)) r x) (sym e) (subst (λ x. x ≼ answer m (rooted m r (best m n rs)) r r) (sym z_start) (orders.empty_le m L (answer m (rooted m r (best m n rs)) r r) (vans r))))
          (λ (ne : t ≡ r → ⊥). subst (λ x. x ≼ answer m (rooted m r (best m n rs)) r t) (sym (z_other t ne)) (orders.pick_right m L (y t) (answer m (rooted m r (best m n rs)) r t) (S.values t) (vans t)))
          (cases_eq t r)

      -- entries, joins and answers of the cut table are none or some chain's value
      full_reached : (u v : ℕ) → Reached m rs u v (fin.full m L (rooted m r (best m n rs)) u v)
      full_reached u v = cond_both (eqb u v) m.empty (rooted m r (best m n rs) u v) (Reached m rs u v)
          (λ e. subst (λ x. Reached m rs u x m.empty) (eqb-true u v e) (bests.reached_empty m L rs u))
          (λ _. cond_both (ltb (min u v) r) (finished m (best m n rs) u v) m.none (Reached m rs u v)
          (λ _. cond_both (eqb u v || covered m (best m n rs) u v) m.none (best m n rs u v) (Reached m rs u v) (λ _. inl refl) (λ _. bests.reach_reached m L n rs reg n u v))
          (λ _. inl refl))

      ans_reached : (t : ℕ) → Reached m rs r t (answer m (rooted m r (best m n rs)) r t)
      ans_reached t = ⊎_elim inl
          (λ (w : (w : ℕ) × (w ≤ min r t) × (answer m (rooted m r (best m n rs)) r t ≡ fin.via m L (rooted m r (best m n rs)) r t w)).
          subst (Reached m rs r t) (sym w.2) (bests.reached_join m L n rs reg r w.0 t (fin.full m L (rooted m r (best m n rs)) r w.0) (fin.full m L (rooted m r (best m n rs)) w.0 t)
          (fin.full_value m L (rooted m r (best m n rs)) (rooted_value r (best m n rs) vb) r w.0) (fin.full_value m L (rooted m r (best m n rs)) (rooted_value r (best m n rs) vb) w.0 t) (full_reached r w.0) (full_reached w.0 t)))
          (fin.answer_one m L (rooted m r (best m n rs)) (rooted_value r (best m n rs) vb) r t)

      z_reached : (t : ℕ) → Reached m rs r t (z t)
      z_reached t = ⊎_elim
          (λ (e : t ≡ r). subst (λ x. Reached m rs r x (z x)) (sym e) (subst (Reached m rs r r) (sym z_start) (bests.reached_empty m L rs r)))
          (λ (ne : t ≡ r → ⊥). subst (Reached m rs r t) (sym (z_other t ne)) (cond_both (m.better (answer m (rooted m r (best m n rs)) r t) (y t)) (answer m (rooted m r (best m n rs)) r t) (y t) (Reached m rs r t) (λ _. ans_reached t) (λ _. S.reached t)))
          (cases_eq t r)

      -- over a sheet senior to r: the table answers as well as the detour
      over_senior : (w t : ℕ) → w < r → t < n → z t ≼ m.join (best m n rs r w) (best m n rs w t)
      over_senior w t lw lt = orders.trans m L (z_ans t) (⊎_elim
          (λ (l : t < r). subst (λ x. x ≼ m.join (best m n rs r w) (best m n rs w t)) (sym (seniors_right n (best m n rs) vb self tri r lr r t lr lt (omega arith))) (tri r w t (omega arith)))
          (λ (l : r ≤ t). through_seniors n (best m n rs) vb self tri r lr r t w (omega arith) l lw lr lt)
          (cases_lt t r))

      -- a redraw that starts where the table answers as well
      z_covered : (c : Redraw) → Among c rs → (c.from ≡ r → ⊥) → answer m (rooted m r (best m n rs)) r c.from ≼ y c.from → z c.to ≼ m.join (z c.from) (m.worth c)
      z_covered c w ne p =
          let x : ℕ = c.from in
          let t : ℕ = c.to in
          let fx = bests.fits_parts n c (bests.all_among (λ q. fits n q ≡ true) c rs reg w) in
          let vc = bests.worth_value m L n c (bests.all_among (λ q. fits n q ≡ true) c rs reg w) in
          let is : z x ≡ answer m (rooted m r (best m n rs)) r x = orders.antisym m L (z_ans x) (subst (λ q. answer m (rooted m r (best m n rs)) r x ≼ q) (sym (z_other x ne)) (orders.pick_bound m L p (orders.reflexive m L (answer m (rooted m r (best m n rs)) r x) (vans x)))) in
          let lx : c.from < n = fx.from_below in
          let lt : c.to < n = fx.to_below in
          let last : best m n rs c.from c.to ≼ m.worth c = bests.best_redraw m L n rs reg c w in
          subst (λ q. z t ≼ m.join q (m.worth c)) (sym is) (⊎_elim
          (λ (l : x < r). subst (λ q. z t ≼ m.join q (m.worth c)) (sym (seniors_right n (best m n rs) vb self tri r lr r x lr lx (omega arith)))
          (orders.trans m L (over_senior x t l lt) (orders.monotone m L (orders.reflexive m L (best m n rs r x) (vb r x)) last)))
          (λ (l : r ≤ x). ⊎_elim
          (λ (q : answer m (rooted m r (best m n rs)) r x ≡ m.none). subst (λ a. z t ≼ m.join a (m.worth c)) (sym q) (subst (λ a. z t ≼ a) (sym (L.none_in_front (m.worth c) vc)) (orders.le_none m L (z t) (z_value t))))
          (λ (v : (w : ℕ) × (w < r) × (m.join (best m n rs r w) (best m n rs w x) ≼ answer m (rooted m r (best m n rs)) r x)).
          let lw : v.0 < r = v.1 in
          orders.trans m L (over_senior v.0 t lw lt)
          (orders.trans m L (orders.monotone m L (orders.reflexive m L (best m n rs r v.0) (vb r v.0)) (tri v.0 x t lx))
          (subst (λ a. a ≼ m.join (answer m (rooted m r (best m n rs)) r x) (m.worth c)) (L.join_associative (best m n rs r v.0) (best m n rs v.0 x) (best m n rs x t) (vb r v.0) (vb v.0 x) (vb x t)) (orders.monotone m L v.2 last))))
          (rooted_answer_one n (best m n rs) vb self tri r lr x (omega arith) lx))
          (cases_lt x r))

      z_relaxed : (c : Redraw) → Among c rs → z c.to ≼ m.join (z c.from) (m.worth c)
      z_relaxed c w = ⊎_elim
          (λ (h : ((c.from ≡ r) ⊎ (m.better (y c.from) (answer m (rooted m r (best m n rs)) r c.from) ≡ true)) × (y c.to ≼ m.join (y c.from) (m.worth c))).
          let is : y c.from ≡ z c.from = ⊎_elim
          (λ (e : c.from ≡ r). ap y e ∙ S.start ∙ sym z_start ∙ ap z (sym e))
          (λ (k : m.better (y c.from) (answer m (rooted m r (best m n rs)) r c.from) ≡ true). ⊎_elim
          (λ (e : c.from ≡ r). ap y e ∙ S.start ∙ sym z_start ∙ ap z (sym e))
          (λ (ne : c.from ≡ r → ⊥). sym (z_other c.from ne ∙ cond-false (m.better (answer m (rooted m r (best m n rs)) r c.from) (y c.from)) (answer m (rooted m r (best m n rs)) r c.from) (y c.from) (L.never_both_better (y c.from) (answer m (rooted m r (best m n rs)) r c.from) (S.values c.from) (vans c.from) k)))
          (cases_eq c.from r))
          h.0 in
          subst (λ q. z c.to ≼ m.join q (m.worth c)) is (orders.trans m L (z_y c.to) h.1))
          (λ (h : (c.from ≡ r → ⊥) × (answer m (rooted m r (best m n rs)) r c.from ≼ y c.from)). z_covered c w h.0 h.1)
          (S.settled c w)

      z_best : (t : ℕ) → z t ≡ best m n rs r t
      z_best = certificate r z z_value z_start z_relaxed z_reached

      -- a value better than the table's answer is the new entry
      pub search_adds : (t : ℕ) → r < t → t < n → m.better (y t) (answer m (rooted m r (best m n rs)) r t) ≡ true → finished m (best m n rs) r t ≡ y t
      search_adds t l lt h =
          let ne : t ≡ r → ⊥ = λ e. omega arith in
          let is : y t ≡ best m n rs r t = sym (cond-false (m.better (answer m (rooted m r (best m n rs)) r t) (y t)) (answer m (rooted m r (best m n rs)) r t) (y t) (L.never_both_better (y t) (answer m (rooted m r (best m n rs)) r t) (S.values t) (vans t) h)) ∙ sym (z_other t ne) ∙ z_best t in
          root_adds n (best m n rs) vb self tri r lr t l lt (subst (λ q. m.better q (answer m (rooted m r (best m n rs)) r t) ≡ true) is h) ∙ sym is

      -- any other sheet gets none
      pub search_leaves : (t : ℕ) → r < t → t < n → m.better (y t) (answer m (rooted m r (best m n rs)) r t) ≡ false → finished m (best m n rs) r t ≡ m.none
      search_leaves t l lt h =
          let ne : t ≡ r → ⊥ = λ e. omega arith in
          let p : answer m (rooted m r (best m n rs)) r t ≼ y t = record { left = vans t; right = S.values t; order = h } in
          root_leaves n (best m n rs) vb self tri r lr t l lt
          (subst (λ q. answer m (rooted m r (best m n rs)) r t ≼ q) (sym (z_other t ne) ∙ z_best t) (orders.pick_bound m L p (orders.reflexive m L (answer m (rooted m r (best m n rs)) r t) (vans t))))
