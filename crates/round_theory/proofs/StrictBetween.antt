-- Under a strict measure no two sheets lie between one another and a third; so a part of a way has fewer sheets strictly between than the whole.
use Rattle.std.proofs.Common.{◌≡◌, ℕ, ◌+◌, ◌<◌, ◌≤◌, Bool, true, false, not, ◌&&◌, eqb, List, sym, refl, ap, ◌∙◌, subst, ⊎_elim, arith}
use Rattle.std.proofs.lemmas.Bool.{both_ways, and_parts, and_from, and_left, and_right, not-true, not_from_true, not_from_false, eqb-false, eq-eqb, ne_eqb, cases_eq}
use Rattle.theory.specs.declared.Redraw.{Redraw}
use Rattle.theory.specs.Measures.{Meaning, Lawful, Value, NoWorse, Strict, some}
use Rattle.theory.specs.Chains.{Register, best}
use Rattle.theory.specs.Tables.{Table, between, finished}
use Rattle.theory.proofs.Orders as orders
use Rattle.theory.proofs.Best as bests
use Rattle.theory.proofs.Finished as fin
use Rattle.theory.proofs.Finished.{Least, least}
use Rattle.round_theory.proofs.Counts.{count, count_le, count_less}
use Rattle.round_theory.proofs.FirstRedraw as firsts

-- the test t of w passes, and w is neither u nor v
pub record Apart (t : Bool) (w u v : ℕ) : Type 0 where
  pub passes : t ≡ true
  pub not_first : w ≡ u → ⊥
  pub not_last : w ≡ v → ⊥

module _ {V : Type 0} (m : Meaning V) (L : Lawful m) where
  -- w lies between u and v and is neither of them
  abbrev pub inside : Table V → ℕ → ℕ → ℕ → Bool
  inside b u v w = between m b u w v && (not (eqb w u) && not (eqb w v))

  -- the parts of `inside`
  pub inside_parts : (b : Table V) (u v w : ℕ) → inside b u v w ≡ true → Apart (between m b u w v) w u v
  inside_parts b u v w h =
      let p = and_parts (between m b u w v) (not (eqb w u) && not (eqb w v)) h in
      let q = and_parts (not (eqb w u)) (not (eqb w v)) p.1 in
      record { passes = p.0; not_first = eqb-false w u (not-true (eqb w u) q.0); not_last = eqb-false w v (not-true (eqb w v) q.1) }

  -- and back
  pub inside_from : (b : Table V) (u v w : ℕ) → between m b u w v ≡ true → (w ≡ u → ⊥) → (w ≡ v → ⊥) → inside b u v w ≡ true
  inside_from b u v w h nu nv = and_from (between m b u w v) (not (eqb w u) && not (eqb w v)) h (and_from (not (eqb w u)) (not (eqb w v)) (not_from_false (eqb w u) (ne_eqb w u nu)) (not_from_false (eqb w v) (ne_eqb w v nv)))

  -- the first end is not inside
  pub first_not_inside : (b : Table V) (u v : ℕ) → inside b u v u ≡ false
  first_not_inside b u v = and_right (between m b u u v) (not (eqb u u) && not (eqb u v)) (and_left (not (eqb u u)) (not (eqb u v)) (not_from_true (eqb u u) (eq-eqb u u refl)))

  -- nor is the last
  pub last_not_inside : (b : Table V) (u v : ℕ) → inside b u v v ≡ false
  last_not_inside b u v = and_right (between m b u v v) (not (eqb v u) && not (eqb v v)) (and_right (not (eqb v u)) (not (eqb v v)) (not_from_true (eqb v v) (eq-eqb v v refl)))

  -- of different ends neither is inside, so at least two sheets are not
  pub inside_count : (n : ℕ) (b : Table V) (u v : ℕ) → u < n → v < n → (u ≡ v → ⊥) → count n (inside b u v) + 2 ≤ n
  inside_count n b u v lu lv ne =
      let fewer : count n (inside b u v) < count n (λ w. not (eqb w v)) = count_less n (inside b u v) (λ w. not (eqb w v)) (λ i li h. not_from_false (eqb i v) (ne_eqb i v (inside_parts b u v i h).not_last)) u lu (first_not_inside b u v) (not_from_false (eqb u v) (ne_eqb u v ne)) in
      let again : count n (λ w. not (eqb w v)) < count n (λ _. true) = count_less n (λ w. not (eqb w v)) (λ _. true) (λ i li h. refl) v lv (not_from_true (eqb v v) (eq-eqb v v refl)) refl in
      let all : count n (λ _. true) ≤ n = count_le n (λ _. true) in
      omega arith

  module _ (n : ℕ) (rs : List Redraw) (reg : Register n rs) where
    -- both are values, and the first is not worse
    infix 40 ◌≼◌
    abbrev ◌≼◌ : V → V → Type 0
    a ≼ b = NoWorse m a b

    -- the best measures are values
    vb : fin.Values m L (best m n rs)
    vb = bests.best_value m L n rs reg

    -- from a sheet to itself the empty chain is best
    self : (s : ℕ) → best m n rs s s ≡ m.empty
    self = bests.best_self m L n rs reg

    -- no detour over a sheet of the book is better
    tri : (s w t : ℕ) → w < n → best m n rs s t ≼ m.join (best m n rs s w) (best m n rs w t)
    tri = bests.triangle m L n rs reg

    -- the parts of `between` for the best measures
    pub parts : (u w v : ℕ) → between m (best m n rs) u w v ≡ true → (some m (best m n rs u v) ≡ true) × (m.join (best m n rs u w) (best m n rs w v) ≡ best m n rs u v)
    parts u w v h = fin.between_parts m L n (best m n rs) vb self tri u w v h

    module _ (S : Strict m) where
      -- of two different sheets not each lies between the other and a third
      pub front_apart : (u w v : ℕ) → between m (best m n rs) u w v ≡ true → between m (best m n rs) w u v ≡ true → u ≡ w
      front_apart u w v p q = ⊎_elim (λ (e : u ≡ w). e) (λ (ne : u ≡ w → ⊥). absurd (clash (firsts.first_redraw m L n rs reg w u (λ e. ne (sym e)) back_some))) (cases_eq u w)
        where
          back_some : some m (best m n rs w u) ≡ true
          back_some = orders.join_some_left m L (best m n rs w u) (best m n rs u v) (vb w u) (vb u v) (subst (λ x. some m x ≡ true) (sym (parts w u v q).1) (parts w u v q).0)

          clash : firsts.First m L n rs reg w u → ⊥
          clash f =
              let c : V = m.worth f.redraw in
              let z : V = best m n rs f.redraw.to u in
              let vz : Value m z = vb f.redraw.to u in
              let y : V = m.join z (best m n rs u v) in
              let vy : Value m y = orders.join_value m L vz (vb u v) in
              let is : m.join c y ≡ best m n rs w v = sym (L.join_associative c z (best m n rs u v) f.worth_is_value vz (vb u v)) ∙ ap (λ x. m.join x (best m n rs u v)) (sym f.parts) ∙ (parts w u v q).1 in
              let sy : some m y ≡ true = orders.join_some_right m L c y f.worth_is_value vy (subst (λ x. some m x ≡ true) (sym is) (parts w u v q).0) in
              let le : best m n rs w v ≼ y = orders.trans m L (subst (λ x. best m n rs w v ≼ x) (parts u w v p).1 (orders.join_before m L (best m n rs u w) (best m n rs w v) (vb u w) (vb w v))) (orders.join_before m L z (best m n rs u v) vz (vb u v)) in
              both_ways (m.better y (best m n rs w v)) le.order (subst (λ x. m.better y x ≡ true) is (S f.redraw y f.is_proper vy (orders.some_not_none m L y sy)).1)

      -- nor each between a third and the other
      pub back_apart : (u w v : ℕ) → between m (best m n rs) u w v ≡ true → between m (best m n rs) u v w ≡ true → w ≡ v
      back_apart u w v p q = ⊎_elim (λ (e : w ≡ v). e) (λ (ne : w ≡ v → ⊥). absurd (clash (firsts.first_redraw m L n rs reg v w (λ e. ne (sym e)) back_some))) (cases_eq w v)
        where
          back_some : some m (best m n rs v w) ≡ true
          back_some = orders.join_some_right m L (best m n rs u v) (best m n rs v w) (vb u v) (vb v w) (subst (λ x. some m x ≡ true) (sym (parts u v w q).1) (parts u v w q).0)

          clash : firsts.First m L n rs reg v w → ⊥
          clash f =
              let c : V = m.worth f.redraw in
              let z : V = best m n rs f.redraw.to w in
              let vz : Value m z = vb f.redraw.to w in
              let d : V = best m n rs u v in
              let vd : Value m d = vb u v in
              let is : m.join (m.join d c) z ≡ best m n rs u w = L.join_associative d c z vd f.worth_is_value vz ∙ ap (m.join d) (sym f.parts) ∙ (parts u v w q).1 in
              let le : m.join d c ≼ d = orders.trans m L (subst (λ x. m.join d c ≼ x) is (orders.join_after m L (m.join d c) z (orders.join_value m L vd f.worth_is_value) vz)) (subst (λ x. best m n rs u w ≼ x) (parts u w v p).1 (orders.join_after m L (best m n rs u w) (best m n rs w v) (vb u w) (vb w v))) in
              both_ways (m.better d (m.join d c)) le.order (S f.redraw d f.is_proper vd (orders.some_not_none m L d (parts u w v p).0)).0

      -- what lies between u and w, with w inside u and v, lies inside u and v unless it is u
      pub inside_front : (u y w v : ℕ) → w < n → y < n → inside (best m n rs) u v w ≡ true → between m (best m n rs) u y w ≡ true → (y ≡ u → ⊥) → inside (best m n rs) u v y ≡ true
      inside_front u y w v lw ly h k nu =
          let a = inside_parts (best m n rs) u v w h in
          inside_from (best m n rs) u v y (fin.between_front m L n (best m n rs) vb self tri u y w v lw ly a.passes k) nu
          (λ (e : y ≡ v). a.not_last (back_apart u w v a.passes (subst (λ x. between m (best m n rs) u x w ≡ true) e k)))

      -- what lies between w and v, with w inside u and v, lies inside u and v unless it is v
      pub inside_back : (u w y v : ℕ) → w < n → y < n → inside (best m n rs) u v w ≡ true → between m (best m n rs) w y v ≡ true → (y ≡ v → ⊥) → inside (best m n rs) u v y ≡ true
      inside_back u w y v lw ly h k nv =
          let a = inside_parts (best m n rs) u v w h in
          inside_from (best m n rs) u v y (fin.between_back m L n (best m n rs) vb self tri u w y v lw ly a.passes k)
          (λ (e : y ≡ u). a.not_first (sym (front_apart u w v a.passes (subst (λ x. between m (best m n rs) w x v ≡ true) e k)))) nv

      -- so the front part up to w has fewer sheets inside than the whole
      pub fewer_in_front : (u w v : ℕ) → w < n → inside (best m n rs) u v w ≡ true → count n (inside (best m n rs) u w) < count n (inside (best m n rs) u v)
      fewer_in_front u w v lw h = count_less n (inside (best m n rs) u w) (inside (best m n rs) u v)
          (λ y ly k. let a = inside_parts (best m n rs) u w y k in inside_front u y w v lw ly h a.passes a.not_first)
          w lw (last_not_inside (best m n rs) u w) h

      -- and so has the back part from w on
      pub fewer_at_back : (u w v : ℕ) → w < n → inside (best m n rs) u v w ≡ true → count n (inside (best m n rs) w v) < count n (inside (best m n rs) u v)
      fewer_at_back u w v lw h = count_less n (inside (best m n rs) w v) (inside (best m n rs) u v)
          (λ y ly k. let a = inside_parts (best m n rs) w v y k in inside_back u w y v lw ly h a.passes a.not_last)
          w lw (first_not_inside (best m n rs) w v) h

      -- the most senior sheet inside: both parts of the way over it are finished entries
      pub record Split (u v : ℕ) : Type 0 where
        pub over : ℕ
        pub over_below : over < n
        pub is_inside : inside (best m n rs) u v over ≡ true
        pub front_some : some m (finished m (best m n rs) u over) ≡ true
        pub front_best : finished m (best m n rs) u over ≡ best m n rs u over
        pub back_some : some m (finished m (best m n rs) over v) ≡ true
        pub back_best : finished m (best m n rs) over v ≡ best m n rs over v

      -- with some sheet inside, there is such a one
      pub split : (u v x : ℕ) → x < n → inside (best m n rs) u v x ≡ true → Split u v
      split u v x lx h = from_least (least (inside (best m n rs) u v) x h)
        where
          from_least : Least (inside (best m n rs) u v) x → Split u v
          from_least l =
              let w : ℕ = l.at in
              let within : w ≤ x = l.within in
              let lw : w < n = omega arith in
              let a = inside_parts (best m n rs) u v w l.passes in
              let whole = parts u w v a.passes in
              let sj : some m (m.join (best m n rs u w) (best m n rs w v)) ≡ true = subst (λ y. some m y ≡ true) (sym whole.1) whole.0 in
              let front : finished m (best m n rs) u w ≡ best m n rs u w = fin.finished_is m L n (best m n rs) vb self tri u w (λ e. a.not_first (sym e)) (λ y ly k. l.first y (omega arith) (inside_front u y w v lw (omega arith) l.passes k (λ e. omega arith))) in
              let back : finished m (best m n rs) w v ≡ best m n rs w v = fin.finished_is m L n (best m n rs) vb self tri w v a.not_last (λ y ly k. l.first y (omega arith) (inside_back u w y v lw (omega arith) l.passes k (λ e. omega arith))) in
              record {
                over = w;
                over_below = lw;
                is_inside = l.passes;
                front_some = subst (λ y. some m y ≡ true) (sym front) (orders.join_some_left m L (best m n rs u w) (best m n rs w v) (vb u w) (vb w v) sj);
                front_best = front;
                back_some = subst (λ y. some m y ≡ true) (sym back) (orders.join_some_right m L (best m n rs u w) (best m n rs w v) (vb u w) (vb w v) sj);
                back_best = back;
              }
