-- The walk over two lists, front by front: what it gives of the entries still ahead, it gives of all.
use Rattle.std.proofs.Common.{◌≡◌, ℕ, zero, suc, ◌-◌, ◌<◌, ◌≤◌, ◌⊎◌, List, [], ◌∷◌, length, get_or, take, drop, ◌≢◌, sym, refl, ap, ◌∙◌, subst, inl, inr, ⊎_elim, arith}
use Rattle.std.proofs.lemmas.List.{take_all}
use Rattle.theory.specs.declared.Entry.{Entry}
use Rattle.theory.specs.Measures.{Meaning, Lawful, Value, NotWorse, pick, NoWorse}
use Rattle.tables.specs.Places.{Rising}
use Rattle.tables.specs.Walks.{Values, Match, join_at, Walkable, Walked}
use Rattle.theory.proofs.Orders as orders

-- a walk over outs and ins from x goes on as one over outs' and ins' from x'
pub record GoesOn {V : Type 0} (m : Meaning V) (outs ins : List (Entry V)) (x : V) (outs' ins' : List (Entry V)) (x' : V) : Type 0 where
  pub can : Walkable m outs ins x → Walkable m outs' ins' x'
  pub gives : Walkable m outs ins x → (r : V) → Walked m outs' ins' x' r → Walked m outs ins x r

-- a list that has a front is that front and the rest
pub front_and_rest : {V : Type 0} (es : List (Entry V)) (e : Entry V) → 0 < length es → e ≡ get_or es 0 e → es ≡ e ∷ take (length es - 1) (drop 1 es)
front_and_rest [] e h read = absurd (omega arith)
front_and_rest (x ∷ es) e h read = let n : suc (length es) - 1 ≡ length es = omega arith in rw (n, take_all (length es) es (omega arith)) (ap (λ y. y ∷ es) (sym read))

-- places behind the front of a list of values that rise
module _ {V : Type 0} (m : Meaning V) (number : Entry V → ℕ) (e : Entry V) (es : List (Entry V)) where
  rest_values : Values m (e ∷ es) → Values m es
  rest_values values i d h = values (suc i) d (omega arith)

  rest_rises : Rising number (e ∷ es) → Rising number es
  rest_rises rises i j d l h = rises (suc i) (suc j) d (omega arith) (omega arith)

  front_least : Rising number (e ∷ es) → (p : ℕ) (d : Entry V) → p < length es → number e < number (get_or es p d)
  front_least rises p d h = rises 0 (suc p) d (omega arith) (omega arith)

module _ {V : Type 0} {m : Meaning V} where
  pub on_and_on : {outs ins outs' ins' outs'' ins'' : List (Entry V)} {x x' x'' : V} → GoesOn m outs ins x outs' ins' x' → GoesOn m outs' ins' x' outs'' ins'' x'' → GoesOn m outs ins x outs'' ins'' x''
  on_and_on a b = record {
    can = λ can. b.can (a.can can);
    gives = λ can r walked. a.gives can r (b.gives (a.can can) r walked);
  }

  module _ (laws : Lawful m) where
    -- without an entry on one side there is no match
    pub walked_none : (outs ins : List (Entry V)) (x : V) → (length outs ≡ 0) ⊎ (length ins ≡ 0) → Walkable m outs ins x → Walked m outs ins x x
    walked_none outs ins x none can = record {
      is_value = can.start_is_value;
      not_worse_than_start = (orders.reflexive m laws x can.start_is_value).order;
      not_worse = λ p q d at.
          let a = at.out_within in
          let b = at.in_within in
          absurd (⊎_elim (λ e. omega arith) (λ e. omega arith) none);
      attained = inl refl;
    }

    -- the front of each list, and the rest
    module _ (f b : Entry V) (fs bs : List (Entry V)) (x : V) where
      out_walkable : Walkable m (f ∷ fs) (b ∷ bs) x → Walkable m fs (b ∷ bs) x
      out_walkable can = record {
        start_is_value = can.start_is_value;
        outs_are_values = rest_values m (λ e. e.to) f fs can.outs_are_values;
        ins_are_values = can.ins_are_values;
        outs_rise = rest_rises m (λ e. e.to) f fs can.outs_rise;
        ins_rise = can.ins_rise;
      }

      in_walkable : Walkable m (f ∷ fs) (b ∷ bs) x → Walkable m (f ∷ fs) bs x
      in_walkable can = record {
        start_is_value = can.start_is_value;
        outs_are_values = can.outs_are_values;
        ins_are_values = rest_values m (λ e. e.from) b bs can.ins_are_values;
        outs_rise = can.outs_rise;
        ins_rise = rest_rises m (λ e. e.from) b bs can.ins_rise;
      }

      module _ (can : Walkable m (f ∷ fs) (b ∷ bs) x) where
        -- an out entry below the first in entry meets none, and the other way round
        no_in : f.to < b.from → (q : ℕ) → Match (f ∷ fs) (b ∷ bs) 0 q → ⊥
        no_in less zero at = let meets = at.meets f in omega arith
        no_in less (suc q) at =
            let h = at.in_within in
            let least = front_least m (λ e. e.from) b bs can.ins_rise q f (omega arith) in
            let meets = at.meets f in
            omega arith

        no_out : b.from < f.to → (p : ℕ) → Match (f ∷ fs) (b ∷ bs) p 0 → ⊥
        no_out less zero at = let meets = at.meets f in omega arith
        no_out less (suc p) at =
            let h = at.out_within in
            let least = front_least m (λ e. e.to) f fs can.outs_rise p f (omega arith) in
            let meets = at.meets f in
            omega arith

        past_out_gives : f.to < b.from → (r : V) → Walked m fs (b ∷ bs) x r → (p q : ℕ) (d : Entry V) → Match (f ∷ fs) (b ∷ bs) p q → NotWorse m r (join_at m (f ∷ fs) (b ∷ bs) p q d)
        past_out_gives less r walked zero q d at = absurd (no_in less q at)
        past_out_gives less r walked (suc p) q d at =
            let h = at.out_within in
            walked.not_worse p q d (record { out_within = omega arith; in_within = at.in_within; meets = at.meets })

        past_in_gives : b.from < f.to → (r : V) → Walked m (f ∷ fs) bs x r → (p q : ℕ) (d : Entry V) → Match (f ∷ fs) (b ∷ bs) p q → NotWorse m r (join_at m (f ∷ fs) (b ∷ bs) p q d)
        past_in_gives less r walked p zero d at = absurd (no_out less p at)
        past_in_gives less r walked p (suc q) d at =
            let h = at.in_within in
            walked.not_worse p q d (record { out_within = at.out_within; in_within = omega arith; meets = at.meets })

        -- the fronts meet, and y is the better of x and their join
        past_both_gives : f.to ≡ b.from → (y r : V) → NoWorse m y (m.join f.value b.value) → Walked m fs bs y r → (p q : ℕ) (d : Entry V) → Match (f ∷ fs) (b ∷ bs) p q → NotWorse m r (join_at m (f ∷ fs) (b ∷ bs) p q d)
        past_both_gives same y r better walked zero zero d at =
            (orders.trans m laws (record { left = walked.is_value; right = better.left; order = walked.not_worse_than_start }) better).order
        past_both_gives same y r better walked zero (suc q) d at =
            let h = at.in_within in
            let least = front_least m (λ e. e.from) b bs can.ins_rise q d (omega arith) in
            let meets = at.meets d in
            absurd (omega arith)
        past_both_gives same y r better walked (suc p) zero d at =
            let h = at.out_within in
            let least = front_least m (λ e. e.to) f fs can.outs_rise p d (omega arith) in
            let meets = at.meets d in
            absurd (omega arith)
        past_both_gives same y r better walked (suc p) (suc q) d at =
            let h = at.out_within in
            let k = at.in_within in
            walked.not_worse p q d (record { out_within = omega arith; in_within = omega arith; meets = at.meets })

        join_value : Value m (m.join f.value b.value)
        join_value = laws.join_is_value _ _ (can.outs_are_values 0 f (omega arith)) (can.ins_are_values 0 b (omega arith))

      fronts_past_out : f.to < b.from → GoesOn m (f ∷ fs) (b ∷ bs) x fs (b ∷ bs) x
      fronts_past_out less = record {
        can = out_walkable;
        gives = λ can r walked. record {
          is_value = walked.is_value;
          not_worse_than_start = walked.not_worse_than_start;
          not_worse = past_out_gives can less r walked;
          attained = ⊎_elim
              inl
              (λ a. let at = a.2 in let h = at.out_within in inr (suc a.0, a.1, record { out_within = omega arith; in_within = at.in_within; meets = at.meets }, a.3))
              walked.attained;
        };
      }

      fronts_past_in : b.from < f.to → GoesOn m (f ∷ fs) (b ∷ bs) x (f ∷ fs) bs x
      fronts_past_in less = record {
        can = in_walkable;
        gives = λ can r walked. record {
          is_value = walked.is_value;
          not_worse_than_start = walked.not_worse_than_start;
          not_worse = past_in_gives can less r walked;
          attained = ⊎_elim
              inl
              (λ a. let at = a.2 in let h = at.in_within in inr (a.0, suc a.1, record { out_within = at.out_within; in_within = omega arith; meets = at.meets }, a.3))
              walked.attained;
        };
      }

      fronts_past_both : f.to ≡ b.from → (y : V) → y ≡ pick m x (m.join f.value b.value) → GoesOn m (f ∷ fs) (b ∷ bs) x fs bs y
      fronts_past_both same y is_pick =
          let join = m.join f.value b.value in
          let than_x : Walkable m (f ∷ fs) (b ∷ bs) x → NoWorse m y x = λ can. subst (λ z. NoWorse m z x) (sym is_pick) (orders.pick_left m laws x join can.start_is_value (join_value can)) in
          let than_join : Walkable m (f ∷ fs) (b ∷ bs) x → NoWorse m y join = λ can. subst (λ z. NoWorse m z join) (sym is_pick) (orders.pick_right m laws x join can.start_is_value (join_value can)) in
          record {
            can = λ can. record {
              start_is_value = (than_x can).left;
              outs_are_values = (out_walkable can).outs_are_values;
              ins_are_values = (in_walkable can).ins_are_values;
              outs_rise = (out_walkable can).outs_rise;
              ins_rise = (in_walkable can).ins_rise;
            };
            gives = λ can r walked. record {
              is_value = walked.is_value;
              not_worse_than_start = (orders.trans m laws (record { left = walked.is_value; right = (than_x can).left; order = walked.not_worse_than_start }) (than_x can)).order;
              not_worse = past_both_gives can same y r (than_join can) walked;
              attained = ⊎_elim
                  (λ e. ⊎_elim
                  (λ k. inl (e ∙ is_pick ∙ k))
                  (λ k. inr (0, 0, record { out_within = omega arith; in_within = omega arith; meets = λ d. same }, λ d. e ∙ is_pick ∙ k))
                  (orders.pick_either m laws x join))
                  (λ a.
                  let at = a.2 in
                  let h = at.out_within in
                  let k = at.in_within in
                  inr (suc a.0, suc a.1, record { out_within = omega arith; in_within = omega arith; meets = at.meets }, a.3))
                  walked.attained;
            };
          }

    -- a turn of the walk: the better of the best so far and the join of the fronts where these meet, and past each front that is not ahead of the other
    module _ {outs ins fs bs : List (Entry V)} {f b : Entry V} (out_is : outs ≡ f ∷ fs) (in_is : ins ≡ b ∷ bs) (x y : V) (outs' ins' : List (Entry V)) where
      pub turn : ((f.to ≡ b.from) × (y ≡ pick m x (m.join f.value b.value))) ⊎ ((f.to ≢ b.from) × (y ≡ x))
          → ((f.to ≤ b.from) × (outs' ≡ fs)) ⊎ ((b.from < f.to) × (outs' ≡ outs))
          → ((b.from ≤ f.to) × (ins' ≡ bs)) ⊎ ((f.to < b.from) × (ins' ≡ ins))
          → GoesOn m outs ins x outs' ins' y
      turn (inl best) (inl out) (inl into) = rw (out.1, into.1, out_is, in_is) (fronts_past_both f b fs bs x best.0 y best.1)
      turn (inr best) (inl out) (inl into) = absurd (best.0 (omega arith))
      turn (inr best) (inl out) (inr into) = rw (best.1, out.1, into.1, out_is, in_is) (fronts_past_out f b fs bs x into.0)
      turn (inr best) (inr out) (inl into) = rw (best.1, out.1, into.1, out_is, in_is) (fronts_past_in f b fs bs x out.0)
      turn (inl best) (inl out) (inr into) = absurd (omega arith)
      turn (inl best) (inr out) into = absurd (omega arith)
      turn (inr best) (inr out) (inr into) = absurd (omega arith)
