-- What a list of entries holds, read by places: a place whose keys before it are smaller decides what is held, and what is held stands at some place.
use Rattle.std.proofs.Common.{◌≡◌, ℕ, zero, suc, ◌<◌, Bool, ◌&&◌, eqb, ◌⊎◌, List, [], ◌∷◌, length, get_or, sym, refl, ◌∙◌, subst, ap₂, inl, inr, ⊎_elim, arith}
use Rattle.std.proofs.lemmas.List.{get_or_default}
use Rattle.std.proofs.lemmas.Bool.{cases_Bool, cases_lt, cond-true, cond-false, and_from, and_parts, eq-eqb, eqb-true}
use Rattle.theory.specs.declared.Entry.{Entry}
use Rattle.theory.specs.Measures.{Meaning}
use Rattle.theory.specs.Tables.{held, entry}
use Rattle.theory.specs.Order.{key, key_of}
use Rattle.tables.specs.Places.{Rising, FirstAt}

-- the entry u → v with the value x stands at place i
pub record Stands {V : Type 0} (es : List (Entry V)) (u v : ℕ) (x : V) (i : ℕ) : Type 0 where
  pub within : i < length es
  pub from_is : (d : Entry V) → (get_or es i d).from ≡ u
  pub to_is : (d : Entry V) → (get_or es i d).to ≡ v
  pub value_is : (d : Entry V) → (get_or es i d).value ≡ x

-- e is the entry u → v
abbrev is_pair : {V : Type 0} → Entry V → ℕ → ℕ → Bool
is_pair e u v = eqb e.from u && eqb e.to v

module _ {V : Type 0} (m : Meaning V) where
  -- the first entry u → v is what is held
  held_first : (es : List (Entry V)) (i : ℕ) (d : Entry V) (u v : ℕ) → i < length es → (get_or es i d).from ≡ u → (get_or es i d).to ≡ v → ((j : ℕ) → j < i → (get_or es j d).from ≡ u → (get_or es j d).to ≡ v → ⊥) → held m es u v ≡ (get_or es i d).value
  held_first [] i d u v h p q others = absurd (omega arith)
  held_first (e ∷ es) zero d u v h p q others =
      cond-true (is_pair e u v) e.value (held m es u v) (and_from (eqb e.from u) (eqb e.to v) (eq-eqb e.from u p) (eq-eqb e.to v q))
  held_first (e ∷ es) (suc i) d u v h p q others =
      ⊎_elim
      (λ t. let two = and_parts (eqb e.from u) (eqb e.to v) t in absurd (others 0 (omega arith) (eqb-true e.from u two.0) (eqb-true e.to v two.1)))
      (λ t. cond-false (is_pair e u v) e.value (held m es u v) t ∙ held_first es i d u v (omega arith) p q (λ j l. others (suc j) (omega arith)))
      (cases_Bool (is_pair e u v))

  -- in a list whose keys rise every entry is what is held
  pub held_at : (es : List (Entry V)) → Rising key_of es → (i : ℕ) (d : Entry V) (u v : ℕ) → i < length es → (get_or es i d).from ≡ u → (get_or es i d).to ≡ v → held m es u v ≡ (get_or es i d).value
  held_at es rises i d u v h p q =
      held_first es i d u v h p q
      (λ j l a b. let same : key_of (get_or es j d) ≡ key_of (get_or es i d) = ap₂ key (a ∙ sym p) (b ∙ sym q) in let less = rises j i d l h in omega arith)

  -- what is held is none, or stands at some place
  pub held_found : (es : List (Entry V)) (u v : ℕ) → (held m es u v ≡ m.none) ⊎ ((i : ℕ) × Stands es u v (held m es u v) i)
  held_found [] u v = inl refl
  held_found (e ∷ es) u v =
      ⊎_elim
      (λ t. let two = and_parts (eqb e.from u) (eqb e.to v) t in
      inr (
        0,
        record {
          within = omega arith;
          from_is = λ d. eqb-true e.from u two.0;
          to_is = λ d. eqb-true e.to v two.1;
          value_is = λ d. sym (cond-true (is_pair e u v) e.value (held m es u v) t);
        },
      ))
      (λ t. let next = cond-false (is_pair e u v) e.value (held m es u v) t in
      ⊎_elim
      (λ n. inl (next ∙ n))
      (λ found. inr (
        suc found.0,
        record {
          within = let w = found.1.within in omega arith;
          from_is = λ d. found.1.from_is d;
          to_is = λ d. found.1.to_is d;
          value_is = λ d. found.1.value_is d ∙ sym next;
        },
      ))
      (held_found es u v))
      (cases_Bool (is_pair e u v))

  -- the key of a place at which u → v stands
  pub stands_key : (es : List (Entry V)) (u v : ℕ) (x : V) (i : ℕ) (d : Entry V) → Stands es u v x i → key_of (get_or es i d) ≡ key u v
  stands_key es u v x i d at = ap₂ key (at.from_is d) (at.to_is d)

  -- without an entry u → v at the first place whose key is not below its key, none is held
  pub held_none : (es : List (Entry V)) → Rising key_of es → (u v r : ℕ) → FirstAt es (key u v) r → ((d : Entry V) → r < length es → (get_or es r d).from ≡ u → (get_or es r d).to ≡ v → ⊥) → held m es u v ≡ m.none
  held_none es rises u v r first other =
      ⊎_elim
      (λ n. n)
      (λ found.
      let i = found.0 in
      let at = found.1 in
      let d = entry u v m.none in
      let same = stands_key es u v (held m es u v) i d at in
      let in_List = at.within in
      absurd (⊎_elim
      (λ l. let less = first.before i d l in omega arith)
      (λ l. ⊎_elim
      (λ k. let less = rises r i d k in_List in let least = first.after r d (omega arith) (omega arith) in omega arith)
      (λ k.
      let P : ℕ → Type 0 = λ x. ((get_or es x d).from ≡ u) × ((get_or es x d).to ≡ v) in
      let here = subst P {x = i} {y = r} (omega arith) (at.from_is d, at.to_is d) in
      other d (omega arith) here.0 here.1)
      (cases_lt r i))
      (cases_lt i r)))
      (held_found es u v)

  -- in a list whose keys rise the entry at a place holds what is held of its pair
  pub held_by_place : (es : List (Entry V)) → Rising key_of es → (e : Entry V) (r : ℕ) → r < length es → ((d : Entry V) → e ≡ get_or es r d) → e.value ≡ held m es e.from e.to
  held_by_place es rises e r h read =
      let P : Entry V → Type 0 = λ x. x.value ≡ held m es x.from x.to in
      subst P (sym (read e)) (sym (held_at es rises r e (get_or es r e).from (get_or es r e).to h refl refl))

  -- without the entry u → v at the place that the search gives for its key, none is held
  pub held_nowhere : (es : List (Entry V)) → Rising key_of es → (u v k r : ℕ) → k ≡ key u v → FirstAt es k r → ((e : Entry V) → r < length es → e ≡ get_or es r e → e.from ≡ u → e.to ≡ v → ⊥) → held m es u v ≡ m.none
  held_nowhere es rises u v k r is_key first other =
      held_none es rises u v r (subst (λ n. FirstAt es n r) is_key first) (λ d h p q. other (get_or es r d) h (sym (get_or_default es r _ d h)) p q)
