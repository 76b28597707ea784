-- The out entries of one sheet and the in entries of another fill two parts of a table in order, and the walk over them gives the best join over the sheets senior to both.
use Rattle.std.proofs.Common.{◌≡◌, ℕ, ◌+◌, ◌-◌, ◌*◌, ◌<◌, ◌≤◌, min, ltb, List, length, get_or, sym, refl, ap, ◌∙◌, subst, ap₂, inl, inr, ⊎_elim, arith}
use Rattle.std.proofs.lemmas.List.Edits.{length-between, get_or-between}
use Rattle.std.proofs.lemmas.Bool.{cases_lt, cond-true, cond-false, lt-ltb, le-ltb}
use Rattle.theory.specs.declared.Entry.{Entry}
use Rattle.theory.specs.Measures.{Meaning, Lawful, Value, NoWorse}
use Rattle.theory.specs.Tables.{entry, held}
use Rattle.theory.specs.Order.{key, key_of, LawfulEntry, Sorted}
use Rattle.tables.specs.Places.{Rising, Part}
use Rattle.tables.specs.Walks.{Match, Walkable, Walked, over_seniors}
use Rattle.theory.proofs.Orders as orders
use Rattle.tables.proofs.Held.{Stands, held_at, held_found}

-- the key of an out pair and of an in pair
key_out : (u v : ℕ) → v < u → key u v ≡ u * 131072 + v
key_out u v h = cond-true (ltb v u) (u * 131072 + v) (v * 131072 + 65536 + u) (lt-ltb v u h)

key_in : (u v : ℕ) → u ≤ v → key u v ≡ v * 131072 + 65536 + u
key_in u v h = cond-false (ltb v u) (u * 131072 + v) (v * 131072 + 65536 + u) (le-ltb v u h)

-- which pairs have a key in the out part and in the in part of a sheet
out_key : (u v s : ℕ) → u < 65536 → v < 65536 → s * 131072 ≤ key u v → key u v < s * 131072 + 65536 → (u ≡ s) × (v < s)
out_key u v s a b low high =
    ⊎_elim
    (λ l. let k = key_out u v l in (omega arith, omega arith))
    (λ l. let k = key_in u v l in absurd (omega arith))
    (cases_lt v u)

in_key : (u v t : ℕ) → u < 65536 → v < 65536 → t * 131072 + 65536 ≤ key u v → key u v < t * 131072 + 131072 → (v ≡ t) × (u ≤ t)
in_key u v t a b low high =
    ⊎_elim
    (λ l. let k = key_out u v l in absurd (omega arith))
    (λ l. let k = key_in u v l in (omega arith, omega arith))
    (cases_lt v u)

-- a part of a table, place by place
module _ {V : Type 0} (es : List (Entry V)) (low high : ℕ) (part : List (Entry V)) (at : Part es low high part) where
  part_length : length part ≡ at.last - at.first
  part_length = ap length at.is ∙ length-between es at.first at.last at.within

  part_place : (p : ℕ) (d : Entry V) → p < length part → get_or part p d ≡ get_or es (at.first + p) d
  part_place p d h =
      let len = part_length in
      ap (λ (x : List (Entry V)). get_or x p d) at.is ∙ get_or-between es at.first at.last p d (omega arith)

  part_in_list : (p : ℕ) → p < length part → at.first + p < length es
  part_in_list p h = let len = part_length in let w = at.within in omega arith

  part_low : (p : ℕ) (d : Entry V) → p < length part → low ≤ key_of (get_or part p d)
  part_low p d h = let P : Entry V → Type 0 = λ e. low ≤ key_of e in subst P (sym (part_place p d h)) (at.begins.after (at.first + p) d (omega arith) (part_in_list p h))

  part_high : (p : ℕ) (d : Entry V) → p < length part → key_of (get_or part p d) < high
  part_high p d h =
      let len = part_length in
      let P : Entry V → Type 0 = λ e. key_of e < high in
      subst P (sym (part_place p d h)) (at.ends.before (at.first + p) d (omega arith))

  part_rises : Rising key_of es → Rising key_of part
  part_rises rises i j d l h =
      let up = rises (at.first + i) (at.first + j) d (omega arith) (part_in_list j h) in
      let a = ap (λ (e : Entry V). key_of e) (part_place i d (omega arith)) in
      let b = ap (λ (e : Entry V). key_of e) (part_place j d h) in
      omega arith

  -- an entry whose key lies between the bounds stands in the part
  part_has : (u v : ℕ) (x : V) (i : ℕ) (d : Entry V) → Stands es u v x i → low ≤ key u v → key u v < high → (p : ℕ) × Stands part u v x p
  part_has u v x i d stands a b =
      let len = part_length in
      let k = ap₂ key (stands.from_is d) (stands.to_is d) in
      let listed = stands.within in
      let after : at.first ≤ i = ⊎_elim (λ l. let less = at.begins.before i d l in absurd (omega arith)) (λ l. l) (cases_lt i at.first) in
      let before : i < at.last = ⊎_elim (λ l. l) (λ l. let more = at.ends.after i d l listed in absurd (omega arith)) (cases_lt i at.last) in
      let p : ℕ = i - at.first in
      let inside : p < length part = omega arith in
      let same : (e : Entry V) → get_or part p e ≡ get_or es i e = λ e. part_place p e inside ∙ ap (λ n. get_or es n e) (omega arith) in (
        p,
        record {
          within = inside;
          from_is = λ e. ap (λ (y : Entry V). y.from) (same e) ∙ stands.from_is e;
          to_is = λ e. ap (λ (y : Entry V). y.to) (same e) ∙ stands.to_is e;
          value_is = λ e. ap (λ (y : Entry V). y.value) (same e) ∙ stands.value_is e;
        },
      )

module _ {V : Type 0} {m : Meaning V} (laws : Lawful m) (es : List (Entry V)) (n : ℕ) (few : n ≤ 65536) (sorted : Sorted m n es) where
  -- a table in order holds values
  pub held_value : (u v : ℕ) → Value m (held m es u v)
  held_value u v =
      let P : V → Type 0 = λ x. Value m x in
      ⊎_elim
      (λ e. subst P (sym e) laws.none_is_value)
      (λ found. let d = entry 0 0 m.none in subst P (found.1.value_is d) (sorted.each found.0 d found.1.within).is_value)
      (held_found m es u v)

  -- an entry of a part is one that the table may hold
  part_entry : (low high : ℕ) (part : List (Entry V)) → Part es low high part → (p : ℕ) (d : Entry V) → p < length part → LawfulEntry m n (get_or part p d)
  part_entry low high part at p d h =
      let P : Entry V → Type 0 = λ e. LawfulEntry m n e in
      subst P (sym (part_place es low high part at p d h)) (sorted.each (at.first + p) d (part_in_list es low high part at p h))

  -- and its value is what the table holds
  part_held : (low high : ℕ) (part : List (Entry V)) → Part es low high part → (p : ℕ) (d : Entry V) (u v : ℕ) → p < length part → (get_or part p d).from ≡ u → (get_or part p d).to ≡ v → (get_or part p d).value ≡ held m es u v
  part_held low high part at p d u v h a b =
      let same = part_place es low high part at p d h in
      ap (λ (e : Entry V). e.value) same
      ∙ sym (held_at m es sorted.rises (at.first + p) d u v (part_in_list es low high part at p h) (ap (λ (e : Entry V). e.from) (sym same) ∙ a) (ap (λ (e : Entry V). e.to) (sym same) ∙ b))

  -- the out entries of s and the in entries of t
  module _ (s t : ℕ) (outs ins : List (Entry V)) (out_part : Part es (s * 131072) (s * 131072 + 65536) outs) (in_part : Part es (t * 131072 + 65536) (t * 131072 + 131072) ins) where
    out_pair : (p : ℕ) (d : Entry V) → p < length outs → ((get_or outs p d).from ≡ s) × ((get_or outs p d).to < s)
    out_pair p d h =
        let may = part_entry _ _ outs out_part p d h in
        let a = may.from_below in
        let b = may.to_below in
        out_key (get_or outs p d).from (get_or outs p d).to s (omega arith) (omega arith) (part_low es _ _ outs out_part p d h) (part_high es _ _ outs out_part p d h)

    in_pair : (q : ℕ) (d : Entry V) → q < length ins → ((get_or ins q d).to ≡ t) × ((get_or ins q d).from < t)
    in_pair q d h =
        let may = part_entry _ _ ins in_part q d h in
        let a = may.from_below in
        let b = may.to_below in
        let k = in_key (get_or ins q d).from (get_or ins q d).to t (omega arith) (omega arith) (part_low es _ _ ins in_part q d h) (part_high es _ _ ins in_part q d h) in
        let apart = may.differ in
        (k.0, omega arith)

    parts_walkable : Walkable m outs ins m.none
    parts_walkable = record {
      start_is_value = laws.none_is_value;
      outs_are_values = λ i d h. (part_entry _ _ outs out_part i d h).is_value;
      ins_are_values = λ i d h. (part_entry _ _ ins in_part i d h).is_value;
      outs_rise = λ i j d l h.
          let up = part_rises es _ _ outs out_part sorted.rises i j d l h in
          let a = out_pair i d (omega arith) in
          let b = out_pair j d h in
          let x = key_out (get_or outs i d).from (get_or outs i d).to (omega arith) in
          let y = key_out (get_or outs j d).from (get_or outs j d).to (omega arith) in
          omega arith;
      ins_rise = λ i j d l h.
          let up = part_rises es _ _ ins in_part sorted.rises i j d l h in
          let a = in_pair i d (omega arith) in
          let b = in_pair j d h in
          let x = key_in (get_or ins i d).from (get_or ins i d).to (omega arith) in
          let y = key_in (get_or ins j d).from (get_or ins j d).to (omega arith) in
          omega arith;
    }

    -- the join over a sheet senior to both is none, or that of a match
    than_join : (r : V) → Walked m outs ins m.none r → (w : ℕ) → w < min s t → NoWorse m r (m.join (held m es s w) (held m es w t))
    than_join r walked w senior =
        let d = entry 0 0 m.none in
        let P : V → Type 0 = λ x. NoWorse m r x in
        let worst = orders.le_none m laws r walked.is_value in
        ⊎_elim
        (λ e. subst P (sym (ap (λ (x : V). m.join x (held m es w t)) e ∙ laws.none_in_front _ (held_value w t))) worst)
        (λ first. ⊎_elim
        (λ e. subst P (sym (ap (m.join (held m es s w)) e ∙ laws.none_at_end _ (held_value s w))) worst)
        (λ second.
        let x = key_out s w (omega arith) in
        let y = key_in w t (omega arith) in
        let below = (sorted.each first.0 d first.1.within).to_below in
        let is_w = first.1.to_is d in
        let out = part_has es _ _ outs out_part s w (held m es s w) first.0 d first.1 (omega arith) (omega arith) in
        let into = part_has es _ _ ins in_part w t (held m es w t) second.0 d second.1 (omega arith) (omega arith) in
        let meeting : Match outs ins out.0 into.0 = record {
          out_within = out.1.within;
          in_within = into.1.within;
          meets = λ e. out.1.to_is e ∙ sym (into.1.from_is e);
        } in
        let same = ap₂ m.join (out.1.value_is d) (into.1.value_is d) in
        subst P same (record {
          left = walked.is_value;
          right = subst (Value m) (sym same) (laws.join_is_value _ _ (held_value s w) (held_value w t));
          order = walked.not_worse out.0 into.0 d meeting;
        }))
        (held_found m es w t))
        (held_found m es s w)

    walked_best : (r : V) → Walked m outs ins m.none r → r ≡ over_seniors m (held m es) s t
    walked_best r walked =
        let d = entry 0 0 m.none in
        orders.best_below_is m laws (min s t) (λ w. m.join (held m es s w) (held m es w t))
        (λ w. laws.join_is_value _ _ (held_value s w) (held_value w t))
        r walked.is_value (than_join r walked)
        (⊎_elim
        inl
        (λ at.
        let p = at.0 in
        let q = at.1 in
        let meeting = at.2 in
        let a = out_pair p d meeting.out_within in
        let b = in_pair q d meeting.in_within in
        let meets = meeting.meets d in
        inr (
          (get_or outs p d).to,
          omega arith,
          at.3 d ∙ ap₂ m.join
              (part_held _ _ outs out_part p d s (get_or outs p d).to meeting.out_within a.0 refl)
              (part_held _ _ ins in_part q d (get_or outs p d).to t meeting.in_within (sym meets) b.0),
        ))
        walked.attained)

    -- what the walk from none promises of its answer
    pub walk_over_seniors : (start r : V) → start ≡ m.none → (Walkable m outs ins start → Walked m outs ins start r) → r ≡ over_seniors m (held m es) s t
    walk_over_seniors start r is_none promise =
        let P : V → Type 0 = λ x. Walkable m outs ins x → Walked m outs ins x r in
        walked_best r (subst P is_none promise parts_walkable)
