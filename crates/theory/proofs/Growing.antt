-- The new entries of a root: each of the two searches gives a run in order, the table with both runs put in is the table after the root,
-- and it is as long as the three together.
use Rattle.std.proofs.Common.{◌≡◌, ℕ, zero, suc, ◌+◌, ◌*◌, ◌<◌, ◌≤◌, min, Bool, true, false, cond, ◌&&◌, eqb, ltb, ◌⊎◌, List, [], ◌∷◌, length, get_or, sym, refl, ap, ◌∙◌, subst, inl, inr, ⊎_elim, arith}
use Rattle.std.proofs.lemmas.Bool.{cases_Bool, cond_both, cond-true, cond-false, and_parts, and_from, eqb-true, eq-eqb, ltb-true, lt-ltb, cases_eq, cases_lt}
use Rattle.theory.specs.declared.Redraw.{Redraw}
use Rattle.theory.specs.declared.Entry.{Entry}
use Rattle.theory.specs.declared.Way.{Way}
use Rattle.theory.specs.declared.Way.TheVariants.{Out, In}
use Rattle.theory.specs.Measures.{Meaning, Lawful, Value, some}
use Rattle.theory.specs.Chains.{Among, Register, best}
use Rattle.theory.specs.Tables.{Table, entry, pairs, entries_at, finished, rooted, listed, held}
use Rattle.theory.specs.Order.{key_of, LawfulEntry, Sorted, overlaid}
use Rattle.theory.specs.Searches.{facing, facing_redraws, facing_table, new_entry, fresh_at, fresh_below, Nearest, Underway, Run}
use Rattle.theory.proofs.Orders as orders
use Rattle.theory.proofs.Best as bests
use Rattle.theory.proofs.Finished as fin
use Rattle.theory.proofs.Roots as roots
use Rattle.theory.proofs.Listings as listings
use Rattle.theory.proofs.SortedTables as sorted
use Rattle.theory.proofs.Members.{Rising, rising_append, among_left, among_right, among_cases}
use Rattle.theory.proofs.Facing as facings
use Rattle.theory.proofs.Searching as searching

-- the sheet of a new entry is its junior end
new_key : {V : Type 0} (way : Way) (r t : ℕ) (a : V) → r < t → t < 65536 → (t * 131072 ≤ key_of (new_entry way r t a)) × (key_of (new_entry way r t a) < t * 131072 + 131072)
new_key Out r t a l lt = let e = sorted.key_in r t (omega arith) in (omega (arith, e), omega (arith, e))
new_key In r t a l lt = let e = sorted.key_out t r l in (omega (arith, e), omega (arith, e))

module _ {V : Type 0} (m : Meaning V) (way : Way) (r : ℕ) (w : List V) (marks : List ℕ) where
  -- t is a relaxed sheet junior to the root
  abbrev pub Found : ℕ → Type 0
  Found t = (r < t) × (get_or marks t 1 ≡ 2)

  abbrev pub new_at : ℕ → Entry V
  new_at t = new_entry way r t (get_or w t m.none)

  abbrev one : ℕ → List (Entry V)
  one t = fresh_at m way r w marks t

  one_among : (t : ℕ) (e : Entry V) → Among e (one t) → Found t × (new_at t ≡ e)
  one_among t e a = ⊎_elim
      (λ (h : (ltb r t && eqb (get_or marks t 1) 2) ≡ true).
      let p = and_parts (ltb r t) (eqb (get_or marks t 1) 2) h in
      ((ltb-true r t p.0, eqb-true (get_or marks t 1) 2 p.1), ⊎_elim (λ q. q) absurd (subst (Among e) (cond-true (ltb r t && eqb (get_or marks t 1) 2) (new_at t ∷ []) [] h) a)))
      (λ (h : (ltb r t && eqb (get_or marks t 1) 2) ≡ false). absurd (subst (Among e) (cond-false (ltb r t && eqb (get_or marks t 1) 2) (new_at t ∷ []) [] h) a))
      (cases_Bool (ltb r t && eqb (get_or marks t 1) 2))

  pub fresh_among : (k : ℕ) (e : Entry V) → Among e (fresh_below m way r w marks k) → (t : ℕ) × (t < k) × Found t × (new_at t ≡ e)
  fresh_among zero e a = absurd a
  fresh_among (suc k) e a = ⊎_elim
      (λ (b : Among e (fresh_below m way r w marks k)). let o = fresh_among k e b in (o.0, (let l : o.0 < k = o.1 in omega arith), o.2, o.3))
      (λ (b : Among e (one k)). let o = one_among k e b in (k, omega arith, o.0, o.1))
      (among_cases e (fresh_below m way r w marks k) (one k) a)

  pub among_fresh : (k t : ℕ) → t < k → Found t → Among (new_at t) (fresh_below m way r w marks k)
  among_fresh zero t l h = absurd (omega arith)
  among_fresh (suc k) t l h = ⊎_elim
      (λ (e : t ≡ k). among_right (new_at t) (fresh_below m way r w marks k) (one k)
      (subst (λ x. Among (new_at t) (one x)) e (subst (Among (new_at t)) (sym (cond-true (ltb r t && eqb (get_or marks t 1) 2) (new_at t ∷ []) [] (and_from (ltb r t) (eqb (get_or marks t 1) 2) (lt-ltb r t h.0) (eq-eqb (get_or marks t 1) 2 h.1)))) (inl refl))))
      (λ (ne : t ≡ k → ⊥). among_left (new_at t) (fresh_below m way r w marks k) (one k) (among_fresh k t (omega arith) h))
      (cases_eq t k)

  one_rising : (b : Bool) (e : Entry V) → Rising key_of (cond b (e ∷ []) [])
  one_rising true e = ((λ y a. absurd a), tt)
  one_rising false e = tt

  pub fresh_rising : (k : ℕ) → k ≤ 65536 → Rising key_of (fresh_below m way r w marks k)
  fresh_rising zero h = tt
  fresh_rising (suc k) h = rising_append key_of (fresh_below m way r w marks k) (one k) (fresh_rising k (omega arith)) (one_rising (ltb r k && eqb (get_or marks k 1) 2) (new_at k))
      (λ x y a b.
      let o = fresh_among k x a in
      let p = one_among k y b in
      let t : ℕ = o.0 in
      let l : o.0 < k = o.1 in
      let ox = new_key way r t (get_or w t m.none) o.2.0 (omega arith) in
      let py = new_key way r k (get_or w k m.none) p.0.0 (omega arith) in
      let kx : key_of (new_at t) ≡ key_of x = ap key_of o.3 in
      let ky : key_of (new_at k) ≡ key_of y = ap key_of p.1 in
      omega (arith, ox.1, py.0, kx, ky))

not_both : (a b : Bool) → (a ≡ true → b ≡ true → ⊥) → (a && b) ≡ false
not_both true true h = absurd (h refl refl)
not_both true false h = refl
not_both false b h = refl

-- off the pairs of different sheets below n a listing holds nothing
outside : {V : Type 0} (m : Meaning V) (n : ℕ) (f : Table V) (u v : ℕ) → (u < n → v < n → (u ≡ v → ⊥) → held m (listed m n f) u v ≡ m.none) → held m (listed m n f) u v ≡ m.none
outside m n f u v h = ⊎_elim
    (λ (e : u ≡ v). listings.held_listed_off m n f u v (inl e))
    (λ (ne : u ≡ v → ⊥). ⊎_elim
    (λ (lu : u < n). ⊎_elim (λ (lv : v < n). h lu lv ne) (λ (l : n ≤ v). listings.held_listed_off m n f u v (inr (inr l))) (cases_lt v n))
    (λ (l : n ≤ u). listings.held_listed_off m n f u v (inr (inl l)))
    (cases_lt u n))
    (cases_eq u v)

-- what a table holds and the other lacks, and the other way round
module _ {V : Type 0} (m : Meaning V) where
  pub overlaid_left : (f g : Table V) (u v : ℕ) → some m (f u v) ≡ true → overlaid m f g u v ≡ f u v
  overlaid_left f g u v h = cond-true (some m (f u v)) (f u v) (g u v) h

  pub overlaid_right : (f g : Table V) (u v : ℕ) → some m (f u v) ≡ false → overlaid m f g u v ≡ g u v
  overlaid_right f g u v h = cond-false (some m (f u v)) (f u v) (g u v) h

  count : (b : Bool) (e : Entry V) (es : List (Entry V)) → length (cond b (e ∷ es) es) ≡ cond b 1 0 + length es
  count true e es = omega arith
  count false e es = omega arith

  -- tables with no pair in common: the one laid over the other is as long as both
  overlaid_entries : (f g : Table V) (ps : List (ℕ × ℕ)) → ((p : ℕ × ℕ) → Among p ps → some m (f p.0 p.1) ≡ true → some m (g p.0 p.1) ≡ false)
      → length (entries_at m (overlaid m f g) ps) ≡ length (entries_at m f ps) + length (entries_at m g ps)
  overlaid_entries f g [] h = omega arith
  overlaid_entries f g (p ∷ ps) h =
      let u : ℕ = p.0 in
      let v : ℕ = p.1 in
      let rest = overlaid_entries f g ps (λ q a. h q (inr a)) in
      let co = count (some m (overlaid m f g u v)) (entry u v (overlaid m f g u v)) (entries_at m (overlaid m f g) ps) in
      let cf = count (some m (f u v)) (entry u v (f u v)) (entries_at m f ps) in
      let cg = count (some m (g u v)) (entry u v (g u v)) (entries_at m g ps) in
      ⊎_elim
      (λ (t : some m (f u v) ≡ true).
      let bo : ◌≡◌ {A = ℕ} (cond (some m (overlaid m f g u v)) 1 0) 1 = ap {B = ℕ} (λ x. cond (some m x) 1 0) (overlaid_left f g u v t) ∙ ap {B = ℕ} (λ (x : Bool). cond x 1 0) t in
      let bf : ◌≡◌ {A = ℕ} (cond (some m (f u v)) 1 0) 1 = ap {B = ℕ} (λ (x : Bool). cond x 1 0) t in
      let bg : ◌≡◌ {A = ℕ} (cond (some m (g u v)) 1 0) 0 = ap {B = ℕ} (λ (x : Bool). cond x 1 0) (h p (inl refl) t) in
      omega (arith, rest, co, cf, cg, bo, bf, bg))
      (λ (z : some m (f u v) ≡ false).
      let bo : ◌≡◌ {A = ℕ} (cond (some m (overlaid m f g u v)) 1 0) (cond (some m (g u v)) 1 0) = ap {B = ℕ} (λ x. cond (some m x) 1 0) (overlaid_right f g u v z) in
      let bf : ◌≡◌ {A = ℕ} (cond (some m (f u v)) 1 0) 0 = ap {B = ℕ} (λ (x : Bool). cond x 1 0) z in
      omega (arith, rest, co, cf, cg, bo, bf))
      (cases_Bool (some m (f u v)))

  pub overlaid_length : (n : ℕ) (f g : Table V) → ((u v : ℕ) → u < n → v < n → (u ≡ v → ⊥) → some m (f u v) ≡ true → some m (g u v) ≡ false)
      → length (listed m n (overlaid m f g)) ≡ length (listed m n f) + length (listed m n g)
  overlaid_length n f g h = overlaid_entries f g (pairs n) (λ p a. let q = listings.pairs_among n p a in h p.0 p.1 q.0 q.1 q.2)

module _ {V : Type 0} (m : Meaning V) (L : Lawful m) (n : ℕ) (small : n ≤ 65536) (rs : List Redraw) (reg : Register n rs) (r : ℕ) (lr : r < n) where
  lawful_new : (way : Way) (t : ℕ) (a : V) → r < t → t < n → Value m a → some m a ≡ true → LawfulEntry m n (new_entry way r t a)
  lawful_new Out t a l lt va sa = record { from_below = lr; to_below = lt; differ = λ (e : r ≡ t). omega arith; is_value = va; is_some = sa }
  lawful_new In t a l lt va sa = record { from_below = lt; to_below = lr; differ = λ (e : t ≡ r). omega arith; is_value = va; is_some = sa }

  -- the values of the facing measure are those of the measure
  same_valid : (way : Way) (a : V) → (facing way m).valid a ≡ true → Value m a
  same_valid Out a h = h
  same_valid In a h = h

  same_some : (way : Way) (a : V) → some (facing way m) a ≡ true → some m a ≡ true
  same_some Out a h = h
  same_some In a h = h

  same_none : (way : Way) → (facing way m).none ≡ m.none
  same_none Out = refl
  same_none In = refl

  found_held : (way : Way) (es : List (Entry V)) (t : ℕ) (a : V) → held m es (new_entry way r t a).from (new_entry way r t a).to ≡ facing_table way (held m es) r t
  found_held Out es t a = refl
  found_held In es t a = refl

  -- an entry held for a pair stands in the list
  held_new : (way : Way) (es : List (Entry V)) (u t : ℕ) → (facing_table way (held m es) u t ≡ m.none) ⊎ Among (new_entry way u t (facing_table way (held m es) u t)) es
  held_new Out es u t = listings.held_among m es u t
  held_new In es u t = listings.held_among m es t u

  new_ends : (way : Way) (u t x y : ℕ) (a b : V) → new_entry way u t a ≡ new_entry way x y b → (u ≡ x) × (t ≡ y)
  new_ends Out u t x y a b e = (ap (λ (q : Entry V). q.from) e, ap (λ (q : Entry V). q.to) e)
  new_ends In u t x y a b e = (ap (λ (q : Entry V). q.to) e, ap (λ (q : Entry V). q.from) e)

  -- a search that is done gives the run of the root's entries that way
  pub fresh_run : (way : Way) (w : List V) (marks : List ℕ)
      → Underway (facing way m) n (facing_redraws way rs) r w marks
      → Nearest (facing way m) w marks n (Rattle.std.specs.declared.option.Option.TheVariants.None)
      → Run m n rs r way (fresh_below m way r w marks n)
  fresh_run way w marks U end =
      let F : List (Entry V) = fresh_below m way r w marks n in
      let μ = facing way m in
      let Lμ = facings.facing_lawful way m L in
      let regμ = facings.facing_register way n rs reg in
      let at_none : (t : ℕ) → get_or w t μ.none ≡ get_or w t m.none = λ t. ap (get_or w t) (same_none way) in
      let lawful : (e : Entry V) → Among e F → LawfulEntry m n e = λ e a.
      let o = fresh_among m way r w marks n e a in
      let t : ℕ = o.0 in
      let sv : some m (get_or w t m.none) ≡ true = same_some way (get_or w t m.none) (subst (λ x. some (facing way m) x ≡ true) (at_none t) (searching.finds_some μ Lμ n (facing_redraws way rs) regμ r lr w marks U end t o.2.0 o.1 o.2.1)) in
      let vv : Value m (get_or w t m.none) = same_valid way (get_or w t m.none) (subst (λ x. (facing way m).valid x ≡ true) (at_none t) (U.values t)) in
      subst (LawfulEntry m n) o.3 (lawful_new way t (get_or w t m.none) o.2.0 o.1 vv sv) in
      let order : Sorted m n F = sorted.rising_sorted m n F lawful (fresh_rising m way r w marks n small) in
      record {
        in_order = order;
        here = λ t l lt. ⊎_elim
            (λ (h : get_or marks t 1 ≡ 2).
            sym (found_held way F t (get_or w t m.none))
            ∙ sorted.sorted_held m n F (new_entry way r t (get_or w t m.none)) order (among_fresh m way r w marks n t lt (l, h))
            ∙ new_value way t (get_or w t m.none)
            ∙ sym (at_none t)
            ∙ sym (searching.finds μ Lμ n (facing_redraws way rs) regμ r lr w marks U end t l lt h)
            ∙ facings.finished_facing m way n rs r t)
            (λ (h : get_or marks t 1 ≡ 2 → ⊥). ⊎_elim
            (λ (z : facing_table way (held m F) r t ≡ m.none). z ∙ sym (same_none way) ∙ sym (searching.misses μ Lμ n (facing_redraws way rs) regμ r lr w marks U end t l lt h) ∙ facings.finished_facing m way n rs r t)
            (λ (a : Among (new_entry way r t (facing_table way (held m F) r t)) F).
            let o = fresh_among m way r w marks n (new_entry way r t (facing_table way (held m F) r t)) a in
            let q = new_ends way r o.0 r t (get_or w o.0 m.none) (facing_table way (held m F) r t) o.3 in
            absurd (h (subst (λ x. get_or marks x 1 ≡ 2) q.1 o.2.1)))
            (held_new way F r t))
            (cases_eq (get_or marks t 1) 2);
        elsewhere = λ u t h. ⊎_elim (λ z. z)
            (λ (a : Among (new_entry way u t (facing_table way (held m F) u t)) F).
            let o = fresh_among m way r w marks n (new_entry way u t (facing_table way (held m F) u t)) a in
            let q = new_ends way r o.0 u t (get_or w o.0 m.none) (facing_table way (held m F) u t) o.3 in
            absurd (h (sym q.0, subst (λ x. r < x) q.1 o.2.0)))
            (held_new way F u t);
      }
    where
      new_value : (way : Way) (t : ℕ) (a : V) → (new_entry way r t a).value ≡ a
      new_value Out t a = refl
      new_value In t a = refl

  -- the finished entries between the root and its junior sheets, one way
  part_of : Way → Table V
  part_of Out u v = cond (eqb u r && ltb r v) (finished m (best m n rs) u v) m.none
  part_of In u v = cond (eqb v r && ltb r u) (finished m (best m n rs) u v) m.none

  done_values : fin.Values m L (finished m (best m n rs))
  done_values = fin.finished_value m L n (best m n rs) (bests.best_value m L n rs reg) (bests.best_self m L n rs reg) (bests.triangle m L n rs reg)

  part_values : (way : Way) → fin.Values m L (part_of way)
  unfolding part_of
  part_values Out u v = cond_both (eqb u r && ltb r v) (finished m (best m n rs) u v) m.none (Value m) (λ _. done_values u v) (λ _. L.none_is_value)
  part_values In u v = cond_both (eqb v r && ltb r u) (finished m (best m n rs) u v) m.none (Value m) (λ _. done_values u v) (λ _. L.none_is_value)

  -- there is such a run, whether it was written or not
  pub run_exists : (way : Way) → (es : List (Entry V)) × Run m n rs r way es
  unfolding part_of
  run_exists Out = (
    listed m n (part_of Out),
    record {
      in_order = sorted.listed_sorted m n (part_of Out) small (part_values Out);
      here = λ t l lt. listings.held_listed m L n (part_of Out) r t (part_values Out) lr lt (λ e. omega arith) ∙ cond-true (eqb r r && ltb r t) (finished m (best m n rs) r t) m.none (and_from (eqb r r) (ltb r t) (eq-eqb r r refl) (lt-ltb r t l));
      elsewhere = λ u t h. outside m n (part_of Out) u t (λ lu lt ne. listings.held_listed m L n (part_of Out) u t (part_values Out) lu lt ne ∙ cond-false (eqb u r && ltb r t) (finished m (best m n rs) u t) m.none (not_both (eqb u r) (ltb r t) (λ a b. h (eqb-true u r a, ltb-true r t b))));
    },
  )
  run_exists In = (
    listed m n (part_of In),
    record {
      in_order = sorted.listed_sorted m n (part_of In) small (part_values In);
      here = λ t l lt. listings.held_listed m L n (part_of In) t r (part_values In) lt lr (λ e. omega arith) ∙ cond-true (eqb r r && ltb r t) (finished m (best m n rs) t r) m.none (and_from (eqb r r) (ltb r t) (eq-eqb r r refl) (lt-ltb r t l));
      elsewhere = λ u t h. outside m n (part_of In) t u (λ lt lu ne. listings.held_listed m L n (part_of In) t u (part_values In) lt lu ne ∙ cond-false (eqb u r && ltb r t) (finished m (best m n rs) t u) m.none (not_both (eqb u r) (ltb r t) (λ a b. h (eqb-true u r a, ltb-true r t b))));
    },
  )

  cut_values : fin.Values m L (rooted m r (best m n rs))
  cut_values = roots.rooted_value m L r (best m n rs) (bests.best_value m L n rs reg)

  module _ (outs ins : List (Entry V)) (ro : Run m n rs r Out outs) (ri : Run m n rs r In ins) where
    -- what the table holds after the root
    abbrev grown : Table V
    grown = overlaid m (held m ins) (overlaid m (held m outs) (held m (listed m n (rooted m r (best m n rs)))))

    not_some : (a : V) → a ≡ m.none → some m a ≡ false
    not_some a e = ap (some m) e ∙ orders.none_not_some m L

    held_before : (u v : ℕ) → u < n → v < n → (u ≡ v → ⊥) → held m (listed m n (rooted m r (best m n rs))) u v ≡ rooted m r (best m n rs) u v
    held_before u v lu lv ne = listings.held_listed m L n (rooted m r (best m n rs)) u v cut_values lu lv ne

    -- a pair in neither run
    kept_pair : (u v : ℕ) → u < n → v < n → (u ≡ v → ⊥) → ((u ≡ r) × (r < v) → ⊥) → ((v ≡ r) × (r < u) → ⊥) → grown u v ≡ rooted m r (best m n rs) u v
    kept_pair u v lu lv ne no-out no-in =
        overlaid_right m (held m ins) (overlaid m (held m outs) (held m (listed m n (rooted m r (best m n rs))))) u v (not_some (held m ins u v) (ri.elsewhere v u no-in))
        ∙ overlaid_right m (held m outs) (held m (listed m n (rooted m r (best m n rs)))) u v (not_some (held m outs u v) (ro.elsewhere u v no-out))
        ∙ held_before u v lu lv ne

    -- one laid over nothing
    over_none : (f g : Table V) (u v : ℕ) → Value m (f u v) → g u v ≡ m.none → overlaid m f g u v ≡ f u v
    over_none f g u v vf z = ⊎_elim
        (λ (t : some m (f u v) ≡ true). overlaid_left m f g u v t)
        (λ (h : some m (f u v) ≡ false). overlaid_right m f g u v h ∙ z ∙ sym (orders.not_some_none m L (f u v) vf h))
        (cases_Bool (some m (f u v)))

    outs_value : (u v : ℕ) → Value m (held m outs u v)
    outs_value = sorted.sorted_held_values m L n outs ro.in_order

    ins_value : (u v : ℕ) → Value m (held m ins u v)
    ins_value = sorted.sorted_held_values m L n ins ri.in_order

    pub grown_is : (u v : ℕ) → u < n → v < n → (u ≡ v → ⊥) → grown u v ≡ rooted m (suc r) (best m n rs) u v
    grown_is u v lu lv ne = ⊎_elim
        (λ (eu : u ≡ r). ⊎_elim
        (λ (l : r < v).
        subst (λ x. grown x v ≡ rooted m (suc r) (best m n rs) x v) (sym eu)
        (overlaid_right m (held m ins) (overlaid m (held m outs) (held m (listed m n (rooted m r (best m n rs))))) r v (not_some (held m ins r v) (ri.elsewhere v r (λ q. let a : v ≡ r = q.0 in omega arith)))
        ∙ over_none (held m outs) (held m (listed m n (rooted m r (best m n rs)))) r v (outs_value r v) (held_before r v lr lv (λ e. omega arith) ∙ roots.rooted_out m L r (best m n rs) r v (omega arith))
        ∙ ro.here v l lv
        ∙ sym (roots.rooted_in m L (suc r) (best m n rs) r v (omega arith))))
        (λ (l : v ≤ r). senior u v lu lv ne (omega arith))
        (cases_lt r v))
        (λ (nu : u ≡ r → ⊥). ⊎_elim
        (λ (ev : v ≡ r). ⊎_elim
        (λ (l : r < u).
        subst (λ x. grown u x ≡ rooted m (suc r) (best m n rs) u x) (sym ev)
        (over_none (held m ins) (overlaid m (held m outs) (held m (listed m n (rooted m r (best m n rs))))) u r (ins_value u r)
        (overlaid_right m (held m outs) (held m (listed m n (rooted m r (best m n rs)))) u r (not_some (held m outs u r) (ro.elsewhere u r (λ q. let a : u ≡ r = q.0 in omega arith)))
        ∙ held_before u r lu lr (λ e. omega arith) ∙ roots.rooted_out m L r (best m n rs) u r (omega arith))
        ∙ ri.here u l lu
        ∙ sym (roots.rooted_in m L (suc r) (best m n rs) u r (omega arith))))
        (λ (l : u ≤ r). senior u v lu lv ne (omega arith))
        (cases_lt r u))
        (λ (nv : v ≡ r → ⊥). ⊎_elim
        (λ (l : min u v < r). senior u v lu lv ne l)
        (λ (l : r ≤ min u v). kept_pair u v lu lv ne (λ q. nu q.0) (λ q. nv q.0) ∙ roots.rooted_out m L r (best m n rs) u v l ∙ sym (roots.rooted_out m L (suc r) (best m n rs) u v (omega arith)))
        (cases_lt (min u v) r))
        (cases_eq v r))
        (cases_eq u r)
      where
        senior : (u v : ℕ) → u < n → v < n → (u ≡ v → ⊥) → min u v < r → grown u v ≡ rooted m (suc r) (best m n rs) u v
        senior u v lu lv ne l =
            kept_pair u v lu lv ne (λ q. let a : u ≡ r = q.0 in let b : r < v = q.1 in omega arith) (λ q. let a : v ≡ r = q.0 in let b : r < u = q.1 in omega arith)
            ∙ roots.rooted_in m L r (best m n rs) u v l ∙ sym (roots.rooted_in m L (suc r) (best m n rs) u v (omega arith))

    -- what the runs hold
    pub run_out : (u v : ℕ) → some m (held m outs u v) ≡ true → (u ≡ r) × (r < v)
    run_out u v s = ⊎_elim
        (λ (e : u ≡ r). ⊎_elim (λ (l : r < v). (e, l)) (λ (l : v ≤ r). absurd (orders.some_not_none m L (held m outs u v) s (ro.elsewhere u v (λ q. let b : r < v = q.1 in omega arith)))) (cases_lt r v))
        (λ (ne : u ≡ r → ⊥). absurd (orders.some_not_none m L (held m outs u v) s (ro.elsewhere u v (λ q. ne q.0))))
        (cases_eq u r)

    pub run_in : (u v : ℕ) → some m (held m ins u v) ≡ true → (v ≡ r) × (r < u)
    run_in u v s = ⊎_elim
        (λ (e : v ≡ r). ⊎_elim (λ (l : r < u). (e, l)) (λ (l : u ≤ r). absurd (orders.some_not_none m L (held m ins u v) s (ri.elsewhere v u (λ q. let b : r < u = q.1 in omega arith)))) (cases_lt r u))
        (λ (ne : v ≡ r → ⊥). absurd (orders.some_not_none m L (held m ins u v) s (ri.elsewhere v u (λ q. ne q.0))))
        (cases_eq v r)

    -- the table after the root is as long as the table before and both runs
    pub grown_length : length (listed m n (rooted m (suc r) (best m n rs))) ≡ length (listed m n (rooted m r (best m n rs))) + length outs + length ins
    grown_length =
        let T : List (Entry V) = listed m n (rooted m r (best m n rs)) in
        let a : listed m n (rooted m (suc r) (best m n rs)) ≡ listed m n grown = listings.listed_same m n (rooted m (suc r) (best m n rs)) grown (λ u v lu lv ne. sym (grown_is u v lu lv ne)) in
        let b = overlaid_length m n (held m ins) (overlaid m (held m outs) (held m T)) (λ u v lu lv ne s. apart_ins u v lu lv ne s) in
        let c = overlaid_length m n (held m outs) (held m T) (λ u v lu lv ne s. apart_outs u v lu lv ne s) in
        let d : length (listed m n (held m ins)) ≡ length ins = ap length (sym (sorted.sorted_listed m L n ins small ri.in_order)) in
        let e : length (listed m n (held m outs)) ≡ length outs = ap length (sym (sorted.sorted_listed m L n outs small ro.in_order)) in
        let f : length (listed m n (held m T)) ≡ length T = ap length (sym (sorted.sorted_listed m L n T small (sorted.listed_sorted m n (rooted m r (best m n rs)) small cut_values))) in
        let g : length (listed m n (rooted m (suc r) (best m n rs))) ≡ length (listed m n grown) = ap length a in
        omega (arith, b, c, d, e, f, g)
      where
        apart_outs : (u v : ℕ) → u < n → v < n → (u ≡ v → ⊥) → some m (held m outs u v) ≡ true → some m (held m (listed m n (rooted m r (best m n rs))) u v) ≡ false
        apart_outs u v lu lv ne s =
            let o = run_out u v s in
            let a : u ≡ r = o.0 in
            let b : r < v = o.1 in
            not_some (held m (listed m n (rooted m r (best m n rs))) u v) (held_before u v lu lv ne ∙ roots.rooted_out m L r (best m n rs) u v (omega arith))

        apart_ins : (u v : ℕ) → u < n → v < n → (u ≡ v → ⊥) → some m (held m ins u v) ≡ true → some m (overlaid m (held m outs) (held m (listed m n (rooted m r (best m n rs)))) u v) ≡ false
        apart_ins u v lu lv ne s =
            let o = run_in u v s in
            let a : v ≡ r = o.0 in
            let b : r < u = o.1 in
            not_some (overlaid m (held m outs) (held m (listed m n (rooted m r (best m n rs)))) u v)
            (overlaid_right m (held m outs) (held m (listed m n (rooted m r (best m n rs)))) u v (not_some (held m outs u v) (ro.elsewhere u v (λ q. let c : u ≡ r = q.0 in omega arith)))
            ∙ held_before u v lu lv ne ∙ roots.rooted_out m L r (best m n rs) u v (omega arith))
