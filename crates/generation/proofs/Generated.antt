-- What is offered to the row of a junior sheet gives the generated table: the value of each pair is the best offer.
use Rattle.std.proofs.Common.{◌≡◌, ℕ, zero, suc, ◌<◌, ◌≤◌, min, Bool, cond, not, ◌&&◌, eqb, ltb, ◌⊎◌, List, get_or, replicate, sym, refl, ap, ◌∙◌, subst, ap₂, inl, inr, ⊎_elim, arith}
use Rattle.std.proofs.lemmas.List.{get_or-replicate, get_or_past, length-replicate}
use Rattle.std.proofs.Math.Bool.{and_comm}
use Rattle.std.proofs.Math.Nat.{min_comm}
use Rattle.std.proofs.lemmas.Bool.Decides.{nat_tests}
use Rattle.std.proofs.lemmas.Bool.{cases_lt, cond_both, cond-true, cond-false, and_parts, and_from, not_from_false, ne_eqb, ltb-true, lt-ltb}
use Rattle.theory.specs.declared.Redraw.{Redraw}
use Rattle.theory.specs.declared.Entry.{Entry}
use Rattle.theory.specs.declared.Way.{Way}
use Rattle.theory.specs.declared.Way.TheVariants.{Out, In}
use Rattle.theory.specs.Measures.{Meaning, Lawful, Value, NoWorse, pick, best_below}
use Rattle.theory.specs.Chains.{Among, Register, direct}
use Rattle.theory.specs.Tables.{Table, entry, held}
use Rattle.theory.specs.Order.{LawfulEntry, Sorted}
use Rattle.theory.specs.Rounds.{first_generated, generated}
use Rattle.theory.specs.Mirror.{flipped, mirror}
use Rattle.theory.specs.Searches.{facing, facing_table}
use Rattle.theory.proofs.Orders as orders
use Rattle.theory.proofs.Best as bests
use Rattle.theory.proofs.Facing as facings
use Rattle.theory.proofs.Listings as listings
use Rattle.theory.proofs.SortedTables as sorted
use Rattle.generation.specs.declared.source.Source.{Source}
use Rattle.generation.specs.declared.source.Source.TheVariants.{Redraws, Entries}
use Rattle.generation.specs.Laying.{next_generated, Relaxable, Takeable}
use Rattle.generation.specs.Offers.{near_end, far_end, redraw_entry, EntryOffers, JoinOffers, AnyOffers, PresentOffers, RowOffers, Improved, Relaxed}
use Rattle.generation.proofs.SheetLists.{list_ends, ends_list}

-- what a round can take serves to relax a row
pub relaxable : {V : Type 0} (m : Meaning V) (n : ℕ) (source : Source V) → Takeable m n source → Relaxable source
relaxable m n (Redraws rs) t = tt
relaxable m n (Entries es) t = t.rises

-- v is the best offer: not worse than any, and none or one of them
pub record BestOffer {V : Type 0} (m : Meaning V) (offers : V → Type 0) (v : V) : Type 0 where
  pub is_value : Value m v
  pub least : (a : V) → offers a → NoWorse m v a
  pub attained : (v ≡ m.none) ⊎ offers v

-- there is only one
pub best_offer_is : {V : Type 0} (m : Meaning V) → Lawful m → (offers : V → Type 0) (a b : V) → BestOffer m offers a → BestOffer m offers b → a ≡ b
best_offer_is m L offers a b A B = orders.antisym m L
    (⊎_elim (λ (z : b ≡ m.none). subst (NoWorse m a) (sym z) (orders.le_none m L a A.is_value)) (λ (o : offers b). A.least b o) B.attained)
    (⊎_elim (λ (z : a ≡ m.none). subst (NoWorse m b) (sym z) (orders.le_none m L b B.is_value)) (λ (o : offers a). B.least a o) A.attained)

-- it is the same for a row that looks the other way
pub best_offer_facing : {V : Type 0} (m : Meaning V) (way : Way) (offers : V → Type 0) (v : V) → BestOffer (facing way m) offers v → BestOffer m offers v
best_offer_facing m Out offers v B = B
best_offer_facing m In offers v B = record {
  is_value = B.is_value;
  least = λ a o. let h = B.least a o in record { left = h.left; right = h.right; order = h.order };
  attained = B.attained;
}

-- a blank strip with what is offered holds the best offers
pub best_offers : {V : Type 0} (m : Meaning V) (n : ℕ) (offers : ℕ → V → Type 0) (work : List V) → Improved m offers (replicate n m.none) work → (s : ℕ) → s < n → BestOffer m (offers s) (get_or work s m.none)
best_offers m n offers work I s l = record {
  is_value = (I.than_before s).left;
  least = λ a o. I.than_offers s a o (let e = length-replicate n m.none in omega arith);
  attained = ⊎_elim (λ (e : get_or work s m.none ≡ get_or (replicate n m.none) s m.none). inl (e ∙ get_or-replicate n s m.none m.none l)) inr (I.attained s);
}

-- the first round: the best of the redraws between two sheets
module _ {V : Type 0} (m : Meaning V) (L : Lawful m) (n : ℕ) (rs : List Redraw) (reg : Register n rs) where
  direct_least : (r : Redraw) (u v : ℕ) (a : V) → Among r rs → r.from ≡ u → r.to ≡ v → a ≡ m.worth r → NoWorse m (direct m rs u v) a
  direct_least r u v a w e f is = subst (NoWorse m (direct m rs u v)) (sym is) (subst (λ x. NoWorse m (direct m rs x v) (m.worth r)) e (subst (λ x. NoWorse m (direct m rs r.from x) (m.worth r)) f (bests.direct_le m L n rs reg r w)))

  direct_best : (way : Way) (j s : ℕ) → s < j → BestOffer m (AnyOffers (λ r. EntryOffers way j (redraw_entry m r)) rs s) (facing_table way (direct m rs) j s)
  direct_best Out j s l = record {
    is_value = bests.direct_value m L n rs reg j s;
    least = λ a o. direct_least o.0 j s a o.1 o.2.0 o.2.1 o.2.3;
    attained = ⊎_elim inl (λ (w : (r : Redraw) × Among r rs × (r.from ≡ j) × (r.to ≡ s) × (direct m rs j s ≡ m.worth r)). inr (w.0, w.1, (w.2, w.3, l, w.4))) (bests.direct_one m L rs j s);
  }
  direct_best In j s l = record {
    is_value = bests.direct_value m L n rs reg s j;
    least = λ a o. direct_least o.0 s j a o.1 o.2.1 o.2.0 o.2.3;
    attained = ⊎_elim inl (λ (w : (r : Redraw) × Among r rs × (r.from ≡ s) × (r.to ≡ j) × (direct m rs s j ≡ m.worth r)). inr (w.0, w.1, (w.3, w.2, l, w.4))) (bests.direct_one m L rs s j);
  }

  first_is : (way : Way) (j s : ℕ) → s < j → facing_table way (first_generated m rs) j s ≡ facing_table way (direct m rs) j s
  first_is Out j s l = cond-false (eqb j s) m.none (direct m rs j s) (ne_eqb j s (λ e. omega arith))
  first_is In j s l = cond-false (eqb s j) m.none (direct m rs s j) (ne_eqb s j (λ e. omega arith))

  pub first_best : (way : Way) (j s : ℕ) → s < j → BestOffer m (AnyOffers (λ r. EntryOffers way j (redraw_entry m r)) rs s) (facing_table way (first_generated m rs) j s)
  first_best way j s l = subst (BestOffer m (AnyOffers (λ r. EntryOffers way j (redraw_entry m r)) rs s)) (sym (first_is way j s l)) (direct_best way j s l)

-- a join through w counts if w is different from both ends and junior to one
abbrev through : {V : Type 0} → Meaning V → Table V → ℕ → ℕ → ℕ → V
through m f u v w = cond ((not (eqb w u) && not (eqb w v)) && ltb (min u v) w) (m.join (f u w) (f w v)) m.none

eqb_flip : (a b : ℕ) → eqb a b ≡ eqb b a
eqb_flip a b = grind (arith, nat_tests)

module _ {V : Type 0} (m : Meaning V) where
  best_below_mirror : (k : ℕ) (f g : ℕ → V) → ((w : ℕ) → f w ≡ g w) → best_below m k f ≡ best_below (mirror m) k g
  best_below_mirror zero f g e = refl
  best_below_mirror (suc k) f g e = ap₂ (pick m) (best_below_mirror k f g e) (e k)

  through_mirror : (f : Table V) (u v w : ℕ) → through m f v u w ≡ through (mirror m) (flipped f) u v w
  through_mirror f u v w = ap₂ (λ (x : Bool) (y : ℕ). cond (x && ltb y w) (m.join (f v w) (f w u)) m.none) (and_comm (not (eqb w v)) (not (eqb w u))) (min_comm v u)

  -- either way the table is generated alike
  generated_facing : (way : Way) (n : ℕ) (f : Table V) (u v : ℕ) → facing_table way (generated m n f) u v ≡ generated (facing way m) n (facing_table way f) u v
  generated_facing Out n f u v = refl
  generated_facing In n f u v = ap₂ (λ (x : Bool) y. cond x m.none (pick m (f v u) y)) (eqb_flip v u) (best_below_mirror n (through m f v u) (through (mirror m) (flipped f) u v) (through_mirror f u v))

-- a later round: the best of the present entries and their joins
module _ {V : Type 0} (m : Meaning V) (L : Lawful m) (n : ℕ) (small : n ≤ 65536) (es : List (Entry V)) (S : Sorted m n es) where
  may : (e : Entry V) → Among e es → LawfulEntry m n e
  may e a = sorted.sorted_among m n es e S a

  -- an entry stands in the table that a row sees, and what that table holds is none or an entry
  seen_value : (way : Way) (u v : ℕ) → Value (facing way m) (facing_table way (held m es) u v)
  seen_value Out u v = sorted.sorted_held_values m L n es S u v
  seen_value In u v = sorted.sorted_held_values m L n es S v u

  seen_entry : (way : Way) (e : Entry V) (u v : ℕ) → Among e es → near_end way e ≡ u → far_end way e ≡ v → facing_table way (held m es) u v ≡ e.value
  seen_entry Out e u v a p q = sym (ap₂ (held m es) p q) ∙ sorted.sorted_held m n es e S a
  seen_entry In e u v a p q = sym (ap₂ (held m es) q p) ∙ sorted.sorted_held m n es e S a

  seen_found : (way : Way) (u v : ℕ) → (facing_table way (held m es) u v ≡ (facing way m).none) ⊎ ((e : Entry V) × Among e es × (near_end way e ≡ u) × (far_end way e ≡ v) × (facing_table way (held m es) u v ≡ e.value))
  seen_found Out u v = ⊎_elim inl (λ (a : Among (entry u v (held m es u v)) es). inr (entry u v (held m es u v), a, refl, refl, refl)) (listings.held_among m es u v)
  seen_found In u v = ⊎_elim inl (λ (a : Among (entry v u (held m es v u)) es). inr (entry v u (held m es v u), a, refl, refl, refl)) (listings.held_among m es v u)

  ends_below : (way : Way) (e : Entry V) → Among e es → (near_end way e < n) × (far_end way e < n) × (near_end way e ≡ far_end way e → ⊥)
  ends_below Out e a = let h = may e a in (h.from_below, h.to_below, h.differ)
  ends_below In e a = let h = may e a in (h.to_below, h.from_below, λ p. h.differ (sym p))

  module _ (way : Way) (j s : ℕ) (senior : s < j) (below : j < n) where
    abbrev μ : Meaning V
    μ = facing way m

    abbrev F : Table V
    F = facing_table way (held m es)

    Lμ : Lawful (facing way m)
    Lμ = facings.facing_lawful way m L

    abbrev best_join : V
    best_join = best_below μ n (through μ F j s)

    through_value : (w : ℕ) → Value μ (through μ F j s w)
    through_value w = cond_both ((not (eqb w j) && not (eqb w s)) && ltb (min j s) w) (μ.join (F j w) (F w s)) μ.none (Value μ) (λ _. orders.join_value μ Lμ (seen_value way j w) (seen_value way w s)) (λ _. Lμ.none_is_value)

    best_join_value : Value μ best_join
    best_join_value = orders.best_below_value μ Lμ n (through μ F j s) through_value

    generated_is : generated μ n F j s ≡ pick μ (F j s) best_join
    generated_is = cond-false (eqb j s) μ.none (pick μ (F j s) best_join) (ne_eqb j s (λ e. omega arith))

    -- a sheet junior to s other than j counts
    through_is : (w : ℕ) → s < w → (w ≡ j → ⊥) → through μ F j s w ≡ μ.join (F j w) (F w s)
    through_is w l ne = cond-true ((not (eqb w j) && not (eqb w s)) && ltb (min j s) w) (μ.join (F j w) (F w s)) μ.none
        (and_from (not (eqb w j) && not (eqb w s)) (ltb (min j s) w)
        (and_from (not (eqb w j)) (not (eqb w s)) (not_from_false (eqb w j) (ne_eqb w j ne)) (not_from_false (eqb w s) (ne_eqb w s (λ e. omega arith))))
        (lt-ltb (min j s) w (omega arith)))

    -- no present entry is better
    than_entry : (e : Entry V) (a : V) → Among e es → EntryOffers way j e s a → NoWorse μ (pick μ (F j s) best_join) a
    than_entry e a w o = subst (NoWorse μ (pick μ (F j s) best_join)) (seen_entry way e j s w o.0 o.1 ∙ sym o.3) (orders.pick_left μ Lμ (F j s) best_join (seen_value way j s) best_join_value)

    -- no join is better
    than_join : (e x : Entry V) (a : V) → Among e es → near_end way e ≡ j → Among x es → (near_end way x ≡ far_end way e) × (far_end way x < far_end way e) → JoinOffers m way j e.value x s a → NoWorse μ (pick μ (F j s) best_join) a
    than_join e x a w near v ends o =
        let b = ends_below way e w in
        let l : s < far_end way e = subst (λ y. y < far_end way e) o.0 ends.1 in
        let is : through μ F j s (far_end way e) ≡ a = through_is (far_end way e) l (λ q. b.2 (near ∙ sym q))
        ∙ ap₂ μ.join (seen_entry way e j (far_end way e) w near refl) (seen_entry way x (far_end way e) s v ends.0 o.0) ∙ sym o.2 in
        subst (NoWorse μ (pick μ (F j s) best_join)) is
        (orders.trans μ Lμ (orders.pick_right μ Lμ (F j s) best_join (seen_value way j s) best_join_value) (orders.best_below_le μ Lμ n (through μ F j s) through_value (far_end way e) b.1))

    abbrev Offers : V → Type 0
    Offers = AnyOffers (PresentOffers m way j es) es s

    -- the present value is none or offered
    entry_offered : (F j s ≡ μ.none) ⊎ Offers (F j s)
    entry_offered = ⊎_elim inl
        (λ (f : (e : Entry V) × Among e es × (near_end way e ≡ j) × (far_end way e ≡ s) × (F j s ≡ e.value)). inr (f.0, f.1, inl (f.2, f.3, senior, f.4)))
        (seen_found way j s)

    -- a join of two values is none or offered
    join_offered : (w : ℕ) → s < w → (μ.join (F j w) (F w s) ≡ μ.none) ⊎ Offers (μ.join (F j w) (F w s))
    join_offered w l = ⊎_elim
        (λ (z : F j w ≡ μ.none). inl (ap (λ x. μ.join x (F w s)) z ∙ Lμ.none_in_front (F w s) (seen_value way w s)))
        (λ (e : (e : Entry V) × Among e es × (near_end way e ≡ j) × (far_end way e ≡ w) × (F j w ≡ e.value)). ⊎_elim
        (λ (z : F w s ≡ μ.none). inl (ap (μ.join (F j w)) z ∙ Lμ.none_at_end (F j w) (seen_value way j w)))
        (λ (x : (x : Entry V) × Among x es × (near_end way x ≡ w) × (far_end way x ≡ s) × (F w s ≡ x.value)).
        let k = ends_list m n small x.0 (may x.0 x.1) (far_end way e.0) way (x.2 ∙ sym e.3) (subst (λ y. far_end way x.0 < y) (sym e.3) (subst (λ y. y < w) (sym x.3) l)) in
        inr (e.0, e.1, inr (e.2, (x.0, (x.1, k.0, k.1), (x.3, senior, ap₂ μ.join e.4 x.4)))))
        (seen_found way w s))
        (seen_found way j w)

    through_offered : (w : ℕ) → (through μ F j s w ≡ μ.none) ⊎ Offers (through μ F j s w)
    through_offered w = cond_both ((not (eqb w j) && not (eqb w s)) && ltb (min j s) w) (μ.join (F j w) (F w s)) μ.none (λ a. (a ≡ μ.none) ⊎ Offers a)
        (λ t.
        let h = ltb-true (min j s) w (and_parts (not (eqb w j) && not (eqb w s)) (ltb (min j s) w) t).1 in
        join_offered w (omega arith))
        (λ _. inl refl)

    best_join_offered : (best_join ≡ μ.none) ⊎ Offers best_join
    best_join_offered = ⊎_elim inl
        (λ (f : (w : ℕ) × (w < n) × (best_join ≡ through μ F j s w)). subst (λ a. (a ≡ μ.none) ⊎ Offers a) (sym f.2) (through_offered f.0))
        (orders.best_below_one μ Lμ n (through μ F j s))

    picked_best : BestOffer μ Offers (pick μ (F j s) best_join)
    picked_best = record {
      is_value = orders.pick_value μ Lμ (F j s) best_join (seen_value way j s) best_join_value;
      least = λ a o. ⊎_elim
          (λ (h : EntryOffers way j o.0 s a). than_entry o.0 a o.1 h)
          (λ h.
          let x = h.1.0 in
          let i = h.1.1 in
          than_join o.0 x a o.1 h.0 i.0 (list_ends m n small x (may x i.0) (far_end way o.0) way i.1 i.2) h.1.2)
          o.2;
      attained = ⊎_elim
          (λ (e : pick μ (F j s) best_join ≡ F j s). subst (λ a. (a ≡ μ.none) ⊎ Offers a) (sym e) entry_offered)
          (λ (e : pick μ (F j s) best_join ≡ best_join). subst (λ a. (a ≡ μ.none) ⊎ Offers a) (sym e) best_join_offered)
          (orders.pick_either μ Lμ (F j s) best_join);
    }

    pub later_best : BestOffer m (AnyOffers (PresentOffers m way j es) es s) (facing_table way (generated m n (held m es)) j s)
    later_best = best_offer_facing m way Offers (facing_table way (generated m n (held m es)) j s)
        (subst (BestOffer μ Offers) (sym (generated_facing m way n (held m es) j s ∙ generated_is)) picked_best)

-- the offers are values, and a blank strip with them holds the generated values of the row
module _ {V : Type 0} (m : Meaning V) (L : Lawful m) (n : ℕ) (small : n ≤ 65536) (way : Way) (j : ℕ) (below : j < n) where
  row_best : (source : Source V) → Takeable m n source → (s : ℕ) → s < j → BestOffer m (RowOffers m way j source s) (facing_table way (next_generated m n source) j s)
  row_best (Redraws rs) t s l = first_best m L n rs.now t way j s l
  row_best (Entries es) t s l = later_best m L n small es.now t way j s l below

  -- offers go to senior sheets
  to_senior : (source : Source V) (s : ℕ) (a : V) → RowOffers m way j source s a → s < j
  to_senior (Redraws rs) s a o = o.2.2
  to_senior (Entries es) s a o = ⊎_elim (λ (h : EntryOffers way j o.0 s a). h.2) (λ h. h.1.2.1) o.2

  pub row_values : (source : Source V) → Takeable m n source → (work start : List V) → start ≡ replicate n m.none → Relaxed m (RowOffers m way j source) start work → (s : ℕ) → s < j → get_or work s m.none ≡ facing_table way (next_generated m n source) j s
  row_values source t work start blank R s l =
      let Q : List V → Type 0 = λ xs. Relaxed m (RowOffers m way j source) xs work in
      let I = subst Q blank R L (λ u a o. ((row_best source t u (to_senior source u a o)).least a o).right) blank_values in
      best_offer_is m L (RowOffers m way j source s) (get_or work s m.none) (facing_table way (next_generated m n source) j s) (best_offers m n (RowOffers m way j source) work I s (omega arith)) (row_best source t s l)
    where
      blank_values : (t : ℕ) → Value m (get_or (replicate n m.none) t m.none)
      blank_values t = ⊎_elim
          (λ (h : t < n). subst (Value m) (sym (get_or-replicate n t m.none m.none h)) L.none_is_value)
          (λ (h : n ≤ t). subst (Value m) (sym (get_or_past (replicate n m.none) t m.none (let e = length-replicate n m.none in omega arith))) L.none_is_value)
          (cases_lt t n)
