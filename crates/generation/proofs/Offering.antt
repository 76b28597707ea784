-- What offers do to the work strip: none, one, some after others, those of a list member by member.
use Rattle.std.proofs.Common.{◌≡◌, ℕ, ◌+◌, ◌<◌, ◌≤◌, ◌&&◌, eqb, ltb, ◌⊎◌, List, [], ◌∷◌, length, get_or, take, set, sym, refl, ap, ◌∙◌, subst, inl, inr, ⊎_elim, arith}
use Rattle.std.proofs.lemmas.List.{length-set, set_past, get_or-set_same, get_or-set_other, get_or_default, take_more, take_all}
use Rattle.std.proofs.lemmas.Bool.{cases_eq, cases_lt, cond_both, both_ways, and_parts, and_from, eqb-true, eq-eqb, ltb-true, lt-ltb}
use Rattle.theory.specs.declared.Redraw.{Redraw}
use Rattle.theory.specs.declared.Entry.{Entry}
use Rattle.theory.specs.declared.Way.{Way}
use Rattle.theory.specs.Measures.{Meaning, Lawful, Value, NoWorse}
use Rattle.theory.specs.Chains.{Among}
use Rattle.theory.specs.Searches.{facing}
use Rattle.theory.proofs.Orders as orders
use Rattle.theory.proofs.Members.{among_left, among_right, among_cases}
use Rattle.tables.specs.Places.{Part}
use Rattle.tables.specs.SheetLists.{list_begin, list_end}
use Rattle.generation.specs.Offers.{near_end, far_end, redraw_entry, offered, relaxed_entry, relaxed_join, EntryOffers, JoinOffers, AnyOffers, InList, PresentOffers, Improved, Relaxed}
use Rattle.generation.proofs.SheetLists.{part_from, part_to}

module _ {V : Type 0} (m : Meaning V) where
  -- nothing is offered
  relaxed_none : (P : ℕ → V → Type 0) (xs : List V) → ((s : ℕ) (a : V) → P s a → ⊥) → Relaxed m P xs xs
  relaxed_none P xs nothing L vp vx = record {
    long = refl;
    than_before = λ s. orders.reflexive m L (get_or xs s m.none) (vx s);
    than_offers = λ s a p l. absurd (nothing s a p);
    attained = λ s. inl refl;
  }

  -- one offer
  module _ (P : ℕ → V → Type 0) (s : ℕ) (a : V) (xs : List V) (here : P s a) (only : (t : ℕ) (b : V) → P t b → (t ≡ s) × (b ≡ a)) (L : Lawful m) (va : Value m a) (vx : (t : ℕ) → Value m (get_or xs t m.none)) where
    -- the place is not worse already
    refused : (s < length xs → NoWorse m (get_or xs s m.none) a) → Improved m P xs xs
    refused le = record {
      long = refl;
      than_before = λ t. orders.reflexive m L (get_or xs t m.none) (vx t);
      than_offers = λ t b p l.
          let e = only t b p in
          let same : t ≡ s = e.0 in
          subst (λ x. NoWorse m (get_or xs t m.none) x) (sym e.1) (subst (λ x. NoWorse m (get_or xs x m.none) a) (sym same) (le (omega arith)));
      attained = λ t. inl refl;
    }

    -- the offer takes the place
    taken : s < length xs → NoWorse m a (get_or xs s m.none) → Improved m P xs (set xs s a)
    taken l le = record {
      long = length-set xs s a;
      than_before = λ t. ⊎_elim
          (λ (e : t ≡ s). subst (λ x. NoWorse m (get_or (set xs s a) x m.none) (get_or xs x m.none)) (sym e) (subst (λ x. NoWorse m x (get_or xs s m.none)) (sym at_s) le))
          (λ (ne : t ≡ s → ⊥). subst (λ x. NoWorse m x (get_or xs t m.none)) (sym (get_or-set_other xs s t a m.none ne)) (orders.reflexive m L (get_or xs t m.none) (vx t)))
          (cases_eq t s);
      than_offers = λ t b p h.
          let e = only t b p in
          subst (λ x. NoWorse m (get_or (set xs s a) t m.none) x) (sym e.1) (subst (λ x. NoWorse m (get_or (set xs s a) x m.none) a) (sym e.0) (orders.from_eq m L (get_or (set xs s a) s m.none) a (subst (Value m) (sym at_s) va) at_s));
      attained = λ t. ⊎_elim
          (λ (e : t ≡ s). inr (subst (λ x. P x (get_or (set xs s a) x m.none)) (sym e) (subst (P s) (sym at_s) here)))
          (λ (ne : t ≡ s → ⊥). inl (get_or-set_other xs s t a m.none ne))
          (cases_eq t s);
    }
      where
        at_s : get_or (set xs s a) s m.none ≡ a
        at_s = get_or-set_same xs s a m.none l

    improved_one : Improved m P xs (offered m s a xs)
    improved_one = ⊎_elim
        (λ (l : s < length xs).
        let same = get_or_default xs s a m.none l in
        cond_both (m.better a (get_or xs s a)) (set xs s a) xs (Improved m P xs)
        (λ t. taken l (orders.better_le m L a (get_or xs s m.none) va (vx s) (ap (m.better a) (sym same) ∙ t)))
        (λ f. refused (λ _. record { left = vx s; right = va; order = ap (m.better a) (sym same) ∙ f })))
        (λ (l : length xs ≤ s).
        cond_both (m.better a (get_or xs s a)) (set xs s a) xs (Improved m P xs)
        (λ _. subst (Improved m P xs) (sym (set_past xs s a l)) (refused (λ h. absurd (omega arith))))
        (λ _. refused (λ h. absurd (omega arith))))
        (cases_lt s (length xs))

  relaxed_one : (P : ℕ → V → Type 0) (s : ℕ) (a : V) (xs : List V) → P s a → ((t : ℕ) (b : V) → P t b → (t ≡ s) × (b ≡ a)) → Relaxed m P xs (offered m s a xs)
  relaxed_one P s a xs here only L vp vx = improved_one P s a xs here only L (vp s a here) vx

  -- some after others
  relaxed_then : (P Q R : ℕ → V → Type 0) (xs ys zs : List V) → ((s : ℕ) (a : V) → P s a → R s a) → ((s : ℕ) (a : V) → Q s a → R s a) → ((s : ℕ) (a : V) → R s a → P s a ⊎ Q s a) → Relaxed m P xs ys → Relaxed m Q ys zs → Relaxed m R xs zs
  relaxed_then P Q R xs ys zs p q r one two L vr vx =
      let I = one L (λ s a h. vr s a (p s a h)) vx in
      let J = two L (λ s a h. vr s a (q s a h)) (λ s. (I.than_before s).left) in
      record {
        long = J.long ∙ I.long;
        than_before = λ s. orders.trans m L (J.than_before s) (I.than_before s);
        than_offers = λ s a h l. ⊎_elim
            (λ (k : P s a). orders.trans m L (J.than_before s) (I.than_offers s a k l))
            (λ (k : Q s a). J.than_offers s a k (let e = I.long in omega arith))
            (r s a h);
        attained = λ s. ⊎_elim
            (λ (e : get_or zs s m.none ≡ get_or ys s m.none). ⊎_elim
            (λ (f : get_or ys s m.none ≡ get_or xs s m.none). inl (e ∙ f))
            (λ (k : P s (get_or ys s m.none)). inr (subst (R s) (sym e) (p s (get_or ys s m.none) k)))
            (I.attained s))
            (λ (k : Q s (get_or zs s m.none)). inr (q s (get_or zs s m.none) k))
            (J.attained s);
      }

  -- what an entry offers
  relaxed_by_entry : (way : Way) (j : ℕ) (e : Entry V) (xs : List V) → Relaxed m (EntryOffers way j e) xs (relaxed_entry m way j e xs)
  relaxed_by_entry way j e xs = cond_both (eqb (near_end way e) j && ltb (far_end way e) j) (offered m (far_end way e) e.value xs) xs (Relaxed m (EntryOffers way j e) xs)
      (λ t.
      let p = and_parts (eqb (near_end way e) j) (ltb (far_end way e) j) t in
      relaxed_one (EntryOffers way j e) (far_end way e) e.value xs (eqb-true (near_end way e) j p.0, refl, ltb-true (far_end way e) j p.1, refl) (λ s a o. (sym o.1, o.3)))
      (λ f. relaxed_none (EntryOffers way j e) xs (λ s a o.
      let l : far_end way e < j = subst (λ x. x < j) (sym o.1) o.2 in
      both_ways (eqb (near_end way e) j && ltb (far_end way e) j) f (and_from (eqb (near_end way e) j) (ltb (far_end way e) j) (eq-eqb (near_end way e) j o.0) (lt-ltb (far_end way e) j l))))

  -- what an entry offers that leads on
  relaxed_by_join : (way : Way) (j : ℕ) (b : V) (e : Entry V) (xs : List V) → Relaxed m (JoinOffers m way j b e) xs (relaxed_join m way j b e xs)
  relaxed_by_join way j b e xs = cond_both (ltb (far_end way e) j) (offered m (far_end way e) ((facing way m).join b e.value) xs) xs (Relaxed m (JoinOffers m way j b e) xs)
      (λ t. relaxed_one (JoinOffers m way j b e) (far_end way e) ((facing way m).join b e.value) xs (refl, ltb-true (far_end way e) j t, refl) (λ s a o. (sym o.0, o.2)))
      (λ f. relaxed_none (JoinOffers m way j b e) xs (λ s a o.
      let l : far_end way e < j = subst (λ x. x < j) (sym o.0) o.1 in
      both_ways (ltb (far_end way e) j) f (lt-ltb (far_end way e) j l)))

  -- a list, member by member
  module _ {X : Type 0} (P : X → ℕ → V → Type 0) (xs : List X) where
    pub any_none : (work : List V) → Relaxed m (AnyOffers P (take 0 xs)) work work
    any_none work = relaxed_none (AnyOffers P (take 0 xs)) work (λ s a o. o.1)

    any_more : (i : ℕ) (d : X) (start work next : List V) → i < length xs → Relaxed m (AnyOffers P (take i xs)) start work → Relaxed m (P (get_or xs i d)) work next → Relaxed m (AnyOffers P (take (i + 1) xs)) start next
    any_more i d start work next l so_far one =
        let e = take_more xs i d l in
        relaxed_then (AnyOffers P (take i xs)) (P (get_or xs i d)) (AnyOffers P (take (i + 1) xs)) start work next
        (λ s a o. (o.0, subst (Among o.0) (sym e) (among_left o.0 (take i xs) (get_or xs i d ∷ []) o.1), o.2))
        (λ s a o. (get_or xs i d, subst (Among (get_or xs i d)) (sym e) (among_right (get_or xs i d) (take i xs) (get_or xs i d ∷ []) (inl refl)), o))
        (λ s a o. ⊎_elim
        (λ (w : Among o.0 (take i xs)). inl (o.0, w, o.2))
        (⊎_elim (λ (f : get_or xs i d ≡ o.0). inr (subst (λ x. P x s a) (sym f) o.2)) (λ (z : ⊥). absurd z))
        (among_cases o.0 (take i xs) (get_or xs i d ∷ []) (subst (Among o.0) e o.1)))
        so_far one

    -- the same, where the member was read
    pub any_more_read : (i : ℕ) (x : X) (start work next : List V) → i < length xs → x ≡ get_or xs i x → Relaxed m (AnyOffers P (take i xs)) start work → Relaxed m (P x) work next → Relaxed m (AnyOffers P (take (i + 1) xs)) start next
    any_more_read i x start work next l read so_far one = any_more i x start work next l so_far (subst (λ y. Relaxed m (P y) work next) read one)

    pub any_all : (i : ℕ) (start work : List V) → length xs ≤ i → Relaxed m (AnyOffers P (take i xs)) start work → Relaxed m (AnyOffers P xs) start work
    any_all i start work l = subst (λ ys. Relaxed m (AnyOffers P ys) start work) (take_all i xs l)

  -- one redraw more
  pub redraws_more : (way : Way) (j : ℕ) (rs : List Redraw) (i : ℕ) (d : Redraw) (e : Entry V) (start work next : List V) → i < length rs → e ≡ redraw_entry m (get_or rs i d) → next ≡ relaxed_entry m way j e work
      → Relaxed m (AnyOffers (λ r. EntryOffers way j (redraw_entry m r)) (take i rs)) start work → Relaxed m (AnyOffers (λ r. EntryOffers way j (redraw_entry m r)) (take (i + 1) rs)) start next
  redraws_more way j rs i d e start work next l as-entry is so_far =
      any_more (λ r. EntryOffers way j (redraw_entry m r)) rs i d start work next l so_far
      (subst (Relaxed m (EntryOffers way j (redraw_entry m (get_or rs i d))) work) (sym is) (subst (λ x. Relaxed m (EntryOffers way j x) work (relaxed_entry m way j e work)) as-entry (relaxed_by_entry way j e work)))

  -- one join more
  pub joins_more : (way : Way) (j : ℕ) (b : V) (list : List (Entry V)) (i : ℕ) (x : Entry V) (start work next : List V) → i < length list → x ≡ get_or list i x → next ≡ relaxed_join m way j b x work
      → Relaxed m (AnyOffers (JoinOffers m way j b) (take i list)) start work → Relaxed m (AnyOffers (JoinOffers m way j b) (take (i + 1) list)) start next
  joins_more way j b list i x start work next l read is so_far =
      any_more_read (JoinOffers m way j b) list i x start work next l read so_far (subst (Relaxed m (JoinOffers m way j b x) work) (sym is) (relaxed_by_join way j b x work))

  -- a present entry of j, and the list of the sheet to which it leads
  pub present_of : (way : Way) (j : ℕ) (es part : List (Entry V)) (e : Entry V) (xs ys zs : List V) → near_end way e ≡ j → Part es (list_begin way (far_end way e)) (list_end way (far_end way e)) part
      → ys ≡ relaxed_entry m way j e xs → Relaxed m (AnyOffers (JoinOffers m way j e.value) part) ys zs → Relaxed m (PresentOffers m way j es e) xs zs
  present_of way j es part e xs ys zs near at is rest =
      relaxed_then (EntryOffers way j e) (AnyOffers (JoinOffers m way j e.value) part) (PresentOffers m way j es e) xs ys zs
      (λ s a o. inl o)
      (λ s a o. inr (near, (o.0, part_from es (list_begin way (far_end way e)) (list_end way (far_end way e)) part at o.0 o.1, o.2)))
      (λ s a o. ⊎_elim
      (λ (h : EntryOffers way j e s a). inl h)
      (λ (h : (near_end way e ≡ j) × ((x : Entry V) × InList way es (far_end way e) x × JoinOffers m way j e.value x s a)). let i = h.1.1 in inr (h.1.0, part_to es (list_begin way (far_end way e)) (list_end way (far_end way e)) part at h.1.0 i.0 i.1 i.2, h.1.2))
      o)
      (subst (Relaxed m (EntryOffers way j e) xs) (sym is) (relaxed_by_entry way j e xs))
      rest

  -- an entry of another sheet offers nothing
  pub present_other : (way : Way) (j : ℕ) (es : List (Entry V)) (e : Entry V) (xs : List V) → (near_end way e ≡ j → ⊥) → Relaxed m (PresentOffers m way j es e) xs xs
  present_other way j es e xs other = relaxed_none (PresentOffers m way j es e) xs (λ s a o. ⊎_elim (λ (h : EntryOffers way j e s a). other h.0) (λ h. other h.0) o)
