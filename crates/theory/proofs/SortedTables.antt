-- A table in order, said place by place, is the listing of what it holds: the keys of the pairs rise, and a list whose keys rise is determined by its members.
use Rattle.std.proofs.Common.{◌≡◌, ℕ, zero, suc, ◌+◌, ◌*◌, ◌<◌, ◌≤◌, Bool, true, false, cond, ltb, ◌⊎◌, List, [], ◌∷◌, ◌++◌, length, get_or, sym, ap, ◌∙◌, subst, ap₂, inl, inr, arith}
use Rattle.std.proofs.lemmas.Bool.{both_ways, cases_lt, cond_both, cond-true, cond-false, lt-ltb, le-ltb}
use Rattle.theory.specs.declared.Entry.{Entry}
use Rattle.theory.specs.Measures.{Meaning, Lawful, some}
use Rattle.theory.specs.Chains.{Among}
use Rattle.theory.specs.Tables.{Table, entry, outs, ins, pairs, entries_at, listed, held, InOrder}
use Rattle.theory.specs.Order.{key, key_of, LawfulEntry, Sorted, overlaid}
use Rattle.theory.proofs.Members.{among_cases, among_get_or, among_place, Rising, rising_append, rising_places, places_rising, rising_apart, rising_same, rising_upto}
use Rattle.theory.proofs.Listings.{at_pair, entry_at, outs_upto, ins_upto, outs_among, ins_among, pairs_among, entries_among, among_listed, listed_among, held_among, among_held}
use Rattle.theory.proofs.Orders.{some_not_none}

-- the key of an out pair
pub key_out : (u v : ℕ) → v < u → key u v ≡ u * 131072 + v
key_out u v l = cond-true (ltb v u) _ _ (lt-ltb v u l)

-- the key of an in pair
pub key_in : (u v : ℕ) → u ≤ v → key u v ≡ v * 131072 + 65536 + u
key_in u v l = cond-false (ltb v u) _ _ (le-ltb v u l)

-- keys determine pairs of different sheets
pub key_injective : (u v x y : ℕ) → u < 65536 → v < 65536 → x < 65536 → y < 65536 → (u ≡ v → ⊥) → (x ≡ y → ⊥) → key u v ≡ key x y → (u ≡ x) × (v ≡ y)
key_injective u v x y p q r s uv xy e = elim (cases_lt v u) [ inl a ↦ elim (cases_lt y x) [ inl b ↦ omega (arith, key_out u v a, key_out x y b) | inr b ↦ omega (arith, key_out u v a, key_in x y b) ] | inr a ↦ elim (cases_lt y x) [ inl b ↦ omega (arith, key_in u v a, key_out x y b) | inr b ↦ omega (arith, key_in u v a, key_in x y b) ] ]

-- the key of a pair
abbrev pub pair_key : ℕ × ℕ → ℕ
pair_key p = key p.0 p.1

-- the keys of the pairs below j are below those of the junior sheet j
before_row : (j : ℕ) (p : ℕ × ℕ) → j < 65536 → Among p (pairs j) → pair_key p < j * 131072
before_row j p l a = let s = pairs_among j p a in elim (cases_lt p.1 p.0) [ inl h ↦ omega (arith, key_out p.0 p.1 h) | inr h ↦ omega (arith, key_in p.0 p.1 h) ]

-- the keys of its out pairs are below those of its in pairs
outs_before : (j : ℕ) (p : ℕ × ℕ) → j < 65536 → Among p (outs j j) → (j * 131072 ≤ pair_key p) × (pair_key p < j * 131072 + 65536)
outs_before j p l a = let s = outs_among j p a in let k = key_out p.0 p.1 (omega arith) in omega arith

-- the keys of its in pairs follow
ins_after : (j : ℕ) (p : ℕ × ℕ) → Among p (ins j j) → j * 131072 + 65536 ≤ pair_key p
ins_after j p a = let s = ins_among j p a in let k = key_in p.0 p.1 (omega arith) in omega arith

-- the keys of the pairs rise
pub rising_pairs : (n : ℕ) → n ≤ 65536 → Rising pair_key (pairs n)
rising_pairs zero l = tt
rising_pairs (suc j) l = rising_append pair_key (pairs j) (outs j j ++ ins j j) (rising_pairs j (omega arith)) (rising_append pair_key (outs j j) (ins j j) outs_rise ins_rise (λ p q a b. omega (arith, outs_before j p l a, ins_after j q b))) (λ p q a b. elim (among_cases q (outs j j) (ins j j) b) [ inl c ↦ omega (arith, before_row j p l a, outs_before j q l c) | inr c ↦ omega (arith, before_row j p l a, ins_after j q c) ])
  where
    outs_rise : Rising pair_key (outs j j)
    outs_rise = rw (outs_upto j j) (rising_upto pair_key (λ v. (j, v)) j (λ a b h k. omega (arith, key_out j a (omega arith), key_out j b k)))

    ins_rise : Rising pair_key (ins j j)
    ins_rise = rw (ins_upto j j) (rising_upto pair_key (λ u. (u, j)) j (λ a b h k. omega (arith, key_in a j (omega arith), key_in b j (omega arith))))

-- x in front of xs if a test passes, else xs
rising_kept : {X : Type 0} (k : X → ℕ) (b : Bool) (x : X) (xs : List X) → Rising k (x ∷ xs) → Rising k (cond b (x ∷ xs) xs)
rising_kept k true x xs r = r
rising_kept k false x xs r = r.1

module _ {V : Type 0} (m : Meaning V) where
  -- the keys of the entries of f at such pairs rise with them
  rising_entries : (f : Table V) (ps : List (ℕ × ℕ)) → Rising pair_key ps → Rising key_of (entries_at m f ps)
  rising_entries f [] r = tt
  rising_entries f (p ∷ ps) r = rising_kept key_of (some m (at_pair f p)) (entry_at f p) (entries_at m f ps) ((λ e a. r.0 (e.from, e.to) (entries_among m f ps e a).0), rising_entries f ps r.1)

  -- every member of a sorted list may stand in a table
  pub sorted_among : (n : ℕ) (es : List (Entry V)) (e : Entry V) → Sorted m n es → Among e es → LawfulEntry m n e
  sorted_among n es e s a = let (i, l, is) = among_place e es a in subst (LawfulEntry m n) (is e) (s.each i e l)

  -- the keys of a sorted list rise
  pub sorted_rising : (n : ℕ) (es : List (Entry V)) → Sorted m n es → Rising key_of es
  sorted_rising n es s = places_rising key_of es s.rises

  -- a list with rising keys, whose members may stand in a table, is sorted
  pub rising_sorted : (n : ℕ) (es : List (Entry V)) → ((e : Entry V) → Among e es → LawfulEntry m n e) → Rising key_of es → Sorted m n es
  rising_sorted n es lawful r = record { each = λ i d l. lawful (get_or es i d) (among_get_or es i d l); rises = rising_places key_of es r }

  -- a sorted list holds the value of each member
  pub sorted_held : (n : ℕ) (es : List (Entry V)) (e : Entry V) → Sorted m n es → Among e es → held m es e.from e.to ≡ e.value
  sorted_held n es e s a = among_held m es e a (λ x b p q. ap (λ y. y.value) (rising_apart key_of es x e (sorted_rising n es s) b a (ap₂ key p q)))

  -- the same by places
  pub held_at : (n : ℕ) (es : List (Entry V)) (i : ℕ) (d : Entry V) → Sorted m n es → i < length es → held m es (get_or es i d).from (get_or es i d).to ≡ (get_or es i d).value
  held_at n es i d s l = sorted_held n es (get_or es i d) s (among_get_or es i d l)

  -- the listing of a table of values is sorted
  pub listed_sorted : (n : ℕ) (f : Table V) → n ≤ 65536 → ((x y : ℕ) → m.valid (f x y) ≡ true) → Sorted m n (listed m n f)
  listed_sorted n f l vals = rising_sorted n (listed m n f) lawful (rising_entries f (pairs n) (rising_pairs n l))
    where
      lawful : (e : Entry V) → Among e (listed m n f) → LawfulEntry m n e
      lawful e a = let (p, q, ne, is, h) = listed_among m n f e a in record { from_below = p; to_below = q; differ = ne; is_value = ap m.valid is ∙ vals e.from e.to; is_some = h }

  -- a table in order is sorted
  pub in_order_sorted : (n : ℕ) (es : List (Entry V)) → n ≤ 65536 → InOrder m n es → Sorted m n es
  in_order_sorted n es l o = subst (Sorted m n) (sym o.1) (listed_sorted n (held m es) l o.0)

module _ {V : Type 0} (m : Meaning V) (L : Lawful m) where
  -- what is held and is some is the value of a member
  pub some_among : (es : List (Entry V)) (u v : ℕ) → some m (held m es u v) ≡ true → Among (entry u v (held m es u v)) es
  some_among es u v h = elim (held_among m es u v) [ inl e ↦ absurd (some_not_none m L (held m es u v) h e) | inr a ↦ a ]

  -- a sorted list holds values
  pub sorted_held_values : (n : ℕ) (es : List (Entry V)) → Sorted m n es → (u v : ℕ) → m.valid (held m es u v) ≡ true
  sorted_held_values n es s u v = elim (held_among m es u v) [ inl e ↦ ap m.valid e ∙ L.none_is_value | inr a ↦ (sorted_among m n es (entry u v (held m es u v)) s a).is_value ]

  -- a sorted list is the listing of what it holds
  pub sorted_listed : (n : ℕ) (es : List (Entry V)) → n ≤ 65536 → Sorted m n es → es ≡ listed m n (held m es)
  sorted_listed n es l s = rising_same key_of es (listed m n (held m es)) (sorted_rising m n es s) (sorted_rising m n (listed m n (held m es)) (listed_sorted m n (held m es) l (sorted_held_values n es s))) to from
    where
      to : (e : Entry V) → Among e es → Among e (listed m n (held m es))
      to e a =
          let w = sorted_among m n es e s a in
          let k = sorted_held m n es e s a in
          subst (λ x. Among (entry e.from e.to x) (listed m n (held m es))) k (among_listed m n (held m es) e.from e.to w.from_below w.to_below w.differ (ap (some m) k ∙ w.is_some))

      from : (e : Entry V) → Among e (listed m n (held m es)) → Among e es
      from e a =
          let (p, q, ne, is, h) = listed_among m n (held m es) e a in
          subst (λ x. Among (entry e.from e.to x) es) (sym is) (some_among es e.from e.to (sym (ap (some m) is) ∙ h))

  -- so it is a table in order
  pub sorted_in_order : (n : ℕ) (es : List (Entry V)) → n ≤ 65536 → Sorted m n es → InOrder m n es
  sorted_in_order n es l s = (sorted_held_values n es s, sorted_listed n es l s)

  -- a sorted list whose members are those of two others holds the one laid over the other
  pub merged_held : (n : ℕ) (es xs ys : List (Entry V)) → Sorted m n es → Sorted m n xs → Sorted m n ys → ((e : Entry V) → Among e es → Among e xs ⊎ Among e ys) → ((e : Entry V) → Among e xs → Among e es) → ((e : Entry V) → Among e ys → Among e es) → (u v : ℕ) → held m es u v ≡ overlaid m (held m ys) (held m xs) u v
  merged_held n es xs ys s sx sy parts from-xs from-ys u v = cond_both (some m (held m ys u v)) (held m ys u v) (held m xs u v) (λ a. held m es u v ≡ a) (λ h. sorted_held m n es (entry u v (held m ys u v)) s (from-ys (entry u v (held m ys u v)) (some_among ys u v h))) without
    where
      without : some m (held m ys u v) ≡ false → held m es u v ≡ held m xs u v
      without h = elim (held_among m xs u v) [ inr a ↦ sorted_held m n es (entry u v (held m xs u v)) s (from-xs (entry u v (held m xs u v)) a) | inl e ↦ elim (held_among m es u v) [ inl k ↦ k ∙ sym e | inr b ↦ elim (parts (entry u v (held m es u v)) b) [ inl c ↦ sym (sorted_held m n xs (entry u v (held m es u v)) sx c) | inr c ↦ absurd (both_ways _ h (ap (some m) (sorted_held m n ys (entry u v (held m es u v)) sy c) ∙ (sorted_among m n ys (entry u v (held m es u v)) sy c).is_some)) ] ] ]
