-- Putting both runs into the table: after the two merges it is the table after the root.
use Rattle.std.proofs.Common.{◌≡◌, ℕ, suc, ◌+◌, ◌-◌, ◌<◌, ◌≤◌, min, true, false, ◌⊎◌, List, ◌++◌, length, get_or, take, drop, replicate, Some, None, sym, refl, ap, ◌∙◌, subst, ap₂, inl, inr, ⊎_elim, arith}
use Rattle.std.proofs.lemmas.List.{length-append, length-replicate, take_all, take_at, drop_at, take-append-drop, drop-replicate, drop-drop}
use Rattle.theory.specs.declared.Redraw.{Redraw}
use Rattle.theory.specs.declared.Entry.{Entry}
use Rattle.theory.specs.declared.Way.TheVariants.{Out, In}
use Rattle.theory.specs.Measures.{Meaning, Lawful, some}
use Rattle.theory.specs.Chains.{Among, Register, best}
use Rattle.theory.specs.Tables.{Table, rooted, listed, held}
use Rattle.theory.specs.Order.{key_of, Sorted, overlaid, blank_entry}
use Rattle.theory.specs.Books.{padded}
use Rattle.theory.specs.Searches.{Run}
use Rattle.theory.proofs.Orders as orders
use Rattle.theory.proofs.Best as bests
use Rattle.theory.proofs.Roots as roots
use Rattle.theory.proofs.Listings as listings
use Rattle.theory.proofs.SortedTables as sorted
use Rattle.theory.proofs.Growing as growing
use Rattle.theory.proofs.Members.{places_rising}
use Rattle.merging.specs.Merging.{Apart, Mergeable, Merged}
use Rattle.strips.specs.declared.Strip.{Strip}
use Rattle.roots.specs.Turns.{Ready, Buildable, BuiltRoot, Both}

module _ {V : Type 0} (m : Meaning V) (L : Lawful m) (n : ℕ) (small : n ≤ 65536) where
  -- sorted tables with no pair in common have no key in common
  pub apart : (xs ys : List (Entry V)) → Sorted m n xs → Sorted m n ys → ((u v : ℕ) → some m (held m xs u v) ≡ true → some m (held m ys u v) ≡ true → ⊥) → Apart xs ys
  apart xs ys sx sy h a b d la lb e =
      let x : Entry V = get_or xs a d in
      let y : Entry V = get_or ys b d in
      let ex = sx.each a d la in
      let ey = sy.each b d lb in
      let p : x.from < n = ex.from_below in
      let q : x.to < n = ex.to_below in
      let s : y.from < n = ey.from_below in
      let t : y.to < n = ey.to_below in
      let same = sorted.key_injective x.from x.to y.from y.to (omega arith) (omega arith) (omega arith) (omega arith) ex.differ ey.differ e in
      let hx : held m xs x.from x.to ≡ x.value = sorted.held_at m n xs a d sx la in
      let hy : held m ys y.from y.to ≡ y.value = sorted.held_at m n ys b d sy lb in
      h x.from x.to (subst (λ z. some m z ≡ true) (sym hx) ex.is_some)
      (subst (λ z. some m z ≡ true) (sym (ap₂ (held m ys) same.0 same.1 ∙ hy)) ey.is_some)

  pub mergeable : (xs ys : List (Entry V)) → Sorted m n xs → Sorted m n ys → ((u v : ℕ) → some m (held m xs u v) ≡ true → some m (held m ys u v) ≡ true → ⊥) → Mergeable xs ys
  mergeable xs ys sx sy h = record { first_rises = sx.rises; second_rises = sy.rises; apart = apart xs ys sx sy h }

  -- the merged table is in order, and holds what the two hold
  pub merged_sorted : (xs ys zs : List (Entry V)) → Sorted m n xs → Sorted m n ys → Merged xs ys zs → Sorted m n zs
  merged_sorted xs ys zs sx sy M = sorted.rising_sorted m n zs
      (λ e w. ⊎_elim (λ (a : Among e xs). sorted.sorted_among m n xs e sx a) (λ (a : Among e ys). sorted.sorted_among m n ys e sy a) (M.from_either e w))
      (places_rising key_of zs M.rises)

  pub merged_holds : (xs ys zs : List (Entry V)) → Sorted m n xs → Sorted m n ys → Merged xs ys zs → (u v : ℕ) → held m zs u v ≡ overlaid m (held m ys) (held m xs) u v
  merged_holds xs ys zs sx sy M = sorted.merged_held m L n zs xs ys (merged_sorted xs ys zs sx sy M) sx sy M.from_either M.has_first M.has_second

  module _ (rs : List Redraw) (reg : Register n rs) (r : ℕ) (lr : r < n) (outs ins : List (Entry V)) (ro : Run m n rs r Out outs) (ri : Run m n rs r In ins) where
    cut_values : (u v : ℕ) → m.valid (rooted m r (best m n rs) u v) ≡ true
    cut_values = roots.rooted_value m L r (best m n rs) (bests.best_value m L n rs reg)

    pub before_sorted : Sorted m n (listed m n (rooted m r (best m n rs)))
    before_sorted = sorted.listed_sorted m n (rooted m r (best m n rs)) small cut_values

    -- what the table before holds has a sheet senior to r
    before_senior : (u v : ℕ) → some m (held m (listed m n (rooted m r (best m n rs))) u v) ≡ true → min u v < r
    before_senior u v s =
        let a = sorted.some_among m L (listed m n (rooted m r (best m n rs))) u v s in
        let p = listings.listed_among m n (rooted m r (best m n rs)) (Rattle.theory.specs.Tables.entry u v (held m (listed m n (rooted m r (best m n rs))) u v)) a in
        ⊎_elim (λ (l : min u v < r). l)
        (λ (l : r ≤ min u v). absurd (orders.some_not_none m L (held m (listed m n (rooted m r (best m n rs))) u v) s (p.3 ∙ roots.rooted_out m L r (best m n rs) u v l)))
        (Rattle.std.proofs.lemmas.Bool.cases_lt (min u v) r)

    outs_root : (u v : ℕ) → some m (held m outs u v) ≡ true → (u ≡ r) × (r < v)
    outs_root u v s = growing.run_out m L n small rs reg r lr outs ins ro ri u v s

    ins_root : (u v : ℕ) → some m (held m ins u v) ≡ true → (v ≡ r) × (r < u)
    ins_root u v s = growing.run_in m L n small rs reg r lr outs ins ro ri u v s

    pub first_mergeable : Mergeable (listed m n (rooted m r (best m n rs))) outs
    first_mergeable = mergeable (listed m n (rooted m r (best m n rs))) outs before_sorted ro.in_order (λ u v s t.
        let l = before_senior u v s in
        let o = outs_root u v t in
        let a : u ≡ r = o.0 in
        let b : r < v = o.1 in
        omega (arith, l))

    module _ (zs : List (Entry V)) (M : Merged (listed m n (rooted m r (best m n rs))) outs zs) where
      pub middle_sorted : Sorted m n zs
      middle_sorted = merged_sorted (listed m n (rooted m r (best m n rs))) outs zs before_sorted ro.in_order M

      middle_holds : (u v : ℕ) → held m zs u v ≡ overlaid m (held m outs) (held m (listed m n (rooted m r (best m n rs)))) u v
      middle_holds = merged_holds (listed m n (rooted m r (best m n rs))) outs zs before_sorted ro.in_order M

      middle_either : (u v : ℕ) → some m (held m zs u v) ≡ true → (some m (held m outs u v) ≡ true) ⊎ (some m (held m (listed m n (rooted m r (best m n rs))) u v) ≡ true)
      middle_either u v s = ⊎_elim inl
          (λ (f : some m (held m outs u v) ≡ false). inr (subst (λ x. some m x ≡ true) (middle_holds u v ∙ growing.overlaid_right m (held m outs) (held m (listed m n (rooted m r (best m n rs)))) u v f) s))
          (Rattle.std.proofs.lemmas.Bool.cases_Bool (some m (held m outs u v)))

      pub second_mergeable : Mergeable zs ins
      second_mergeable = mergeable zs ins middle_sorted ri.in_order (λ u v s t.
          let i = ins_root u v t in
          let a : v ≡ r = i.0 in
          let b : r < u = i.1 in
          ⊎_elim
          (λ (o : some m (held m outs u v) ≡ true). let q = outs_root u v o in let c : u ≡ r = q.0 in omega arith)
          (λ (o : some m (held m (listed m n (rooted m r (best m n rs))) u v) ≡ true). let l = before_senior u v o in omega (arith, l))
          (middle_either u v s))

      pub after_root : (ws : List (Entry V)) → Merged zs ins ws → ws ≡ listed m n (rooted m (suc r) (best m n rs))
      after_root ws N =
          let sw = merged_sorted zs ins ws middle_sorted ri.in_order N in
          sorted.sorted_listed m L n ws small sw
          ∙ listings.listed_same m n (held m ws) (rooted m (suc r) (best m n rs)) (λ u v lu lv ne.
          merged_holds zs ins ws middle_sorted ri.in_order N u v
          ∙ ap (λ x. Rattle.theory.specs.Order.overlaid m (held m ins) (λ a b. x) u v) (middle_holds u v)
          ∙ growing.grown_is m L n small rs reg r lr outs ins ro ri u v lu lv ne)

-- the part of a strip that holds a list, and the rest
padded_take : {X : Type 0} (b : X) (places : ℕ) (xs : List X) → take (length xs) (padded b places xs) ≡ xs
padded_take b places xs = take_at xs (replicate (places - length xs) b) (length xs) refl

padded_drop : {X : Type 0} (b : X) (places k : ℕ) (xs : List X) → length xs ≤ k → drop k (padded b places xs) ≡ replicate (places - k) b
padded_drop b places k xs l =
    let e : length xs + (k - length xs) ≡ k = omega arith in
    let f : places - length xs - (k - length xs) ≡ places - k = omega arith in
    ap (λ j. drop j (padded b places xs)) (sym e) ∙ sym (drop-drop (k - length xs) (length xs) (padded b places xs))
    ∙ ap (drop (k - length xs)) (drop_at xs (replicate (places - length xs) b) (length xs) refl)
    ∙ drop-replicate (k - length xs) (places - length xs) b ∙ ap (λ j. replicate j b) f

module _ {V : Type 0} (m : Meaning V) (L : Lawful m) (n : ℕ) (rs : List Redraw) (r : ℕ) (table : Strip (Entry V)) (spare : List (Entry V)) (work : List V) (marks : List ℕ) (B : Buildable m n rs r (length table.cells.now) table.count table.cells.now spare work marks) where
  pub used_is : take table.count table.cells.now ≡ listed m n (rooted m r (best m n rs))
  used_is = ap₂ (λ k xs. take k xs) B.count_is B.table_is ∙ padded_take (blank_entry m) (length table.cells.now) (listed m n (rooted m r (best m n rs)))

  pub ready : (es : List (Entry V)) → es ≡ take table.count table.cells.now → Ready m n rs es r
  ready es e = record { small = B.small; register = B.register; root_below = B.root_below; table = e ∙ used_is }

  spare_long : length spare ≡ length table.cells.now
  spare_long = ap length B.spare_blank ∙ length-replicate (length table.cells.now) (blank_entry m)

  module _ (outs ins : List (Entry V)) (ro : Run m n rs r Out outs) (ri : Run m n rs r In ins) where
    long_after : length (listed m n (rooted m (suc r) (best m n rs))) ≡ table.count + length outs + length ins
    long_after =
        let g = growing.grown_length m L n B.small rs B.register r B.root_below outs ins ro ri in
        let c = B.count_is in
        omega (arith, g, c)

    -- the runs do not fit the spare strip
    pub too_long : length spare < length outs + length ins → BuiltRoot m n rs r (length table.cells.now) table.cells.now None table.cells.now
    too_long l = (omega (arith, l, spare_long, long_after), refl)

    module _ (middle : ℕ) (filled : Strip (Entry V)) (both : Both spare outs ins (Some (middle, filled.count)) filled.cells.now) (found : List (Entry V)) (is : found ≡ take filled.count filled.cells.now) where
      found_is : found ≡ outs ++ ins
      found_is = is ∙ both.3

      found_long : length found ≡ length outs + length ins
      found_long = ap length found_is ∙ length-append outs ins

      -- or not the table
      pub too_many : length table.cells.now - table.count < length found → BuiltRoot m n rs r (length table.cells.now) table.cells.now None table.cells.now
      too_many l = let w = B.count_within in (omega (arith, l, w, found_long, long_after), refl)

      pub middle_within : middle ≤ length found
      middle_within = let a : middle ≡ length outs = both.0 in omega (arith, found_long)

      first_run : (run : List (Entry V)) → run ≡ take (middle - 0) (drop 0 found) → run ≡ outs
      first_run run e =
          let a : middle - 0 ≡ length outs = omega (arith, both.0) in
          e ∙ ap (take (middle - 0)) found_is ∙ take_at outs ins (middle - 0) (sym a)

      second_run : (run : List (Entry V)) → run ≡ take (length found - middle) (drop middle found) → run ≡ ins
      second_run run e =
          let a : middle ≡ length outs = both.0 in
          e ∙ ap (λ xs. take (length found - middle) (drop middle xs)) found_is ∙ ap (take (length found - middle)) (drop_at outs ins middle (sym a))
          ∙ take_all (length found - middle) ins (omega (arith, found_long))

      pub put_in : length found ≤ length table.cells.now - table.count → (one two : List (Entry V)) → one ≡ take (middle - 0) (drop 0 found) → two ≡ take (length found - middle) (drop middle found)
          → (t u : Strip (Entry V)) → length t.cells.now ≡ length table.cells.now
          → (table.count + length one ≤ length table.cells.now → t.count ≡ table.count + length one)
          → drop (table.count + length one) t.cells.now ≡ drop (table.count + length one) table.cells.now
          → (table.count + length one ≤ length table.cells.now → Mergeable (take table.count table.cells.now) one → Merged (take table.count table.cells.now) one (take t.count t.cells.now))
          → (t.count + length two ≤ length t.cells.now → u.count ≡ t.count + length two)
          → drop (t.count + length two) u.cells.now ≡ drop (t.count + length two) t.cells.now
          → (t.count + length two ≤ length t.cells.now → Mergeable (take t.count t.cells.now) two → Merged (take t.count t.cells.now) two (take u.count u.cells.now))
          → BuiltRoot m n rs r (length table.cells.now) table.cells.now (Some u.count) u.cells.now
      put_in fit one two e₁ e₂ t u long c₁ r₁ m₁ c₂ r₂ m₂ =
          let places = length table.cells.now in
          let w : table.count ≤ length table.cells.now = B.count_within in
          let q₁ : one ≡ outs = first_run one e₁ in
          let q₂ : two ≡ ins = second_run two e₂ in
          let k₁ : length one ≡ length outs = ap length q₁ in
          let k₂ : length two ≡ length ins = ap length q₂ in
          let k : length found ≡ length outs + length ins = found_long in
          let T : List (Entry V) = listed m n (rooted m r (best m n rs)) in
          let after : List (Entry V) = listed m n (rooted m (suc r) (best m n rs)) in
          let n₁ : t.count ≡ table.count + length one = c₁ (omega arith) in
          let n₂ : u.count ≡ t.count + length two = c₂ (omega arith) in
          let M : Merged T outs (take t.count t.cells.now) =
          subst (λ x. Merged T x (take t.count t.cells.now)) q₁ (subst (λ x. Merged x one (take t.count t.cells.now)) used_is
          (m₁ (omega arith) (subst (λ x. Mergeable x one) (sym used_is) (subst (Mergeable T) (sym q₁) (first_mergeable m L n B.small rs B.register r B.root_below outs ins ro ri))))) in
          let N : Merged (take t.count t.cells.now) ins (take u.count u.cells.now) =
          subst (λ x. Merged (take t.count t.cells.now) x (take u.count u.cells.now)) q₂
          (m₂ (omega arith) (subst (Mergeable (take t.count t.cells.now)) (sym q₂) (second_mergeable m L n B.small rs B.register r B.root_below outs ins ro ri (take t.count t.cells.now) M))) in
          let size : u.count ≡ length (listed m n (rooted m (suc r) (best m n rs))) = omega (arith, long_after) in
          let rest : drop u.count u.cells.now ≡ replicate (length table.cells.now - u.count) (blank_entry m) =
          ap (λ j. drop j u.cells.now) n₂ ∙ r₂ ∙ sym (drop-drop (length two) t.count t.cells.now)
          ∙ ap (drop (length two)) (ap (λ j. drop j t.cells.now) n₁ ∙ r₁ ∙ ap (λ j. drop j table.cells.now) (sym n₁)) ∙ drop-drop (length two) t.count table.cells.now
          ∙ ap₂ (λ j xs. drop j xs) (sym n₂) B.table_is ∙ padded_drop (blank_entry m) (length table.cells.now) u.count T (omega (arith, B.count_is)) in (
            size,
            omega arith,
            sym (take-append-drop u.count u.cells.now) ∙ ap₂ ◌++◌ (after_root m L n B.small rs B.register r B.root_below outs ins ro ri (take t.count t.cells.now) M (take u.count u.cells.now) N) rest
                ∙ ap (λ j. after ++ replicate (length table.cells.now - j) (blank_entry m)) size,
          )
