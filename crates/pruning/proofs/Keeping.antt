-- Pruning entry by entry: it begins, goes on and ends.
use Rattle.std.proofs.Common.{◌≡◌, ℕ, ◌+◌, ◌-◌, ◌<◌, ◌≤◌, Bool, true, false, cond, ◌&&◌, eqb, ltb, List, [], ◌∷◌, ◌++◌, length, get_or, take, drop, set, replicate, sym, refl, ap, ◌∙◌, subst, ap₂, inl, inr, ⊎_elim, arith}
use Rattle.std.proofs.lemmas.List.{append-nil, append_assoc, length-take-le, get_or-take, get_or-drop, take_at, take_more_set, drop-set-lt, drop-drop, drop_more, drop_all, at_drop_more, at_drop_all}
use Rattle.std.proofs.Math.Bool.{and_assoc}
use Rattle.std.proofs.lemmas.Bool.{cases_Bool, cases_lt, cases_order, cond-true, cond-false, and_parts, ltb-true, lt-ltb, le-ltb, eq-eqb, ne_eqb}
use Rattle.theory.specs.declared.Entry.{Entry}
use Rattle.theory.specs.Measures.{Meaning, Lawful}
use Rattle.theory.specs.Tables.{Table, listed}
use Rattle.theory.specs.Order.{Sorted, blank_entry}
use Rattle.theory.specs.Rounds.{pruned}
use Rattle.theory.specs.Books.{same_entries}
use Rattle.theory.proofs.SortedTables.{listed_sorted}
use Rattle.strips.specs.declared.Strip.{Strip}
use Rattle.strips.specs.Strips.{wiped}
use Rattle.pruning.specs.Leaving.{Prunable, PrunedInto}
use Rattle.pruning.specs.Pruning.{covered_by, uncovered, same_entry, stands_at, PrunedUpTo, Prepared}
use Rattle.pruning.proofs.Covering.{uncovered_listed}

module _ {V : Type 0} (m : Meaning V) (laid before : List (Entry V)) (count : ℕ) (P : Prepared m laid before count) where
  -- the entries that stood there before
  abbrev old : List (Entry V)
  old = take count before

  old_length : length old ≡ count
  old_length = length-take-le count before P.count_within

  -- what is left of the laid entries from i on
  abbrev rest_from : ℕ → List (Entry V)
  rest_from i = uncovered m laid (drop i laid)

  pub begins : PrunedUpTo m laid before count 0 before 0 true
  begins = record { left_within = omega arith; written = refl; untouched = refl; compared = refl; same_within = λ _. omega arith }

  -- the entry at i, and those after it
  rest_more : (i : ℕ) (e : Entry V) → i < length laid → e ≡ get_or laid i e → rest_from i ≡ cond (covered_by m laid e) (rest_from (i + 1)) (e ∷ rest_from (i + 1))
  rest_more i e l is = at_drop_more (uncovered m laid) laid i e l ∙ ap (λ x. uncovered m laid (x ∷ drop (i + 1) laid)) (sym is)

  module _ (i : ℕ) (table : List (Entry V)) (left : ℕ) (same : Bool) (e : Entry V) (U : PrunedUpTo m laid before count i table left same) (long : length table ≡ length before) (l : i < length laid) (is : e ≡ get_or laid i e) where
    -- there is a place for the next entry
    has_place : left < length table
    has_place = omega (arith, U.left_within, P.fits)

    -- the old entry at that place
    old_here : left < count → get_or table left e ≡ get_or old left e
    old_here h =
        let z : left + 0 ≡ left = omega arith in
        ap (λ k. get_or table k e) (sym z) ∙ sym (get_or-drop left table 0 e) ∙ ap (λ xs. get_or xs 0 e) U.untouched ∙ get_or-drop left before 0 e ∙ ap (λ k. get_or before k e) z
        ∙ sym (get_or-take count before left e h)

    -- comparing one entry more
    compared_more : (stood : Bool) → stood ≡ stands_at m table count left e → (es : List (Entry V)) → (stood && same_entries m es (drop (left + 1) old)) ≡ same_entries m (e ∷ es) (drop left old)
    compared_more stood st es = ⊎_elim
        (λ (h : left < count).
        let here : drop left old ≡ get_or old left e ∷ drop (left + 1) old = drop_more old left e (omega (arith, old_length)) in
        let yes : stood ≡ same_entry m e (get_or old left e) = st ∙ ap₂ (λ x y. x && same_entry m e y) (lt-ltb left count h) (old_here h) in
        ap (λ x. x && same_entries m es (drop (left + 1) old)) yes ∙ ap (same_entries m (e ∷ es)) (sym here))
        (λ (h : count ≤ left).
        let here : drop left old ≡ [] = drop_all left old (omega (arith, old_length)) in
        let not_there : stood ≡ false = st ∙ ap (λ x. x && same_entry m e (get_or table left e)) (le-ltb left count h) in
        ap (λ x. x && same_entries m es (drop (left + 1) old)) not_there ∙ ap (same_entries m (e ∷ es)) (sym here))
        (cases_lt left count)

    -- the entry goes
    pub passed : covered_by m laid e ≡ true → PrunedUpTo m laid before count (i + 1) table left same
    passed c =
        let rest : rest_from i ≡ rest_from (i + 1) = rest_more i e l is ∙ cond-true (covered_by m laid e) (rest_from (i + 1)) (e ∷ rest_from (i + 1)) c in
        record {
          left_within = omega (arith, U.left_within);
          written = ap (λ xs. take left table ++ xs) (sym rest) ∙ U.written;
          untouched = U.untouched;
          compared = ap (λ xs. same && same_entries m xs (drop left old)) (sym rest) ∙ U.compared;
          same_within = U.same_within;
        }

    -- the entry is kept
    kept : covered_by m laid e ≡ false → (stood : Bool) → stood ≡ stands_at m table count left e → PrunedUpTo m laid before count (i + 1) (set table left e) (left + 1) (same && stood)
    kept c stood st =
        let rest : rest_from i ≡ e ∷ rest_from (i + 1) = rest_more i e l is ∙ cond-false (covered_by m laid e) (rest_from (i + 1)) (e ∷ rest_from (i + 1)) c in
        record {
          left_within = omega (arith, U.left_within);
          written = ap (λ xs. xs ++ rest_from (i + 1)) (take_more_set table left e has_place) ∙ append_assoc (take left table) (e ∷ []) (rest_from (i + 1)) ∙ ap (λ xs. take left table ++ xs) (sym rest) ∙ U.written;
          untouched = drop-set-lt (left + 1) table left e (omega arith) ∙ sym (drop-drop 1 left table) ∙ ap (drop 1) U.untouched ∙ drop-drop 1 left before;
          compared = and_assoc same stood (same_entries m (rest_from (i + 1)) (drop (left + 1) old)) ∙ ap (λ x. same && x) (compared_more stood st (rest_from (i + 1)) ∙ ap (λ xs. same_entries m xs (drop left old)) (sym rest)) ∙ U.compared;
          same_within = λ h.
              let t : stands_at m table count left e ≡ true = sym st ∙ (and_parts same stood h).1 in
              let b = ltb-true left count (and_parts (ltb left count) (same_entry m e (get_or table left e)) t).0 in
              omega (arith, b);
        }

    -- the entry is kept, and its place is written
    pub kept_on : covered_by m laid e ≡ false → (stood : Bool) → (left < length table → stood ≡ stands_at m table count left e) → (table' : List (Entry V)) → table' ≡ set table left e → (left' : ℕ) → (left < length table → left' ≡ left + 1)
        → PrunedUpTo m laid before count (i + 1) table' left' (same && stood)
    kept_on c stood st table' written left' more = rw (written, more has_place) (kept c stood (st has_place))

  module _ (i : ℕ) (table : List (Entry V)) (left : ℕ) (same : Bool) (U : PrunedUpTo m laid before count i table left same) (long : length table ≡ length before) (past : length laid ≤ i) (upto : i ≤ length laid) where
    ends_written : take left table ≡ uncovered m laid laid
    ends_written = sym (append-nil (take left table)) ∙ ap (λ xs. take left table ++ xs) (sym (at_drop_all (uncovered m laid) laid i past)) ∙ U.written

    ends_within : left ≤ length table
    ends_within = omega (arith, U.left_within, P.fits)

    ends_entries : left ≡ length (uncovered m laid laid)
    ends_entries = sym (length-take-le left table ends_within) ∙ ap length ends_written

    counted : (same && eqb left count) ≡ (same && same_entries m [] (drop left old))
    counted = elim (cases_order left count) [ inl e ↦ all e | inr w ↦ elim w [ inl h ↦ fewer h | inr h ↦ more h ] ]
      where
        all : left ≡ count → (same && eqb left count) ≡ (same && same_entries m [] (drop left old))
        all e = ap (λ x. same && x) (eq-eqb left count e ∙ ap (same_entries m []) (sym (drop_all left old (omega (arith, old_length)))))

        fewer : left < count → (same && eqb left count) ≡ (same && same_entries m [] (drop left old))
        fewer h = ap (λ x. same && x) (ne_eqb left count (λ e. omega arith) ∙ ap (same_entries m []) (sym (drop_more old left (blank_entry m) (omega (arith, old_length)))))

        unlike : count < left → same ≡ false
        unlike h = ⊎_elim (λ (t : same ≡ true). absurd (omega (arith, U.same_within t))) (λ f. f) (cases_Bool same)

        more : count < left → (same && eqb left count) ≡ (same && same_entries m [] (drop left old))
        more h = ap (λ x. x && eqb left count) (unlike h) ∙ sym (ap (λ x. x && same_entries m [] (drop left old)) (unlike h))

    ends_same : (same && eqb left count) ≡ same_entries m (uncovered m laid laid) old
    ends_same = counted ∙ ap (λ xs. same && same_entries m xs (drop left old)) (sym (at_drop_all (uncovered m laid) laid i past)) ∙ U.compared

module _ {V : Type 0} (m : Meaning V) (L : Lawful m) (n : ℕ) (g : Table V) (laid es : List (Entry V)) (before : Strip (Entry V)) (Q : Prunable m n g laid es before) where
  pub prepared : Prepared m laid before.cells.now before.count
  prepared = record {
    sheets = n;
    small = Q.small;
    in_order = subst (Sorted m n) (sym Q.laid_is) (listed_sorted m n g Q.small Q.values);
    fits = subst (λ xs. length xs ≤ length before.cells.now) (sym Q.laid_is) Q.fits;
    count_within = Q.count_within;
  }

  -- the entries that stood there before
  old_is : take before.count before.cells.now ≡ es
  old_is = ap₂ (λ k xs. take k xs) Q.count_is Q.table_is ∙ take_at es (replicate (length before.cells.now - length es) (blank_entry m)) (length es) refl

  -- the entries that are left
  left_is : uncovered m laid laid ≡ listed m n (pruned m g)
  left_is = ap (λ xs. uncovered m xs xs) Q.laid_is ∙ uncovered_listed m L n g Q.values

  pub pruned_into : (i : ℕ) (cells : List (Entry V)) (left : ℕ) (same : Bool) → PrunedUpTo m laid before.cells.now before.count i cells left same → length cells ≡ length before.cells.now → length laid ≤ i → i ≤ length laid
      → (blank : Entry V) → blank ≡ blank_entry m → {table : Strip (Entry V)} → table.cells.now ≡ wiped cells left blank → table.count ≡ left → {answer : Bool} → answer ≡ (same && eqb left before.count) → PrunedInto m n g es (length before.cells.now) answer table
  pruned_into i cells left same U long past upto blank is_blank wiped_is count_is answer_is =
      let entries : left ≡ length (listed m n (pruned m g)) = ends_entries m laid before.cells.now before.count prepared i cells left same U long past upto ∙ ap length left_is in
      let within : left ≤ length cells = ends_within m laid before.cells.now before.count prepared i cells left same U long past upto in
      let blanks : length cells - left ≡ length before.cells.now - length (listed m n (pruned m g)) = omega arith in
      record {
        entries_are = count_is ∙ entries;
        within = omega arith;
        table_is = wiped_is ∙ ap (λ b. take left cells ++ replicate (length cells - left) b) is_blank
            ∙ ap₂ (λ xs k. xs ++ replicate k (blank_entry m)) (ends_written m laid before.cells.now before.count prepared i cells left same U long past upto ∙ left_is) blanks;
        same_are = answer_is ∙ ends_same m laid before.cells.now before.count prepared i cells left same U long past upto ∙ ap₂ (same_entries m) left_is old_is;
      }
