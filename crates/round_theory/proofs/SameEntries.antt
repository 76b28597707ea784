-- The test that two lists of entries are the same passes exactly if they are, given that the values in them are values of the measure.
use Rattle.std.proofs.Common.{◌≡◌, Bool, true, false, ◌&&◌, eqb, List, [], ◌∷◌, refl, ap, ◌∙◌, ap₂, inl, inr}
use Rattle.std.proofs.lemmas.Bool.{both_ways, and_parts, and_from, eqb-true, eq-eqb}
use Rattle.theory.specs.declared.Entry.{Entry}
use Rattle.theory.specs.Measures.{Meaning, Lawful, Value, same}
use Rattle.theory.specs.Chains.{Among}
use Rattle.theory.specs.Tables.{entry}
use Rattle.theory.specs.Books.{same_entries}
use Rattle.theory.proofs.Orders as orders

module _ {V : Type 0} (m : Meaning V) (L : Lawful m) where
  -- two entries are the same to the test
  abbrev pub same_entry : Entry V → Entry V → Bool
  same_entry e f = (eqb e.from f.from && eqb e.to f.to) && same m e.value f.value

  -- entries that the test calls the same are the same
  pub same_entry_true : (e f : Entry V) → Value m e.value → Value m f.value → same_entry e f ≡ true → e ≡ f
  same_entry_true e f ve vf h =
      let p = and_parts (eqb e.from f.from && eqb e.to f.to) (same m e.value f.value) h in
      let q = and_parts (eqb e.from f.from) (eqb e.to f.to) p.0 in
      ap₂ (λ x y. entry x y e.value) (eqb-true e.from f.from q.0) (eqb-true e.to f.to q.1)
      ∙ ap (entry f.from f.to) (orders.same_eq m L e.value f.value ve vf p.1)

  -- the test calls an entry the same as itself
  pub same_entry_refl : (e : Entry V) → Value m e.value → same_entry e e ≡ true
  same_entry_refl e ve = and_from (eqb e.from e.from && eqb e.to e.to) (same m e.value e.value)
      (and_from (eqb e.from e.from) (eqb e.to e.to) (eq-eqb e.from e.from refl) (eq-eqb e.to e.to refl))
      (orders.eq_same m L e.value e.value ve refl)

  -- lists that the test calls the same are the same
  pub same_entries_true : (xs ys : List (Entry V)) → ((e : Entry V) → Among e xs → Value m e.value) → ((e : Entry V) → Among e ys → Value m e.value) → same_entries m xs ys ≡ true → xs ≡ ys
  same_entries_true [] [] vx vy h = refl
  same_entries_true [] (y ∷ ys) vx vy h = absurd (both_ways false refl h)
  same_entries_true (x ∷ xs) [] vx vy h = absurd (both_ways false refl h)
  same_entries_true (x ∷ xs) (y ∷ ys) vx vy h =
      let p = and_parts (same_entry x y) (same_entries m xs ys) h in
      ap₂ (λ z zs. z ∷ zs) (same_entry_true x y (vx x (inl refl)) (vy y (inl refl)) p.0) (same_entries_true xs ys (λ e a. vx e (inr a)) (λ e a. vy e (inr a)) p.1)

  -- the test calls a list the same as itself
  pub same_entries_refl : (xs : List (Entry V)) → ((e : Entry V) → Among e xs → Value m e.value) → same_entries m xs xs ≡ true
  same_entries_refl [] vx = refl
  same_entries_refl (x ∷ xs) vx = and_from (same_entry x x) (same_entries m xs xs) (same_entry_refl x (vx x (inl refl))) (same_entries_refl xs (λ e a. vx e (inr a)))
