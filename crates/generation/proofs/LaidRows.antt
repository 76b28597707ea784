-- Rows laid one after the other give the listing of a table.
use Rattle.std.proofs.Common.{◌≡◌, ℕ, zero, suc, ◌+◌, ◌<◌, ◌≤◌, Bool, true, false, cond, ltb, List, [], ◌∷◌, ◌++◌, length, get_or, drop, set, replicate, Result, is_ok, IsErr, sym, refl, ap, ◌∙◌, subst, ap₂, ⊎_elim, arith}
use lib.Seq.{paste}
use Rattle.std.proofs.lemmas.List.{length-append, length-replicate, take_all, drop-replicate}
use Rattle.std.proofs.lemmas.Bool.{cases_eq, ltb-true}
use Rattle.theory.specs.declared.Entry.{Entry}
use Rattle.theory.specs.declared.Way.{Way}
use Rattle.theory.specs.declared.Way.TheVariants.{Out, In}
use Rattle.theory.specs.Measures.{Meaning, some}
use Rattle.theory.specs.Tables.{Table, entry, outs, ins, pairs, entries_at, listed}
use Rattle.theory.specs.Order.{blank_entry}
use Rattle.theory.specs.Books.{padded}
use Rattle.theory.specs.Searches.{facing_table, new_entry}
use Rattle.strips.specs.declared.Strip.{Strip}
use Rattle.strips.proofs.Adding.{added_one}
use Rattle.generation.specs.declared.source.Source.{Source}
use Rattle.generation.specs.Laying.{Layable, Laid}
use Rattle.strips.specs.Strips.{Lengthened}
use Rattle.generation.specs.Putting.{Put}
use Rattle.generation.specs.Rows.{row_at, row_below, row_pairs, Rowable}
use Rattle.generation.proofs.Putting.{put_both, put_stop}

-- more sheets give no fewer entries
pub row_longer : {V : Type 0} (m : Meaning V) (way : Way) (j : ℕ) (work : List V) (k n : ℕ) → k ≤ n → length (row_below m way j work k) ≤ length (row_below m way j work n)
row_longer m way j work k zero l = let z : k ≡ 0 = omega arith in subst (λ x. length (row_below m way j work x) ≤ 0) (sym z) (omega arith)
row_longer m way j work k (suc n) l = ⊎_elim
    (λ (e : k ≡ suc n). subst (λ x. length (row_below m way j work x) ≤ length (row_below m way j work (suc n))) (sym e) (omega arith))
    (λ (ne : k ≡ suc n → ⊥).
    let h = row_longer m way j work k n (omega arith) in
    let i = length-append (row_below m way j work n) (row_at m way j work n) in
    omega (arith, h, i))
    (cases_eq k (suc n))

-- s was offered a value, and its entry was put
module _ {V : Type 0} (m : Meaning V) (way : Way) (j s : ℕ) (work : List V) (value worst bound : V) (read : value ≡ get_or work s worst) (is_worst : worst ≡ m.none) (is_bound : bound ≡ m.none) (spare after : Strip (Entry V)) (e : Entry V) where
  value_is : value ≡ get_or work s m.none
  value_is = read ∙ ap (get_or work s) is_worst

  pub row_put : (tested : Bool) → tested ≡ m.better value bound → tested ≡ true → e ≡ new_entry way j s value → true ≡ ltb spare.count (length spare.cells.now) → after.cells.now ≡ set spare.cells.now spare.count e → after.count ≡ spare.count + 1 → Put spare (row_at m way j work s) true after
  row_put tested better is_true is room written counted l =
      let some_is : some m (get_or work s m.none) ≡ true = sym (ap₂ m.better value_is is_bound) ∙ sym better ∙ is_true in
      rw (written, counted, is, value_is) (added_one (some m (get_or work s m.none)) (new_entry way j s (get_or work s m.none)) spare.cells.now spare.count some_is (ltb-true spare.count (length spare.cells.now) (sym room)))

kept_append : {X : Type 0} (b : Bool) (x : X) (xs ys zs : List X) → zs ≡ xs ++ ys → cond b (x ∷ zs) zs ≡ cond b (x ∷ xs) xs ++ ys
kept_append true x xs ys zs e = ap (λ w. x ∷ w) e
kept_append false x xs ys zs e = e

module _ {V : Type 0} (m : Meaning V) (g : Table V) where
  -- the entries at pairs one after the other
  pub entries_append : (ps qs : List (ℕ × ℕ)) → entries_at m g (ps ++ qs) ≡ entries_at m g ps ++ entries_at m g qs
  entries_append [] qs = refl
  entries_append (p ∷ ps) qs = kept_append (some m (g p.0 p.1)) (entry p.0 p.1 (g p.0 p.1)) (entries_at m g ps) (entries_at m g qs) (entries_at m g (ps ++ qs)) (entries_append ps qs)

  -- a row of the strip that holds the values of the table is the row of the table
  row_out : (j i : ℕ) (work : List V) → ((s : ℕ) → s < i → get_or work s m.none ≡ g j s) → row_below m Out j work i ≡ entries_at m g (outs j i)
  row_out j zero work is = refl
  row_out j (suc i) work is =
      ap₂ (λ xs a. xs ++ cond (some m a) (entry j i a ∷ []) []) (row_out j i work (λ s l. is s (omega arith))) (is i (omega arith))
      ∙ sym (entries_append (outs j i) ((j, i) ∷ []))

  row_in : (j i : ℕ) (work : List V) → ((s : ℕ) → s < i → get_or work s m.none ≡ g s j) → row_below m In j work i ≡ entries_at m g (ins j i)
  row_in j zero work is = refl
  row_in j (suc i) work is =
      ap₂ (λ xs a. xs ++ cond (some m a) (entry i j a ∷ []) []) (row_in j i work (λ s l. is s (omega arith))) (is i (omega arith))
      ∙ sym (entries_append (ins j i) ((i, j) ∷ []))

  pub row_is : (way : Way) (j : ℕ) (work : List V) → ((s : ℕ) → s < j → get_or work s m.none ≡ facing_table way g j s) → row_below m way j work j ≡ entries_at m g (row_pairs way j)
  row_is Out j work is = row_out j j work is
  row_is In j work is = row_in j j work is

  -- more junior sheets give no fewer entries
  pub listed_longer : (k n : ℕ) → k ≤ n → length (listed m k g) ≤ length (listed m n g)
  listed_longer k zero l = let z : k ≡ 0 = omega arith in subst (λ x. length (listed m x g) ≤ 0) (sym z) (omega arith)
  listed_longer k (suc n) l = ⊎_elim
      (λ (e : k ≡ suc n). subst (λ x. length (listed m x g) ≤ length (listed m (suc n) g)) (sym e) (omega arith))
      (λ (ne : k ≡ suc n → ⊥).
      let h = listed_longer k n (omega arith) in
      let e = ap length (entries_append (pairs n) (outs n n ++ ins n n)) ∙ length-append (listed m n g) (entries_at m g (outs n n ++ ins n n)) in
      omega (arith, h, e))
      (cases_eq k (suc n))

-- records written into a blank strip from the first place on
pub laid_blank : {X : Type 0} (places : ℕ) (blank : X) (es : List X) → length es ≤ places → paste (replicate places blank) 0 es (length es) ≡ padded blank places es
laid_blank places blank es l = ap₂ (λ xs ys. xs ++ ys) (take_all (length es) es (omega arith)) (ap (λ k. drop k (replicate places blank)) (let z : 0 + length es ≡ length es = omega arith in z) ∙ drop-replicate (length es) places blank)

-- all rows laid, or not
pub laid_all : {V : Type 0} (m : Meaning V) (n : ℕ) {source : Source V} {work : List V} (spare spare' : Strip (Entry V)) (g : Table V) → Layable m n source spare work → (so : Bool) → Put spare (listed m n g) so spare' → Laid m n g (length spare.cells.now) so spare'
laid_all m n spare spare' g Y false p =
    let h : length spare.cells.now < spare.count + length (listed m n g) = p (omega (arith, Y.spare_empty)) in
    omega (arith, Y.spare_empty)
laid_all m n spare spare' g Y true p =
    let a = p (omega (arith, Y.spare_empty)) in
    let places = length spare.cells.now in (
      omega (arith, a.0, Y.spare_empty),
      a.1,
      a.2 ∙ ap₂ (λ xs k. paste xs k (listed m n g) (length (listed m n g))) Y.spare_blank Y.spare_empty ∙ laid_blank places (blank_entry m) (listed m n g) (omega (arith, a.0, a.1)),
    )

module _ {V : Type 0} (m : Meaning V) (n : ℕ) {source : Source V} where
  -- the work strip, blank again, serves the next row
  pub rowable_again : {j : ℕ} {work : List V} (after : List V) → Rowable m n source j work → after ≡ replicate (length work) m.none → Rowable m n source j after
  rowable_again after R e = record {
    small = R.small;
    takeable = R.takeable;
    junior_below = R.junior_below;
    work_blank = e ∙ ap (λ k. replicate k m.none) (ap length R.work_blank ∙ length-replicate n m.none);
  }

  -- a row of each junior sheet can be laid
  pub layable_row : {spare : Strip (Entry V)} {work : List V} (after : List V) (j : ℕ) → Layable m n source spare work → after ≡ replicate (length work) m.none → j < n → Rowable m n source j after
  layable_row after j Y e l = record {
    small = Y.small;
    takeable = Y.takeable;
    junior_below = l;
    work_blank = e ∙ ap (λ k. replicate k m.none) (ap length Y.work_blank ∙ length-replicate n m.none);
  }

-- the rows of one junior sheet more
module _ {V : Type 0} (m : Meaning V) (g : Table V) (j : ℕ) (spare middle after : Strip (Entry V)) (kept : Lengthened spare middle) (so_far : Put spare (listed m j g) true middle) where
  pub rows_more : (so : Bool) → Put middle (entries_at m g (outs j j ++ ins j j)) so after → Put spare (listed m (suc j) g) so after
  rows_more so rows = subst (λ es. Put spare es so after) (sym (entries_append m g (pairs j) (outs j j ++ ins j j)))
      (put_both spare middle after (listed m j g) (entries_at m g (outs j j ++ ins j j)) kept so so_far rows)

  pub rows_stop : {A E : Type 0} (n : ℕ) → j < n → Put middle (entries_at m g (outs j j ++ ins j j)) false after → (r : Result A E) → IsErr r → Put spare (listed m n g) (is_ok r) after
  rows_stop n l rows = put_stop spare after after (listed m (suc j) g) (listed m n g) (listed_longer m g (suc j) n l) (rows_more false rows)
