-- Binary search by key: where the partition point of the library lies.
use Rattle.std.proofs.Common.{◌≡◌, ℕ, true, false, ltb, List, get_or, ap, ⊎_elim, arith}
use Rattle.std.proofs.lemmas.Bool.{cases_lt, ltb-true, ltb-false}
use Rattle.std.specs.List.Sorted.{IsNonDecreasingBy, IsPartitionPoint}
use Rattle.theory.specs.declared.Entry.{Entry}
use Rattle.theory.specs.Order.{key_of}
use Rattle.tables.specs.Places.{Rising, FirstAt}

module _ {V : Type 0} (es : List (Entry V)) where
  -- keys that rise do not fall
  pub not_falling : Rising key_of es → IsNonDecreasingBy key_of es
  not_falling rises i j d le h =
      ⊎_elim
      (λ l. let up = rises i j d l h in omega arith)
      (λ l. let same : i ≡ j = omega arith in let e = ap (λ x. key_of (get_or es x d)) same in omega arith)
      (cases_lt i j)

  -- the place that splits the keys below k from the others is the first whose key is not below k
  pub first_from_point : (k r : ℕ) → IsPartitionPoint (λ e. ltb (key_of e) k ≡ true) (λ e. ltb (key_of e) k ≡ false) es r → FirstAt es k r
  first_from_point k r point = record {
    before = λ i d h. ltb-true _ _ (point.0 i d (omega arith) h);
    after = λ i d l h. ltb-false _ _ (point.1 i d l h);
  }
