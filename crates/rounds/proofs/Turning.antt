-- The turn of the round builder: what it hands to generating and to pruning, and what it leaves.
use Rattle.std.proofs.Common.{◌≡◌, ℕ, ◌-◌, ◌≤◌, min, true, cond, not, ◌&&◌, eqb, ltb, List, length, take, replicate, Some, None, Option, Bor, sym, refl, ap, ◌∙◌, subst, ap₂, arith}
use Rattle.std.proofs.lemmas.List.{length-replicate, take_at}
use Rattle.std.proofs.lemmas.Bool.{cond_both}
use Rattle.theory.specs.declared.Redraw.{Redraw}
use Rattle.theory.specs.declared.Entry.{Entry}
use Rattle.theory.specs.Measures.{Meaning, Lawful, Value, best_below}
use Rattle.theory.specs.Chains.{direct}
use Rattle.theory.specs.Tables.{listed, held}
use Rattle.theory.specs.Order.{Sorted, blank_entry}
use Rattle.theory.specs.Books.{padded}
use Rattle.theory.proofs.Orders as orders
use Rattle.theory.proofs.Best.{direct_value}
use Rattle.theory.proofs.SortedTables.{sorted_held_values}
use Rattle.strips.specs.declared.Strip.{Strip}
use Rattle.strips.specs.Strips.{used}
use Rattle.generation.specs.Laying.{Layable, Laid, Takeable, next_generated}
use Rattle.generation.specs.declared.source.Source.{Source}
use Rattle.pruning.specs.Leaving.{Prunable}
use Rattle.rounds.specs.Laying.{Roundable, Registered, next_round}

-- the records in use of a strip that holds a list
used_is : {X : Type 0} (blank : X) (places count : ℕ) (strip xs : List X) → count ≡ length xs → strip ≡ padded blank places xs → used strip count ≡ xs
used_is blank places count strip xs c s = ap₂ (λ k ys. take k ys) c s ∙ take_at xs (replicate (places - length xs) blank) (length xs) refl

module _ {V : Type 0} (m : Meaning V) (L : Lawful m) (n : ℕ) (es : List (Entry V)) (order : Sorted m n es) where
  -- what a round generates are values
  next_values : (register : Option (Bor (List Redraw))) → Registered n register → (u v : ℕ) → Value m (next_round m n register es u v)
  next_values (Some rs) reg u v = cond_both (eqb u v) m.none (direct m rs.now u v) (Value m) (λ _. L.none_is_value) (λ _. direct_value m L n rs.now reg u v)
  next_values None reg u v = cond_both (eqb u v) m.none _ (Value m) (λ _. L.none_is_value)
      (λ _. orders.pick_value m L (held m es u v) (best_below m n joins) (values u v) (orders.best_below_value m L n joins
      (λ w. cond_both ((not (eqb w u) && not (eqb w v)) && ltb (min u v) w) (m.join (held m es u w) (held m es w v)) m.none (Value m) (λ _. orders.join_value m L (values u w) (values w v)) (λ _. L.none_is_value))))
    where
      values : (x y : ℕ) → Value m (held m es x y)
      values = sorted_held_values m L n es order

      joins : ℕ → V
      joins w = cond ((not (eqb w u) && not (eqb w v)) && ltb (min u v) w) (m.join (held m es u w) (held m es w v)) m.none

module _ {V : Type 0} (m : Meaning V) (n : ℕ) (register : Option (Bor (List Redraw))) (es : List (Entry V)) (table spare : Strip (Entry V)) (work : List V) (R : Roundable m n register es table spare work)
    (present : List (Entry V)) (is : present ≡ used table.cells.now table.count) (source : Source V) where
  present_is : present ≡ es
  present_is = is ∙ used_is (blank_entry m) (length table.cells.now) table.count table.cells.now es R.count_is R.table_is

  spare_long : length spare.cells.now ≡ length table.cells.now
  spare_long = ap length R.spare_blank ∙ length-replicate (length table.cells.now) (blank_entry m)

  pub layable : (Registered n register → Sorted m n present → Takeable m n source) → Layable m n source spare work
  layable takeable = record {
    small = R.small;
    takeable = takeable R.registered (subst (Sorted m n) (sym present_is) R.in_order);
    spare_empty = R.spare_empty;
    spare_blank = R.spare_blank ∙ ap (λ k. replicate k (blank_entry m)) (sym spare_long);
    work_blank = R.work_blank;
  }

  -- what was laid is that of the next round, within the places of the table too
  laid_next : next_generated m n source ≡ next_round m n register present → (spare' : Strip (Entry V)) → Laid m n (next_generated m n source) (length spare.cells.now) true spare' → Laid m n (next_round m n register es) (length table.cells.now) true spare'
  laid_next t spare' h = subst (λ k. Laid m n (next_round m n register es) k true spare') spare_long (subst (λ g. Laid m n g (length spare.cells.now) true spare') (t ∙ ap (next_round m n register) present_is) h)

  -- the generated table is within the places, and can be pruned
  pub prunable : Lawful m → next_generated m n source ≡ next_round m n register present → (spare' : Strip (Entry V)) → Laid m n (next_generated m n source) (length spare.cells.now) true spare' → (laid : List (Entry V)) → laid ≡ used spare'.cells.now spare'.count
      → (length (listed m n (next_round m n register es)) ≤ length table.cells.now) × Prunable m n (next_round m n register es) laid es table
  prunable L t spare' h laid laid_is =
      let (count, within, cells) = laid_next t spare' h in
      let fits : length (listed m n (next_round m n register es)) ≤ length table.cells.now = omega (arith, count, within) in (
        fits,
        record {
          small = R.small;
          values = next_values m L n es R.in_order register R.registered;
          laid_is = laid_is ∙ used_is (blank_entry m) (length table.cells.now) spare'.count spare'.cells.now (listed m n (next_round m n register es)) count cells;
          fits = fits;
          count_is = R.count_is;
          count_within = R.count_within;
          table_is = R.table_is;
        },
      )
