-- One walk over two sorted lists. An out entry and an in entry match if the first ends at the sheet where the second begins;
-- the walk gives the best of a start value and the joins of all matches.
-- Over the out entries of one sheet and the in entries of another it gives the best join over the sheets senior to both.
use Rattle.std.specs.Prelude.{◌≡◌, ℕ, ◌<◌, min, ◌⊎◌, List, length, slice_index_or}
use Rattle.theory.specs.declared.Entry.{Entry}
use Rattle.theory.specs.Measures.{Meaning, Value, NotWorse, best_below}
use Rattle.theory.specs.Tables.{Table}
use Rattle.tables.specs.Places.{Rising}

-- every entry holds a value of the measure
abbrev pub Values : {V : Type 0} → Meaning V → List (Entry V) → Type 0
Values {V} m es = (i : ℕ) (d : Entry V) → i < length es → Value m (slice_index_or es i d).value

-- the out entry at p ends at the sheet where the in entry at q begins
pub record Match {V : Type 0} (outs ins : List (Entry V)) (p q : ℕ) : Type 0 where
  pub out_within : p < length outs
  pub in_within : q < length ins
  pub meets : (d : Entry V) → (slice_index_or outs p d).to ≡ (slice_index_or ins q d).from

-- the join of the out entry at p and the in entry at q
abbrev pub join_at : {V : Type 0} → Meaning V → List (Entry V) → List (Entry V) → ℕ → ℕ → Entry V → V
join_at m outs ins p q d = m.join (slice_index_or outs p d).value (slice_index_or ins q d).value

-- r is the start value, or the join of some match
abbrev pub Attained : {V : Type 0} → Meaning V → List (Entry V) → List (Entry V) → V → V → Type 0
Attained {V} m outs ins start r = (r ≡ start) ⊎ ((p : ℕ) × (q : ℕ) × Match outs ins p q × ((d : Entry V) → r ≡ join_at m outs ins p q d))

-- what the walk rests on: values, and lists that rise in the sheet where an out entry ends and an in entry begins
pub record Walkable {V : Type 0} (m : Meaning V) (outs ins : List (Entry V)) (start : V) : Type 0 where
  pub start_is_value : Value m start
  pub outs_are_values : Values m outs
  pub ins_are_values : Values m ins
  pub outs_rise : Rising (λ e. e.to) outs
  pub ins_rise : Rising (λ e. e.from) ins

-- r is the best of the start value and the joins of all matches
pub record Walked {V : Type 0} (m : Meaning V) (outs ins : List (Entry V)) (start r : V) : Type 0 where
  pub is_value : Value m r
  pub not_worse_than_start : NotWorse m r start
  pub not_worse : (p q : ℕ) (d : Entry V) → Match outs ins p q → NotWorse m r (join_at m outs ins p q d)
  pub attained : Attained m outs ins start r

-- the best join of the entries s → w and w → t of a table with w senior to both
abbrev pub over_seniors : {V : Type 0} → Meaning V → Table V → ℕ → ℕ → V
over_seniors m f s t = best_below m (min s t) (λ w. m.join (f s w) (f w t))
