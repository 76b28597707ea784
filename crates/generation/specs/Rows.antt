-- The rows of a table. For each junior sheet the out entries, then the in entries, each by senior sheet: these are the rows, one after the other.
use Rattle.std.specs.Prelude.{◌≡◌, ℕ, zero, suc, ◌<◌, ◌≤◌, cond, List, [], ◌∷◌, ◌++◌, replicate, slice_index_or}
use Rattle.theory.specs.declared.Entry.{Entry}
use Rattle.theory.specs.declared.Way.{Way}
use Rattle.theory.specs.declared.Way.TheVariants.{Out, In}
use Rattle.theory.specs.Measures.{Meaning, some}
use Rattle.theory.specs.Tables.{outs, ins}
use Rattle.theory.specs.Searches.{new_entry}
use Rattle.generation.specs.declared.source.Source.{Source}
use Rattle.generation.specs.Laying.{Takeable}

-- the pairs of a row
abbrev pub row_pairs : Way → ℕ → List (ℕ × ℕ)
row_pairs Out j = outs j j
row_pairs In j = ins j j

-- the entry between the junior sheet j and s, if s was offered a value
abbrev pub row_at : {V : Type 0} → Meaning V → Way → ℕ → List V → ℕ → List (Entry V)
row_at m way j work s = cond (some m (slice_index_or work s m.none)) (new_entry way j s (slice_index_or work s m.none) ∷ []) []

-- the entries between j and the sheets below k, in order
abbrev pub row_below : {V : Type 0} → Meaning V → Way → ℕ → List V → ℕ → List (Entry V)
row_below m way j work zero = []
row_below m way j work (suc s) = row_below m way j work s ++ row_at m way j work s

-- a row of j can be laid over n sheets: from what a round can take, with the work strip blank
pub record Rowable {V : Type 0} (m : Meaning V) (n : ℕ) (source : Source V) (j : ℕ) (work : List V) : Type 0 where
  pub small : n ≤ 65536
  pub takeable : Takeable m n source
  pub junior_below : j < n
  pub work_blank : work ≡ replicate n m.none
