-- The turns of a search: the sheet nearest to the root so far, and what settling it does to work and marks.
use Rattle.std.specs.Prelude.{◌≡◌, ℕ, suc, ◌+◌, ◌<◌, ◌≤◌, cond, ◌&&◌, List, ◌++◌, length, take, drop, replicate, Some, None, Option, Ok, Err, Result, slice_index_or}
use Rattle.theory.specs.declared.Redraw.{Redraw}
use Rattle.theory.specs.declared.Entry.{Entry}
use Rattle.theory.specs.declared.Way.{Way}
use Rattle.theory.specs.declared.Way.TheVariants.{Out, In}
use Rattle.theory.specs.Measures.{Meaning}
use Rattle.theory.specs.Chains.{Register, best}
use Rattle.theory.specs.Tables.{rooted, listed}
use Rattle.theory.specs.Order.{blank_entry}
use Rattle.theory.specs.Books.{padded}
use Rattle.theory.specs.Searches.{unsettled, value_at, Run}
use Rattle.strips.specs.Strips.{Added}

-- the sheet if it is unsettled and better than the one found so far, else that one
abbrev pub nearer_of : {V : Type 0} → Meaning V → List V → List ℕ → ℕ → Option ℕ → Option ℕ
nearer_of m work marks sheet found = cond (unsettled marks sheet && m.better (slice_index_or work sheet m.none) (value_at m work found)) (Some sheet) found

-- a search from the root r can begin: the register is one of n sheets, and the table is the one after r roots
pub record Ready {V : Type 0} (m : Meaning V) (n : ℕ) (rs : List Redraw) (es : List (Entry V)) (r : ℕ) : Type 0 where
  pub small : n ≤ 65536
  pub register : Register n rs
  pub root_below : r < n
  pub table : es ≡ listed m n (rooted m r (best m n rs))

-- the run of one way was written into the spare strip, or does not fit
abbrev pub Gathered : {V : Type 0} → Meaning V → ℕ → List Redraw → ℕ → Way → List (Entry V) → ℕ → Option ℕ → List (Entry V) → Type 0
Gathered {V} m n rs r way spare count end spare' = (run : List (Entry V)) × Run m n rs r way run × Added spare count run end spare'

-- both runs stand in the spare strip, one after the other, the rest as it was; or they do not fit
abbrev pub Both : {V : Type 0} → List (Entry V) → List (Entry V) → List (Entry V) → Option (ℕ × ℕ) → List (Entry V) → Type 0
Both spare outs ins None spare' = length spare < length outs + length ins
Both spare outs ins (Some ends) spare' = (ends.0 ≡ length outs) × (ends.1 ≡ length outs + length ins) × (ends.1 ≤ length spare)
    × (take ends.1 spare' ≡ outs ++ ins) × (drop ends.1 spare' ≡ drop ends.1 spare)

abbrev pub BothGathered : {V : Type 0} → Meaning V → ℕ → List Redraw → ℕ → List (Entry V) → Option (ℕ × ℕ) → List (Entry V) → Type 0
BothGathered {V} m n rs r spare ends spare' = (outs : List (Entry V)) × (ins : List (Entry V)) × Run m n rs r Out outs × Run m n rs r In ins × Both spare outs ins ends spare'

-- the ends of the two runs, by the answer to the call: where the first ends, and how many entries are in use
abbrev pub both_ends : {E : Type 0} → Result ℕ E → ℕ → Option (ℕ × ℕ)
both_ends (Ok middle) end = Some (middle, end)
both_ends (Err e) end = None

-- the root r can be built: the table holds the entries after r roots, the rest of it, spare, work and marks are blank
pub record Buildable {V : Type 0} (m : Meaning V) (n : ℕ) (rs : List Redraw) (r places count : ℕ) (table spare : List (Entry V)) (work : List V) (marks : List ℕ) : Type 0 where
  pub small : n ≤ 65536
  pub register : Register n rs
  pub root_below : r < n
  pub count_is : count ≡ length (listed m n (rooted m r (best m n rs)))
  pub count_within : count ≤ places
  pub table_is : table ≡ padded (blank_entry m) places (listed m n (rooted m r (best m n rs)))
  pub spare_blank : spare ≡ replicate places (blank_entry m)
  pub work_blank : work ≡ replicate n m.none
  pub marks_zero : marks ≡ replicate n 0

-- the root was built: the table holds the entries after r + 1 roots; or these exceed the places, and the table is as it was
abbrev pub BuiltRoot : {V : Type 0} → Meaning V → ℕ → List Redraw → ℕ → ℕ → List (Entry V) → Option ℕ → List (Entry V) → Type 0
BuiltRoot m n rs r places table None table' = (places < length (listed m n (rooted m (suc r) (best m n rs)))) × (table' ≡ table)
BuiltRoot m n rs r places table (Some count) table' = (count ≡ length (listed m n (rooted m (suc r) (best m n rs)))) × (count ≤ places) × (table' ≡ padded (blank_entry m) places (listed m n (rooted m (suc r) (best m n rs))))
