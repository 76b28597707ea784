-- The turn of the round builder: the table of the next round is generated in the spare strip and pruned into the table strip.
use Rattle.std.specs.Prelude.{◌≡◌, ℕ, ◌<◌, ◌≤◌, Bool, List, length, replicate, Some, None, Ok, Err, Option, Result}
use Rattle.std.specs.Borrow.{Bor}
use Rattle.theory.specs.declared.Redraw.{Redraw}
use Rattle.theory.specs.declared.Entry.{Entry}
use Rattle.theory.specs.Measures.{Meaning}
use Rattle.theory.specs.Chains.{Register}
use Rattle.theory.specs.Tables.{Table, listed, held}
use Rattle.theory.specs.Order.{blank_entry, Sorted}
use Rattle.theory.specs.Rounds.{first_generated, generated}
use Rattle.theory.specs.Books.{padded}
use Rattle.strips.specs.declared.Strip.{Strip}
use Rattle.strips.specs.declared.Full.{Full}
use Rattle.pruning.specs.Leaving.{PrunedInto}

-- what the next round generates: with the register of an open book the best redraw values, otherwise the best of the present entries and their joins
abbrev pub next_round : {V : Type 0} → Meaning V → ℕ → Option (Bor (List Redraw)) → List (Entry V) → Table V
next_round m n (Some rs) es = first_generated m rs.now
next_round m n None es = generated m n (held m es)

-- a register, if one is given, is one of n sheets
abbrev pub Registered : ℕ → Option (Bor (List Redraw)) → Type 0
Registered n (Some rs) = Register n rs.now
Registered n None = Unit {0}

-- a round can be laid: the table strip holds the present entries es, the rest of it blank, spare and work are blank
pub record Roundable {V : Type 0} (m : Meaning V) (n : ℕ) (register : Option (Bor (List Redraw))) (es : List (Entry V)) (table spare : Strip (Entry V)) (work : List V) : Type 0 where
  pub small : n ≤ 65536
  pub registered : Registered n register
  pub in_order : Sorted m n es
  pub count_is : table.count ≡ length es
  pub count_within : table.count ≤ length table.cells.now
  pub table_is : table.cells.now ≡ padded (blank_entry m) (length table.cells.now) es
  pub spare_empty : spare.count ≡ 0
  pub spare_blank : spare.cells.now ≡ replicate (length table.cells.now) (blank_entry m)
  pub work_blank : work ≡ replicate n m.none

-- the round was laid, the generated table being within the places; or the generated table, before pruning, exceeds the places, and the table strip is as it was
abbrev pub LaidRound : {V : Type 0} → Meaning V → ℕ → Table V → List (Entry V) → Strip (Entry V) → Result Bool Full → Strip (Entry V) → Type 0
LaidRound m n g es table (Err e) table' = (length table.cells.now < length (listed m n g)) × (table'.cells.now ≡ table.cells.now) × (table'.count ≡ table.count)
LaidRound m n g es table (Ok same) table' = (length (listed m n g) ≤ length table.cells.now) × PrunedInto m n g es (length table.cells.now) same table'
