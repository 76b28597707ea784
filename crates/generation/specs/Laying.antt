-- The first half of a round: the table that it generates is laid in the spare strip.
use Rattle.std.specs.Prelude.{◌≡◌, ℕ, ◌<◌, ◌≤◌, Bool, true, false, List, length, replicate}
use Rattle.theory.specs.declared.Entry.{Entry}
use Rattle.theory.specs.Measures.{Meaning}
use Rattle.theory.specs.Chains.{Register}
use Rattle.theory.specs.Tables.{Table, listed, held}
use Rattle.theory.specs.Order.{blank_entry, key_of, Sorted}
use Rattle.theory.specs.Rounds.{first_generated, generated}
use Rattle.theory.specs.Books.{padded}
use Rattle.tables.specs.Places.{Rising}
use Rattle.strips.specs.declared.Strip.{Strip}
use Rattle.generation.specs.declared.source.Source.{Source}
use Rattle.generation.specs.declared.source.Source.TheVariants.{Redraws, Entries}

-- what the next round generates: from the redraws, which it takes from an open book, the best redraw values, otherwise the best of the present entries and their joins
abbrev pub next_generated : {V : Type 0} → Meaning V → ℕ → Source V → Table V
next_generated m n (Redraws rs) = first_generated m rs.now
next_generated m n (Entries es) = generated m n (held m es.now)

-- what a row can be relaxed from: any redraws, or entries whose keys rise
abbrev pub Relaxable : {V : Type 0} → Source V → Type 0
Relaxable (Redraws rs) = Unit {0}
Relaxable (Entries es) = Rising key_of es.now

-- what a round over n sheets can take: a register of n sheets, or entries that stand in order
abbrev pub Takeable : {V : Type 0} → Meaning V → ℕ → Source V → Type 0
Takeable m n (Redraws rs) = Register n rs.now
Takeable m n (Entries es) = Sorted m n es.now

-- a round can be generated over n sheets: from what it can take, with spare and work blank
pub record Layable {V : Type 0} (m : Meaning V) (n : ℕ) (source : Source V) (spare : Strip (Entry V)) (work : List V) : Type 0 where
  pub small : n ≤ 65536
  pub takeable : Takeable m n source
  pub spare_empty : spare.count ≡ 0
  pub spare_blank : spare.cells.now ≡ replicate (length spare.cells.now) (blank_entry m)
  pub work_blank : work ≡ replicate n m.none

-- the listing of g was laid in a strip of so many places, the rest of it blank, where the answer is true; where it is false the listing exceeds the places
abbrev pub Laid : {V : Type 0} → Meaning V → ℕ → Table V → ℕ → Bool → Strip (Entry V) → Type 0
Laid m n g places false spare' = places < length (listed m n g)
Laid m n g places true spare' = (spare'.count ≡ length (listed m n g)) × (spare'.count ≤ places) × (spare'.cells.now ≡ padded (blank_entry m) places (listed m n g))
