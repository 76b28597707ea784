-- What the next turn of a builder begins with: how many turns were accepted since the book was last open, the entries that they left,
-- and that only want of places can refuse it.
use Rattle.std.specs.Prelude.{◌≡◌, ℕ, suc, ◌<◌, length}
use Rattle.theory.specs.declared.Phase.{Phase}
use Rattle.theory.specs.declared.Phase.TheVariants.{Open, Rounds, Roots, Finished}
use Rattle.theory.specs.Measures.{Meaning}
use Rattle.theory.specs.Rounds.{after_rounds}
use Rattle.theory.specs.Books.{View, root_entries, root_refusal, round_refusal, places_refusal, generated_size, roots_done, rounds_done}

-- the next root of the book is r
pub record NextRoot {V : Type 0} (m : Meaning V) (v : View V) (r : ℕ) : Type 0 where
  pub below : r < v.sheets
  pub roots_are : roots_done v.phase ≡ r
  pub entries_are : v.entries ≡ root_entries m v r
  pub only_places : root_refusal m v v.phase ≡ places_refusal v (length (root_entries m v (suc r)))

-- the next round of the book comes after k others
pub record NextRound {V : Type 0} (m : Meaning V) (v : View V) (k : ℕ) : Type 0 where
  pub below : k < v.sheets
  pub rounds_are : rounds_done v.phase ≡ k
  pub entries_are : v.entries ≡ after_rounds m v.sheets v.redraws k
  pub only_places : round_refusal m v v.phase ≡ places_refusal v (generated_size m v k)

-- a book that is in rounds has had fewer rounds than it has sheets
abbrev pub FewRounds : ℕ → Phase → Type 0
FewRounds n Open = Unit {0}
FewRounds n (Rounds k) = k < n
FewRounds n (Roots r) = Unit {0}
FewRounds n Finished = Unit {0}
