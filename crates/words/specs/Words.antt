-- The words of a line. A word is a part of its line without spaces (byte 32), as long as it can be: it begins where the line begins or
-- after a space, and it ends where the line ends or before a space. A line's words are all of them, in their order.
use Rattle.std.specs.Prelude.{◌≡◌, ℕ, ◌-◌, ◌<◌, ◌≤◌, ◌⊎◌, List, [], ◌∷◌, length, ◌≢◌, slice_index}
use Rattle.std.specs.List.{AllByRecursion}
use Rattle.words.specs.declared.split.Place.{Place}

-- the place holds a word of the line
pub record IsWord (line : List ℕ) (p : Place) : Type 0 where
  pub some : p.start < p.end
  pub within : p.end ≤ length line
  pub solid : (k : ℕ) → p.start ≤ k → k < p.end → slice_index line k ≢ 32
  pub begins : (p.start ≡ 0) ⊎ (slice_index line (p.start - 1) ≡ 32)
  pub ends : (p.end ≡ length line) ⊎ (slice_index line p.end ≡ 32)

-- the place is one of those listed
abbrev pub Listed : Place → List Place → Type 0
Listed p [] = ⊥
Listed p (q ∷ qs) = (p ≡ q) ⊎ Listed p qs

-- each place ends before those listed after it start
abbrev pub Ascending : List Place → Type 0
Ascending [] = Unit {0}
Ascending (p ∷ ps) = AllByRecursion (λ q. p.end < q.start) ps × Ascending ps

-- the places are those of the line's words: each is a word, every word is listed, and they ascend
pub record WordsOf (line : List ℕ) (places : List Place) : Type 0 where
  pub each : AllByRecursion (IsWord line) places
  pub every : (p : Place) → IsWord line p → Listed p places
  pub ascending : Ascending places

-- no other list of places is that of the line's words
abbrev pub Only : List ℕ → List Place → Type 0
Only line places = (others : List Place) → WordsOf line others → others ≡ places
