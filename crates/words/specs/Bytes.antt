-- What a search forward in a list of bytes finds: the first place, at or after the one that it begins from, with the byte that is
-- looked for. Where there is none it ends at the list's length, and where it begins past the end it stays where it began.
use Rattle.std.specs.Prelude.{◌≡◌, ℕ, ◌<◌, ◌≤◌, max, List, length, ◌≢◌, slice_index}

-- the place is the next one at or after from whose byte is b, or the end
pub record NextAt (bytes : List ℕ) (b from place : ℕ) : Type 0 where
  pub after : from ≤ place
  pub within : place ≤ max from (length bytes)
  pub before : (k : ℕ) → from ≤ k → k < place → slice_index bytes k ≢ b
  pub there : place < length bytes → slice_index bytes place ≡ b

-- the place is the next one at or after from whose byte is not b, or the end
pub record NextOther (bytes : List ℕ) (b from place : ℕ) : Type 0 where
  pub after : from ≤ place
  pub within : place ≤ max from (length bytes)
  pub before : (k : ℕ) → from ≤ k → k < place → slice_index bytes k ≡ b
  pub there : place < length bytes → slice_index bytes place ≢ b
