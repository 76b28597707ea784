-- Merging two runs of entries whose keys rise. Two runs can be merged if the keys rise in each and no key stands in both.
-- The merged run has every entry of the two and no other, with rising keys, and is as long as both together.
use Rattle.std.specs.Prelude.{◌≡◌, ℕ, ◌+◌, ◌<◌, ◌⊎◌, List, length, ◌≢◌, slice_index_or}
use Rattle.theory.specs.declared.Entry.{Entry}
use Rattle.theory.specs.Order.{key_of}
use Rattle.theory.specs.Chains.{Among}

-- the keys rise from place to place
abbrev pub Rising : {V : Type 0} → List (Entry V) → Type 0
Rising {V} es = (a b : ℕ) (d : Entry V) → a < b → b < length es → key_of (slice_index_or es a d) < key_of (slice_index_or es b d)

-- no key stands in both lists
abbrev pub Apart : {V : Type 0} → List (Entry V) → List (Entry V) → Type 0
Apart {V} xs ys = (a b : ℕ) (d : Entry V) → a < length xs → b < length ys → key_of (slice_index_or xs a d) ≢ key_of (slice_index_or ys b d)

-- the two lists can be merged
pub record Mergeable {V : Type 0} (xs ys : List (Entry V)) : Type 0 where
  pub first_rises : Rising xs
  pub second_rises : Rising ys
  pub apart : Apart xs ys

-- zs is the two lists xs and ys merged
pub record Merged {V : Type 0} (xs ys zs : List (Entry V)) : Type 0 where
  pub rises : Rising zs
  pub size : length zs ≡ length xs + length ys
  pub from_either : (e : Entry V) → Among e zs → Among e xs ⊎ Among e ys
  pub has_first : (e : Entry V) → Among e xs → Among e zs
  pub has_second : (e : Entry V) → Among e ys → Among e zs
