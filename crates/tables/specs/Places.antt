-- Tables read place by place. The entries of a list rise in a number read off each of them, as their key;
-- then the first place whose key is not below a given one splits the list in two, and the keys between two bounds fill one part of it.
use Rattle.std.specs.Prelude.{◌≡◌, ℕ, ◌<◌, ◌≤◌, List, length, slice_index_or}
use Rattle.std.specs.List.{between}
use Rattle.theory.specs.declared.Entry.{Entry}
use Rattle.theory.specs.Order.{key_of}

-- the number that is read off an entry rises from place to place
abbrev pub Rising : {V : Type 0} → (Entry V → ℕ) → List (Entry V) → Type 0
Rising {V} number es = (i j : ℕ) (d : Entry V) → i < j → j < length es → number (slice_index_or es i d) < number (slice_index_or es j d)

-- r is the first place of es whose key is not below k: all keys before it are below k, and no other is
pub record FirstAt {V : Type 0} (es : List (Entry V)) (k r : ℕ) : Type 0 where
  pub before : (i : ℕ) (d : Entry V) → i < r → key_of (slice_index_or es i d) < k
  pub after : (i : ℕ) (d : Entry V) → r ≤ i → i < length es → k ≤ key_of (slice_index_or es i d)

-- part is the part of es whose keys are not below low and below high
pub record Part {V : Type 0} (es : List (Entry V)) (low high : ℕ) (part : List (Entry V)) : Type 0 where
  pub first : ℕ
  pub last : ℕ
  pub in_order : first ≤ last
  pub within : last ≤ length es
  pub begins : FirstAt es low first
  pub ends : FirstAt es high last
  pub is : part ≡ between first last es
