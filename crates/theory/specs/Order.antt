-- The order of a table, place by place. One number, the key of a pair, says which of two entries stands first:
-- by junior sheet, then out before in, then by senior sheet. Sheet numbers are below 65,536.
use Rattle.std.specs.Prelude.{◌≡◌, ℕ, ◌+◌, ◌*◌, ◌<◌, true, cond, List, length, nat_lt, slice_index_or}
use Rattle.theory.specs.declared.Entry.{Entry}
use Rattle.theory.specs.Measures.{Meaning, some}
use Rattle.theory.specs.Tables.{Table, entry}

-- the key of the ordered pair u, v: junior sheet, then out (0) before in (65,536), then senior sheet
abbrev pub key : ℕ → ℕ → ℕ
key u v = cond (nat_lt v u) (u * 131072 + v) (v * 131072 + 65536 + u)

-- the key of an entry
abbrev pub key_of : {V : Type 0} → Entry V → ℕ
key_of e = key e.from e.to

-- the blank entry
abbrev pub blank_entry : {V : Type 0} → Meaning V → Entry V
blank_entry m = entry 0 0 m.none

-- an entry that a table over n sheets may hold: two different sheets, and a value other than none
pub record LawfulEntry {V : Type 0} (m : Meaning V) (n : ℕ) (e : Entry V) : Type 0 where
  pub from_below : e.from < n
  pub to_below : e.to < n
  pub differ : e.from ≡ e.to → ⊥
  pub is_value : m.valid e.value ≡ true
  pub is_some : some m e.value ≡ true

-- es is a table over n sheets in order, said place by place: every entry may stand in it, and the keys rise
pub record Sorted {V : Type 0} (m : Meaning V) (n : ℕ) (es : List (Entry V)) : Type 0 where
  pub each : (i : ℕ) (d : Entry V) → i < length es → LawfulEntry m n (slice_index_or es i d)
  pub rises : (i j : ℕ) (d : Entry V) → i < j → j < length es → key_of (slice_index_or es i d) < key_of (slice_index_or es j d)

-- one table laid over another: its entries, and the other's where it has none
abbrev pub overlaid : {V : Type 0} → Meaning V → Table V → Table V → Table V
overlaid m f g u v = cond (some m (f u v)) (f u v) (g u v)
