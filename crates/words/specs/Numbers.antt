-- Numbers as an order sheet writes them: one to ten digits (bytes 48 to 57) in base ten, the first digit the most significant. Leading
-- zeros are fine within the ten digits. A number is at most 4,294,967,295.
use Rattle.std.specs.Prelude.{ℕ, ◌+◌, ◌-◌, ◌*◌, Bool, cond, ◌&&◌, List, [], ◌∷◌, length, Some, None, Option, nat_le}
use Rattle.std.specs.Str.{all_ascii_digits}

-- the number that digits write after those that wrote n
abbrev pub value_after : ℕ → List ℕ → ℕ
value_after n [] = n
value_after n (d ∷ ds) = value_after (n * 10 + (d - 48)) ds

-- the number that digits write in base ten
abbrev pub value : List ℕ → ℕ
value ds = value_after 0 ds

-- whether the bytes are a number of the order sheets
abbrev pub is_number : List ℕ → Bool
is_number ds = (nat_le 1 (length ds) && nat_le (length ds) 10) && (all_ascii_digits ds && nat_le (value ds) 4294967295)

-- the number that the bytes write, if they are one
abbrev pub number_of : List ℕ → Option ℕ
number_of ds = cond (is_number ds) (Some (value ds)) None
