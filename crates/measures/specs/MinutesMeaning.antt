-- Minutes: a redraw is worth its minutes, values join by their sum, and fewer minutes are better.
-- 4,294,967,295 stands for none, so a chain of so many minutes or more counts as none.
use Rattle.std.specs.Prelude.{ℕ, ◌+◌, cond, nat_le, nat_lt}
use Rattle.theory.specs.Measures.{Meaning}
use Rattle.measures.specs.declared.minutes.Minutes.{Minutes}

-- a number of minutes as a value
abbrev pub minutes_of : ℕ → Minutes
minutes_of n = record { minutes = n }

-- the number that stands for none
abbrev pub minutes_none : ℕ
minutes_none = 4294967295

-- two numbers of minutes joined: their sum, or none from 4,294,967,295 up
abbrev pub minutes_sum : ℕ → ℕ → ℕ
minutes_sum a b = cond (nat_le minutes_none (a + b)) minutes_none (a + b)

-- the answers of minutes
abbrev pub minutes_meaning : Meaning Minutes
minutes_meaning = record {
  worth = λ r. minutes_of r.minutes;
  empty = minutes_of 0;
  none = minutes_of minutes_none;
  join = λ a b. minutes_of (minutes_sum a.minutes b.minutes);
  better = λ a b. nat_lt a.minutes b.minutes;
  valid = λ a. nat_le a.minutes minutes_none;
}
