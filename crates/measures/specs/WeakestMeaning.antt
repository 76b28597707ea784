-- Weakest: a redraw is worth its grade, a chain has the lowest grade of its redraws, and a higher grade is better.
-- Grades go from 1 (poorest) to 5 (cleanest), so 0 can stand for none.
use Rattle.std.specs.Prelude.{ℕ, min, nat_le, nat_lt}
use Rattle.theory.specs.Measures.{Meaning}
use Rattle.measures.specs.declared.weakest.Weakest.{Weakest}

-- a grade as a value
abbrev pub weakest_of : ℕ → Weakest
weakest_of g = record { grade = g }

-- the answers of weakest
abbrev pub weakest_meaning : Meaning Weakest
weakest_meaning = record {
  worth = λ r. weakest_of r.grade;
  empty = weakest_of 5;
  none = weakest_of 0;
  join = λ a b. weakest_of (min a.grade b.grade);
  better = λ a b. nat_lt b.grade a.grade;
  valid = λ a. nat_le a.grade 5;
}
