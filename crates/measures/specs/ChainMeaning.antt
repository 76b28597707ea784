-- Chain: a redraw is one step of its own grade, steps add up, and a chain has the lowest grade of its redraws.
-- Fewer steps are better, and of as many steps the higher grade. None is a value of its own,
-- and a chain of 65,535 steps or more counts as none.
use Rattle.std.specs.Prelude.{ℕ, ◌+◌, min, Bool, true, false, cond, ◌&&◌, ◌||◌, ◌==◌, nat_le, nat_lt}
use Rattle.theory.specs.Measures.{Meaning}
use Rattle.measures.specs.declared.chain.Chain.{Chain}
use Rattle.measures.specs.declared.chain.Chain.TheVariants.{None, Steps}

-- so many steps of that lowest grade as a value: none from 65,535 steps up
abbrev pub chain_of : ℕ → ℕ → Chain
chain_of s g = cond (nat_lt s 65535) (Steps s g) None

-- two values joined: the steps together, and the lower grade
abbrev pub chain_join : Chain → Chain → Chain
chain_join None b = None
chain_join (Steps s g) None = None
chain_join (Steps s g) (Steps t h) = chain_of (s + t) (min g h)

-- the first value is better: it has fewer steps, or as many and a higher grade; all but none are better than none
abbrev pub chain_better : Chain → Chain → Bool
chain_better None b = false
chain_better (Steps s g) None = true
chain_better (Steps s g) (Steps t h) = nat_lt s t || (s == t && nat_lt h g)

-- a value: none, or fewer than 65,535 steps and a grade of at most 5
abbrev pub chain_valid : Chain → Bool
chain_valid None = true
chain_valid (Steps s g) = nat_lt s 65535 && nat_le g 5

-- the answers of chain
abbrev pub chain_meaning : Meaning Chain
chain_meaning = record {
  worth = λ r. Steps 1 r.grade;
  empty = Steps 0 5;
  none = None;
  join = chain_join;
  better = chain_better;
  valid = chain_valid;
}
