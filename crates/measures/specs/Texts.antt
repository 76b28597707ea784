-- How a value prints: minutes as their number, a chain as its steps and its grade parted by a space,
-- weakest as its grade, and none of each measure as the word none.
use Rattle.std.specs.Prelude.{ℕ, cond, List, ◌++◌, codes, decimal, ◌==◌}
use Rattle.measures.specs.declared.chain.Chain.{Chain}
use Rattle.measures.specs.declared.chain.Chain.TheVariants.{None, Steps}
use Rattle.measures.specs.declared.minutes.Minutes.{Minutes}
use Rattle.measures.specs.declared.weakest.Weakest.{Weakest}
use Rattle.measures.specs.MinutesMeaning.{minutes_none}

-- the text of minutes: their number, or none
abbrev pub minutes_text : Minutes → List ℕ
minutes_text v = cond (v.minutes == minutes_none) (codes "none") (decimal v.minutes)

-- the text of a chain: steps, a space and the grade, or none
abbrev pub chain_text : Chain → List ℕ
chain_text None = codes "none"
chain_text (Steps s g) = decimal s ++ (codes " " ++ decimal g)

-- the text of weakest: its grade, or none
abbrev pub weakest_text : Weakest → List ℕ
weakest_text v = cond (v.grade == 0) (codes "none") (decimal v.grade)
