-- The other direction. A search towards a sheet is a search from it with every redraw turned round and every join the other way round.
use Rattle.theory.specs.declared.Redraw.{Redraw}
use Rattle.theory.specs.Measures.{Meaning}
use Rattle.theory.specs.Tables.{Table}

-- a redraw turned round
abbrev pub turned : Redraw → Redraw
turned r = record { from = r.to; to = r.from; minutes = r.minutes; grade = r.grade }

-- a table turned round
abbrev pub flipped : {V : Type 0} → Table V → Table V
flipped f u v = f v u

-- the measure that joins the other way round
abbrev pub mirror : {V : Type 0} → Meaning V → Meaning V
mirror m = record { worth = λ r. m.worth (turned r); empty = m.empty; none = m.none; join = λ a b. m.join b a; better = m.better; valid = m.valid }
