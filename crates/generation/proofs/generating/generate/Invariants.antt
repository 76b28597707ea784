use Rattle.std.proofs.Common.{◌≡◌, true, length, replicate}
use Rattle.theory.specs.Measures.{Lawful}
use Rattle.theory.specs.Tables.{listed}
use Rattle.generation.specs.Laying.{next_generated, Layable}
use Rattle.strips.specs.Strips.{Lengthened}
use Rattle.generation.specs.Putting.{Put}
use Rattle.generation.proofs.generating.generate.Given as goal

-- the rows of the junior sheets so far are laid, and the work strip is blank
abbrev pub invariant-loop-junior : goal.invariant-loop-junior
invariant-loop-junior g l =
    Lengthened l.fn.spare l.spare
    × (l.work ≡ replicate (length l.fn.work) g.M.Measure.meaning.none)
    × (Lawful g.M.Measure.meaning → Layable g.M.Measure.meaning l.sheets l.source l.fn.spare l.fn.work → Put l.fn.spare (listed g.M.Measure.meaning l.junior (next_generated g.M.Measure.meaning l.sheets l.source)) true l.spare)
