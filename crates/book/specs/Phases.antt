-- How the phase of a book goes on when a call is taken. An enter or a clear opens the book; a builder's turn that ends the building
-- finishes it, and any other turn is one more round or one more root. Numbers stop at the largest that 32 bits hold.
use Rattle.std.specs.Prelude.{ℕ, ◌+◌, ◌-◌, ◌^◌, min}
use Rattle.theory.specs.declared.Phase as phases
use Rattle.theory.specs.declared.Phase.{Phase}
use Rattle.theory.specs.declared.Progress.TheVariants.{Open, Finished}
use Rattle.theory.specs.Books.{rounds_done, roots_done}
use Rattle.book.specs.declared.phase.Taken.{Taken}
use Rattle.book.specs.declared.phase.Taken.TheVariants.{Enter, Clear, Round, Root}

-- one more
abbrev pub one_more : ℕ → ℕ
one_more k = min (k + 1) (2 ^ 32 - 1)

-- the phase after a call that is taken
abbrev pub advanced : Phase → Taken → Phase
advanced p Enter = phases.TheVariants.Open
advanced p Clear = phases.TheVariants.Open
advanced p (Round Finished) = phases.TheVariants.Finished
advanced p (Round Open) = phases.TheVariants.Rounds (one_more (rounds_done p))
advanced p (Root Finished) = phases.TheVariants.Finished
advanced p (Root Open) = phases.TheVariants.Roots (one_more (roots_done p))
