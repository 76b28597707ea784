use Rattle.std.proofs.Common.{arith, rules}
use Rattle.std.proofs.lemmas.Grind.{common_steps}
use Rattle.book.proofs.book.Book.enter.Goals as goal

pub returns-clause-called : goal.returns-clause-called
returns-clause-called g c = λ K. (
  record { callable = tt; answers = search rules; leaves = search rules },
  record {
    redraws_counted = search rules;
    entries_counted = search rules;
    strips_laid_out = grind (arith, common_steps);
    sound = grind (arith, common_steps);
  },
)
