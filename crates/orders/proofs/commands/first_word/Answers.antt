use Rattle.words.specs.Tokens.{word_at}
use Rattle.orders.proofs.Naming.{named_by_digits}
use Rattle.orders.proofs.commands.first_word.Goals as goal

pub returns-in-Number : goal.returns-in-Number
returns-in-Number c = named_by_digits (word_at c.args.line.now c.args.place) c.in-Number.ensures.1
