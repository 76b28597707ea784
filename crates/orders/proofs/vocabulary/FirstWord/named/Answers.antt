use Rattle.std.proofs.Common.{rules}
use Rattle.std.proofs.lemmas.Iterator.{YieldsList-from_slice}
use Rattle.std.proofs.lemmas.Iterator.Consumers.{YieldsList-from_copied}
use Rattle.std.proofs.lemmas.Iterator.Search.{find_from_yields_List}
use Rattle.std.specs.Str.{bytes_eq}
use Rattle.orders.specs.Vocabulary.{spelling, first_words}
use Rattle.orders.proofs.Naming.{spelled_found}
use Rattle.orders.proofs.vocabulary.FirstWord.named.Goals as goal

pub returns : goal.returns
returns c =
    spelled_found c.args.name.now first_words c.find.result
    (find_from_yields_List (λ w. bytes_eq c.args.name.now (spelling w)) _ _ _ c.find.ensures.ran (YieldsList-from_copied (YieldsList-from_slice first_words (search rules))) (λ x b q k. search rules))
