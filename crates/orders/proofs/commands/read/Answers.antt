use Rattle.std.proofs.Common.{arith}
use Rattle.orders.proofs.Lines.{unturned, commanded}
use Rattle.orders.proofs.commands.read.Goals as goal

pub returns-then-opened-opens : goal.returns-then-opened-opens
returns-then-opened-opens c =
    unturned c.args.line.now c.args.places.now _ c.args.opened (omega arith) c.first_word.result c.first_word.ensures c.in_ok-word.word _ c.in_ok-word.ensures.value
    c.in_ok-command.command c.in_ok-command.ensures c.opens.result c.opens.ensures c.if-opened-opens.true

pub returns : goal.returns
returns c =
    commanded c.args.line.now c.args.places.now _ c.args.opened (omega arith) c.first_word.result c.first_word.ensures c.in_ok-word.word _ c.in_ok-word.ensures.value
    c.in_ok-command.command c.in_ok-command.ensures c.opens.result c.opens.ensures c.if-opened-opens.false
