use Rattle.std.proofs.Common.{get_or, Err, ap, ◌∙◌, arith}
use Rattle.std.proofs.lemmas.Result.{err_from_is_err_and}
use Rattle.orders.specs.declared.vocabulary.FirstWord.TheVariants as word
use Rattle.orders.proofs.Numbering.{nowhere, at_two, at_four, look_second, look_read, redraw_second, redraw_third, redraw_fourth, redraw_read}
use Rattle.orders.proofs.commands.command_at.Goals as goal

pub returns-in_err-number_at-in-Redraw-len4-2 : goal.returns-in_err-number_at-in-Redraw-len4-2
returns-in_err-number_at-in-Redraw-len4-2 c =
    let p = err_from_is_err_and c.from_residual-in_err-number_at-in-Redraw-len4-2.result c.from_residual-in_err-number_at-in-Redraw-len4-2.ensures.1 in
    p.1
    ∙ (ap Err p.2
    ∙ (redraw_second c.args.line.now (get_or c.args.rest.now 0 nowhere) (get_or c.args.rest.now 1 nowhere) _ c.in_ok-number_at-in-Redraw-len4.ensures (get_or c.args.rest.now 2 nowhere) (get_or c.args.rest.now 3 nowhere) _ c.in_err-number_at-in-Redraw-len4-2.ensures
    ∙ at_four c.args.line.now word.Redraw c.args.word c.args.rest.now c.in-Redraw-len4.is-0 (omega arith)))

pub returns-in_err-number_at-in-Redraw-len4-3 : goal.returns-in_err-number_at-in-Redraw-len4-3
returns-in_err-number_at-in-Redraw-len4-3 c =
    let p = err_from_is_err_and c.from_residual-in_err-number_at-in-Redraw-len4-3.result c.from_residual-in_err-number_at-in-Redraw-len4-3.ensures.1 in
    p.1
    ∙ (ap Err p.2
    ∙ (redraw_third c.args.line.now (get_or c.args.rest.now 0 nowhere) (get_or c.args.rest.now 1 nowhere) _ c.in_ok-number_at-in-Redraw-len4.ensures (get_or c.args.rest.now 2 nowhere) (get_or c.args.rest.now 3 nowhere) _ c.in_ok-number_at-in-Redraw-len4-2.ensures _ c.in_err-number_at-in-Redraw-len4-3.ensures
    ∙ at_four c.args.line.now word.Redraw c.args.word c.args.rest.now c.in-Redraw-len4.is-0 (omega arith)))

pub returns-in_err-number_at-in-Redraw-len4-4 : goal.returns-in_err-number_at-in-Redraw-len4-4
returns-in_err-number_at-in-Redraw-len4-4 c =
    let p = err_from_is_err_and c.from_residual-in_err-number_at-in-Redraw-len4-4.result c.from_residual-in_err-number_at-in-Redraw-len4-4.ensures.1 in
    p.1
    ∙ (ap Err p.2
    ∙ (redraw_fourth c.args.line.now (get_or c.args.rest.now 0 nowhere) (get_or c.args.rest.now 1 nowhere) _ c.in_ok-number_at-in-Redraw-len4.ensures (get_or c.args.rest.now 2 nowhere) (get_or c.args.rest.now 3 nowhere) _ c.in_ok-number_at-in-Redraw-len4-2.ensures _ c.in_ok-number_at-in-Redraw-len4-3.ensures _ c.in_err-number_at-in-Redraw-len4-4.ensures
    ∙ at_four c.args.line.now word.Redraw c.args.word c.args.rest.now c.in-Redraw-len4.is-0 (omega arith)))

pub returns-in_ok-number_at-in-Redraw-len4-4 : goal.returns-in_ok-number_at-in-Redraw-len4-4
returns-in_ok-number_at-in-Redraw-len4-4 c =
    redraw_read c.args.line.now (get_or c.args.rest.now 0 nowhere) (get_or c.args.rest.now 1 nowhere) _ c.in_ok-number_at-in-Redraw-len4.ensures (get_or c.args.rest.now 2 nowhere) (get_or c.args.rest.now 3 nowhere) _ c.in_ok-number_at-in-Redraw-len4-2.ensures _ c.in_ok-number_at-in-Redraw-len4-3.ensures _ c.in_ok-number_at-in-Redraw-len4-4.ensures
    ∙ at_four c.args.line.now word.Redraw c.args.word c.args.rest.now c.in-Redraw-len4.is-0 (omega arith)

pub returns-in_err-number_at-in-Look-len2-2 : goal.returns-in_err-number_at-in-Look-len2-2
returns-in_err-number_at-in-Look-len2-2 c =
    let p = err_from_is_err_and c.from_residual-in_err-number_at-in-Look-len2-2.result c.from_residual-in_err-number_at-in-Look-len2-2.ensures.1 in
    p.1
    ∙ (ap Err p.2
    ∙ (look_second c.args.line.now (get_or c.args.rest.now 0 nowhere) (get_or c.args.rest.now 1 nowhere) _ c.in_ok-number_at-in-Look-len2.ensures _ c.in_err-number_at-in-Look-len2-2.ensures
    ∙ at_two c.args.line.now word.Look c.args.word c.args.rest.now c.in-Look-len2.is-0 (omega arith)))

pub returns-in_ok-number_at-in-Look-len2-2 : goal.returns-in_ok-number_at-in-Look-len2-2
returns-in_ok-number_at-in-Look-len2-2 c =
    look_read c.args.line.now (get_or c.args.rest.now 0 nowhere) (get_or c.args.rest.now 1 nowhere) _ c.in_ok-number_at-in-Look-len2.ensures _ c.in_ok-number_at-in-Look-len2-2.ensures
    ∙ at_two c.args.line.now word.Look c.args.word c.args.rest.now c.in-Look-len2.is-0 (omega arith)
