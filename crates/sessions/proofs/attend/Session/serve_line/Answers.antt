use Rattle.std.proofs.Common.{true, ◌++◌, string_bytes, Some, Err, refl, ap, ◌∙◌, subst}
use Rattle.std.proofs.lemmas.Result.{on_ok_weaker}
use Rattle.answers.specs.Printed.{refused_line}
use Rattle.sessions.specs.Serving.{ReadAs}
use Rattle.sessions.proofs.attend.Session.serve_line.Goals as goal

-- the refusal that is read is the one that is printed
pub returns-in-Err-clause-served : goal.returns-in-Err-clause-served
returns-in-Err-clause-served g c = on_ok_weaker c.refused.result
    (λ printed. record {
      reading = Some (Err c.in-Err.refusal);
      read = subst (ReadAs c.args.line.text.now true) (c.in-Some.is ∙ ap Some c.in-Err.is) c.in_ok-reading.ensures;
      leaves = refl;
      tells = λ text shown. printed ∙ ap (λ f. string_bytes c.args.self.now.out.now ++ refused_line c.args.line.number f.layer f.word f.number) c.into.ensures;
    })
    c.refused.ensures
