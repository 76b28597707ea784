use Rattle.std.proofs.Common.{◌≡◌, cond, ◌&&◌, eqb, ltb, [], ◌∷◌, get_or, sym, ap, ◌∙◌, subst}
use Rattle.theory.specs.Searches.{new_entry}
use Rattle.strips.specs.Strips.{Added, count_after}
use Rattle.strips.proofs.Adding.{added_push}
use Rattle.roots.proofs.search.Search.add.Goals as goal

pub returns-clause-cases : goal.returns-clause-cases
returns-clause-cases g c l =
    let is : c.entry_between.result ≡ new_entry c.args.self.now.way c.args.self.now.root c.args.sheet (get_or c.args.work.now c.args.sheet g.M.Measure.meaning.none) =
    c.entry_between.ensures ∙ ap (new_entry c.args.self.now.way c.args.self.now.root c.args.sheet) (c.at-value.ensures ∙ ap (get_or c.args.work.now c.args.sheet) c.none.ensures) in
    subst (λ x. Added c.args.spare.now.cells.now c.args.spare.now.count (cond (ltb c.args.self.now.root c.args.sheet && eqb (get_or c.args.marks.now c.args.sheet 1) 2) (x ∷ []) []) (count_after c.push.result c.push.new.self) c.push.new.self.cells.now) is
    (added_push _ c.entry_between.result c.args.spare.now c.push.new.self c.push.result (sym c.found.ensures ∙ c.if-not-found.false) c.push.ensures.answer c.push.ensures.cells c.push.ensures.count)
