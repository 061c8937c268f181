use Rattle.std.proofs.Common.{◌∷◌, ◌++◌, List, [], ap, ◌∙◌}
use Rattle.std.proofs.lemmas.Result.{on_ok_weaker}
use Rattle.tsc_text.specs.declared.places.Place.{Place}
use Rattle.tsc_text.proofs.PlaceCodes.{pushed-longer}
use Rattle.tsc_text.proofs.place_list.WordPlaces.push_longer.Goals as goal

pub returns-else-is_err-clause-ok : goal.returns-else-is_err-clause-ok
returns-else-is_err-clause-ok c =
    let list = c.self.inside in
    on_ok_weaker c.push-pushed.result (λ e. pushed-longer list.longer c.push.new.self list.codes c.push-pushed.new.self c.args.place c.len-count.result
    c.len-count.ensures.count c.in_ok-push.ensures.ok c.self.invariant e ∙ ap (λ (xs : List Place). xs ++ c.args.place ∷ []) c.self.view_is) c.push-pushed.ensures.ok
