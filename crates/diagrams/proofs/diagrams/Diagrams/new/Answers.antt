use Rattle.std.proofs.Common.{◌≡◌, List, [], ◌∷◌, ◌++◌, ap, ◌∙◌, arith}
use Rattle.std.proofs.lemmas.Grind.{common_steps}
use Rattle.diagrams.specs.declared.decision.Decision.{Decision}
use Rattle.diagrams.specs.Decisions.{constant}
use Rattle.diagrams.specs.Building.{constants}
use Rattle.diagrams.proofs.Sound.{begun}
use Rattle.diagrams.proofs.diagrams.Diagrams.new.Goals as goal

pub invariant_of-result : goal.invariant_of-result
invariant_of-result c =
    let rows : c.push-2.new.self.rows ≡ constants c.args.inputs =
    c.push-2.ensures.rows ∙ ap (λ (ds : List Decision). ds ++ constant c.args.inputs 1 ∷ []) (c.push.ensures.rows ∙ ap (λ (ds : List Decision). ds ++ constant c.args.inputs 0 ∷ []) c.in_ok-rows.ensures.none) in
    let room : c.push-2.new.self.room ≡ c.args.rows = c.push-2.ensures.room ∙ (c.push.ensures.room ∙ c.in_ok-rows.ensures.room) in
    let memos = c.in_ok-memos.ensures.items_if_clones_equal (λ y clone. first_of (cc, grind (arith, common_steps))) in
    begun _ _ _ _ _ 1024 c.requires.inputs (omega (arith, c.requires.some)) (omega (arith, c.requires.few)) rows c.new-2.ensures.empty memos (omega arith)
