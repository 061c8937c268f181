use Rattle.std.proofs.Common.{false, sym, subst, add-one, arith}
use Rattle.diagrams.specs.Building.{DiagramState, AreMade, StandsFor, combined_rows}
use Rattle.diagrams.proofs.CofactorLemmas.{of_one-same}
use Rattle.diagrams.proofs.Waits.{half_at, whole_choice, stands_same, combined_stands, made_alone}
use Rattle.diagrams.proofs.combining.finish.Goals as goal

pub node-requires-clause-low : goal.node-requires-clause-low
node-requires-clause-low c =
    rw add-one (half_at c.args.diagrams.now c.args.operation c.args.waiting false _ c.len-rows.ensures.diagram c.requires.waits (c.requires.waits.low c.requires.has_low))

pub node-requires-clause-high : goal.node-requires-clause-high
node-requires-clause-high c =
    rw add-one (half_at c.args.diagrams.now c.args.operation c.args.waiting c.args.waiting.has_low _ c.len-rows.ensures.diagram c.requires.waits c.requires.high)

pub returns-in-Err-clause-made : goal.returns-in-Err-clause-made
returns-in-Err-clause-made c = λ fs needed.
    let same = whole_choice c.args.diagrams.now c.args.operation c.args.waiting c.args.high c.len-rows.ensures.diagram c.requires.waits c.requires.has_low c.requires.high in
    c.in-Err.ensures.made fs (of_one-same _ fs _ _ needed same)

pub returns-in-Err-clause-short : goal.returns-in-Err-clause-short
returns-in-Err-clause-short c = λ spent fs needed.
    let same = whole_choice c.args.diagrams.now c.args.operation c.args.waiting c.args.high c.len-rows.ensures.diagram c.requires.waits c.requires.has_low c.requires.high in
    c.in-Err.ensures.short spent fs (of_one-same _ fs _ _ needed same)

pub remember-requires-clause-first : goal.remember-requires-clause-first
remember-requires-clause-first c =
    let made = made_alone c.args.diagrams.now c.node.new.self _ c.in-Ok.ensures.made in omega (arith, made.extends.longer, c.requires.waits.first.node)

pub remember-requires-clause-second : goal.remember-requires-clause-second
remember-requires-clause-second c =
    let made = made_alone c.args.diagrams.now c.node.new.self _ c.in-Ok.ensures.made in omega (arith, made.extends.longer, c.requires.waits.second.node)

pub remember-requires-clause-right : goal.remember-requires-clause-right
remember-requires-clause-right c =
    let same = whole_choice c.args.diagrams.now c.args.operation c.args.waiting c.args.high c.len-rows.ensures.diagram c.requires.waits c.requires.has_low c.requires.high in
    let made = made_alone c.args.diagrams.now c.node.new.self _ c.in-Ok.ensures.made in
    combined_stands c.args.diagrams.now c.node.new.self c.args.operation c.args.waiting.first c.args.waiting.second _ c.len-rows.ensures.diagram made.extends made.inputs
    c.requires.waits.first.node c.requires.waits.second.node (stands_same c.node.new.self _ _ c.args.diagrams.now.inputs _ made.inputs same c.in-Ok.ensures.stands)

pub returns-in-Ok-clause-made : goal.returns-in-Ok-clause-made
returns-in-Ok-clause-made c = λ fs needed.
    let same = whole_choice c.args.diagrams.now c.args.operation c.args.waiting c.args.high c.len-rows.ensures.diagram c.requires.waits c.requires.has_low c.requires.high in
    subst (λ (s : DiagramState). AreMade c.args.diagrams.now s fs) (sym c.remember.ensures.same) (c.in-Ok.ensures.made fs (of_one-same _ fs _ _ needed same))

pub returns-in-Ok-clause-stands : goal.returns-in-Ok-clause-stands
returns-in-Ok-clause-stands c =
    let same = whole_choice c.args.diagrams.now c.args.operation c.args.waiting c.args.high c.len-rows.ensures.diagram c.requires.waits c.requires.has_low c.requires.high in
    let made = made_alone c.args.diagrams.now c.node.new.self _ c.in-Ok.ensures.made in
    subst (λ (s : DiagramState). StandsFor s (combined_rows c.args.operation c.args.diagrams.now.rows c.args.waiting.first c.args.waiting.second) c.in-Ok.result) (sym c.remember.ensures.same)
    (stands_same c.node.new.self _ _ c.args.diagrams.now.inputs _ made.inputs same c.in-Ok.ensures.stands)
