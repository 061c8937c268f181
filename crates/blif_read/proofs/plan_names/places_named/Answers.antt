use Rattle.std.proofs.Common.{arith, ap, ◌∙◌}
use Rattle.blif_read.specs.PlanText.{output_place}
use Rattle.blif_read.proofs.PlanWalk.{placed_more}
use Rattle.blif_read.proofs.plan_names.places_named.Goals as goal

pub loop-place-preserved : goal.loop-place-preserved
loop-place-preserved c =
    placed_more (output_place c.args.net.now) c.loop-place.places c.push.new.self c.output_place.result c.args.line.now.words 1 c.loop-place.place
    c.loop-place.invariant c.in_ok-push.ensures.ok (c.output_place.ensures.place ∙ ap (λ w. output_place c.args.net.now w) c.word.ensures.word) (omega arith) (omega arith)
