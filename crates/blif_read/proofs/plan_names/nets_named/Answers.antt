use Rattle.std.proofs.Common.{arith, ap, ◌∙◌}
use Rattle.tsc_net.specs.declared.ids.NetId.{NetId}
use Rattle.blif_read.specs.PlanText.{net_named}
use Rattle.blif_read.proofs.PlanWalk.{named_more}
use Rattle.blif_read.proofs.plan_names.nets_named.Goals as goal

pub loop-place-preserved : goal.loop-place-preserved
loop-place-preserved c =
    named_more (λ (net : NetId). net.number) (net_named c.args.net.now) c.loop-place.nets c.push.new.self c.net_named.result c.args.line.now.words c.args.from c.loop-place.place
    c.loop-place.invariant c.in_ok-push.ensures.ok (c.net_named.ensures.number ∙ ap (λ w. net_named c.args.net.now w) c.word.ensures.word) (omega arith) (omega arith)
