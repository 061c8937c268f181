use Rattle.std.proofs.Common.{arith}
use Rattle.blif_read.specs.PlanText.{checks_at, kind_in_plan, net_named}
use Rattle.blif_read.proofs.NextLine.{next_line}
use Rattle.blif_read.proofs.Collected.{left_next}
use Rattle.blif_read.proofs.plan_parts.check_nets.Goals as goal

pub loop-place-preserved : goal.loop-place-preserved
loop-place-preserved c =
    let step = next_line c.args.section.now c.loop-place.place c.line-line.result (omega arith) c.line-line.ensures.line in
    left_next (λ line. checks_at (kind_in_plan line) line) (net_named c.args.net.now) _ _ _ _ c.args.section.now _ step c.loop-place.invariant c.in_ok-add_checks.ensures.nets
