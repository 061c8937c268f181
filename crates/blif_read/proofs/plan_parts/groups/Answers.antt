use Rattle.std.proofs.Common.{arith, map, subst}
use Rattle.blif_read.specs.PlanText.{group_check_at, group_outputs_at, kind_in_plan, net_named, output_place}
use Rattle.blif_read.specs.Planned.{ArePlanned}
use Rattle.blif_read.proofs.NextLine.{next_line}
use Rattle.blif_read.proofs.Collected.{left_next}
use Rattle.blif_read.proofs.plan_parts.groups.Goals as goal

pub add_group-requires : goal.add_group-requires
add_group-requires c =
    let step = next_line c.args.section.now c.loop-place.place c.line-line.result (omega arith) c.line-line.ensures.line in
    record { planned = (subst ArePlanned step c.loop-place.invariant.planned).0 }

pub loop-place-preserved : goal.loop-place-preserved
loop-place-preserved c =
    let step = next_line c.args.section.now c.loop-place.place c.line-line.result (omega arith) c.line-line.ensures.line in
    record {
      places = left_next (λ line. group_outputs_at (kind_in_plan line) line) (λ names. map (output_place c.args.net.now) names) _ _ _ _ c.args.section.now _
          step c.loop-place.invariant.places c.in_ok-add_group.ensures.places;
      checks = left_next (λ line. group_check_at (kind_in_plan line) line) (net_named c.args.net.now) _ _ _ _ c.args.section.now _
          step c.loop-place.invariant.checks c.in_ok-add_group.ensures.checks;
      planned = (subst ArePlanned step c.loop-place.invariant.planned).1;
    }
