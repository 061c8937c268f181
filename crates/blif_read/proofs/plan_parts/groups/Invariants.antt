use Rattle.std.proofs.Common.{drop, map}
use Rattle.blif_read.specs.PlanText.{group_check_at, group_outputs_at, kind_in_plan, net_named, output_place}
use Rattle.blif_read.specs.Planned.{ArePlanned}
use Rattle.blif_read.proofs.Collected.{IsLeft}
use Rattle.blif_read.proofs.plan_parts.groups.Given as goal

abbrev pub invariant-loop-place : goal.invariant-loop-place
invariant-loop-place l = record {
  places : IsLeft (λ line. group_outputs_at (kind_in_plan line) line) (λ names. map (output_place l.net) names) (map (λ group. group.places) l.groups)
      (drop l.place l.section) l.section;
  checks : IsLeft (λ line. group_check_at (kind_in_plan line) line) (net_named l.net) (map (λ group. group.check.number) l.groups)
      (drop l.place l.section) l.section;
  planned : ArePlanned (drop l.place l.section);
}
