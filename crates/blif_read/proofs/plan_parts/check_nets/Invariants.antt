use Rattle.std.proofs.Common.{drop}
use Rattle.tsc_net.specs.PlanView.{net_numbers}
use Rattle.blif_read.specs.PlanText.{checks_at, kind_in_plan, net_named}
use Rattle.blif_read.proofs.Collected.{IsLeft}
use Rattle.blif_read.proofs.plan_parts.check_nets.Given as goal

abbrev pub invariant-loop-place : goal.invariant-loop-place
invariant-loop-place l =
    IsLeft (λ line. checks_at (kind_in_plan line) line) (net_named l.net) (net_numbers l.nets) (drop l.place l.section) l.section
