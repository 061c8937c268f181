use Rattle.std.proofs.Common.{◌≡◌, map}
use Rattle.std.specs.List.{slice_range}
use Rattle.tsc_net.specs.PlanView.{net_numbers}
use Rattle.blif_read.specs.PlanText.{net_named}
use Rattle.blif_read.proofs.plan_names.nets_named.Given as goal

abbrev pub invariant-loop-place : goal.invariant-loop-place
invariant-loop-place l = net_numbers l.nets ≡ map (net_named l.net) (slice_range l.line.words l.from l.place)
