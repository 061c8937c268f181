use Rattle.std.proofs.Common.{◌≡◌, drop}
use Rattle.tsc_net.specs.PlanView.{net_numbers}
use Rattle.net_cones.specs.Marks.{mark_drivers}
use Rattle.net_cones.proofs.cones.mark_drivers.Given as goal

-- marking the drivers of what is left gives what marking them all does
abbrev pub invariant-loop-net : goal.invariant-loop-net
invariant-loop-net l = mark_drivers l.first (net_numbers (drop l.net-index l.list)) l.marks ≡ mark_drivers l.first (net_numbers l.list) l.initial.marks
