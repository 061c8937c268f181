use Rattle.std.proofs.Common.{◌≡◌, length, map, take}
use Rattle.tsc_cover.specs.Row.{literals_of}
use Rattle.tsc_net.specs.PlanView.{net_numbers}
use Rattle.lane_sim.specs.Program.{terms_of}
use Rattle.lane_sim.proofs.ready.terms_of.Given as goal

abbrev pub invariant-loop-row : goal.invariant-loop-row
invariant-loop-row l = l.terms ≡ map (λ row. terms_of l.first l.rows.rows (net_numbers l.reads) (literals_of (length l.reads) row)) (take l.row-index l.table)
