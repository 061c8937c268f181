use Rattle.std.proofs.Common.{◌≡◌, length, map, take}
use Rattle.tsc_cover.specs.Row.{literals_of}
use Rattle.tsc_cover.specs.Terms.{terms_from}
use Rattle.tsc_net.specs.PlanView.{net_numbers}
use Rattle.lane_sim.specs.Program.{term_of}
use Rattle.lane_sim.proofs.ready.row_terms.Given as goal

abbrev pub invariant-loop-pin : goal.invariant-loop-pin
invariant-loop-pin l = l.terms ≡ map (term_of l.first l.rows.rows (net_numbers l.reads)) (terms_from 0 (take l.pin (literals_of (length l.reads) l.row)))
