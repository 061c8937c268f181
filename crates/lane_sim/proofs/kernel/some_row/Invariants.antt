use Rattle.std.proofs.Common.{take}
use Rattle.fault_secure.specs.StuckAt.{NoFault}
use Rattle.lane_sim.specs.Lanes.{HasLanes}
use Rattle.lane_sim.specs.Gate.{span_bit}
use Rattle.lane_sim.proofs.kernel.some_row.Given as goal

abbrev pub invariant-loop-row : goal.invariant-loop-row
invariant-loop-row g l = HasLanes g.row.N l.some (λ p. span_bit NoFault 0 l.words l.block p l.terms (take l.row-index l.rows))
