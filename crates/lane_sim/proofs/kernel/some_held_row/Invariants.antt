use Rattle.std.proofs.Common.{take}
use Rattle.tsc_net.specs.Fault.{stuck_at_or_none}
use Rattle.lane_sim.specs.Lanes.{HasLanes}
use Rattle.lane_sim.specs.Gate.{span_bit}
use Rattle.lane_sim.proofs.kernel.some_held_row.Given as goal

abbrev pub invariant-loop-row : goal.invariant-loop-row
invariant-loop-row g l = HasLanes g.row.N l.some (λ p. span_bit (stuck_at_or_none l.fault) l.driver l.words l.block p l.terms (take l.row-index l.rows))
