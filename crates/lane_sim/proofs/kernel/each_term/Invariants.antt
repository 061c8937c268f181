use Rattle.std.proofs.Common.{take}
use Rattle.fault_secure.specs.StuckAt.{NoFault}
use Rattle.lane_sim.specs.Lanes.{HasLanes}
use Rattle.lane_sim.specs.Gate.{each_bit}
use Rattle.lane_sim.proofs.kernel.each_term.Given as goal

abbrev pub invariant-loop-term : goal.invariant-loop-term
invariant-loop-term g l = HasLanes g.row.N l.each (λ p. each_bit NoFault 0 l.words l.block p (take l.term-index l.terms))
