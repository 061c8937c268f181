use Rattle.std.proofs.Common.{◌≡◌, ◌-◌, ◌*◌, ◌≤◌, length, drop}
use Rattle.tsc_net.specs.Fault.{stuck_at_or_none}
use Rattle.lane_rows.specs.Alive.{source_count}
use Rattle.lane_sim.specs.Along.{HoldsSources, HoldsNodes}
use Rattle.lane_sim.proofs.program.Program.take_steps.Given as goal

abbrev pub invariant-loop-step : goal.invariant-loop-step
invariant-loop-step g l = record {
  sized : length l.rest ≤ length l.initial.rest;
  walked : drop (length l.initial.rest - length l.rest) l.initial.rest ≡ l.rest;
  sources : HoldsSources (g.row.N * 64) (source_count l.self.circuit) l.self.rows.rows (stuck_at_or_none l.fault) l.words l.block;
  nodes : HoldsNodes (g.row.N * 64) l.self (stuck_at_or_none l.fault) l.words l.block (length l.initial.rest - length l.rest);
  rows : length l.block ≡ l.self.rows.count * 16;
}

abbrev pub decreases-loop-step : goal.decreases-loop-step
decreases-loop-step g l = length l.rest
