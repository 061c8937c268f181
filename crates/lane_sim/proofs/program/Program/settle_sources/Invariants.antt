use Rattle.std.proofs.Common.{◌≡◌, ◌*◌, length}
use Rattle.tsc_net.specs.Fault.{stuck_at_or_none}
use Rattle.lane_sim.specs.Along.{HoldsSources}
use Rattle.lane_sim.proofs.program.Program.settle_sources.Given as goal

abbrev pub invariant-loop-net : goal.invariant-loop-net
invariant-loop-net g l = record {
  sources : HoldsSources (g.row.N * 64) l.net l.self.rows.rows (stuck_at_or_none l.fault) l.words l.block;
  rows : length l.block ≡ l.self.rows.count * 16;
}
