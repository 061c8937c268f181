-- What is seen of a bench of faults of the code, and what it keeps.
use Rattle.std.specs.Prelude.{◌≡◌, ℕ, ◌*◌, ◌<◌, ◌≤◌, true, length, Some, None, if◌then◌else◌}
use Rattle.fault_secure.specs.Circuit.{node_net}
use Rattle.tsc_net.specs.Fault.{stuck_at_or_none}
use Rattle.tsc_net.specs.Order.{has_place}
use Rattle.lane_sim.specs.Points.{ArePointsOf}
use Rattle.lane_sim.specs.Program.{ProgramState}
use Rattle.lane_sim.specs.Readers.{AreReaders}
use Rattle.lane_sim.specs.Again.{IsAtNets, HoldsRows}
use Rattle.lane_sim.specs.FaultBench.{FaultBenchState}
use Rattle.lane_sim.specs.declared.fault_bench.FaultBench.TheInside.{Inside}

abbrev pub fault_bench_as : Inside → FaultBenchState
fault_bench_as bench = record { circuit = bench.program.circuit; points = if bench.settled then Some bench.points else None }

-- each node's net is watched
abbrev pub WatchesNodes : ProgramState → Type 0
WatchesNodes program = (j : ℕ) → j < length program.circuit.nodes → has_place program.watched (node_net program.circuit j) ≡ true

-- once it was settled its rows have what the nets have under the fault that was tried last
pub record KeepsFaultBench (bench : Inside) : Type 0 where
  pub rows : length bench.block ≡ bench.program.rows.count * 16
  pub points : ArePointsOf bench.program.circuit bench.points
  pub marks : length bench.program.circuit.nodes ≤ length bench.marked.words.items * 64
  pub readers : AreReaders bench.program.circuit bench.readers
  pub watches : WatchesNodes bench.program
  pub within : IsAtNets bench.program.circuit (stuck_at_or_none bench.fault)
  pub settled : bench.settled ≡ true → HoldsRows bench.program (stuck_at_or_none bench.fault) bench.points bench.block 0 (length bench.program.circuit.nodes)
