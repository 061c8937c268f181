-- What is seen of a program of the code, and what it keeps.
use Rattle.std.specs.Prelude.{◌≡◌, ◌<◌, ◌^◌, length, All}
use Rattle.fault_secure.specs.Circuit.{nets}
use Rattle.fault_secure.specs.Settle.{Acyclic}
use Rattle.fault_secure.specs.Closed.{IsClosed}
use Rattle.tsc_net.specs.Order.{fan_ins, evaluation_order, IsOrder}
use Rattle.tsc_net.specs.PlanView.{net_numbers}
use Rattle.lane_rows.specs.Rows.{RowsApart, AreBelow, HaveRows, OthersHaveNone}
use Rattle.lane_sim.specs.Program.{ProgramState, AreReady}
use Rattle.lane_sim.specs.declared.steps.Steps.{Steps}
use Rattle.lane_sim.specs.declared.program.Program.TheInside.{Inside}

abbrev pub program_as : Inside → ProgramState
program_as program = record {
  circuit = program.net.now.circuit;
  watched = net_numbers program.watched;
  rows = program.rows;
}

-- a circuit without a ring whose nodes are ready along an order, with rows that stay apart while their nets are alive
pub record KeepsOrder (program : ProgramState) (steps : Steps) : Type 0 where
  pub few : nets program.circuit < 2 ^ 32
  pub closed : IsClosed program.circuit
  pub acyclic : Acyclic program.circuit
  pub whole : IsOrder (fan_ins program.circuit) (evaluation_order (fan_ins program.circuit))
  pub ready : AreReady program.circuit program.rows.rows (evaluation_order (fan_ins program.circuit)) (length program.circuit.nodes) steps
  pub apart : RowsApart program.circuit (evaluation_order (fan_ins program.circuit)) program.watched program.rows.rows
  pub below : AreBelow program.rows.count program.rows.rows
  pub sized : length program.rows.rows ≡ nets program.circuit
  pub have : HaveRows program.circuit program.watched program.rows.rows
  pub none : OthersHaveNone program.circuit program.watched program.rows.rows
  pub watched : All (λ net. net < nets program.circuit) program.watched

abbrev pub KeepsProgram : Inside → Type 0
KeepsProgram program = KeepsOrder (program_as program) program.steps
