-- The rows of a machine are a state table.
use Rattle.std.proofs.Common.{subst}
use Rattle.fault_secure.specs.Logic.{IsStateTable}
use Rattle.tsc_net.specs.MachineView.{MachineOf}
use Rattle.tsc_net.proofs.MachineLemmas.{is_state_table}
use Rattle.tsc_net.proofs.machine.Machine.states.Goals as goal

pub returns-clause-sound : goal.returns-clause-sound
returns-clause-sound c =
    subst (λ (v : MachineOf). IsStateTable v.table) c.self.view_is
    (is_state_table c.self.inside.inputs c.self.inside.outputs c.self.inside.states c.self.inside.reset c.self.inside.rows c.self.invariant)
