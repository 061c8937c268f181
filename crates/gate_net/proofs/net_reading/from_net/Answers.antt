use Rattle.std.proofs.Common.{subst, ◌∙◌, ap}
use Rattle.gate_net.specs.Gates.{GateNetwork, IsHashed}
use Rattle.gate_net.proofs.NetLines.{no_states}
use Rattle.gate_net.proofs.net_reading.from_net.Goals as goal

pub returns-clause-stateless : goal.returns-clause-stateless
returns-clause-stateless c =
    no_states c.add_outputs.new.gates (subst IsHashed c.gates-2.view_is c.gates-2.invariant)
    (c.in_ok-outputs.ensures.grows.states ∙ ap (λ (G : GateNetwork). G.states) c.new-gates.ensures.empty)
