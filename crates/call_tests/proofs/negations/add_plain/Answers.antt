use Rattle.std.proofs.Common.{sym, subst}
use Rattle.gate_net.specs.Gates.{GateNetwork}
use Rattle.gate_net.specs.Negations.{HasNo, is_state}
use Rattle.gate_net.proofs.Once.{with_gate-none}
use Rattle.call_tests.proofs.negations.add_plain.Goals as goal

pub returns-clause-stateless : goal.returns-clause-stateless
returns-clause-stateless c =
    subst (λ (G : GateNetwork). HasNo is_state G.gates) (sym c.in_ok-line.ensures.once) (with_gate-none c.args.gates.now c.args.gate is_state c.requires.stateless c.requires.plain)
