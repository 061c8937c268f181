use Rattle.std.proofs.Common.{◌∙◌, ap, map, subst, ℕ, List}
use Rattle.fault_secure.specs.Circuit.{bit}
use Rattle.gate_net.specs.NetLines.{MeanInputs}
use Rattle.gate_net.proofs.NetLines.{lines_within, lines_values, lines_inputs}
use Rattle.gate_net.proofs.FirstInputs.{inputs_first}
use Rattle.gate_net.proofs.net_reading.add_outputs.Goals as goal

pub returns-clause-lines : goal.returns-clause-lines
returns-clause-lines c = lines_within c.args.net.now.circuit c.add_nodes.new.gates c.add_nodes.new.lines c.in_ok-add_nodes.ensures.follow _ c.in_ok-outputs.outputs c.in_ok-outputs.ensures.lines

pub returns-clause-values : goal.returns-clause-values
returns-clause-values c = λ x s v settled.
    lines_values c.args.net.now.circuit c.add_nodes.new.gates c.add_nodes.new.lines c.in_ok-add_nodes.ensures.follow _ c.in_ok-outputs.outputs c.in_ok-outputs.ensures.lines x s v settled
    ∙ ap (map (bit v)) c.outputs.ensures.outputs

pub returns-clause-first : goal.returns-clause-first
returns-clause-first c =
    inputs_first c.add_inputs.new.gates c.add_nodes.new.gates c.args.net.now.circuit.inputs c.in_ok-add_nodes.ensures.grows c.in_ok-add_inputs.ensures.inputs_first

pub returns-clause-means : goal.returns-clause-means
returns-clause-means c =
    subst (λ (nets : List ℕ). MeanInputs c.args.net.now.circuit c.add_nodes.new.gates nets c.in_ok-outputs.outputs) c.outputs.ensures.outputs
    (lines_inputs c.args.net.now.circuit c.add_nodes.new.gates c.add_nodes.new.lines c.in_ok-add_nodes.ensures.follow _ c.in_ok-outputs.outputs c.in_ok-outputs.ensures.lines)
