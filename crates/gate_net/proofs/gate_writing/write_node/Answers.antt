use Rattle.gate_net.specs.NodesOfLines.{operands}
use Rattle.gate_net.proofs.Written.{names_within, pins_fit, gate_extends, extends_twice, extends_same, node_realises}
use Rattle.gate_net.proofs.Given.{node_before}
use Rattle.gate_net.proofs.LineSteps.{names_gate}
use Rattle.gate_net.proofs.gate_writing.write_node.Goals as goal

pub node-requires-clause-reads : goal.node-requires-clause-reads
node-requires-clause-reads c = names_within c.args.parts.now c.out_name.new.parts c.args.names.now (operands c.args.gate) c.in_ok-reads.reads c.in_ok-out.ensures.extends c.requires.names c.in_ok-reads.ensures.names

pub node-requires-clause-pins : goal.node-requires-clause-pins
node-requires-clause-pins c = pins_fit c.args.gate c.args.names.now c.in_ok-reads.reads c.in_ok-cover.cover c.in_ok-cover.ensures.cover c.in_ok-reads.ensures.names

pub returns-clause-extends : goal.returns-clause-extends
returns-clause-extends c =
    extends_twice c.args.parts.now c.out_name.new.parts c.node.new.self c.in_ok-out.ensures.extends
    (gate_extends c.out_name.new.parts c.node.new.self c.args.gate c.args.names.now c.in_ok-reads.reads c.in_ok-out.out c.in_ok-cover.cover c.in_ok-reads.ensures.names c.in_ok-node.ensures.ok)

pub returns-in_err-node-clause-extends : goal.returns-in_err-node-clause-extends
returns-in_err-node-clause-extends c =
    extends_twice c.args.parts.now c.out_name.new.parts c.node.new.self c.in_ok-out.ensures.extends (extends_same c.out_name.new.parts c.node.new.self c.in_err-node.ensures.err)

pub returns-clause-realises : goal.returns-clause-realises
returns-clause-realises c =
    node_realises c.args.parts.now c.out_name.new.parts c.node.new.self c.args.gate c.args.names.now c.in_ok-reads.reads c.in_ok-out.out c.in_ok-cover.cover
    c.in_ok-out.ensures.extends c.in_ok-out.ensures.named c.requires.names c.in_ok-reads.ensures.names c.in_ok-cover.ensures.cover c.in_ok-node.ensures.ok

pub returns-clause-before : goal.returns-clause-before
returns-clause-before c =
    node_before c.args.parts.now c.out_name.new.parts c.node.new.self c.args.gate c.args.names.now c.in_ok-reads.reads c.in_ok-out.out c.in_ok-cover.cover
    c.in_ok-out.ensures.extends c.in_ok-out.ensures.named c.requires.names c.in_ok-reads.ensures.names c.in_ok-node.ensures.ok

pub returns-clause-node : goal.returns-clause-node
returns-clause-node c = λ placed.
    names_gate c.args.parts.now c.node.new.self c.args.gate c.args.names.now c.args.owner c.in_ok-out.out placed
    (record {
      here = c.out_name.new.parts;
      reads = c.in_ok-reads.reads;
      cover = c.in_ok-cover.cover;
      named = c.in_ok-out.ensures.node;
      zip = c.in_ok-reads.ensures.names;
      is_cover = c.in_ok-cover.ensures.cover;
      node = c.in_ok-node.ensures.ok;
    })
