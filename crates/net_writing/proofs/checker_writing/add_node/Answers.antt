use Rattle.net_writing.proofs.CheckerSteps.{node_added, reads_named}
use Rattle.net_writing.proofs.checker_writing.add_node.Goals as goal

pub returns-clause-added : goal.returns-clause-added
returns-clause-added c =
    node_added c.args.parts.now c.out_name.new.parts c.node.new.self _ c.args.gate c.args.names.now c.in_ok-reads.reads c.in_ok-out.out c.in_ok-cover.cover
    c.requires.names c.requires.reads c.in_ok-reads.ensures.names c.in_ok-cover.ensures.cover c.in_ok-out.ensures.parts c.in_ok-out.ensures.text c.in_ok-node.ensures.ok

pub node-requires-clause-reads : goal.node-requires-clause-reads
node-requires-clause-reads c =
    reads_named c.args.parts.now c.out_name.new.parts _ c.args.gate c.args.names.now c.in_ok-reads.reads c.requires.names c.requires.reads c.in_ok-reads.ensures.names c.in_ok-out.ensures.parts
