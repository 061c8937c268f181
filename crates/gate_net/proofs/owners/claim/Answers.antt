use Rattle.std.proofs.Common.{sym, ◌∙◌, ap, arith}
use Rattle.gate_net.specs.NodesOfLines.{has_node}
use Rattle.gate_net.proofs.Owned.{owners_set}
use Rattle.gate_net.proofs.owners.claim.Goals as goal

pub returns-then-is_none-clause-are : goal.returns-then-is_none-clause-are
returns-then-is_none-clause-are c = λ p roots root before.
    owners_set p c.args.gates.now roots c.args.owners.now.items c.args.root (ap has_node (sym c.gate.ensures.gate) ∙ sym c.gets_node.ensures.same ∙ c.if-gets_node.true)
    (omega (arith, c.requires.sized, c.requires.line)) root before
