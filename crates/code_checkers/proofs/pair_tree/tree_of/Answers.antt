use Rattle.std.proofs.Common.{rules}
use Rattle.code_checkers.specs.Tree.{IsTreeOf}
use Rattle.code_checkers.proofs.TreeSize.{tree-nodes, tree-length, tree-reads}
use Rattle.code_checkers.proofs.pair_tree.tree_of.Goals as goal

pub returns-clause-nodes : goal.returns-clause-nodes
returns-clause-nodes c =
    let made : IsTreeOf c.args.pairs c.in_ok-made.made = search rules in
    tree-nodes c.args.pairs c.in_ok-made.made c.requires.some made

pub returns-clause-gates : goal.returns-clause-gates
returns-clause-gates c =
    let made : IsTreeOf c.args.pairs c.in_ok-made.made = search rules in
    tree-length c.args.pairs c.in_ok-made.made c.requires.some made

pub returns-clause-words : goal.returns-clause-words
returns-clause-words c =
    let made : IsTreeOf c.args.pairs c.in_ok-made.made = search rules in
    tree-reads c.args.pairs c.in_ok-made.made c.requires.some made
