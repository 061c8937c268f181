use Rattle.std.proofs.Common.{length, ap, arith}
use Rattle.std.proofs.lemmas.List.{length-map}
use Rattle.module_join.specs.JoinParts.{planned_as, parts_as}
use Rattle.joint_text.specs.JointNamed.{prefix_of}
use Rattle.joint_text.proofs.EndTexts.{rails_long}
use Rattle.joint_text.proofs.ends.tree_over.Goals as goal

pub named_tree-requires-clause-rails : goal.named_tree-requires-clause-rails
named_tree-requires-clause-rails c =
    let parts = c.args.parts.now in
    let long = rails_long (prefix_of (parts_as parts)) 0 (parts_as parts) in
    omega (arith, long, ap length c.in_ok-rails.ensures.names, length-map parts planned_as, c.len.ensures.count)
