use Rattle.std.proofs.Common.{length, ap, sym, ◌∙◌}
use Rattle.std.proofs.lemmas.List.{length-map}
use Rattle.module_join.specs.JoinParts.{planned_as, parts_as}
use Rattle.joint_text.specs.JointNamed.{prefix_of, rail_names}
use Rattle.joint_text.proofs.EndTexts.{tail_is}
use Rattle.joint_text.proofs.TreeLines.{gate_names-length}
use Rattle.joint_text.proofs.ends.ends_of.Goals as goal

pub tail_over-requires-clause-named : goal.tail_over-requires-clause-named
tail_over-requires-clause-named c =
    ap length c.in_ok-tree.ensures.names
    ∙ gate_names-length (prefix_of (parts_as c.args.parts.now)) (rail_names (prefix_of (parts_as c.args.parts.now)) 0 (parts_as c.args.parts.now)) 0 c.in_ok-tree.tree.gates.gates

pub returns-clause-tail : goal.returns-clause-tail
returns-clause-tail c =
    c.in_ok-tail.ensures.tail
    ∙ tail_is (parts_as c.args.parts.now) (length c.args.parts.now) (sym (length-map c.args.parts.now planned_as)) c.in_ok-tree.tree.gates c.in_ok-tree.tree.names
    c.in_ok-tree.ensures.tree c.in_ok-tree.ensures.names
