use Rattle.std.proofs.Common.{slice_index, ◌∙◌}
use Rattle.fault_secure.specs.Circuit.{node, node_net}
use Rattle.question_text.specs.Nodes.{node_gates}
use Rattle.question_text.proofs.Given.{can_made, made_given}
use Rattle.question_text.proofs.giving.give_node.Goals as goal

pub give_all-requires : goal.give_all-requires
give_all-requires c =
    let N = c.args.net.now.circuit in
    let gates = node_gates c.args.numbers.now (slice_index c.args.numbers.now (node_net N c.args.place)) (node N c.args.place) in
    record {
      can = can_made c.args.checker.now c.new-some.result c.as_slice.result.now gates c.new-some.ensures.empty (c.as_slice.ensures.whole ∙ c.in_ok-push_node.ensures.clauses) c.requires.can;
    }

pub returns : goal.returns
returns c =
    let N = c.args.net.now.circuit in
    let gates = node_gates c.args.numbers.now (slice_index c.args.numbers.now (node_net N c.args.place)) (node N c.args.place) in
    record {
      given = made_given c.args.checker.now c.give_all.new.checker c.new-some.result c.as_slice.result.now gates c.new-some.ensures.empty
          (c.as_slice.ensures.whole ∙ c.in_ok-push_node.ensures.clauses) c.in_ok-give_all.ensures.given;
    }
