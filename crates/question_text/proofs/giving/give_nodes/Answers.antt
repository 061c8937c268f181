-- The next node, then those after it.
use Rattle.std.proofs.Common.{◌<◌, ◌+◌, length, slice_index, arith}
use Rattle.fault_secure.specs.Circuit.{node, node_net}
use Rattle.exact_question.specs.Rows.{written}
use Rattle.question_text.specs.Nodes.{node_gates}
use Rattle.question_text.proofs.Given.{left_more, left_next, nodes_left, nodes_next}
use Rattle.question_text.proofs.giving.give_nodes.Goals as goal

pub give_node-requires-clause-can : goal.give_node-requires-clause-can
give_node-requires-clause-can c =
    let N = c.args.net.now.circuit in
    let numbers = c.args.numbers.now in
    let j = c.loop-place.place in
    let inside : j < length N.nodes = omega (arith, c.nodes-place-end.ensures.count) in
    left_next c.args.checker.now (nodes_left numbers N 0) c.loop-place.checker (nodes_left numbers N j) (written (node_gates numbers (slice_index numbers (node_net N j)) (node N j)))
    (nodes_left numbers N (j + 1)) c.loop-place.invariant (nodes_next numbers N j inside)

pub loop-place-preserved : goal.loop-place-preserved
loop-place-preserved c =
    let N = c.args.net.now.circuit in
    let numbers = c.args.numbers.now in
    let j = c.loop-place.place in
    let inside : j < length N.nodes = omega (arith, c.nodes-place-end.ensures.count) in
    left_more c.args.checker.now (nodes_left numbers N 0) c.loop-place.checker c.give_node.new.checker (nodes_left numbers N j)
    (written (node_gates numbers (slice_index numbers (node_net N j)) (node N j))) (nodes_left numbers N (j + 1)) c.loop-place.invariant (nodes_next numbers N j inside)
    c.in_ok-give_node.ensures.given
