-- The source's nodes, the netlist's without a fault, and those with a failing cell.
use Rattle.std.proofs.Common.{ℕ, List, ap, ◌∙◌}
use Rattle.std.proofs.lemmas.Result.{on_ok_weaker}
use Rattle.fault_secure.specs.Circuit.{node_net}
use Rattle.question_text.specs.declared.cells.Cell.{Cell}
use Rattle.question_text.specs.Nodes.{nodes_gates}
use Rattle.question_text.specs.Failing.{failing_gates}
use Rattle.question_text.proofs.Given.{can_first_of, can_second_of, can_third_of, three_given}
use Rattle.question_text.proofs.giving.give_copies.Goals as goal

pub give_nodes-requires-clause-can : goal.give_nodes-requires-clause-can
give_nodes-requires-clause-can c =
    let C = c.args.source.now.circuit in
    let N = c.args.net.now.circuit in
    let n = c.args.numbers.now in
    let A = nodes_gates n.source (node_net C 0) C.nodes in
    let B = nodes_gates n.right (node_net N 0) N.nodes in
    let F = failing_gates n.failing n.right N.inputs n.cells 0 (node_net N 0) N.nodes in
    let a = ap (λ (k : List ℕ). nodes_gates k (node_net C 0) C.nodes) c.as_slice.ensures.whole in
    can_first_of c.args.checker.now A B F c.requires.can (nodes_gates c.as_slice.result.now (node_net C 0) C.nodes) a

pub give_nodes-requires-2-clause-can : goal.give_nodes-requires-2-clause-can
give_nodes-requires-2-clause-can c =
    let C = c.args.source.now.circuit in
    let N = c.args.net.now.circuit in
    let n = c.args.numbers.now in
    let A = nodes_gates n.source (node_net C 0) C.nodes in
    let B = nodes_gates n.right (node_net N 0) N.nodes in
    let F = failing_gates n.failing n.right N.inputs n.cells 0 (node_net N 0) N.nodes in
    let a = ap (λ (k : List ℕ). nodes_gates k (node_net C 0) C.nodes) c.as_slice.ensures.whole in
    let b = ap (λ (k : List ℕ). nodes_gates k (node_net N 0) N.nodes) c.as_slice-right.ensures.whole in
    can_second_of c.args.checker.now A B F c.requires.can c.give_nodes.new.checker (nodes_gates c.as_slice.result.now (node_net C 0) C.nodes)
    (nodes_gates c.as_slice-right.result.now (node_net N 0) N.nodes) a b c.in_ok-give_nodes.ensures.given

pub give_failing-requires-clause-can : goal.give_failing-requires-clause-can
give_failing-requires-clause-can c =
    let C = c.args.source.now.circuit in
    let N = c.args.net.now.circuit in
    let n = c.args.numbers.now in
    let A = nodes_gates n.source (node_net C 0) C.nodes in
    let B = nodes_gates n.right (node_net N 0) N.nodes in
    let F = failing_gates n.failing n.right N.inputs n.cells 0 (node_net N 0) N.nodes in
    let a = ap (λ (k : List ℕ). nodes_gates k (node_net C 0) C.nodes) c.as_slice.ensures.whole in
    let b = ap (λ (k : List ℕ). nodes_gates k (node_net N 0) N.nodes) c.as_slice-right.ensures.whole in
    let f = ap (λ (k : List ℕ). failing_gates k c.as_slice-right.result.now N.inputs c.as_slice-3.result.now 0 (node_net N 0) N.nodes) c.as_slice-2.ensures.whole
    ∙ ap (λ (k : List ℕ). failing_gates n.failing k N.inputs c.as_slice-3.result.now 0 (node_net N 0) N.nodes) c.as_slice-right.ensures.whole
    ∙ ap (λ (k : List Cell). failing_gates n.failing n.right N.inputs k 0 (node_net N 0) N.nodes) c.as_slice-3.ensures.whole in
    can_third_of c.args.checker.now A B F c.requires.can c.give_nodes.new.checker c.give_nodes-2.new.checker (nodes_gates c.as_slice.result.now (node_net C 0) C.nodes)
    (nodes_gates c.as_slice-right.result.now (node_net N 0) N.nodes)
    (failing_gates c.as_slice-2.result.now c.as_slice-right.result.now N.inputs c.as_slice-3.result.now 0 (node_net N 0) N.nodes) a b f c.in_ok-give_nodes.ensures.given
    c.in_ok-give_nodes-2.ensures.given

pub returns : goal.returns
returns c =
    let C = c.args.source.now.circuit in
    let N = c.args.net.now.circuit in
    let n = c.args.numbers.now in
    let A = nodes_gates n.source (node_net C 0) C.nodes in
    let B = nodes_gates n.right (node_net N 0) N.nodes in
    let F = failing_gates n.failing n.right N.inputs n.cells 0 (node_net N 0) N.nodes in
    let a = ap (λ (k : List ℕ). nodes_gates k (node_net C 0) C.nodes) c.as_slice.ensures.whole in
    let b = ap (λ (k : List ℕ). nodes_gates k (node_net N 0) N.nodes) c.as_slice-right.ensures.whole in
    let f = ap (λ (k : List ℕ). failing_gates k c.as_slice-right.result.now N.inputs c.as_slice-3.result.now 0 (node_net N 0) N.nodes) c.as_slice-2.ensures.whole
    ∙ ap (λ (k : List ℕ). failing_gates n.failing k N.inputs c.as_slice-3.result.now 0 (node_net N 0) N.nodes) c.as_slice-right.ensures.whole
    ∙ ap (λ (k : List Cell). failing_gates n.failing n.right N.inputs k 0 (node_net N 0) N.nodes) c.as_slice-3.ensures.whole in
    record {
      given = on_ok_weaker c.give_failing.result (λ last.
          three_given c.args.checker.now A B F c.requires.can c.give_nodes.new.checker c.give_nodes-2.new.checker c.give_failing.new.checker
          (nodes_gates c.as_slice.result.now (node_net C 0) C.nodes) (nodes_gates c.as_slice-right.result.now (node_net N 0) N.nodes)
          (failing_gates c.as_slice-2.result.now c.as_slice-right.result.now N.inputs c.as_slice-3.result.now 0 (node_net N 0) N.nodes) a b f c.in_ok-give_nodes.ensures.given
          c.in_ok-give_nodes-2.ensures.given last) c.give_failing.ensures.given;
    }
