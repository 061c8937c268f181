-- The next node, then those after it.
use Rattle.std.proofs.Common.{◌≡◌, ℕ, ◌<◌, ◌+◌, ◌++◌, length, slice_index, sym, ap, ◌∙◌, subst, arith}
use Rattle.fault_secure.specs.Circuit.{node, node_net}
use Rattle.exact_question.specs.Rows.{written}
use Rattle.question_text.specs.Failing.{cell_at, cell_gates, choice_gates}
use Rattle.question_text.specs.Giving.{CanBeGiven, given}
use Rattle.question_text.proofs.Given.{cells_left, cells_next, left_more, left_next, of_cell}
use Rattle.question_text.proofs.giving.give_failing.Goals as goal

pub give_cell-requires-clause-can : goal.give_cell-requires-clause-can
give_cell-requires-clause-can c =
    let N = c.args.net.now.circuit in
    let numbers = c.args.numbers.now in
    let right = c.args.right.now in
    let cells = c.args.cells.now in
    let j = c.loop-place.place in
    let inside : j < length N.nodes = omega (arith, c.nodes-place-end.ensures.count) in
    let is : c.number_at-variable.result ≡ slice_index right (node_net N j) = c.number_at-variable.ensures.number ∙ ap (slice_index right) c.node_net.ensures.net in
    subst (λ (r : ℕ). CanBeGiven c.loop-place.checker (written (cell_gates numbers r N.inputs cells (cell_at cells j) (node N j) ++ choice_gates cells j))) (sym is)
    (left_next c.args.checker.now (cells_left numbers right N cells 0) c.loop-place.checker (cells_left numbers right N cells j) (written (of_cell numbers right N cells j))
    (cells_left numbers right N cells (j + 1)) c.loop-place.invariant (cells_next numbers right N cells j inside))

pub loop-place-preserved : goal.loop-place-preserved
loop-place-preserved c =
    let N = c.args.net.now.circuit in
    let numbers = c.args.numbers.now in
    let right = c.args.right.now in
    let cells = c.args.cells.now in
    let j = c.loop-place.place in
    let inside : j < length N.nodes = omega (arith, c.nodes-place-end.ensures.count) in
    let is : c.number_at-variable.result ≡ slice_index right (node_net N j) = c.number_at-variable.ensures.number ∙ ap (slice_index right) c.node_net.ensures.net in
    left_more c.args.checker.now (cells_left numbers right N cells 0) c.loop-place.checker c.give_cell.new.checker (cells_left numbers right N cells j) (written (of_cell numbers right N cells j))
    (cells_left numbers right N cells (j + 1)) c.loop-place.invariant (cells_next numbers right N cells j inside)
    (c.in_ok-give_cell.ensures.given
    ∙ ap (λ (r : ℕ). given c.loop-place.checker (written (cell_gates numbers r N.inputs cells (cell_at cells j) (node N j) ++ choice_gates cells j))) is)
