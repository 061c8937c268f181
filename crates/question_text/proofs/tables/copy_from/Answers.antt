use Rattle.std.proofs.Common.{◌+◌, ◌≤◌, arith}
use Rattle.fault_secure.specs.Circuit.{node}
use Rattle.question_text.specs.Nodes.{wide_of, end_from}
use Rattle.question_text.proofs.Ends.{end_room}
use Rattle.question_text.proofs.tables.copy_from.Goals as goal

pub overflow_add-at : goal.overflow_add-at
overflow_add-at c =
    let room : c.loop-place.at + 1 + wide_of (node c.args.net.now.circuit c.loop-place.place) ≤ end_from c.args.first c.args.net.now.circuit.nodes =
    omega (arith, c.loop-place.invariant.end, end_room c.loop-place.at c.loop-place.place c.args.net.now.circuit.nodes (omega arith)) in
    omega arith

pub node_end-requires-clause-room : goal.node_end-requires-clause-room
node_end-requires-clause-room c =
    let room : c.loop-place.at + 1 + wide_of (node c.args.net.now.circuit c.loop-place.place) ≤ end_from c.args.first c.args.net.now.circuit.nodes =
    omega (arith, c.loop-place.invariant.end, end_room c.loop-place.at c.loop-place.place c.args.net.now.circuit.nodes (omega arith)) in
    omega arith
