use Rattle.std.proofs.Common.{◌≡◌, ◌+◌, ◌-◌, ap, arith}
use Rattle.fault_secure.specs.Circuit.{node}
use Rattle.question_text.specs.Nodes.{wide_of}
use Rattle.question_text.specs.Failing.{cell_end}
use Rattle.question_text.proofs.Ends.{cells_room, cell_least}
use Rattle.question_text.proofs.tables.failing_from.Goals as goal

pub overflow_add-at : goal.overflow_add-at
overflow_add-at c =
    omega (
      arith,
      c.loop-place.invariant.end,
      cell_least c.loop-place.place c.loop-place.at (wide_of (node c.args.net.now.circuit c.loop-place.place)),
      cells_room c.loop-place.place c.loop-place.at c.loop-place.place c.args.net.now.circuit.nodes (omega arith),
    )

pub node_end-requires-clause-room : goal.node_end-requires-clause-room
node_end-requires-clause-room c =
    omega (
      arith,
      c.loop-place.invariant.end,
      cell_least c.loop-place.place c.loop-place.at (wide_of (node c.args.net.now.circuit c.loop-place.place)),
      cells_room c.loop-place.place c.loop-place.at c.loop-place.place c.args.net.now.circuit.nodes (omega arith),
    )

pub cell_from-requires-clause-room : goal.cell_from-requires-clause-room
cell_from-requires-clause-room c =
    omega (
      arith,
      c.in_ok-rows_end.ensures.end,
      c.loop-place.invariant.end,
      cell_least c.loop-place.place c.loop-place.at (wide_of (node c.args.net.now.circuit c.loop-place.place)),
      cells_room c.loop-place.place c.loop-place.at c.loop-place.place c.args.net.now.circuit.nodes (omega arith),
    )

pub cell_end-at-requires-clause-room : goal.cell_end-at-requires-clause-room
cell_end-at-requires-clause-room c =
    let rows : c.in_ok-rows_end.rows_end - (c.loop-place.at + 3) ≡ wide_of (node c.args.net.now.circuit c.loop-place.place) = omega (arith, c.in_ok-rows_end.ensures.end) in
    let same = ap (cell_end c.loop-place.place c.loop-place.at) rows in
    omega (arith, same, c.loop-place.invariant.end, cells_room c.loop-place.place c.loop-place.at c.loop-place.place c.args.net.now.circuit.nodes (omega arith))
