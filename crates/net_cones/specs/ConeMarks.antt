-- Cones, computed: the marks of the nodes that some nets depend on, and their places.
use Rattle.std.specs.Prelude.{ℕ, ◌+◌, Bool, false, List, [], ◌∷◌, length, replicate}
use Rattle.fault_secure.specs.Circuit.{Circuit, node}
use Rattle.tsc_net.specs.Order.{fan_ins, evaluation_order}
use Rattle.net_cones.specs.Marks.{mark_drivers, marked_pins}
use Rattle.net_cones.specs.Cones.{marked}

-- a mark for each node that drives one of the nets
abbrev pub root_marks : Circuit → List ℕ → List Bool
root_marks C roots = mark_drivers (C.inputs + length C.latches) roots (replicate (length C.nodes) false)

-- the marks, walked back along places: where a node is marked, so are the drivers of its pins
abbrev pub marked_back : Circuit → List ℕ → List Bool → List Bool
marked_back C [] marks = marks
marked_back C (place ∷ places) marks = marked_pins (C.inputs + length C.latches) place (node C place).reads (marked_back C places marks)

-- a mark for each node that one of the nets depends on: their drivers, and what is found back along the evaluation order
unfoldable pub cone_marks : Circuit → List ℕ → List Bool
cone_marks C roots = marked_back C (evaluation_order (fan_ins C)) (root_marks C roots)

-- the places of the nodes that one of the nets depends on, rising
abbrev pub cone_of : Circuit → List ℕ → List ℕ
cone_of C roots = marked (cone_marks C roots)
