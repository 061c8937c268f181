-- Marks on nodes, as they are set: one for each node, true where it was marked.
use Rattle.std.specs.Prelude.{ℕ, ◌-◌, nat_lt, Bool, true, if◌then◌else◌, List, [], ◌∷◌, slice_set}
use Rattle.fault_secure.specs.Circuit.{bit}

-- the marks with the driver of a net; the node at place 0 drives the net `first`
abbrev pub mark_driver : ℕ → ℕ → List Bool → List Bool
mark_driver first net marks = if nat_lt net first then marks else slice_set marks (net - first) true

-- the marks with the drivers of some nets
abbrev pub mark_drivers : ℕ → List ℕ → List Bool → List Bool
mark_drivers first [] marks = marks
mark_drivers first (net ∷ nets) marks = mark_drivers first nets (mark_driver first net marks)

-- the marks with the drivers of a node's pins, where it is marked
abbrev pub marked_pins : ℕ → ℕ → List ℕ → List Bool → List Bool
marked_pins first place reads marks = if bit marks place then mark_drivers first reads marks else marks
