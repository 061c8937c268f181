-- The checks of groups over some nets, as they are pushed to a netlist by numbers.
use Rattle.std.specs.Prelude.{ℕ, ◌+◌, List, [], ◌∷◌, ◌++◌, map, length, slice_index}
use Rattle.fault_secure.specs.Circuit.{NodeOf}
use Rattle.tsc_net.specs.NetlistOf.{NetlistOf}
use Rattle.parity_code.specs.ParityCircuit.{parity_nodes}

-- the net of the first node
abbrev pub first_node : NetlistOf → ℕ
first_node N = N.circuit.inputs + length N.circuit.latches

-- the chain over some nets and its negation, as the next nodes of a netlist
abbrev pub parity_over : NetlistOf → List ℕ → List NodeOf
parity_over N list = parity_nodes (first_node N) (length N.circuit.nodes) list

-- the checks of some groups of places of a list of nets, one after another, from node place `from` on
abbrev pub checks_from : ℕ → ℕ → List ℕ → List (List ℕ) → List NodeOf
checks_from first from shown [] = []
checks_from first from shown (group ∷ groups) =
    parity_nodes first from (map (slice_index shown) group) ++ checks_from first (from + length group) shown groups

-- as the next nodes of a netlist
abbrev pub checks_over : NetlistOf → List ℕ → List (List ℕ) → List NodeOf
checks_over N shown groups = checks_from (first_node N) (length N.circuit.nodes) shown groups
