-- The functions that a circuit states for the sake of some nets.
use Rattle.std.specs.Prelude.{◌≡◌, ℕ, ◌+◌, Bool, false, if◌then◌else◌, List, [], ◌∷◌, ◌++◌, map, length}
use Rattle.std.specs.List.{range_with_len, flat_map, filter}
use Rattle.tsc_cover.specs.Cover.{Literal, CoverTable, asks_for, literal_at}
use Rattle.fault_secure.specs.Circuit.{Circuit, node, bit}
use Rattle.fault_secure.specs.StuckAt.{NoFault}
use Rattle.fault_secure.specs.Settle.{Settles}
use Rattle.tsc_net.specs.Order.{fan_ins, evaluation_order}
use Rattle.net_cones.specs.ConeMarks.{cone_marks}
use Rattle.diagrams.specs.Cofactors.{Function}
use Rattle.diagrams.specs.Building.{input_bit}
use Rattle.cover_diagrams.specs.Covering.{negation, and_so_far, or_so_far, pin_function}

-- the negation of a pin's function, where a row reads it as 0
abbrev pub read_negation : List Literal → List Function → ℕ → List Function
read_negation row ps pin = if asks_for false (literal_at row pin) then negation (pin_function ps pin) ∷ [] else []

-- what a row of a cover states over its pins' functions: the negations of those that it reads as 0, and its running ANDs, from 1 on
abbrev pub row_functions : List Function → List Literal → List Function
row_functions ps row = flat_map (read_negation row ps) (range_with_len 0 (length row)) ++ map (and_so_far row ps) (range_with_len 0 (length row + 1))

-- what a cover states: what its rows do, the running ORs over them, from 0 on, and for an off-set the negation of the last OR
abbrev pub cover_functions : CoverTable → List Function → List Function
cover_functions c ps =
    flat_map (row_functions ps) c.rows
    ++ (map (or_so_far c.rows ps) (range_with_len 0 (length c.rows + 1)) ++ (if c.on then [] else negation (or_so_far c.rows ps (length c.rows)) ∷ []))

-- at each input a valuation that settles without a fault, all latches giving 0
pub record AreValuations (N : Circuit) (v : List Bool → List Bool) : Type 0 where
  pub settles : (x : List Bool) → length x ≡ N.inputs → Settles N NoFault (bit x) (λ l. false) (v x)

-- the function of a net: its bit, input by input
abbrev pub net_function : (List Bool → List Bool) → ℕ → Function
net_function v net x = bit (v x) net

-- what a node states over the functions of the nets at its pins
abbrev pub node_functions : Circuit → (List Bool → List Bool) → ℕ → List Function
node_functions N v j = cover_functions (node N j).cover (map (net_function v) (node N j).reads)

-- the nodes that some nets depend on, in their evaluation order
abbrev pub needed_nodes : Circuit → List ℕ → List ℕ
needed_nodes N roots = filter (bit (cone_marks N roots)) (evaluation_order (fan_ins N))

-- what a circuit states for the sake of some nets: its inputs, and what the nodes do that the nets depend on
abbrev pub circuit_functions : Circuit → (List Bool → List Bool) → List ℕ → List Function
circuit_functions N v roots = map input_bit (range_with_len 0 N.inputs) ++ flat_map (node_functions N v) (needed_nodes N roots)
