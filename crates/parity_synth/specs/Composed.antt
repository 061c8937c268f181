-- The parts of a netlist with foretold checks, and those of a parity netlist, as they are composed by names.
use Rattle.std.specs.Prelude.{ℕ, List, [], ◌∷◌, ◌++◌, map, None}
use Rattle.fault_secure.specs.Circuit.{nets}
use Rattle.tsc_net.specs.Named.{NamedNode}
use Rattle.tsc_net.specs.Names.{text_at}
use Rattle.tsc_net.specs.NetlistOf.{NetlistOf}
use Rattle.tsc_net.specs.Parts.{PartsOf}
use Rattle.parity_code.specs.Predictors.{node_by, with_nodes, with_predictors, check_texts}
use Rattle.code_checkers.specs.GateList.{GateList}
use Rattle.net_writing.specs.Begun.{begun_to}
use Rattle.net_writing.specs.Outputs.{with_outputs}
use Rattle.net_writing.specs.CheckerParts.{with_checker}

-- the parts with outputs, a checker over these and some checks, and then its rails as outputs
unfoldable pub with_checked : PartsOf → List (List ℕ) → List (List ℕ) → GateList → PartsOf
with_checked p outputs checks made =
    let c = with_checker (with_outputs p outputs) (outputs ++ checks) made None in
    with_outputs c.parts (text_at c.names made.rail1 ∷ (text_at c.names made.rail2 ∷ []))

-- the covers of a source at some places, under the source's names
abbrev pub own_nodes : NetlistOf → List ℕ → List NamedNode
own_nodes S kept = map (node_by S.circuit (text_at S.names)) kept

-- the parts with these covers
abbrev pub own_parts : NetlistOf → List ℕ → PartsOf
own_parts S kept = with_nodes (begun_to S (nets S.circuit)) (own_nodes S kept)

-- the parts of a parity netlist: the own covers with the predictors of some groups after them, the outputs, and a checker over these
-- and the checks
abbrev pub composed_parts : NetlistOf → List ℕ → List (List ℕ) → GateList → PartsOf
composed_parts S kept groups made =
    with_checked (with_predictors S groups (own_parts S kept)) (map (text_at S.names) S.circuit.outputs) (check_texts S groups (own_parts S kept)) made
