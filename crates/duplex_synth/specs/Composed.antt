-- The parts of a duplex netlist, as they are composed by names.
use Rattle.std.specs.Prelude.{ℕ, List, map}
use Rattle.tsc_net.specs.Names.{text_at}
use Rattle.tsc_net.specs.NetlistOf.{NetlistOf}
use Rattle.tsc_net.specs.Parts.{PartsOf}
use Rattle.parity_code.specs.SharedParts.{with_shared, shared_texts}
use Rattle.code_checkers.specs.GateList.{GateList}
use Rattle.parity_synth.specs.Composed.{with_checked, own_parts}

-- the parts of a duplex netlist: the own covers at `kept`, one copy of them with the checks of the groups, the outputs, and a checker
-- over these and the checks
abbrev pub duplex_parts : NetlistOf → List ℕ → List (List ℕ) → GateList → PartsOf
duplex_parts S kept groups made =
    with_checked (with_shared S kept groups (own_parts S kept)) (map (text_at S.names) S.circuit.outputs) (shared_texts S kept groups (own_parts S kept)) made
