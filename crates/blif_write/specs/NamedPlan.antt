-- Plans by names: what the plan lines of a text say, with each net by the text of its name.
use Rattle.std.specs.Prelude.{ℕ, Bool, List, [], ◌∷◌, ◌++◌, map, slice_index}
use Rattle.fault_secure.specs.declared.code.Code.{Code}
use Rattle.tsc_net.specs.Names.{text_at}
use Rattle.fault_secure.specs.CodePlan.{CodePlan}
use Rattle.tsc_net.specs.NetlistOf.{NetlistOf, names_of}

-- the version and the code, each parity group as the names of its outputs and then that of its check, all checks, and the state words
pub record NamedPlan : Type 0 where
  pub version : ℕ
  pub code : Code
  pub groups : List (List (List ℕ))
  pub checks : List (List ℕ)
  pub states : List (List Bool)

-- the name of the output at a place
abbrev pub output_name : NetlistOf → ℕ → List ℕ
output_name net place = text_at net.names (slice_index net.circuit.outputs place)

-- a group by names: the outputs at its places, and its check
abbrev pub named_group : NetlistOf → List ℕ → ℕ → List (List ℕ)
named_group net places check = map (output_name net) places ++ text_at net.names check ∷ []

-- the groups by names, each with the check at its place
abbrev pub named_groups : NetlistOf → List (List ℕ) → List ℕ → List (List (List ℕ))
named_groups net [] checks = []
named_groups net (group ∷ groups) [] = []
named_groups net (group ∷ groups) (check ∷ checks) = named_group net group check ∷ named_groups net groups checks

-- a plan of the netlist by names
abbrev pub named_plan : NetlistOf → CodePlan → NamedPlan
named_plan net P = record {
  version = P.version;
  code = P.code;
  groups = named_groups net P.groups P.checks;
  checks = names_of net.names P.checks;
  states = P.states;
}
