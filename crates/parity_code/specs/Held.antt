-- What parts hold of a netlist, and what they keep.
use Rattle.std.specs.Prelude.{◌≡◌, ℕ, List, ◌++◌, take}
use Rattle.tsc_net.specs.Named.{Named, NamedNode}
use Rattle.tsc_net.specs.NetlistOf.{NetlistOf}
use Rattle.tsc_net.specs.Parts.{PartsOf}

-- the inputs begin with those of the source
abbrev pub HoldsInputs : NetlistOf → Named → Type 0
HoldsInputs S N = take S.circuit.inputs N.inputs ≡ take S.circuit.inputs S.names

-- the parts hold what they held, followed by nodes and names
pub record PartsGrow (old new : PartsOf) : Type 0 where
  pub added : List NamedNode
  pub more : List (List ℕ)
  pub nodes : new.named.nodes ≡ old.named.nodes ++ added
  pub names : new.names ≡ old.names ++ more
  pub model : new.named.model ≡ old.named.model
  pub inputs : new.named.inputs ≡ old.named.inputs
  pub outputs : new.named.outputs ≡ old.named.outputs
  pub latches : new.named.latches ≡ old.named.latches
