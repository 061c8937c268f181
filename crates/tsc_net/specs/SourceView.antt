-- What a source of the code means.
use Rattle.std.specs.Prelude.{◌≡◌, length}
use Rattle.fault_secure.specs.Circuit.{Circuit}
use Rattle.fault_secure.specs.Logic.{Logic, Network, States, Loose}
use Rattle.tsc_net.specs.declared.source_meaning.SourceMeaning.{SourceMeaning}
use Rattle.tsc_net.specs.declared.source_meaning.SourceMeaning.TheVariants.{Network as TheNetwork, Machine as TheMachine, Loose as TheLoose}

-- the logic that a source is
abbrev pub logic_of : SourceMeaning → Logic
logic_of (TheNetwork net) = Network net.now.circuit
logic_of (TheMachine machine) = States machine.now.table
logic_of (TheLoose loose) = Loose loose.now.value.circuit loose.now.free.circuit

-- two networks are a loose source: neither has a latch, and they have as many inputs and outputs
pub record IsLooseSource (V F : Circuit) : Type 0 where
  pub value : length V.latches ≡ 0
  pub free : length F.latches ≡ 0
  pub inputs : F.inputs ≡ V.inputs
  pub outputs : length F.outputs ≡ length V.outputs
