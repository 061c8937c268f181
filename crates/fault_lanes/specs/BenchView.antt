-- What is seen of a bench of the code, and what it keeps.
use Rattle.std.specs.Prelude.{◌≡◌, ◌*◌, length}
use Rattle.fault_secure.specs.Circuit.{nets}
use Rattle.fault_lanes.specs.Bench.{LanesState}
use Rattle.fault_lanes.specs.Chains.{AreChains}
use Rattle.fault_lanes.specs.Ready.{IsReady}
use Rattle.fault_lanes.specs.declared.bench.FaultLanes.TheInside.{Inside}

abbrev pub lanes_as : Inside → LanesState
lanes_as bench = record {
  circuit = bench.net.now.circuit;
  faults = bench.chains.faults.items;
  states = bench.states.items;
  nets = bench.words.items;
}

-- the words are those of its latches and nets, and there is room for the pins of a node
pub record KeepsLanes (bench : Inside) : Type 0 where
  pub ready : IsReady bench.net.now.circuit bench.ready
  pub chains : AreChains (nets bench.net.now.circuit) bench.chains
  pub states : length bench.states.items ≡ length bench.net.now.circuit.latches * 16
  pub pins : length bench.pins.items ≡ 1024
  pub nets : length bench.words.items ≡ nets bench.net.now.circuit * 16
