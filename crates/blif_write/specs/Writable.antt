-- Which netlists are read again as they are written.
use Rattle.std.specs.Prelude.{◌≡◌, ℕ, ◌≤◌, true, List, [], length, IsTrue, All}
use Rattle.std.specs.List.{list_all}
use Rattle.tsc_bits.specs.Lists.{AreApart}
use Rattle.tsc_text.specs.Bytes.{is_allowed}
use Rattle.tsc_text.specs.Written.{is_name}
use Rattle.fault_secure.specs.Circuit.{NodeOf}
use Rattle.tsc_net.specs.NetlistOf.{NetlistOf}

-- a name that a text can hold: a word without `#`, of bytes that a text may hold, and at most 255 of them
pub record IsGoodName (name : List ℕ) : Type 0 where
  pub word : IsTrue (is_name name)
  pub allowed : IsTrue (list_all is_allowed name)
  pub short : length name ≤ 255

-- a node that a text can hold: at most 64 pins, one literal per pin in each row, and an on-set where there is no row
pub record IsWritableNode (n : NodeOf) : Type 0 where
  pub pins : length n.reads ≤ 64
  pub rows : All (λ row. length row ≡ n.cover.width) n.cover.rows
  pub set : n.cover.rows ≡ [] → n.cover.on ≡ true

-- a netlist that a text can hold: good names, writable nodes, no net twice among the outputs, and no count above its limit
pub record IsWritable (net : NetlistOf) : Type 0 where
  pub model : IsGoodName net.model
  pub names : All IsGoodName net.names
  pub inputs : net.circuit.inputs ≤ 1024
  pub outputs : length net.circuit.outputs ≤ 66
  pub latches : length net.circuit.latches ≤ 64
  pub nodes : length net.circuit.nodes ≤ 1048576
  pub different : AreApart net.circuit.outputs
  pub each_node : All IsWritableNode net.circuit.nodes
