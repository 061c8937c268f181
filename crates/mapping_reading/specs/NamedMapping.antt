-- Where nets went, by their names.
use Rattle.std.specs.Prelude.{◌≡◌, ℕ, ◌<◌, ◌≤◌, List, length, map}
use Rattle.fault_secure.specs.Circuit.{Circuit, LatchOf, node_net, nets}
use Rattle.fault_secure.specs.Closed.{IsClosed}
use Rattle.fault_secure.specs.CodePlan.{CodePlan}
use Rattle.fault_secure.specs.Logic.{Logic}
use Rattle.fault_secure.specs.CellSecure.{IsCellSecure}
use Rattle.mapping_laws.specs.Mapping.{IsMapped, moved_plan}
use Rattle.register_laws.specs.RegisterPlan.{RegisterPlan, IsRegisterPlanOf}
use Rattle.register_laws.specs.RegisterSecure.{IsRegisterSecure}
use Rattle.register_laws.specs.RegisterMapping.{IsRegisterAlarmSecure, IsRegisterAlarmFaultSecure, IsRegisterBlockAlarmSecure, moved_registers}
use Rattle.tsc_net.specs.Named.{NamedLatch}
use Rattle.tsc_net.specs.Order.{fan_ins, evaluation_order, IsOrder}
use Rattle.tsc_net.specs.NetlistOf.{NetlistOf, IsBuilt, named_of}
use Rattle.tsc_net.specs.Names.{text_at, place_of_text}
use Rattle.mapping_reading.specs.ReadMapping.{first_net, IsReadMapping, some_block}
use Rattle.mapping_reading.specs.ReadMappingLaws.{IsSecureInAll}
use Rattle.mapping_reading.specs.Pins.{at_of}
use Rattle.mapping_reading.specs.MovedNets.{HaveMoved}

-- each net of N went to the net of G with its name; past all nets where there is none
abbrev pub moved_by_name : NetlistOf → NetlistOf → List ℕ
moved_by_name N G = map (place_of_text G.names) N.names

-- the name of a node's net is that of a net that a gate drives
pub record IsGateNet (N G : NetlistOf) (j : ℕ) : Type 0 where
  pub past : first_net G.circuit ≤ place_of_text G.names (text_at N.names (node_net N.circuit j))
  pub inside : place_of_text G.names (text_at N.names (node_net N.circuit j)) < nets G.circuit

-- by names the inputs, latches and outputs are the same lists, and each node's net is one that a gate drives
pub record HasSameNames (N G : NetlistOf) : Type 0 where
  pub inputs : (named_of N).inputs ≡ (named_of G).inputs
  pub latches : (named_of N).latches ≡ (named_of G).latches
  pub outputs : (named_of N).outputs ≡ (named_of G).outputs
  pub nodes : (j : ℕ) → j < length N.circuit.nodes → IsGateNet N G j

-- so nets have moved
abbrev pub NamesMove : Type 0
NamesMove = (N G : NetlistOf) → IsBuilt N → IsBuilt G → HasSameNames N G → HaveMoved N.circuit G.circuit (moved_by_name N G)

-- a latch by names
abbrev pub named_latch : List (List ℕ) → ℕ → LatchOf → NamedLatch
named_latch names from l = record { reads = text_at names l.reads; out = text_at names from; init = l.init }

-- the first node whose net's name isn't that of a net that a gate drives
pub record IsFirstMissing (N G : NetlistOf) (j : ℕ) : Type 0 where
  pub inside : j < length N.circuit.nodes
  pub missing : IsGateNet N G j → ⊥
  pub first : (k : ℕ) → k < j → IsGateNet N G k

-- there is one such node
abbrev pub FirstMissingIsOne : Type 0
FirstMissingIsOne = (N G : NetlistOf) (j k : ℕ) → IsFirstMissing N G j → IsFirstMissing N G k → j ≡ k

-- whatever the first is secure for among sources with registers, the second is with the plan moved. Where the first is alarm-secure against
-- any one cell, the second is so against any one cell, any gates of one block and each listed fault. A plan of the first is, moved, one of
-- the second
pub record RegistersStaySecure (N G : Circuit) (at block : ℕ → ℕ) : Type 0 where
  pub secure : (S : Circuit) (P : RegisterPlan) → IsRegisterSecure S N P → IsRegisterSecure S G (moved_registers at P)
  pub alarm_secure : (S : Circuit) (P : RegisterPlan) → IsRegisterAlarmSecure S N P → IsRegisterAlarmSecure S G (moved_registers at P)
  pub blocks : (S : Circuit) (P : RegisterPlan) → IsRegisterAlarmSecure S N P → IsRegisterBlockAlarmSecure S N G block (moved_registers at P)
  pub faults : (S : Circuit) (P : RegisterPlan) → IsRegisterAlarmSecure S N P → IsRegisterAlarmFaultSecure S G (moved_registers at P)
  pub plans : (P : RegisterPlan) → IsRegisterPlanOf N P → IsRegisterPlanOf G (moved_registers at P)

-- the second is the first mapped cover by cover, by these blocks; and whatever the first is secure for against any one cell, the second
-- is with the plan moved, against any gates of one block, any one cell and each listed fault. The same is so of sources with registers
pub record StaysSecure (N G : NetlistOf) (block : ℕ → ℕ) : Type 0 where
  pub mapped : IsMapped N.circuit G.circuit (at_of G.circuit (moved_by_name N G)) block
  pub secure : (M : Logic) (P : CodePlan) → IsCellSecure M N.circuit P
      → IsSecureInAll M N.circuit G.circuit block (moved_plan (at_of G.circuit (moved_by_name N G)) P)
  pub registers : RegistersStaySecure N.circuit G.circuit (at_of G.circuit (moved_by_name N G)) block

-- so it is, by the blocks that read so, where nets went by their names, and the mapped netlist is closed and has an evaluation order
abbrev pub NamesStaySecure : Type 0
NamesStaySecure = (N G : NetlistOf) (block : ℕ → ℕ) → IsClosed G.circuit → IsOrder (fan_ins G.circuit) (evaluation_order (fan_ins G.circuit))
    → IsReadMapping N.circuit G.circuit (at_of G.circuit (moved_by_name N G)) block (evaluation_order (fan_ins G.circuit))
    → StaysSecure N G (some_block N.circuit block)
