-- What a mapping that is read implies: the statements of the laws.
use Rattle.std.specs.Prelude.{◌≡◌, ℕ, ◌<◌, Bool, true, false, List, length}
use Rattle.fault_secure.specs.Circuit.{Circuit, node_net, nets, bit}
use Rattle.fault_secure.specs.Settle.{Acyclic}
use Rattle.fault_secure.specs.Closed.{IsClosed}
use Rattle.fault_secure.specs.CodePlan.{CodePlan}
use Rattle.fault_secure.specs.Logic.{Logic}
use Rattle.fault_secure.specs.FaultSecure.{IsFaultSecure}
use Rattle.fault_secure.specs.CellSecure.{IsCellSecure}
use Rattle.mapping_laws.specs.Mapping.{IsMapped, BlockSettles, moved_plan}
use Rattle.mapping_laws.specs.FailingBlock.{IsBlockSecure}
use Rattle.tsc_net.specs.Order.{fan_ins, IsOrder}
use Rattle.mapping_reading.specs.ReadMapping.{is_own, members, evaluated, GivesCover, IsReadMapping, some_block}

-- each netlist reads as itself, each gate being its own block
abbrev pub OwnMappingReads : Type 0
OwnMappingReads = (N : Circuit) (order : List ℕ) → IsReadMapping N N (λ net. net) (λ gate. gate) order

-- what reads as a mapping, along an evaluation order, is one
abbrev pub ReadMappingIsMapping : Type 0
ReadMappingIsMapping = (N G : Circuit) (at block : ℕ → ℕ) (order : List ℕ) → IsClosed G → IsOrder (fan_ins G) order
    → IsReadMapping N G at block order → IsMapped N G at (some_block N block)

-- secure against any gates of one block that fail at once, any one cell, each listed fault
pub record IsSecureInAll (M : Logic) (N G : Circuit) (block : ℕ → ℕ) (P : CodePlan) : Type 0 where
  pub blocks : IsBlockSecure M N G block P
  pub cells : IsCellSecure M G P
  pub faults : IsFaultSecure M G P

-- so it is, with the plan moved, where what was mapped is secure against any one cell
abbrev pub ReadMappingIsSecure : Type 0
ReadMappingIsSecure = (M : Logic) (N G : Circuit) (at block : ℕ → ℕ) (order : List ℕ) (P : CodePlan) → IsClosed G → IsOrder (fan_ins G) order
    → IsReadMapping N G at block order → IsCellSecure M N P → IsSecureInAll M N G (some_block N block) (moved_plan at P)

-- the evaluated row is a valuation in which the block settles, and each net that no gate of the block drives keeps its bit
pub record SettlesAsEvaluated (G : Circuit) (block : ℕ → ℕ) (j : ℕ) (row v : List Bool) : Type 0 where
  pub settles : BlockSettles G block j v
  pub kept : (net : ℕ) → is_own G block j net ≡ false → bit v net ≡ bit row net

abbrev pub EvaluationSettles : Type 0
EvaluationSettles = (G : Circuit) (block : ℕ → ℕ) (order : List ℕ) (j : ℕ) (row : List Bool) → IsOrder (fan_ins G) order → length row ≡ nets G
    → SettlesAsEvaluated G block j row (evaluated G (members block order j) row)

-- so in a mapping each block gives its cover, where neither netlist has a ring: to miss one on some value is to be no mapping
abbrev pub MappingGivesCovers : Type 0
MappingGivesCovers = (N G : Circuit) (at block : ℕ → ℕ) (order : List ℕ) (j : ℕ) → IsMapped N G at block → Acyclic N → IsClosed N
    → IsOrder (fan_ins G) order → ((k : ℕ) → k < length N.nodes → is_own G block k (at (node_net N k)) ≡ true) → j < length N.nodes
    → GivesCover N G at block order j
