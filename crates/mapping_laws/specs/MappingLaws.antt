-- What mapping cover by cover keeps: the statements of the laws.
use Rattle.std.specs.Prelude.{◌≡◌, ℕ, ◌<◌, Bool, List, length, map}
use Rattle.tsc_cover.specs.Cover.{truth}
use Rattle.fault_secure.specs.Circuit.{Circuit, node, nets, bit}
use Rattle.fault_secure.specs.Settle.{Acyclic}
use Rattle.fault_secure.specs.CodePlan.{CodePlan, IsWellMade, IsPlanOf, word}
use Rattle.fault_secure.specs.Logic.{Logic}
use Rattle.fault_secure.specs.FailingCell.{IsCell, RunsBut}
use Rattle.fault_secure.specs.FaultSecure.{IsFaultSecure}
use Rattle.fault_secure.specs.CellSecure.{IsCellSecure}
use Rattle.mapping_laws.specs.Mapping.{IsMapped, moved_plan, as_mapped}
use Rattle.mapping_laws.specs.FailingBlock.{cell_at, RunsButBlock, IsBlockSecure}

-- each netlist is a mapping of itself
abbrev pub IsOwnMapping : Type 0
IsOwnMapping = (N : Circuit) → IsMapped N N (λ net. net) (λ gate. gate)

-- a mapping of a mapping is a mapping
abbrev pub MappingsJoin : Type 0
MappingsJoin = (N G H : Circuit) (at block to part : ℕ → ℕ) → IsMapped N G at block → IsMapped G H to part
    → IsMapped N H (λ net. to (at net)) (λ gate. block (part gate))

-- a node whose cover is constant has a gate of its own
abbrev pub ConstantHasGate : Type 0
ConstantHasGate = (N G : Circuit) (at block : ℕ → ℕ) (j : ℕ) (constant : Bool) → IsMapped N G at block → j < length N.nodes
    → ((bits : List Bool) → truth (node N j).cover bits ≡ constant) → (g : ℕ) × (g < length G.nodes) × (block g ≡ j)

-- a valuation of G, as one of N, has at each net the bit that stands where it went, and the same word
abbrev pub MappedBits : Type 0
MappedBits = (N G : Circuit) (at block : ℕ → ℕ) (P : CodePlan) (v : List Bool) → IsMapped N G at block → length v ≡ nets G
    → ((net : ℕ) → bit (as_mapped N at v) net ≡ bit v (at net)) × (word N P (as_mapped N at v) ≡ word G (moved_plan at P) v)

-- the moved plan is a plan of the mapped netlist
abbrev pub MovedPlanIsPlan : Type 0
MovedPlanIsPlan = (N G : Circuit) (at block : ℕ → ℕ) (P : CodePlan) → IsMapped N G at block → IsPlanOf N P → IsPlanOf G (moved_plan at P)

-- and well made where the plan is
abbrev pub MovedPlanIsWellMade : Type 0
MovedPlanIsWellMade = (at : ℕ → ℕ) (P : CodePlan) → IsWellMade P → IsWellMade (moved_plan at P)

-- the valuations us of G show on N as a run in which the one cell fails, with the same words
pub record ShowsAsCell (N G : Circuit) (at : ℕ → ℕ) (P : CodePlan) (cell : ℕ) (xs us : List (List Bool)) : Type 0 where
  pub runs : RunsBut N cell xs (map (as_mapped N at) us)
  pub words : map (word N P) (map (as_mapped N at) us) ≡ map (word G (moved_plan at P)) us

-- a run of G in which gates of one block fail shows on N as one in which that one cell fails
abbrev pub BlockFailsAsCell : Type 0
BlockFailsAsCell = (N G : Circuit) (at block : ℕ → ℕ) (P : CodePlan) (cell : ℕ) (xs us : List (List Bool)) → IsMapped N G at block
    → RunsButBlock N G block cell xs us → ShowsAsCell N G at P cell xs us

-- so does a run of G in which one gate fails, or one latch
abbrev pub GateFailsAsCell : Type 0
GateFailsAsCell = (N G : Circuit) (at block : ℕ → ℕ) (P : CodePlan) (net : ℕ) (xs us : List (List Bool)) → IsMapped N G at block
    → IsCell G net → RunsBut G net xs us
    → IsCell N (cell_at N G block net) × ShowsAsCell N G at P (cell_at N G block net) xs us

-- what is secure against any one failing cell is, mapped cover by cover, secure against any failing gates of one block
abbrev pub MappedIsBlockSecure : Type 0
MappedIsBlockSecure = (M : Logic) (N G : Circuit) (at block : ℕ → ℕ) (P : CodePlan) → IsMapped N G at block → Acyclic G
    → IsCellSecure M N P → IsBlockSecure M N G block (moved_plan at P)

-- what is secure against any failing gates of one block is so against any one failing gate: no gate is of no block
abbrev pub BlockSecureIsCellSecure : Type 0
BlockSecureIsCellSecure = (M : Logic) (N G : Circuit) (block : ℕ → ℕ) (P : CodePlan) → G.inputs ≡ N.inputs → length G.latches ≡ length N.latches
    → Acyclic G → IsBlockSecure M N G block P → IsCellSecure M G P

-- and so is what was mapped
abbrev pub MappedIsCellSecure : Type 0
MappedIsCellSecure = (M : Logic) (N G : Circuit) (at block : ℕ → ℕ) (P : CodePlan) → IsMapped N G at block → Acyclic G
    → IsCellSecure M N P → IsCellSecure M G (moved_plan at P)

-- and fault-secure
abbrev pub MappedIsFaultSecure : Type 0
MappedIsFaultSecure = (M : Logic) (N G : Circuit) (at block : ℕ → ℕ) (P : CodePlan) → IsMapped N G at block → Acyclic G
    → IsCellSecure M N P → IsFaultSecure M G (moved_plan at P)
