-- Twins of a source with registers: two copies of its covers and registers. The outputs of one are shown, and the checks are worked out from
-- the other.
use Rattle.std.specs.Prelude.{◌≡◌, ℕ, ◌<◌, Bool, List, [], map, take, length, slice_index, slice_index_or}
use Rattle.fault_secure.specs.Circuit.{Circuit, NodeOf, node, node_net, latch, latch_net, nets, bit}
use Rattle.fault_secure.specs.StuckAt.{NoFault}
use Rattle.fault_secure.specs.Closed.{IsClosed}
use Rattle.fault_secure.specs.Settle.{Settles, Acyclic}
use Rattle.fault_secure.specs.CodePlan.{HasGroups}
use Rattle.fault_secure.specs.FailingCell.{IsCell}
use Rattle.register_laws.specs.RegisterPlan.{RegisterPlan, next_net, IsOdd}
use Rattle.register_laws.specs.RegisterStructure.{Reaches, at, DecidesGroups}
use Rattle.register_laws.specs.RegisterSecure.{IsRegisterSecure, IsRegisterFaultSecure}

-- where a copy stands: the net of each net, the latch of each latch, the node of each node
pub record Placing : Type 0 where
  pub net : ℕ → ℕ
  pub latch_at : ℕ → ℕ
  pub node_at : ℕ → ℕ

-- a node with the nets at its pins renamed
abbrev pub renamed : (ℕ → ℕ) → NodeOf → NodeOf
renamed net n = record { reads = map net n.reads; cover = n.cover }

-- N has a copy of the covers and registers of S: inputs stand for themselves, each copied node reads copies by the same cover, each copied
-- latch reads the copy of what the latch reads and holds the same bit first, and different nets have different copies
pub record HasCopy (S N : Circuit) (c : Placing) : Type 0 where
  pub inputs : (i : ℕ) → i < S.inputs → c.net i ≡ i
  pub latches : (l : ℕ) → l < length S.latches → c.net (latch_net S l) ≡ latch_net N (c.latch_at l)
  pub latch_in : (l : ℕ) → l < length S.latches → c.latch_at l < length N.latches
  pub nodes : (j : ℕ) → j < length S.nodes → c.net (node_net S j) ≡ node_net N (c.node_at j)
  pub node_in : (j : ℕ) → j < length S.nodes → c.node_at j < length N.nodes
  pub covers : (j : ℕ) → j < length S.nodes → node N (c.node_at j) ≡ renamed c.net (node S j)
  pub reads : (l : ℕ) → l < length S.latches → next_net N (c.latch_at l) ≡ c.net (next_net S l)
  pub inits : (l : ℕ) → l < length S.latches → (latch N (c.latch_at l)).init ≡ (latch S l).init
  pub different : (n m : ℕ) → n < nets S → m < nets S → c.net n ≡ c.net m → n ≡ m

-- N with its plan is a twin of S: it has two copies, `own` and `copy`, and shows the outputs of the own one. No cell of S reaches two outputs
-- of a group, at whatever step; no cell of the own copy reaches a check, at whatever step. Where both copies have the same bits every group
-- is odd, and every list of watched nets; and the checker decides
pub record IsTwin (S N : Circuit) (P : RegisterPlan) (own copy : Placing) : Type 0 where
  pub source_closed : IsClosed S
  pub source_acyclic : Acyclic S
  pub acyclic : Acyclic N
  pub same_inputs : N.inputs ≡ S.inputs
  pub owns : HasCopy S N own
  pub copies : HasCopy S N copy
  pub groups : HasGroups P.plan
  pub counted : length S.outputs ≡ P.plan.outputs
  pub outputs : take P.plan.outputs N.outputs ≡ map own.net S.outputs
  pub apart : (cell group a b : ℕ) → IsCell S cell → a < b → b < length (slice_index_or P.plan.groups group [])
      → Reaches S cell (slice_index S.outputs (at P.plan.groups group a)) → Reaches S cell (slice_index S.outputs (at P.plan.groups group b)) → ⊥
  pub checks_apart : (cell check : ℕ) → IsCell S cell → check < length P.plan.checks → Reaches N (own.net cell) (slice_index P.plan.checks check) → ⊥
  pub foretold : (x s : ℕ → Bool) (v : List Bool) → Settles N NoFault x s v
      → ((n : ℕ) → n < nets S → bit v (own.net n) ≡ bit v (copy.net n)) → IsOdd N P v
  pub checker : DecidesGroups N P

-- a twin is secure for its source against any one failing cell
abbrev pub TwinsAreSecure : Type 0
TwinsAreSecure = (S N : Circuit) (P : RegisterPlan) (own copy : Placing) → IsTwin S N P own copy → IsRegisterSecure S N P

-- and against each listed fault, present at any steps
abbrev pub TwinsAreFaultSecure : Type 0
TwinsAreFaultSecure = (S N : Circuit) (P : RegisterPlan) (own copy : Placing) → IsTwin S N P own copy → IsRegisterFaultSecure S N P
