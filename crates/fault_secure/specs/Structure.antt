-- The structure of a netlist that makes it fault-secure: rails outside the function, a checker that reads only the word,
-- negations only at inputs (a unate function), groups with disjoint cones, a code-disjoint checker.
use Rattle.std.specs.Prelude.{◌≡◌, ℕ, ◌<◌, ◌≤◌, ◌⊎◌, ◌↔◌, List, length, slice_index, slice_index_or, IsFalse, Contains}
use Rattle.std.specs.Prelude.{Bool, []}
use Rattle.tsc_cover.specs.Cover.{wrong_sign}
use Rattle.fault_secure.specs.Circuit.{Circuit, node, node_net, pin_net, bit}
use Rattle.fault_secure.specs.StuckAt.{NoFault}
use Rattle.fault_secure.specs.Settle.{node_value}
use Rattle.fault_secure.specs.CodePlan.{CodePlan, monitored, word, members, IsCodeword, RailsAgree}
use Rattle.fault_secure.specs.Depends.{Depends, InFunction, InChecker}

-- a net is driven by a node outside the function
pub record IsDrivenOutside (N : Circuit) (P : CodePlan) (net : ℕ) : Type 0 where
  pub driver : ℕ
  pub is_node : driver < length N.nodes
  pub drives : net ≡ node_net N driver
  pub outside : InFunction N P driver → ⊥

-- both rails are driven by nodes outside the function
pub record RailsOutside (N : Circuit) (P : CodePlan) : Type 0 where
  pub first : IsDrivenOutside N P P.rail1
  pub second : IsDrivenOutside N P P.rail2

-- a net that the checker may read: one of its own or a monitored one
abbrev pub IsOfChecker : Circuit → CodePlan → ℕ → Type 0
IsOfChecker N P net = ((q : ℕ) × (q < length N.nodes) × (net ≡ node_net N q) × InChecker N P q) ⊎ Contains (monitored N P) net

-- each pin of the checker reads the checker or a monitored net
pub record ReadsOnlyWord (N : Circuit) (P : CodePlan) : Type 0 where
  pub reads : (q pin : ℕ) → q < length N.nodes → InChecker N P q → pin < length (node N q).reads → IsOfChecker N P (pin_net N q pin)

-- negations only at inputs: no pin of the function that reads another net than an input has the wrong sign
pub record IsUnate (N : Circuit) (P : CodePlan) : Type 0 where
  pub signs : (q pin : ℕ) → q < length N.nodes → InFunction N P q → pin < length (node N q).reads → N.inputs ≤ pin_net N q pin → IsFalse (wrong_sign (node N q).cover pin)

-- two places of the word share a node
pub record SharesNode (N : Circuit) (P : CodePlan) (a b : ℕ) : Type 0 where
  pub shared : ℕ
  pub first : Depends N shared (slice_index (monitored N P) a)
  pub second : Depends N shared (slice_index (monitored N P) b)

-- no two places of one group share a node, and there is no latch
pub record HasDisjointCones (N : Circuit) (P : CodePlan) : Type 0 where
  pub no_latch : length N.latches ≡ 0
  pub disjoint : (group a b : ℕ) → a < b → b < length (slice_index_or (members P) group [])
      → SharesNode N P (slice_index (slice_index_or (members P) group []) a) (slice_index (slice_index_or (members P) group []) b) → ⊥

-- the checker's nodes settle in v, without a fault
pub record CheckerSettles (N : Circuit) (P : CodePlan) (v : List Bool) : Type 0 where
  pub settles : (q : ℕ) → q < length N.nodes → InChecker N P q → bit v (node_net N q) ≡ node_value N NoFault v q

-- the checker is code-disjoint: the rails differ exactly where the word is a codeword
pub record IsCodeDisjoint (N : Circuit) (P : CodePlan) : Type 0 where
  pub decides : (v : List Bool) → CheckerSettles N P v → (RailsAgree P v → ⊥) ↔ IsCodeword P (word N P v)
