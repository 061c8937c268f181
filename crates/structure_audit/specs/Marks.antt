-- Marks on nodes and nets, as the search for the first reason reads them.
use Rattle.std.specs.Prelude.{◌≡◌, ℕ, ◌+◌, ◌-◌, ◌<◌, ◌≤◌, ◌↔◌, nat_lt, Bool, not, ◌&&◌, ◌||◌, List, length, Option, Some, None, IsTrue, IsFalse}
use Rattle.tsc_cover.specs.Cover.{wrong_sign}
use Rattle.fault_secure.specs.Circuit.{Circuit, node, pin_net, bit}
use Rattle.fault_secure.specs.CodePlan.{CodePlan}
use Rattle.fault_secure.specs.Depends.{InChecker}
use Rattle.fault_secure.specs.Structure.{RailsOutside}
use Rattle.tsc_net.specs.declared.ids.NetId.{NetId}
use Rattle.structure_audit.specs.StructureReason.{IsFirstPinOf, IsFirstInnerRail}
use Rattle.structure_audit.specs.declared.pins.PinAt.{PinAt}

-- a mark for each node of the checker
pub record MarksChecker (N : Circuit) (P : CodePlan) (marks : List Bool) : Type 0 where
  pub sized : length marks ≡ length N.nodes
  pub exact : (q : ℕ) → q < length N.nodes → IsTrue (bit marks q) ↔ InChecker N P q

-- the net is driven by a node, whose mark this is; the node at place 0 drives the net `first`
abbrev pub drives_marked : ℕ → List Bool → ℕ → Bool
drives_marked first marks net = not (nat_lt net first) && bit marks (net - first)

-- the net is monitored, or a node of the checker drives it
abbrev pub is_readable : ℕ → List Bool → List Bool → ℕ → Bool
is_readable first checker word net = bit word net || drives_marked first checker net

-- a pin of a node with a mark reads a net that isn't readable
pub record ReadsUnmarked (N : Circuit) (checker word : List Bool) (q pin : ℕ) : Type 0 where
  pub is_node : q < length N.nodes
  pub in_checker : IsTrue (bit checker q)
  pub is_pin : pin < length (node N q).reads
  pub foreign : IsFalse (is_readable (N.inputs + length N.latches) checker word (pin_net N q pin))

-- a pin of a node with a mark reads another net than an input, with the wrong sign
pub record HasMarkedSign (N : Circuit) (function : List Bool) (q pin : ℕ) : Type 0 where
  pub is_node : q < length N.nodes
  pub in_function : IsTrue (bit function q)
  pub is_pin : pin < length (node N q).reads
  pub inner : N.inputs ≤ pin_net N q pin
  pub wrong : IsTrue (wrong_sign (node N q).cover pin)

-- the first pin of node q that breaks the rule, if there is one
abbrev pub IsPinOf : (ℕ → ℕ → Type 0) → ℕ → Option ℕ → Type 0
IsPinOf Breaks q None = (pin : ℕ) → Breaks q pin → ⊥
IsPinOf Breaks q (Some pin) = Breaks q pin × ((other : ℕ) → other < pin → Breaks q other → ⊥)

-- the first pin at which the rule is broken, if there is one
abbrev pub IsPinSearch : Circuit → (ℕ → ℕ → Type 0) → Option PinAt → Type 0
IsPinSearch N Breaks None = (q pin : ℕ) → Breaks q pin → ⊥
IsPinSearch N Breaks (Some at) = IsFirstPinOf N Breaks at.node.number at.pin

-- the first rail that no node outside the function drives, if there is one
abbrev pub IsRailSearch : Circuit → CodePlan → Option NetId → Type 0
IsRailSearch N P None = RailsOutside N P
IsRailSearch N P (Some net) = IsFirstInnerRail N P net.number
