-- The first condition on the structure of a netlist with its plan that doesn't hold, and what an audit of the structure answers.
use Rattle.std.specs.Prelude.{◌≡◌, ℕ, ◌<◌, ◌≤◌, ◌⊎◌, List, [], length, slice_index, slice_index_or, IsTrue, Option, Some, None}
use Rattle.tsc_cover.specs.Cover.{wrong_sign}
use Rattle.fault_secure.specs.declared.code.Code.TheVariants.{Parity}
use Rattle.fault_secure.specs.Circuit.{Circuit, node, node_net, pin_net}
use Rattle.fault_secure.specs.CodePlan.{CodePlan, monitored, members, IsUnorderedCode}
use Rattle.fault_secure.specs.Depends.{Depends, InFunction, InChecker}
use Rattle.fault_secure.specs.Structure.{IsDrivenOutside, RailsOutside, IsOfChecker, ReadsOnlyWord, SharesNode}
use Rattle.fault_secure.specs.SoundStructure.{SuitsCode}
use Rattle.structure_audit.specs.declared.reason.StructureReason.{StructureReason}
use Rattle.structure_audit.specs.declared.reason.StructureReason.TheVariants.{Rails, Reads, Sign, Latched, Shares}

-- by node in text order, then by pin from the left
abbrev pub PinComesBefore : ℕ → ℕ → ℕ → ℕ → Type 0
PinComesBefore q pin r other = (q < r) ⊎ ((q ≡ r) × (pin < other))

-- the first pin at which a rule is broken
pub record IsFirstPin (Breaks : ℕ → ℕ → Type 0) (q pin : ℕ) : Type 0 where
  pub breaks : Breaks q pin
  pub first : (r other : ℕ) → PinComesBefore r other q pin → Breaks r other → ⊥

-- a pin of the checker reads neither the checker nor a monitored net
pub record ReadsForeign (N : Circuit) (P : CodePlan) (q pin : ℕ) : Type 0 where
  pub is_node : q < length N.nodes
  pub in_checker : InChecker N P q
  pub is_pin : pin < length (node N q).reads
  pub foreign : IsOfChecker N P (pin_net N q pin) → ⊥

-- a pin of the function that reads another net than an input has the wrong sign
pub record HasWrongSign (N : Circuit) (P : CodePlan) (q pin : ℕ) : Type 0 where
  pub is_node : q < length N.nodes
  pub in_function : InFunction N P q
  pub is_pin : pin < length (node N q).reads
  pub inner : N.inputs ≤ pin_net N q pin
  pub wrong : IsTrue (wrong_sign (node N q).cover pin)

-- the places of the word that a group has: its outputs' and then its check's
abbrev pub places_of : CodePlan → ℕ → List ℕ
places_of P group = slice_index_or (members P) group []

-- pairs of places of a list, by the second and then by the first: (0,1), (0,2), (1,2), (0,3) ..
abbrev pub PairComesBefore : ℕ → ℕ → ℕ → ℕ → Type 0
PairComesBefore a b c d = (b < d) ⊎ ((b ≡ d) × (a < c))

-- the lines at the places a and b of a group, a before b, depend on a common node
pub record SharesAt (N : Circuit) (P : CodePlan) (group a b : ℕ) : Type 0 where
  pub ordered : a < b
  pub within : b < length (places_of P group)
  pub shares : SharesNode N P (slice_index (places_of P group) a) (slice_index (places_of P group) b)

-- q is the first node in text order that both nets depend on
pub record IsFirstCommon (N : Circuit) (first second q : ℕ) : Type 0 where
  pub of_first : Depends N q first
  pub of_second : Depends N q second
  pub earliest : (r : ℕ) → r < q → Depends N r first → Depends N r second → ⊥

-- the lines at two places of the word, and the first node that both depend on, by the net that it drives
pub record IsFirstNodeOf (N : Circuit) (P : CodePlan) (place other first second shared : ℕ) : Type 0 where
  pub first_line : first ≡ slice_index (monitored N P) place
  pub second_line : second ≡ slice_index (monitored N P) other
  pub driver : ℕ
  pub drives : shared ≡ node_net N driver
  pub common : IsFirstCommon N first second driver

-- two lines of a group share a node, the first such pair of the group; the node is the first that they share
pub record IsFirstSharedIn (N : Circuit) (P : CodePlan) (group first second shared : ℕ) : Type 0 where
  pub a : ℕ
  pub b : ℕ
  pub pair : SharesAt N P group a b
  pub first_pair : (c d : ℕ) → PairComesBefore c d a b → SharesAt N P group c d → ⊥
  pub nets : IsFirstNodeOf N P (slice_index (places_of P group) a) (slice_index (places_of P group) b) first second shared

-- the same of the first group of which two lines share a node
pub record IsFirstShared (N : Circuit) (P : CodePlan) (group first second shared : ℕ) : Type 0 where
  pub here : IsFirstSharedIn N P group first second shared
  pub first_group : (other c d : ℕ) → other < group → SharesAt N P other c d → ⊥

-- the net is the first rail, rail 1 before rail 2, that no node outside the function drives
abbrev pub IsFirstInnerRail : Circuit → CodePlan → ℕ → Type 0
IsFirstInnerRail N P net =
    ((net ≡ P.rail1) × (IsDrivenOutside N P P.rail1 → ⊥))
    ⊎ (IsDrivenOutside N P P.rail1 × (net ≡ P.rail2) × (IsDrivenOutside N P P.rail2 → ⊥))

-- the net of a node and a pin of it, the first that breaks the rule
abbrev pub IsFirstPinOf : Circuit → (ℕ → ℕ → Type 0) → ℕ → ℕ → Type 0
IsFirstPinOf N Breaks net pin = (q : ℕ) × (net ≡ node_net N q) × IsFirstPin Breaks q pin

-- what a reason says
abbrev pub Fails : Circuit → CodePlan → StructureReason → Type 0
Fails N P (Rails net) = IsFirstInnerRail N P net.number
Fails N P (Reads at pin) = RailsOutside N P × IsFirstPinOf N (ReadsForeign N P) at.number pin
Fails N P (Sign at pin) = RailsOutside N P × ReadsOnlyWord N P × IsUnorderedCode P.code × IsFirstPinOf N (HasWrongSign N P) at.number pin
Fails N P Latched = RailsOutside N P × ReadsOnlyWord N P × (P.code ≡ Parity) × (0 < length N.latches)
Fails N P (Shares group first second at) =
    RailsOutside N P × ReadsOnlyWord N P × (P.code ≡ Parity) × (length N.latches ≡ 0) × IsFirstShared N P group first.number second.number at.number

-- what an audit of the structure answers: nothing where all conditions hold, else the first that doesn't
abbrev pub IsStructureAnswer : Circuit → CodePlan → Option StructureReason → Type 0
IsStructureAnswer N P None = RailsOutside N P × ReadsOnlyWord N P × SuitsCode P.code N P
IsStructureAnswer N P (Some reason) = Fails N P reason
