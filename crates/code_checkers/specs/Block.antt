-- The stated checker in a netlist: each rail realises its gate, by nodes outside the function.
use Rattle.std.specs.Prelude.{◌≡◌, ℕ, ◌<◌, List, [], ◌∷◌, length, slice_index}
use Rattle.tsc_cover.specs.Cover.{CoverTable}
use Rattle.tsc_cover.specs.Gates.{buf_cover, not_cover, and_cover, or_cover, xor_cover}
use Rattle.fault_secure.specs.Circuit.{Circuit, node, node_net, gate}
use Rattle.fault_secure.specs.CodePlan.{CodePlan, monitored}
use Rattle.fault_secure.specs.Depends.{InFunction}
use Rattle.fault_secure.specs.Structure.{RailsOutside, ReadsOnlyWord, IsCodeDisjoint}
use Rattle.code_checkers.specs.Signal.{Signal}
use Rattle.code_checkers.specs.Signal.Signal.{Word, Buf, Not, And, Or, Xor}
use Rattle.code_checkers.specs.Checker.{rail1, rail2}

-- a node outside the function drives the net, and it is the gate with this cover over these nets
pub record IsGateNode (N : Circuit) (P : CodePlan) (net : ℕ) (cover : CoverTable) (reads : List ℕ) : Type 0 where
  pub driver : ℕ
  pub is_node : driver < length N.nodes
  pub outside : InFunction N P driver → ⊥
  pub drives : net ≡ node_net N driver
  pub is_gate : node N driver ≡ gate cover reads

-- the net realises the signal: the net at a place of the word, or the gate over nets that realise the operands
abbrev pub Realises : Circuit → CodePlan → Signal → ℕ → Type 0
Realises N P (Word place) net = (place < length (monitored N P)) × (net ≡ slice_index (monitored N P) place)
Realises N P (Buf a) net = (m : ℕ) × IsGateNode N P net buf_cover (m ∷ []) × Realises N P a m
Realises N P (Not a) net = (m : ℕ) × IsGateNode N P net not_cover (m ∷ []) × Realises N P a m
Realises N P (And a b) net = (m n : ℕ) × IsGateNode N P net and_cover (m ∷ (n ∷ [])) × Realises N P a m × Realises N P b n
Realises N P (Or a b) net = (m n : ℕ) × IsGateNode N P net or_cover (m ∷ (n ∷ [])) × Realises N P a m × Realises N P b n
Realises N P (Xor a b) net = (m n : ℕ) × IsGateNode N P net xor_cover (m ∷ (n ∷ [])) × Realises N P a m × Realises N P b n

-- each rail realises its gate of the stated checker
pub record RailsRealise (N : Circuit) (P : CodePlan) : Type 0 where
  pub first : Realises N P (rail1 P) P.rail1
  pub second : Realises N P (rail2 P) P.rail2

-- what a checker in a netlist gives: rails outside the function, a checker that reads only the word and is code-disjoint
pub record IsSoundChecker (N : Circuit) (P : CodePlan) : Type 0 where
  pub rails : RailsOutside N P
  pub reads : ReadsOnlyWord N P
  pub decides : IsCodeDisjoint N P
