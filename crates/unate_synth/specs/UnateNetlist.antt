-- What a netlist with its plan is to a network, where gates that negate only inputs compute its outputs and its checks.
use Rattle.std.specs.Prelude.{◌≡◌, ◌⊎◌, ℕ, ◌+◌, ◌^◌, ◌<◌, ◌≤◌, Bool, true, List, [], ◌∷◌, ◌++◌, map, take, length, All, Contains}
use Rattle.std.specs.List.{range_with_len}
use Rattle.fault_secure.specs.Circuit.{Circuit, NodeOf, node, node_net, nets, bit}
use Rattle.fault_secure.specs.StuckAt.{NoFault}
use Rattle.fault_secure.specs.Settle.{Settles}
use Rattle.mofn_code.specs.CheckBits.{check_bits}
use Rattle.fault_secure.specs.CodePlan.{CodePlan, HasWidth, IsChecked, IsUnorderedCode, monitored, word, outputs_of, checks_of}
use Rattle.fault_secure.specs.Depends.{InFunction}
use Rattle.fault_secure.specs.Structure.{CheckerSettles}
use Rattle.tsc_net.specs.Names.{text_at}
use Rattle.tsc_net.specs.NetlistOf.{NetlistOf, names_of}
use Rattle.tsc_net.specs.Parts.{fresh_text, free_number}
use Rattle.gate_net.specs.Signal.{Signal, values}
use Rattle.gate_net.specs.Realised.{AllRealise, NegatesInputs}
use Rattle.code_checkers.specs.Signal.{value}
use Rattle.code_checkers.specs.Checker.{rail1, rail2}
use Rattle.code_checkers.specs.NodesOfGates.{EndsInChecker}

-- the signals have the values of the outputs of the network C
abbrev pub AnswerAs : Circuit → List Signal → Type 0
AnswerAs C signals = (x s t : ℕ → Bool) (v : List Bool) → Settles C NoFault x t v → values x s signals ≡ map (bit v) C.outputs

-- the outputs' signals and the checks' make up a checked word of the plan
abbrev pub AreCheckedSignals : CodePlan → List Signal → List Signal → Type 0
AreCheckedSignals P outputs checks = (x s : ℕ → Bool) → IsChecked P.code P (values x s outputs ++ values x s checks)

-- before place hi gates of N that negate only inputs compute the outputs of the network C, and checks that make the word a checked one
pub record IsUnateFunction (C N : Circuit) (P : CodePlan) (hi : ℕ) : Type 0 where
  pub code : IsUnorderedCode P.code
  pub latchless : length N.latches ≡ 0
  pub outputs : List Signal
  pub checks : List Signal
  pub outputs_stand : AllRealise N hi outputs (take P.outputs N.outputs)
  pub checks_stand : AllRealise N hi checks P.checks
  pub outputs_negate : All NegatesInputs outputs
  pub checks_negate : All NegatesInputs checks
  pub answers : AnswerAs C outputs
  pub checked : AreCheckedSignals P outputs checks

-- the model, the inputs and their names are the network's, and there is no latch
pub record HasSameInputs (S N : NetlistOf) : Type 0 where
  pub model : N.model ≡ S.model
  pub count : N.circuit.inputs ≡ S.circuit.inputs
  pub names : take N.circuit.inputs N.names ≡ take S.circuit.inputs S.names
  pub latchless : N.circuit.latches ≡ []

-- the plan has version 1, an unordered code, the network's number of outputs and as many checks as the code has for them,
-- and neither groups nor states
pub record IsUnatePlan (S : NetlistOf) (P : CodePlan) : Type 0 where
  pub version : P.version ≡ 1
  pub code : IsUnorderedCode P.code
  pub outputs : P.outputs ≡ length S.circuit.outputs
  pub width : HasWidth P.code P.outputs (length P.checks)
  pub groupless : P.groups ≡ []
  pub latchless : P.latches ≡ 0
  pub stateless : P.states ≡ []
  pub weightless : P.weight ≡ 0

-- the fresh name with this count: `t`, the least number such that no name of the network begins with both and `_`, that `_`
-- and the count
abbrev pub fresh_name : NetlistOf → ℕ → List ℕ
fresh_name S count = fresh_text (free_number S.names) count

-- the first fresh names, so many of them
abbrev pub first_fresh_names : NetlistOf → ℕ → List (List ℕ)
first_fresh_names S count = map (fresh_name S) (range_with_len 0 count)

-- the names of the rails: the two fresh names after those of so many checks
abbrev pub rail_names : NetlistOf → ℕ → List (List ℕ)
rail_names S checks = fresh_name S checks ∷ (fresh_name S (checks + 1) ∷ [])

-- the checks have the first fresh names and the rails the next two; the outputs have their names from the network, and after
-- them stand the rails
pub record HasUnateNames (S N : NetlistOf) (P : CodePlan) : Type 0 where
  pub checks : names_of N.names P.checks ≡ first_fresh_names S (length P.checks)
  pub rails : names_of N.names (P.rail1 ∷ (P.rail2 ∷ [])) ≡ rail_names S (length P.checks)
  pub outputs : names_of N.names N.circuit.outputs ≡ names_of S.names S.circuit.outputs ++ rail_names S (length P.checks)

-- the net is an output, or has a fresh name with this number, and a count of at most 64 bits
abbrev pub IsOutputOrFresh : NetlistOf → ℕ → ℕ → Type 0
IsOutputOrFresh N number net = Contains N.circuit.outputs net ⊎ ((count : ℕ) × (count < 2 ^ 64) × (text_at N.names net ≡ fresh_text number count))

-- what drives no output has a fresh name, so that no name of the source stands for another signal
abbrev pub HasFreshInnerNames : NetlistOf → NetlistOf → Type 0
HasFreshInnerNames S N = (net : ℕ) → N.circuit.inputs ≤ net → net < nets N.circuit → IsOutputOrFresh N (free_number S.names) net

-- an inner node: of the function, and it drives neither an output nor a check
pub record IsInner (N : Circuit) (P : CodePlan) (q : ℕ) : Type 0 where
  pub works : InFunction N P q
  pub hidden : Contains (monitored N P) (node_net N q) → ⊥

-- equal gates are one gate: no two inner nodes have the same cover over the same nets
abbrev pub SharesEqualGates : Circuit → CodePlan → Type 0
SharesEqualGates N P = (p q : ℕ) → p < q → q < length N.nodes → IsInner N P p → IsInner N P q → node N p ≡ node N q → ⊥

-- the rails have the values of the stated checker's rails over the word, wherever the checker's nodes settle without a fault
pub record HasStatedRails (N : Circuit) (P : CodePlan) : Type 0 where
  pub first : (v : List Bool) → CheckerSettles N P v → bit v P.rail1 ≡ value (word N P v) (rail1 P)
  pub second : (v : List Bool) → CheckerSettles N P v → bit v P.rail2 ≡ value (word N P v) (rail2 P)

-- in every valuation that settles without a fault, whatever the inputs and the state bits, the checks are the stated ones of the
-- outputs: how many of these are 0, in binary or as a thermometer
abbrev pub HasStatedChecks : Circuit → CodePlan → Type 0
HasStatedChecks N P = (x s : ℕ → Bool) (v : List Bool) → Settles N NoFault x s v
    → checks_of P (word N P v) ≡ check_bits P.code (length P.checks) (outputs_of P (word N P v))

-- nothing else stands in the netlist: the word depends on each node before the place `top`, and from there on stand the nodes of
-- the stated checker, in their order and no others
pub record HasNothingElse (N : Circuit) (P : CodePlan) : Type 0 where
  pub top : ℕ
  pub needed : (q : ℕ) → q < top → InFunction N P q
  pub checker : EndsInChecker N P top

-- a node that reads at most two nets, by a cover of at most two rows, each as long as the cover is wide, and of an on-set where
-- there is none
pub record IsNarrow (n : NodeOf) : Type 0 where
  pub pins : length n.reads ≤ 2
  pub rows : length n.cover.rows ≤ 2
  pub sized : All (λ row. length row ≡ n.cover.width) n.cover.rows
  pub set : n.cover.rows ≡ [] → n.cover.on ≡ true

-- the netlist with its plan is a unate netlist of the network
pub record IsUnateNetlist (S N : NetlistOf) (P : CodePlan) : Type 0 where
  pub inputs : HasSameInputs S N
  pub plan : IsUnatePlan S P
  pub names : HasUnateNames S N P
  pub inner : HasFreshInnerNames S N
  pub narrow : All IsNarrow N.circuit.nodes
  pub shared : SharesEqualGates N.circuit P
  pub checks : HasStatedChecks N.circuit P
  pub rails : HasStatedRails N.circuit P
  pub whole : HasNothingElse N.circuit P
