-- Plans: which nets are monitored, by which code, and which nets are the rails.
use Rattle.std.specs.Prelude.{◌≡◌, ℕ, suc, ◌+◌, ◌^◌, ◌<◌, ◌≤◌, ◌==◌, ◌⊎◌, Bool, List, [], ◌∷◌, ◌++◌, map, length, take, drop, count_by, slice_index, slice_index_or, IsTrue, All}
use Rattle.tsc_bits.specs.Bits.{binary}
use Rattle.tsc_bits.specs.Counting.{ones, zeros, odd}
use Rattle.fault_secure.specs.declared.code.Code.{Code}
use Rattle.fault_secure.specs.declared.code.Code.TheVariants.{Parity, Berger, MOutOfN}
use Rattle.fault_secure.specs.Circuit.{Circuit, nets, bit}

-- a plan: `outputs` is the number of the source's outputs, `groups` has the outputs' places of each parity group,
-- `latches` is the length of a state word, `weight` the number of ones that each has, `states` the words of the states
pub record CodePlan : Type 0 where
  pub version : ℕ
  pub code : Code
  pub outputs : ℕ
  pub checks : List ℕ
  pub groups : List (List ℕ)
  pub latches : ℕ
  pub weight : ℕ
  pub states : List (List Bool)
  pub rail1 : ℕ
  pub rail2 : ℕ

-- the nets at the inputs of the latches
abbrev pub next_nets : Circuit → List ℕ
next_nets N = map (λ l. l.reads) N.latches

-- the monitored nets: the outputs, the checks, the nets at the latch inputs
abbrev pub monitored : Circuit → CodePlan → List ℕ
monitored N P = (take P.outputs N.outputs ++ P.checks) ++ next_nets N

-- the monitored word of a valuation
abbrev pub word : Circuit → CodePlan → List Bool → List Bool
word N P v = map (bit v) (monitored N P)

-- the three parts of a word
abbrev pub outputs_of : CodePlan → List Bool → List Bool
outputs_of P w = take P.outputs w

-- the checks of a word: after its outputs, as many bits as the plan has checks
abbrev pub checks_of : CodePlan → List Bool → List Bool
checks_of P w = take (length P.checks) (drop P.outputs w)

-- the next state's bits of a word: those after its outputs and checks
abbrev pub next_of : CodePlan → List Bool → List Bool
next_of P w = drop (length P.checks) (drop P.outputs w)

-- the bits at these places
abbrev pub bits_at : List Bool → List ℕ → List Bool
bits_at w places = map (bit w) places

-- each group as places of the word: those of its outputs, and then that of its check
abbrev pub members_from : ℕ → List (List ℕ) → List (List ℕ)
members_from check [] = []
members_from check (group ∷ groups) = (group ++ check ∷ []) ∷ members_from (suc check) groups

-- the groups of a plan as places of its word, each with its check; the checks come after the outputs, in order
abbrev pub members : CodePlan → List (List ℕ)
members P = members_from P.outputs P.groups

-- the check of each code: odd groups; the number of zeros; as many ones as there are outputs
abbrev pub IsChecked : Code → CodePlan → List Bool → Type 0
IsChecked Parity P w = All (λ group. IsTrue (odd (bits_at w group))) (members P)
IsChecked Berger P w = binary (checks_of P w) ≡ zeros (outputs_of P w)
IsChecked MOutOfN P w = ones (outputs_of P w) + ones (checks_of P w) ≡ P.outputs

-- a codeword: the check holds, and the next state's bits have the weight of a state word (0 without latches)
pub record IsCodeword (P : CodePlan) (w : List Bool) : Type 0 where
  pub checked : IsChecked P.code P w
  pub weighed : ones (next_of P w) ≡ P.weight

-- the rails have the same bit, which is the alarm
abbrev pub RailsAgree : CodePlan → List Bool → Type 0
RailsAgree P v = bit v P.rail1 ≡ bit v P.rail2

-- the least w with 2 ^ w > k
abbrev pub IsBergerWidth : ℕ → ℕ → Type 0
IsBergerWidth k w = (k < 2 ^ w) × ((u : ℕ) → k < 2 ^ u → w ≤ u)

-- the places of all groups, one group after another
abbrev pub concat_places : List (List ℕ) → List ℕ
concat_places [] = []
concat_places (group ∷ groups) = group ++ concat_places groups

-- there is one check per group, no group is empty, and each output stands in the groups exactly once
pub record HasGroups (P : CodePlan) : Type 0 where
  pub paired : length P.checks ≡ length P.groups
  pub filled : All (λ group. 0 < length group) P.groups
  pub within : All (λ place. place < P.outputs) (concat_places P.groups)
  pub once : (place : ℕ) → place < P.outputs → count_by (λ other. place == other) (concat_places P.groups) ≡ 1

-- how many checks and which groups a code has
abbrev pub HasShape : Code → CodePlan → Type 0
HasShape Parity P = HasGroups P
HasShape Berger P = (P.groups ≡ []) × IsBergerWidth P.outputs (length P.checks)
HasShape MOutOfN P = (P.groups ≡ []) × (length P.checks ≡ P.outputs)

-- a code whose words are unordered, so that logic may be shared freely where negations stand only at inputs
abbrev pub IsUnorderedCode : Code → Type 0
IsUnorderedCode Parity = ⊥
IsUnorderedCode Berger = Unit {0}
IsUnorderedCode MOutOfN = Unit {0}

-- so many checks belong to so many outputs under an unordered code
abbrev pub HasWidth : Code → ℕ → ℕ → Type 0
HasWidth Parity outputs checks = ⊥
HasWidth Berger outputs checks = IsBergerWidth outputs checks
HasWidth MOutOfN outputs checks = checks ≡ outputs

-- the state words: without latches there are none, and the weight is 0; with n latches they are different words of n bits
-- with `weight` ones, from 1 to n - 1
pub record HasStates (P : CodePlan) : Type 0 where
  pub none : P.latches ≡ 0 → (P.states ≡ []) × (P.weight ≡ 0)
  pub some : 0 < P.latches → (0 < length P.states) × (0 < P.weight) × (P.weight < P.latches)
  pub sized : All (λ state. length state ≡ P.latches) P.states
  pub weighed : All (λ state. ones state ≡ P.weight) P.states
  pub distinct : (a b : ℕ) → a < b → b < length P.states → slice_index_or P.states a [] ≡ slice_index_or P.states b [] → ⊥

-- a well-made plan: the rules of a plan that need no netlist
pub record IsWellMade (P : CodePlan) : Type 0 where
  pub versioned : (P.version ≡ 1) ⊎ (P.version ≡ 2)
  pub some_output : 0 < P.outputs
  pub most_outputs : P.outputs ≤ 64
  pub shape : HasShape P.code P
  pub states : HasStates P

-- the plan is of the circuit: its nets are nets of the circuit, the circuit's outputs are the plan's and then the two rails,
-- and a state word has one bit per latch
pub record IsPlanOf (N : Circuit) (P : CodePlan) : Type 0 where
  pub outputs : length N.outputs ≡ P.outputs + 2
  pub rail1 : slice_index N.outputs P.outputs ≡ P.rail1
  pub rail2 : slice_index N.outputs (P.outputs + 1) ≡ P.rail2
  pub checks : All (λ net. net < nets N) P.checks
  pub rails : (P.rail1 < nets N) × (P.rail2 < nets N)
  pub latches : P.latches ≡ length N.latches
