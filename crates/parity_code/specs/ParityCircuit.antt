-- The nodes of a parity netlist, as they are written: the source's own covers, and the predictor of each group. The nets are
-- numbered from the inputs on, and `base` is the place of the first node of a stretch.
use Rattle.std.specs.Prelude.{◌≡◌, ℕ, suc, ◌+◌, ◌-◌, ◌<◌, ◌≤◌, ◌==◌, nat_lt, if◌then◌else◌, List, [], ◌∷◌, ◌++◌, map, length, slice_index_or, All}
use Rattle.tsc_cover.specs.Gates.{not_cover, xor_cover}
use Rattle.fault_secure.specs.Circuit.{Circuit, NodeOf, node, gate, no_node}
use Rattle.net_cones.specs.Cones.{IsCone}
use Rattle.parity_code.specs.Copy.{renamed}
use Rattle.parity_code.specs.ParityFunction.{outputs_at}

-- where a place stands in a list
abbrev pub place_in : List ℕ → ℕ → ℕ
place_in [] place = 0
place_in (other ∷ places) place = if other == place then 0 else suc (place_in places place)

-- the net that stands for a net of C in the copy of the nodes at `places`; an input stands for itself
abbrev pub copy_net : Circuit → List ℕ → ℕ → ℕ → ℕ
copy_net C places base net = if nat_lt net C.inputs then net else C.inputs + (base + place_in places (net - C.inputs))

-- the copy of the nodes at `places`, from node place `base` on
abbrev pub copied_nodes : Circuit → List ℕ → ℕ → List NodeOf
copied_nodes C places base = map (λ place. renamed (copy_net C places base) (node C place)) places

-- the chain of exclusive ors over nets, from node place `from` on, and the net at its end
abbrev pub chain_nodes : ℕ → ℕ → ℕ → List ℕ → List NodeOf
chain_nodes inputs from made [] = []
chain_nodes inputs from made (net ∷ nets) = gate xor_cover (made ∷ (net ∷ [])) ∷ chain_nodes inputs (suc from) (inputs + from) nets

-- the net at the end of a chain of exclusive ors over nets, from node place `from` on
abbrev pub chain_end : ℕ → ℕ → ℕ → List ℕ → ℕ
chain_end inputs from made [] = made
chain_end inputs from made (net ∷ nets) = chain_end inputs (suc from) (inputs + from) nets

-- the exclusive or of the outputs' copies, and its negation
abbrev pub parity_nodes : ℕ → ℕ → List ℕ → List NodeOf
parity_nodes inputs from [] = []
parity_nodes inputs from (first ∷ rest) =
    chain_nodes inputs from first rest ++ gate not_cover (chain_end inputs from first rest ∷ []) ∷ []

-- the predictor of the outputs at the places of a group
abbrev pub predictor_nodes : Circuit → List ℕ → List ℕ → ℕ → List NodeOf
predictor_nodes C cone group base =
    copied_nodes C cone base ++ parity_nodes C.inputs (base + length cone) (map (copy_net C cone base) (outputs_at C group))

-- a group of outputs, and the cone of them
pub record GroupCone : Type 0 where
  pub group : List ℕ
  pub cone : List ℕ

-- how many nodes the predictor of a group has
abbrev pub size_of : GroupCone → ℕ
size_of g = length g.cone + length g.group

-- the predictors of the groups, one after another
abbrev pub all_predictors : Circuit → List GroupCone → ℕ → List NodeOf
all_predictors C [] base = []
all_predictors C (g ∷ groups) base = predictor_nodes C g.cone g.group base ++ all_predictors C groups (base + size_of g)

-- the nets of the checks: the last of each predictor
abbrev pub check_nets : ℕ → List GroupCone → ℕ → List ℕ
check_nets inputs [] base = []
check_nets inputs (g ∷ groups) base = (inputs + (base + size_of g - 1)) ∷ check_nets inputs groups (base + size_of g)

-- where the predictors end
abbrev pub predictors_end : List GroupCone → ℕ → ℕ
predictors_end [] base = base
predictors_end (g ∷ groups) base = predictors_end groups (base + size_of g)

-- these nodes stand in N from place `base` on
pub record StandAt (N : Circuit) (base : ℕ) (nodes : List NodeOf) : Type 0 where
  pub fits : base + length nodes ≤ length N.nodes
  pub each : (k : ℕ) → k < length nodes → node N (base + k) ≡ slice_index_or nodes k no_node

-- a group of outputs with their cone: some outputs of C, and all that they depend on
pub record IsGroupCone (C : Circuit) (g : GroupCone) : Type 0 where
  pub filled : 0 < length g.group
  pub within : All (λ place. place < length C.outputs) g.group
  pub cone : IsCone C (outputs_at C g.group) g.cone
