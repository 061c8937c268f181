-- The predictors of groups by names, as they are added to parts: for each group the copy of the cones of its outputs, the
-- exclusive or of the copies, and its negation, the check. Each node has the next fresh name, the copies first.
use Rattle.std.specs.Prelude.{ℕ, zero, suc, ◌+◌, ◌-◌, nat_lt, if◌then◌else◌, List, [], ◌∷◌, ◌++◌, map, length}
use Rattle.tsc_cover.specs.Cover.{CoverTable}
use Rattle.tsc_cover.specs.Gates.{not_cover, xor_cover}
use Rattle.fault_secure.specs.Circuit.{Circuit, node, node_net}
use Rattle.tsc_net.specs.Named.{NamedNode}
use Rattle.tsc_net.specs.Names.{text_at}
use Rattle.tsc_net.specs.NetlistOf.{NetlistOf}
use Rattle.tsc_net.specs.Parts.{PartsOf, with_fresh, next_fresh, with_node}
use Rattle.net_cones.specs.ConeMarks.{cone_of}
use Rattle.parity_code.specs.ParityFunction.{outputs_at}
use Rattle.parity_code.specs.ParityCircuit.{place_in}

-- the parts with so many more fresh names, and the fresh name that comes after so many
abbrev pub with_fresh_names : ℕ → PartsOf → PartsOf
with_fresh_names zero p = p
with_fresh_names (suc count) p = with_fresh (with_fresh_names count p)

abbrev pub fresh_after : PartsOf → ℕ → List ℕ
fresh_after p count = next_fresh (with_fresh_names count p)

-- the parts with more nodes
abbrev pub with_nodes : PartsOf → List NamedNode → PartsOf
with_nodes p nodes = let N = p.named in record p { named = record N { nodes = N.nodes ++ nodes } }

-- the parts with a gate over some names, which has the next fresh name
abbrev pub with_gate : PartsOf → List (List ℕ) → CoverTable → PartsOf
with_gate p reads cover = with_node (with_fresh p) reads (next_fresh p) cover

-- the parts with the exclusive or of what was made so far and of some names, from the left, and its negation, the check
abbrev pub with_check : PartsOf → List ℕ → List (List ℕ) → PartsOf
with_check p made [] = with_gate p (made ∷ []) not_cover
with_check p made (name ∷ names) = with_check (with_gate p (made ∷ (name ∷ [])) xor_cover) (next_fresh p) names

abbrev pub with_parity : PartsOf → List (List ℕ) → PartsOf
with_parity p [] = p
with_parity p (first ∷ rest) = with_check p first rest

-- the name of a net of the source in the copy of the nodes at `cone`: an input's own, or the fresh name of its node
unfoldable pub copy_text : NetlistOf → List ℕ → PartsOf → ℕ → List ℕ
copy_text S cone p net =
    if nat_lt net S.circuit.inputs then text_at S.names net else fresh_after p (place_in cone (net - S.circuit.inputs))

-- a node of a circuit, with its nets by these names
abbrev pub node_by : Circuit → (ℕ → List ℕ) → ℕ → NamedNode
node_by C text place = record { reads = map text (node C place).reads; out = text (node_net C place); cover = (node C place).cover }

-- the parts with the copies of the nodes at `cone`
unfoldable pub with_copies : NetlistOf → List ℕ → PartsOf → PartsOf
with_copies S cone p = with_nodes (with_fresh_names (length cone) p) (map (node_by S.circuit (copy_text S cone p)) cone)

-- the parts with the predictor of a group of outputs
unfoldable pub with_predictor : NetlistOf → List ℕ → PartsOf → PartsOf
with_predictor S group p =
    let cone = cone_of S.circuit (outputs_at S.circuit group) in
    with_parity (with_copies S cone p) (map (copy_text S cone p) (outputs_at S.circuit group))

-- the parts with the predictors of the groups, one after another
abbrev pub with_predictors : NetlistOf → List (List ℕ) → PartsOf → PartsOf
with_predictors S [] p = p
with_predictors S (group ∷ groups) p = with_predictors S groups (with_predictor S group p)

-- the name that came last
abbrev pub last_name : PartsOf → List ℕ
last_name p = text_at p.names (length p.names - 1)

-- the names of the checks: the last of each predictor
abbrev pub check_texts : NetlistOf → List (List ℕ) → PartsOf → List (List ℕ)
check_texts S [] p = []
check_texts S (group ∷ groups) p = last_name (with_predictor S group p) ∷ check_texts S groups (with_predictor S group p)

-- how many nodes the predictors have
abbrev pub predictors_size : Circuit → List (List ℕ) → ℕ
predictors_size C [] = 0
predictors_size C (group ∷ groups) = length (cone_of C (outputs_at C group)) + length group + predictors_size C groups
