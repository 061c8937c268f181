-- The small joint of both kinds is secure.
use Rattle.std.proofs.Common.{◌≡◌, ℕ, zero, suc, ◌+◌, ◌<◌, ◌≤◌, Bool, true, false, ◌&&◌, List, [], ◌∷◌, map, drop, length, slice_index, slice_index_or, refl, sym, ap, ap₂, subst, ◌∙◌, arith}
use Rattle.std.proofs.lemmas.List.{get_or-drop, length-drop}
use Rattle.std.proofs.lemmas.List.Elements.{All-nil, All-cons}
use Rattle.tsc_cover.specs.Cover.{truth}
use Rattle.tsc_bits.specs.Counting.{odd, differ}
use Rattle.fault_secure.specs.Circuit.{Circuit, NodeOf, no_node, gate, node, node_net, pin_net, bit}
use Rattle.fault_secure.specs.StuckAt.{NoFault}
use Rattle.fault_secure.specs.Settle.{Acyclic, read_values}
use Rattle.fault_secure.specs.Stretch.{StretchSettles}
use Rattle.fault_secure.specs.Logic.{Network}
use Rattle.fault_secure.specs.FaultSecure.{at_step}
use Rattle.structure_laws.specs.Toggle.{straight, crossed}
use Rattle.structure_laws.specs.SmallNetlist.{small_netlist, small_plan, small_source as small_network}
use Rattle.structure_laws.proofs.Each.{each, each_pin}
use Rattle.structure_laws.proofs.SmallParity.{small_is_cell_secure}
use Rattle.joint_laws.specs.Joint.{part}
use Rattle.joint_laws.specs.JointCircuitLaws.{pairs_differ, IsTree, IsMember}
use Rattle.joint_laws.proofs.JointIsJoint.{joint_circuit_is_joint}
use Rattle.register_laws.specs.SmallTwin.{small_source as small_registers, small_twin, small_register_plan, small_own, small_copy}
use Rattle.register_laws.proofs.SmallTwinCopies.{small_is_twin, small_is_watched, small_twin_is_secure}
use Rattle.register_joints.specs.PartSource.{IsPartSecure}
use Rattle.register_joints.specs.SmallJoint.{twin_member, network_member, two_pairs, pair_tree, small_joint, small_sources, small_circuit, SmallIsJoined, SmallIsJoint, SmallJointIsSecure, SmallJointIsFaultSecure, SmallWatchIsHeard}
use Rattle.register_joints.proofs.HeardAlarms.{watches_hear_latches}
use Rattle.register_joints.proofs.JoinedParts.{secure_parts_join, source_cells_cover_faults, cell_secure_is_part, register_secure_is_part}

-- ---- the tree

-- the two rails of one cell of a checker differ exactly where both pairs do
cell_decides : (a b c d : Bool) → differ (truth straight (a ∷ b ∷ c ∷ d ∷ [])) (truth crossed (a ∷ b ∷ c ∷ d ∷ [])) ≡ differ a b && (differ c d && true)
cell_decides true true true true = refl
cell_decides true true true false = refl
cell_decides true true false true = refl
cell_decides true true false false = refl
cell_decides true false true true = refl
cell_decides true false true false = refl
cell_decides true false false true = refl
cell_decides true false false false = refl
cell_decides false true true true = refl
cell_decides false true true false = refl
cell_decides false true false true = refl
cell_decides false true false false = refl
cell_decides false false true true = refl
cell_decides false false true false = refl
cell_decides false false false true = refl
cell_decides false false false false = refl

pairs_low : (word : List ℕ) (next : ℕ) → ((place : ℕ) → place < length word → slice_index word place < next) → length word ≡ 4
    → (pin : ℕ) → pin < 4 → slice_index (two_pairs word) pin < next
pairs_low word next low long = each 4 (λ pin. slice_index (two_pairs word) pin < next)
    (low 0 (omega (arith, long)), (low 1 (omega (arith, long)), (low 2 (omega (arith, long)), (low 3 (omega (arith, long)), tt))))

tree_reads : (word : List ℕ) (next k pin : ℕ) → ((place : ℕ) → place < length word → slice_index word place < next) → length word ≡ 4 → k < 2
    → pin < length (slice_index_or (pair_tree word next).nodes k no_node).reads → slice_index (slice_index_or (pair_tree word next).nodes k no_node).reads pin < next + k
tree_reads word next zero pin low long h l = let k = pairs_low word next low long pin l in omega arith
tree_reads word next (suc zero) pin low long h l = let k = pairs_low word next low long pin l in omega arith
tree_reads word next (suc (suc k)) pin low long h l = absurd (omega arith)

-- the nodes of a circuit that ends in the tree
module _ (N : Circuit) (lo : ℕ) (word : List ℕ) (ends : drop lo N.nodes ≡ (pair_tree word (node_net N lo)).nodes) where
  count : lo ≤ length N.nodes → length N.nodes ≡ lo + 2
  count below = omega (arith, length-drop lo N.nodes, ap length ends)

  end_node : (k : ℕ) → node N (lo + k) ≡ slice_index_or (pair_tree word (node_net N lo)).nodes k no_node
  end_node k = sym (get_or-drop lo N.nodes k no_node) ∙ ap (λ ns. slice_index_or ns k no_node) ends

  module _ (v : List Bool) (settles : StretchSettles N v lo (length N.nodes)) (below : lo ≤ length N.nodes) where
    rail : (k : ℕ) → k < 2 → (n : NodeOf) → slice_index_or (pair_tree word (node_net N lo)).nodes k no_node ≡ n
        → bit v (node_net N lo + k) ≡ truth n.cover (read_values NoFault v (node_net N (lo + k)) 0 n.reads)
    rail k h n is =
        ap (bit v) (omega arith)
        ∙ settles.nodes (lo + k) (omega arith) (omega (arith, count below))
        ∙ ap (λ (n : NodeOf). truth n.cover (read_values NoFault v (node_net N (lo + k)) 0 n.reads)) (end_node k ∙ is)

    tree_decides : length word ≡ 4 → differ (bit v (node_net N lo)) (bit v (node_net N lo + 1)) ≡ pairs_differ (map (bit v) (two_pairs word))
    tree_decides long =
        ap₂ differ (ap (bit v) (omega arith) ∙ rail 0 (omega arith) (gate straight (two_pairs word)) refl) (rail 1 (omega arith) (gate crossed (two_pairs word)) refl)
        ∙ cell_decides (bit v (slice_index word 0)) (bit v (slice_index word 1)) (bit v (slice_index word 2)) (bit v (slice_index word 3))

-- a word of two pairs has these nets
pairs_of : (word : List ℕ) → length word ≡ 4 → two_pairs word ≡ word
pairs_of [] long = absurd (omega arith)
pairs_of (a ∷ []) long = absurd (omega arith)
pairs_of (a ∷ b ∷ []) long = absurd (omega arith)
pairs_of (a ∷ b ∷ c ∷ []) long = absurd (omega arith)
pairs_of (a ∷ b ∷ c ∷ d ∷ []) long = refl
pairs_of (a ∷ b ∷ c ∷ d ∷ e ∷ word) long = absurd (omega arith)

is_tree : IsTree 2 2 pair_tree
is_tree = record {
  counted = λ word next. refl;
  reads = λ word next k pin low long h l. tree_reads word next k pin low long h l;
  rails = λ word next low long. (omega arith, omega arith);
  widths = λ word next.
      All-cons (λ (n : NodeOf). n.cover.width ≡ length n.reads) (gate straight (two_pairs word)) (gate crossed (two_pairs word) ∷ []) refl
      (All-cons (λ (n : NodeOf). n.cover.width ≡ length n.reads) (gate crossed (two_pairs word)) [] refl (All-nil (λ (n : NodeOf). n.cover.width ≡ length n.reads)));
  decides = λ N lo word v long below ends sized settles.
      tree_decides N lo word ends v settles below long ∙ ap (λ ns. pairs_differ (map (bit v) ns)) (pairs_of word long);
}

-- ---- the joint

pub small_is_joined : SmallIsJoined
small_is_joined = refl

pub small_is_joint : SmallIsJoint
small_is_joint = joint_circuit_is_joint 2 (twin_member ∷ network_member ∷ []) 2 pair_tree (twin, (network, tt)) is_tree
  where
    twin : IsMember 2 twin_member
    twin = record { within = each 1 (λ i. slice_index twin_member.inputs i < 2) (omega arith) }

    network : IsMember 2 network_member
    network = record { within = each 2 (λ i. slice_index network_member.inputs i < 2) (omega arith) }

small_acyclic : Acyclic small_circuit
small_acyclic = record { rank = λ net. net; ranks = record { above = each_pin small_circuit (λ j pin. pin_net small_circuit j pin < node_net small_circuit j) (omega arith) } }

small_parts : (i : ℕ) → i < 2 → IsPartSecure (small_sources i) (part small_joint i).circuit (part small_joint i).plan
small_parts zero h = register_secure_is_part small_registers small_twin small_register_plan twin_member.plan (record { outputs = refl; rail1 = refl; rail2 = refl }) small_twin_is_secure
small_parts (suc zero) h = cell_secure_is_part (Network small_network) small_netlist small_plan small_is_cell_secure
small_parts (suc (suc i)) h = absurd (omega arith)

pub small_joint_is_secure : SmallJointIsSecure
small_joint_is_secure = secure_parts_join small_sources small_joint small_is_joint (subst Acyclic (sym small_is_joined) small_acyclic) small_parts

pub small_joint_is_fault_secure : SmallJointIsFaultSecure
small_joint_is_fault_secure = source_cells_cover_faults small_sources small_joint (subst Acyclic (sym small_is_joined) small_acyclic) small_joint_is_secure

-- ---- the watch

-- two bits that differ are an odd number of differences
odd_where : (a b : Bool) → (a ≡ b → ⊥) → odd (differ a b ∷ []) ≡ true
odd_where true true apart = absurd (apart refl)
odd_where true false apart = refl
odd_where false true apart = refl
odd_where false false apart = absurd (apart refl)

pub small_watch_is_heard : SmallWatchIsHeard
small_watch_is_heard latch xs us step low run within apart =
    watches_hear_latches small_registers small_joint 0 small_register_plan small_own small_copy (0 ∷ []) 6 latch xs us step small_is_joint (omega arith)
    (record { outputs = refl; rail1 = refl; rail2 = refl }) small_is_twin.checker small_is_watched low run within
    (odd_where (bit (at_step us step) 2) (bit (at_step us step) 3) apart)
