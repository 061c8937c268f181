-- A joint of one part, without a tree.
use Rattle.std.proofs.Common.{◌≡◌, ℕ, zero, suc, ◌+◌, ◌<◌, ◌≤◌, Bool, true, false, ◌&&◌, List, [], ◌∷◌, map, length, Contains, All, refl, ap, ◌∙◌, arith}
use Rattle.std.proofs.lemmas.List.Elements.{All-take, All-contains_itself}
use Rattle.tsc_bits.specs.Counting.{differ}
use Rattle.fault_secure.specs.Circuit.{Circuit, latch, node, bit}
use Rattle.joint_laws.specs.Parts.{StandsIn}
use Rattle.joint_laws.specs.Joint.{part, own_outputs}
use Rattle.register_joints.specs.PartSource.{IsPartSecure}
use Rattle.register_joints.specs.SolePart.{sole, SoleIsJoint, SoleIsSecure}
use Rattle.register_joints.proofs.JoinedParts.{secure_parts_join}

unmoved : (ns : List ℕ) → ns ≡ map (λ net. net) ns
unmoved [] = refl
unmoved (n ∷ ns) = ap (λ rest. n ∷ rest) (unmoved ns)

stands : (N : Circuit) → StandsIn N N (λ net. net) 0 0
stands N = record {
  inputs = λ i h. h;
  latch_nets = λ l h. omega arith;
  node_nets = λ j h. omega arith;
  beyond = λ net h. h;
  latches_fit = omega arith;
  nodes_fit = omega arith;
  latches = λ l h. ap (latch N) (omega arith);
  nodes = λ j h. ap (node N) (omega arith) ∙ ap (λ ns. record { reads = ns; cover = (node N j).cover }) (unmoved (node N j).reads);
}

-- one part's rails differ where the rails of each of a list of one do
alone_differs : (b : Bool) → b ≡ b && true
alone_differs true = refl
alone_differs false = refl

pub sole_is_joint : SoleIsJoint
sole_is_joint N P = record {
  stand = stand;
  before = before;
  shown = shown;
  decides = λ v sized settles. alone_differs (differ (bit v P.rail1) (bit v P.rail2));
}
  where
    stand : (i : ℕ) → i < 1 → StandsIn N (part (sole N P) i).circuit (part (sole N P) i).at (part (sole N P) i).first_latch (part (sole N P) i).first_node
    stand zero h = stands N
    stand (suc i) h = absurd (omega arith)

    before : (i : ℕ) → i < 1 → (part (sole N P) i).first_node + length (part (sole N P) i).circuit.nodes ≤ length N.nodes
    before zero h = omega arith
    before (suc i) h = absurd (omega arith)

    shown : (i : ℕ) → i < 1 → All (λ net. Contains N.outputs ((part (sole N P) i).at net)) (own_outputs (part (sole N P) i))
    shown zero h = All-take (Contains N.outputs) P.outputs N.outputs (All-contains_itself N.outputs)
    shown (suc i) h = absurd (omega arith)

-- what is secure for a source is so as a joint of itself alone
pub sole_is_secure : SoleIsSecure
sole_is_secure source N P acyclic secure = secure_parts_join (λ i. source) (sole N P) (sole_is_joint N P) acyclic each
  where
    each : (i : ℕ) → i < 1 → IsPartSecure source (part (sole N P) i).circuit (part (sole N P) i).plan
    each zero h = secure
    each (suc i) h = absurd (omega arith)
