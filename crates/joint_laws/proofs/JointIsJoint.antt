-- The joint circuit of members is a joint.
use Rattle.std.proofs.Common.{◌≡◌, ℕ, zero, suc, ◌+◌, ◌*◌, ◌<◌, ◌==◌, ◌&&◌, Bool, true, if◌then◌else◌, List, [], ◌∷◌, ◌++◌, map, length, drop, slice_index_or, All, Contains, refl, sym, ap, subst, ◌∙◌, inl, inr, arith}
use Rattle.std.specs.List.{list_any, list_all}
use Rattle.std.proofs.lemmas.Bool.{cases_Bool, cond-true, cond-false, eqb-true}
use Rattle.std.proofs.lemmas.List.Folds.{Any-from_list_any}
use Rattle.std.proofs.lemmas.List.{length-append}
use Rattle.std.proofs.lemmas.List.Elements.{All-nil, All-cons, All-head, All-tail, All-weaker, Contains-append_left, Contains-push}
use Rattle.tsc_bits.specs.Counting.{differ}
use Rattle.tsc_bits.proofs.Lists.{back}
use Rattle.fault_secure.specs.Circuit.{node_net, nets, bit}
use Rattle.fault_secure.specs.Stretch.{StretchSettles}
use Rattle.joint_laws.specs.Joint.{PartOf, JointOf, part, no_part, part_differs, joint_differs, own_outputs}
use Rattle.joint_laws.specs.JointCircuit.{MemberOf, TreeOf, latches_in, nodes_in, nodes_of, with_new, outputs_from, rails_of, joint_of}
use Rattle.joint_laws.specs.JointCircuitLaws.{pairs_differ, IsTree, AreMembers, JointCircuitIsJoint}
use Rattle.joint_laws.proofs.Standing.{length-latches_of, length-nodes_of, length-parts_from, IsPlaced, all_placed}

-- ---- outputs

keeps_one : (shown : List ℕ) (net x : ℕ) → Contains shown x → Contains (if list_any (λ other. net == other) shown then shown else shown ++ net ∷ []) x
keeps_one shown net x h = elim (cases_Bool (list_any (λ other. net == other) shown)) [
  | inl has ↦ subst (λ zs. Contains zs x) (sym (cond-true _ shown (shown ++ net ∷ []) has)) h
  | inr hasnt ↦ subst (λ zs. Contains zs x) (sym (cond-false _ shown (shown ++ net ∷ []) hasnt)) (Contains-append_left shown (net ∷ []) x h)
]

keeps_new : (shown more : List ℕ) (x : ℕ) → Contains shown x → Contains (with_new shown more) x
keeps_new shown [] x h = h
keeps_new shown (net ∷ more) x h = keeps_new (if list_any (λ other. net == other) shown then shown else shown ++ net ∷ []) more x (keeps_one shown net x h)

has_net : (net : ℕ) (shown : List ℕ) → list_any (λ other. net == other) shown ≡ true → Contains shown net
has_net net shown has =
    let found = Any-from_list_any (λ other. net == other) shown has in
    subst (Contains shown) (sym (eqb-true net found.1 found.4)) (found.0, found.2, found.3)

has_one : (shown : List ℕ) (net : ℕ) → Contains (if list_any (λ other. net == other) shown then shown else shown ++ net ∷ []) net
has_one shown net = elim (cases_Bool (list_any (λ other. net == other) shown)) [
  | inl has ↦ subst (λ zs. Contains zs net) (sym (cond-true _ shown (shown ++ net ∷ []) has)) (has_net net shown has)
  | inr hasnt ↦ subst (λ zs. Contains zs net) (sym (cond-false _ shown (shown ++ net ∷ []) hasnt)) (Contains-push shown net)
]

has_new : (shown more : List ℕ) → All (Contains (with_new shown more)) more
has_new shown [] = All-nil (Contains (with_new shown []))
has_new shown (net ∷ more) =
    let next = if list_any (λ other. net == other) shown then shown else shown ++ net ∷ [] in
    All-cons (Contains (with_new next more)) net more (keeps_new next more net (has_one shown net)) (has_new next more)

keeps_outputs : (shown : List ℕ) (ps : List PartOf) (x : ℕ) → Contains shown x → Contains (outputs_from shown ps) x
keeps_outputs shown [] x h = h
keeps_outputs shown (p ∷ ps) x h = keeps_outputs (with_new shown (map p.at (own_outputs p))) ps x (keeps_new shown (map p.at (own_outputs p)) x h)

all_unmapped : (P : ℕ → Type 0) (f : ℕ → ℕ) (ns : List ℕ) → All P (map f ns) → All (λ n. P (f n)) ns
all_unmapped P f [] h = All-nil (λ n. P (f n))
all_unmapped P f (n ∷ ns) h =
    All-cons (λ n. P (f n)) n ns (All-head P (f n) (map f ns) h) (all_unmapped P f ns (All-tail P (f n) (map f ns) h))

all_shown : (shown : List ℕ) (ps : List PartOf) (i : ℕ) → i < length ps
    → All (λ net. Contains (outputs_from shown ps) ((slice_index_or ps i no_part).at net)) (own_outputs (slice_index_or ps i no_part))
all_shown shown [] i h = absurd (omega arith)
all_shown shown (p ∷ ps) zero h =
    let now = with_new shown (map p.at (own_outputs p)) in
    all_unmapped (Contains (outputs_from now ps)) p.at (own_outputs p)
    (All-weaker (Contains now) (Contains (outputs_from now ps)) (λ x c. keeps_outputs now ps x c) (map p.at (own_outputs p)) (has_new shown (map p.at (own_outputs p))))
all_shown shown (p ∷ ps) (suc i) h = all_shown (with_new shown (map p.at (own_outputs p))) ps i (omega arith)

-- ---- the tree

-- there are two rails per part
pub length-rails_of : (ps : List PartOf) → length (rails_of ps) ≡ 2 * length ps
length-rails_of [] = refl
length-rails_of (p ∷ ps) = omega (arith, length-rails_of ps)

rails_differ : (v : List Bool) (ps : List PartOf) → pairs_differ (map (bit v) (rails_of ps)) ≡ list_all (part_differs v) ps
rails_differ v [] = refl
rails_differ v (p ∷ ps) = ap (λ b. part_differs v p && b) (rails_differ v ps)

module _ (inputs : ℕ) (ms : List MemberOf) (count : ℕ) (tree : List ℕ → ℕ → TreeOf) (is : IsTree (length ms) count tree) where
  abbrev pub the_joint : JointOf
  the_joint = joint_of inputs ms count tree

  -- the joint has as many latches as its members together
  pub many_latches : length the_joint.circuit.latches ≡ latches_in ms
  many_latches = length-latches_of inputs (latches_in ms) (inputs + latches_in ms + (nodes_in ms + count)) 0 0 ms

  pub many_own : length (nodes_of the_joint.parts) ≡ nodes_in ms
  many_own = length-nodes_of inputs (latches_in ms) (inputs + latches_in ms + (nodes_in ms + count)) 0 0 ms

  pub many_parts : length the_joint.parts ≡ length ms
  many_parts = length-parts_from inputs (latches_in ms) (inputs + latches_in ms + (nodes_in ms + count)) 0 0 ms

  -- the joint has as many nodes as its members and the tree together
  pub many_nodes : length the_joint.circuit.nodes ≡ nodes_in ms + count
  many_nodes =
      length-append (nodes_of the_joint.parts) (tree (rails_of the_joint.parts) (inputs + latches_in ms + nodes_in ms)).nodes
      ∙ omega (arith, many_own, is.counted (rails_of the_joint.parts) (inputs + latches_in ms + nodes_in ms))

  pub first_net : node_net the_joint.circuit (nodes_in ms) ≡ inputs + latches_in ms + nodes_in ms
  first_net = ap (λ k. inputs + k + nodes_in ms) many_latches

  pub tree_nodes : drop (nodes_in ms) the_joint.circuit.nodes ≡ (tree (rails_of the_joint.parts) (inputs + latches_in ms + nodes_in ms)).nodes
  tree_nodes = back (nodes_in ms) (nodes_of the_joint.parts) (tree (rails_of the_joint.parts) (inputs + latches_in ms + nodes_in ms)).nodes many_own

  pub placed : AreMembers inputs ms → (i : ℕ) → i < length the_joint.parts
      → IsPlaced the_joint.circuit (latches_in ms) (inputs + latches_in ms + (nodes_in ms + count)) many_latches (omega (arith, many_latches, many_nodes)) (nodes_in ms) (part the_joint i)
  placed are i h =
      all_placed the_joint.circuit (latches_in ms) (inputs + latches_in ms + (nodes_in ms + count)) many_latches (omega (arith, many_latches, many_nodes))
      0 0 (nodes_in ms) ms [] [] (tree (rails_of the_joint.parts) (inputs + latches_in ms + nodes_in ms)).nodes refl refl (omega arith) are refl refl i (omega (arith, many_parts))

  decides : (v : List Bool) → length v ≡ nets the_joint.circuit → StretchSettles the_joint.circuit v (nodes_in ms) (length the_joint.circuit.nodes)
      → joint_differs the_joint v ≡ list_all (part_differs v) the_joint.parts
  decides v sized settles =
      let word = rails_of the_joint.parts in
      subst (λ next. differ (bit v (tree word next).rail1) (bit v (tree word next).rail2) ≡ pairs_differ (map (bit v) word)) first_net
      (is.decides the_joint.circuit (nodes_in ms) word v (length-rails_of the_joint.parts ∙ ap (λ k. 2 * k) many_parts) (omega (arith, many_nodes))
      (tree_nodes ∙ ap (λ next. (tree word next).nodes) (sym first_net)) sized settles)
      ∙ rails_differ v the_joint.parts

-- members and a tree over their rails are a joint
pub joint_circuit_is_joint : JointCircuitIsJoint
joint_circuit_is_joint inputs ms count tree are is = record {
  stand = λ i h. (placed inputs ms count tree is are i h).stands;
  before = λ i h. (placed inputs ms count tree is are i h).before;
  shown = λ i h. All-weaker (λ net. Contains shown ((part J i).at net)) (λ net. Contains J.circuit.outputs ((part J i).at net))
      (λ net c. Contains-append_left shown _ ((part J i).at net) c) (own_outputs (part J i)) (all_shown [] J.parts i h);
  decides = decides inputs ms count tree is;
}
  where
    J : JointOf
    J = joint_of inputs ms count tree

    shown : List ℕ
    shown = outputs_from [] J.parts
