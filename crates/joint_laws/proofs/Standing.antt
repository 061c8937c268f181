-- The members of a joint circuit stand in it, one behind the other.
use Rattle.std.proofs.Common.{◌≡◌, ℕ, zero, suc, ◌+◌, ◌<◌, ◌≤◌, nat_lt, List, [], ◌∷◌, ◌++◌, map, length, slice_index, slice_index_or, refl, sym, ap, subst, ◌∙◌, arith}
use Rattle.std.proofs.lemmas.Bool.{cond-true, cond-false, lt-ltb, le-ltb}
use Rattle.std.proofs.lemmas.List.{append_assoc, length-append, length-map, get_or-append-add, get_or-map}
use Rattle.std.proofs.Math.ListN.{get_or-append}
use Rattle.fault_secure.specs.Circuit.{Circuit, LatchOf, NodeOf, no_latch, no_node, latch_net, node_net, nets}
use Rattle.joint_laws.specs.Parts.{StandsIn, moved_latch, moved_node}
use Rattle.joint_laws.specs.Joint.{PartOf, no_part}
use Rattle.joint_laws.specs.JointCircuit.{MemberOf, latches_in, nodes_in, net_at, parts_from, latches_of, nodes_of}
use Rattle.joint_laws.specs.JointCircuitLaws.{IsMember, AreMembers}

pub length-latches_of : (inputs latches past fl fn : ℕ) (ms : List MemberOf) → length (latches_of (parts_from inputs latches past fl fn ms)) ≡ latches_in ms
length-latches_of inputs latches past fl fn [] = refl
length-latches_of inputs latches past fl fn (m ∷ ms) =
    let at = net_at inputs latches past fl fn m in
    let rest = latches_of (parts_from inputs latches past (fl + length m.circuit.latches) (fn + length m.circuit.nodes) ms) in
    length-append (map (moved_latch (net_at inputs latches past fl fn m)) m.circuit.latches) (latches_of (parts_from inputs latches past (fl + length m.circuit.latches) (fn + length m.circuit.nodes) ms))
    ∙ omega (
      arith,
      length-map m.circuit.latches (moved_latch (net_at inputs latches past fl fn m)),
      length-latches_of inputs latches past (fl + length m.circuit.latches) (fn + length m.circuit.nodes) ms,
    )

-- the parts have as many nodes as their members
pub length-nodes_of : (inputs latches past fl fn : ℕ) (ms : List MemberOf) → length (nodes_of (parts_from inputs latches past fl fn ms)) ≡ nodes_in ms
length-nodes_of inputs latches past fl fn [] = refl
length-nodes_of inputs latches past fl fn (m ∷ ms) =
    length-append (map (moved_node (net_at inputs latches past fl fn m)) m.circuit.nodes) (nodes_of (parts_from inputs latches past (fl + length m.circuit.latches) (fn + length m.circuit.nodes) ms))
    ∙ omega (
      arith,
      length-map m.circuit.nodes (moved_node (net_at inputs latches past fl fn m)),
      length-nodes_of inputs latches past (fl + length m.circuit.latches) (fn + length m.circuit.nodes) ms,
    )

-- there is one part per member
pub length-parts_from : (inputs latches past fl fn : ℕ) (ms : List MemberOf) → length (parts_from inputs latches past fl fn ms) ≡ length ms
length-parts_from inputs latches past fl fn [] = refl
length-parts_from inputs latches past fl fn (m ∷ ms) = ap suc (length-parts_from inputs latches past (fl + length m.circuit.latches) (fn + length m.circuit.nodes) ms)

-- ---- where the nets of a member are

module _ (inputs latches past fl fn : ℕ) (m : MemberOf) where
  -- an input of the member is, in the joint, the net that the member names for it
  pub at_input : (i : ℕ) → i < m.circuit.inputs → net_at inputs latches past fl fn m i ≡ slice_index m.inputs i
  at_input i h = cond-true (nat_lt i m.circuit.inputs) _ _ (lt-ltb i m.circuit.inputs h)

  -- latch l of the member is latch fl + l of the joint
  pub at_latch : (l : ℕ) → l < length m.circuit.latches → net_at inputs latches past fl fn m (latch_net m.circuit l) ≡ inputs + (fl + l)
  at_latch l h =
      cond-false (nat_lt (latch_net m.circuit l) m.circuit.inputs) _ _ (le-ltb _ _ (omega arith))
      ∙ cond-true (nat_lt (latch_net m.circuit l) (m.circuit.inputs + length m.circuit.latches)) _ _ (lt-ltb _ _ (omega arith))
      ∙ omega arith

  -- node j of the member is node fn + j of the joint
  pub at_node : (j : ℕ) → j < length m.circuit.nodes → net_at inputs latches past fl fn m (node_net m.circuit j) ≡ inputs + latches + (fn + j)
  at_node j h =
      cond-false (nat_lt (node_net m.circuit j) m.circuit.inputs) _ _ (le-ltb _ _ (omega arith))
      ∙ cond-false (nat_lt (node_net m.circuit j) (m.circuit.inputs + length m.circuit.latches)) _ _ (le-ltb _ _ (omega arith))
      ∙ cond-true (nat_lt (node_net m.circuit j) (nets m.circuit)) _ _ (lt-ltb _ _ (omega arith))
      ∙ omega arith

  at_past : (net : ℕ) → nets m.circuit ≤ net → net_at inputs latches past fl fn m net ≡ past
  at_past net h =
      cond-false (nat_lt net m.circuit.inputs) _ _ (le-ltb _ _ (omega arith))
      ∙ cond-false (nat_lt net (m.circuit.inputs + length m.circuit.latches)) _ _ (le-ltb _ _ (omega arith))
      ∙ cond-false (nat_lt net (nets m.circuit)) _ _ (le-ltb _ _ (omega arith))

-- the item of a mapped stretch of a list
mid : {X : Type 0} (f : X → X) (before xs after all : List X) (n i : ℕ) (d e : X) → length before ≡ n → i < length xs → all ≡ before ++ (map f xs ++ after)
    → slice_index_or all (n + i) d ≡ f (slice_index_or xs i e)
mid f before xs after all n i d e long h is =
    ap (λ zs. slice_index_or zs (n + i) d) is
    ∙ ap (λ k. slice_index_or (before ++ (map f xs ++ after)) (k + i) d) (sym long)
    ∙ get_or-append-add before (map f xs ++ after) i d
    ∙ get_or-append (map f xs) after d i (omega (arith, length-map xs f))
    ∙ get_or-map f xs i e d h

room : {X : Type 0} (f : X → X) (before xs after all : List X) (n : ℕ) → length before ≡ n → all ≡ before ++ (map f xs ++ after) → n + length xs ≤ length all
room f before xs after all n long is =
    omega (arith, ap length is, length-append before (map f xs ++ after), length-append (map f xs) after, length-map xs f)

module _ (J : Circuit) (latches past : ℕ) (many : length J.latches ≡ latches) (end : nets J ≤ past) where
  pub member_stands : (fl fn : ℕ) (m : MemberOf) (bl al : List LatchOf) (bn an : List NodeOf) → length bl ≡ fl → length bn ≡ fn → IsMember J.inputs m
      → J.latches ≡ bl ++ (map (moved_latch (net_at J.inputs latches past fl fn m)) m.circuit.latches ++ al)
      → J.nodes ≡ bn ++ (map (moved_node (net_at J.inputs latches past fl fn m)) m.circuit.nodes ++ an)
      → StandsIn J m.circuit (net_at J.inputs latches past fl fn m) fl fn
  member_stands fl fn m bl al bn an long_l long_n is of_l of_n = record {
    inputs = λ i h. subst (λ k. k < J.inputs) (sym (at_input J.inputs latches past fl fn m i h)) (is.within i h);
    latch_nets = λ l h. at_latch J.inputs latches past fl fn m l h;
    node_nets = λ j h. at_node J.inputs latches past fl fn m j h ∙ ap (λ k. J.inputs + k + (fn + j)) (sym many);
    beyond = λ net h. subst (λ k. nets J ≤ k) (sym (at_past J.inputs latches past fl fn m net h)) end;
    latches_fit = room (moved_latch (net_at J.inputs latches past fl fn m)) bl m.circuit.latches al J.latches fl long_l of_l;
    nodes_fit = room (moved_node (net_at J.inputs latches past fl fn m)) bn m.circuit.nodes an J.nodes fn long_n of_n;
    latches = λ l h. mid (moved_latch (net_at J.inputs latches past fl fn m)) bl m.circuit.latches al J.latches fl l no_latch no_latch long_l h of_l;
    nodes = λ j h. mid (moved_node (net_at J.inputs latches past fl fn m)) bn m.circuit.nodes an J.nodes fn j no_node no_node long_n h of_n;
  }

  -- the part stands in the joint, before place `tree`
  pub record IsPlaced (tree : ℕ) (p : PartOf) : Type 0 where
    pub stands : StandsIn J p.circuit p.at p.first_latch p.first_node
    pub before : p.first_node + length p.circuit.nodes ≤ tree

  pub all_placed : (fl fn tree : ℕ) (ms : List MemberOf) (bl : List LatchOf) (bn an : List NodeOf) → length bl ≡ fl → length bn ≡ fn → fn + nodes_in ms ≤ tree
      → AreMembers J.inputs ms
      → J.latches ≡ bl ++ latches_of (parts_from J.inputs latches past fl fn ms)
      → J.nodes ≡ bn ++ (nodes_of (parts_from J.inputs latches past fl fn ms) ++ an)
      → (i : ℕ) → i < length ms → IsPlaced tree (slice_index_or (parts_from J.inputs latches past fl fn ms) i no_part)
  all_placed fl fn tree [] bl bn an long_l long_n ends are of_l of_n i h = absurd (omega arith)
  all_placed fl fn tree (m ∷ ms) bl bn an long_l long_n ends are of_l of_n zero h =
      let rest = parts_from J.inputs latches past (fl + length m.circuit.latches) (fn + length m.circuit.nodes) ms in
      record {
        stands = member_stands fl fn m bl (latches_of rest) bn (nodes_of rest ++ an) long_l long_n are.0 of_l
            (of_n ∙ ap (λ zs. bn ++ zs) (append_assoc (map (moved_node (net_at J.inputs latches past fl fn m)) m.circuit.nodes) (nodes_of rest) an));
        before = omega arith;
      }
  all_placed fl fn tree (m ∷ ms) bl bn an long_l long_n ends are of_l of_n (suc i) h =
      let rest = parts_from J.inputs latches past (fl + length m.circuit.latches) (fn + length m.circuit.nodes) ms in
      let own_l = map (moved_latch (net_at J.inputs latches past fl fn m)) m.circuit.latches in
      let own_n = map (moved_node (net_at J.inputs latches past fl fn m)) m.circuit.nodes in
      all_placed (fl + length m.circuit.latches) (fn + length m.circuit.nodes) tree ms (bl ++ own_l) (bn ++ own_n) an
      (length-append bl own_l ∙ omega (arith, length-map m.circuit.latches (moved_latch (net_at J.inputs latches past fl fn m))))
      (length-append bn own_n ∙ omega (arith, length-map m.circuit.nodes (moved_node (net_at J.inputs latches past fl fn m))))
      (omega arith) are.1
      (of_l ∙ sym (append_assoc bl own_l (latches_of rest)))
      (of_n ∙ ap (λ zs. bn ++ zs) (append_assoc own_n (nodes_of rest) an) ∙ sym (append_assoc bn own_n (nodes_of rest ++ an)))
      i (omega arith)
