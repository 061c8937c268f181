-- The joint circuit of members without rings has none, and reads and shows only nets of its own.
use Rattle.std.proofs.Common.{◌≡◌, ℕ, zero, suc, ◌+◌, ◌-◌, ◌*◌, ◌<◌, ◌≤◌, ◌⊎◌, List, [], ◌∷◌, ◌++◌, map, take, length, slice_index, slice_index_or, if◌then◌else◌, ◌==◌, All, refl, sym, ap, subst, ◌∙◌, inl, inr, arith}
use Rattle.std.specs.List.{list_any}
use Rattle.std.proofs.lemmas.Bool.{cases_lt, cases_Bool, cond-true, cond-false}
use Rattle.std.proofs.lemmas.List.{append_assoc, length-append, length-map, get_or-map, get_or-append-add}
use Rattle.std.proofs.lemmas.List.Elements.{All-nil, All-cons, All-head, All-tail, All-append, All-push, All-map, All-weaker, All-take}
use Rattle.fault_secure.specs.Circuit.{Circuit, LatchOf, NodeOf, no_node, node, latch_net, node_net, pin_net, nets}
use Rattle.fault_secure.specs.Closed.{IsClosed}
use Rattle.fault_secure.specs.Segment.{SoundTo, Segment, IsNetBetween, IsAppended}
use Rattle.fault_secure.specs.Settle.{Acyclic}
use Rattle.fault_secure.proofs.Places.{Place, place_of}
use Rattle.fault_secure.proofs.Places.Place.{Input, Latch, Node, Beyond}
use Rattle.fault_secure.proofs.SegmentLemmas.{none_sound, appended_segment, joined_sound, sound_acyclic}
use Rattle.joint_laws.specs.Parts.{StandsIn, moved_latch, moved_node}
use Rattle.joint_laws.specs.Joint.{PartOf, JointOf, own_outputs}
use Rattle.joint_laws.specs.JointCircuit.{MemberOf, TreeOf, latches_in, nodes_in, net_at, parts_from, latches_of, nodes_of, with_new, outputs_from, rails_of}
use Rattle.joint_laws.specs.JointCircuitLaws.{IsTree, AreMembers, IsSoundMember, AreSoundMembers, JointCircuitIsAcyclic, JointCircuitIsClosed}
use Rattle.joint_laws.proofs.Standing.{member_stands}
use Rattle.joint_laws.proofs.JointIsJoint.{the_joint, many_latches, many_nodes, many_own, many_parts, first_net, length-rails_of}

-- a bound of the ranks of the nets below a number
bounded : (rank : ℕ → ℕ) (n : ℕ) → (bound : ℕ) × ((net : ℕ) → net < n → rank net < bound)
bounded rank zero = (0, λ net h. absurd (omega arith))
bounded rank (suc n) =
    let before = bounded rank n in (
      before.0 + suc (rank n),
      λ net h. elim (cases_lt net n) [
        | inl low ↦ (let b : rank net < before.0 = before.1 net low in omega arith)
        | inr high ↦ (let e : rank net ≡ rank n = ap rank (omega arith) in omega arith)
      ],
    )

module _ (J C : Circuit) (at : ℕ → ℕ) (fl fn : ℕ) (m : StandsIn J C at fl fn) where
  -- a net of the part is one of the joint
  inside_at : (net : ℕ) → net < nets C → Place C net → at net < nets J
  inside_at net h (Input k) = let i : at net < J.inputs = m.inputs net k in omega arith
  inside_at net h (Latch l k e) = let n : at net ≡ latch_net J (fl + l) = ap at e ∙ m.latch_nets l k in let fits = m.latches_fit in omega arith
  inside_at net h (Node j k e) = let n : at net ≡ node_net J (fn + j) = ap at e ∙ m.node_nets j k in let fits = m.nodes_fit in omega arith
  inside_at net h (Beyond k) = absurd (omega arith)

  pub inside : (net : ℕ) → net < nets C → at net < nets J
  inside net h = inside_at net h (place_of C net)

  -- and it stands before the nodes that come after the part's
  inside_before : (net : ℕ) → net < nets C → Place C net → at net < node_net J (fn + length C.nodes)
  inside_before net h (Input k) = let i : at net < J.inputs = m.inputs net k in omega arith
  inside_before net h (Latch l k e) = let n : at net ≡ latch_net J (fl + l) = ap at e ∙ m.latch_nets l k in let fits = m.latches_fit in omega arith
  inside_before net h (Node j k e) = let n : at net ≡ node_net J (fn + j) = ap at e ∙ m.node_nets j k in omega arith
  inside_before net h (Beyond k) = absurd (omega arith)

  pub before_next : (net : ℕ) → net < nets C → at net < node_net J (fn + length C.nodes)
  before_next net h = inside_before net h (place_of C net)

  module _ (closed : IsClosed C) (acyclic : Acyclic C) where
    rank_of : ℕ → ℕ
    rank_of net = acyclic.rank (C.inputs + length C.latches + (net - node_net J fn))

    rank_node : (j net : ℕ) → net ≡ node_net J (fn + j) → rank_of net ≡ acyclic.rank (node_net C j)
    unfolding rank_of
    rank_node j net e = ap acyclic.rank (omega arith)

    reads_at : (j pin : ℕ) → j < length C.nodes → pin < length (node C j).reads → Place C (pin_net C j pin)
        → (at (pin_net C j pin) < node_net J fn) ⊎ (IsNetBetween J fn (fn + length C.nodes) (at (pin_net C j pin)) × (rank_of (at (pin_net C j pin)) < rank_of (node_net J (fn + j))))
    reads_at j pin h has (Input k) = inl (let i : at (pin_net C j pin) < J.inputs = m.inputs (pin_net C j pin) k in omega arith)
    reads_at j pin h has (Latch l k e) =
        inl (let n : at (pin_net C j pin) ≡ latch_net J (fl + l) = ap at e ∙ m.latch_nets l k in let fits = m.latches_fit in omega arith)
    reads_at j pin h has (Node i k e) =
        let n : at (pin_net C j pin) ≡ node_net J (fn + i) = ap at e ∙ m.node_nets i k in
        let here : rank_of (at (pin_net C j pin)) ≡ acyclic.rank (node_net C i) = rank_node i (at (pin_net C j pin)) n in
        let there : rank_of (node_net J (fn + j)) ≡ acyclic.rank (node_net C j) = rank_node j (node_net J (fn + j)) refl in
        let same : acyclic.rank (pin_net C j pin) ≡ acyclic.rank (node_net C i) = ap acyclic.rank e in
        let above : acyclic.rank (pin_net C j pin) < acyclic.rank (node_net C j) = acyclic.ranks.above j pin h has in
        inr ((omega arith, omega arith), omega arith)
    reads_at j pin h has (Beyond k) = absurd (let inside : pin_net C j pin < nets C = closed.pins j pin h has in omega arith)

    -- the part's nodes read nets before them, or one another without a ring
    pub part_segment : Segment J fn (fn + length C.nodes)
    part_segment =
        let top = bounded rank_of (node_net J (fn + length C.nodes)) in
        record {
          rank = rank_of;
          bound = top.0;
          ordered = omega arith;
          fits = m.nodes_fit;
          bounded = λ net between. top.1 net between.1;
          reads = λ j pin from to has. shifted (j - fn) pin j (omega arith) (omega arith) has;
        }
      where
        at_pin : (i pin : ℕ) → i < length C.nodes → pin < length (node C i).reads → pin_net J (fn + i) pin ≡ at (pin_net C i pin)
        at_pin i pin h has = ap (λ (n : NodeOf). slice_index n.reads pin) (m.nodes i h) ∙ get_or-map at (node C i).reads pin 0 0 has

        shifted : (i pin j : ℕ) → fn + i ≡ j → i < length C.nodes → pin < length (node J j).reads
            → (pin_net J j pin < node_net J fn) ⊎ (IsNetBetween J fn (fn + length C.nodes) (pin_net J j pin) × (rank_of (pin_net J j pin) < rank_of (node_net J j)))
        shifted i pin j e h has =
            let own : pin < length (node C i).reads = omega (arith, ap (λ k. length (node J k).reads) e, ap (λ (n : NodeOf). length n.reads) (m.nodes i h), length-map (node C i).reads at) in
            subst (λ k. (pin_net J k pin < node_net J fn) ⊎ (IsNetBetween J fn (fn + length C.nodes) (pin_net J k pin) × (rank_of (pin_net J k pin) < rank_of (node_net J k)))) e
            (subst (λ k. (k < node_net J fn) ⊎ (IsNetBetween J fn (fn + length C.nodes) k × (rank_of k < rank_of (node_net J (fn + i))))) (sym (at_pin i pin h own))
            (reads_at i pin h own (place_of C (pin_net C i pin))))

-- ---- all members

-- what outputs shown holds of what parts show, each
abbrev AllOwn : (ℕ → Type 0) → List PartOf → Type 0
AllOwn P [] = Unit {0}
AllOwn P (p ∷ ps) = All P (map p.at (own_outputs p)) × AllOwn P ps

all_one : (P : ℕ → Type 0) (shown : List ℕ) (net : ℕ) → All P shown → P net → All P (if list_any (λ other. net == other) shown then shown else shown ++ net ∷ [])
all_one P shown net all h = elim (cases_Bool (list_any (λ other. net == other) shown)) [
  | inl has ↦ subst (All P) (sym (cond-true _ shown (shown ++ net ∷ []) has)) all
  | inr hasnt ↦ subst (All P) (sym (cond-false _ shown (shown ++ net ∷ []) hasnt)) (All-push P shown net all h)
]

all_new : (P : ℕ → Type 0) (shown more : List ℕ) → All P shown → All P more → All P (with_new shown more)
all_new P shown [] all new = all
all_new P shown (net ∷ more) all new =
    all_new P (if list_any (λ other. net == other) shown then shown else shown ++ net ∷ []) more (all_one P shown net all (All-head P net more new)) (All-tail P net more new)

all_outputs : (P : ℕ → Type 0) (shown : List ℕ) (ps : List PartOf) → All P shown → AllOwn P ps → All P (outputs_from shown ps)
all_outputs P shown [] all own = all
all_outputs P shown (p ∷ ps) all own = all_outputs P (with_new shown (map p.at (own_outputs p))) ps (all_new P shown (map p.at (own_outputs p)) all own.0) own.1

-- what all parts before the tree have
record Whole (J : Circuit) (k tree : ℕ) (ps : List PartOf) : Type 0 where
  sound : SoundTo J k
  latches : All (λ (l : LatchOf). l.reads < nets J) (latches_of ps)
  widths : All (λ (n : NodeOf). n.cover.width ≡ length n.reads) (nodes_of ps)
  outputs : AllOwn (λ net. net < nets J) ps
  rails : All (λ net. net < node_net J tree) (rails_of ps)

module _ (J : Circuit) (latches past : ℕ) (many : length J.latches ≡ latches) (end : nets J ≤ past) where
  one_more : (fl fn tree : ℕ) (m : MemberOf) (ps : List PartOf) → StandsIn J m.circuit (net_at J.inputs latches past fl fn m) fl fn → IsSoundMember m
      → fn + length m.circuit.nodes ≤ tree → (k : ℕ) → Whole J k tree ps
      → Whole J k tree (record { circuit = m.circuit; plan = m.plan; at = net_at J.inputs latches past fl fn m; first_latch = fl; first_node = fn } ∷ ps)
  one_more fl fn tree m ps stands sound ends k rest = record {
    sound = rest.sound;
    latches = All-append (λ (l : LatchOf). l.reads < nets J) (map (moved_latch at) m.circuit.latches) (latches_of ps)
        (All-map (λ (l : LatchOf). l.reads < nets J) (moved_latch at) m.circuit.latches
        (All-weaker (λ (l : LatchOf). l.reads < nets m.circuit) (λ (l : LatchOf). at l.reads < nets J) (λ l h. inside J m.circuit at fl fn stands l.reads h) m.circuit.latches sound.closed.latches))
        rest.latches;
    widths = All-append (λ (n : NodeOf). n.cover.width ≡ length n.reads) (map (moved_node at) m.circuit.nodes) (nodes_of ps)
        (All-map (λ (n : NodeOf). n.cover.width ≡ length n.reads) (moved_node at) m.circuit.nodes
        (All-weaker (λ (n : NodeOf). n.cover.width ≡ length n.reads) (λ (n : NodeOf). n.cover.width ≡ length (map at n.reads)) (λ n h. h ∙ sym (length-map n.reads at)) m.circuit.nodes sound.closed.widths))
        rest.widths;
    outputs = (
      All-map (λ net. net < nets J) at (take m.plan.outputs m.circuit.outputs)
          (All-weaker (λ net. net < nets m.circuit) (λ net. at net < nets J) (λ net h. inside J m.circuit at fl fn stands net h) (take m.plan.outputs m.circuit.outputs)
          (All-take (λ net. net < nets m.circuit) m.plan.outputs m.circuit.outputs sound.closed.outputs)),
      rest.outputs,
    );
    rails = All-cons Before (at m.plan.rail1) (at m.plan.rail2 ∷ rails_of ps) (earlier m.plan.rail1 sound.rails.0)
        (All-cons Before (at m.plan.rail2) (rails_of ps) (earlier m.plan.rail2 sound.rails.1) rest.rails);
  }
    where
      at : ℕ → ℕ
      at = net_at J.inputs latches past fl fn m

      Before : ℕ → Type 0
      Before net = net < node_net J tree

      earlier : (net : ℕ) → net < nets m.circuit → net_at J.inputs latches past fl fn m net < node_net J tree
      earlier net h = let b = before_next J m.circuit (net_at J.inputs latches past fl fn m) fl fn stands net h in omega arith

  whole : (fl fn tree : ℕ) (ms : List MemberOf) (bl : List LatchOf) (bn an : List NodeOf) → length bl ≡ fl → length bn ≡ fn → fn + nodes_in ms ≤ tree
      → AreMembers J.inputs ms → AreSoundMembers ms
      → J.latches ≡ bl ++ latches_of (parts_from J.inputs latches past fl fn ms)
      → J.nodes ≡ bn ++ (nodes_of (parts_from J.inputs latches past fl fn ms) ++ an)
      → SoundTo J fn → Whole J (fn + nodes_in ms) tree (parts_from J.inputs latches past fl fn ms)
  whole fl fn tree [] bl bn an long_l long_n ends are ok of_l of_n sound = record {
    sound = subst (SoundTo J) (omega arith) sound;
    latches = All-nil (λ (l : LatchOf). l.reads < nets J);
    widths = All-nil (λ (n : NodeOf). n.cover.width ≡ length n.reads);
    outputs = tt;
    rails = All-nil (λ net. net < node_net J tree);
  }
  whole fl fn tree (m ∷ ms) bl bn an long_l long_n ends are ok of_l of_n sound =
      let rest = parts_from J.inputs latches past (fl + length m.circuit.latches) (fn + length m.circuit.nodes) ms in
      let own_l = map (moved_latch (net_at J.inputs latches past fl fn m)) m.circuit.latches in
      let own_n = map (moved_node (net_at J.inputs latches past fl fn m)) m.circuit.nodes in
      let member : IsSoundMember m = ok.0 in
      let stands = member_stands J latches past many end fl fn m bl (latches_of rest) bn (nodes_of rest ++ an) long_l long_n are.0 of_l
      (of_n ∙ ap (λ zs. bn ++ zs) (append_assoc own_n (nodes_of rest) an)) in
      let more = whole (fl + length m.circuit.latches) (fn + length m.circuit.nodes) tree ms (bl ++ own_l) (bn ++ own_n) an
      (length-append bl own_l ∙ omega (arith, length-map m.circuit.latches (moved_latch (net_at J.inputs latches past fl fn m))))
      (length-append bn own_n ∙ omega (arith, length-map m.circuit.nodes (moved_node (net_at J.inputs latches past fl fn m))))
      (omega arith) are.1 ok.1
      (of_l ∙ sym (append_assoc bl own_l (latches_of rest)))
      (of_n ∙ ap (λ zs. bn ++ zs) (append_assoc own_n (nodes_of rest) an) ∙ sym (append_assoc bn own_n (nodes_of rest ++ an)))
      (joined_sound J fn (fn + length m.circuit.nodes) sound
      (part_segment J m.circuit (net_at J.inputs latches past fl fn m) fl fn stands member.closed member.acyclic)) in
      one_more fl fn tree m rest stands member (omega arith) (fn + nodes_in (m ∷ ms))
      (subst (λ k. Whole J k tree rest) (omega arith) more)

-- ---- the joint, with its tree

module _ (inputs : ℕ) (ms : List MemberOf) (count : ℕ) (tree : List ℕ → ℕ → TreeOf) (are : AreMembers inputs ms) (ok : AreSoundMembers ms)
    (is : IsTree (length ms) count tree) where
  abbrev J : JointOf
  J = the_joint inputs ms count tree is

  abbrev made : TreeOf
  made = tree (rails_of J.parts) (inputs + latches_in ms + nodes_in ms)

  all : Whole J.circuit (nodes_in ms) (nodes_in ms) J.parts
  all = let e : 0 + nodes_in ms ≡ nodes_in ms = omega arith in
      subst (λ k. Whole J.circuit k (nodes_in ms) J.parts) e (whole J.circuit (latches_in ms) (inputs + latches_in ms + (nodes_in ms + count)) (many_latches inputs ms count tree is)
      (omega (arith, many_latches inputs ms count tree is, many_nodes inputs ms count tree is))
      0 0 (nodes_in ms) ms [] [] made.nodes refl refl (omega arith) are ok refl refl (none_sound J.circuit))

  word_before : (place : ℕ) → place < length (rails_of J.parts) → slice_index (rails_of J.parts) place < inputs + latches_in ms + nodes_in ms
  word_before place h = subst (λ n. slice_index (rails_of J.parts) place < n) (first_net inputs ms count tree is) (all.rails place 0 h)

  long : length (rails_of J.parts) ≡ 2 * length ms
  long = length-rails_of J.parts ∙ ap (λ k. 2 * k) (many_parts inputs ms count tree is)

  tree_at : (k : ℕ) → node J.circuit (nodes_in ms + k) ≡ slice_index_or made.nodes k no_node
  tree_at k =
      ap (λ n. slice_index_or (nodes_of J.parts ++ made.nodes) (n + k) no_node) (sym (many_own inputs ms count tree is))
      ∙ get_or-append-add (nodes_of J.parts) made.nodes k no_node

  tree_reads : (k pin : ℕ) → k < count → pin < length (node J.circuit (nodes_in ms + k)).reads
      → pin_net J.circuit (nodes_in ms + k) pin < node_net J.circuit (nodes_in ms + k)
  tree_reads k pin h has =
      let first = first_net inputs ms count tree is in
      let below = is.reads (rails_of J.parts) (inputs + latches_in ms + nodes_in ms) k pin word_before long h (subst (λ (n : NodeOf). pin < length n.reads) (tree_at k) has) in
      subst (λ (n : NodeOf). slice_index n.reads pin < node_net J.circuit (nodes_in ms + k)) (sym (tree_at k)) (omega arith)

  tree_appended : IsAppended J.circuit (nodes_in ms) (length J.circuit.nodes)
  tree_appended = record {
    ordered = omega (arith, many_nodes inputs ms count tree is);
    fits = omega arith;
    before = λ j pin from to has.
        let e : nodes_in ms + (j - nodes_in ms) ≡ j = omega arith in
        subst (λ k. pin_net J.circuit k pin < node_net J.circuit k) e
        (tree_reads (j - nodes_in ms) pin (omega (arith, many_nodes inputs ms count tree is)) (subst (λ k. pin < length (node J.circuit k).reads) (sym e) has));
  }

  sound : SoundTo J.circuit (length J.circuit.nodes)
  sound = joined_sound J.circuit (nodes_in ms) (length J.circuit.nodes) all.sound
      (appended_segment J.circuit (nodes_in ms) (length J.circuit.nodes) tree_appended)

  pub acyclic : Acyclic J.circuit
  acyclic = sound_acyclic J.circuit sound

  rails_within : (made.rail1 < nets J.circuit) × (made.rail2 < nets J.circuit)
  rails_within =
      let both = is.rails (rails_of J.parts) (inputs + latches_in ms + nodes_in ms) word_before long in
      let first = both.0 in let second = both.1 in
      (omega (arith, many_latches inputs ms count tree is, many_nodes inputs ms count tree is), omega (arith, many_latches inputs ms count tree is, many_nodes inputs ms count tree is))

  pub closed : IsClosed J.circuit
  closed = record {
    pins = λ j pin h has. sound.before j pin h has;
    latches = all.latches;
    outputs = All-append Inside (outputs_from [] J.parts) (made.rail1 ∷ (made.rail2 ∷ [])) (all_outputs Inside [] J.parts (All-nil Inside) all.outputs)
        (All-cons Inside made.rail1 (made.rail2 ∷ []) rails_within.0 (All-cons Inside made.rail2 [] rails_within.1 (All-nil Inside)));
    some_output = omega (arith, length-append (outputs_from [] J.parts) (made.rail1 ∷ (made.rail2 ∷ [])));
    widths = All-append (λ (n : NodeOf). n.cover.width ≡ length n.reads) (nodes_of J.parts) made.nodes all.widths (is.widths (rails_of J.parts) (inputs + latches_in ms + nodes_in ms));
  }
    where
      Inside : ℕ → Type 0
      Inside net = net < nets J.circuit

-- the circuit of sound members and a tree over their rails is acyclic
pub joint_circuit_is_acyclic : JointCircuitIsAcyclic
joint_circuit_is_acyclic inputs ms count tree are ok is = acyclic inputs ms count tree are ok is

-- the circuit of sound members and a tree over their rails is closed
pub joint_circuit_is_closed : JointCircuitIsClosed
joint_circuit_is_closed inputs ms count tree are ok is = closed inputs ms count tree are ok is
