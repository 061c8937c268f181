-- A netlist and its plan by names: each name is a word, each node is told; and the limits are kept.
use Rattle.std.proofs.Common.{◌≡◌, ℕ, zero, suc, ◌+◌, ◌^◌, ◌<◌, ◌≤◌, Bool, true, List, [], ◌∷◌, length, take, get_or, refl, sym, subst, All, arith, ◌⊎◌}
use Rattle.std.specs.List.{AllByRecursion as Each}
use Rattle.std.proofs.lemmas.List.{get_or_default, length-take}
use Rattle.std.proofs.lemmas.List.Elements.{All-nil, All-head, All-tail, All-take, recursion_from_All}
use Rattle.tsc_cover.specs.Cover.{CoverTable}
use Rattle.fault_secure.specs.Circuit.{LatchOf, NodeOf, nets, node, no_node}
use Rattle.fault_secure.specs.CodePlan.{CodePlan, IsPlanOf, IsWellMade, HasShape, HasStates, concat_places}
use Rattle.tsc_net.specs.Named.{Named, NamedLatch, NamedNode}
use Rattle.tsc_net.specs.Names.{text_at}
use Rattle.tsc_net.specs.NetlistOf.{NetlistOf, IsBuilt, names_of, named_latches, named_nodes, named_of}
use Rattle.fault_secure.specs.declared.code.Code.{Code}
use Rattle.fault_secure.specs.declared.code.Code.TheVariants.{Parity, Berger, MOutOfN}
use Rattle.blif_write.specs.NamedPlan.{NamedPlan, named_plan, named_group, named_groups}
use Rattle.blif_write.specs.Told.{IsWordName, IsTellable}
use Rattle.blif_write.specs.Writable.{IsGoodName, IsWritableNode, IsWritable}
use Rattle.tsc_bits.proofs.Lists.{all_left, all_right}

-- each name of a netlist by names passes, and each cover beside its number of pins
pub record LatchWith (Good : List ℕ → Type 0) (l : NamedLatch) : Type 0 where
  pub reads : Good l.reads
  pub out : Good l.out

pub record NodeWith (Good : List ℕ → Type 0) (Cover : ℕ → CoverTable → Type 0) (n : NamedNode) : Type 0 where
  pub reads : Each Good n.reads
  pub out : Good n.out
  pub cover : Cover (length n.reads) n.cover

pub record NetWith (Good : List ℕ → Type 0) (Cover : ℕ → CoverTable → Type 0) (N : Named) : Type 0 where
  pub model : Good N.model
  pub inputs : Each Good N.inputs
  pub outputs : Each Good N.outputs
  pub latches : Each (LatchWith Good) N.latches
  pub nodes : Each (NodeWith Good Cover) N.nodes

-- what a text tells: names that are words, and an on-set where a cover has no row
abbrev pub Names : List (List ℕ) → Type 0
Names names = Each IsWordName names

abbrev pub IsTold : ℕ → CoverTable → Type 0
IsTold pins c = (c.width ≡ pins) × (c.rows ≡ [] → c.on ≡ true)

abbrev pub GoodLatch : NamedLatch → Type 0
GoodLatch l = LatchWith IsWordName l

abbrev pub GoodNode : NamedNode → Type 0
GoodNode n = NodeWith IsWordName IsTold n

abbrev pub GoodNet : Named → Type 0
GoodNet N = NetWith IsWordName IsTold N

-- what keeps the limits of a line: short names, few pins, and a literal a pin in each row
abbrev pub IsShort : List ℕ → Type 0
IsShort name = length name ≤ 255

abbrev pub IsLimited : ℕ → CoverTable → Type 0
IsLimited pins c = (pins ≤ 64) × (c.width ≡ pins) × Each (λ row. length row ≡ c.width) c.rows

abbrev pub LimitedNode : NamedNode → Type 0
LimitedNode n = NodeWith IsShort IsLimited n

abbrev pub LimitedNet : Named → Type 0
LimitedNet N = NetWith IsShort IsLimited N

-- a group: an output and its check, at least
pub record GoodGroup (names : List (List ℕ)) : Type 0 where
  pub each : Names names
  pub some : 2 ≤ length names

pub record GoodChecks (names : List (List ℕ)) : Type 0 where
  pub each : Names names
  pub some : 1 ≤ length names

abbrev pub ChecksOf : Code → NamedPlan → Type 0
ChecksOf Parity P = Each GoodGroup P.groups
ChecksOf Berger P = GoodChecks P.checks
ChecksOf MOutOfN P = GoodChecks P.checks

pub record GoodPlan (P : NamedPlan) : Type 0 where
  pub version : (P.version ≡ 1) ⊎ (P.version ≡ 2)
  pub checks : ChecksOf P.code P
  pub states : Each (λ bits. 1 ≤ length bits) P.states

name-with : (Good : List ℕ → Type 0) (net : NetlistOf) → IsBuilt net → All Good net.names → (i : ℕ) → i < nets net.circuit → Good (text_at net.names i)
name-with Good net c w i h = let sized = c.sized in w i [] (omega (arith, sized))

pub names-with : (Good : List ℕ → Type 0) (net : NetlistOf) → IsBuilt net → All Good net.names → (list : List ℕ) → All (λ i. i < nets net.circuit) list → Each Good (names_of net.names list)
names-with Good net c w [] h = tt
names-with Good net c w (i ∷ list) h =
    let Known : ℕ → Type 0 = λ i. i < nets net.circuit in
    (name-with Good net c w i (All-head Known i list h), names-with Good net c w list (All-tail Known i list h))

length-names : (names : List (List ℕ)) (list : List ℕ) → length (names_of names list) ≡ length list
length-names names [] = refl
length-names names (i ∷ list) = let rest = length-names names list in omega (arith, rest)

latches-with : (Good : List ℕ → Type 0) (net : NetlistOf) → IsBuilt net → All Good net.names → (at : ℕ) (latches : List LatchOf) → at + length latches ≤ nets net.circuit → All (λ l. l.reads < nets net.circuit) latches
    → Each (LatchWith Good) (named_latches net.names at latches)
latches-with Good net c w at [] few known = tt
latches-with Good net c w at (l ∷ latches) few known =
    let Known : LatchOf → Type 0 = λ l. l.reads < nets net.circuit in (
      record { reads = name-with Good net c w l.reads (All-head Known l latches known); out = name-with Good net c w at (omega arith) },
      latches-with Good net c w (at + 1) latches (omega arith) (All-tail Known l latches known),
    )

nodes-with : (Good : List ℕ → Type 0) (Cover : ℕ → CoverTable → Type 0) (net : NetlistOf) → IsBuilt net → All Good net.names → (at : ℕ) (nodes : List NodeOf) → at + length nodes ≤ nets net.circuit
    → All (λ n. All (λ i. i < nets net.circuit) n.reads) nodes → All (λ n. Cover (length n.reads) n.cover) nodes → Each (NodeWith Good Cover) (named_nodes net.names at nodes)
nodes-with Good Cover net c w at [] few known fit = tt
nodes-with Good Cover net c w at (n ∷ nodes) few known fit =
    let Known : NodeOf → Type 0 = λ n. All (λ i. i < nets net.circuit) n.reads in
    let Fits : NodeOf → Type 0 = λ n. Cover (length n.reads) n.cover in
    let Pins : ℕ → Type 0 = λ pins. Cover pins n.cover in (
      record {
        reads = names-with Good net c w n.reads (All-head Known n nodes known);
        out = name-with Good net c w at (omega arith);
        cover = subst Pins (sym (length-names net.names n.reads)) (All-head Fits n nodes fit);
      },
      nodes-with Good Cover net c w (at + 1) nodes (omega arith) (All-tail Known n nodes known) (All-tail Fits n nodes fit),
    )

pins-known : (net : NetlistOf) → IsBuilt net → All (λ n. All (λ i. i < nets net.circuit) n.reads) net.circuit.nodes
pins-known net c j d h pin e k =
    let C = net.circuit in
    let same : node C j ≡ get_or C.nodes j d = get_or_default C.nodes j no_node d h in
    let Pins : NodeOf → Type 0 = λ n. (p : ℕ) → p < length n.reads → get_or n.reads p 0 < nets C in
    let at : Pins (get_or C.nodes j d) = subst Pins same (λ p q. c.closed.pins j p h q) in
    let P : ℕ → Type 0 = λ x. x < nets C in
    subst P (get_or_default (get_or C.nodes j d).reads pin 0 e k) (at pin k)

-- a netlist by names, of names that pass
pub net-with : (Good : List ℕ → Type 0) (Cover : ℕ → CoverTable → Type 0) (net : NetlistOf) → IsBuilt net → Good net.model → All Good net.names → All (λ n. Cover (length n.reads) n.cover) net.circuit.nodes
    → NetWith Good Cover (named_of net)
net-with Good Cover net c model w fit = let C = net.circuit in record {
  model = model;
  inputs = recursion_from_All Good (take C.inputs net.names) (All-take Good C.inputs net.names w);
  outputs = names-with Good net c w C.outputs c.closed.outputs;
  latches = latches-with Good net c w C.inputs C.latches (omega arith) c.closed.latches;
  nodes = nodes-with Good Cover net c w (C.inputs + length C.latches) C.nodes (omega arith) (pins-known net c) fit;
}

-- a netlist that a text tells, by names
pub net-good : (net : NetlistOf) → IsBuilt net → IsTellable net → GoodNet (named_of net)
net-good net c t = net-with IsWordName IsTold net c t.model t.names (λ j d h. (c.closed.widths j d h, t.each_node j d h))

-- a writable netlist is one that a text tells, and keeps the limits
pub writable-told : (net : NetlistOf) → IsWritable net → IsTellable net
writable-told net w = record {
  model = word-name net.model w.model;
  names = λ i d h. word-name (get_or net.names i d) (w.names i d h);
  each_node = λ j d h. (w.each_node j d h).set;
}
  where
    word-name : (name : List ℕ) → IsGoodName name → IsWordName name
    word-name name h = record { word = h.word; allowed = h.allowed }

pub net-limited : (net : NetlistOf) → IsBuilt net → IsWritable net → LimitedNet (named_of net)
net-limited net c w = net-with IsShort IsLimited net c w.model.short (λ i d h. (w.names i d h).short) (λ j d h.
    (let n : IsWritableNode (get_or net.circuit.nodes j d) = w.each_node j d h in
    (n.pins, c.closed.widths j d h, recursion_from_All (λ row. length row ≡ (get_or net.circuit.nodes j d).cover.width) (get_or net.circuit.nodes j d).cover.rows n.rows)))

pub outputs-good : (net : NetlistOf) → IsTellable net → IsBuilt net → (most : ℕ) → most ≤ length net.circuit.outputs → (places : List ℕ) → All (λ place. place < most) places → (check : ℕ) → check < nets net.circuit → Names (named_group net places check)
outputs-good net w c most few [] h check k = (name-with IsWordName net c w.names check k, tt)
outputs-good net w c most few (place ∷ places) h check k =
    let Low : ℕ → Type 0 = λ place. place < most in
    let low : place < most = All-head Low place places h in (
      name-with IsWordName net c w.names (get_or net.circuit.outputs place 0) (c.closed.outputs place 0 (omega arith)),
      outputs-good net w c most few places (All-tail Low place places h) check k,
    )

length-group : (net : NetlistOf) (places : List ℕ) (check : ℕ) → length (named_group net places check) ≡ length places + 1
length-group net [] check = refl
length-group net (place ∷ places) check = let rest = length-group net places check in omega (arith, rest)

groups-good : (net : NetlistOf) → IsTellable net → IsBuilt net → (most : ℕ) → most ≤ length net.circuit.outputs → (groups : List (List ℕ)) (checks : List ℕ) → All (λ group. 0 < length group) groups → All (λ place. place < most) (concat_places groups) → All (λ i. i < nets net.circuit) checks → Each GoodGroup (named_groups net groups checks)
groups-good net w c most few [] checks filled low known = tt
groups-good net w c most few (group ∷ groups) [] filled low known = tt
groups-good net w c most few (group ∷ groups) (check ∷ checks) filled low known =
    let Low : ℕ → Type 0 = λ place. place < most in
    let Known : ℕ → Type 0 = λ i. i < nets net.circuit in
    let Filled : List ℕ → Type 0 = λ group. 0 < length group in
    let some : 0 < length group = All-head Filled group groups filled in
    let long = length-group net group check in (
      record { each = outputs-good net w c most few group (all_left Low group (concat_places groups) low) check (All-head Known check checks known); some = omega arith },
      groups-good net w c most few groups checks (All-tail Filled group groups filled) (all_right Low group (concat_places groups) low) (All-tail Known check checks known),
    )

checks-good : (net : NetlistOf) → IsTellable net → IsBuilt net → (P : CodePlan) → IsWellMade P → IsPlanOf net.circuit P → 1 ≤ length P.checks → GoodChecks (names_of net.names P.checks)
checks-good net w c P made of some = record { each = names-with IsWordName net c w.names P.checks of.checks; some = count P.checks some }
  where
    count : (list : List ℕ) → 1 ≤ length list → 1 ≤ length (names_of net.names list)
    count [] h = h
    count (i ∷ list) h = omega arith

-- the lines of the checks have their names
checks-of-good : (net : NetlistOf) → IsTellable net → IsBuilt net → (P : CodePlan) → IsWellMade P → IsPlanOf net.circuit P → (code : Code) → HasShape code P → ChecksOf code (named_plan net P)
checks-of-good net w c P made of Parity shape =
    let count = of.outputs in
    groups-good net w c P.outputs (omega arith) P.groups P.checks shape.filled shape.within of.checks
checks-of-good net w c P made of Berger shape = checks-good net w c P made of (some (length P.checks) shape.1.0 made.some_output)
  where
    some : (n : ℕ) → P.outputs < 2 ^ n → 0 < P.outputs → 1 ≤ n
    some zero h k = omega arith
    some (suc n) h k = omega arith
checks-of-good net w c P made of MOutOfN shape = let same = shape.1 in let many = made.some_output in checks-good net w c P made of (omega arith)

-- a state word has a bit, since without latches there is none
states-long : (P : CodePlan) → HasStates P → (n : ℕ) → P.latches ≡ n → All (λ bits. 1 ≤ length bits) P.states
states-long P h zero e =
    let Long : List (List Bool) → Type 0 = λ states. All (λ bits. 1 ≤ length bits) states in
    subst Long (sym (h.none e).0) (All-nil (λ (bits : List Bool). 1 ≤ length bits))
states-long P h (suc n) e = λ k d l. let sized = h.sized k d l in omega arith

-- a plan of a netlist that a text tells, by names
pub plan-good : (net : NetlistOf) → IsTellable net → IsBuilt net → (P : CodePlan) → IsWellMade P → IsPlanOf net.circuit P → GoodPlan (named_plan net P)
plan-good net w c P made of = record {
  version = made.versioned;
  checks = checks-of-good net w c P made of P.code made.shape;
  states = recursion_from_All (λ bits. 1 ≤ length bits) P.states (states-long P made.states P.latches refl);
}

-- how many parts there are
pub record NetCounts (N : Named) : Type 0 where
  pub inputs : length N.inputs ≤ 1024
  pub outputs : length N.outputs ≤ 66
  pub latches : length N.latches ≤ 64
  pub nodes : length N.nodes ≤ 1048576

pub net-counts : (net : NetlistOf) → IsWritable net → NetCounts (named_of net)
net-counts net w =
    let C = net.circuit in
    let most = length-take C.inputs net.names in
    let inputs = w.inputs in
    let outputs = w.outputs in
    let latches = w.latches in
    let nodes = w.nodes in
    let outputs-count = length-names net.names C.outputs in
    let latches-count = length-latches net.names C.inputs C.latches in
    let nodes-count = length-nodes net.names (C.inputs + length C.latches) C.nodes in
    record { inputs = omega arith; outputs = omega arith; latches = omega arith; nodes = omega arith }
  where
    length-latches : (names : List (List ℕ)) (at : ℕ) (latches : List LatchOf) → length (named_latches names at latches) ≡ length latches
    length-latches names at [] = refl
    length-latches names at (l ∷ latches) = let rest = length-latches names (at + 1) latches in omega (arith, rest)

    length-nodes : (names : List (List ℕ)) (at : ℕ) (nodes : List NodeOf) → length (named_nodes names at nodes) ≡ length nodes
    length-nodes names at [] = refl
    length-nodes names at (n ∷ nodes) = let rest = length-nodes names (at + 1) nodes in omega (arith, rest)
