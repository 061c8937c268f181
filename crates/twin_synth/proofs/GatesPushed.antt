-- Gates that are pushed one after the other: the nets of later ones don't matter to the nodes of earlier ones.
use Rattle.std.proofs.Common.{◌≡◌, ℕ, suc, ◌+◌, ◌<◌, ◌≤◌, List, [], ◌∷◌, ◌++◌, take, length, slice_index, slice_index_or, refl, sym, ap, ap₂, ◌∙◌, subst, arith, append_assoc, length-append}
use Rattle.std.proofs.lemmas.List.{take_more, take_all, length-take-le, get_or_append_left, get_or_default, get_or-take}
use Rattle.tsc_cover.specs.Cover.{CoverTable}
use Rattle.fault_secure.specs.Circuit.{NodeOf, nets, gate as node_over}
use Rattle.tsc_net.specs.NetlistOf.{NetlistOf}
use Rattle.code_checkers.specs.declared.gate.CheckGate.{CheckGate}
use Rattle.code_checkers.specs.declared.gate.CheckGate.TheVariants as gate
use Rattle.code_checkers.specs.Gates.{ReadsBelow, AreOrdered}
use Rattle.code_checkers.specs.Nodes.{cover_of}
use Rattle.code_checkers.specs.CheckerNodes.{gate_net, net_behind, gate_nets, gate_node, gate_nodes}
use Rattle.twin_synth.specs.Numbered.{more_nodes}

-- ---- what a gate reads

reads_wider : (m n : ℕ) (g : CheckGate) → m ≤ n → ReadsBelow m g → ReadsBelow n g
reads_wider m n (gate.Word p) h low = tt
reads_wider m n (gate.Buf a) h low = omega (arith, h, low)
reads_wider m n (gate.Not a) h low = omega (arith, h, low)
reads_wider m n (gate.And a b) h low = (let x : a < m = low.0 in omega (arith, h, x), let y : b < m = low.1 in omega (arith, h, y))
reads_wider m n (gate.Or a b) h low = (let x : a < m = low.0 in omega (arith, h, x), let y : b < m = low.1 in omega (arith, h, y))
reads_wider m n (gate.Xor a b) h low = (let x : a < m = low.0 in omega (arith, h, x), let y : b < m = low.1 in omega (arith, h, y))

-- ---- one net more

module _ (known : List ℕ) (net : ℕ) where
  same_net : (a : ℕ) → a < length known → slice_index (known ++ net ∷ []) a ≡ slice_index known a
  same_net a low = get_or_append_left known (net ∷ []) 0 a low

  one_pin : (cover : CoverTable) (a : ℕ) → a < length known
      → node_over cover (slice_index (known ++ net ∷ []) a ∷ []) ≡ node_over cover (slice_index known a ∷ [])
  one_pin cover a low = ap (λ n. node_over cover (n ∷ [])) (same_net a low)

  two_pins : (cover : CoverTable) (a b : ℕ) → a < length known → b < length known
      → node_over cover (slice_index (known ++ net ∷ []) a ∷ (slice_index (known ++ net ∷ []) b ∷ [])) ≡ node_over cover (slice_index known a ∷ (slice_index known b ∷ []))
  two_pins cover a b x y = ap₂ (λ n m. node_over cover (n ∷ (m ∷ []))) (same_net a x) (same_net b y)

  node_same : (g : CheckGate) → ReadsBelow (length known) g → gate_node (known ++ net ∷ []) g ≡ gate_node known g
  node_same (gate.Word p) low = refl
  node_same (gate.Buf a) low = ap (λ (n : NodeOf). n ∷ []) (one_pin (cover_of (gate.Buf a)) a low)
  node_same (gate.Not a) low = ap (λ (n : NodeOf). n ∷ []) (one_pin (cover_of (gate.Not a)) a low)
  node_same (gate.And a b) low = ap (λ (n : NodeOf). n ∷ []) (two_pins (cover_of (gate.And a b)) a b low.0 low.1)
  node_same (gate.Or a b) low = ap (λ (n : NodeOf). n ∷ []) (two_pins (cover_of (gate.Or a b)) a b low.0 low.1)
  node_same (gate.Xor a b) low = ap (λ (n : NodeOf). n ∷ []) (two_pins (cover_of (gate.Xor a b)) a b low.0 low.1)

  nodes_same : (gates : List CheckGate) → ((i : ℕ) → i < length gates → ReadsBelow (length known) (slice_index_or gates i (gate.Word 0)))
      → gate_nodes (known ++ net ∷ []) gates ≡ gate_nodes known gates
  nodes_same [] below = refl
  nodes_same (g ∷ gates) below = ap₂ (λ first rest. first ++ rest) (node_same g (below 0 (omega arith))) (nodes_same gates (λ i low. below (suc i) (omega arith)))

-- ---- one gate more

nodes_joined : (known : List ℕ) (gates more : List CheckGate) → gate_nodes known (gates ++ more) ≡ gate_nodes known gates ++ gate_nodes known more
nodes_joined known [] more = refl
nodes_joined known (g ∷ gates) more =
    ap (λ rest. gate_node known g ++ rest) (nodes_joined known gates more) ∙ sym (append_assoc (gate_node known g) (gate_nodes known gates) (gate_nodes known more))

last_nodes : (known : List ℕ) (g : CheckGate) → gate_nodes known (g ∷ []) ≡ gate_node known g
last_nodes known (gate.Word p) = refl
last_nodes known (gate.Buf a) = refl
last_nodes known (gate.Not a) = refl
last_nodes known (gate.And a b) = refl
last_nodes known (gate.Or a b) = refl
last_nodes known (gate.Xor a b) = refl

behind_counted : (known : List ℕ) (next : ℕ) (g : CheckGate) (gates : List CheckGate)
    → net_behind next g + length (gate_nodes known gates) ≡ next + length (gate_nodes known (g ∷ gates))
behind_counted known next (gate.Word p) gates = refl
behind_counted known next (gate.Buf a) gates = omega arith
behind_counted known next (gate.Not a) gates = omega arith
behind_counted known next (gate.And a b) gates = omega arith
behind_counted known next (gate.Or a b) gates = omega arith
behind_counted known next (gate.Xor a b) gates = omega arith

nets_more : (word known : List ℕ) (next : ℕ) (gates : List CheckGate) (g : CheckGate)
    → gate_nets word next (gates ++ g ∷ []) ≡ gate_nets word next gates ++ gate_net word (next + length (gate_nodes known gates)) g ∷ []
nets_more word known next [] g = ap (λ n. gate_net word n g ∷ []) (let e : next ≡ next + 0 = omega arith in e)
nets_more word known next (h ∷ gates) g =
    ap (λ list. gate_net word next h ∷ list)
    (nets_more word known (net_behind next h) gates g
    ∙ ap (λ n. gate_nets word (net_behind next h) gates ++ gate_net word n g ∷ []) (behind_counted known next h gates))

-- ---- counts

taken : (gates : List CheckGate) (i : ℕ) → i < length gates → length (take i gates) ≡ i
taken gates i low = length-take-le i gates (omega arith)

pub nets_counted : (word : List ℕ) (next : ℕ) (gates : List CheckGate) → length (gate_nets word next gates) ≡ length gates
nets_counted word next [] = refl
nets_counted word next (g ∷ gates) = ap suc (nets_counted word (net_behind next g) gates)

pub nodes_few : (known : List ℕ) (gates : List CheckGate) → length (gate_nodes known gates) ≤ length gates
nodes_few known [] = omega arith
nodes_few known (g ∷ gates) = omega (arith, behind_counted known 0 g gates, behind_few 0 g, nodes_few known gates)
  where
    behind_few : (next : ℕ) (g : CheckGate) → net_behind next g ≤ next + 1
    behind_few next (gate.Word p) = omega arith
    behind_few next (gate.Buf a) = omega arith
    behind_few next (gate.Not a) = omega arith
    behind_few next (gate.And a b) = omega arith
    behind_few next (gate.Or a b) = omega arith
    behind_few next (gate.Xor a b) = omega arith

-- ---- the steps

-- the gate at a place, whatever stands behind the end
pub gate_there : (gates : List CheckGate) (i : ℕ) (g : CheckGate) → i < length gates → g ≡ slice_index_or gates i g → g ≡ slice_index_or gates i (gate.Word 0)
gate_there gates i g low is = is ∙ get_or_default gates i g (gate.Word 0) low

-- it reads earlier places
pub reads_there : (gates : List CheckGate) (i : ℕ) (g : CheckGate) (known word : List ℕ) (next : ℕ) → AreOrdered gates → i < length gates → g ≡ slice_index_or gates i g
    → known ≡ gate_nets word next (take i gates) → ReadsBelow (length known) g
reads_there gates i g known word next ordered low is are =
    let many : length known ≡ i = ap length are ∙ nets_counted word next (take i gates) ∙ taken gates i low in
    subst (λ (n : ℕ). ReadsBelow n g) (sym many) (subst (ReadsBelow i) (sym (gate_there gates i g low is)) (ordered i low))

-- so many nets has a netlist with the nodes of gates
pub nets_with : (N M : NetlistOf) (known : List ℕ) (gates : List CheckGate) → M ≡ more_nodes N (gate_nodes known gates) → nets M.circuit ≡ nets N.circuit + length (gate_nodes known gates)
nets_with N M known gates is =
    ap (λ (K : NetlistOf). nets K.circuit) is
    ∙ (let e : N.circuit.inputs + length N.circuit.latches + length (N.circuit.nodes ++ gate_nodes known gates) ≡ nets N.circuit + length (gate_nodes known gates)
    = omega (arith, length-append N.circuit.nodes (gate_nodes known gates)) in e)

pub nets_room : (N M : NetlistOf) (known : List ℕ) (gates : List CheckGate) (i most : ℕ) → M ≡ more_nodes N (gate_nodes known (take i gates)) → i < length gates
    → nets N.circuit + length gates < most → nets M.circuit < most
nets_room N M known gates i most is low room = omega (arith, nets_with N M known (take i gates) is, nodes_few known (take i gates), taken gates i low)

module _ (N M Q : NetlistOf) (gates : List CheckGate) (i : ℕ) (g : CheckGate) (known word : List ℕ) (net : ℕ) (ordered : AreOrdered gates) (low : i < length gates) (is : g ≡ slice_index_or gates i g)
    (are : known ≡ gate_nets word (nets N.circuit) (take i gates)) (before : M ≡ more_nodes N (gate_nodes known (take i gates)))
    (here : net ≡ gate_net word (nets M.circuit) g) (pushed : Q ≡ more_nodes M (gate_node known g)) where
  more_gates : take (i + 1) gates ≡ take i gates ++ g ∷ []
  more_gates = take_more gates i g low ∙ ap (λ (h : CheckGate). take i gates ++ h ∷ []) (sym is)

  -- the nets of one gate more
  pub nets_pushed : known ++ net ∷ [] ≡ gate_nets word (nets N.circuit) (take (i + 1) gates)
  nets_pushed =
      ap₂ (λ list n. list ++ n ∷ []) are (here ∙ ap (λ n. gate_net word n g) (nets_with N M known (take i gates) before))
      ∙ sym (nets_more word known (nets N.circuit) (take i gates) g) ∙ ap (gate_nets word (nets N.circuit)) (sym more_gates)

  many : length known ≡ i
  many = ap length are ∙ nets_counted word (nets N.circuit) (take i gates) ∙ taken gates i low

  first_below : (k : ℕ) → k < length (take i gates) → ReadsBelow (length known) (slice_index_or (take i gates) k (gate.Word 0))
  first_below k h =
      let inside : k < i = omega (arith, h, taken gates i low) in
      subst (ReadsBelow (length known)) (sym (get_or-take i gates k (gate.Word 0) inside))
      (reads_wider k (length known) (slice_index_or gates k (gate.Word 0)) (omega (arith, inside, many)) (ordered k (omega (arith, inside, low))))

  -- and its nodes
  pub nodes_pushed : Q ≡ more_nodes N (gate_nodes (known ++ net ∷ []) (take (i + 1) gates))
  nodes_pushed =
      let reads = reads_there gates i g known word (nets N.circuit) ordered low is are in
      let after : gate_nodes (known ++ net ∷ []) (take (i + 1) gates) ≡ gate_nodes known (take i gates) ++ gate_node known g
      = ap (gate_nodes (known ++ net ∷ [])) more_gates ∙ nodes_joined (known ++ net ∷ []) (take i gates) (g ∷ [])
      ∙ ap₂ (λ first rest. first ++ rest) (nodes_same known net (take i gates) first_below) (last_nodes (known ++ net ∷ []) g ∙ node_same known net g reads) in
      pushed ∙ ap (λ (K : NetlistOf). more_nodes K (gate_node known g)) before
      ∙ ap (λ (nodes : List NodeOf). let K : NetlistOf = record N { circuit = record N.circuit { nodes = nodes } } in K)
      (append_assoc N.circuit.nodes (gate_nodes known (take i gates)) (gate_node known g) ∙ ap (λ (nodes : List NodeOf). N.circuit.nodes ++ nodes) (sym after))

-- the same, as the code has it: `seen` is what it lends of the nets, and `after` are the nets behind
pub gate_pushed : (N M Q : NetlistOf) (gates : List CheckGate) (i end : ℕ) (g : CheckGate) (seen known after word : List ℕ) (net : ℕ) → AreOrdered gates → i < end → end ≡ length gates
    → g ≡ slice_index_or gates i g → seen ≡ known
    → (known ≡ gate_nets word (nets N.circuit) (take i gates)) × (M ≡ more_nodes N (gate_nodes known (take i gates)))
    → net ≡ gate_net word (nets M.circuit) g → Q ≡ more_nodes M (gate_node seen g) → after ≡ known ++ net ∷ []
    → (after ≡ gate_nets word (nets N.circuit) (take (i + 1) gates)) × (Q ≡ more_nodes N (gate_nodes after (take (i + 1) gates)))
gate_pushed N M Q gates i end g seen known after word net ordered test sized is whole so_far here pushed more =
    let low : i < length gates = omega (arith, test, sized) in
    let node : Q ≡ more_nodes M (gate_node known g) = pushed ∙ ap (λ (list : List ℕ). more_nodes M (gate_node list g)) whole in (
      more ∙ nets_pushed N M Q gates i g known word net ordered low is so_far.0 so_far.1 here node,
      nodes_pushed N M Q gates i g known word net ordered low is so_far.0 so_far.1 here node ∙ ap (λ (list : List ℕ). more_nodes N (gate_nodes list (take (i + 1) gates))) (sym more),
    )

-- at the end there are as many nets as gates
pub all_counted : (known word : List ℕ) (next i end : ℕ) (gates : List CheckGate) → known ≡ gate_nets word next (take i gates) → end ≡ length gates → end ≤ i → length known ≡ length gates
all_counted known word next i end gates are sized late =
    ap length are ∙ nets_counted word next (take i gates) ∙ ap length (take_all i gates (omega (arith, sized, late)))
