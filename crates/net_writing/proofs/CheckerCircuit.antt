-- The gates of a checker in the circuit of a netlist by names that has their nodes: they all stand, and the circuit ends in them.
use Rattle.std.proofs.Common.{◌≡◌, ℕ, ◌+◌, ◌<◌, ◌≤◌, List, [], ◌∷◌, ◌++◌, map, drop, length, slice_index, slice_index_or, Option, refl, sym, ◌∙◌, ap, ap₂, subst, arith, length-append}
use Rattle.std.proofs.lemmas.List.{append-nil, append_assoc, map-append, length-map, get_or-map, drop_all, drop_more}
use Rattle.std.proofs.lemmas.Simd.{map-map}
use Rattle.tsc_bits.proofs.Lists.{map_agrees}
use Rattle.tsc_cover.specs.Cover.{CoverTable}
use Rattle.fault_secure.specs.Circuit.{NodeOf, node, no_node, node_net, gate as node_over}
use Rattle.fault_secure.specs.CodePlan.{CodePlan, monitored}
use Rattle.tsc_net.specs.Named.{Named, NamedNode, no_named}
use Rattle.tsc_net.specs.Names.{place_of_text, text_at, IsNumbering}
use Rattle.tsc_net.specs.NetlistOf.{drivers, circuit_of}
use Rattle.tsc_net.specs.Parts.{PartsOf}
use Rattle.code_checkers.specs.declared.gate.CheckGate.{CheckGate}
use Rattle.code_checkers.specs.declared.gate.CheckGate.TheVariants as gate
use Rattle.code_checkers.specs.Gates.{ReadsBelow as ReadsGatesBelow}
use Rattle.code_checkers.specs.GateList.{GateList}
use Rattle.code_checkers.specs.Nodes.{cover_of, reads_of, IsNodeFrom, Stands, AllStand}
use Rattle.code_checkers.specs.CheckerNodes.{gate_nets, gate_nodes}
use Rattle.code_checkers.specs.NodesOfGates.{StandsFrom, EndsInGates}
use Rattle.net_writing.specs.CheckerParts.{GateParts, out_text, with_gate, with_gate_node, with_gates, with_checker, given_text, IsOver}
use Rattle.net_writing.specs.declared.checker_writing.RailNames.{RailNames}
use Rattle.net_building.proofs.NamedNets.{place_of_node, node_of_named}
use Rattle.net_writing.proofs.CheckerSteps.{reads_below, gates_below}
use Rattle.net_writing.proofs.CheckerShape.{node_of_gate, GatesCame, node_named, node_texts, gates_came, checker_counted, ReadInOrder, checker_in_order}
use Rattle.net_writing.proofs.CheckerNames.{IsNodeBehind, named_gate, StandsByName, reads_stay, node_here, node_within, order_behind, checker_stands_by_name}

-- the nets of texts
abbrev pub nets_of : Named → List (List ℕ) → List ℕ
nets_of N texts = map (place_of_text (drivers N)) texts

module _ (N : Named) (distinct : IsNumbering (drivers N)) where
  -- the net of what a node drives
  net_of_node : (k : ℕ) (n : NamedNode) → k < length N.nodes → slice_index_or N.nodes k no_named ≡ n → place_of_text (drivers N) n.out ≡ node_net (circuit_of N) k
  net_of_node k n low is =
      ap (place_of_text (drivers N)) (sym (get_or-map (λ (m : NamedNode). m.out) N.nodes k no_named [] low ∙ ap (λ (m : NamedNode). m.out) is)) ∙ place_of_node N distinct k low

  -- the nets of what a gate reads
  net_reads : (texts : List (List ℕ)) (n : ℕ) (g : CheckGate) → n ≤ length texts → ReadsGatesBelow n g → map (place_of_text (drivers N)) (map (text_at texts) (reads_of g)) ≡ map (slice_index (nets_of N texts)) (reads_of g)
  net_reads texts n g low below =
      map-map (place_of_text (drivers N)) (text_at texts) (reads_of g)
      ∙ map_agrees (λ place. place < n) (λ place. place_of_text (drivers N) (text_at texts place)) (slice_index (nets_of N texts))
      (λ place there. sym (get_or-map (place_of_text (drivers N)) texts place [] 0 (omega arith))) (reads_of g) (reads_below n g below)

  -- the node at a place
  node_over_nets : (texts : List (List ℕ)) (n k : ℕ) (g : CheckGate) (m : NamedNode) → n ≤ length texts → ReadsGatesBelow n g → k < length N.nodes → slice_index_or N.nodes k no_named ≡ m
      → m.reads ≡ map (text_at texts) (reads_of g) → m.cover ≡ cover_of g → node (circuit_of N) k ≡ node_over (cover_of g) (map (slice_index (nets_of N texts)) (reads_of g))
  node_over_nets texts n k g m low below there is reads cover =
      node_of_named N k m no_named there (sym is)
      ∙ ap₂ (λ (c : CoverTable) (list : List ℕ). node_over c list) cover (ap (map (place_of_text (drivers N))) reads ∙ net_reads texts n g low below)

  module _ (word : List (List ℕ)) (given : ℕ → Option (List ℕ)) where
    -- the nets of gates after those so far
    gates_nets : (gates : List CheckGate) (s : GateParts) → N.nodes ≡ (with_gates word given gates s).parts.named.nodes → ReadInOrder (length word) (length s.names) gates
        → nets_of N (with_gates word given gates s).names ≡ nets_of N s.names ++ gate_nets (nets_of N word) (node_net (circuit_of N) (length s.parts.named.nodes)) gates
    gates_nets [] s nodes order = sym (append-nil (nets_of N s.names))
    gates_nets (gate.Word place ∷ gates) s nodes order =
        let next : GateParts = record { parts = s.parts; names = s.names ++ text_at word place ∷ [] } in
        let rest = gate_nets (nets_of N word) (node_net (circuit_of N) (length s.parts.named.nodes)) gates in
        gates_nets gates next nodes (order_behind word given (gate.Word place) gates s order.1)
        ∙ ap (λ (list : List ℕ). list ++ rest) (map-append (place_of_text (drivers N)) s.names (text_at word place ∷ []))
        ∙ append_assoc (nets_of N s.names) (place_of_text (drivers N) (text_at word place) ∷ []) rest
        ∙ ap (λ (net : ℕ). nets_of N s.names ++ net ∷ rest) (sym (get_or-map (place_of_text (drivers N)) word place [] 0 order.0))
    gates_nets (g ∷ gates) s nodes order =
        node_nets (given (length s.names)) g s (with_gates word given (g ∷ gates) s) gates nodes (gates_came word given gates (with_gate word (given (length s.names)) g s))
        (gates_nets gates (with_gate word (given (length s.names)) g s) nodes (order_behind word given g gates s order.1))
      where
        node_nets : (o : Option (List ℕ)) (h : CheckGate) (t q : GateParts) (rest : List CheckGate) → N.nodes ≡ q.parts.named.nodes → GatesCame (with_gate_node o h t) q
            → nets_of N q.names ≡ nets_of N (with_gate_node o h t).names ++ gate_nets (nets_of N word) (node_net (circuit_of N) (length (with_gate_node o h t).parts.named.nodes)) rest
            → nets_of N q.names ≡ nets_of N t.names ++ node_net (circuit_of N) (length t.parts.named.nodes) ∷ gate_nets (nets_of N word) (node_net (circuit_of N) (length t.parts.named.nodes) + 1) rest
        node_nets o h t q rest is came later =
            let at = length t.parts.named.nodes in
            let behind : node_net (circuit_of N) (length (with_gate_node o h t).parts.named.nodes) ≡ node_net (circuit_of N) (length t.parts.named.nodes) + 1
            = omega (arith, ap (λ (M : Named). length M.nodes) (node_named o h t), length-append t.parts.named.nodes (node_of_gate o h t ∷ [])) in
            let there : at < length N.nodes = omega (arith, ap length is, node_within o h t q came) in
            let net : place_of_text (drivers N) (out_text t.parts o) ≡ node_net (circuit_of N) at
            = net_of_node at (node_of_gate o h t) there (ap (λ (list : List NamedNode). slice_index_or list at no_named) is ∙ node_here o h t q came) in
            later
            ∙ ap₂ (λ (texts : List (List ℕ)) (next : ℕ). nets_of N texts ++ gate_nets (nets_of N word) next rest) (node_texts o h t) behind
            ∙ ap (λ (list : List ℕ). list ++ gate_nets (nets_of N word) (node_net (circuit_of N) at + 1) rest) (map-append (place_of_text (drivers N)) t.names (out_text t.parts o ∷ []))
            ∙ append_assoc (nets_of N t.names) (place_of_text (drivers N) (out_text t.parts o) ∷ []) (gate_nets (nets_of N word) (node_net (circuit_of N) at + 1) rest)
            ∙ ap (λ (k : ℕ). nets_of N t.names ++ k ∷ gate_nets (nets_of N word) (node_net (circuit_of N) at + 1) rest) net

    -- the nodes of gates after those so far
    gates_nodes : (gates : List CheckGate) (s : GateParts) → N.nodes ≡ (with_gates word given gates s).parts.named.nodes → ReadInOrder (length word) (length s.names) gates
        → drop (length s.parts.named.nodes) (circuit_of N).nodes ≡ gate_nodes (nets_of N (with_gates word given gates s).names) gates
    gates_nodes [] s nodes order = drop_all (length s.parts.named.nodes) (circuit_of N).nodes (omega (arith, ap length nodes, length-map N.nodes (λ (n : NamedNode). node_over n.cover (map (place_of_text (drivers N)) n.reads))))
    gates_nodes (gate.Word place ∷ gates) s nodes order =
        gates_nodes gates (record { parts = s.parts; names = s.names ++ text_at word place ∷ [] }) nodes (order_behind word given (gate.Word place) gates s order.1)
    gates_nodes (g ∷ gates) s nodes order =
        let q = with_gates word given (g ∷ gates) s in
        node_nodes (given (length s.names)) g s q (gate_nodes (nets_of N q.names) gates) nodes (gates_came word given gates (with_gate word (given (length s.names)) g s)) (gates_came word given (g ∷ gates) s)
        (gates_below (length s.names) (length word) g order.0)
        (gates_nodes gates (with_gate word (given (length s.names)) g s) nodes (order_behind word given g gates s order.1))
      where
        node_nodes : (o : Option (List ℕ)) (h : CheckGate) (t q : GateParts) (rest : List NodeOf) → N.nodes ≡ q.parts.named.nodes → GatesCame (with_gate_node o h t) q → GatesCame t q → ReadsGatesBelow (length t.names) h
            → drop (length (with_gate_node o h t).parts.named.nodes) (circuit_of N).nodes ≡ rest
            → drop (length t.parts.named.nodes) (circuit_of N).nodes ≡ node_over (cover_of h) (map (slice_index (nets_of N q.names)) (reads_of h)) ∷ rest
        node_nodes o h t q rest is came all below later =
            let at = length t.parts.named.nodes in
            let there : at < length N.nodes = omega (arith, ap length is, node_within o h t q came) in
            let counted : length (circuit_of N).nodes ≡ length N.nodes = length-map N.nodes (λ (n : NamedNode). node_over n.cover (map (place_of_text (drivers N)) n.reads)) in
            let behind : at + 1 ≡ length (with_gate_node o h t).parts.named.nodes
            = omega (arith, ap (λ (M : Named). length M.nodes) (node_named o h t), length-append t.parts.named.nodes (node_of_gate o h t ∷ [])) in
            let long : length t.names ≤ length q.names = omega (arith, ap length all.names, length-append t.names all.texts) in
            drop_more (circuit_of N).nodes at no_node (omega arith)
            ∙ ap₂ (λ (n : NodeOf) (list : List NodeOf). n ∷ list)
            (node_over_nets q.names (length t.names) at h (node_of_gate o h t) long below there (ap (λ (list : List NamedNode). slice_index_or list at no_named) is ∙ node_here o h t q came) (reads_stay t q h all below) refl)
            (ap (λ (k : ℕ). drop k (circuit_of N).nodes) behind ∙ later)

  -- a gate that stands by names stands in the circuit
  module _ (P : CodePlan) (lo : ℕ) (word texts : List (List ℕ)) (monitored_are : monitored (circuit_of N) P ≡ nets_of N word) where
    -- the node of a gate stands in the circuit
    node_from : (place : ℕ) (g : CheckGate) → place < length texts → ReadsGatesBelow place g → IsNodeBehind N.nodes lo (named_gate texts place g)
        → IsNodeFrom (circuit_of N) lo (slice_index (nets_of N texts) place) (cover_of g) (map (slice_index (nets_of N texts)) (reads_of g))
    node_from place g there below h =
        let low = h.within in
        record {
          driver = h.place;
          is_node = omega (arith, low, length-map N.nodes (λ (n : NamedNode). node_over n.cover (map (place_of_text (drivers N)) n.reads)));
          behind = h.behind;
          drives = get_or-map (place_of_text (drivers N)) texts place [] 0 there ∙ net_of_node h.place (named_gate texts place g) h.within h.is_node;
          is_gate = node_over_nets texts place h.place g (named_gate texts place g) (omega arith) below h.within h.is_node refl refl;
        }

    -- and so does a gate, by its node or as a place of the word
    gate_stands : (place : ℕ) (g : CheckGate) → place < length texts → ReadsGatesBelow place g → StandsByName N.nodes lo word texts place g → Stands (circuit_of N) P lo (slice_index (nets_of N texts)) place g
    gate_stands place (gate.Word p) there below h = (
      omega (arith, h.0, ap length monitored_are, length-map word (place_of_text (drivers N))),
      get_or-map (place_of_text (drivers N)) texts place [] 0 there ∙ ap (place_of_text (drivers N)) h.1
          ∙ sym (get_or-map (place_of_text (drivers N)) word p [] 0 h.0) ∙ ap (λ (list : List ℕ). slice_index list p) (sym monitored_are),
    )
    gate_stands place g there below h = node_from place g there below h

module _ (p : PartsOf) (word : List (List ℕ)) (made : GateList) (rails : Option RailNames) (over : IsOver (length word) made) (N : Named) (distinct : IsNumbering (drivers N))
    (nodes : N.nodes ≡ (with_checker p word made rails).parts.named.nodes) (P : CodePlan) (monitored_are : monitored (circuit_of N) P ≡ map (place_of_text (drivers N)) word) where
  -- the nets of the texts of a checker's gates
  pub checker_nets : map (place_of_text (drivers N)) (with_checker p word made rails).names ≡ gate_nets (monitored (circuit_of N) P) (node_net (circuit_of N) (length p.named.nodes)) made.gates
  unfolding with_checker
  checker_nets =
      gates_nets N distinct word (given_text p.names made rails) made.gates (record { parts = p; names = [] }) nodes (checker_in_order (length word) made over)
      ∙ ap (λ (list : List ℕ). gate_nets list (node_net (circuit_of N) (length p.named.nodes)) made.gates) (sym monitored_are)

  -- the nodes after those that stood, over the nets of the gates
  checker_nodes_are : drop (length p.named.nodes) (circuit_of N).nodes ≡ gate_nodes (nets_of N (with_checker p word made rails).names) made.gates
  unfolding with_checker
  checker_nodes_are = gates_nodes N distinct word (given_text p.names made rails) made.gates (record { parts = p; names = [] }) nodes (checker_in_order (length word) made over)

  -- the net at a place is that of the text there
  net_of_text : (place : ℕ) → place < length made.gates → slice_index (nets_of N (with_checker p word made rails).names) place ≡ place_of_text (drivers N) (text_at (with_checker p word made rails).names place)
  net_of_text place there = get_or-map (place_of_text (drivers N)) (with_checker p word made rails).names place [] 0 (omega (arith, checker_counted p word made rails))

  -- all gates stand in the circuit
  all_stand : AllStand (circuit_of N) P (length p.named.nodes) (slice_index (nets_of N (with_checker p word made rails).names)) made.gates
  all_stand place there =
      let q = with_checker p word made rails in
      let g = slice_index_or made.gates place (gate.Word 0) in
      gate_stands N distinct P (length p.named.nodes) word q.names monitored_are place g (omega (arith, checker_counted p word made rails)) (over.ordered place there)
      (subst (λ (list : List NamedNode). StandsByName list (length p.named.nodes) word q.names place g) (sym nodes) (checker_stands_by_name p word made rails over place there))

  module _ (first : P.rail1 ≡ place_of_text (drivers N) (text_at (with_checker p word made rails).names made.rail1)) (second : P.rail2 ≡ place_of_text (drivers N) (text_at (with_checker p word made rails).names made.rail2)) where
    -- each gate of the checker stands in the circuit
    pub checker_stands : StandsFrom (circuit_of N) P (length p.named.nodes) made
    checker_stands = record {
      net = slice_index (nets_of N (with_checker p word made rails).names);
      all = all_stand;
      first = net_of_text made.rail1 over.first_within ∙ sym first;
      second = net_of_text made.rail2 over.second_within ∙ sym second;
    }

    -- and the circuit ends in the checker's gates
    pub circuit_ends : EndsInGates (circuit_of N) P (length p.named.nodes) made
    circuit_ends = record {
      nodes = checker_nodes_are ∙ ap (λ (nets : List ℕ). gate_nodes nets made.gates) checker_nets;
      first = ap (λ (nets : List ℕ). slice_index nets made.rail1) (sym checker_nets) ∙ net_of_text made.rail1 over.first_within ∙ sym first;
      second = ap (λ (nets : List ℕ). slice_index nets made.rail2) (sym checker_nets) ∙ net_of_text made.rail2 over.second_within ∙ sym second;
    }
