-- Where the gates of a checker stand in a netlist by names: a place of the word has the word's text, and any other gate is a node
-- over the texts of the gates that it reads.
use Rattle.std.proofs.Common.{◌≡◌, ℕ, zero, suc, ◌+◌, ◌<◌, ◌≤◌, List, [], ◌∷◌, ◌++◌, map, length, slice_index_or, Option, Some, refl, sym, ◌∙◌, ap, ap₂, subst, arith, length-append}
use Rattle.std.proofs.lemmas.List.{get_or_append_left, get_or_at, append_assoc}
use Rattle.tsc_bits.proofs.Lists.{map_agrees}
use Rattle.tsc_net.specs.Named.{Named, NamedNode, no_named}
use Rattle.tsc_net.specs.Names.{text_at}
use Rattle.tsc_net.specs.Parts.{PartsOf}
use Rattle.code_checkers.specs.declared.gate.CheckGate.{CheckGate}
use Rattle.code_checkers.specs.declared.gate.CheckGate.TheVariants as gate
use Rattle.code_checkers.specs.Gates.{ReadsBelow as ReadsGatesBelow}
use Rattle.code_checkers.specs.GateList.{GateList}
use Rattle.code_checkers.specs.Nodes.{cover_of, reads_of}
use Rattle.net_writing.specs.CheckerParts.{GateParts, out_text, with_gate, with_gate_node, with_gates, with_checker, given_text, IsOver}
use Rattle.net_writing.specs.declared.checker_writing.RailNames.{RailNames}
use Rattle.net_writing.proofs.CheckerSteps.{reads_below, gates_below}
use Rattle.net_writing.proofs.CheckerShape.{node_of_gate, GatesCame, node_named, more_named, more_texts, gates_came, one_text, ReadInOrder, checker_in_order}

-- a node from place lo on is this one
pub record IsNodeBehind (nodes : List NamedNode) (lo : ℕ) (n : NamedNode) : Type 0 where
  pub place : ℕ
  pub within : place < length nodes
  pub behind : lo ≤ place
  pub is_node : slice_index_or nodes place no_named ≡ n

-- the node of the gate at a place, over the texts of all gates
abbrev pub named_gate : List (List ℕ) → ℕ → CheckGate → NamedNode
named_gate texts place g = record { reads = map (text_at texts) (reads_of g); out = text_at texts place; cover = cover_of g }

-- the gate at a place stands: its text is that of its place of the word, or a node from place lo on is its own
abbrev pub StandsByName : List NamedNode → ℕ → List (List ℕ) → List (List ℕ) → ℕ → CheckGate → Type 0
StandsByName nodes lo word texts place (gate.Word p) = (p < length word) × (text_at texts place ≡ text_at word p)
StandsByName nodes lo word texts place g = IsNodeBehind nodes lo (named_gate texts place g)

-- a text that was there stays
pub text_stays : (s q : GateParts) (place : ℕ) → GatesCame s q → place < length s.names → text_at q.names place ≡ text_at s.names place
text_stays s q place h low = ap (λ (list : List (List ℕ)). text_at list place) h.names ∙ get_or_append_left s.names h.texts [] place low

-- what a gate reads stays
pub reads_stay : (s q : GateParts) (g : CheckGate) → GatesCame s q → ReadsGatesBelow (length s.names) g → map (text_at s.names) (reads_of g) ≡ map (text_at q.names) (reads_of g)
reads_stay s q g h below =
    map_agrees (λ place. place < length s.names) (text_at s.names) (text_at q.names) (λ place low. sym (text_stays s q place h low)) (reads_of g) (reads_below (length s.names) g below)

-- after a gate's node
module _ (given : Option (List ℕ)) (g : CheckGate) (s q : GateParts) (h : GatesCame (with_gate_node given g s) q) where
  -- the node stands after those that stood
  pub nodes_split : q.parts.named.nodes ≡ s.parts.named.nodes ++ node_of_gate given g s ∷ h.added
  nodes_split = ap (λ (N : Named). N.nodes) (more_named g s q given h.added h.named)

  -- at the place after those that stood is the gate's node
  pub node_here : slice_index_or q.parts.named.nodes (length s.parts.named.nodes) no_named ≡ node_of_gate given g s
  node_here =
      ap (λ (nodes : List NamedNode). slice_index_or nodes (length s.parts.named.nodes) no_named) nodes_split
      ∙ get_or_at s.parts.named.nodes (node_of_gate given g s) h.added no_named (length s.parts.named.nodes) refl

  -- which is a place of the netlist
  pub node_within : length s.parts.named.nodes < length q.parts.named.nodes
  node_within = omega (arith, ap length nodes_split, length-append s.parts.named.nodes (node_of_gate given g s ∷ h.added))

  -- the gate's text is what its node drives
  pub text_here : text_at q.names (length s.names) ≡ out_text s.parts given
  text_here =
      ap (λ (list : List (List ℕ)). text_at list (length s.names)) (more_texts g s q given h.texts h.names)
      ∙ get_or_at s.names (out_text s.parts given) h.texts [] (length s.names) refl

  -- over the texts of all gates it is the gate's node as well
  came_behind : GatesCame s q → ReadsGatesBelow (length s.names) g → node_of_gate given g s ≡ named_gate q.names (length s.names) g
  came_behind all below =
      ap₂ (λ (reads : List (List ℕ)) (out : List ℕ). let n : NamedNode = record { reads = reads; out = out; cover = cover_of g } in n) (reads_stay s q g all below) (sym text_here)

  -- the gate stands
  pub node_stands : (lo : ℕ) → lo ≤ length s.parts.named.nodes → GatesCame s q → ReadsGatesBelow (length s.names) g → IsNodeBehind q.parts.named.nodes lo (named_gate q.names (length s.names) g)
  node_stands lo low all below = record { place = length s.parts.named.nodes; within = node_within; behind = low; is_node = node_here ∙ came_behind all below }

module _ (word : List (List ℕ)) (given : ℕ → Option (List ℕ)) where
  -- the text of a place of the word
  word_text : (place : ℕ) (gates : List CheckGate) (s : GateParts) → text_at (with_gates word given (gate.Word place ∷ gates) s).names (length s.names) ≡ text_at word place
  word_text place gates s =
      let h : GatesCame (record { parts = s.parts; names = s.names ++ text_at word place ∷ [] }) (with_gates word given (gate.Word place ∷ gates) s) = gates_came word given gates (with_gate word (given (length s.names)) (gate.Word place) s) in
      ap (λ (list : List (List ℕ)). text_at list (length s.names)) (h.names ∙ append_assoc s.names (text_at word place ∷ []) h.texts)
      ∙ get_or_at s.names (text_at word place) h.texts [] (length s.names) refl

  -- nodes only come
  pub nodes_rise : (g : CheckGate) (s : GateParts) → length s.parts.named.nodes ≤ length (with_gate word (given (length s.names)) g s).parts.named.nodes
  nodes_rise (gate.Word place) s = omega arith
  nodes_rise g s =
      omega (arith, ap (λ (N : Named). length N.nodes) (node_named (given (length s.names)) g s), length-append s.parts.named.nodes (node_of_gate (given (length s.names)) g s ∷ []))

  -- the gates after a gate read in order
  pub order_behind : (g : CheckGate) (gates : List CheckGate) (s : GateParts) → ReadInOrder (length word) (length s.names + 1) gates → ReadInOrder (length word) (length (with_gate word (given (length s.names)) g s).names) gates
  order_behind g gates s order = subst (λ (n : ℕ). ReadInOrder (length word) n gates) (sym (one_text word given g s)) order

  -- each gate stands by names
  pub gates_stand : (gates : List CheckGate) (s : GateParts) (lo : ℕ) → lo ≤ length s.parts.named.nodes → ReadInOrder (length word) (length s.names) gates → (i : ℕ) → i < length gates
      → StandsByName (with_gates word given gates s).parts.named.nodes lo word (with_gates word given gates s).names (length s.names + i) (slice_index_or gates i (gate.Word 0))
  gates_stand [] s lo low order i there = absurd (omega arith)
  gates_stand (gate.Word place ∷ gates) s lo low order zero there =
      let e : length s.names ≡ length s.names + 0 = omega arith in
      let q = with_gates word given (gate.Word place ∷ gates) s in
      subst (λ (k : ℕ). StandsByName q.parts.named.nodes lo word q.names k (gate.Word place)) e (order.0, word_text place gates s)
  gates_stand (g ∷ gates) s lo low order zero there =
      let e : length s.names ≡ length s.names + 0 = omega arith in
      let q = with_gates word given (g ∷ gates) s in
      subst (λ (k : ℕ). IsNodeBehind q.parts.named.nodes lo (named_gate q.names k g)) e
      (node_stands (given (length s.names)) g s q (gates_came word given gates (with_gate word (given (length s.names)) g s)) lo low (gates_came word given (g ∷ gates) s) (gates_below (length s.names) (length word) g order.0))
  gates_stand (g ∷ gates) s lo low order (suc i) there =
      let next = with_gate word (given (length s.names)) g s in
      let e : length next.names + i ≡ length s.names + suc i = omega (arith, one_text word given g s) in
      let q = with_gates word given (g ∷ gates) s in
      subst (λ (k : ℕ). StandsByName q.parts.named.nodes lo word q.names k (slice_index_or gates i (gate.Word 0))) e
      (gates_stand gates next lo (omega (arith, nodes_rise g s)) (order_behind g gates s order.1) i (omega arith))

  -- a gate that is no place of the word has the text that is given to it
  pub given_stands : (gates : List CheckGate) (s : GateParts) (i : ℕ) (text : List ℕ) → i < length gates → ((p : ℕ) → slice_index_or gates i (gate.Word 0) ≡ gate.Word p → ⊥) → given (length s.names + i) ≡ Some text
      → text_at (with_gates word given gates s).names (length s.names + i) ≡ text
  given_stands [] s i text there other is = absurd (omega arith)
  given_stands (gate.Word place ∷ gates) s zero text there other is = absurd (other place refl)
  given_stands (g ∷ gates) s zero text there other is =
      let e : length s.names + 0 ≡ length s.names = omega arith in
      let q = with_gates word given (g ∷ gates) s in
      ap (text_at q.names) e ∙ text_here (given (length s.names)) g s q (gates_came word given gates (with_gate word (given (length s.names)) g s))
      ∙ ap (out_text s.parts) (ap given (sym e) ∙ is)
  given_stands (g ∷ gates) s (suc i) text there other is =
      let next = with_gate word (given (length s.names)) g s in
      let e : length s.names + suc i ≡ length next.names + i = omega (arith, one_text word given g s) in
      let q = with_gates word given (g ∷ gates) s in
      ap (text_at q.names) e ∙ given_stands gates next i text (omega arith) other (ap given (sym e) ∙ is)

module _ (p : PartsOf) (word : List (List ℕ)) (made : GateList) (rails : Option RailNames) where
  -- each gate of a checker stands after the nodes that stood
  pub checker_stands_by_name : IsOver (length word) made → (place : ℕ) → place < length made.gates
      → StandsByName (with_checker p word made rails).parts.named.nodes (length p.named.nodes) word (with_checker p word made rails).names place (slice_index_or made.gates place (gate.Word 0))
  unfolding with_checker
  checker_stands_by_name over place there =
      let e : 0 + place ≡ place = omega arith in
      let begun : GateParts = record { parts = p; names = [] } in
      let q = with_gates word (given_text p.names made rails) made.gates begun in
      subst (λ (k : ℕ). StandsByName q.parts.named.nodes (length p.named.nodes) word q.names k (slice_index_or made.gates place (gate.Word 0))) e
      (gates_stand word (given_text p.names made rails) made.gates begun (length p.named.nodes) (omega arith) (checker_in_order (length word) made over) place there)

  -- and so has a rail that is no place of the word the text that is given to it
  pub given_text_stands : (place : ℕ) (text : List ℕ) → place < length made.gates → ((q : ℕ) → slice_index_or made.gates place (gate.Word 0) ≡ gate.Word q → ⊥) → given_text p.names made rails place ≡ Some text
      → text_at (with_checker p word made rails).names place ≡ text
  unfolding with_checker
  given_text_stands place text there other is =
      let e : 0 + place ≡ place = omega arith in
      let begun : GateParts = record { parts = p; names = [] } in
      let q = with_gates word (given_text p.names made rails) made.gates begun in
      ap (text_at q.names) (sym e) ∙ given_stands word (given_text p.names made rails) made.gates begun place text there other (ap (given_text p.names made rails) e ∙ is)
