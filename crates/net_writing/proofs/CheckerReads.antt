-- What the nodes of a checker read: texts of the word, and what earlier nodes of the checker drive.
use Rattle.std.proofs.Common.{◌≡◌, ℕ, ◌+◌, ◌<◌, ◌≤◌, ◌⊎◌, inl, inr, List, [], ◌∷◌, ◌++◌, length, slice_index, slice_index_or, Contains, Option, sym, ◌∙◌, ap, subst, arith, length-append}
use Rattle.std.proofs.lemmas.Bool.{cases_lt}
use Rattle.std.proofs.lemmas.List.{get_or_append_left, get_or_at, get_or-map, length-map}
use Rattle.std.proofs.lemmas.List.Elements.{All-get_or, Contains-get_or}
use Rattle.tsc_net.specs.Named.{Named, NamedNode, no_named}
use Rattle.tsc_net.specs.Names.{text_at}
use Rattle.tsc_net.specs.Parts.{PartsOf}
use Rattle.code_checkers.specs.declared.gate.CheckGate.{CheckGate}
use Rattle.code_checkers.specs.declared.gate.CheckGate.TheVariants as gate
use Rattle.code_checkers.specs.Gates.{ReadsBelow as ReadsGatesBelow}
use Rattle.code_checkers.specs.GateList.{GateList}
use Rattle.code_checkers.specs.Nodes.{reads_of}
use Rattle.net_writing.specs.CheckerParts.{GateParts, out_text, with_gate, with_gate_node, with_gates, with_checker, given_text, IsOver}
use Rattle.net_writing.specs.declared.checker_writing.RailNames.{RailNames}
use Rattle.net_writing.proofs.CheckerSteps.{reads_below, gates_below}
use Rattle.net_writing.proofs.CheckerShape.{node_of_gate, GatesCame, node_named, node_texts, gates_came, ReadInOrder, checker_in_order}
use Rattle.net_writing.proofs.CheckerNames.{node_here, nodes_rise, order_behind}

-- the text is one of the word, or what a node from place lo on and before place k drives
abbrev pub IsFedBefore : List NamedNode → ℕ → List (List ℕ) → ℕ → List ℕ → Type 0
IsFedBefore nodes lo word k text = Contains word text ⊎ ((j : ℕ) × (lo ≤ j) × (j < k) × ((slice_index_or nodes j no_named).out ≡ text))

-- each node from one place on reads only texts of the word, and what nodes from place lo on and before its own drive
abbrev pub ReadFedTexts : List NamedNode → ℕ → List (List ℕ) → ℕ → Type 0
ReadFedTexts nodes lo word from =
    (k pin : ℕ) → from ≤ k → k < length nodes → pin < length (slice_index_or nodes k no_named).reads → IsFedBefore nodes lo word k (text_at (slice_index_or nodes k no_named).reads pin)

-- each text of a gate so far is one of the word, or what a node so far drives
abbrev TextsAreFed : List NamedNode → ℕ → List (List ℕ) → GateParts → Type 0
TextsAreFed nodes lo word s = (i : ℕ) → i < length s.names → IsFedBefore nodes lo word (length s.parts.named.nodes) (text_at s.names i)

-- what is fed before a place is fed before a later one
fed_later : (nodes : List NamedNode) (lo : ℕ) (word : List (List ℕ)) (k m : ℕ) (text : List ℕ) → k ≤ m → IsFedBefore nodes lo word k text → IsFedBefore nodes lo word m text
fed_later nodes lo word k m text le (inl c) = inl c
fed_later nodes lo word k m text le (inr d) = inr (d.0, d.1, later d.0 d.2, d.3)
  where
    later : (j : ℕ) → j < k → j < m
    later j low = omega arith

-- one text more
fed_push : (nodes : List NamedNode) (lo : ℕ) (word : List (List ℕ)) (k m : ℕ) (names : List (List ℕ)) (text : List ℕ) → k ≤ m
    → ((i : ℕ) → i < length names → IsFedBefore nodes lo word k (text_at names i)) → IsFedBefore nodes lo word m text
    → (i : ℕ) → i < length (names ++ text ∷ []) → IsFedBefore nodes lo word m (text_at (names ++ text ∷ []) i)
fed_push nodes lo word k m names text le fed new i low = elim (cases_lt i (length names)) [
  | inl before ↦ subst (IsFedBefore nodes lo word m) (sym (get_or_append_left names (text ∷ []) [] i before)) (fed_later nodes lo word k m (text_at names i) le (fed i before))
  | inr after ↦ (
      let e : length names ≡ i = omega (arith, length-append names (text ∷ [])) in
      subst (IsFedBefore nodes lo word m) (sym (get_or_at names text [] [] i e)) new)
]

-- a node more, over gates whose texts are fed
module _ (given : Option (List ℕ)) (g : CheckGate) (s q : GateParts) (h : GatesCame (with_gate_node given g s) q) (lo : ℕ) (word : List (List ℕ)) (low : lo ≤ length s.parts.named.nodes)
    (below : ReadsGatesBelow (length s.names) g) (fed : TextsAreFed q.parts.named.nodes lo word s) where
  -- what it drives is fed after it
  fed_texts : TextsAreFed q.parts.named.nodes lo word (with_gate_node given g s)
  fed_texts i there =
      let counted : length (with_gate_node given g s).parts.named.nodes ≡ length s.parts.named.nodes + 1 =
      ap (λ (N : Named). length N.nodes) (node_named given g s) ∙ length-append s.parts.named.nodes (node_of_gate given g s ∷ []) in
      let new : IsFedBefore q.parts.named.nodes lo word (length (with_gate_node given g s).parts.named.nodes) (out_text s.parts given) =
      inr (length s.parts.named.nodes, low, omega arith, ap (λ (n : NamedNode). n.out) (node_here given g s q h)) in
      subst (λ (names : List (List ℕ)). IsFedBefore q.parts.named.nodes lo word (length (with_gate_node given g s).parts.named.nodes) (text_at names i)) (sym (node_texts given g s))
      (fed_push q.parts.named.nodes lo word (length s.parts.named.nodes) (length (with_gate_node given g s).parts.named.nodes) s.names (out_text s.parts given) (omega arith) fed new i
      (subst (λ (names : List (List ℕ)). i < length names) (node_texts given g s) there))

  -- what it reads is fed before it
  fed_pin : (pin : ℕ) → pin < length (node_of_gate given g s).reads → IsFedBefore q.parts.named.nodes lo word (length s.parts.named.nodes) (text_at (node_of_gate given g s).reads pin)
  fed_pin pin there =
      let within : pin < length (reads_of g) = omega (arith, length-map (reads_of g) (text_at s.names)) in
      let place : slice_index (reads_of g) pin < length s.names = All-get_or (λ (n : ℕ). n < length s.names) (reads_of g) pin 0 within (reads_below (length s.names) g below) in
      subst (IsFedBefore q.parts.named.nodes lo word (length s.parts.named.nodes)) (sym (get_or-map (text_at s.names) (reads_of g) pin 0 [] within)) (fed (slice_index (reads_of g) pin) place)

  -- where the nodes after it read what is fed, so do they all
  node_fed : (TextsAreFed q.parts.named.nodes lo word (with_gate_node given g s) → ReadFedTexts q.parts.named.nodes lo word (length (with_gate_node given g s).parts.named.nodes))
      → ReadFedTexts q.parts.named.nodes lo word (length s.parts.named.nodes)
  node_fed rest k pin from within there = elim (cases_lt (length s.parts.named.nodes) k) [
    | inl behind ↦ rest fed_texts k pin (counted k behind) within there
    | inr here ↦ at k (omega arith) there
  ]
    where
      counted : (m : ℕ) → length s.parts.named.nodes < m → length (with_gate_node given g s).parts.named.nodes ≤ m
      counted m l = omega (arith, ap (λ (N : Named). length N.nodes) (node_named given g s), length-append s.parts.named.nodes (node_of_gate given g s ∷ []))

      at : (m : ℕ) → length s.parts.named.nodes ≡ m → pin < length (slice_index_or q.parts.named.nodes m no_named).reads → IsFedBefore q.parts.named.nodes lo word m (text_at (slice_index_or q.parts.named.nodes m no_named).reads pin)
      at m e l =
          let is : node_of_gate given g s ≡ slice_index_or q.parts.named.nodes m no_named = sym (node_here given g s q h) ∙ ap (λ (j : ℕ). slice_index_or q.parts.named.nodes j no_named) e in
          subst (λ (n : NamedNode). IsFedBefore q.parts.named.nodes lo word m (text_at n.reads pin)) is
          (subst (λ (j : ℕ). IsFedBefore q.parts.named.nodes lo word j (text_at (node_of_gate given g s).reads pin)) e (fed_pin pin (subst (λ (n : NamedNode). pin < length n.reads) (sym is) l)))

module _ (word : List (List ℕ)) (given : ℕ → Option (List ℕ)) where
  -- the nodes of gates read what is fed
  pub gates_read : (gates : List CheckGate) (s : GateParts) (lo : ℕ) → lo ≤ length s.parts.named.nodes → ReadInOrder (length word) (length s.names) gates → TextsAreFed (with_gates word given gates s).parts.named.nodes lo word s
      → ReadFedTexts (with_gates word given gates s).parts.named.nodes lo word (length s.parts.named.nodes)
  gates_read [] s lo low order fed = λ k pin from within there. absurd (omega arith)
  gates_read (gate.Word place ∷ gates) s lo low order fed =
      let next : GateParts = record { parts = s.parts; names = s.names ++ text_at word place ∷ [] } in
      let nodes : List NamedNode = (with_gates word given gates next).parts.named.nodes in
      gates_read gates next lo low (order_behind word given (gate.Word place) gates s order.1)
      (fed_push nodes lo word (length s.parts.named.nodes) (length s.parts.named.nodes) s.names (text_at word place) (omega arith) fed (inl (Contains-get_or word place [] order.0)))
  gates_read (g ∷ gates) s lo low order fed =
      let next = with_gate word (given (length s.names)) g s in
      node_fed (given (length s.names)) g s (with_gates word given (g ∷ gates) s) (gates_came word given gates next) lo word low (gates_below (length s.names) (length word) g order.0) fed
      (gates_read gates next lo (omega (arith, nodes_rise word given g s)) (order_behind word given g gates s order.1))

module _ (p : PartsOf) (word : List (List ℕ)) (made : GateList) (rails : Option RailNames) where
  -- each node of a checker reads only texts of the word, and what earlier nodes of the checker drive
  pub checker_reads : IsOver (length word) made → ReadFedTexts (with_checker p word made rails).parts.named.nodes (length p.named.nodes) word (length p.named.nodes)
  unfolding with_checker
  checker_reads over =
      gates_read word (given_text p.names made rails) made.gates (record { parts = p; names = [] }) (length p.named.nodes) (omega arith) (checker_in_order (length word) made over) (λ i there. absurd (omega arith))
