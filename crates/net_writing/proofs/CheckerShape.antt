-- What the gates of a checker add to parts: nodes after those that stood, fresh names after those that were there, and a text for
-- each gate.
use Rattle.std.proofs.Common.{◌≡◌, ℕ, suc, ◌+◌, ◌<◌, ◌≤◌, List, [], ◌∷◌, ◌++◌, map, length, slice_index_or, All, Option, Some, None, refl, sym, ◌∙◌, ap, subst, arith, append_assoc, length-append}
use Rattle.std.specs.Fn.{iterate}
use Rattle.std.proofs.lemmas.List.{append-nil, length-map, get_or_default}
use Rattle.std.proofs.lemmas.List.Elements.{All-nil, All-cons}
use Rattle.tsc_net.specs.Named.{Named, NamedNode}
use Rattle.tsc_net.specs.Names.{text_at}
use Rattle.tsc_net.specs.Parts.{PartsOf, with_fresh, next_fresh}
use Rattle.code_checkers.specs.declared.gate.CheckGate.{CheckGate}
use Rattle.code_checkers.specs.declared.gate.CheckGate.TheVariants as gate
use Rattle.code_checkers.specs.GateList.{GateList}
use Rattle.code_checkers.specs.Nodes.{cover_of, reads_of}
use Rattle.net_writing.specs.CheckerParts.{GateParts, out_text, with_gate, with_gate_node, with_gates, with_checker, given_text, ReadsBelow, IsOver}
use Rattle.net_writing.specs.declared.checker_writing.RailNames.{RailNames}
use Rattle.net_writing.proofs.CheckerSteps.{over_at}
use Rattle.tsc_net.proofs.FreshLemmas.{fresh_alike}

-- the netlist with some nodes more
abbrev pub with_nodes : Named → List NamedNode → Named
with_nodes N added = record N { nodes = N.nodes ++ added }

-- the node of a gate over the texts of the gates so far
abbrev pub node_of_gate : Option (List ℕ) → CheckGate → GateParts → NamedNode
node_of_gate given g s = record { reads = map (text_at s.names) (reads_of g); out = out_text s.parts given; cover = cover_of g }

-- nodes of at most two pins and so many fresh names came, and a text for each gate
pub record GatesCame (old new : GateParts) : Type 0 where
  pub added : List NamedNode
  pub more : List (List ℕ)
  pub texts : List (List ℕ)
  pub count : ℕ
  pub named : new.parts.named ≡ with_nodes old.parts.named added
  pub pins : All (λ n. length n.reads ≤ 2) added
  pub parts_names : new.parts.names ≡ old.parts.names ++ more
  pub fresh : new.parts.names ≡ (iterate with_fresh count old.parts).names
  pub next : new.parts.fresh ≡ (iterate with_fresh count old.parts).fresh
  pub names : new.names ≡ old.names ++ texts

-- a node more is the gate's, with the text that it drives; the names are those with the text that it drives, where that is fresh
pub node_named : (given : Option (List ℕ)) (g : CheckGate) (s : GateParts) → (with_gate_node given g s).parts.named ≡ with_nodes s.parts.named (node_of_gate given g s ∷ [])
unfolding with_gate_node
node_named None g s = refl
node_named (Some text) g s = refl

-- a gate's text is what its node drives
pub node_texts : (given : Option (List ℕ)) (g : CheckGate) (s : GateParts) → (with_gate_node given g s).names ≡ s.names ++ out_text s.parts given ∷ []
unfolding with_gate_node
node_texts given g s = refl

-- where no text is given, the next fresh name comes
pub fresh_names : (g : CheckGate) (s : GateParts) → (with_gate_node None g s).parts.names ≡ s.parts.names ++ next_fresh s.parts ∷ []
unfolding with_gate_node
fresh_names g s = refl

-- and fresh names go on after it
pub fresh_next : (g : CheckGate) (s : GateParts) → (with_gate_node None g s).parts.fresh ≡ (with_fresh s.parts).fresh
unfolding with_gate_node
fresh_next g s = refl

-- where a text is given, no name comes
pub given_names : (text : List ℕ) (g : CheckGate) (s : GateParts) → (with_gate_node (Some text) g s).parts.names ≡ s.parts.names
unfolding with_gate_node
given_names text g s = refl

-- and fresh names go on where they did
pub given_next : (text : List ℕ) (g : CheckGate) (s : GateParts) → (with_gate_node (Some text) g s).parts.fresh ≡ s.parts.fresh
unfolding with_gate_node
given_next text g s = refl

-- no gate reads more than two places
two_at_most : (g : CheckGate) → length (reads_of g) ≤ 2
two_at_most (gate.Word place) = omega arith
two_at_most _ = omega arith

-- no gate more
came_none : (s : GateParts) → GatesCame s s
came_none s = record {
  added = [];
  more = [];
  texts = [];
  count = 0;
  named = ap (λ (nodes : List NamedNode). let N = s.parts.named in let M : Named = record N { nodes = nodes } in M) (sym (append-nil s.parts.named.nodes));
  pins = All-nil (λ (n : NamedNode). length n.reads ≤ 2);
  parts_names = sym (append-nil s.parts.names);
  fresh = refl;
  next = refl;
  names = sym (append-nil s.names);
}

-- after a place of the word
came_word : (s q : GateParts) (text : List ℕ) → GatesCame (record { parts = s.parts; names = s.names ++ text ∷ [] }) q → GatesCame s q
came_word s q text h = record {
  added = h.added;
  more = h.more;
  texts = text ∷ h.texts;
  count = h.count;
  named = h.named;
  pins = h.pins;
  parts_names = h.parts_names;
  fresh = h.fresh;
  next = h.next;
  names = h.names ∙ append_assoc s.names (text ∷ []) h.texts;
}

-- after another gate: its node is the first that came, and its text too
module _ (g : CheckGate) (s q : GateParts) where
  -- its node is the first that came
  pub more_named : (given : Option (List ℕ)) (added : List NamedNode) → q.parts.named ≡ with_nodes (with_gate_node given g s).parts.named added → q.parts.named ≡ with_nodes s.parts.named (node_of_gate given g s ∷ added)
  more_named given added is =
      is ∙ ap (λ (N : Named). with_nodes N added) (node_named given g s)
      ∙ ap (λ (nodes : List NamedNode). let N = s.parts.named in let M : Named = record N { nodes = nodes } in M) (append_assoc s.parts.named.nodes (node_of_gate given g s ∷ []) added)

  -- which has two pins at most
  more_pins : (given : Option (List ℕ)) (added : List NamedNode) → All (λ n. length n.reads ≤ 2) added → All (λ n. length n.reads ≤ 2) (node_of_gate given g s ∷ added)
  more_pins given added all = All-cons (λ (n : NamedNode). length n.reads ≤ 2) (node_of_gate given g s) added (omega (arith, length-map (reads_of g) (text_at s.names), two_at_most g)) all

  -- and its text is the first that came
  pub more_texts : (given : Option (List ℕ)) (texts : List (List ℕ)) → q.names ≡ (with_gate_node given g s).names ++ texts → q.names ≡ s.names ++ out_text s.parts given ∷ texts
  more_texts given texts is = is ∙ ap (λ (list : List (List ℕ)). list ++ texts) (node_texts given g s) ∙ append_assoc s.names (out_text s.parts given ∷ []) texts

  -- a gate that is no place of the word, and some gates more
  came_node : (given : Option (List ℕ)) → GatesCame (with_gate_node given g s) q → GatesCame s q
  came_node None h = record {
    added = node_of_gate None g s ∷ h.added;
    more = next_fresh s.parts ∷ h.more;
    texts = next_fresh s.parts ∷ h.texts;
    count = suc h.count;
    named = more_named None h.added h.named;
    pins = more_pins None h.added h.pins;
    parts_names = h.parts_names ∙ ap (λ (list : List (List ℕ)). list ++ h.more) (fresh_names g s) ∙ append_assoc s.parts.names (next_fresh s.parts ∷ []) h.more;
    fresh = h.fresh ∙ (fresh_alike h.count (with_gate_node None g s).parts (with_fresh s.parts) (fresh_names g s) (fresh_next g s)).0;
    next = h.next ∙ (fresh_alike h.count (with_gate_node None g s).parts (with_fresh s.parts) (fresh_names g s) (fresh_next g s)).1;
    names = more_texts None h.texts h.names;
  }
  came_node (Some text) h = record {
    added = node_of_gate (Some text) g s ∷ h.added;
    more = h.more;
    texts = text ∷ h.texts;
    count = h.count;
    named = more_named (Some text) h.added h.named;
    pins = more_pins (Some text) h.added h.pins;
    parts_names = h.parts_names ∙ ap (λ (list : List (List ℕ)). list ++ h.more) (given_names text g s);
    fresh = h.fresh ∙ (fresh_alike h.count (with_gate_node (Some text) g s).parts s.parts (given_names text g s) (given_next text g s)).0;
    next = h.next ∙ (fresh_alike h.count (with_gate_node (Some text) g s).parts s.parts (given_names text g s) (given_next text g s)).1;
    names = more_texts (Some text) h.texts h.names;
  }

module _ (word : List (List ℕ)) (given : ℕ → Option (List ℕ)) where
  -- some gates more
  pub gates_came : (gates : List CheckGate) (s : GateParts) → GatesCame s (with_gates word given gates s)
  gates_came [] s = came_none s
  gates_came (gate.Word place ∷ gates) s =
      came_word s (with_gates word given (gate.Word place ∷ gates) s) (text_at word place) (gates_came gates (with_gate word (given (length s.names)) (gate.Word place) s))
  gates_came (g ∷ gates) s = came_node g s (with_gates word given (g ∷ gates) s) (given (length s.names)) (gates_came gates (with_gate word (given (length s.names)) g s))

  -- a gate has one text
  pub one_text : (g : CheckGate) (s : GateParts) → length (with_gate word (given (length s.names)) g s).names ≡ length s.names + 1
  one_text (gate.Word place) s = length-append s.names (text_at word place ∷ [])
  one_text g s = ap length (node_texts (given (length s.names)) g s) ∙ length-append s.names (out_text s.parts (given (length s.names)) ∷ [])

  -- so many gates have so many texts
  pub texts_counted : (gates : List CheckGate) (s : GateParts) → length (with_gates word given gates s).names ≡ length s.names + length gates
  texts_counted [] s = omega arith
  texts_counted (g ∷ gates) s = texts_counted gates (with_gate word (given (length s.names)) g s) ∙ omega (arith, one_text g s)

-- the parts with a checker hold what they held, followed by nodes of at most two pins and by so many fresh names, in order
pub record AddsChecker (old new : PartsOf) : Type 0 where
  pub added : List NamedNode
  pub more : List (List ℕ)
  pub count : ℕ
  pub nodes : new.named.nodes ≡ old.named.nodes ++ added
  pub names : new.names ≡ old.names ++ more
  pub fresh : new.names ≡ (iterate with_fresh count old).names
  pub next : new.fresh ≡ (iterate with_fresh count old).fresh
  pub pins : All (λ n. length n.reads ≤ 2) added
  pub model : new.named.model ≡ old.named.model
  pub inputs : new.named.inputs ≡ old.named.inputs
  pub outputs : new.named.outputs ≡ old.named.outputs
  pub latches : new.named.latches ≡ old.named.latches

module _ (p : PartsOf) (word : List (List ℕ)) (made : GateList) (rails : Option RailNames) where
  -- the gates of a checker come
  pub checker_came : GatesCame (record { parts = p; names = [] }) (with_checker p word made rails)
  unfolding with_checker
  checker_came = gates_came word (given_text p.names made rails) made.gates (record { parts = p; names = [] })

  -- what a checker adds to parts
  pub adds_checker : AddsChecker p (with_checker p word made rails).parts
  adds_checker = record {
    added = checker_came.added;
    more = checker_came.more;
    count = checker_came.count;
    nodes = ap (λ (N : Named). N.nodes) checker_came.named;
    names = checker_came.parts_names;
    fresh = checker_came.fresh;
    next = checker_came.next;
    pins = checker_came.pins;
    model = ap (λ (N : Named). N.model) checker_came.named;
    inputs = ap (λ (N : Named). N.inputs) checker_came.named;
    outputs = ap (λ (N : Named). N.outputs) checker_came.named;
    latches = ap (λ (N : Named). N.latches) checker_came.named;
  }

  -- each gate of a checker has a text
  pub checker_counted : length (with_checker p word made rails).names ≡ length made.gates
  unfolding with_checker
  checker_counted = texts_counted word (given_text p.names made rails) made.gates (record { parts = p; names = [] }) ∙ omega arith

-- each gate reads places of a word of this length, or gates before its own place; the first stands at place n
abbrev pub ReadInOrder : ℕ → ℕ → List CheckGate → Type 0
ReadInOrder words n [] = Unit {0}
ReadInOrder words n (g ∷ gates) = ReadsBelow words n g × ReadInOrder words (n + 1) gates

-- gates of which each reads what stands before its place read in order
pub in_order : (words n : ℕ) (gates : List CheckGate) → ((k : ℕ) → k < length gates → ReadsBelow words (n + k) (slice_index_or gates k (gate.Word 0))) → ReadInOrder words n gates
in_order words n [] h = tt
in_order words n (g ∷ gates) h = (subst (λ (m : ℕ). ReadsBelow words m g) first (h 0 (omega arith)), in_order words (n + 1) gates later)
  where
    first : n + 0 ≡ n
    first = omega arith

    later : (k : ℕ) → k < length gates → ReadsBelow words (n + 1 + k) (slice_index_or gates k (gate.Word 0))
    later k low = let e : n + suc k ≡ n + 1 + k = omega arith in subst (λ (m : ℕ). ReadsBelow words m (slice_index_or gates k (gate.Word 0))) e (h (suc k) (omega arith))

-- the gates of a checker read in order
pub checker_in_order : (words : ℕ) (made : GateList) → IsOver words made → ReadInOrder words 0 made.gates
checker_in_order words made over = in_order words 0 made.gates each
  where
    each : (k : ℕ) → k < length made.gates → ReadsBelow words (0 + k) (slice_index_or made.gates k (gate.Word 0))
    each k low =
        let e : k ≡ 0 + k = omega arith in
        let g = slice_index_or made.gates k (gate.Word 0) in
        subst (λ (m : ℕ). ReadsBelow words m g) e (over_at words made k g over low (get_or_default made.gates k (gate.Word 0) g low))
