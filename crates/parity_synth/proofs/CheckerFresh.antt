-- A checker whose rails are given no names has nodes that drive the next fresh names, in order.
use Rattle.std.proofs.Common.{◌≡◌, ℕ, suc, ◌+◌, ◌≤◌, List, [], ◌∷◌, ◌++◌, length, Option, None, Some, refl, arith}
use Rattle.tsc_net.specs.Named.{NamedNode}
use Rattle.tsc_net.specs.Names.{text_at}
use Rattle.tsc_net.specs.Parts.{PartsOf}
use Rattle.code_checkers.specs.declared.gate.CheckGate.{CheckGate}
use Rattle.code_checkers.specs.declared.gate.CheckGate.TheVariants as gate
use Rattle.code_checkers.specs.GateList.{GateList}
use Rattle.net_writing.specs.CheckerParts.{GateParts, with_gate, with_gate_node, with_gates, with_checker, given_text}
use Rattle.net_writing.proofs.CheckerShape.{node_of_gate, node_named, fresh_next}
use Rattle.parity_synth.proofs.FreshOrder.{IsFreshAt, AddsFresh, adds_none, adds_one, adds_joined}

-- the parts with at most so many nodes more, which drive the next fresh names
pub record HasFresh (number count most : ℕ) (p q : PartsOf) : Type 0 where
  pub added : List NamedNode
  pub adds : AddsFresh number count p q added
  pub few : length added ≤ most

-- the node of a gate that is given no name
one_gate : (number count : ℕ) (o : Option (List ℕ)) (g : CheckGate) (s : GateParts) → o ≡ None → IsFreshAt number count s.parts → AddsFresh number count s.parts (with_gate_node o g s).parts (node_of_gate o g s ∷ [])
one_gate number count None g s e at = adds_one number count s.parts (with_gate_node None g s).parts (node_of_gate None g s) at (node_named None g s) (fresh_next g s) refl
one_gate number count (Some text) g s e at = cc

-- and of more gates
more_gates : (number count most : ℕ) (o : Option (List ℕ)) (g : CheckGate) (s : GateParts) (q : PartsOf) → AddsFresh number count s.parts (with_gate_node o g s).parts (node_of_gate o g s ∷ [])
    → HasFresh number (count + 1) most (with_gate_node o g s).parts q → HasFresh number count (suc most) s.parts q
more_gates number count most o g s q one rest = record {
  added = node_of_gate o g s ∷ [] ++ rest.added;
  adds = adds_joined number count (count + 1) s.parts (with_gate_node o g s).parts q (node_of_gate o g s ∷ []) rest.added refl one rest.adds;
  few = let f = rest.few in omega (arith, f);
}

module _ (number : ℕ) (word : List (List ℕ)) (given : ℕ → Option (List ℕ)) (none : (place : ℕ) → given place ≡ None) where
  -- the nodes of gates drive fresh names
  gates_fresh : (count : ℕ) (gates : List CheckGate) (s : GateParts) → IsFreshAt number count s.parts → HasFresh number count (length gates) s.parts (with_gates word given gates s).parts
  gates_fresh count [] s at = record { added = []; adds = adds_none number count s.parts at; few = omega arith }
  gates_fresh count (gate.Word place ∷ gates) s at =
      let rest = gates_fresh count gates (record { parts = s.parts; names = s.names ++ text_at word place ∷ [] }) at in
      record { added = rest.added; adds = rest.adds; few = let f = rest.few in omega (arith, f) }
  gates_fresh count (g ∷ gates) s at =
      let next = with_gate word (given (length s.names)) g s in
      let one = one_gate number count (given (length s.names)) g s (none (length s.names)) at in
      more_gates number count (length gates) (given (length s.names)) g s (with_gates word given gates next).parts one (gates_fresh (count + 1) gates next one.fresh)

-- and so do those of a checker
pub checker_fresh : (number count : ℕ) (p : PartsOf) (word : List (List ℕ)) (made : GateList) → IsFreshAt number count p → HasFresh number count (length made.gates) p (with_checker p word made None).parts
unfolding with_checker
checker_fresh number count p word made at = gates_fresh number word (given_text p.names made None) (λ place. refl) count made.gates (record { parts = p; names = [] }) at
