-- The nodes that a checker adds: at most one for each gate, by the covers of gates; and at most as many names come.
use Rattle.std.proofs.Common.{◌≡◌, ℕ, ◌+◌, ◌≤◌, List, [], ◌∷◌, ◌++◌, length, All, Option, None, Some, Contains, sym, ◌∙◌, ap, subst, arith, length-append}
use Rattle.std.proofs.lemmas.List.Elements.{All-push}
use Rattle.tsc_net.specs.Named.{Named}
use Rattle.tsc_net.specs.Names.{text_at}
use Rattle.tsc_net.specs.Parts.{PartsOf, next_fresh}
use Rattle.gate_net.specs.Added.{gate_covers, HasGateCover}
use Rattle.gate_net.specs.declared.gate.Gate.TheVariants as line
use Rattle.gate_net.specs.declared.line.Line.{Line}
use Rattle.gate_net.proofs.GateCovers.{gate_cover_is, buf_cover_is}
use Rattle.code_checkers.specs.declared.gate.CheckGate.{CheckGate}
use Rattle.code_checkers.specs.declared.gate.CheckGate.TheVariants as gate
use Rattle.code_checkers.specs.GateList.{GateList}
use Rattle.code_checkers.specs.Nodes.{cover_of}
use Rattle.net_writing.specs.CheckerParts.{GateParts, with_gate, with_gate_node, with_gates, with_checker, given_text}
use Rattle.net_writing.specs.declared.checker_writing.RailNames.{RailNames}
use Rattle.net_writing.proofs.CheckerShape.{node_of_gate, node_named, fresh_names, given_names}

-- some line
abbrev some_line : Line
some_line = record { number = 0 }

-- the cover of a gate of a checker is that of a gate
gate_has : (g : CheckGate) → Contains gate_covers (cover_of g)
gate_has (gate.Word place) = gate_cover_is line.Zero
gate_has (gate.Buf a) = buf_cover_is
gate_has (gate.Not a) = gate_cover_is (line.Not some_line)
gate_has (gate.And a b) = gate_cover_is (line.And some_line some_line)
gate_has (gate.Or a b) = gate_cover_is (line.Or some_line some_line)
gate_has (gate.Xor a b) = gate_cover_is (line.Xor some_line some_line)

-- one gate more
node_covers : (given : Option (List ℕ)) (g : CheckGate) (s : GateParts) → All HasGateCover s.parts.named.nodes → All HasGateCover (with_gate_node given g s).parts.named.nodes
node_covers given g s all =
    subst (λ (N : Named). All HasGateCover N.nodes) (sym (node_named given g s)) (All-push HasGateCover s.parts.named.nodes (node_of_gate given g s) all (gate_has g))

-- is one node more
node_more : (given : Option (List ℕ)) (g : CheckGate) (s : GateParts) → length (with_gate_node given g s).parts.named.nodes ≡ length s.parts.named.nodes + 1
node_more given g s = ap (λ (N : Named). length N.nodes) (node_named given g s) ∙ length-append s.parts.named.nodes (node_of_gate given g s ∷ [])

-- and at most one name more
names_more : (given : Option (List ℕ)) (g : CheckGate) (s : GateParts) → length (with_gate_node given g s).parts.names ≤ length s.parts.names + 1
names_more None g s = let e = ap length (fresh_names g s) ∙ length-append s.parts.names (next_fresh s.parts ∷ []) in omega (arith, e)
names_more (Some text) g s = let e = ap length (given_names text g s) in omega (arith, e)

-- some gates more
gates_covers : (word : List (List ℕ)) (given : ℕ → Option (List ℕ)) (gates : List CheckGate) (s : GateParts) → All HasGateCover s.parts.named.nodes → All HasGateCover (with_gates word given gates s).parts.named.nodes
gates_covers word given [] s all = all
gates_covers word given (gate.Word place ∷ gates) s all = gates_covers word given gates (record { parts = s.parts; names = s.names ++ text_at word place ∷ [] }) all
gates_covers word given (g ∷ gates) s all = gates_covers word given gates (with_gate word (given (length s.names)) g s) (node_covers (given (length s.names)) g s all)

-- are at most so many nodes more
gates_counted : (word : List (List ℕ)) (given : ℕ → Option (List ℕ)) (gates : List CheckGate) (s : GateParts) → length (with_gates word given gates s).parts.named.nodes ≤ length s.parts.named.nodes + length gates
gates_counted word given [] s = omega arith
gates_counted word given (gate.Word place ∷ gates) s = let rest = gates_counted word given gates (record { parts = s.parts; names = s.names ++ text_at word place ∷ [] }) in omega (arith, rest)
gates_counted word given (g ∷ gates) s =
    let rest = gates_counted word given gates (with_gate word (given (length s.names)) g s) in
    let one = node_more (given (length s.names)) g s in
    omega (arith, rest, one)

-- and at most so many names
gates_named : (word : List (List ℕ)) (given : ℕ → Option (List ℕ)) (gates : List CheckGate) (s : GateParts) → length (with_gates word given gates s).parts.names ≤ length s.parts.names + length gates
gates_named word given [] s = omega arith
gates_named word given (gate.Word place ∷ gates) s = let rest = gates_named word given gates (record { parts = s.parts; names = s.names ++ text_at word place ∷ [] }) in omega (arith, rest)
gates_named word given (g ∷ gates) s =
    let rest = gates_named word given gates (with_gate word (given (length s.names)) g s) in
    let one = names_more (given (length s.names)) g s in
    omega (arith, rest, one)

-- a checker more
pub checker_covers : (p : PartsOf) (word : List (List ℕ)) (made : GateList) (rails : Option RailNames) → All HasGateCover p.named.nodes → All HasGateCover (with_checker p word made rails).parts.named.nodes
unfolding with_checker
checker_covers p word made rails all = gates_covers word (given_text p.names made rails) made.gates (record { parts = p; names = [] }) all

-- its nodes
pub checker_count : (p : PartsOf) (word : List (List ℕ)) (made : GateList) (rails : Option RailNames) → length (with_checker p word made rails).parts.named.nodes ≤ length p.named.nodes + length made.gates
unfolding with_checker
checker_count p word made rails = gates_counted word (given_text p.names made rails) made.gates (record { parts = p; names = [] })

-- and its names
pub checker_names : (p : PartsOf) (word : List (List ℕ)) (made : GateList) (rails : Option RailNames) → length (with_checker p word made rails).parts.names ≤ length p.names + length made.gates
unfolding with_checker
checker_names p word made rails = gates_named word (given_text p.names made rails) made.gates (record { parts = p; names = [] })
