-- The nodes of a checker, as they are written: one for each gate of the walk that isn't a place of the word, in the order of
-- the walk. The nets are those of the word's places, and from `next` on those of the nodes.
use Rattle.std.specs.Prelude.{ℕ, ◌+◌, List, [], ◌∷◌, ◌++◌, map, slice_index}
use Rattle.std.specs.List.{position_or_len}
use Rattle.fault_secure.specs.Circuit.{NodeOf, gate as node_over}
use Rattle.fault_secure.specs.CodePlan.{CodePlan}
use Rattle.code_checkers.specs.declared.gate.CheckGate.{CheckGate}
use Rattle.code_checkers.specs.declared.gate.CheckGate.TheVariants as gate
use Rattle.code_checkers.specs.Signal.{Signal}
use Rattle.code_checkers.specs.Signal.Signal.{Word, Buf, Not, And, Or, Xor}
use Rattle.code_checkers.specs.Checker.{rail1, rail2}
use Rattle.code_checkers.specs.Walk.{same_signal, walk}
use Rattle.code_checkers.specs.Nodes.{cover_of, reads_of}

-- where a signal stands in a list
abbrev pub place_of : List Signal → Signal → ℕ
place_of signals s = position_or_len (same_signal s) signals

-- the gate of a signal, over the places of its operands
abbrev pub gate_of : List Signal → Signal → CheckGate
gate_of signals (Word place) = gate.Word place
gate_of signals (Buf a) = gate.Buf (place_of signals a)
gate_of signals (Not a) = gate.Not (place_of signals a)
gate_of signals (And a b) = gate.And (place_of signals a) (place_of signals b)
gate_of signals (Or a b) = gate.Or (place_of signals a) (place_of signals b)
gate_of signals (Xor a b) = gate.Xor (place_of signals a) (place_of signals b)

-- the gates of signals, over the places of their operands among them
abbrev pub gates_of : List Signal → List CheckGate
gates_of signals = map (gate_of signals) signals

-- the signals of a plan's checker, in the order of the walk, and their gates
unfoldable pub checker_signals : CodePlan → List Signal
checker_signals P = walk (rail2 P) (walk (rail1 P) [])

-- the gates of a plan's checker, in the order of the walk
abbrev pub checker_gates : CodePlan → List CheckGate
checker_gates P = gates_of (checker_signals P)

-- the net of a gate: that of its place of the word, or else the next net
abbrev pub gate_net : List ℕ → ℕ → CheckGate → ℕ
gate_net word next (gate.Word place) = slice_index word place
gate_net word next _ = next

-- the next net after a gate
abbrev pub net_behind : ℕ → CheckGate → ℕ
net_behind next (gate.Word place) = next
net_behind next _ = next + 1

-- the net of each gate
abbrev pub gate_nets : List ℕ → ℕ → List CheckGate → List ℕ
gate_nets word next [] = []
gate_nets word next (g ∷ gates) = gate_net word next g ∷ gate_nets word (net_behind next g) gates

-- the node of a gate over the nets of the places that it reads; none for a place of the word
abbrev pub gate_node : List ℕ → CheckGate → List NodeOf
gate_node nets (gate.Word place) = []
gate_node nets g = node_over (cover_of g) (map (slice_index nets) (reads_of g)) ∷ []

-- the nodes of the gates
abbrev pub gate_nodes : List ℕ → List CheckGate → List NodeOf
gate_nodes nets [] = []
gate_nodes nets (g ∷ gates) = gate_node nets g ++ gate_nodes nets gates

-- the nets and the nodes of a plan's checker
abbrev pub checker_nets : CodePlan → List ℕ → ℕ → List ℕ
checker_nets P word next = gate_nets word next (checker_gates P)

-- the nodes of a plan's checker
abbrev pub checker_nodes : CodePlan → List ℕ → ℕ → List NodeOf
checker_nodes P word next = gate_nodes (checker_nets P word next) (checker_gates P)

-- the nets of its two rails
abbrev pub rail1_net : CodePlan → List ℕ → ℕ → ℕ
rail1_net P word next = slice_index (checker_nets P word next) (place_of (checker_signals P) (rail1 P))

-- the net of the second rail
abbrev pub rail2_net : CodePlan → List ℕ → ℕ → ℕ
rail2_net P word next = slice_index (checker_nets P word next) (place_of (checker_signals P) (rail2 P))
