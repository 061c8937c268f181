-- The lines of a netlist, latch by latch, node by node and group by group, as the code comes to them.
use Rattle.std.specs.Prelude.{ℕ, ◌<◌, List, length, All}
use Rattle.tsc_bits.specs.Bits.{bits_of}
use Rattle.fault_secure.specs.Circuit.{Circuit, node, latch, node_net, latch_net, nets}
use Rattle.tsc_net.specs.Named.{NamedLatch, NamedNode}
use Rattle.tsc_net.specs.Names.{text_at}
use Rattle.tsc_net.specs.NetlistOf.{NetlistOf, names_of}
use Rattle.tsc_net.specs.declared.plan.Group.{Group}
use Rattle.tsc_text.specs.Written.{WrittenLine}
use Rattle.blif_write.specs.Layout.{group_line, state_line}
use Rattle.blif_write.specs.NamedPlan.{named_group}

-- each net of a list is one of the circuit
abbrev pub AreNets : Circuit → List ℕ → Type 0
AreNets C list = All (λ net. net < nets C) list

-- the places of a group are places of outputs, and its check is a net of the circuit
pub record FitsGroup (C : Circuit) (group : Group) : Type 0 where
  pub places : All (λ place. place < length C.outputs) group.places
  pub check : group.check.number < nets C

-- the latch at a place by names
abbrev pub named_latch : NetlistOf → ℕ → NamedLatch
named_latch net l =
    let C = net.circuit in
    record { reads = text_at net.names (latch C l).reads; out = text_at net.names (latch_net C l); init = (latch C l).init }

-- the node at a place by names
abbrev pub named_node : NetlistOf → ℕ → NamedNode
named_node net j =
    let C = net.circuit in
    record { reads = names_of net.names (node C j).reads; out = text_at net.names (node_net C j); cover = (node C j).cover }

-- the line of a group
abbrev pub line_of_group : NetlistOf → Group → WrittenLine
line_of_group net group = group_line (named_group net group.places group.check.number)

-- the line of a state word of that many bits
abbrev pub line_of_state : ℕ → ℕ → WrittenLine
line_of_state width word = state_line (bits_of width word)
