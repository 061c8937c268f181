-- What is seen of nodes whose pins stand in one list.
use Rattle.std.specs.Prelude.{List, map, length, All}
use Rattle.tsc_cover.specs.Cover.{CoverTable}
use Rattle.fault_secure.specs.Circuit.{NodeOf}
use Rattle.tsc_net.specs.PlanView.{net_numbers}
use Rattle.tsc_net.specs.inner.Spans.{piece, IsSpan}
use Rattle.tsc_net.specs.declared.ids.NetId.{NetId}
use Rattle.tsc_net.specs.declared.node_list.Node.{Node}
use Rattle.tsc_net.specs.declared.node_list.NodeList.TheInside.{Inside}

-- the node with these nets at its pins
abbrev pub node_over : List NetId → CoverTable → NodeOf
node_over reads cover = record { reads = net_numbers reads; cover = cover }

-- a node, with its pins among all
abbrev pub node_in : List NetId → Node → NodeOf
node_in pins n = node_over (piece pins n.pins) n.cover

abbrev pub nodes_in : Inside → List NodeOf
nodes_in list = map (node_in list.pins.items) list.nodes.items

-- the pins of each node stand within the list
abbrev pub AreWithin : Inside → Type 0
AreWithin list = All (λ n. IsSpan (length list.pins.items) n.pins) list.nodes.items
