-- Cones are closed: what drives a pin of a node of a cone is of the cone.
use Rattle.std.proofs.Common.{◌≡◌, ℕ, ◌<◌, length}
use Rattle.fault_secure.specs.Circuit.{Circuit, node, node_net, pin_net}
use Rattle.fault_secure.specs.Depends.{Depends}
use Rattle.fault_secure.specs.Depends.Depends.{itself, through}

-- what depends on a node depends on the driver of each of its pins
pub feeds : (N : Circuit) (j q pin net : ℕ) → j < length N.nodes → pin_net N q pin ≡ node_net N j → pin < length (node N q).reads → Depends N q net → Depends N j net
feeds N j q pin net there is has (itself _ q_there drives) = through net q pin q_there drives has (itself (pin_net N q pin) there is)
feeds N j q pin net there is has (through _ i p i_there drives p_has reads) =
    through net i p i_there drives p_has (feeds N j q pin (pin_net N i p) there is has reads)

-- a net depends on nodes of the circuit alone
pub depends_there : (C : Circuit) (q net : ℕ) → Depends C q net → q < length C.nodes
depends_there C q _ (itself net there drives) = there
depends_there C q _ (through net j pin there drives has reads) = depends_there C q (pin_net C j pin) reads
