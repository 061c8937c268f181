-- What a cell can't change has with its stem held what it has without a fault.
use Rattle.std.proofs.Common.{◌≡◌, ℕ, Bool, List, refl, sym, subst}
use Rattle.fault_secure.specs.Circuit.{Circuit, node_net, bit}
use Rattle.fault_secure.specs.StuckAt.{NoFault, Stem}
use Rattle.fault_secure.specs.Settle.{Settles, Acyclic}
use Rattle.fault_secure.specs.FailingCell.{IsCell, SettlesBut}
use Rattle.structure_laws.proofs.FailingCell.{working, listed_faults_settle_but}
use Rattle.structure_laws.proofs.Outside.{outside_cone_unchanged}
use Rattle.point_laws.proofs.Steps.{stem_listed}
use Rattle.unheard_cells.specs.Spans.{IsNodeApart}

pub apart_unchanged : (N : Circuit) (x s : ℕ → Bool) (cell net : ℕ) (held : Bool) (v u : List Bool) → Acyclic N → IsCell N cell → IsNodeApart N cell net
    → Settles N NoFault x s v → Settles N (Stem cell held) x s u → bit u net ≡ bit v net
apart_unchanged N x s cell net held v u acyclic is node first second = outside_cone_unchanged N node.node x s u v acyclic wrong right net node.apart
  where
    right : SettlesBut N (node_net N node.node) x s v
    right = working N (node_net N node.node) x s v first

    wrong : SettlesBut N (node_net N node.node) x s u
    wrong = subst (λ (n : ℕ). SettlesBut N n x s u) (sym node.drives) (listed_faults_settle_but N (Stem cell held) x s s u (stem_listed N cell held is) (λ l below off. refl) second).1
