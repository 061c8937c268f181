-- What a failing node can reach: the statement of the law.
use Rattle.std.specs.Prelude.{◌≡◌, ℕ, Bool, List}
use Rattle.fault_secure.specs.Circuit.{Circuit, node_net, bit}
use Rattle.fault_secure.specs.Settle.{Acyclic}
use Rattle.fault_secure.specs.Depends.{Depends}
use Rattle.fault_secure.specs.FailingCell.{SettlesBut}

-- outside the cone nothing changes: two valuations that settle at every net except that of node q, with the same input and state bits,
-- agree at every net that doesn't depend on q
abbrev pub OutsideConeUnchanged : Type 0
OutsideConeUnchanged =
    (N : Circuit) (q : ℕ) (x s : ℕ → Bool) (v u : List Bool)
    → Acyclic N → SettlesBut N (node_net N q) x s v → SettlesBut N (node_net N q) x s u
    → (net : ℕ) → (Depends N q net → ⊥) → bit v net ≡ bit u net
