-- What nodes make of the bits that nets have in a lane.
use Rattle.std.specs.Prelude.{◌≡◌, ℕ, ◌<◌, Bool, List, length, map}
use Rattle.tsc_cover.specs.Cover.{truth}
use Rattle.fault_secure.specs.Circuit.{Circuit, node, node_net, bit}
use Rattle.fault_secure.specs.StuckAt.{StuckAt, on_stem}
use Rattle.fault_secure.specs.Settle.{node_value}
use Rattle.lane_rows.specs.Alive.{source_count}
use Rattle.lane_sim.specs.Points.{source_bit}
use Rattle.lane_sim.specs.Along.{read_bits}

-- the bits in a lane of the rows of these numbers, sixteen words each
abbrev pub bits_at : List ℕ → List ℕ → ℕ → List Bool
bits_at words rows lane = map (λ row. source_bit words row lane) rows

-- the truth of the cover of node j where nets have these bits and a fault may be at its pins
abbrev pub made_bit : Circuit → StuckAt → (ℕ → Bool) → ℕ → Bool
made_bit N f bits j = truth (node N j).cover (read_bits f bits (node_net N j) 0 (node N j).reads)

-- inputs and latch outputs have in a lane what they have in a valuation
abbrev pub HasSources : Circuit → List ℕ → ℕ → List Bool → Type 0
HasSources N words lane v = (net : ℕ) → net < source_count N → source_bit words net lane ≡ bit v net

-- each node settles in a valuation
abbrev pub NodesSettle : Circuit → StuckAt → List Bool → Type 0
NodesSettle N f v = (j : ℕ) → j < length N.nodes → bit v (node_net N j) ≡ on_stem f (node_net N j) (node_value N f v j)
