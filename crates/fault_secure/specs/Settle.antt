-- Settled valuations: what the nets of a circuit have in one step, every net at once, in no order.
use Rattle.std.specs.Prelude.{◌≡◌, ℕ, suc, ◌<◌, Bool, List, [], ◌∷◌, length}
use Rattle.tsc_cover.specs.Cover.{truth}
use Rattle.fault_secure.specs.Circuit.{Circuit, node, latch_net, node_net, pin_net, nets, bit}
use Rattle.fault_secure.specs.StuckAt.{StuckAt, on_stem, on_pin}

-- the bits that the pins of a node read, from pin number `pin` on
abbrev pub read_values : StuckAt → List Bool → ℕ → ℕ → List ℕ → List Bool
read_values f v driver pin [] = []
read_values f v driver pin (net ∷ reads) =
    on_pin f driver pin (bit v net) ∷ read_values f v driver (suc pin) reads

-- the truth of the cover of node j on the bits that its pins read
abbrev pub node_value : Circuit → StuckAt → List Bool → ℕ → Bool
node_value N f v j = truth (node N j).cover (read_values f v (node_net N j) 0 (node N j).reads)

-- the valuation v settles under the fault f with the input bits x and the state bits s
pub record Settles (N : Circuit) (f : StuckAt) (x s : ℕ → Bool) (v : List Bool) : Type 0 where
  pub sized : length v ≡ nets N
  pub inputs : (i : ℕ) → i < N.inputs → bit v i ≡ on_stem f i (x i)
  pub latches : (l : ℕ) → l < length N.latches → bit v (latch_net N l) ≡ on_stem f (latch_net N l) (s l)
  pub nodes : (j : ℕ) → j < length N.nodes → bit v (node_net N j) ≡ on_stem f (node_net N j) (node_value N f v j)

-- each node's net has a rank above those of the nets at its pins
pub record Ranks (N : Circuit) (rank : ℕ → ℕ) : Type 0 where
  pub above : (j pin : ℕ) → j < length N.nodes → pin < length (node N j).reads → rank (pin_net N j pin) < rank (node_net N j)

-- no node reads its own net, directly or through others
pub record Acyclic (N : Circuit) : Type 0 where
  pub rank : ℕ → ℕ
  pub ranks : Ranks N rank
