-- Bits that are put at nets, and nodes that are set one after another.
use Rattle.std.specs.Prelude.{ℕ, Bool, List, [], ◌∷◌, slice_set}
use Rattle.fault_secure.specs.Circuit.{Circuit, node_net}
use Rattle.fault_secure.specs.StuckAt.{NoFault}
use Rattle.fault_secure.specs.Settle.{node_value}

-- the bits with those of some nets put
abbrev pub with_bits : List Bool → List ℕ → List Bool → List Bool
with_bits v [] bits = v
with_bits v (net ∷ nets) [] = v
with_bits v (net ∷ nets) (b ∷ bits) = with_bits (slice_set v net b) nets bits

-- the bits with the nets of nodes set, one after another
abbrev pub settled : Circuit → List ℕ → List Bool → List Bool
settled N [] v = v
settled N (place ∷ places) v = settled N places (slice_set v (node_net N place) (node_value N NoFault v place))
