-- Two netlists, where each net of the first is said to have gone somewhere in the second.
use Rattle.std.specs.Prelude.{◌≡◌, ℕ, ◌<◌, List, length, map, All}
use Rattle.fault_secure.specs.Circuit.{Circuit, nets}
use Rattle.mapping_laws.specs.Mapping.{moved_latch}
use Rattle.tsc_net.specs.Order.{fan_ins, evaluation_order}
use Rattle.mapping_reading.specs.ReadMapping.{first_net, IsReadMapping}
use Rattle.mapping_reading.specs.Pins.{at_of}
use Rattle.mapping_reading.specs.Leads.{GoApart}

-- the inputs, latches and outputs are the same, where nets went by the table; and the nets of nodes went to those of gates, each its own
pub record HaveMoved (N G : Circuit) (moved : List ℕ) : Type 0 where
  pub sized : length moved ≡ nets N
  pub within : All (λ net. net < nets G) moved
  pub inputs : G.inputs ≡ N.inputs
  pub latches : G.latches ≡ map (moved_latch (at_of G moved)) N.latches
  pub outputs : G.outputs ≡ map (at_of G moved) N.outputs
  pub sources : (net : ℕ) → net < first_net N → at_of G moved net ≡ net
  pub apart : GoApart N G (at_of G moved)

-- the second reads as the first mapped, by some blocks
abbrev pub ReadsAsMapped : Circuit → Circuit → List ℕ → Type 0
ReadsAsMapped N G moved = (block : ℕ → ℕ) × IsReadMapping N G (at_of G moved) block (evaluation_order (fan_ins G))
