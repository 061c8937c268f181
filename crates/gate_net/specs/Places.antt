-- How an equal gate is found.
use Rattle.std.specs.Prelude.{◌≡◌, ℕ, ◌↔◌, List, Some, slice_get}
use Rattle.std.specs.HashMap.{HashMap, get}
use Rattle.gate_net.specs.declared.gate.Gate.{Gate}
use Rattle.gate_net.specs.Gates.{same_gate}

-- a gate stands at a place exactly where the map has that place for it
abbrev pub ArePlaces : {S : Type 0} → List Gate → HashMap Gate ℕ S → Type 0
ArePlaces gates places = (g : Gate) (place : ℕ) → (slice_get gates place ≡ Some g) ↔ (get same_gate places g ≡ Some place)
